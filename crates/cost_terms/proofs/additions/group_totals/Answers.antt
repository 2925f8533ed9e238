use Rattle.std.proofs.Common.{◌≡◌, ℕ, ◌+◌, ◌<◌, List, length, get_or, ap, sym, subst, ◌∙◌, arith, drop}
use Rattle.std.specs.List.{flat_map}
use Rattle.std.proofs.lemmas.List.{get_or_default, take_all}
use Rattle.cost_terms.specs.Cost.{added_projects, group_steps}
use Rattle.cost_terms.specs.Totals.{Adds}
use Rattle.cost_terms.specs.declared.additions.Item.{Item}
use Rattle.cost_terms.specs.declared.prices.GroupCost.{GroupCost}
use Rattle.cost_terms.proofs.Steps.{adds_more, group_more, groups_long, no_group, pairs_long}
use Rattle.cost_terms.proofs.additions.group_totals.Goals as goal

pub loop-k-preserved : goal.loop-k-preserved
loop-k-preserved c =
    let costs = c.args.costs.now in
    let before = c.args.before.now in
    let after = c.args.after.now in
    let k = c.loop-k.k in
    let h = c.args.horizon.now in
    let l : k < length costs.groups = omega (arith, c.loop-k-test.true, ap length c.as_slice-groups.ensures) in
    let g : c.index-groups-k.result ≡ get_or costs.groups k no_group =
    c.index-groups-k.is ∙ (get_or_default c.as_slice-groups.result.now k c.index-groups-k.result no_group c.loop-k-test.true ∙ ap (λ (gs : List GroupCost). get_or gs k no_group) c.as_slice-groups.ensures) in
    let first : length c.as_slice-first.result.now ≡ length costs.thermal = ap length c.as_slice-first.ensures in
    let from : c.get.result ≡ get_or before (length costs.thermal + k) 0 = c.get.ensures.value ∙ ap (λ n. get_or before (n + k) 0) first in
    let to : c.get-in-loop-k.result ≡ get_or after (length costs.thermal + k) 0 = c.get-in-loop-k.ensures.value ∙ ap (λ n. get_or after (n + k) 0) first in
    let one : Adds h c.loop-k.totals (added_projects (get_or costs.groups k no_group) (get_or before (length costs.thermal + k) 0) (get_or after (length costs.thermal + k) 0)) c.add_projects-totals.result =
    subst (λ (xs : List Item). Adds h c.loop-k.totals xs c.add_projects-totals.result) (λ i. added_projects (g i) (from i) (to i)) c.add_projects-totals.ensures.adds in
    let both = adds_more h c.args.thermal c.loop-k.totals c.add_projects-totals.result _ _ c.loop-k.invariant.adds one in
    record {
      adds = subst (λ (xs : List Item). Adds h c.args.thermal xs c.add_projects-totals.result) (sym (group_more costs before after k c.requires.before c.requires.after l)) both;
      within = c.add_projects-totals.ensures.within;
      mw = omega (arith, c.loop-k.invariant.mw, c.add_projects-totals.ensures.mw);
    }

pub returns-clause-adds : goal.returns-clause-adds
returns-clause-adds c =
    let costs = c.args.costs.now in
    let mb = drop (length costs.thermal) c.args.before.now in
    let ma = drop (length costs.thermal) c.args.after.now in
    let steps = group_steps costs c.args.before.now c.args.after.now in
    let n : length steps ≡ length costs.groups = pairs_long costs.groups mb ma (omega (arith, groups_long costs c.args.before.now c.requires.before)) (omega (arith, groups_long costs c.args.after.now c.requires.after)) in
    subst (λ (xs : List (GroupCost × (ℕ × ℕ))). Adds c.args.horizon.now c.args.thermal (flat_map (λ (s : GroupCost × (ℕ × ℕ)). added_projects s.0 s.1.0 s.1.1) xs) c.loop-k.totals)
    (take_all c.loop-k.k steps (omega (arith, n, c.loop-k-test.false, ap length c.as_slice-groups.ensures))) c.loop-k.invariant.adds
