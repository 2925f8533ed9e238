use Rattle.std.proofs.Common.{◌≡◌, ℕ, ◌+◌, ◌*◌, ◌<◌, ◌≤◌, List, length, get_or, ap, sym, ◌∙◌, arith, sum_by, drop}
use Rattle.std.specs.List.{zip}
use Rattle.std.proofs.Math.Nat.{mul-le-mul}
use Rattle.std.proofs.lemmas.List.{get_or_default, get_or-drop, take_all}
use Rattle.std.proofs.lemmas.Slice.Zip.{length-zip}
use Rattle.wasp_fixed.proofs.Lists.{zip_more}
use Rattle.cost_terms.specs.Cost.{projects_mw}
use Rattle.cost_terms.specs.declared.prices.GroupCost.{GroupCost}
use Rattle.cost_terms.proofs.Steps.{groups_long, no_group}
use Rattle.cost_terms.proofs.running.groups_fixed.Goals as goal

pub loop-k-preserved : goal.loop-k-preserved
loop-k-preserved c =
    let costs = c.args.costs.now in
    let counts = c.args.config.now in
    let k = c.loop-k.k in
    let own = drop (length costs.thermal) counts in
    let f : GroupCost × ℕ → ℕ = λ e. projects_mw e.0 e.1 * e.0.fixed in
    let l : k < length costs.groups = omega (arith, c.loop-k-test.true, ap length c.as_slice-groups.ensures) in
    let g : c.index-groups-k.result ≡ get_or costs.groups k no_group =
    c.index-groups-k.is ∙ (get_or_default c.as_slice-groups.result.now k c.index-groups-k.result no_group c.loop-k-test.true ∙ ap (λ (gs : List GroupCost). get_or gs k no_group) c.as_slice-groups.ensures) in
    let n : c.get.result ≡ get_or own k 0 = c.get.ensures.value ∙ (ap (λ m. get_or counts (m + k) 0) (ap length c.as_slice-first.ensures) ∙ sym (get_or-drop (length costs.thermal) counts k 0)) in
    let e : c.projects_mw.result * c.index-groups-k.result.fixed ≡ f (get_or costs.groups k no_group, get_or own k 0) =
    ap (λ m. m * c.index-groups-k.result.fixed) c.projects_mw.ensures.value ∙ λ i. f (g i, n i) in
    let fixed : c.index-groups-k.result.fixed ≤ 10000 = rw g (c.requires.costs.groups.1 k no_group l).fixed in
    let most : c.projects_mw.result * c.index-groups-k.result.fixed ≤ 600000 * 10000 = mul-le-mul c.projects_mw.ensures.small fixed in
    record {
      value = omega (arith, c.loop-k.invariant.value, e, zip_more f costs.groups own k no_group (omega (arith, groups_long costs counts c.requires.fits)) l);
      small = omega (arith, c.loop-k.invariant.small, most);
    }

pub returns-clause-value : goal.returns-clause-value
returns-clause-value c =
    let costs = c.args.costs.now in
    let own = drop (length costs.thermal) c.args.config.now in
    let z = zip costs.groups own in
    c.loop-k.invariant.value ∙ ap (sum_by (λ (e : GroupCost × ℕ). projects_mw e.0 e.1 * e.0.fixed)) (take_all c.loop-k.k z (omega (arith, length-zip costs.groups own, c.loop-k-test.false, ap length c.as_slice-groups.ensures)))
