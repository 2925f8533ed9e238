use Rattle.std.proofs.Common.{◌≡◌, ℕ, ◌+◌, ◌<◌, ◌≤◌, List, [], length, drop, get_or, ap, ◌∙◌, sym, subst, arith}
use Rattle.std.specs.List.{flat_map}
use Rattle.std.proofs.lemmas.List.{get_or_default, take_all}
use Rattle.cost_terms.specs.Cost.{added_projects, group_steps, nothing_built}
use Rattle.cost_terms.specs.StepTable.{IsProjectSum}
use Rattle.cost_terms.specs.Totals.{Adds, nothing}
use Rattle.cost_terms.specs.declared.additions.Item.{Item}
use Rattle.cost_terms.specs.declared.additions.Totals.{Totals}
use Rattle.cost_terms.specs.declared.prices.GroupCost.{GroupCost}
use Rattle.cost_terms.proofs.Steps.{adds_more, group_more, groups_long, no_group, pairs_long, width_is}
use Rattle.cost_terms.proofs.TableSteps.{adds_sum, nothing_at, nothing_fits, project_count}
use Rattle.cost_terms.proofs.tables.project_totals.Goals.{After-get}
use Rattle.cost_terms.proofs.tables.project_totals.Goals as goal

within : (c : After-get) → c.loop-k.k < length c.args.costs.now.groups
within c = omega (arith, c.loop-k-test.true, ap length c.as_slice-rows.ensures, c.requires.projects.groups)

row : (c : After-get) → c.as_slice.result.now ≡ get_or c.args.table.now.projects c.loop-k.k []
row c = c.as_slice.ensures ∙ (c.index-rows-k.is ∙ (get_or_default c.as_slice-rows.result.now c.loop-k.k c.index-rows-k.result [] c.loop-k-test.true ∙ ap (λ (rs : List (List Totals)). get_or rs c.loop-k.k []) c.as_slice-rows.ensures))

count : (c : After-get) → c.get.result ≡ get_or c.args.config.now (length c.args.costs.now.thermal + c.loop-k.k) 0
count c = c.get.ensures.value ∙ ap (λ n. get_or c.args.config.now (n + c.loop-k.k) 0) (ap length c.as_slice-first.ensures)

most : (c : After-get) → c.get.result ≤ (get_or c.args.costs.now.groups c.loop-k.k no_group).greatest
most c = omega (arith, count c, project_count c.args.costs.now c.args.config.now c.loop-k.k no_group c.requires.fits (within c))

entry : (c : After-get) → IsProjectSum c.args.table.now.horizon (get_or c.args.costs.now.groups c.loop-k.k no_group) c.get.result (get_or c.as_slice.result.now c.get.result nothing)
entry c = rw (row c) ((c.requires.projects.each c.loop-k.k no_group (within c)).each c.get.result (most c))

pub bounds-as_slice-get : goal.bounds-as_slice-get
bounds-as_slice-get c = omega (arith, ap length (row c), (c.requires.projects.each c.loop-k.k no_group (within c)).counts, most c)

pub plus-totals-requires-clause-others : goal.plus-totals-requires-clause-others
plus-totals-requires-clause-others c = (entry c).within

pub plus-totals-requires-clause-fewer : goal.plus-totals-requires-clause-fewer
plus-totals-requires-clause-fewer c = (entry c).mw

pub loop-k-preserved : goal.loop-k-preserved
loop-k-preserved c =
    let costs = c.args.costs.now in
    let before = nothing_built costs in
    let after = c.args.config.now in
    let k = c.loop-k.k in
    let h = c.args.table.now.horizon in
    let l = within c.before in
    let from : 0 ≡ get_or before (length costs.thermal + k) 0 = sym (nothing_at costs (length costs.thermal + k) (omega (arith, l, width_is costs))) in
    let sum = adds_sum h c.loop-k.totals (get_or c.as_slice.result.now c.get.result nothing) c.plus-totals.result (added_projects (get_or costs.groups k no_group) 0 c.get.result) (entry c.before).adds c.plus-totals.ensures.sums in
    let one : Adds h c.loop-k.totals (added_projects (get_or costs.groups k no_group) (get_or before (length costs.thermal + k) 0) (get_or after (length costs.thermal + k) 0)) c.plus-totals.result =
    subst (λ (xs : List Item). Adds h c.loop-k.totals xs c.plus-totals.result) (λ i. added_projects (get_or costs.groups k no_group) (from i) (count c.before i)) sum in
    let both = adds_more h c.args.thermal c.loop-k.totals c.plus-totals.result _ _ c.loop-k.invariant.adds one in
    record {
      adds = subst (λ (xs : List Item). Adds h c.args.thermal xs c.plus-totals.result) (sym (group_more costs before after k (nothing_fits costs) c.requires.fits l)) both;
      within = c.plus-totals.ensures.within;
      mw = omega (arith, c.loop-k.invariant.mw, c.plus-totals.ensures.mw, (entry c.before).mw);
    }

pub returns-clause-adds : goal.returns-clause-adds
returns-clause-adds c =
    let costs = c.args.costs.now in
    let before = nothing_built costs in
    let mb = drop (length costs.thermal) before in
    let ma = drop (length costs.thermal) c.args.config.now in
    let steps = group_steps costs before c.args.config.now in
    let n : length steps ≡ length costs.groups = pairs_long costs.groups mb ma (omega (arith, groups_long costs before (nothing_fits costs))) (omega (arith, groups_long costs c.args.config.now c.requires.fits)) in
    subst (λ (xs : List (GroupCost × (ℕ × ℕ))). Adds c.args.table.now.horizon c.args.thermal (flat_map (λ (s : GroupCost × (ℕ × ℕ)). added_projects s.0 s.1.0 s.1.1) xs) c.loop-k.totals)
    (take_all c.loop-k.k steps (omega (arith, n, c.loop-k-test.false, ap length c.as_slice-rows.ensures, c.requires.projects.groups))) c.loop-k.invariant.adds
