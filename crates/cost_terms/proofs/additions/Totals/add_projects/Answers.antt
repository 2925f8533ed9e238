use Rattle.std.proofs.Common.{◌≡◌, ℕ, ◌+◌, ◌<◌, ◌≤◌, List, [], ◌∷◌, length, get_or, ap, sym, subst, arith}
use Rattle.cost_terms.specs.Totals.{Adds}
use Rattle.cost_terms.specs.declared.additions.Item.{Item}
use Rattle.cost_terms.specs.declared.prices.ProjectCost.{ProjectCost}
use Rattle.cost_terms.proofs.Steps.{adds_more, no_project, project_item, project_more}
use Rattle.cost_terms.proofs.additions.Totals.add_projects.Goals as goal

pub loop-j-preserved : goal.loop-j-preserved
loop-j-preserved c =
    let g = c.args.group.now in
    let j = c.loop-j.j in
    let h = c.args.horizon.now in
    let at : ℕ = g.existing + c.args.from + j in
    let l : at < length g.projects = omega (arith, c.loop-j-test.true, c.requires.most, c.requires.group.projects) in
    let p : get_or c.as_slice-projects.result.now at no_project ≡ get_or g.projects at no_project = ap (λ (ps : List ProjectCost). get_or ps at no_project) c.as_slice-projects.ensures in
    let one : Adds h c.loop-j.totals (project_item (get_or g.projects at no_project) ∷ []) c.add-totals.result =
    subst (λ (q : ProjectCost). Adds h c.loop-j.totals (project_item q ∷ []) c.add-totals.result) p c.add-totals.ensures.adds in
    let both = adds_more h c.args.self.now c.loop-j.totals c.add-totals.result _ _ c.loop-j.invariant.adds one in
    let capacity : (get_or c.as_slice-projects.result.now at no_project).capacity ≤ 20000 = rw p (c.requires.group.ranges at no_project l).capacity in
    record {
      adds = subst (λ (xs : List Item). Adds h c.args.self.now xs c.add-totals.result) (sym (project_more g c.args.from j l)) both;
      within = c.add-totals.ensures.within;
      mw = omega (arith, c.loop-j.invariant.mw, c.add-totals.ensures.mw, capacity);
    }
