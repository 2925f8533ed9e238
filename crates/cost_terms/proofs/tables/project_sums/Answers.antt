use Rattle.std.proofs.Common.{◌∙◌, ◌+◌, ◌∷◌, [], arith, sym, subst, ⊎_elim}
use Rattle.std.proofs.Math.ListN.{get_or-append}
use Rattle.std.proofs.lemmas.Bool.{cases_eq}
use Rattle.std.proofs.lemmas.List.{get_or_push, length-append}
use Rattle.cost_terms.specs.Cost.{added_projects}
use Rattle.cost_terms.specs.StepTable.{IsProjectSum}
use Rattle.cost_terms.specs.Totals.{Adds, nothing}
use Rattle.cost_terms.specs.declared.additions.Totals.{Totals}
use Rattle.cost_terms.proofs.TableSteps.{project_next}
use Rattle.cost_terms.proofs.tables.project_sums.Goals as goal

pub loop-n-preserved : goal.loop-n-preserved
loop-n-preserved c =
    let h = c.args.horizon.now in
    let g = c.args.group.now in
    let n = c.loop-n.n in
    let old = c.loop-n.row.items in
    let new = c.add_projects-sums.result in
    let v = c.loop-n.invariant in
    let adds : Adds h nothing (added_projects g 0 (n + 1)) new = project_next h g n c.loop-n.sums new v.adds c.add_projects-sums.ensures.adds in
    let here : IsProjectSum h g (n + 1) new = record {
      adds = adds;
      within = c.add_projects-sums.ensures.within;
      mw = omega (arith, v.mw, c.add_projects-sums.ensures.each, c.loop-n-test.true, c.requires.group.greatest);
    } in
    rw c.in_ok-push-2.ensures.items (record {
      counts = omega (arith, length-append old (new ∷ []), v.counts);
      adds = adds;
      within = c.add_projects-sums.ensures.within;
      mw = omega (arith, v.mw, c.add_projects-sums.ensures.each);
      each = λ i b. ⊎_elim
          (λ same. subst (λ (t : Totals). IsProjectSum h g i t) (sym (get_or_push old new nothing i (v.counts ∙ sym same))) (subst (λ k. IsProjectSum h g k new) (sym same) here))
          (λ other. subst (λ (t : Totals). IsProjectSum h g i t) (sym (get_or-append old (new ∷ []) nothing i (omega (arith, b, v.counts, other)))) (v.each i (omega (arith, b, other))))
          (cases_eq i (n + 1));
    })
