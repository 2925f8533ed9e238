use Rattle.std.proofs.Common.{◌≡◌, ◌∙◌, ap, ◌++◌, ◌∷◌, [], get_or}
use Rattle.std.proofs.lemmas.List.{get_or_default}
use Rattle.cost_terms.specs.declared.entries.Scored.{Scored}
use Rattle.plan_program.specs.Plans.{entry_at, no_entry}
use Rattle.plan_program.proofs.Forward.{numbered_step}
use Rattle.plan_program.proofs.come.numbered.Goals as goal

pub loop-i-preserved : goal.loop-i-preserved
loop-i-preserved c =
    let n = c.loop-i.i in
    let at : get_or c.args.layer.now n c.index-layer-i.result ≡ entry_at c.args.layer.now n = get_or_default c.args.layer.now n c.index-layer-i.result no_entry c.loop-i-test.true in
    numbered_step c.args.layer.now c.args.come.now n c.loop-i.reached.items c.add_numbered.new.reached.items c.loop-i.invariant
    (λ cost e. c.in_ok-add_numbered.ensures.some cost e ∙ ap (λ (x : Scored). c.loop-i.reached.items ++ record { config = x.config; cost = cost } ∷ []) at)
    c.in_ok-add_numbered.ensures.none
