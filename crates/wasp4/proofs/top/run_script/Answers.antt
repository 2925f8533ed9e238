use Rattle.std.proofs.Common.{◌∙◌, ◌≤◌, ap, length, arith}
use Rattle.std.proofs.lemmas.Bool.{le-leb}
use Rattle.wasp4.specs.Out.{command_of, used}
use Rattle.wasp4.proofs.Faults.{never_short, same_asked}
use Rattle.wasp4.proofs.top.run_script.Goals as goal

pub returns-in-Some-clause-never_write_fault : goal.returns-in-Some-clause-never_write_fault
returns-in-Some-clause-never_write_fault g c = λ asked accepted has fault.
    let enough : used c.in-Some.asked ≤ length c.args.engines.now = omega (arith, c.if-engines.true, c.engines.ensures) in
    let same = same_asked c.args.words.now (length c.args.engines.now) _ _ _ c.in-Some.is c.asked.ensures.value (le-leb _ _ enough) accepted in
    never_short _ _ _ _ _ _ _ has (λ r told. g.met.K.Sink.within_room c.answer_script.new.sink r (c.answer_script.ensures.sure_room ∙ told)) (rw (fault, c.command.ensures ∙ ap command_of same) at c.answer_script.ensures.answer)
    (c.answer_script.ensures.write.rose fault)
