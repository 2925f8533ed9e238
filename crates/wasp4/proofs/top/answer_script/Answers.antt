use Rattle.std.proofs.Common.{refl}
use Rattle.wasp4.specs.Going.{effort_by}
use Rattle.wasp4.proofs.Counts.{answers_on}
use Rattle.wasp4.proofs.top.answer_script.Goals as goal

pub returns-in-Ok-clause-answer : goal.returns-in-Ok-clause-answer
returns-in-Ok-clause-answer g c =
    let E = g.E.SimEngine in
    let read = rw c.start-clerk.ensures.session at c.in-Ok.ensures.answer in
    answers_on c.args.command _ _ _ _ c.args.tally.now c.add.new.self (effort_by E.work c.args.engines.now 0) (effort_by E.work c.read_script-read.new.engines c.read_script-read.new.clerk.session.memory.tally) c.in-Ok.status refl (rw c.into_tally.ensures at c.add.ensures) read
