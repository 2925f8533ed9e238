use Rattle.std.proofs.Common.{refl}
use Rattle.wasp4.specs.Going.{effort_by}
use Rattle.wasp4.proofs.TrialTexts.{closes, cuts}
use Rattle.wasp4.proofs.trial.run_trial.Goals as goal

pub returns-in-Ok-put_all-clause-trial : goal.returns-in-Ok-put_all-clause-trial
returns-in-Ok-put_all-clause-trial g c =
    let E = g.E.SimEngine in
    closes c.args.numbers _ _ _ _ c.args.tally.now c.add.new.self (effort_by E.work c.args.engines.now 0) (effort_by E.work c.answer_trial-answered.new.engines c.answer_trial-answered.new.session.memory.tally) refl
    (rw c.into_tally.ensures at c.add.ensures) c.as_slice.ensures.value c.in-Ok-answered.ensures c.in-Ok-put_all.ensures.ok

pub returns-in-Ok-answered-clause-trial : goal.returns-in-Ok-answered-clause-trial
returns-in-Ok-answered-clause-trial g c =
    let E = g.E.SimEngine in
    cuts c.args.numbers _ _ _ _ c.args.tally.now c.add.new.self (effort_by E.work c.args.engines.now 0) (effort_by E.work c.answer_trial-answered.new.engines c.answer_trial-answered.new.session.memory.tally) refl
    (rw c.into_tally.ensures at c.add.ensures) c.as_slice.ensures.value c.in-Ok-answered.ensures c.in-Err-put_all.ensures.err
