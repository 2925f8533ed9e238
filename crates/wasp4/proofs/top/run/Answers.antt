use Rattle.std.proofs.Common.{◌≡◌, ◌∙◌, ◌++◌, refl, sym, subst, length, List, take, drop, arith}
use Rattle.wasp4.specs.Going.{effort_by}
use Rattle.wasp4.specs.Trial.{AnswersTrial, AnswersTrialBy}
use Rattle.wasp4.specs.declared.trial.TrialNumbers.{TrialNumbers}
use Rattle.wasp4.proofs.Running.{first_taken, length_taken, others_stay}
use Rattle.wasp4.proofs.TrialTexts.{never_short, same_numbers}
use Rattle.wasp4.proofs.top.run.Goals as goal

pub returns-in-Some-clause-trial : goal.returns-in-Some-clause-trial
returns-in-Some-clause-trial g c = λ t accepted.
    let E = g.E.SimEngine in
    let same : c.in-Some.numbers ≡ t = same_numbers c.args.words.now (length c.args.engines.now) c.trial.result c.in-Some.numbers t c.in-Some.is c.trial.ensures.value accepted in
    let es : List g.row.E.Denot = c.run_trial.new.engines in
    let rest : List g.row.E.Denot = drop 1 c.args.engines.now in
    subst (λ (n : TrialNumbers). AnswersTrialBy {X = g.row.E.Denot} n (g.K.Sink.written c.args.sink.now) (g.K.Sink.written c.run_trial.new.sink) E.work c.args.engines.now (es ++ rest) c.args.tally.now c.run_trial.new.tally c.run_trial.result) same
    (subst (λ (fs : List g.row.E.Denot). AnswersTrial c.in-Some.numbers (g.K.Sink.written c.args.sink.now) (g.K.Sink.written c.run_trial.new.sink) (effort_by E.work (take 1 c.args.engines.now) c.args.tally.now) (effort_by E.work fs c.run_trial.new.tally) c.run_trial.result)
    (sym (first_taken 1 es rest (c.run_trial.auto.engines ∙ length_taken 1 c.args.engines.now (omega (arith, c.if-engines-ge1.true))))) c.run_trial.ensures.trial)

pub returns-in-Some-clause-untouched : goal.returns-in-Some-clause-untouched
returns-in-Some-clause-untouched g c = λ t accepted. (refl, others_stay 1 c.run_trial.new.engines (drop 1 c.args.engines.now) (c.run_trial.auto.engines ∙ length_taken 1 c.args.engines.now (omega (arith, c.if-engines-ge1.true))))

pub returns-in-Some-clause-never_short : goal.returns-in-Some-clause-never_short
returns-in-Some-clause-never_short g c = λ t accepted has fault.
    let same : c.in-Some.numbers ≡ t = same_numbers c.args.words.now (length c.args.engines.now) c.trial.result c.in-Some.numbers t c.in-Some.is c.trial.ensures.value accepted in
    never_short t _ _ _ _ _ _ _ has (λ r told. g.met.K.Sink.within_room c.run_trial.new.sink r (c.run_trial.ensures.sure_room ∙ told)) (rw (fault, same) at c.run_trial.ensures.trial) (c.run_trial.ensures.write.rose fault)
