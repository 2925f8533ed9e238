use Rattle.std.proofs.Common.{◌∙◌, ap, ◌++◌}
use Rattle.std.proofs.lemmas.Result.{on_ok_weaker}
use Rattle.plan_program.specs.declared.solved.Solved.{Solved}
use Rattle.report_text.specs.Trial.{trial_text}
use Rattle.wasp4.proofs.TrialDecks.{begun_solvable}
use Rattle.wasp4.proofs.TrialTexts.{begun_has_year, begun_said}
use Rattle.wasp4.proofs.trial.answer_trial.Goals as goal

pub solve_case-requires-clause-solvable : goal.solve_case-requires-clause-solvable
solve_case-requires-clause-solvable g c κs within =
    begun_solvable c.trials_have_no_fault.ensures c.trials_have_one_case.ensures c.listings_fit.ensures c.args.numbers c.args.session.now c.requires.numbers c.requires.session

pub write_trial-requires : goal.write_trial-requires
write_trial-requires g c =
    rw c.solved.ensures.value
    (begun_has_year c.trials_have_one_case.ensures c.args.numbers c.args.session.now c.in_ok-done.done.table c.in_ok-done.done.solved c.requires.numbers c.requires.session c.in_ok-done.ensures.table c.in_ok-done.ensures.solution)

pub returns : goal.returns
returns g c =
    let t = c.args.numbers in
    let first = c.in_ok-write_trial.ensures.appended ∙ ap (λ (s : Solved). c.args.text.now.items ++ trial_text t.seed t.years t.candidates s.outcome) c.solved.ensures.value in
    on_ok_weaker c.write_keys.result
    (λ closed. begun_said {X = g.row.E.Denot} t c.args.session.now c.in_ok-done.done.table c.in_ok-done.done.solved c.solve_case.new.self.memory g.E.SimEngine.work c.args.engines.now c.solve_case.new.engines
    c.args.text.now.items c.write_trial.new.text.items c.write_keys.new.text.items c.keys.result c.requires.session c.in_ok-done.ensures.table c.in_ok-done.ensures.solution c.in_ok-done.ensures.within c.in_ok-done.ensures.learns
    c.requires.clear first c.keys.ensures.value closed)
    c.write_keys.ensures.appended
