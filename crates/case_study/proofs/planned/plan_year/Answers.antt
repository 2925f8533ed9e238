use Rattle.std.proofs.Common.{◌≤◌, subst, List, arith}
use Rattle.deck_check.specs.Readings.{greatest, years}
use Rattle.deck_lines.specs.Deck.{body_of}
use Rattle.deck_lines.specs.declared.statement.Statement.{Statement}
use Rattle.case_study.proofs.PrintSteps.{year_printable}
use Rattle.case_study.proofs.YearSteps.{entry_fits}
use Rattle.case_study.proofs.planned.plan_year.Goals as goal

pub overflow_add-year : goal.overflow_add-year
overflow_add-year g c =
    let high : years (body_of c.typed.result.now) ≤ 30 = omega (arith, c.years-years.ensures.value, c.years-years.ensures.high) in
    let few : years (body_of c.args.study.now.deck) ≤ 30 = subst (λ (deck : List Statement). years (body_of deck) ≤ 30) c.typed.ensures.value high in
    omega (arith, c.requires.place, few)

pub year_generations-requires-clause-fits : goal.year_generations-requires-clause-fits
year_generations-requires-clause-fits g c κs w =
    entry_fits c.args.step.economy.now _ (greatest (body_of c.args.study.now.deck)) c.args.step.chosen.now.config
    c.requires.width (c.requires.on.numbers.width c.args.place c.requires.place) c.requires.entry.fits

pub returns-clause-printable : goal.returns-clause-printable
returns-clause-printable g c =
    year_printable _ c.build_cost.ensures.regained c.build_cost.ensures.small c.run_cost.ensures.small c.requires.entry.row c.in_ok-year_generations.ensures.printable
