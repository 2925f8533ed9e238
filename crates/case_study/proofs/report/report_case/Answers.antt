use Rattle.std.proofs.Common.{◌≡◌, ◌∙◌, ◌≤◌, ap, subst, List, arith}
use Rattle.cost_terms.specs.Table.{Table}
use Rattle.checked_deck.specs.Economy.{costs}
use Rattle.deck_check.specs.Readings as says
use Rattle.deck_lines.specs.Deck.{body_of}
use Rattle.deck_lines.specs.declared.statement.Statement.{Statement}
use Rattle.case_study.proofs.ReportSteps.{report_in_form, report_is}
use Rattle.case_study.proofs.YearSteps.{number_within, year_system_is}
use Rattle.case_study.proofs.report.report_case.Goals as goal

pub system-requires : goal.system-requires
system-requires g c =
    let s = c.args.study.now in
    let low : 1 ≤ says.years (body_of c.typed.result.now) = omega (arith, c.years-years.ensures.value, c.years-years.ensures.low) in
    let some : 1 ≤ says.years (body_of s.deck) = subst (λ (deck : List Statement). 1 ≤ says.years (body_of deck)) c.typed.ensures.value low in
    record { within = number_within (body_of s.deck) c.args.shelf.now.book s.ids c.ids.result.now 0 c.requires.on.numbers (omega (arith, some)) c.ids.ensures.value }

pub returns-clause-report : goal.returns-clause-report
returns-clause-report g c =
    let s = c.args.study.now in
    let d = body_of s.deck in
    let low : 1 ≤ says.years (body_of c.typed.result.now) = omega (arith, c.years-years.ensures.value, c.years-years.ensures.low) in
    let some : 1 ≤ says.years d = subst (λ (deck : List Statement). 1 ≤ says.years (body_of deck)) c.typed.ensures.value low in
    let year = year_system_is d c.args.shelf.now.book s.ids c.ids.result.now 0 c.system.result.now c.requires.on.numbers (omega (arith, some)) c.ids.ensures.value c.system.ensures.value in
    let economy : c.economy.result.now ≡ costs d = c.economy.ensures.value ∙ ap (λ (t : Table). t.economy) c.into_parts-table.ensures.table ∙ c.requires.table.economy in
    report_is d s.case s.tunnels c.args.done.table c.into_parts-table.result.0 c.args.done.solved c.into_parts-table.result.1 c.in_ok-years.years c.greatest_of-greatest.result c.conditions_of-conditions.result
    c.into_parts-table.ensures.table c.into_parts-table.ensures.solved c.requires.table c.requires.solution
    (c.greatest_of-greatest.ensures ∙ year.width)
    (c.conditions_of-conditions.ensures.value d economy)
    c.in_ok-years.ensures.plan c.in_ok-years.ensures.years

pub returns-clause-in_form : goal.returns-clause-in_form
returns-clause-in_form g c =
    report_in_form (body_of c.args.study.now.deck) c.args.study.now.case c.args.study.now.tunnels _ (returns-clause-report g c) c.conditions_of-conditions.ensures.few c.in_ok-years.ensures.widths
