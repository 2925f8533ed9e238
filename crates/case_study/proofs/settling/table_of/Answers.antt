use Rattle.case_study.proofs.ResultSteps.{if_both}
use Rattle.case_study.proofs.SettleSteps.{on_economy, on_fit, on_held, on_limits, on_table}
use Rattle.case_study.proofs.settling.table_of.Goals as goal

pub table-requires-clause-fit : goal.table-requires-clause-fit
table-requires-clause-fit c =
    on_fit c.args.study.now c.args.shelf.now c.ids.result.now c.lists.result.now c.ids.ensures.valid c.requires.on c.ids.ensures.value c.lists.ensures.value

pub table-requires-clause-economy : goal.table-requires-clause-economy
table-requires-clause-economy c =
    on_economy c.args.study.now c.args.shelf.now c.typed-typed.result.now c.lists.result.now c.in_ok-economy.economy c.in_ok-limits.limits
    c.ids.ensures.valid c.requires.on c.lists.ensures.value c.typed-typed.ensures.value
    (on_limits c.args.study.now c.typed-typed.result.now c.case.result c.in_ok-limits.limits c.typed-typed.ensures.value c.case.ensures.value c.in_ok-limits.ensures)
    c.in_ok-economy.ensures.is_economy c.in_ok-economy.ensures.value c.in_ok-economy.ensures.width

pub table-requires-clause-filled : goal.table-requires-clause-filled
table-requires-clause-filled c =
    on_held c.args.study.now c.args.shelf.now c.ids.result.now c.lists.result.now c.ids.ensures.valid c.requires.on c.ids.ensures.value c.lists.ensures.value

pub returns-clause-table : goal.returns-clause-table
returns-clause-table c =
    if_both c.table.result _ _ _ c.table.ensures.economy c.table.ensures.layers
    (λ table economy layers.
    on_table c.args.study.now c.args.shelf.now c.typed-typed.result.now c.ids.result.now c.lists.result.now c.in_ok-economy.economy c.in_ok-limits.limits table
    c.ids.ensures.valid c.requires.on c.ids.ensures.value c.lists.ensures.value c.typed-typed.ensures.value
    (on_limits c.args.study.now c.typed-typed.result.now c.case.result c.in_ok-limits.limits c.typed-typed.ensures.value c.case.ensures.value c.in_ok-limits.ensures)
    c.in_ok-economy.ensures.value economy layers)
