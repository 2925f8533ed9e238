use Rattle.std.proofs.lemmas.Result.{on_err_weaker}
use Rattle.std.proofs.Common.{arith}
use Rattle.row_shelf.proofs.FillSteps.{on_ok2}
use Rattle.deck_lines.specs.Deck.{body_of}
use Rattle.deck_tellings.proofs.SearchSteps.{deck_lost, deck_told, few_told}
use Rattle.deck_tellings.proofs.searching.search_typed.Goals as goal

pub returns-clause-told : goal.returns-clause-told
returns-clause-told g c =
    on_ok2 _ _ _ _ c.search_cases-searched.ensures.told c.search_cases-searched.ensures.learns
    (λ told learns. deck_told {X = g.row.E.Denot} (body_of c.args.typed.now) c.args.memory.now c.search_cases-searched.new.memory g.E.SimEngine.work c.args.engines.now c.search_cases-searched.new.engines
    c.args.text.now c.search_cases-searched.new.text c.years-years.ensures.valid.faultless told learns)

pub returns-clause-few : goal.returns-clause-few
returns-clause-few g c =
    on_ok2 _ _ _ _ c.search_cases-searched.ensures.few c.search_cases-searched.ensures.learns
    (λ few learns. few_told {X = g.row.E.Denot} _ (body_of c.args.typed.now) c.args.memory.now c.search_cases-searched.new.memory g.E.SimEngine.work c.args.engines.now c.search_cases-searched.new.engines
    (omega (arith, c.years-years.ensures.high, c.years-years.ensures.value)) c.shelf-shelf.ensures.valid few learns)

pub returns-clause-err : goal.returns-clause-err
returns-clause-err g c =
    on_err_weaker c.search_cases-searched.result
    (λ lost. deck_lost {X = g.row.E.Denot} (body_of c.args.typed.now) c.args.memory.now c.search_cases-searched.new.memory g.E.SimEngine.work c.args.engines.now c.search_cases-searched.new.engines c.years-years.ensures.valid.faultless lost)
    c.search_cases-searched.ensures.err
