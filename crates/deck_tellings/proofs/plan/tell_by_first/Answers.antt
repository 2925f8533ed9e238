use Rattle.std.proofs.lemmas.Result.{on_ok_weaker}
use Rattle.deck_tellings.proofs.CaseTellings.{detailed_by_first, told_by_first}
use Rattle.deck_tellings.proofs.plan.tell_by_first.Goals as goal

pub returns-clause-told : goal.returns-clause-told
returns-clause-told g c =
    on_ok_weaker c.tell_cases.result (λ tells. told_by_first _ g.E.SimEngine.work c.args.engines.now _ c.tell_cases.new.engine c.args.text.now c.tell_cases.new.text c.requires.some tells) c.tell_cases.ensures.told

pub returns-clause-gone : goal.returns-clause-gone
returns-clause-gone g c = detailed_by_first g.E.SimEngine.work c.args.engines.now _ c.tell_cases.new.engine c.requires.some c.tell_cases.ensures.gone
