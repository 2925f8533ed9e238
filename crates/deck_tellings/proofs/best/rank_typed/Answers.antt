use Rattle.std.proofs.Common.{◌≡◌, ◌≤◌, refl, arith}
use Rattle.deck_check.specs.Readings.{cases, years}
use Rattle.deck_lines.specs.Deck.{body_of}
use Rattle.deck_tellings.proofs.CaseTellings.{on_none, on_then}
use Rattle.deck_tellings.proofs.RankSteps.{deck_ranked, few_more, few_none, learns_more, lost_more, none_asked, none_ranked, ranked_more}
use Rattle.deck_tellings.proofs.WhereErr.{on_err}
use Rattle.deck_tellings.proofs.best.rank_typed.Goals as goal

pub loop-c-init : goal.loop-c-init
loop-c-init g c =
    let d = body_of c.args.asked.now.typed.now in
    record {
      told = none_ranked d c.args.asked.now.plans c.args.text.now;
      learns = none_asked {X = g.row.E.Denot} d c.args.memory.now g.E.SimEngine.work c.args.engines.now;
      few = few_none c.args.memory.now;
      some = c.requires.some;
      most = c.requires.most;
      goes_on = on_none c.args.text.now c.args.text.now refl;
    }

pub returns-in_err-rank_case-clause-err : goal.returns-in_err-rank_case-clause-err
returns-in_err-rank_case-clause-err g c =
    let d = body_of c.args.asked.now.typed.now in
    on_err _ _
    (lost_more {X = g.row.E.Denot} d c.loop-c.c c.args.memory.now c.loop-c.memory c.rank_case.new.memory g.E.SimEngine.work c.args.engines.now c.loop-c.engines c.rank_case.new.engines
    c.years-years.ensures.valid.faultless c.loop-c.invariant.learns c.in_err-rank_case.ensures.err)

pub loop-c-preserved : goal.loop-c-preserved
loop-c-preserved g c =
    let d = body_of c.args.asked.now.typed.now in
    let k = c.args.asked.now.plans in
    let before = c.loop-c.invariant in
    let one = c.in_ok-rank_case.ensures in
    let learns = learns_more {X = g.row.E.Denot} d c.loop-c.c c.args.memory.now c.loop-c.memory c.rank_case.new.memory g.E.SimEngine.work c.args.engines.now c.loop-c.engines c.rank_case.new.engines
    c.years-years.ensures.valid.faultless before.learns one.learns in
    let few : years d ≤ 30 = omega (arith, c.years-years.ensures.value, c.years-years.ensures.high) in
    record {
      told = ranked_more d k c.loop-c.c c.args.text.now c.loop-c.text c.rank_case.new.text before.told one.told;
      learns = learns;
      few = few_more {X = g.row.E.Denot} d c.loop-c.c c.args.memory.now c.loop-c.memory c.rank_case.new.memory g.E.SimEngine.work c.args.engines.now c.rank_case.new.engines few c.shelf-shelf.ensures.valid learns before.few one.few;
      some = omega (arith, before.some);
      most = omega (arith, before.most);
      goes_on = on_then c.args.text.now c.loop-c.text c.rank_case.new.text before.goes_on one.goes_on;
    }

pub returns-clause-told : goal.returns-clause-told
returns-clause-told g c =
    let d = body_of c.args.asked.now.typed.now in
    let all : c.loop-c.c ≡ cases d = omega (arith, c.cases-c-end.ensures.value) in
    deck_ranked {X = g.row.E.Denot} d c.args.asked.now.plans c.loop-c.c c.args.memory.now c.loop-c.memory g.E.SimEngine.work c.args.engines.now c.loop-c.engines c.args.text.now c.loop-c.text
    c.years-years.ensures.valid.faultless all c.loop-c.invariant.told c.loop-c.invariant.learns
