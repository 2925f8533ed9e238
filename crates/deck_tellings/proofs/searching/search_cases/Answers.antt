use Rattle.std.proofs.Common.{◌≡◌, refl, subst, arith}
use Rattle.deck_check.specs.Readings.{cases}
use Rattle.deck_lines.specs.Deck.{body_of}
use Rattle.deck_tellings.specs.Searching.{CasesDemand}
use Rattle.deck_tellings.specs.Learning.{Learns}
use Rattle.deck_tellings.proofs.CaseTellings.{on_none, on_then}
use Rattle.deck_tellings.proofs.LearnSteps.{lost_none}
use Rattle.deck_tellings.proofs.SearchSteps.{cases_lost, cases_more, cases_none, cases_said, none_said, rounds_at}
use Rattle.deck_tellings.proofs.WhereErr.{on_err}
use Rattle.deck_tellings.proofs.searching.search_cases.Goals as goal

pub returns-in_err-system-clause-err : goal.returns-in_err-system-clause-err
returns-in_err-system-clause-err g c =
    let d = body_of c.args.typed.now in
    on_err _ _ (lost_none {X = g.row.E.Denot} (Unit {0}) (CasesDemand d (cases d)) d c.args.memory.now g.E.SimEngine.work c.args.engines.now)

pub loop-c-init : goal.loop-c-init
loop-c-init g c =
    let d = body_of c.args.typed.now in
    record {
      told = none_said d c.args.text.now;
      learns = cases_none {X = g.row.E.Denot} d c.args.memory.now g.E.SimEngine.work c.args.engines.now;
      few = omega arith;
      some = c.requires.some;
      most = c.requires.most;
      goes_on = on_none c.args.text.now c.args.text.now refl;
    }

pub search_case-requires-clause-place : goal.search_case-requires-clause-place
search_case-requires-clause-place g c κs within =
    let d = body_of c.args.typed.now in
    let l = c.loop-c in
    rounds_at (CasesDemand d l.c) d 2400000 _ c.args.memory.now l.memory c.requires.place l.invariant.learns.gains l.invariant.few (omega (arith, c.loop-c-test.true, c.cases-c-end.ensures.high))

pub returns-in_err-search_case-clause-err : goal.returns-in_err-search_case-clause-err
returns-in_err-search_case-clause-err g c =
    let d = body_of c.args.typed.now in
    let l = c.loop-c in
    on_err _ _ (cases_lost {X = g.row.E.Denot} d l.c (cases d) c.args.memory.now l.memory c.search_case.new.memory g.E.SimEngine.work c.args.engines.now l.engines c.search_case.new.engines
    (omega (arith, c.loop-c-test.true, c.cases-c-end.ensures.value)) l.invariant.learns c.in_err-search_case.ensures.err)

pub loop-c-preserved : goal.loop-c-preserved
loop-c-preserved g c =
    let d = body_of c.args.typed.now in
    let l = c.loop-c in
    record {
      told = cases_said d l.c c.args.text.now l.text c.search_case.new.text l.invariant.told c.in_ok-search_case.ensures.told;
      learns = cases_more {X = g.row.E.Denot} d l.c c.args.memory.now l.memory c.search_case.new.memory g.E.SimEngine.work c.args.engines.now l.engines c.search_case.new.engines l.invariant.learns c.in_ok-search_case.ensures.learns;
      few = omega (arith, c.in_ok-search_case.ensures.few, l.invariant.few);
      some = omega (arith, l.invariant.some, c.search_case.auto.engines);
      most = omega (arith, l.invariant.most, c.search_case.auto.engines);
      goes_on = on_then c.args.text.now l.text c.search_case.new.text l.invariant.goes_on c.in_ok-search_case.ensures.goes_on;
    }

pub returns-clause-learns : goal.returns-clause-learns
returns-clause-learns g c =
    let d = body_of c.args.typed.now in
    let l = c.loop-c in
    let all : l.c ≡ cases d = omega (arith, c.loop-c-test.false, l.auto.c-end, c.cases-c-end.ensures.value) in
    subst (λ n. Learns {X = g.row.E.Denot} (Unit {0}) (CasesDemand d n) d c.args.memory.now l.memory g.E.SimEngine.work c.args.engines.now l.engines 0) all l.invariant.learns
