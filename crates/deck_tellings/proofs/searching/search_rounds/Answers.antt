use Rattle.std.proofs.Common.{◌+◌, refl, arith}
use Rattle.std.proofs.lemmas.Result.{on_ok_weaker}
use Rattle.deck_lines.specs.Deck.{body_of}
use Rattle.deck_tellings.specs.Rounds.{RoundDemands}
use Rattle.deck_tellings.proofs.CaseTellings.{on_none, on_then, on_written}
use Rattle.deck_tellings.proofs.SearchSteps.{room_at, round_lost, round_more, rounds_all, rounds_last, rounds_lost, rounds_none, so_end, so_first, so_last, so_next, under_next, writable_next}
use Rattle.deck_tellings.proofs.WhereErr.{on_err}
use Rattle.deck_tellings.proofs.searching.search_rounds.Goals as goal

pub returns-in_err-own_tunnels-clause-err : goal.returns-in_err-own_tunnels-clause-err
returns-in_err-own_tunnels-clause-err g c =
    let d = body_of c.args.of.now.typed.now in
    on_err c.from_residual.result _ (rounds_lost {X = g.row.E.Denot} d c.args.of.now.case 0 c.args.memory.now c.args.memory.now g.E.SimEngine.work c.args.engines.now c.args.engines.now (omega arith)
    (rounds_none {X = g.row.E.Denot} d c.args.of.now.case c.args.memory.now g.E.SimEngine.work c.args.engines.now))

pub loop-k-init : goal.loop-k-init
loop-k-init g c =
    let d = body_of c.args.of.now.typed.now in
    record {
      number = refl;
      fit = c.in_ok-own_tunnels.ensures.tunnels;
      under = c.in_ok-own_tunnels.ensures.own;
      writable = tt;
      so_far = so_first d c.args.of.now.case _ c.args.text.now refl c.in_ok-own_tunnels.ensures.own refl;
      learns = rounds_none {X = g.row.E.Denot} d c.args.of.now.case c.args.memory.now g.E.SimEngine.work c.args.engines.now;
      few = omega arith;
      some = c.requires.some;
      most = c.requires.most;
      goes_on = on_none c.args.text.now c.args.text.now refl;
    }

pub solve_under-requires-clause-place : goal.solve_under-requires-clause-place
solve_under-requires-clause-place g c κs within =
    let d = body_of c.args.of.now.typed.now in
    let l = c.loop-k in
    room_at (RoundDemands d c.args.of.now.case l.k) d 300000 _ c.args.memory.now l.memory (omega (arith, c.years-years.ensures.high, c.years-years.ensures.value)) c.shelf-shelf.ensures.valid c.requires.place l.invariant.learns.gains l.invariant.few
    (omega (arith, c.loop-k-test.true))

pub returns-in_err-answer-clause-err : goal.returns-in_err-answer-clause-err
returns-in_err-answer-clause-err g c =
    let d = body_of c.args.of.now.typed.now in
    let l = c.loop-k in
    on_err c.from_residual-in_err-answer.result _ (round_lost {X = g.row.E.Denot} d c.args.of.now.case l.k l.round.tunnels.items c.args.memory.now l.memory c.solve_under.new.memory g.E.SimEngine.work c.args.engines.now l.engines c.solve_under.new.engines
    (omega (arith, c.loop-k-test.true)) l.invariant.under l.invariant.learns (rw c.deref.ensures.value at c.in_err-answer.ensures.err))

pub returns-in_err-tell_round-clause-err : goal.returns-in_err-tell_round-clause-err
returns-in_err-tell_round-clause-err g c =
    let d = body_of c.args.of.now.typed.now in
    let l = c.loop-k in
    on_err c.from_residual-in_err-tell_round.result _ (rounds_lost {X = g.row.E.Denot} d c.args.of.now.case (l.k + 1) c.args.memory.now c.solve_under.new.memory g.E.SimEngine.work c.args.engines.now c.solve_under.new.engines (omega (arith, c.loop-k-test.true))
    (round_more {X = g.row.E.Denot} c.listings_are_one.ensures d c.args.of.now.case l.k l.round.tunnels.items c.args.memory.now l.memory c.solve_under.new.memory g.E.SimEngine.work c.args.engines.now l.engines c.solve_under.new.engines
    l.invariant.under l.invariant.learns (rw c.deref.ensures.value at c.in_ok-answer.ensures.learns)))

pub returns-in-Ended-clause-told : goal.returns-in-Ended-clause-told
returns-in-Ended-clause-told g c =
    let d = body_of c.args.of.now.typed.now in
    let l = c.loop-k in
    so_last d c.args.of.now.case l.k l.round c.args.text.now l.text c.tell_round.new.text (omega (arith, c.loop-k-test.true)) l.invariant.so_far (rw c.in-Ended.is at c.in_ok-tell_round.ensures.told)

pub returns-in-Ended-clause-learns : goal.returns-in-Ended-clause-learns
returns-in-Ended-clause-learns g c =
    let d = body_of c.args.of.now.typed.now in
    let l = c.loop-k in
    let ended = (rw c.in-Ended.is at c.in_ok-tell_round.ensures.told) in
    rounds_last {X = g.row.E.Denot} c.listings_are_one.ensures d c.args.of.now.case l.k l.round.tunnels.items c.args.memory.now c.solve_under.new.memory g.E.SimEngine.work c.args.engines.now c.solve_under.new.engines
    (omega (arith, c.loop-k-test.true)) l.invariant.under (ended.last c.listings_are_one.ensures)
    (round_more {X = g.row.E.Denot} c.listings_are_one.ensures d c.args.of.now.case l.k l.round.tunnels.items c.args.memory.now l.memory c.solve_under.new.memory g.E.SimEngine.work c.args.engines.now l.engines c.solve_under.new.engines
    l.invariant.under l.invariant.learns (rw c.deref.ensures.value at c.in_ok-answer.ensures.learns))

pub loop-k-preserved : goal.loop-k-preserved
loop-k-preserved g c =
    let d = body_of c.args.of.now.typed.now in
    let case = c.args.of.now.case in
    let l = c.loop-k in
    let goes = (rw c.in-Goes.is at c.in_ok-tell_round.ensures.told) in
    record {
      number = omega (arith, goes.number, l.invariant.number);
      fit = goes.fit;
      under = under_next d case l.k l.round c.in-Goes.next l.text c.tell_round.new.text l.invariant.under goes;
      writable = writable_next d case l.round c.in-Goes.next l.text c.tell_round.new.text l.invariant.fit goes;
      so_far = so_next d case l.k l.round c.in-Goes.next c.args.text.now l.text c.tell_round.new.text (omega (arith, c.loop-k-test.true)) l.invariant.so_far goes;
      learns = round_more {X = g.row.E.Denot} c.listings_are_one.ensures d case l.k l.round.tunnels.items c.args.memory.now l.memory c.solve_under.new.memory g.E.SimEngine.work c.args.engines.now l.engines c.solve_under.new.engines
          l.invariant.under l.invariant.learns (rw c.deref.ensures.value at c.in_ok-answer.ensures.learns);
      few = omega (arith, c.in_ok-answer.ensures.few.rows, l.invariant.few);
      some = omega (arith, l.invariant.some, c.solve_under.auto.engines);
      most = omega (arith, l.invariant.most, c.solve_under.auto.engines);
      goes_on = on_then c.args.text.now l.text c.tell_round.new.text l.invariant.goes_on c.in_ok-tell_round.ensures.goes_on;
    }

pub returns-in_err-write_rounds_end-clause-err : goal.returns-in_err-write_rounds_end-clause-err
returns-in_err-write_rounds_end-clause-err g c =
    let d = body_of c.args.of.now.typed.now in
    on_err c.from_residual-in_err-write_rounds_end.result _ (rounds_lost {X = g.row.E.Denot} d c.args.of.now.case c.loop-k.k c.args.memory.now c.loop-k.memory g.E.SimEngine.work c.args.engines.now c.loop-k.engines (omega (arith, c.loop-k.auto.k-end)) c.loop-k.invariant.learns)

pub returns-clause-told : goal.returns-clause-told
returns-clause-told g c =
    let d = body_of c.args.of.now.typed.now in
    on_ok_weaker c.write_found.result
    (λ found. so_end d c.args.of.now.case c.loop-k.k c.loop-k.round c.args.text.now c.loop-k.text c.write_rounds_end.new.text c.write_found.new.text (omega (arith, c.loop-k-test.false, c.loop-k.auto.k-end))
    c.loop-k.invariant.so_far c.in_ok-write_rounds_end.ensures.appended found)
    c.write_found.ensures.appended

pub returns-clause-learns : goal.returns-clause-learns
returns-clause-learns g c =
    let d = body_of c.args.of.now.typed.now in
    on_ok_weaker c.write_found.result
    (λ found. rounds_all {X = g.row.E.Denot} d c.args.of.now.case c.loop-k.k c.args.memory.now c.loop-k.memory g.E.SimEngine.work c.args.engines.now c.loop-k.engines (omega (arith, c.loop-k-test.false, c.loop-k.auto.k-end)) c.loop-k.invariant.learns)
    c.write_found.ensures.appended

pub returns-clause-err : goal.returns-clause-err
returns-clause-err g c =
    let d = body_of c.args.of.now.typed.now in
    on_err c.write_found.result _ (rounds_lost {X = g.row.E.Denot} d c.args.of.now.case c.loop-k.k c.args.memory.now c.loop-k.memory g.E.SimEngine.work c.args.engines.now c.loop-k.engines (omega (arith, c.loop-k.auto.k-end)) c.loop-k.invariant.learns)

pub returns-clause-goes_on : goal.returns-clause-goes_on
returns-clause-goes_on g c =
    on_then c.args.text.now c.loop-k.text c.write_found.new.text c.loop-k.invariant.goes_on
    (on_then c.loop-k.text c.write_rounds_end.new.text c.write_found.new.text (record { more = _; is = c.in_ok-write_rounds_end.ensures.appended }) (on_written c.write_found.result _ _ _ c.write_found.ensures.appended c.write_found.ensures.kept))
