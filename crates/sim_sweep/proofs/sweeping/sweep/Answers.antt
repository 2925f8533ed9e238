use Rattle.std.proofs.Common.{rules, [], ◌≡◌, ℕ, ◌+◌, ◌∷◌, List, length, get_or, inr, arith, subst}
use Rattle.board_core.specs.Lists.{IsIn, total}
use Rattle.board_core.proofs.Lists.{is_in_at}
use Rattle.sim_board.specs.Seats.{SeatIs}
use Rattle.sim_sweep.specs.Workers.{EngineIs, HasSwept, SweepsAll, share_of}
use Rattle.sim_sweep.proofs.GatherSteps.{each_length, first_all, fresh_cons, sees_cons, shares_stay, swept_all, written}
use Rattle.sim_sweep.proofs.sweeping.sweep.Goals as goal

pub returns-clause-whole : goal.returns-clause-whole
returns-clause-whole g c =
    let f = g.E.SimEngine in
    let of : EngineIs g.row.E.Denot = record { room = f.room; work = f.work } in
    let olds = c.as_mut_slice.result.now in
    let news = c.sweep_parts-filled.new.others in
    let swept = c.sweep_parts-filled.ensures.swept in
    let len = each_length {X = g.row.E.Denot} (HasSwept of c.args.book.now c.args.demands.now) (c.args.seat.now ∷ olds) (c.sweep_parts-filled.new.seat ∷ news) c.args.engines.now c.sweep_parts-filled.new.engines swept in
    let many : length news ≡ c.args.others.now.len = search (rules, len) in
    let a = shares_stay {X = g.row.E.Denot} of c.args.book.now c.args.demands.now (c.args.seat.now ∷ olds) (c.sweep_parts-filled.new.seat ∷ news) c.args.engines.now c.sweep_parts-filled.new.engines swept in
    let b = rw (written c.args.others.now.len c.args.others.now.items news many) at c.join_all.ensures.share in
    let w : share_of c.args.seat.now + total share_of olds ≡ 64 = rw c.as_mut_slice.ensures.value c.requires.whole in
    omega (arith, a, b, w)

pub returns-clause-all : goal.returns-clause-all
returns-clause-all g c d i =
    let f = g.E.SimEngine in
    let of : EngineIs g.row.E.Denot = record { room = f.room; work = f.work } in
    let o = first_all {X = g.row.E.Denot} of c.args.book.now c.args.demands.now c.args.seat.now c.sweep_parts-filled.new.seat c.as_mut_slice.result.now c.sweep_parts-filled.new.others c.args.engines.now c.sweep_parts-filled.new.engines c.sweep_parts-filled.ensures.swept d i in
    (o.0, c.join_all.ensures.seen o.0 d.code o.1)

pub returns-clause-swept : goal.returns-clause-swept
returns-clause-swept g c =
    let f = g.E.SimEngine in
    let of : EngineIs g.row.E.Denot = record { room = f.room; work = f.work } in
    let olds = c.as_mut_slice.result.now in
    let news = c.sweep_parts-filled.new.others in
    let swept = c.sweep_parts-filled.ensures.swept in
    let len = each_length {X = g.row.E.Denot} (HasSwept of c.args.book.now c.args.demands.now) (c.args.seat.now ∷ olds) (c.sweep_parts-filled.new.seat ∷ news) c.args.engines.now c.sweep_parts-filled.new.engines swept in
    let many : length news ≡ c.args.others.now.len = search (rules, len) in
    let back = written c.args.others.now.len c.args.others.now.items news many in
    let made = rw back at c.join_all.ensures.made in
    let theirs = rw back at c.join_all.ensures.theirs in
    let fresh : (s : SeatIs) → IsIn s olds → s.actor.made ≡ [] = rw c.as_mut_slice.ensures.value c.requires.fresh.1 in
    let from = c.join_all.ensures.ready.seat_of.from in
    subst (λ (start : List ℕ). SweepsAll of c.args.book.now start c.args.demands.now c.args.tally.now c.count.new.self c.args.engines.now c.sweep_parts-filled.new.engines) from
    (swept_all {X = g.row.E.Denot} of c.args.book.now c.args.demands.now (c.args.seat.now ∷ olds) (c.sweep_parts-filled.new.seat ∷ news) c.args.engines.now c.sweep_parts-filled.new.engines c.join_all.new.seat swept
    (fresh_cons c.args.seat.now olds c.requires.fresh.0 fresh) c.knows.ensures (returns-clause-whole g c) made (sees_cons c.sweep_parts-filled.new.seat c.join_all.new.seat news c.join_all.ensures.seen theirs) (returns-clause-all g c) c.sweep_parts-filled.result c.args.tally.now c.count.new.self c.sweep_parts-filled.ensures.got c.count.ensures)

pub returns-clause-filled : goal.returns-clause-filled
returns-clause-filled g c = λ k d within.
    let o = returns-clause-all g c (get_or c.args.demands.now k d) (is_in_at c.args.demands.now k d within) in
    record { slot = o.0; saw = o.1; filled = inr (returns-clause-whole g c, c.join_all.ensures.ready.hand) }
