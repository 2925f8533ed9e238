use Rattle.std.proofs.Common.{rules, arith, ◌≡◌, ◌+◌, ◌<◌, length, List, ◌∷◌, ◌++◌, All, ap, ◌∙◌, sym, subst}
use Rattle.std.proofs.lemmas.List.Elements.{All-take, All-drop, All-head, All-tail, All-cons, All-append, All-same}
use Rattle.board_core.specs.Lists.{total}
use Rattle.sim_board.specs.Seats.{SeatIs}
use Rattle.sim_sweep.specs.Workers.{CanSweep, EachOf, EngineIs, HasSwept, IsReady, made_of}
use Rattle.sim_sweep.proofs.ParallelSteps.{each-append, total-cut, total-joined}
use Rattle.sim_sweep.proofs.parallel.+fn-sweep_parts-join_mut+arg2+fn-sweep_parts-join_mut+arg3+sweep_parts.Goals as goal

pub sweep_from-requires-clause-room : goal.sweep_from-requires-clause-room
sweep_from-requires-clause-room g t c κs within =
    let one : 0 < length c.args.engines.now = omega (arith, c.requires.engines) in
    c.requires.can 0 c.index-engines-0.result one

pub join_mut-one-requires-after_bounds : goal.join_mut-one-requires-after_bounds
join_mut-one-requires-after_bounds g t c κs within =
    let P = IsReady c.args.board.now in
    let s = c.split_at_mut-left.ensures in
    let e = c.split_at_mut-few.ensures in
    let f = g.E.SimEngine in
    let Q = CanSweep {X = g.row.E.Denot} f.room c.args.book.now c.args.demands.now in
    let left : All P c.split_at_mut-left.result.0.now = All-same P _ _ s.front (All-take P _ _ c.requires.each) in
    let rest : All P c.split_at_mut-left.result.1.now = All-same P _ _ s.back (All-drop P _ _ c.requires.each) in
    let cut = c.in-Some.ensures.cases in
    let whole : All P (c.in-Some.first.now ∷ c.in-Some.right.now) = All-same P _ _ (sym cut.0) rest in
    let r = c.requires in (
      (search rules, (search rules, (search rules, (search rules, (search rules, (search rules, (search rules, (search rules, (search rules, (search rules, (r.ready, (left, (r.demands, (r.due, (All-same Q _ _ e.front (All-take Q _ _ r.can), search rules))))))))))))))),
      (search rules, (search rules, (search rules, (search rules, (search rules, (omega (arith, s.back_len, e.back_len, cut.1), (search rules, (search rules, (search rules, (search rules, (All-head P _ _ whole, (All-tail P _ _ whole, (r.demands, (r.due, (All-same Q _ _ e.back (All-drop Q _ _ r.can), search rules))))))))))))))),
    )

pub returns-clause-each : goal.returns-clause-each
returns-clause-each g t c =
    let P = IsReady c.args.board.now in
    let one : All P c.left-1.given.0 = search rules in
    let two : All P c.right-1.given.0 = search rules in
    let mid : P c.first-2-1.given.0 = search rules in
    All-append P _ _ one (All-cons P _ _ mid two)

pub returns-clause-swept : goal.returns-clause-swept
returns-clause-swept g t c =
    let f = g.E.SimEngine in
    let of : EngineIs g.row.E.Denot = record { room = f.room; work = f.work } in
    let R = HasSwept of c.args.book.now c.args.demands.now in
    let few = c.split_at_mut-few.result.0.now in
    let many = c.split_at_mut-few.result.1.now in
    let left = c.split_at_mut-left.result.0.now in
    let seats : c.args.others.now ≡ left ++ c.in-Some.first.now ∷ c.in-Some.right.now = c.split_at_mut-left.ensures.value ∙ ap (λ (l : List SeatIs). left ++ l) c.in-Some.ensures.cases.0 in
    let one : EachOf R (c.args.seat.now ∷ left) (c.seat-1.given.0 ∷ c.left-1.given.0) few c.few-1.given.0 = search rules in
    let two : EachOf R (c.in-Some.first.now ∷ c.in-Some.right.now) (c.first-2-1.given.0 ∷ c.right-1.given.0) many c.many-1.given.0 = search rules in
    subst (λ (l : List SeatIs). EachOf R (c.args.seat.now ∷ l) (c.seat-1.given.0 ∷ (c.left-1.given.0 ++ c.first-2-1.given.0 ∷ c.right-1.given.0)) c.args.engines.now (c.few-1.given.0 ++ c.many-1.given.0)) (sym seats)
    (subst (λ (p : List g.row.E.Denot). EachOf R (c.args.seat.now ∷ (left ++ c.in-Some.first.now ∷ c.in-Some.right.now)) (c.seat-1.given.0 ∷ (c.left-1.given.0 ++ c.first-2-1.given.0 ∷ c.right-1.given.0)) p (c.few-1.given.0 ++ c.many-1.given.0)) (sym c.split_at_mut-few.ensures.value)
    (each-append R (c.args.seat.now ∷ left) (c.seat-1.given.0 ∷ c.left-1.given.0) (c.in-Some.first.now ∷ c.in-Some.right.now) (c.first-2-1.given.0 ∷ c.right-1.given.0) few c.few-1.given.0 many c.many-1.given.0 one two))

pub returns-clause-got : goal.returns-clause-got
returns-clause-got g t c =
    let left = c.split_at_mut-left.result.0.now in
    let cut = c.in-Some.ensures.cases in
    let seats = total-cut made_of c.args.others.now left c.split_at_mut-left.result.1.now c.in-Some.right.now c.in-Some.first.now c.split_at_mut-left.ensures.value cut.0 in
    let one : c.join_mut-one.result.0 + (made_of c.args.seat.now + total made_of left) ≡ made_of c.seat-1.given.0 + total made_of c.left-1.given.0 = search rules in
    let two : c.join_mut-one.result.1 + (made_of c.in-Some.first.now + total made_of c.in-Some.right.now) ≡ made_of c.first-2-1.given.0 + total made_of c.right-1.given.0 = search rules in
    let seats' = total-joined made_of c.left-1.given.0 c.right-1.given.0 c.first-2-1.given.0 in
    omega (arith, seats, one, two, seats')
