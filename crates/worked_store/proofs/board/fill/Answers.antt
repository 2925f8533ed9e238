use Rattle.std.proofs.Common.{◌≡◌, ℕ, sym, ap, subst, arith, ◌∙◌, List}
use Rattle.board_core.specs.Rows.{words_of}
use Rattle.board_core.specs.Trial.{same}
use Rattle.board_core.specs.declared.row.Words.{Words}
use Rattle.sim_board.specs.Seats.{SeatIs, with_actor}
use Rattle.sim_board.specs.Standing.{wrote}
use Rattle.sim_board.specs.Filling.{filling, Holds}
use Rattle.sim_board.proofs.FillSteps.{filling_none, filling_more, puts_next, may_publish, published_seat}
use Rattle.worked_store.proofs.board.fill.Goals as goal

pub put_word-requires-clause-hand : goal.put_word-requires-clause-hand
put_word-requires-clause-hand c κs =
    let k = subst (λ (l : List ℕ). Holds c.args.seat.now l c.requires.hand.0) (sym (c.to_array-row.ensures ∙ ap (λ (w : Words). words_of w) c.words.ensures)) c.requires.hand.1 in
    puts_next c.args.seat.now c.loop-at.seat c.to_array-row.result c.requires.hand.0 c.loop-at.at k c.loop-at.invariant (omega arith)

pub publish-requires-clause-hand : goal.publish-requires-clause-hand
publish-requires-clause-hand c κs =
    let n : c.loop-at.at ≡ 11 = omega arith in
    let e : c.loop-at.seat ≡ filling c.args.seat.now 11 = c.loop-at.invariant ∙ ap (λ (k : ℕ). filling c.args.seat.now k) n in
    may_publish c.args.seat.now c.loop-at.seat (words_of (same c.args.code)) c.requires.hand.0 c.requires.hand.1 e

pub loop-at-init : goal.loop-at-init
loop-at-init c = filling_none c.args.seat.now c.requires.hand.0 c.requires.hand.1.hand c.requires.hand.1.none

pub loop-at-preserved : goal.loop-at-preserved
loop-at-preserved c =
    c.put_word.ensures.seat ∙ ap (λ (s : SeatIs). with_actor s (wrote s.actor c.loop-at.at)) c.loop-at.invariant ∙ filling_more c.args.seat.now c.loop-at.at

pub returns : goal.returns
returns c = record {
  seat = λ h e.
      let n : c.loop-at.at ≡ 11 = omega arith in
      let f : c.loop-at.seat ≡ filling c.args.seat.now 11 = c.loop-at.invariant ∙ ap (λ (k : ℕ). filling c.args.seat.now k) n in
      published_seat c.args.seat.now c.loop-at.seat c.publish.new.seat h f c.publish.ensures.seat e;
}
