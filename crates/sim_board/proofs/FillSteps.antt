-- The words of a slot in hand, put one after another.
use Rattle.std.proofs.Common.{◌≡◌, ◌≢◌, ℕ, zero, suc, ◌+◌, ◌<◌, List, [], Option, Some, None, sym, refl, ap, ◌∙◌, subst, inl, inr, ⊎_elim, arith}
use Rattle.std.specs.Prelude.{slice_index}
use Rattle.std.proofs.lemmas.Bool.{cases_eq}
use Rattle.board_core.specs.declared.actor.Hand.{Hand}
use Rattle.board_core.specs.Lists.{IsIn}
use Rattle.board_core.specs.Rows.{due_word}
use Rattle.board_core.specs.Events.{publishes}
use Rattle.sim_board.specs.Standing.{wrote, hand_after}
use Rattle.sim_board.specs.Seats.{SeatIs, with_actor}
use Rattle.sim_board.specs.Filling.{countdown, hand_filling, filling, Holds}

pub in_countdown : (n at : ℕ) → at < n → IsIn at (countdown n)
in_countdown zero at lt = absurd (omega arith)
in_countdown (suc n) at lt = ⊎_elim (λ (e : at ≡ n). inl e) (λ (m : at ≢ n). inr (in_countdown n at (omega arith))) (cases_eq at n)

-- the hand after n words
hand_now : (o : Option Hand) (h : Hand) (n : ℕ) → o ≡ Some h → hand_filling o n ≡ Some (record { slot = h.slot; written = countdown n })
hand_now o h n e = ap (λ (p : Option Hand). hand_filling p n) e

hand_more : (o : Option Hand) (n : ℕ) → hand_after (hand_filling o n) n ≡ hand_filling o (suc n)
hand_more None n = refl
hand_more (Some h) n = refl

hand_none : (h : Hand) → h.written ≡ [] → Some h ≡ hand_filling (Some h) 0
hand_none h e = ap (λ (l : List ℕ). Some (record { slot = h.slot; written = l })) e

with_hand : SeatIs → Option Hand → SeatIs
with_hand s o = with_actor s (record { living = s.actor.living; share = s.actor.share; seen = s.actor.seen; known = s.actor.known; made = s.actor.made; hand = o })

pub filling_none : (s : SeatIs) (h : Hand) → s.actor.hand ≡ Some h → h.written ≡ [] → s ≡ filling s 0
unfolding with_hand
filling_none s h e n = ap (with_hand s) (e ∙ hand_none h n ∙ ap (λ (o : Option Hand). hand_filling o 0) (sym e))

pub filling_more : (s : SeatIs) (n : ℕ) → with_actor (filling s n) (wrote (filling s n).actor n) ≡ filling s (n + 1)
unfolding with_hand
filling_more s n = ap (with_hand s) (hand_more s.actor.hand n) ∙ ap (λ (k : ℕ). filling s k) (omega arith)

-- the next word may be put
pub puts_next : (s t : SeatIs) (words : List ℕ) (h : Hand) (n : ℕ) → Holds s words h → t ≡ filling s n → n < 11
    → (y : Hand) × (x : ℕ) × (t.actor.hand ≡ Some y) × IsIn (y.slot, x) t.actor.seen × (slice_index words n ≡ due_word t.rows x n)
puts_next s t words h n k e lt =
    let P : SeatIs → Type 0 = λ u. (y : Hand) × (x : ℕ) × (u.actor.hand ≡ Some y) × IsIn (y.slot, x) u.actor.seen × (slice_index words n ≡ due_word u.rows x n) in
    subst P (sym e) (record { slot = h.slot; written = countdown n }, k.code, hand_now s.actor.hand h n k.hand, k.saw, k.due n lt)

pub may_publish : (s t : SeatIs) (words : List ℕ) (h : Hand) → Holds s words h → t ≡ filling s 11 → (y : Hand) × (t.actor.hand ≡ Some y) × ((at : ℕ) → at < 11 → IsIn at y.written)
may_publish s t words h k e =
    let P : SeatIs → Type 0 = λ u. (y : Hand) × (u.actor.hand ≡ Some y) × ((at : ℕ) → at < 11 → IsIn at y.written) in
    subst P (sym e) (record { slot = h.slot; written = countdown 11 }, hand_now s.actor.hand h 11 k.hand, λ at lt. in_countdown 11 at lt)

-- what publishing leaves
pub published_seat : (s t u : SeatIs) (h : Hand) → t ≡ filling s 11 → ((y : Hand) → t.actor.hand ≡ Some y → u ≡ with_actor t (publishes t.actor y.slot)) → s.actor.hand ≡ Some h → u ≡ with_actor s (publishes s.actor h.slot)
published_seat s t u h e f mine =
    let P : SeatIs → Type 0 = λ v. ((y : Hand) → v.actor.hand ≡ Some y → u ≡ with_actor v (publishes v.actor y.slot)) in
    subst P e f (record { slot = h.slot; written = countdown 11 }) (hand_now s.actor.hand h 11 mine)
