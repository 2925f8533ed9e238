-- Seats that are split off and joined, one after another.
use Rattle.std.proofs.Common.{◌≡◌, ◌⊎◌, ℕ, ◌+◌, List, [], ◌∷◌, ◌++◌, refl, sym, ap, ◌∙◌, subst, inl, inr, ⊎_elim, arith}
use Rattle.board_core.specs.Lists.{IsIn, total}
use Rattle.board_core.specs.Events.{copy_of, joined, keeps_share}
use Rattle.board_core.proofs.Lists.{is_in-append, is_in-left, is_in-right, times-append, total-append}
use Rattle.sim_board.specs.Seats.{BoardIs, SeatIs, with_actor}
use Rattle.sim_sweep.specs.Workers.{IsReady, SeesAll, share_of, times_made}

pub ready_joined : (b : BoardIs) (s t u : SeatIs) → IsReady b s → u ≡ with_actor s (joined s.actor t.actor) → IsReady b u
ready_joined b s t u h e = subst (IsReady b) (sym e) (record { seat_of = record { table = h.seat_of.table; size = h.seat_of.size; for_rows = h.seat_of.for_rows; from = h.seat_of.from }; hand = h.hand })

pub share_joined : (s t u : SeatIs) → u ≡ with_actor s (joined s.actor t.actor) → share_of u ≡ share_of s + share_of t
share_joined s t u e = ap share_of e

pub made_joined : (s t u : SeatIs) (slot : ℕ) → u ≡ with_actor s (joined s.actor t.actor) → times_made slot u ≡ times_made slot s + times_made slot t
made_joined s t u slot e = ap (times_made slot) e ∙ times-append slot s.actor.made t.actor.made

pub sees_joined : (s t u : SeatIs) → u ≡ with_actor s (joined s.actor t.actor) → SeesAll s u × SeesAll t u
sees_joined s t u e = (
  λ slot x i. subst (λ (w : SeatIs). IsIn (slot, x) w.actor.seen) (sym e) (is_in-left (slot, x) s.actor.seen t.actor.seen i),
  λ slot x i. subst (λ (w : SeatIs). IsIn (slot, x) w.actor.seen) (sym e) (is_in-right (slot, x) s.actor.seen t.actor.seen i),
)

pub total_last : (f : SeatIs → ℕ) (l m : List SeatIs) (o : SeatIs) → l ≡ m ++ o ∷ [] → total f l ≡ total f m + f o
total_last f l m o e = let s = total-append f m (o ∷ []) in ap (total f) e ∙ omega (arith, s)

-- of the last one that was joined, and of those that are left
pub left_or_seen : (m : List SeatIs) (l : List SeatIs) (o s u w : SeatIs) → l ≡ m ++ o ∷ [] → SeesAll u w → SeesAll o w → IsIn s l ⊎ SeesAll s u → IsIn s m ⊎ SeesAll s w
left_or_seen m l o s u w cut grew last h = ⊎_elim
    (λ (i : IsIn s l). ⊎_elim
    (λ (j : IsIn s m). inl j)
    (λ (j : IsIn s (o ∷ [])). ⊎_elim (λ (e : s ≡ o). inr (subst (λ (y : SeatIs). SeesAll y w) (sym e) last)) (λ n. elim n [ ]) j)
    (is_in-append s m (o ∷ []) (subst (IsIn s) cut i)))
    (λ (k : SeesAll s u). inr (λ slot x i. grew slot x (k slot x i)))
    h

pub none_left : (l : List SeatIs) (s w : SeatIs) → l ≡ [] → IsIn s l ⊎ SeesAll s w → SeesAll s w
none_left l s w e h = ⊎_elim (λ (i : IsIn s l). elim (subst (IsIn s) e i) [ ]) (λ (k : SeesAll s w). k) h

pub ready_kept : (b : BoardIs) (s t : SeatIs) (part : ℕ) → IsReady b s → t ≡ with_actor s (keeps_share s.actor part) → IsReady b t
ready_kept b s t part h e = subst (IsReady b) (sym e) (record { seat_of = record { table = h.seat_of.table; size = h.seat_of.size; for_rows = h.seat_of.for_rows; from = h.seat_of.from }; hand = h.hand })

pub ready_copied : (b : BoardIs) (s t : SeatIs) (part : ℕ) → IsReady b s → t ≡ with_actor s (copy_of s.actor part) → IsReady b t
ready_copied b s t part h e = subst (IsReady b) (sym e) (record { seat_of = record { table = h.seat_of.table; size = h.seat_of.size; for_rows = h.seat_of.for_rows; from = h.seat_of.from }; hand = refl })

pub fresh_more : (m : List SeatIs) (o s : SeatIs) → o.actor.made ≡ [] → ((t : SeatIs) → IsIn t m → t.actor.made ≡ []) → IsIn s (m ++ o ∷ []) → s.actor.made ≡ []
fresh_more m o s none all i = ⊎_elim (λ (j : IsIn s m). all s j) (λ (j : IsIn s (o ∷ [])). ⊎_elim (λ (e : s ≡ o). ap (λ (t : SeatIs). t.actor.made) e ∙ none) (λ n. elim n [ ]) j) (is_in-append s m (o ∷ []) i)
