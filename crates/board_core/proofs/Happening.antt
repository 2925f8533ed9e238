-- Each enabled event of the machine is the event over cells and actors.
use Rattle.std.proofs.Common.{eq-eqb, ne_eqb, ◌≡◌, ◌≢◌, ℕ, ◌<◌, ◌≤◌, Bool, true, false, not, ◌&&◌, List, ◌==◌, if◌then◌else◌, length, sym, refl, ap, ◌∙◌, subst, ⊎_elim, arith, Result, Ok, Err, OnOk}
use Rattle.std.specs.Prelude.{slice_index, slice_set, nat_lt, IfOk}
use Rattle.std.proofs.lemmas.Bool.{cases_eq, cases_Bool}
use Rattle.std.proofs.lemmas.List.{set-get_or}
use borrow.Author.Tests.{ltb-true}
use mathlib.Core.Option.{some}
use lib.ListN.{get_elem?}
use Rattle.board_core.specs.declared.actor.Actor.{Actor}
use Rattle.board_core.specs.declared.slot.Slot.{Slot}
use Rattle.board_core.specs.declared.event.Event.{Event}
use Rattle.board_core.specs.declared.event.Event.TheVariants.{LookCode, PlaceCode, WriteWord, Publish, LookState, ReadWord, Split, Join}
use Rattle.board_core.specs.declared.event.Answer.{Answer}
use Rattle.board_core.specs.declared.event.Answer.TheVariants.{NotEnabled}
use Rattle.board_core.specs.Lists.{IsIn}
use Rattle.board_core.specs.Rows.{due_word}
use Rattle.board_core.specs.Events.{sees, takes, writes, learns, spent, placed}
use Rattle.board_core.specs.Machine.{Machine, enabled, moved, told, after, answer, IsSoundMachine, slot_at, actor_at, state_of, machine_terms, machine_cells, placed_in, with_actor_at, with_slot_at, is_empty_hand, is_slot_in, has_code, has, has_seen, path_seen, distance, all_written, written_of}
use Rattle.board_core.specs.Happens.{moment, Only, Happens, number}
use Rattle.board_core.proofs.Machines.{and_left, and_right, slot_in, hand_lives, share_lives, living_at, elem_or_spent, is_in_of, free_hand, code_of, path_reaches, cells_placed, cells_written, cells_published, written_all, written_is, seen_of, other_of}

-- the actor as before
same_actor : (m : Machine) (k : ℕ) → slice_set m.actors k (actor_at m k) ≡ m.actors
same_actor m k = set-get_or m.actors k spent

-- a look that found nothing changes nothing, else the actor
only_if : (m : Machine) (k found : ℕ) (a : Actor) → Only (moment m) k (if found == 0 then actor_at m k else a) (moment (if found == 0 then m else with_actor_at m k a))
only_if m k found a = ⊎_elim
    (λ (e : found ≡ 0). subst (λ (b : Bool). Only (moment m) k (if b then actor_at m k else a) (moment (if b then m else with_actor_at m k a))) (sym (eq-eqb found 0 e)) (refl, sym (same_actor m k)))
    (λ (n : found ≢ 0). subst (λ (b : Bool). Only (moment m) k (if b then actor_at m k else a) (moment (if b then m else with_actor_at m k a))) (sym (ne_eqb found 0 n)) (refl, refl))
    (cases_eq found 0)

only_filled : (m : Machine) (k : ℕ) (b : Bool) (a : Actor) → Only (moment m) k (if (if b then 1 else 0) == 0 then actor_at m k else a) (moment (if b then with_actor_at m k a else m))
only_filled m k true a = (refl, refl)
only_filled m k false a = (refl, sym (same_actor m k))

happens_place : (m : Machine) (k s x : ℕ) → IsSoundMachine m → enabled m (PlaceCode k s x) ≡ true → Happens (machine_terms m) (PlaceCode k s x) (slot_at m s).code (moment m) (moment (placed_in m k s x))
happens_place m k s x h e =
    let a : Actor = actor_at m k in
    let v : Slot = record { code = x; filled = (slot_at m s).filled; words = (slot_at m s).words } in
    let front = and_left ((nat_lt 0 a.share && is_empty_hand a.hand) && (nat_lt s (length m.slots) && has_code x m.rows)) (path_seen m.bits x a.seen (distance m.bits x s)) e in
    let seen = and_right ((nat_lt 0 a.share && is_empty_hand a.hand) && (nat_lt s (length m.slots) && has_code x m.rows)) (path_seen m.bits x a.seen (distance m.bits x s)) e in
    let p = and_left (nat_lt 0 a.share && is_empty_hand a.hand) (nat_lt s (length m.slots) && has_code x m.rows) front in
    let q = and_right (nat_lt 0 a.share && is_empty_hand a.hand) (nat_lt s (length m.slots) && has_code x m.rows) front in
    let share : 0 < a.share = ltb-true 0 a.share (and_left (nat_lt 0 a.share) (is_empty_hand a.hand) p) in
    let live = share_lives (machine_terms m) (machine_cells m) m.actors k h.sound share in
    let lt : s < length m.slots = ltb-true s (length m.slots) (and_left (nat_lt s (length m.slots)) (has_code x m.rows) q) in
    let few : m.bits ≤ 24 = h.shaped.few.1 in
    let P : Machine → Type 0 = λ n. ((slot_at m s).code ≡ 0 → (machine_cells n ≡ placed (machine_cells m) s x) × (n.actors ≡ slice_set m.actors k (takes a s x))) × ((slot_at m s).code ≢ 0 → Only (moment m) k (sees a s (slot_at m s).code) (moment n)) in
    let free' : Machine = with_actor_at (with_slot_at m s v) k (takes a s x) in
    let full' : Machine = with_actor_at m k (sees a s (slot_at m s).code) in
    let cases : P (placed_in m k s x) = ⊎_elim
    (λ (z : (slot_at m s).code ≡ 0). subst (λ (b : Bool). P (if b then free' else full')) (sym (eq-eqb (slot_at m s).code 0 z)) ((λ _. (cells_placed m s x lt, refl)), λ n. absurd (n z)))
    (λ (n : (slot_at m s).code ≢ 0). subst (λ (b : Bool). P (if b then free' else full')) (sym (ne_eqb (slot_at m s).code 0 n)) ((λ z. absurd (n z)), λ _. (refl, refl)))
    (cases_eq (slot_at m s).code 0) in (
      a,
      living_at m.actors k live,
      share,
      free_hand a.hand (and_right (nat_lt 0 a.share) (is_empty_hand a.hand) p),
      code_of x m.rows (and_right (nat_lt s (length m.slots)) (has_code x m.rows) q),
      path_reaches m a x s few (subst (λ (n : ℕ). s < n) h.shaped.slots lt) seen,
      refl,
      cases.0,
      cases.1,
    )

happens_write : (m : Machine) (k s at : ℕ) → IsSoundMachine m → enabled m (WriteWord k s at) ≡ true → Happens (machine_terms m) (WriteWord k s at) 0 (moment m) (moment (moved m (WriteWord k s at)))
happens_write m k s at h e =
    let a : Actor = actor_at m k in
    let q = and_right (nat_lt s (length m.slots)) (is_slot_in s a.hand && nat_lt at 11) e in
    let lt : s < length m.slots = ltb-true s (length m.slots) (and_left (nat_lt s (length m.slots)) (is_slot_in s a.hand && nat_lt at 11) e) in
    let small : at < 11 = ltb-true at 11 (and_right (is_slot_in s a.hand) (nat_lt at 11) q) in
    let o = slot_in s a.hand (and_left (is_slot_in s a.hand) (nat_lt at 11) q) in
    let live = hand_lives (machine_terms m) (machine_cells m) m.actors k o.0 h.sound o.1 in
    let len = h.shaped.words s lt in (
      a,
      o.0,
      living_at m.actors k live,
      o.1,
      o.2,
      small,
      cells_written m s at (due_word m.rows (slot_at m s).code at) lt (omega arith),
      ap (λ (l : List ℕ). slice_set m.actors k (writes a s l at)) (written_is a.hand o.0 o.1),
    )

happens_publish : (m : Machine) (k s : ℕ) → IsSoundMachine m → enabled m (Publish k s) ≡ true → Happens (machine_terms m) (Publish k s) 0 (moment m) (moment (moved m (Publish k s)))
happens_publish m k s h e =
    let a : Actor = actor_at m k in
    let q = and_right (nat_lt s (length m.slots)) (is_slot_in s a.hand && all_written 11 (written_of a.hand)) e in
    let lt : s < length m.slots = ltb-true s (length m.slots) (and_left (nat_lt s (length m.slots)) (is_slot_in s a.hand && all_written 11 (written_of a.hand)) e) in
    let o = slot_in s a.hand (and_left (is_slot_in s a.hand) (all_written 11 (written_of a.hand)) q) in
    let all = and_right (is_slot_in s a.hand) (all_written 11 (written_of a.hand)) q in
    let live = hand_lives (machine_terms m) (machine_cells m) m.actors k o.0 h.sound o.1 in (
      a,
      o.0,
      living_at m.actors k live,
      o.1,
      o.2,
      λ at less. subst (IsIn at) (written_is a.hand o.0 o.1) (written_all 11 (written_of a.hand) at all less),
      cells_published m s lt,
      refl,
    )

happens_look_state : (m : Machine) (k s : ℕ) → enabled m (LookState k s) ≡ true → Happens (machine_terms m) (LookState k s) (state_of (slot_at m s)) (moment m) (moment (moved m (LookState k s)))
happens_look_state m k s e =
    let a : Actor = actor_at m k in
    let p = and_left (nat_lt s (length m.slots) && a.living) (has_seen s a.seen) e in
    let live = and_right (nat_lt s (length m.slots)) a.living p in
    (a, living_at m.actors k live, live, seen_of s a.seen (and_right (nat_lt s (length m.slots) && a.living) (has_seen s a.seen) e), refl, only_filled m k (slot_at m s).filled (learns a s))

happens_read : (m : Machine) (k s at : ℕ) → enabled m (ReadWord k s at) ≡ true → Happens (machine_terms m) (ReadWord k s at) (slice_index (slot_at m s).words at) (moment m) (moment m)
happens_read m k s at e =
    let a : Actor = actor_at m k in
    let q = and_right (nat_lt s (length m.slots)) (has s a.known && nat_lt at 11) e in
    let known = is_in_of s a.known (and_left (has s a.known) (nat_lt at 11) q) in
    let there : get_elem? m.actors k ≡ some a = ⊎_elim (λ (y : get_elem? m.actors k ≡ some a). y) (λ (gone : a ≡ spent). elim (subst (λ (x : Actor). IsIn s x.known) gone known) [ ]) (elem_or_spent m.actors k) in
    (a, there, known, ltb-true at 11 (and_right (has s a.known) (nat_lt at 11) q), refl, (refl, sym (same_actor m k)))

happens_split : (m : Machine) (k part : ℕ) → enabled m (Split k part) ≡ true → Happens (machine_terms m) (Split k part) 0 (moment m) (moment (moved m (Split k part)))
happens_split m k part e =
    let a : Actor = actor_at m k in
    let live = and_left a.living (nat_lt 0 part && nat_lt part a.share) e in
    let q = and_right a.living (nat_lt 0 part && nat_lt part a.share) e in
    (a, living_at m.actors k live, live, ltb-true 0 part (and_left (nat_lt 0 part) (nat_lt part a.share) q), ltb-true part a.share (and_right (nat_lt 0 part) (nat_lt part a.share) q), refl, refl)

happens_join : (m : Machine) (k j : ℕ) → enabled m (Join k j) ≡ true → Happens (machine_terms m) (Join k j) 0 (moment m) (moment (moved m (Join k j)))
happens_join m k j e =
    let a : Actor = actor_at m k in
    let b : Actor = actor_at m j in
    let p = and_left (a.living && b.living) (not (k == j) && is_empty_hand b.hand) e in
    let q = and_right (a.living && b.living) (not (k == j) && is_empty_hand b.hand) e in
    let live = and_left a.living b.living p in
    let live' = and_right a.living b.living p in
    (a, b, living_at m.actors k live, living_at m.actors j live', (λ s. other_of k j (and_left (not (k == j)) (is_empty_hand b.hand) q) (sym s)), live, live', free_hand b.hand (and_right (not (k == j)) (is_empty_hand b.hand) q), refl, refl)

-- each enabled event
pub happens : (m : Machine) (e : Event) → IsSoundMachine m → enabled m e ≡ true → Happens (machine_terms m) e (number (told m e)) (moment m) (moment (moved m e))
happens m (LookCode k s) h e = let live = and_left (actor_at m k).living (nat_lt s (length m.slots)) e in (actor_at m k, living_at m.actors k live, live, refl, only_if m k (slot_at m s).code (sees (actor_at m k) s (slot_at m s).code))
happens m (PlaceCode k s x) h e = happens_place m k s x h e
happens m (WriteWord k s at) h e = happens_write m k s at h e
happens m (Publish k s) h e = happens_publish m k s h e
happens m (LookState k s) h e = happens_look_state m k s e
happens m (ReadWord k s at) h e = happens_read m k s at e
happens m (Split k part) h e = happens_split m k part e
happens m (Join k j) h e = happens_join m k j e

-- what a step that answered is
pub stepped : {E : Type 0} (m n : Machine) (e : Event) (r : Result Answer E) → IsSoundMachine m → IfOk r (λ a. a ≡ answer m e) → OnOk r (n ≡ after m e) → IfOk r (λ a. a ≢ NotEnabled → Happens (machine_terms m) e (number a) (moment m) (moment n))
stepped m n e (Err x) h a s = tt
stepped m n e (Ok x) h a s = λ ne. ⊎_elim
    (λ (y : enabled m e ≡ true).
    let x' : told m e ≡ x = sym (a ∙ ap (λ (b : Bool). if b then told m e else NotEnabled) y) in
    let n' : moved m e ≡ n = sym (s ∙ ap (λ (b : Bool). if b then moved m e else m) y) in
    subst (λ (p : Answer × Machine). Happens (machine_terms m) e (number p.0) (moment m) (moment p.1)) (λ i. (x' i, n' i)) (happens m e h y))
    (λ (f : enabled m e ≡ false). absurd (ne (a ∙ ap (λ (b : Bool). if b then told m e else NotEnabled) f)))
    (cases_Bool (enabled m e))
