-- What stands for good over runs of events.
use Rattle.std.proofs.Common.{eq-eqb, ne_eqb, ◌≡◌, ◌≢◌, ℕ, ◌<◌, Bool, true, false, not, ◌&&◌, List, [], ◌∷◌, ◌++◌, ◌==◌, if◌then◌else◌, length, set, None, sym, refl, ap, ◌∙◌, subst, ⊎_elim, arith, Result, Ok, Err, OnOk, OnErr}
use Rattle.std.specs.Prelude.{slice_index, slice_set, nat_lt}
use Rattle.std.proofs.lemmas.Bool.{cases_eq, cases_Bool}
use borrow.Author.Tests.{ltb-true}
use mathlib.Core.Option.{some}
use lib.ListN.{get_elem?}
use Rattle.board_core.specs.declared.actor.Actor.{Actor}
use Rattle.board_core.specs.declared.slot.Slot.{Slot}
use Rattle.board_core.specs.declared.event.Event.{Event}
use Rattle.board_core.specs.declared.event.Event.TheVariants.{LookCode, PlaceCode, WriteWord, Publish, LookState, ReadWord, Split, Join}
use Rattle.board_core.specs.declared.event.Answer.TheVariants.{NotEnabled, Seen}
use Rattle.board_core.specs.declared.row.KeptRow.{KeptRow}
use Rattle.board_core.specs.Lists.{IsIn}
use Rattle.board_core.specs.Rows.{due_word}
use Rattle.board_core.specs.Events.{sees, takes, writes, publishes, learns, keeps_share, copy_of, joined, spent}
use Rattle.board_core.specs.Machine.{Machine, run, after, answer, enabled, IsSoundMachine, slot_at, actor_at, state_of, machine_terms, machine_cells, may_look, may_place, looked_at, placed_in, with_actor_at, with_slot_at, is_empty_hand, is_slot_in, has_code, has, has_seen, path_seen, distance, all_written, written_of}
use Rattle.board_core.proofs.Machines.{after_event, sound_run, and_left, and_right, at_slot, at_here, at_else, slot_in, hand_lives, share_lives, living_at, elem_or_spent, is_in_of}
use Rattle.board_core.proofs.Parts.{fits_of}
use Rattle.board_core.proofs.Keeps.{in_hand, read_word, whole_filled}

pub sound_after : {A E : Type 0} (m n : Machine) (e : Event) (r : Result A E) → IsSoundMachine m → OnOk r (n ≡ after m e) → OnErr r (n ≡ m) → IsSoundMachine n
sound_after m n e (Ok a) h ok err = subst IsSoundMachine (sym ok) (after_event m e h)
sound_after m n e (Err a) h ok err = subst IsSoundMachine (sym err) h

-- one of two machines, by a test
if_either : (P : Machine → Type 0) (b : Bool) (x y : Machine) → (b ≡ true → P x) → P y → P (if b then x else y)
if_either P true x y h k = h refl
if_either P false x y h k = k

if_zero : (P : Machine → Type 0) (n : ℕ) (x y : Machine) → (n ≡ 0 → P x) → P y → P (if n == 0 then x else y)
if_zero P n x y h k = ⊎_elim
    (λ (e : n ≡ 0). subst (λ (b : Bool). P (if b then x else y)) (sym (eq-eqb n 0 e)) (h e))
    (λ (ne : n ≢ 0). subst (λ (b : Bool). P (if b then x else y)) (sym (ne_eqb n 0 ne)) k)
    (cases_eq n 0)

-- the codes that stand, stand, and the slots that are filled are the same
pub record Keeps (m n : Machine) : Type 0 where
  pub codes : (u : ℕ) → (slot_at m u).code ≢ 0 → (slot_at n u).code ≡ (slot_at m u).code
  pub filled : (u : ℕ) → (slot_at m u).filled ≡ true → slot_at n u ≡ slot_at m u
  pub fixed : (n.bits ≡ m.bits) × (n.rows ≡ m.rows) × (n.start ≡ m.start)

pub keeps_refl : (m : Machine) → Keeps m m
keeps_refl m = record { codes = λ u n. refl; filled = λ u e. refl; fixed = (refl, refl, refl) }

keeps_actors : (m : Machine) (as' : List Actor) → Keeps m (record { bits = m.bits; slots = m.slots; actors = as'; rows = m.rows; start = m.start })
keeps_actors m as' = record { codes = λ u n. refl; filled = λ u e. refl; fixed = (refl, refl, refl) }

-- a slot that is not filled is replaced by one with the same code, if it has a code
keeps_slot : (m : Machine) (s k : ℕ) (v : Slot) (a : Actor) → s < length m.slots → ((slot_at m s).filled ≡ true → ⊥) → ((slot_at m s).code ≢ 0 → v.code ≡ (slot_at m s).code) → Keeps m (with_actor_at (with_slot_at m s v) k a)
unfolding at_slot
keeps_slot m s k v a lt open' code = record {
  codes = λ u n. ⊎_elim
      (λ (e : u ≡ s). ap (λ (w : Slot). w.code) (at_here m s v lt u e) ∙ code (subst (λ (w : ℕ). (slot_at m w).code ≢ 0) e n) ∙ ap (λ (w : ℕ). (slot_at m w).code) (sym e))
      (λ (ne : u ≢ s). ap (λ (w : Slot). w.code) (at_else m s v lt u ne))
      (cases_eq u s);
  filled = λ u f. ⊎_elim
      (λ (e : u ≡ s). absurd (open' (ap (λ (w : ℕ). (slot_at m w).filled) (sym e) ∙ f)))
      (λ (ne : u ≢ s). at_else m s v lt u ne)
      (cases_eq u s);
  fixed = (refl, refl, refl);
}

-- a filled slot has a code
filled_coded : (m : Machine) (s : ℕ) → IsSoundMachine m → (slot_at m s).code ≡ 0 → (slot_at m s).filled ≡ true → ⊥
filled_coded m s h z f = let one : state_of (slot_at m s) ≡ 1 = ap (λ (b : Bool). if b then 1 else 0) f in (h.sound.filled_is_due s (λ e. omega arith)).1 z

-- a slot in hand is not filled
hand_open : (m : Machine) (k s : ℕ) → IsSoundMachine m → is_slot_in s (actor_at m k).hand ≡ true → (slot_at m s).filled ≡ true → ⊥
hand_open m k s h e f =
    let one : state_of (slot_at m s) ≡ 1 = ap (λ (b : Bool). if b then 1 else 0) f in
    let o = slot_in s (actor_at m k).hand e in
    let live = hand_lives (machine_terms m) (machine_cells m) m.actors k o.0 h.sound o.1 in
    let due = in_hand (machine_terms m) (machine_cells m) (actor_at m k) o.0 (fits_of h.sound k (actor_at m k) (living_at m.actors k live)) o.1 in
    let none : state_of (slot_at m s) ≡ 0 = ap (λ (u : ℕ). state_of (slot_at m u)) (sym o.2) ∙ due.0 in
    omega arith

pub keeps_event : (m : Machine) (e : Event) → IsSoundMachine m → Keeps m (after m e)
keeps_event m (LookCode k s) h = if_either (Keeps m) (may_look m k s) (looked_at m k s (slot_at m s).code) m
    (λ _. if_zero (Keeps m) (slot_at m s).code m (with_actor_at m k (sees (actor_at m k) s (slot_at m s).code)) (λ _. keeps_refl m) (keeps_actors m (set m.actors k (sees (actor_at m k) s (slot_at m s).code))))
    (keeps_refl m)
keeps_event m (PlaceCode k s x) h = if_either (Keeps m) (may_place m k s x) (placed_in m k s x) m
    (λ e.
    let a = actor_at m k in
    let v : Slot = record { code = x; filled = (slot_at m s).filled; words = (slot_at m s).words } in
    let front = and_left ((nat_lt 0 a.share && is_empty_hand a.hand) && (nat_lt s (length m.slots) && has_code x m.rows)) (path_seen m.bits x a.seen (distance m.bits x s)) e in
    let q = and_right (nat_lt 0 a.share && is_empty_hand a.hand) (nat_lt s (length m.slots) && has_code x m.rows) front in
    let lt : s < length m.slots = ltb-true s (length m.slots) (and_left (nat_lt s (length m.slots)) (has_code x m.rows) q) in
    if_zero (Keeps m) (slot_at m s).code (with_actor_at (with_slot_at m s v) k (takes a s x)) (with_actor_at m k (sees a s (slot_at m s).code))
    (λ z. keeps_slot m s k v (takes a s x) lt (filled_coded m s h z) (λ n. absurd (n z)))
    (keeps_actors m (set m.actors k (sees a s (slot_at m s).code))))
    (keeps_refl m)
keeps_event m (WriteWord k s at) h =
    let a = actor_at m k in
    let v : Slot = record { code = (slot_at m s).code; filled = (slot_at m s).filled; words = slice_set (slot_at m s).words at (due_word m.rows (slot_at m s).code at) } in
    if_either (Keeps m) (nat_lt s (length m.slots) && (is_slot_in s a.hand && nat_lt at 11)) (with_actor_at (with_slot_at m s v) k (writes a s (written_of a.hand) at)) m
    (λ e. keeps_slot m s k v (writes a s (written_of a.hand) at) (ltb-true s (length m.slots) (and_left (nat_lt s (length m.slots)) (is_slot_in s a.hand && nat_lt at 11) e))
    (hand_open m k s h (and_left (is_slot_in s a.hand) (nat_lt at 11) (and_right (nat_lt s (length m.slots)) (is_slot_in s a.hand && nat_lt at 11) e))) (λ _. refl))
    (keeps_refl m)
keeps_event m (Publish k s) h =
    let a = actor_at m k in
    let v : Slot = record { code = (slot_at m s).code; filled = true; words = (slot_at m s).words } in
    if_either (Keeps m) (nat_lt s (length m.slots) && (is_slot_in s a.hand && all_written 11 (written_of a.hand))) (with_actor_at (with_slot_at m s v) k (publishes a s)) m
    (λ e. keeps_slot m s k v (publishes a s) (ltb-true s (length m.slots) (and_left (nat_lt s (length m.slots)) (is_slot_in s a.hand && all_written 11 (written_of a.hand)) e))
    (hand_open m k s h (and_left (is_slot_in s a.hand) (all_written 11 (written_of a.hand)) (and_right (nat_lt s (length m.slots)) (is_slot_in s a.hand && all_written 11 (written_of a.hand)) e))) (λ _. refl))
    (keeps_refl m)
keeps_event m (LookState k s) h =
    let a = actor_at m k in
    if_either (Keeps m) ((nat_lt s (length m.slots) && a.living) && has_seen s a.seen) (if (slot_at m s).filled then with_actor_at m k (learns a s) else m) m
    (λ _. if_either (Keeps m) (slot_at m s).filled (with_actor_at m k (learns a s)) m (λ _. keeps_actors m (set m.actors k (learns a s))) (keeps_refl m))
    (keeps_refl m)
keeps_event m (ReadWord k s at) h = if_either (Keeps m) (nat_lt s (length m.slots) && (has s (actor_at m k).known && nat_lt at 11)) m m (λ _. keeps_refl m) (keeps_refl m)
keeps_event m (Split k part) h =
    let a = actor_at m k in
    if_either (Keeps m) (a.living && (nat_lt 0 part && nat_lt part a.share)) (record { bits = m.bits; slots = m.slots; actors = slice_set m.actors k (keeps_share a part) ++ copy_of a part ∷ []; rows = m.rows; start = m.start }) m
    (λ _. keeps_actors m (slice_set m.actors k (keeps_share a part) ++ copy_of a part ∷ []))
    (keeps_refl m)
keeps_event m (Join k j) h =
    let a = actor_at m k in
    let b = actor_at m j in
    if_either (Keeps m) ((a.living && b.living) && (not (k == j) && is_empty_hand b.hand)) (with_actor_at (with_actor_at m k (joined a b)) j spent) m
    (λ _. keeps_actors m (set (set m.actors k (joined a b)) j spent))
    (keeps_refl m)

keeps_then : (m n o : Machine) → Keeps m n → Keeps n o → Keeps m o
keeps_then m n o a b = record {
  codes = λ u c. let e = a.codes u c in b.codes u (λ z. c (sym e ∙ z)) ∙ e;
  filled = λ u f. let e = a.filled u f in b.filled u (ap (λ (v : Slot). v.filled) e ∙ f) ∙ e;
  fixed = (b.fixed.0 ∙ a.fixed.0, b.fixed.1 ∙ a.fixed.1, b.fixed.2 ∙ a.fixed.2);
}

pub keeps_run : (es : List Event) (m : Machine) → IsSoundMachine m → Keeps m (run m es)
keeps_run [] m h = keeps_refl m
keeps_run (e ∷ es) m h = keeps_then m (after m e) (run (after m e) es) (keeps_event m e h) (keeps_run es (after m e) (after_event m e h))

-- what is read is the due word
pub reads_due : (m : Machine) (k s at : ℕ) → IsSoundMachine m → enabled m (ReadWord k s at) ≡ true → answer m (ReadWord k s at) ≡ Seen (due_word m.rows (slot_at m s).code at)
reads_due m k s at h e =
    let q = and_right (nat_lt s (length m.slots)) (has s (actor_at m k).known && nat_lt at 11) e in
    let small : at < 11 = ltb-true at 11 (and_right (has s (actor_at m k).known) (nat_lt at 11) q) in
    let known = is_in_of s (actor_at m k).known (and_left (has s (actor_at m k).known) (nat_lt at 11) q) in
    let word : slice_index (slot_at m s).words at ≡ due_word m.rows (slot_at m s).code at = ⊎_elim
    (λ (there : get_elem? m.actors k ≡ some (actor_at m k)).
    let r = read_word (machine_terms m) (machine_cells m) m.actors k (actor_at m k) s at h.sound there known small in
    r.3 ∙ ap (λ (y : ℕ). due_word m.rows y at) (sym r.2))
    (λ (gone : actor_at m k ≡ spent). absurd (elim (subst (λ (a : Actor). IsIn s a.known) gone known) [ ]))
    (elem_or_spent m.actors k) in
    subst (λ (b : Bool). (if b then Seen (slice_index (slot_at m s).words at) else NotEnabled) ≡ Seen (due_word m.rows (slot_at m s).code at)) (sym e) (ap Seen word)

-- with the whole share and nothing in hand, each placed code is filled
pub whole_is_filled : (m : Machine) (k s : ℕ) → IsSoundMachine m → (actor_at m k).share ≡ 64 → (actor_at m k).hand ≡ None → (slot_at m s).code ≢ 0 → (slot_at m s).filled ≡ true
whole_is_filled m k s h whole none coded = ⊎_elim
    (λ (y : (slot_at m s).filled ≡ true). y)
    (λ (n : (slot_at m s).filled ≡ false).
    let some_share : 0 < (actor_at m k).share = omega arith in
    let live = share_lives (machine_terms m) (machine_cells m) m.actors k h.sound some_share in
    absurd (whole_filled (machine_terms m) (machine_cells m) m.actors k (actor_at m k) s h.sound (living_at m.actors k live) whole none coded (ap (λ (b : Bool). if b then 1 else 0) n)))
    (cases_Bool (slot_at m s).filled)

-- a run of the first events, as the loop has it
pub keeps_to : (m n : Machine) (es : List Event) → n ≡ run m es → IsSoundMachine m → Keeps m n
keeps_to m n es e h = subst (Keeps m) (sym e) (keeps_run es m h)

-- the same of a later machine, with the rows of the earlier one
pub reads_from : (m n : Machine) (es : List Event) → n ≡ run m es → IsSoundMachine m → (k s at : ℕ) → enabled n (ReadWord k s at) ≡ true → answer n (ReadWord k s at) ≡ Seen (due_word m.rows (slot_at n s).code at)
reads_from m n es e h k s at en =
    let sound : IsSoundMachine n = subst IsSoundMachine (sym e) (sound_run es m h) in
    reads_due n k s at sound en ∙ ap (λ (r : List KeptRow). Seen (due_word r (slot_at n s).code at)) (keeps_to m n es e h).fixed.1
