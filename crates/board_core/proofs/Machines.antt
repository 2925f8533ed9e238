-- Each event keeps the machine sound.
use Rattle.std.proofs.Common.{true≢false, eq-eqb, ne_eqb, ◌≡◌, ◌≢◌, ℕ, zero, suc, ◌+◌, ◌-◌, ◌%◌, ◌^◌, ◌<◌, ◌≤◌, Bool, true, false, not, ◌&&◌, List, [], ◌∷◌, ◌++◌, ◌⊎◌, ◌==◌, if◌then◌else◌, length, set, get_or, Option, Some, None, sym, refl, ap, ◌∙◌, subst, inl, inr, ⊎_elim, arith}
use Rattle.std.specs.Prelude.{slice_index, slice_index_or, slice_set, nat_lt}
use Rattle.std.proofs.lemmas.Bool.{cases_Bool, cases_eq, cases_lt, eqb-true, or_cases}
use Rattle.std.proofs.lemmas.List.{length-set, get_or-set_same, get_or-set_other}
use Rattle.std.proofs.Math.Nat.{add-mod_right, mod-eq_of_lt}
use borrow.Author.Tests.{ltb-true}
use mathlib.Core.Option.{some}
use lib.ListN.{get_elem?}
use Rattle.board_core.specs.declared.actor.Actor.{Actor}
use Rattle.board_core.specs.declared.actor.Hand.{Hand}
use Rattle.board_core.specs.declared.slot.Slot.{Slot}
use Rattle.board_core.specs.declared.row.KeptRow.{KeptRow}
use Rattle.board_core.specs.declared.event.Event.{Event}
use Rattle.board_core.specs.declared.event.Event.TheVariants.{LookCode, PlaceCode, WriteWord, Publish, LookState, ReadWord, Split, Join}
use Rattle.board_core.specs.Lists.{IsIn}
use Rattle.board_core.specs.Sound.{Terms, Cells, IsSound, Reaches}
use Rattle.board_core.specs.Events.{put, sees, takes, spent, placed, SawOther, keeps_share, copy_of, joined, writes, publishes, learns, written, published}
use Rattle.board_core.specs.Rows.{codes_of, home_slot, due_word}
use Rattle.board_core.specs.Machine.{Machine, run, free_slot, slot_at, actor_at, state_of, machine_cells, machine_terms, has_seen_other, path_seen, distance, has_code, has, has_seen, is_empty_hand, is_slot_in, all_written, written_of, may_look, may_place, with_actor_at, with_slot_at, looked_at, placed_in, after, IsShaped, IsSoundMachine}
use Rattle.board_core.proofs.Keeps.{look_code, place_free, each_put, put_here, put_else, split, join, write_word, publish, look_state}
use Rattle.board_core.proofs.Parts.{fits_of}
use Rattle.board_core.proofs.Lists.{times-in, terms_le}
use Rattle.board_core.proofs.Sets.{any_default}
use Rattle.board_core.proofs.Homes.{home_slot-below}

pub and_left : (a b : Bool) → (a && b) ≡ true → a ≡ true
and_left true b e = refl
and_left false b e = e

pub and_right : (a b : Bool) → (a && b) ≡ true → b ≡ true
and_right true b e = e
and_right false b e = absurd (true≢false (sym e))

pub other_of : (a b : ℕ) → not (a == b) ≡ true → a ≢ b
other_of a b e h = true≢false (sym e ∙ ap not (eq-eqb a b h))

pub saw_other : (x s : ℕ) (seen : List (ℕ × ℕ)) → has_seen_other x s seen ≡ true → (y : ℕ) × IsIn (s, y) seen × (y ≢ x)
saw_other x s [] e = absurd (true≢false (sym e))
saw_other x s (p ∷ ps) e = ⊎_elim
    (λ (h : ((p.0 == s) && not (p.1 == x)) ≡ true).
    let a = eqb-true p.0 s (and_left (p.0 == s) (not (p.1 == x)) h) in
    (p.1, inl (λ i. (sym a i, p.1)), other_of p.1 x (and_right (p.0 == s) (not (p.1 == x)) h)))
    (λ (h : has_seen_other x s ps ≡ true). let o = saw_other x s ps h in (o.0, inr o.1, o.2))
    (or_cases ((p.0 == s) && not (p.1 == x)) (has_seen_other x s ps) e)

pub path_of : (bits x : ℕ) (seen : List (ℕ × ℕ)) (n j : ℕ) → path_seen bits x seen n ≡ true → j < n → has_seen_other x ((home_slot bits x + j) % 2 ^ bits) seen ≡ true
path_of bits x seen zero j e lt = absurd (omega arith)
path_of bits x seen (suc n) j e lt = ⊎_elim
    (λ (h : j ≡ n). subst (λ (k : ℕ). has_seen_other x ((home_slot bits x + k) % 2 ^ bits) seen ≡ true) (sym h) (and_left (has_seen_other x ((home_slot bits x + n) % 2 ^ bits) seen) (path_seen bits x seen n) e))
    (λ (h : j ≢ n). path_of bits x seen n j (and_right (has_seen_other x ((home_slot bits x + n) % 2 ^ bits) seen) (path_seen bits x seen n) e) (omega arith))
    (cases_eq j n)

pub code_of : (x : ℕ) (rows : List KeptRow) → has_code x rows ≡ true → IsIn x (codes_of rows)
code_of x [] e = absurd (true≢false (sym e))
code_of x (r ∷ rs) e = ⊎_elim (λ (h : (r.code == x) ≡ true). inl (sym (eqb-true r.code x h))) (λ (h : has_code x rs ≡ true). inr (code_of x rs h)) (or_cases (r.code == x) (has_code x rs) e)

spot_distance : (n h s : ℕ) → h < n → s < n → (h + (s + (n - h)) % n) % n ≡ s
spot_distance n h s a b = ⊎_elim
    (λ (lt : s < h).
    let small : s + (n - h) < n = omega arith in
    let one : (s + (n - h)) % n ≡ s + (n - h) = mod_small (s + (n - h)) n small in
    let sum : h + (s + (n - h)) ≡ s + n = omega arith in
    ap (λ k. (h + k) % n) one ∙ ap (λ k. k % n) sum ∙ add-mod_right s n ∙ mod_small s n b)
    (λ (ge : h ≤ s).
    let sum : s + (n - h) ≡ (s - h) + n = omega arith in
    let one : (s + (n - h)) % n ≡ s - h = ap (λ k. k % n) sum ∙ add-mod_right (s - h) n ∙ mod_small (s - h) n (omega arith) in
    let back : h + (s - h) ≡ s = omega arith in
    ap (λ k. (h + k) % n) one ∙ ap (λ k. k % n) back ∙ mod_small s n b)
    (cases_lt s h)
  where
    mod_small : (a n : ℕ) → a < n → a % n ≡ a
    mod_small a n lt = mod-eq_of_lt lt

pub living_at : (l : List Actor) (k : ℕ) → (get_or l k spent).living ≡ true → get_elem? l k ≡ some (get_or l k spent)
living_at [] k e = absurd (true≢false (sym e))
living_at (a ∷ l) zero e = refl
living_at (a ∷ l) (suc k) e = living_at l k e

pub free_hand : (o : Option Hand) → is_empty_hand o ≡ true → o ≡ None
free_hand None e = refl
free_hand (Some h) e = absurd (true≢false (sym e))

pub path_reaches : (m : Machine) (a : Actor) (x s : ℕ) → m.bits ≤ 24 → s < 2 ^ m.bits → path_seen m.bits x a.seen (distance m.bits x s) ≡ true → Reaches (machine_terms m) (SawOther a x) x s
path_reaches m a x s few lt e =
    let n : ℕ = 2 ^ m.bits in
    let h : ℕ = home_slot m.bits x in
    let below : h < n = home_slot-below m.bits x (omega arith) in
    let i : ℕ = (s + (n - h)) % n in
    let small : i < n = omega arith in
    (i, small, sym (spot_distance n h s below lt), λ j less. saw_other x ((h + j) % n) a.seen (path_of m.bits x a.seen i j e less))

-- the slots of the machine after a code was placed
pub cells_placed : (m : Machine) (s x : ℕ) → s < length m.slots
    → machine_cells (with_slot_at m s (record { code = x; filled = (slot_at m s).filled; words = (slot_at m s).words })) ≡ placed (machine_cells m) s x
cells_placed m s x lt = λ i. record { code = λ u. code u i; state = λ u. state u i; row = λ u at. row u at i }
  where
    v : Slot
    v = record { code = x; filled = (slot_at m s).filled; words = (slot_at m s).words }

    at_slot : ℕ → Slot
    at_slot u = slice_index_or (slice_set m.slots s v) u free_slot

    here : (u : ℕ) → u ≡ s → at_slot u ≡ v
    here u e = ap at_slot e ∙ get_or-set_same m.slots s v free_slot lt

    elsewhere : (u : ℕ) → u ≢ s → at_slot u ≡ slot_at m u
    elsewhere u n = get_or-set_other m.slots s u v free_slot n

    code : (u : ℕ) → (at_slot u).code ≡ put (λ (w : ℕ). (slot_at m w).code) s x u
    code u = each_put (λ y. (at_slot u).code ≡ y) (λ (w : ℕ). (slot_at m w).code) s x u (λ e. ap (λ (w : Slot). w.code) (here u e)) (λ n. ap (λ (w : Slot). w.code) (elsewhere u n))

    state : (u : ℕ) → state_of (at_slot u) ≡ state_of (slot_at m u)
    state u = ⊎_elim (λ (e : u ≡ s). ap state_of (here u e) ∙ ap (λ k. state_of (slot_at m k)) (sym e)) (λ (n : u ≢ s). ap state_of (elsewhere u n)) (cases_eq u s)

    row : (u at : ℕ) → slice_index (at_slot u).words at ≡ slice_index (slot_at m u).words at
    row u at = ⊎_elim (λ (e : u ≡ s). ap (λ (w : Slot). slice_index w.words at) (here u e) ∙ ap (λ k. slice_index (slot_at m k).words at) (sym e)) (λ (n : u ≢ s). ap (λ (w : Slot). slice_index w.words at) (elsewhere u n)) (cases_eq u s)

-- an event that is not enabled changes nothing; an enabled one is a case
pub if_enabled : (b : Bool) (x y : Machine) → (b ≡ true → IsSoundMachine x) → IsSoundMachine y → IsSoundMachine (if b then x else y)
if_enabled true x y h k = h refl
if_enabled false x y h k = k

if_code : (n : ℕ) (x y : Machine) → (n ≡ 0 → IsSoundMachine x) → (n ≢ 0 → IsSoundMachine y) → IsSoundMachine (if n == 0 then x else y)
if_code n x y h k = ⊎_elim
    (λ (e : n ≡ 0). subst (λ (b : Bool). IsSoundMachine (if b then x else y)) (sym (eq-eqb n 0 e)) (h e))
    (λ (m : n ≢ 0). subst (λ (b : Bool). IsSoundMachine (if b then x else y)) (sym (ne_eqb n 0 m)) (k m))
    (cases_eq n 0)

pub shaped_actor : (m : Machine) (k : ℕ) (a : Actor) → IsShaped m → IsShaped (with_actor_at m k a)
shaped_actor m k a h = record { slots = h.slots; few = h.few; words = h.words; coded = h.coded }

pub shaped_slot : (m : Machine) (s : ℕ) (v : Slot) → length v.words ≡ 11 → s < length m.slots → IsShaped m → IsShaped (with_slot_at m s v)
shaped_slot m s v len lt h = record {
  slots = length-set m.slots s v ∙ h.slots;
  few = h.few;
  words = λ u less. ⊎_elim
      (λ (e : u ≡ s). ap (λ (w : Slot). length w.words) (ap (λ k. slice_index_or (slice_set m.slots s v) k free_slot) e ∙ get_or-set_same m.slots s v free_slot lt) ∙ len)
      (λ (n : u ≢ s). ap (λ (w : Slot). length w.words) (get_or-set_other m.slots s u v free_slot n) ∙ h.words u (subst (λ (k : ℕ). u < k) (length-set m.slots s v) less))
      (cases_eq u s);
  coded = h.coded;
}

pub after_look : (m : Machine) (k s : ℕ) → IsSoundMachine m → IsSoundMachine (after m (LookCode k s))
after_look m k s h = if_enabled (may_look m k s) (looked_at m k s (slot_at m s).code) m
    (λ e. let live = and_left (actor_at m k).living (nat_lt s (length m.slots)) e in
    if_code (slot_at m s).code m (with_actor_at m k (sees (actor_at m k) s (slot_at m s).code))
    (λ _. h)
    (λ n. record {
      shaped = shaped_actor m k (sees (actor_at m k) s (slot_at m s).code) h.shaped;
      sound = look_code (machine_terms m) (machine_cells m) m.actors k (actor_at m k) s h.sound (living_at m.actors k live) live n;
    }))
    h

pub elem_or_spent : (l : List Actor) (k : ℕ) → (get_elem? l k ≡ some (get_or l k spent)) ⊎ (get_or l k spent ≡ spent)
elem_or_spent [] k = inr refl
elem_or_spent (a ∷ l) zero = inl refl
elem_or_spent (a ∷ l) (suc k) = elem_or_spent l k

-- who has a share is living
pub share_lives : (t : Terms) (c : Cells) (vs : List Actor) (k : ℕ) → IsSound t c vs → 0 < (get_or vs k spent).share → (get_or vs k spent).living ≡ true
share_lives t c vs k w some_share = ⊎_elim
    (λ (at : get_elem? vs k ≡ some (get_or vs k spent)).
    ⊎_elim (λ (y : (get_or vs k spent).living ≡ true). y)
    (λ (n : (get_or vs k spent).living ≡ false). let g = ((fits_of w k (get_or vs k spent) at).gone n).0 in absurd (omega arith))
    (cases_Bool (get_or vs k spent).living))
    (λ (s : get_or vs k spent ≡ spent). let g : (get_or vs k spent).share ≡ 0 = ap (λ (a : Actor). a.share) s in absurd (omega arith))
    (elem_or_spent vs k)

pub after_place : (m : Machine) (k s x : ℕ) → x ≢ 0 → IsSoundMachine m → IsSoundMachine (after m (PlaceCode k s x))
after_place m k s x nz h = if_enabled (may_place m k s x) (placed_in m k s x) m
    (λ e.
    let a = actor_at m k in
    let front = and_left ((nat_lt 0 a.share && is_empty_hand a.hand) && (nat_lt s (length m.slots) && has_code x m.rows)) (path_seen m.bits x a.seen (distance m.bits x s)) e in
    let seen = and_right ((nat_lt 0 a.share && is_empty_hand a.hand) && (nat_lt s (length m.slots) && has_code x m.rows)) (path_seen m.bits x a.seen (distance m.bits x s)) e in
    let p = and_left (nat_lt 0 a.share && is_empty_hand a.hand) (nat_lt s (length m.slots) && has_code x m.rows) front in
    let q = and_right (nat_lt 0 a.share && is_empty_hand a.hand) (nat_lt s (length m.slots) && has_code x m.rows) front in
    let live = share_lives (machine_terms m) (machine_cells m) m.actors k h.sound (ltb-true 0 a.share (and_left (nat_lt 0 a.share) (is_empty_hand a.hand) p)) in
    let free = free_hand a.hand (and_right (nat_lt 0 a.share) (is_empty_hand a.hand) p) in
    let lt : s < length m.slots = ltb-true s (length m.slots) (and_left (nat_lt s (length m.slots)) (has_code x m.rows) q) in
    let code = code_of x m.rows (and_right (nat_lt s (length m.slots)) (has_code x m.rows) q) in
    let few : m.bits ≤ 24 = h.shaped.few.1 in
    let path = path_reaches m a x s few (subst (λ (n : ℕ). s < n) h.shaped.slots lt) seen in
    let at = living_at m.actors k live in
    let v : Slot = record { code = x; filled = (slot_at m s).filled; words = (slot_at m s).words } in
    if_code (slot_at m s).code (with_actor_at (with_slot_at m s v) k (takes a s x)) (with_actor_at m k (sees a s (slot_at m s).code))
    (λ z. record {
      shaped = shaped_actor (with_slot_at m s v) k (takes a s x) (shaped_slot m s v (h.shaped.words s lt) lt h.shaped);
      sound = subst (λ (c : Cells). IsSound (machine_terms m) c (set m.actors k (takes a s x))) (sym (cells_placed m s x lt)) (place_free (machine_terms m) (machine_cells m) m.actors k a s x h.sound at live free nz code z path);
    })
    (λ n. record {
      shaped = shaped_actor m k (sees a s (slot_at m s).code) h.shaped;
      sound = look_code (machine_terms m) (machine_cells m) m.actors k a s h.sound at live n;
    }))
    h

-- 0 is none of the machine's codes
after_place_zero : (m : Machine) (k s x : ℕ) → x ≡ 0 → IsSoundMachine m → IsSoundMachine (after m (PlaceCode k s x))
after_place_zero m k s x z h = if_enabled (may_place m k s x) (placed_in m k s x) m
    (λ e.
    let a = actor_at m k in
    let front = and_left ((nat_lt 0 a.share && is_empty_hand a.hand) && (nat_lt s (length m.slots) && has_code x m.rows)) (path_seen m.bits x a.seen (distance m.bits x s)) e in
    let q = and_right (nat_lt 0 a.share && is_empty_hand a.hand) (nat_lt s (length m.slots) && has_code x m.rows) front in
    let code = code_of x m.rows (and_right (nat_lt s (length m.slots)) (has_code x m.rows) q) in
    let some = times-in 0 (codes_of m.rows) (subst (λ (y : ℕ). IsIn y (codes_of m.rows)) z code) in
    let none = h.shaped.coded in absurd (omega arith))
    h

pub after_split : (m : Machine) (k part : ℕ) → IsSoundMachine m → IsSoundMachine (after m (Split k part))
after_split m k part h =
    let a = actor_at m k in
    let x : Machine = record { bits = m.bits; slots = m.slots; actors = slice_set m.actors k (keeps_share a part) ++ copy_of a part ∷ []; rows = m.rows; start = m.start } in
    if_enabled (a.living && (nat_lt 0 part && nat_lt part a.share)) x m
    (λ e.
    let live = and_left a.living (nat_lt 0 part && nat_lt part a.share) e in
    let q = and_right a.living (nat_lt 0 part && nat_lt part a.share) e in
    record {
      shaped = record { slots = h.shaped.slots; few = h.shaped.few; words = h.shaped.words; coded = h.shaped.coded };
      sound = split (machine_terms m) (machine_cells m) m.actors k a part h.sound (living_at m.actors k live) live (ltb-true 0 part (and_left (nat_lt 0 part) (nat_lt part a.share) q)) (ltb-true part a.share (and_right (nat_lt 0 part) (nat_lt part a.share) q));
    })
    h

still_there : (l : List Actor) (k j : ℕ) (w b : Actor) → j ≢ k → get_elem? l j ≡ some b → get_elem? (set l k w) j ≡ some b
still_there [] k j w b n e = e
still_there (x ∷ l) zero zero w b n e = absurd (n refl)
still_there (x ∷ l) zero (suc j) w b n e = e
still_there (x ∷ l) (suc k) zero w b n e = e
still_there (x ∷ l) (suc k) (suc j) w b n e = still_there l k j w b (λ h. n (ap suc h)) e

pub after_join : (m : Machine) (k j : ℕ) → IsSoundMachine m → IsSoundMachine (after m (Join k j))
after_join m k j h =
    let a = actor_at m k in
    let b = actor_at m j in
    if_enabled ((a.living && b.living) && (not (k == j) && is_empty_hand b.hand)) (with_actor_at (with_actor_at m k (joined a b)) j spent) m
    (λ e.
    let p = and_left (a.living && b.living) (not (k == j) && is_empty_hand b.hand) e in
    let q = and_right (a.living && b.living) (not (k == j) && is_empty_hand b.hand) e in
    let live = and_left a.living b.living p in
    let live' = and_right a.living b.living p in
    let ne : j ≢ k = λ s. other_of k j (and_left (not (k == j)) (is_empty_hand b.hand) q) (sym s) in
    let free = free_hand b.hand (and_right (not (k == j)) (is_empty_hand b.hand) q) in
    record {
      shaped = record { slots = h.shaped.slots; few = h.shaped.few; words = h.shaped.words; coded = h.shaped.coded };
      sound = join (machine_terms m) (machine_cells m) m.actors k j a b h.sound (living_at m.actors k live) ne (still_there m.actors k j (joined a b) b ne (living_at m.actors j live')) live live' free;
    })
    h

pub same_default : (l : List Slot) (i : ℕ) (a b : Slot) → i < length l → get_or l i a ≡ get_or l i b
same_default [] i a b lt = absurd (omega arith)
same_default (x ∷ l) zero a b lt = refl
same_default (x ∷ l) (suc i) a b lt = same_default l i a b (omega arith)

-- a slot is replaced
module _ (m : Machine) (s : ℕ) (v : Slot) (lt : s < length m.slots) where
  unfoldable pub at_slot : ℕ → Slot
  at_slot u = slice_index_or (slice_set m.slots s v) u free_slot

  pub at_here : (u : ℕ) → u ≡ s → at_slot u ≡ v
  unfolding at_slot
  at_here u e = ap at_slot e ∙ get_or-set_same m.slots s v free_slot lt

  pub at_else : (u : ℕ) → u ≢ s → at_slot u ≡ slot_at m u
  unfolding at_slot
  at_else u n = get_or-set_other m.slots s u v free_slot n

  -- a reading of the slots afterwards, by cases
  reading : {A : Type 0} (f : Slot → A) (u : ℕ) → f (at_slot u) ≡ put (λ (w : ℕ). f (slot_at m w)) s (f v) u
  reading f u = each_put (λ y. f (at_slot u) ≡ y) (λ (w : ℕ). f (slot_at m w)) s (f v) u (λ e. ap f (at_here u e)) (λ n. ap f (at_else u n))

  pub same_reading : {A : Type 0} (f : Slot → A) (u : ℕ) → f v ≡ f (slot_at m s) → f (at_slot u) ≡ f (slot_at m u)
  same_reading f u e = ⊎_elim (λ (h : u ≡ s). ap f (at_here u h) ∙ e ∙ ap (λ k. f (slot_at m k)) (sym h)) (λ (n : u ≢ s). ap f (at_else u n)) (cases_eq u s)

pub cells_written : (m : Machine) (s at x : ℕ) → s < length m.slots → at < length (slot_at m s).words
    → machine_cells (with_slot_at m s (record { code = (slot_at m s).code; filled = (slot_at m s).filled; words = slice_set (slot_at m s).words at x })) ≡ written (machine_cells m) s at x
unfolding at_slot
cells_written m s at x lt small =
    let v : Slot = record { code = (slot_at m s).code; filled = (slot_at m s).filled; words = slice_set (slot_at m s).words at x } in
    let old : ℕ → ℕ → ℕ = λ u k. slice_index (slot_at m u).words k in
    let row : (u k : ℕ) → slice_index (at_slot m s v lt u).words k ≡ put old s (put (old s) at x) u k = λ u k.
    reading m s v lt (λ (w : Slot). slice_index w.words k) u ∙ each_put (λ (f : ℕ → ℕ). put (λ (w : ℕ). old w k) s (slice_index (slice_set (slot_at m s).words at x) k) u ≡ f k) old s (put (old s) at x) u
    (λ e. ap (put (λ (w : ℕ). old w k) s (slice_index (slice_set (slot_at m s).words at x) k)) e ∙ put_here (λ (w : ℕ). old w k) s (slice_index (slice_set (slot_at m s).words at x) k)
    ∙ each_put (λ y. slice_index (slice_set (slot_at m s).words at x) k ≡ y) (old s) at x k
    (λ ek. ap (slice_index (slice_set (slot_at m s).words at x)) ek ∙ get_or-set_same (slot_at m s).words at x 0 small)
    (λ nk. get_or-set_other (slot_at m s).words at k x 0 nk))
    (λ n. put_else (λ (w : ℕ). old w k) s (slice_index (slice_set (slot_at m s).words at x) k) u n) in
    λ i. record { code = λ u. same_reading m s v lt (λ (w : Slot). w.code) u refl i; state = λ u. same_reading m s v lt state_of u refl i; row = λ u k. row u k i }

pub cells_published : (m : Machine) (s : ℕ) → s < length m.slots
    → machine_cells (with_slot_at m s (record { code = (slot_at m s).code; filled = true; words = (slot_at m s).words })) ≡ published (machine_cells m) s
unfolding at_slot
cells_published m s lt =
    let v : Slot = record { code = (slot_at m s).code; filled = true; words = (slot_at m s).words } in
    λ i. record { code = λ u. same_reading m s v lt (λ (w : Slot). w.code) u refl i; state = λ u. reading m s v lt state_of u i; row = λ u k. same_reading m s v lt (λ (w : Slot). slice_index w.words k) u refl i }

pub slot_in : (s : ℕ) (o : Option Hand) → is_slot_in s o ≡ true → (h : Hand) × (o ≡ Some h) × (h.slot ≡ s)
slot_in s None e = absurd (true≢false (sym e))
slot_in s (Some h) e = (h, refl, eqb-true h.slot s e)

-- who has something in hand, or knows of a filled slot, is living
pub hand_lives : (t : Terms) (c : Cells) (vs : List Actor) (k : ℕ) (h : Hand) → IsSound t c vs → (get_or vs k spent).hand ≡ Some h → (get_or vs k spent).living ≡ true
hand_lives t c vs k h w e = ⊎_elim
    (λ (at : get_elem? vs k ≡ some (get_or vs k spent)).
    ⊎_elim (λ (y : (get_or vs k spent).living ≡ true). y)
    (λ (n : (get_or vs k spent).living ≡ false). let g = ((fits_of w k (get_or vs k spent) at).gone n).4 in absurd (cc))
    (cases_Bool (get_or vs k spent).living))
    (λ (s : get_or vs k spent ≡ spent). let g : (get_or vs k spent).hand ≡ None = ap (λ (a : Actor). a.hand) s in absurd (cc))
    (elem_or_spent vs k)

pub written_is : (o : Option Hand) (h : Hand) → o ≡ Some h → written_of o ≡ h.written
written_is o h e = ap written_of e

pub after_write : (m : Machine) (k s at : ℕ) → IsSoundMachine m → IsSoundMachine (after m (WriteWord k s at))
after_write m k s at h =
    let a = actor_at m k in
    let v : Slot = record { code = (slot_at m s).code; filled = (slot_at m s).filled; words = slice_set (slot_at m s).words at (due_word m.rows (slot_at m s).code at) } in
    if_enabled (nat_lt s (length m.slots) && (is_slot_in s a.hand && nat_lt at 11)) (with_actor_at (with_slot_at m s v) k (writes a s (written_of a.hand) at)) m
    (λ e.
    let lt : s < length m.slots = ltb-true s (length m.slots) (and_left (nat_lt s (length m.slots)) (is_slot_in s a.hand && nat_lt at 11) e) in
    let q = and_right (nat_lt s (length m.slots)) (is_slot_in s a.hand && nat_lt at 11) e in
    let small : at < 11 = ltb-true at 11 (and_right (is_slot_in s a.hand) (nat_lt at 11) q) in
    let o = slot_in s a.hand (and_left (is_slot_in s a.hand) (nat_lt at 11) q) in
    let live = hand_lives (machine_terms m) (machine_cells m) m.actors k o.0 h.sound o.1 in
    let len = h.shaped.words s lt in
    let cells = cells_written m s at (due_word m.rows (slot_at m s).code at) lt (omega arith) in
    let sound = write_word (machine_terms m) (machine_cells m) m.actors k a o.0 at h.sound (living_at m.actors k live) live o.1 in
    record {
      shaped = shaped_actor (with_slot_at m s v) k (writes a s (written_of a.hand) at) (shaped_slot m s v (length-set (slot_at m s).words at (due_word m.rows (slot_at m s).code at) ∙ len) lt h.shaped);
      sound = subst (λ (c : Cells). IsSound (machine_terms m) c (set m.actors k (writes a s (written_of a.hand) at))) (sym cells)
          (subst (λ (p : ℕ × List ℕ). IsSound (machine_terms m) (written (machine_cells m) p.0 at (due_word m.rows (slot_at m p.0).code at)) (set m.actors k (writes a p.0 p.1 at))) (λ i. (o.2 i, sym (written_is a.hand o.0 o.1) i)) sound);
    })
    h

pub is_in_of : (x : ℕ) (xs : List ℕ) → has x xs ≡ true → IsIn x xs
is_in_of x [] e = absurd (true≢false (sym e))
is_in_of x (y ∷ ys) e = ⊎_elim (λ (h : (y == x) ≡ true). inl (sym (eqb-true y x h))) (λ (h : has x ys ≡ true). inr (is_in_of x ys h)) (or_cases (y == x) (has x ys) e)

pub written_all : (n : ℕ) (l : List ℕ) (at : ℕ) → all_written n l ≡ true → at < n → IsIn at l
written_all zero l at e lt = absurd (omega arith)
written_all (suc n) l at e lt = ⊎_elim
    (λ (h : at ≡ n). subst (λ (k : ℕ). IsIn k l) (sym h) (is_in_of n l (and_left (has n l) (all_written n l) e)))
    (λ (h : at ≢ n). written_all n l at (and_right (has n l) (all_written n l) e) (omega arith))
    (cases_eq at n)

pub after_publish : (m : Machine) (k s : ℕ) → IsSoundMachine m → IsSoundMachine (after m (Publish k s))
after_publish m k s h =
    let a = actor_at m k in
    let v : Slot = record { code = (slot_at m s).code; filled = true; words = (slot_at m s).words } in
    if_enabled (nat_lt s (length m.slots) && (is_slot_in s a.hand && all_written 11 (written_of a.hand))) (with_actor_at (with_slot_at m s v) k (publishes a s)) m
    (λ e.
    let lt : s < length m.slots = ltb-true s (length m.slots) (and_left (nat_lt s (length m.slots)) (is_slot_in s a.hand && all_written 11 (written_of a.hand)) e) in
    let q = and_right (nat_lt s (length m.slots)) (is_slot_in s a.hand && all_written 11 (written_of a.hand)) e in
    let o = slot_in s a.hand (and_left (is_slot_in s a.hand) (all_written 11 (written_of a.hand)) q) in
    let all = and_right (is_slot_in s a.hand) (all_written 11 (written_of a.hand)) q in
    let live = hand_lives (machine_terms m) (machine_cells m) m.actors k o.0 h.sound o.1 in
    let whole : (at : ℕ) → at < 11 → IsIn at o.0.written = λ at less. subst (IsIn at) (written_is a.hand o.0 o.1) (written_all 11 (written_of a.hand) at all less) in
    let sound = publish (machine_terms m) (machine_cells m) m.actors k a o.0 h.sound (living_at m.actors k live) live o.1 whole in
    record {
      shaped = shaped_actor (with_slot_at m s v) k (publishes a s) (shaped_slot m s v (h.shaped.words s lt) lt h.shaped);
      sound = subst (λ (c : Cells). IsSound (machine_terms m) c (set m.actors k (publishes a s))) (sym (cells_published m s lt))
          (subst (λ (u : ℕ). IsSound (machine_terms m) (published (machine_cells m) u) (set m.actors k (publishes a u))) o.2 sound);
    })
    h

pub seen_of : (s : ℕ) (seen : List (ℕ × ℕ)) → has_seen s seen ≡ true → (x : ℕ) × IsIn (s, x) seen
seen_of s [] e = absurd (true≢false (sym e))
seen_of s (p ∷ ps) e = ⊎_elim (λ (h : (p.0 == s) ≡ true). (p.1, inl (λ i. (sym (eqb-true p.0 s h) i, p.1)))) (λ (h : has_seen s ps ≡ true). let o = seen_of s ps h in (o.0, inr o.1)) (or_cases (p.0 == s) (has_seen s ps) e)

pub after_look_state : (m : Machine) (k s : ℕ) → IsSoundMachine m → IsSoundMachine (after m (LookState k s))
after_look_state m k s h =
    let a = actor_at m k in
    if_enabled ((nat_lt s (length m.slots) && a.living) && has_seen s a.seen) (if (slot_at m s).filled then with_actor_at m k (learns a s) else m) m
    (λ e.
    let p = and_left (nat_lt s (length m.slots) && a.living) (has_seen s a.seen) e in
    let live = and_right (nat_lt s (length m.slots)) a.living p in
    let saw = seen_of s a.seen (and_right (nat_lt s (length m.slots) && a.living) (has_seen s a.seen) e) in
    if_enabled (slot_at m s).filled (with_actor_at m k (learns a s)) m
    (λ f.
    let one : state_of (slot_at m s) ≡ 1 = ap (λ (b : Bool). if b then 1 else 0) f in
    record {
      shaped = shaped_actor m k (learns a s) h.shaped;
      sound = look_state (machine_terms m) (machine_cells m) m.actors k a s h.sound (living_at m.actors k live) live saw (λ z. omega arith);
    })
    h)
    h

pub after_read : (m : Machine) (k s at : ℕ) → IsSoundMachine m → IsSoundMachine (after m (ReadWord k s at))
after_read m k s at h = if_enabled (nat_lt s (length m.slots) && (has s (actor_at m k).known && nat_lt at 11)) m m (λ _. h) h

-- after every event
pub after_event : (m : Machine) (e : Event) → IsSoundMachine m → IsSoundMachine (after m e)
after_event m (LookCode k s) h = after_look m k s h
after_event m (PlaceCode k s x) h = ⊎_elim (λ (z : x ≡ 0). after_place_zero m k s x z h) (λ (n : x ≢ 0). after_place m k s x n h) (cases_eq x 0)
after_event m (WriteWord k s at) h = after_write m k s at h
after_event m (Publish k s) h = after_publish m k s h
after_event m (LookState k s) h = after_look_state m k s h
after_event m (ReadWord k s at) h = after_read m k s at h
after_event m (Split k part) h = after_split m k part h
after_event m (Join k j) h = after_join m k j h

pub sound_run : (es : List Event) (m : Machine) → IsSoundMachine m → IsSoundMachine (run m es)
sound_run [] m h = h
sound_run (e ∷ es) m h = sound_run es (after m e) (after_event m e h)

-- two living actors have no more than the whole share between them
pub shares_le : (m : Machine) (k j : ℕ) → IsSoundMachine m → (actor_at m k).living ≡ true → (actor_at m j).living ≡ true → j ≢ k → (actor_at m k).share + (actor_at m j).share ≤ 64
shares_le m k j h live live' ne =
    let f : Actor → ℕ = λ a. a.share in
    let le = terms_le f m.actors k j (actor_at m k) (actor_at m j) ne (living_at m.actors k live) (living_at m.actors j live') in
    let all = h.sound.shares_add_up.1 in
    omega arith

-- the same, of actors that are read from the list with any default
pub shares_below : (m : Machine) (k j : ℕ) (a b : Actor) → IsSoundMachine m → k < length m.actors → j < length m.actors → (k ≡ j → ⊥) → a ≡ get_or m.actors k a → b ≡ get_or m.actors j b
    → a.living ≡ true → b.living ≡ true → (actor_at m k).share + (actor_at m j).share < 2 ^ 64
shares_below m k j a b h lk lj ne ea eb live live' =
    let one : a ≡ actor_at m k = ea ∙ any_default m.actors k a spent lk in
    let two : b ≡ actor_at m j = eb ∙ any_default m.actors j b spent lj in
    let le = shares_le m k j h (sym (ap (λ (x : Actor). x.living) one) ∙ live) (sym (ap (λ (x : Actor). x.living) two) ∙ live') (λ e. ne (sym e)) in
    omega arith
