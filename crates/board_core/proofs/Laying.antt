-- The kept rows are placed one by one.
use Rattle.std.proofs.Common.{eq-eqb, ne_eqb, ◌≡◌, ◌≢◌, true, replicate, ℕ, zero, suc, ◌+◌, ◌%◌, ◌^◌, ◌<◌, ◌≤◌, Bool, List, [], ◌∷◌, ◌++◌, if◌then◌else◌, length, take, get_or, sym, refl, ap, ◌∙◌, subst, inl, inr, ⊎_elim, arith}
use Rattle.std.specs.Prelude.{slice_index, slice_set}
use Rattle.std.proofs.lemmas.Bool.{cases_eq}
use Rattle.std.proofs.lemmas.List.{length-map, map-append, take_more, length-set, get_or-set_same, get_or-set_other}
use Rattle.board_core.specs.declared.slot.Slot.{Slot}
use Rattle.board_core.specs.declared.row.KeptRow.{KeptRow}
use Rattle.board_core.specs.Lists.{IsIn, times}
use Rattle.board_core.specs.Sound.{IsSound}
use Rattle.board_core.specs.Rows.{terms, codes_of, due_word, words_of, home_slot}
use Rattle.board_core.specs.Events.{put, newcomer, Laid}
use Rattle.board_core.specs.Machine.{Machine, IsShaped, IsSoundMachine, slot_of, free_slot, cells_in, state_of}
use Rattle.board_core.specs.Start.{filled_slot, code_from, LaysRow, LaysRows}
use Rattle.board_core.specs.Laid.{IsLaid}
use Rattle.board_core.proofs.Keeps.{each_put}
use Rattle.board_core.proofs.Lists.{times-in}
use Rattle.board_core.proofs.Begins.{begin_more}
use Rattle.board_core.proofs.Pigeons.{pigeons, spot_once}

-- the first row with a code is the one with it
pub due_is : (rows : List KeptRow) (r : KeptRow) (at : ℕ) → ((p q : KeptRow) → IsIn p rows → IsIn q rows → p.code ≡ q.code → p ≡ q) → IsIn r rows → due_word rows r.code at ≡ slice_index (words_of r.words) at
due_is [] r at same i = elim i [ ]
due_is (p ∷ ps) r at same i = ⊎_elim
    (λ (e : r.code ≡ p.code).
    let one : r ≡ p = same r p i (inl refl) e in
    subst (λ (b : Bool). (if b then slice_index (words_of p.words) at else due_word ps r.code at) ≡ slice_index (words_of r.words) at) (sym (eq-eqb r.code p.code e)) (ap (λ (q : KeptRow). slice_index (words_of q.words) at) (sym one)))
    (λ (n : r.code ≢ p.code).
    subst (λ (b : Bool). (if b then slice_index (words_of p.words) at else due_word ps r.code at) ≡ slice_index (words_of r.words) at) (sym (ne_eqb r.code p.code n))
    (due_is ps r at (λ x y a b. same x y (inr a) (inr b)) (⊎_elim (λ (e : r ≡ p). absurd (n (ap (λ (q : KeptRow). q.code) e))) (λ (j : IsIn r ps). j) i)))
    (cases_eq r.code p.code)

pub code_in : (rows : List KeptRow) (r : KeptRow) → IsIn r rows → IsIn r.code (codes_of rows)
code_in [] r i = elim i [ ]
code_in (p ∷ ps) r i = ⊎_elim (λ (e : r ≡ p). inl (ap (λ (q : KeptRow). q.code) e)) (λ (j : IsIn r ps). inr (code_in ps r j)) i

-- a slot that got a row
module _ (slots : List Slot) (s : ℕ) (row : KeptRow) (lt : s < length slots) where
  new : List Slot
  new = slice_set slots s (filled_slot row)

  here : (u : ℕ) → u ≡ s → slot_of new u ≡ filled_slot row
  unfolding new
  here u e = ap (slot_of (slice_set slots s (filled_slot row))) e ∙ get_or-set_same slots s (filled_slot row) free_slot lt

  elsewhere : (u : ℕ) → u ≢ s → slot_of new u ≡ slot_of slots u
  unfolding new
  elsewhere u n = get_or-set_other slots s u (filled_slot row) free_slot n

  reading : {A : Type 0} (f : Slot → A) (u : ℕ) → f (slot_of new u) ≡ put (λ (w : ℕ). f (slot_of slots w)) s (f (filled_slot row)) u
  reading f u = each_put (λ y. f (slot_of new u) ≡ y) (λ (w : ℕ). f (slot_of slots w)) s (f (filled_slot row)) u (λ e. ap f (here u e)) (λ n. ap f (elsewhere u n))

  is_laid : Laid (cells_in slots) (cells_in new) s row.code (λ at. slice_index (words_of row.words) at)
  is_laid = record {
    code = reading (λ (v : Slot). v.code);
    state = reading state_of;
    others = λ u at n. ap (λ (v : Slot). slice_index v.words at) (elsewhere u n);
    mine = λ at _. ap (λ (v : Slot). slice_index v.words at) (here s refl);
  }

-- one more row is placed
pub laid_more : (bits : ℕ) (due : List KeptRow) (before : List KeptRow) (slots : List Slot) (row : KeptRow) (i : ℕ) → ((r : KeptRow) → IsIn r due → r.code ≢ 0)
    → ((p q : KeptRow) → IsIn p due → IsIn q due → p.code ≡ q.code → p ≡ q) → IsIn row due → times row.code (codes_of before) ≡ 0 → IsLaid bits due (codes_of before) slots → i < 2 ^ bits
    → ((j : ℕ) → j < i → code_from bits slots row.code j ≢ 0) → code_from bits slots row.code i ≡ 0 → (home_slot bits row.code + i) % 2 ^ bits < 2 ^ bits
    → IsLaid bits due (codes_of (before ++ row ∷ [])) (slice_set slots ((home_slot bits row.code + i) % 2 ^ bits) (filled_slot row))
unfolding new
laid_more bits due before slots row i coded same is_due fresh h lt past free inside =
    let s : ℕ = (home_slot bits row.code + i) % 2 ^ bits in
    let count = h.count in
    let small : s < length slots = omega arith in
    subst (λ (l : List ℕ). IsLaid bits due l (slice_set slots s (filled_slot row))) (sym (map-append (λ (r : KeptRow). r.code) before (row ∷ []))) (record {
      count = length-set slots s (filled_slot row) ∙ h.count;
      words = λ u less. ⊎_elim
          (λ (e : u ≡ s). ap (λ (v : Slot). length v.words) (here slots s row small u e))
          (λ (n : u ≢ s). ap (λ (v : Slot). length v.words) (elsewhere slots s row small u n) ∙ h.words u (subst (λ (k : ℕ). u < k) (length-set slots s (filled_slot row)) less))
          (cases_eq u s);
      sound = begin_more (terms bits due (codes_of before)) (cells_in slots) (cells_in (slice_set slots s (filled_slot row))) (codes_of before) s row.code (λ at. slice_index (words_of row.words) at) h.sound (coded row is_due) (code_in due row is_due)
          (λ j. let some = times-in row.code (codes_of before) j in omega arith) free (i, lt, refl, past) (is_laid slots s row small)
          (λ at _. sym (due_is due row at same is_due));
    })

-- not every slot has a code
pub never_full : (bits : ℕ) (due : List KeptRow) (start : List ℕ) (slots : List Slot) (x i : ℕ) → IsLaid bits due start slots → length due < 2 ^ bits → 2 ^ bits ≤ i → ((j : ℕ) → j < i → code_from bits slots x j ≢ 0) → ⊥
never_full bits due start slots x i h few le past =
    let n : ℕ = 2 ^ bits in
    let s : ℕ → ℕ = λ j. (home_slot bits x + j) % n in
    let all = pigeons (λ j y. (slot_of slots (s j)).code ≡ y) n (codes_of due)
    (λ j lt. ((slot_of slots (s j)).code, (h.sound.codes_once.0 (s j) (past j (omega arith))).1, refl))
    (λ a b y p q la lb. spot_once (home_slot bits x) n a b la lb (h.sound.codes_once.1 (s a) (s b) (past a (omega arith)) (p ∙ sym q))) in
    let len : length (codes_of due) ≡ length due = length-map due (λ (r : KeptRow). r.code) in
    omega arith

pub lays_more : (bits : ℕ) (before mid after : List Slot) (rows : List KeptRow) (row : KeptRow) → LaysRows bits before rows mid → LaysRow bits mid row after → LaysRows bits before (rows ++ row ∷ []) after
lays_more bits before mid after [] row e one = (after, subst (λ (l : List Slot). LaysRow bits l row after) e one, refl)
lays_more bits before mid after (r ∷ rs) row h one = (h.0, h.1, lays_more bits h.0 mid after rs row h.2 one)

blank : (n s : ℕ) (a d : Slot) (A : Type 0) (f : Slot → A) → f a ≡ f d → f (get_or (replicate n a) s d) ≡ f d
blank zero s a d A f e = refl
blank (suc n) zero a d A f e = e
blank (suc n) (suc s) a d A f e = blank n s a d A f e

-- a code does not stand before its place
pub not_before : (kept : List KeptRow) (k : ℕ) (d : KeptRow) → k < length kept → ((x : ℕ) → times x (codes_of kept) ≤ 1) → times (get_or kept k d).code (codes_of (take k kept)) ≡ 0
not_before kept k d lt once = let two = twice kept k d lt in let one = once (get_or kept k d).code in omega arith
  where
    twice : (rows : List KeptRow) (i : ℕ) (e : KeptRow) → i < length rows → times (get_or rows i e).code (codes_of (take i rows)) + 1 ≤ times (get_or rows i e).code (codes_of rows)
    twice [] i e less = absurd (omega arith)
    twice (r ∷ rs) zero e less = subst (λ (b : Bool). 0 + 1 ≤ (if b then 1 else 0) + times r.code (codes_of rs)) (sym (eq-eqb r.code r.code refl)) (omega arith)
    twice (r ∷ rs) (suc i) e less = let rest = twice rs i e (omega arith) in omega arith

-- the slots as the code finds and changes them
pub lays : (bits : ℕ) (before slots : List Slot) (row : KeptRow) (i home count : ℕ) (words : List ℕ) → home ≡ home_slot bits row.code → count ≡ 2 ^ bits → slots ≡ before → words ≡ words_of row.words
    → (P : List Slot → Type 0) → P (slice_set before ((home_slot bits row.code + i) % 2 ^ bits) (filled_slot row)) → P (slice_set slots ((home + i) % count) (record { code = row.code; filled = true; words = words }))
lays bits before slots row i home count words h n s w P p =
    subst P (λ k. slice_set (sym s k) ((sym h k + i) % sym n k) (record { code = row.code; filled = true; words = sym w k })) p

pub any_slot : (l : List Slot) (i : ℕ) (a b : Slot) → i < length l → get_or l i a ≡ get_or l i b
any_slot [] i a b lt = absurd (omega arith)
any_slot (x ∷ l) zero a b lt = refl
any_slot (x ∷ l) (suc i) a b lt = any_slot l i a b (omega arith)

-- the slot that the code found free
pub free_at : (bits : ℕ) (before slots : List Slot) (x i home count : ℕ) (d : Slot) → home ≡ home_slot bits x → count ≡ 2 ^ bits → slots ≡ before → (home + i) % count < length slots
    → (get_or slots ((home + i) % count) d).code ≡ 0 → code_from bits before x i ≡ 0
free_at bits before slots x i home count d h n s lt e =
    subst (λ (p : List Slot × ℕ × ℕ). (slot_of p.0 ((p.1 + i) % p.2)).code ≡ 0) (λ k. (s k, h k, n k)) (ap (λ (v : Slot). v.code) (any_slot slots ((home + i) % count) free_slot d lt) ∙ e)

-- the codes of one row more
pub codes_more : (kept : List KeptRow) (k : ℕ) (d : KeptRow) → k < length kept → take k kept ++ get_or kept k d ∷ [] ≡ take (k + 1) kept
codes_more kept k d lt = sym (take_more kept k d lt)

no_zero : (due : List KeptRow) → ((r : KeptRow) → IsIn r due → r.code ≢ 0) → times 0 (codes_of due) ≡ 0
no_zero [] h = refl
no_zero (r ∷ rs) h = subst (λ (b : Bool). (if b then 1 else 0) + times 0 (codes_of rs) ≡ 0) (sym (ne_eqb 0 r.code (λ e. h r (inl refl) (sym e)))) (let rest = no_zero rs (λ p i. h p (inr i)) in omega arith)

pub shaped_start : (bits : ℕ) (due kept : List KeptRow) (slots : List Slot) (start : List ℕ) → (1 ≤ bits) × (bits ≤ 24) → ((r : KeptRow) → IsIn r due → r.code ≢ 0) → IsLaid bits due (codes_of kept) slots
    → IsShaped (record { bits = bits; slots = slots; actors = []; rows = due; start = start })
shaped_start bits due kept slots start few coded h = record { slots = h.count; few = few; words = h.words; coded = no_zero due coded }

pub sound_start : (bits : ℕ) (due kept : List KeptRow) (slots : List Slot) (start : List ℕ) (m : Machine) → (1 ≤ bits) × (bits ≤ 24) → ((r : KeptRow) → IsIn r due → r.code ≢ 0) → start ≡ codes_of kept → IsLaid bits due (codes_of kept) slots
    → m ≡ record { bits = bits; slots = slots; actors = newcomer ∷ []; rows = due; start = start } → IsSoundMachine m
sound_start bits due kept slots start m few coded e h same = subst IsSoundMachine (sym same) (record {
  shaped = record { slots = h.count; few = few; words = h.words; coded = no_zero due coded };
  sound = subst (λ (l : List ℕ). IsSound (terms bits due l) (cells_in slots) (newcomer ∷ [])) (sym e) h.sound;
})
