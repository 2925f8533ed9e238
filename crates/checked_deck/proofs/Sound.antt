-- What is true of a deck in its form that meets no row of the fault table: single statements, loads and shapes.
use Rattle.std.proofs.Common.{◌≡◌, ℕ, ◌+◌, ◌*◌, ◌%◌, ◌<◌, ◌≤◌, ◌==◌, Bool, true, false, nat_le, List, [], ◌∷◌, length, slice_index, slice_index_or, Option, None, Some, is_some, IfSome, IsTrue, refl, sym, subst, arith, ⊎_elim}
use Rattle.std.proofs.lemmas.Bool.{and_from, both_ways, cases_lt, eq-eqb, le-leb, not-false}
use Rattle.std.proofs.Math.Nat.{mul-add-mod_self_left, mul-mod_right}
use Rattle.deck_lines.proofs.Placed.{found_fits}
use Rattle.deck_lines.specs.Body.{BodyParts}
use Rattle.deck_lines.specs.Deck.{IsDeck, body_of}
use Rattle.deck_lines.specs.declared.form.Kind.{Kind}
use Rattle.deck_lines.specs.declared.form.Kind.TheVariants as kinds
use Rattle.deck_lines.specs.declared.head.Head.{Head}
use Rattle.deck_lines.specs.declared.head.Head.TheVariants as heads
use Rattle.deck_lines.specs.declared.statement.Statement.{Statement}
use Rattle.deck_lines.specs.Statements.{allows, is_name, is_statement, IsStatement}
use Rattle.deck_check.specs.DeckFault as rows
use Rattle.deck_check.specs.DeckFault.{HasNoFault, stated, table}
use Rattle.deck_check.specs.FaultTable.{is_in, IsUnmet, only, row_of_one, row_of_two, row_of_three, Span, upto}
use Rattle.deck_check.specs.Forms.{bottom, form_of, IsFilled, IsFormOf, kind_at, top}
use Rattle.deck_check.specs.Readings.{Says, is_there, number, numbers, numbers_in, periods, width, years}
use Rattle.checked_deck.specs.TypedDeck.{IsTyped, head_of_id}
use Rattle.checked_deck.specs.declared.names.PlantId.{PlantId}
use Rattle.checked_deck.specs.declared.names.PlantId.TheVariants as ids
use Rattle.deck_check.proofs.Forms.{AreCounted, empty_form, filled_is, form_is, groups_at, groups_count, groups_of, name_of}

-- the statements of a map are in their form, and no row is met
pub record IsSound (d : Says) : Type 0 where
  pub form : (h : Head) → IsFormOf h (numbers d h)
  pub filled : (h : Head) → is_there d h ≡ true → IsFilled h (numbers d h)
  pub counted : (h : Head) → is_there d h ≡ true → AreCounted (length (form_of h).group) (form_of h).least (form_of h).most (length (numbers d h))
  pub kinds : (h : Head) (i : ℕ) → is_there d h ≡ true → 0 < length (form_of h).group → i < length (numbers d h) → allows (kind_at (form_of h) i) (number d h i) ≡ true
  pub faultless : HasNoFault d

form_at : (h : Head) (o : Option BodyParts) → IfSome o (λ b. is_statement (record { head = h; body = b }) ≡ true) → IsFormOf h (numbers_in o)
form_at h None s = empty_form h
form_at h (Some b) s = form_is h b s

filled_at : (h : Head) (o : Option BodyParts) → IfSome o (λ b. is_statement (record { head = h; body = b }) ≡ true) → is_some o ≡ true → IsFilled h (numbers_in o)
filled_at h None s there = absurd cc
filled_at h (Some b) s there = filled_is h b s

counted_at : (h : Head) (o : Option BodyParts) → IfSome o (λ b. is_statement (record { head = h; body = b }) ≡ true) → is_some o ≡ true → AreCounted (length (form_of h).group) (form_of h).least (form_of h).most (length (numbers_in o))
counted_at h None s there = absurd cc
counted_at h (Some b) s there = groups_count (form_of h).group (form_of h).least (form_of h).most b.numbers (groups_of h b s)

kinds_at : (h : Head) (i : ℕ) (o : Option BodyParts) → IfSome o (λ b. is_statement (record { head = h; body = b }) ≡ true) → is_some o ≡ true → 0 < length (form_of h).group → i < length (numbers_in o) → allows (kind_at (form_of h) i) (slice_index (numbers_in o) i) ≡ true
kinds_at h i None s there some lt = absurd cc
kinds_at h i (Some b) s there some lt = groups_at (form_of h).group (form_of h).least (form_of h).most b.numbers some (groups_of h b s) i lt

pub sound_is : (deck : List Statement) → IsTyped deck → IsSound (body_of deck)
sound_is deck t = record {
  form = λ h. form_at h (body_of deck h) (found_fits deck h t.in_form);
  filled = λ h. filled_at h (body_of deck h) (found_fits deck h t.in_form);
  counted = λ h. counted_at h (body_of deck h) (found_fits deck h t.in_form);
  kinds = λ h i. kinds_at h i (body_of deck h) (found_fits deck h t.in_form);
  faultless = t.faultless;
}

pub typed_copy : (one other : List Statement) → one ≡ other → IsDeck other → HasNoFault (body_of other) → IsTyped one
typed_copy one other e form none = subst IsTyped (sym e) (let t : IsTyped other = record { in_form = form; faultless = none } in t)

pub name_is : (id : PlantId) (b : BodyParts) → IsStatement (record { head = head_of_id id; body = b }) → IsTrue (is_name b.name)
name_is (ids.Existing p) b s = name_of (heads.Plant p) b s
name_is (ids.Thermal k) b s = name_of (heads.Thermal k) b s
name_is (ids.Hydro g) b s = name_of (heads.Hydro g) b s

-- ---- numbers of statements

pub low_at : (d : Says) → IsSound d → (h : Head) (i : ℕ) → is_there d h ≡ true → i < (form_of h).least * length (form_of h).group → bottom (kind_at (form_of h) i) ≤ number d h i
low_at d s h i there lt = (s.filled h there).low i (omega (arith, lt, (s.filled h there).some))

pub most_at : (d : Says) → IsSound d → (h : Head) (i : ℕ) → number d h i ≤ top (kind_at (form_of h) i)
most_at d s h i = (s.form h).most i

none_in : (o : Option BodyParts) (i : ℕ) → is_some o ≡ false → slice_index (numbers_in o) i ≡ 0
none_in None i h = refl
none_in (Some b) i h = absurd cc

pub absent_number : (d : Says) (h : Head) (i : ℕ) → is_there d h ≡ false → number d h i ≡ 0
absent_number d h i absent = none_in (d h) i absent

pub first_of_pair : (a b : Kind) (i : ℕ) → slice_index_or (a ∷ b ∷ []) (2 * i % 2) kinds.Periods ≡ a
first_of_pair a b i = rw (mul-mod_right 2 i) refl

pub second_of_pair : (a b : Kind) (i : ℕ) → slice_index_or (a ∷ b ∷ []) ((2 * i + 1) % 2) kinds.Periods ≡ b
second_of_pair a b i = rw (mul-add-mod_self_left 2 i 1) refl

-- ---- rows that are not met

pub row_at : (d : Says) → IsSound d → (k : ℕ) → k < 27 → IsUnmet (slice_index_or (table d) k (rows.no_years d))
row_at d s k lt = s.faultless k (rows.no_years d) lt

pub in_upto : (n x : ℕ) → 1 ≤ x → x ≤ n → is_in (upto n) x ≡ true
in_upto n x low high = and_from (nat_le 1 x) (nat_le x n) (le-leb 1 x low) (le-leb x n high)

pub in_only : (n : ℕ) → is_in (only n) n ≡ true
in_only n = and_from (nat_le n n) (nat_le n n) (le-leb n n (omega arith)) (le-leb n n (omega arith))

pub unmet_one : (n : ℕ) (a : Span) (holds : ℕ → Bool) → IsUnmet (row_of_one n a holds) → (x : ℕ) → is_in a x ≡ true → holds x ≡ false
unmet_one n a holds h x inside = rw inside at (h x 0 0)

pub unmet_two : (n : ℕ) (a : Span) (b : ℕ → Span) (holds : ℕ → ℕ → Bool) → IsUnmet (row_of_two n a b holds) → (x y : ℕ) → is_in a x ≡ true → is_in (b x) y ≡ true → holds x y ≡ false
unmet_two n a b holds h x y in_a in_b = rw in_b at (rw in_a at (h x y 0))

pub unmet_three : (n : ℕ) (a : Span) (b : ℕ → Span) (c : ℕ → ℕ → Span) (holds : ℕ → ℕ → ℕ → Bool) → IsUnmet (row_of_three n a b c holds) → (x y z : ℕ) → is_in a x ≡ true → is_in (b x) y ≡ true → is_in (c x y) z ≡ true → holds x y z ≡ false
unmet_three n a b c holds h x y z in_a in_b in_c = rw in_c at (rw in_b at (rw in_a at (h x y z)))

pub stated_fails : (d : Says) (h : Head) (test : List ℕ → Bool) → stated d h test ≡ false → is_there d h ≡ true → test (numbers d h) ≡ false
stated_fails d h test f there = rw there at f

-- ---- single statements

pub years_there : (d : Says) → IsSound d → is_there d heads.Years ≡ true
years_there d s = not-false (is_there d heads.Years) (row_at d s 0 (omega arith) 0 0 0)

pub years_low : (d : Says) → IsSound d → 1 ≤ years d
years_low d s = low_at d s heads.Years 0 (years_there d s) (omega arith)

pub years_high : (d : Says) → IsSound d → years d ≤ 30
years_high d s = most_at d s heads.Years 0

pub periods_there : (d : Says) → IsSound d → is_there d heads.Periods ≡ true
periods_there d s = not-false (is_there d heads.Periods) (row_at d s 1 (omega arith) 0 0 0)

pub periods_low : (d : Says) → IsSound d → 1 ≤ periods d
periods_low d s = low_at d s heads.Periods 0 (periods_there d s) (omega arith)

pub periods_high : (d : Says) → IsSound d → periods d ≤ 12
periods_high d s = most_at d s heads.Periods 0

pub width_low : (d : Says) → IsSound d → 1 ≤ width d
width_low d s = ⊎_elim (λ l. l) (λ z. absurd (both_ways (width d == 0) (row_at d s 4 (omega arith) 0 0 0) (eq-eqb (width d) 0 (omega (arith, z))))) (cases_lt 0 (width d))
