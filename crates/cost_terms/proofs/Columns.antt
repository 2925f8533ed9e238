-- A column that is filled from the front.
use Rattle.std.proofs.Common.{◌≡◌, ℕ, ◌+◌, ◌<◌, ◌≤◌, List, length, get_or, set, arith, ◌∙◌, ⊎_elim}
use Rattle.std.proofs.lemmas.Bool.{cases_eq}
use Rattle.std.proofs.lemmas.List.{get_or-set_other, get_or-set_same, length-set}
use Rattle.cost_terms.specs.Factors.{IsColumn}

-- its first k cells are filled
pub record IsFilled (f : ℕ → ℕ) (most : ℕ) (column : List ℕ) (k : ℕ) : Type 0 where
  pub whole : length column ≡ 31
  pub value : (j : ℕ) → j < k → get_or column j 0 ≡ f j
  pub small : (j : ℕ) → j < k → get_or column j 0 ≤ most

pub column_more : (f : ℕ → ℕ) (most : ℕ) (xs : List ℕ) (k y : ℕ) → IsFilled f most xs k → k < 31 → y ≡ f k → y ≤ most → IsFilled f most (set xs k y) (k + 1)
column_more f most xs k y h l e b =
    let n : k < length xs = omega (arith, h.whole, l) in
    record {
      whole = length-set xs k y ∙ h.whole;
      value = λ j m. ⊎_elim (λ s. rw s (get_or-set_same xs k y 0 n ∙ e)) (λ d. get_or-set_other xs k j y 0 d ∙ h.value j (omega (arith, m, d))) (cases_eq j k);
      small = λ j m. ⊎_elim (λ s. rw s (rw (get_or-set_same xs k y 0 n) b)) (λ d. rw (get_or-set_other xs k j y 0 d) (h.small j (omega (arith, m, d)))) (cases_eq j k);
    }

pub column_none : (f : ℕ → ℕ) (most : ℕ) (xs : List ℕ) → length xs ≡ 31 → IsFilled f most xs 0
column_none f most xs h = record { whole = h; value = λ j l. absurd (omega (arith, l)); small = λ j l. absurd (omega (arith, l)) }

pub column_whole : (f : ℕ → ℕ) (most : ℕ) (xs : List ℕ) (k : ℕ) → IsFilled f most xs k → 31 ≤ k → IsColumn f most xs
column_whole f most xs k h l = record { value = λ j m. h.value j (omega (arith, m, l)); small = λ j m. h.small j (omega (arith, m, l)) }
