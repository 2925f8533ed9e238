-- Asked keys at worked rows.
use Rattle.std.proofs.Common.{◌≡◌, ℕ, List, [], ◌∷◌, refl}
use Rattle.row_shelf.specs.Asked.{asked_count}

-- two cases of two years; a configuration that is listed twice is counted twice
one_case : List (List (List ℕ))
one_case = ((1 ∷ []) ∷ (2 ∷ []) ∷ []) ∷ ((1 ∷ []) ∷ []) ∷ []

other_case : List (List (List ℕ))
other_case = ((1 ∷ []) ∷ []) ∷ ((2 ∷ []) ∷ []) ∷ []

five_keys : asked_count (one_case ∷ other_case ∷ []) ≡ 5
unfolding one_case other_case
five_keys = refl
