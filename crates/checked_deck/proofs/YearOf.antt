-- The year whose statement holds, one year back.
use Rattle.std.proofs.Common.{◌≡◌, ℕ, suc, false, refl}
use Rattle.deck_lines.specs.declared.head.Head.{Head}
use Rattle.deck_check.specs.Readings.{Says, is_there}
use Rattle.checked_deck.specs.TypedDeck.{year_of}

pub year_back : (d : Says) (head : ℕ → Head) (t n : ℕ) → t ≡ suc n → is_there d (head t) ≡ false → year_of d head n ≡ year_of d head t
year_back d head t n e absent = rw e at_suc
  where
    there : is_there d (head (suc n)) ≡ false
    there = rw e at absent

    at_suc : year_of d head n ≡ year_of d head (suc n)
    at_suc = rw there refl
