-- There is one clip level: two are equal, and the number of the definition is one.
use Rattle.std.proofs.Common.{◌≡◌, ℕ, ◌+◌, ◌*◌, ◌<◌, ◌≤◌, List, length, zero, suc, arith, inl, inr, below_more}
use Rattle.std.proofs.lemmas.Bool.{cases_lt, le-leb, lt-leb}
use Rattle.wasp_fixed.specs.Curves.{area, cell}
use Rattle.wasp_fixed.specs.declared.numbers.TheConstants.{ONE}
use Rattle.hydro_shave.specs.Hydro.{IsClipLevel, clip_level_of, first_enough, shaved_energy}
use Rattle.hydro_shave.proofs.Slides.{area-past}

pub IsClipLevel-same : (curve : ℕ → ℕ) (peak energy hours one other : ℕ) → IsClipLevel curve peak energy hours one → IsClipLevel curve peak energy hours other → one ≡ other
IsClipLevel-same curve peak energy hours one other a b =
    elim (cases_lt one other) [
      | inl lt ↦ absurd (omega (arith, a.enough, b.least one lt))
      | inr le ↦ elim (cases_lt other one) [
        | inl gt ↦ absurd (omega (arith, b.enough, a.least other gt))
        | inr ge ↦ omega arith
      ]
    ]

-- the search is at no level above the clip level
first_enough-is : (curve : ℕ → ℕ) (peak energy hours level from n : ℕ) → IsClipLevel curve peak energy hours level → from ≤ level → level ≤ from + n → first_enough curve peak energy hours from n ≡ level
first_enough-is curve peak energy hours level from zero is low high = omega arith
first_enough-is curve peak energy hours level from (suc n) is low high =
    elim (cases_lt from level) [
      | inl before ↦
          rw (lt-leb (shaved_energy curve peak hours from) (energy * ONE) (is.least from before)) (first_enough-is curve peak energy hours level (from + 1) n is (omega arith) (omega arith))
      | inr at ↦
          let e : from ≡ level = omega arith in
          let enough : shaved_energy curve peak hours from ≤ energy * ONE = rw e is.enough in
          rw (le-leb (shaved_energy curve peak hours from) (energy * ONE) enough) e
    ]

pub clip_level_of-is : (curve : ℕ → ℕ) (peak energy hours level top : ℕ) → IsClipLevel curve peak energy hours level → level ≤ top → clip_level_of curve peak energy hours top ≡ level
clip_level_of-is curve peak energy hours level top is le =
    first_enough-is curve peak energy hours level 0 top is (omega arith) (omega arith)

-- where the levels below `from` are not enough, the search finds the clip level
first_enough-IsClipLevel : (cells : List ℕ) (peak energy hours from n : ℕ) → length cells ≤ from + n → ((lower : ℕ) → lower < from → energy * ONE < shaved_energy (cell cells) peak hours lower) → IsClipLevel (cell cells) peak energy hours (first_enough (cell cells) peak energy hours from n)
first_enough-IsClipLevel cells peak energy hours from zero ends below =
    let none : area (cell cells) from (from + peak) ≡ 0 = area-past cells from (from + peak) (omega arith) (omega arith) in
    let m : area (cell cells) from (from + peak) * hours ≡ 0 = rw none (omega arith) in
    record { enough = omega (arith, m); least = below }
first_enough-IsClipLevel cells peak energy hours from (suc n) ends below =
    elim (cases_lt (energy * ONE) (shaved_energy (cell cells) peak hours from)) [
      | inl short ↦
          rw (lt-leb (shaved_energy (cell cells) peak hours from) (energy * ONE) short) (first_enough-IsClipLevel cells peak energy hours (from + 1) n (omega arith) (below_more _ _ below short))
      | inr enough ↦
          rw (le-leb (shaved_energy (cell cells) peak hours from) (energy * ONE) enough) (record { enough = enough; least = below })
    ]

pub clip_level_of-IsClipLevel : (cells : List ℕ) (peak energy hours top : ℕ) → length cells ≤ top → IsClipLevel (cell cells) peak energy hours (clip_level_of (cell cells) peak energy hours top)
clip_level_of-IsClipLevel cells peak energy hours top ends =
    first_enough-IsClipLevel cells peak energy hours 0 top (omega arith) (λ lower lt. absurd (omega arith))
