-- Numbers and their ranges, one by one.
use Rattle.std.proofs.Common.{◌≡◌, ℕ, ◌≤◌, true, List, [], ◌∷◌, length, refl, arith}
use Rattle.std.specs.Prelude.{nat_le}
use Rattle.std.proofs.lemmas.Bool.Decides.{nat_tests}
use Rattle.std.proofs.lemmas.Bool.{and_parts}
use Rattle.deck_lines.specs.declared.form.Kind.{Kind}
use Rattle.deck_lines.specs.declared.form.Kind.TheVariants as kinds
use Rattle.deck_lines.specs.Statements.{allows, allows_each}

-- a number is in the range of its kind
abbrev pub IsWithin : Kind → ℕ → Type 0
IsWithin (kinds.Number low high) n = (low ≤ n) × (n ≤ high)
IsWithin kinds.Periods n = (1 ≤ n) × (n ≤ 12)

pub allows_each-length : (ks : List Kind) (ns : List ℕ) → allows_each ks ns ≡ true → length ns ≡ length ks
allows_each-length [] [] h = refl
allows_each-length [] (n ∷ ns) h = absurd cc
allows_each-length (kind ∷ ks) [] h = absurd cc
allows_each-length (kind ∷ ks) (n ∷ ns) h = omega (arith, allows_each-length ks ns (and_parts (allows kind n) (allows_each ks ns) h).1)

pub within : (kind : Kind) (n : ℕ) → allows kind n ≡ true → IsWithin kind n
within (kinds.Number low high) n h = let b = and_parts (nat_le low n) (nat_le n high) h in (grind (arith, nat_tests), grind (arith, nat_tests))
within kinds.Periods n h = (grind (arith, nat_tests), grind (arith, nat_tests))
