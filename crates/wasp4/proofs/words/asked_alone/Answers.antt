use Rattle.std.proofs.Common.{◌≡◌, refl, ℕ, false, List, None, codes, arith}
use Rattle.std.specs.Str.{bytes_eq}
use Rattle.std.proofs.lemmas.Slice.Eq.{bytes_eq-Decides}
use Rattle.wasp4.specs.Out.{asked_alone}
use Rattle.wasp4.proofs.words.asked_alone.Goals as goal

not_same : (xs ys : List ℕ) → (xs ≡ ys → ⊥) → bytes_eq xs ys ≡ false
not_same xs ys h = grind (arith, bytes_eq-Decides xs ys)

none_asked : (word : List ℕ) → (word ≡ codes "check" → ⊥) → (word ≡ codes "plan" → ⊥) → (word ≡ codes "search" → ⊥) → None ≡ asked_alone word
none_asked word not_check not_plan not_search =
    rw (not_same word (codes "plan") not_plan, not_same word (codes "check") not_check, not_same word (codes "search") not_search) refl

pub returns-in_default : goal.returns-in_default
returns-in_default c = record { value = none_asked c.args.word.now c.in_default.not-check c.in_default.not-plan c.in_default.not-search; range = tt }
