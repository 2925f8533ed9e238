-- Lines in a text.
use Rattle.std.proofs.Common.{◌≡◌, ℕ, List, [], ◌∷◌, ◌++◌, Option, None, Some, refl, sym, ap, subst, ◌∙◌, append_assoc}
use Rattle.std.specs.Prelude.{IfSome}
use Rattle.std.proofs.lemmas.List.{append-nil}
use Rattle.std.proofs.lemmas.Bool.{ne_eqb}
use Rattle.std.specs.List.{AllByRecursion}
use Rattle.std.specs.Io.KnownBytes.{Consumes}
use Rattle.line_reader.specs.Lines.{lines_of, unlines, IsUnbroken}
use Rattle.line_reader.specs.Reading.{ahead}

pub unlines-push : (lines : List (List ℕ)) (line : List ℕ) → unlines lines ++ (line ++ 10 ∷ []) ≡ unlines (lines ++ line ∷ [])
unlines-push [] line = sym (append-nil (line ++ 10 ∷ []))
unlines-push (l ∷ lines) line = append_assoc (l ++ 10 ∷ []) (unlines lines) (line ++ 10 ∷ []) ∙ ap (λ (t : List ℕ). l ++ 10 ∷ [] ++ t) (unlines-push lines line)

pub all_push : (lines : List (List ℕ)) (line : List ℕ) → AllByRecursion IsUnbroken lines → IsUnbroken line → AllByRecursion IsUnbroken (lines ++ line ∷ [])
all_push [] line h k = (k, tt)
all_push (l ∷ lines) line h k = (h.0, all_push lines line h.1 k)

pub one_line : (line rest : List ℕ) → IsUnbroken line → lines_of (line ++ 10 ∷ rest) ≡ line ∷ lines_of rest
one_line [] rest h = refl
one_line (b ∷ line) rest h = rw (ne_eqb b 10 h.0, one_line line rest h.1) refl

-- the lines of a text that begins with whole lines
pub lines_of_unlines : (lines : List (List ℕ)) (rest : List ℕ) → AllByRecursion IsUnbroken lines → lines_of (unlines lines ++ rest) ≡ lines ++ lines_of rest
lines_of_unlines [] rest h = refl
lines_of_unlines (line ∷ lines) rest h =
    ap lines_of (append_assoc (line ++ 10 ∷ []) (unlines lines) rest ∙ append_assoc line (10 ∷ []) (unlines lines ++ rest))
    ∙ one_line line (unlines lines ++ rest) h.0 ∙ ap (λ (ls : List (List ℕ)). line ∷ ls) (lines_of_unlines lines rest h.1)

-- ---- bytes that are taken

pub ahead_none : (left : Option (List ℕ)) (kept : List ℕ) → kept ≡ [] → ahead kept left ≡ left
ahead_none None kept e = refl
ahead_none (Some left) kept e = ap (λ (t : List ℕ). Some (t ++ left)) e

-- what is so of all lines of a text behind whole lines
pub behind_lines : (a b : Option (List ℕ)) (lines : List (List ℕ)) (P : List (List ℕ) → Type 0) → AllByRecursion IsUnbroken lines → Consumes a b (unlines lines)
    → IfSome b (λ rest. P (lines ++ lines_of rest)) → IfSome a (λ text. P (lines_of text))
behind_lines None b lines P whole taken h = tt
behind_lines (Some a) None lines P whole taken h = absurd taken
behind_lines (Some a) (Some b) lines P whole taken h =
    subst P (sym (ap lines_of taken ∙ lines_of_unlines lines b whole)) h

-- behind one line
pub behind_line : (a b : Option (List ℕ)) (line : List ℕ) (P : List (List ℕ) → Type 0) → IsUnbroken line → Consumes a b (line ++ 10 ∷ [])
    → ((more : List (List ℕ)) → P (line ∷ more)) → IfSome a (λ text. P (lines_of text))
behind_line None b line P whole taken h = tt
behind_line (Some a) None line P whole taken h = absurd taken
behind_line (Some a) (Some b) line P whole taken h =
    subst P (sym (ap lines_of (taken ∙ append_assoc line (10 ∷ []) b) ∙ one_line line b whole)) (h (lines_of b))
