-- Taking the bytes of a line one after the other.
use Rattle.std.proofs.Common.{◌≡◌, ◌≢◌, ℕ, ◌<◌, List, [], ◌∷◌, ◌++◌, length, Option, None, Some, refl, sym, ap, ◌∙◌, append_assoc, arith}
use Rattle.std.proofs.lemmas.Bool.{ne_eqb}
use Rattle.std.specs.Prelude.{IfSome}
use Rattle.std.specs.Io.KnownBytes.{Consumes}
use Rattle.line_reader.specs.declared.lines.Found.{Found}
use Rattle.line_reader.specs.declared.lines.Found.TheVariants as found
use Rattle.line_reader.specs.Lines.{onto, lines_of, IsUnbroken}
use Rattle.line_reader.specs.Reading.{IsLast, LineTextFrom, LineBegins, LineFrom}

pub IsUnbroken-push : (line : List ℕ) (b : ℕ) → IsUnbroken line → b ≢ 10 → IsUnbroken (line ++ b ∷ [])
IsUnbroken-push [] b h ne = (ne, tt)
IsUnbroken-push (x ∷ line) b h ne = (h.0, IsUnbroken-push line b h.1 ne)

pub Consumes-none : (text : Option (List ℕ)) → Consumes text text []
Consumes-none None = tt
Consumes-none (Some text) = refl

pub Consumes-then : (before mid now : Option (List ℕ)) (xs ys : List ℕ) → Consumes before mid xs → Consumes mid now ys → Consumes before now (xs ++ ys)
Consumes-then None mid now xs ys h k = tt
Consumes-then (Some a) None now xs ys h k = absurd h
Consumes-then (Some a) (Some b) None xs ys h k = absurd k
Consumes-then (Some a) (Some b) (Some c) xs ys h k = h ∙ ap (λ (t : List ℕ). xs ++ t) k ∙ sym (append_assoc xs ys c)

-- ---- the first line of a text

last : (b : ℕ) (line : List ℕ) → IsUnbroken (b ∷ line) → lines_of (b ∷ line) ≡ (b ∷ line) ∷ []
last b [] h = rw (ne_eqb b 10 h.0) refl
last b (c ∷ line) h = rw (ne_eqb b 10 h.0, last c line h.1) refl

onto_begins : (b : ℕ) (lines : List (List ℕ)) → (more : List ℕ) × (others : List (List ℕ)) × (onto b lines ≡ (b ∷ more) ∷ others)
onto_begins b [] = ([], [], refl)
onto_begins b (line ∷ lines) = (line, lines, refl)

begins : (b : ℕ) (line rest : List ℕ) → IsUnbroken (b ∷ line) → LineBegins (b ∷ line ++ rest) (b ∷ line)
begins b [] rest h =
    let w = onto_begins b (lines_of rest) in
    (w.0, w.1, rw (ne_eqb b 10 h.0) w.2)
begins b (c ∷ line) rest h =
    let w = begins c line rest h.1 in
    (w.0, w.1, rw (ne_eqb b 10 h.0, w.2) refl)

last_found : (before now : Option (List ℕ)) (line : List ℕ) → IsUnbroken line → IsLast before now line → 0 < length line → IfSome before (λ text. lines_of text ≡ line ∷ [])
last_found None now line h t some = tt
last_found (Some text) None line h t some = absurd t
last_found (Some text) (Some rest) [] h t some = absurd (omega (arith, some))
last_found (Some text) (Some rest) (b ∷ line) h t some = rw t.0 (last b line h)

long_found : (before now : Option (List ℕ)) (line : List ℕ) → IsUnbroken line → Consumes before now line → length line ≡ 4097 → IfSome before (λ text. LineBegins text line)
long_found None now line h t long = tt
long_found (Some text) None line h t long = absurd t
long_found (Some text) (Some rest) [] h t long = absurd (omega (arith, long))
long_found (Some text) (Some rest) (b ∷ line) h t long = rw t (begins b line rest h)

end_found : (before now : Option (List ℕ)) → IsLast before now [] → IfSome before (λ text. lines_of text ≡ [])
end_found None now t = tt
end_found (Some text) None t = absurd t
end_found (Some text) (Some rest) t = ap lines_of t.0

-- from the bytes of a line to the lines of the text
pub line_from_text : (before now : Option (List ℕ)) (line : List ℕ) (found : Found) → IsUnbroken line → LineTextFrom before now line found → LineFrom before now line found
line_from_text before now line found.Line h t = (t.0, h, t.1)
line_from_text before now line found.Last h t = (t.0, h, t.1, t.2, last_found before now line h t.0 t.1)
line_from_text before now line found.Long h t = (t.0, h, t.1, long_found before now line h t.0 t.1)
line_from_text before now line found.End h t = (t, end_found before now t)
line_from_text before now line found.Failed h t = (t.0, h, t.1)
