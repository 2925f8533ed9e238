-- The words of a report's lines.
use Rattle.std.proofs.Common.{◌≡◌, ℕ, zero, suc, ◌+◌, ◌^◌, ◌<◌, ◌≤◌, Bool, true, false, List, [], ◌∷◌, length, map, All, refl, ◌∙◌, arith}
use Rattle.std.specs.Prelude.{codes, decimal}
use Rattle.std.specs.List.{flat_map, list_all, range_with_len}
use Rattle.std.proofs.lemmas.Bool.Decides.{nat_tests}
use Rattle.std.proofs.lemmas.List.{length-append, length-map}
use Rattle.std.proofs.lemmas.List.Elements.{All-head, All-tail}
use Rattle.std.proofs.lemmas.List.Folds.{list_all-append}
use Rattle.plant_data.specs.declared.row.Tunnel.{Tunnel}
use Rattle.checked_deck.specs.declared.names.PlantId.{PlantId}
use Rattle.checked_deck.specs.declared.names.PlantId.TheVariants as ids
use Rattle.deck_lines.specs.declared.line_word.LineWord.TheVariants as words
use Rattle.deck_lines.proofs.Texts.{is_plain}
use Rattle.report_text.specs.Marks.{mark, mark_at, marks}
use Rattle.report_text.specs.ReadBack.{ArePrintable, IsPrintableName, id_number}
use Rattle.report_text.specs.Report.{id_word}
use Rattle.report_text.proofs.Digits.{digits_few, digits_plain}
use Rattle.report_text.proofs.CertLines.{AreLow}
use Rattle.report_text.proofs.Printed.{AreShown, Begins, IsShown, digits_shown}

-- ---- first words

pub begins_case : Begins words.Case (codes "CASE")
begins_case = record { shown = record { plain = record { some = omega arith; bytes = refl }; short = omega arith }; no_comment = refl; known = refl }

pub begins_edge : Begins words.Edge (codes "EDGE")
begins_edge = record { shown = record { plain = record { some = omega arith; bytes = refl }; short = omega arith }; no_comment = refl; known = refl }

pub begins_terms : Begins words.Terms (codes "TERMS")
begins_terms = record { shown = record { plain = record { some = omega arith; bytes = refl }; short = omega arith }; no_comment = refl; known = refl }

pub begins_risk : Begins words.Risk (codes "RISK")
begins_risk = record { shown = record { plain = record { some = omega arith; bytes = refl }; short = omega arith }; no_comment = refl; known = refl }

pub begins_short : Begins words.Short (codes "SHORT")
begins_short = record { shown = record { plain = record { some = omega arith; bytes = refl }; short = omega arith }; no_comment = refl; known = refl }

pub begins_gen : Begins words.Gen (codes "GEN")
begins_gen = record { shown = record { plain = record { some = omega arith; bytes = refl }; short = omega arith }; no_comment = refl; known = refl }

pub begins_come : Begins words.Come (codes "COME")
begins_come = record { shown = record { plain = record { some = omega arith; bytes = refl }; short = omega arith }; no_comment = refl; known = refl }

pub begins_chosen : Begins words.Chosen (codes "CHOSEN")
begins_chosen = record { shown = record { plain = record { some = omega arith; bytes = refl }; short = omega arith }; no_comment = refl; known = refl }

pub begins_total : Begins words.Total (codes "TOTAL")
begins_total = record { shown = record { plain = record { some = omega arith; bytes = refl }; short = omega arith }; no_comment = refl; known = refl }

pub begins_infeasible : Begins words.Infeasible (codes "INFEASIBLE")
begins_infeasible = record { shown = record { plain = record { some = omega arith; bytes = refl }; short = omega arith }; no_comment = refl; known = refl }

-- ---- numbers

pub numbers_shown : (ns : List ℕ) → ArePrintable ns → AreShown (map decimal ns)
numbers_shown [] h = tt
numbers_shown (n ∷ ns) h = (digits_shown n (All-head (λ (m : ℕ). m < 2 ^ 64) n ns h), numbers_shown ns (All-tail (λ (m : ℕ). m < 2 ^ 64) n ns h))

pub counts_shown : (ns : List ℕ) → AreLow ns → AreShown (map decimal ns)
counts_shown [] h = tt
counts_shown (n ∷ ns) h = (digits_shown n (omega (arith, h.0)), counts_shown ns h.1)

pub few_numbers : (ns : List ℕ) → length (map decimal ns) ≡ length ns
few_numbers ns = length-map ns decimal

-- ---- marks

one_mark : (upper lower : Bool) → (length (mark upper lower) ≡ 1) × (list_all is_plain (mark upper lower) ≡ true)
one_mark true true = (refl, refl)
one_mark true false = (refl, refl)
one_mark false true = (refl, refl)
one_mark false false = (refl, refl)

record AreMarks (n : ℕ) (text : List ℕ) : Type 0 where
  long : length text ≡ n
  plain : list_all is_plain text ≡ true

range_marks : (greatest : List ℕ) (tunnel : Tunnel) (counts : List ℕ) (a n : ℕ) → AreMarks n (flat_map (mark_at greatest tunnel counts) (range_with_len a n))
range_marks greatest tunnel counts a zero = record { long = refl; plain = refl }
range_marks greatest tunnel counts a (suc n) =
    let f = mark_at greatest tunnel counts in
    let one : (length (f a) ≡ 1) × (list_all is_plain (f a) ≡ true) = one_mark _ _ in
    let rest = range_marks greatest tunnel counts (a + 1) n in
    record {
      long = omega (arith, length-append (f a) (flat_map f (range_with_len (a + 1) n)), one.0, rest.long);
      plain = list_all-append is_plain (f a) (flat_map f (range_with_len (a + 1) n)) ∙ rw (one.1, rest.plain) refl;
    }

pub marks_shown : (greatest : List ℕ) (tunnel : Tunnel) (counts : List ℕ) → 1 ≤ length counts → length counts ≤ 14 → IsShown (marks greatest tunnel counts)
marks_shown greatest tunnel counts some few =
    let m = range_marks greatest tunnel counts 0 (length counts) in
    record { plain = record { some = omega (arith, m.long, some); bytes = m.plain }; short = omega (arith, m.long, few) }

-- ---- names

byte_plain : (b : ℕ) → 33 ≤ b → b ≤ 126 → is_plain b ≡ true
byte_plain b low high = grind (arith, nat_tests)

bytes_plain : (bs : List ℕ) → All (λ b. (33 ≤ b) × (b ≤ 126)) bs → list_all is_plain bs ≡ true
bytes_plain [] h = refl
bytes_plain (b ∷ bs) h =
    let p = All-head (λ (x : ℕ). (33 ≤ x) × (x ≤ 126)) b bs h in
    rw (byte_plain b p.0 p.1, bytes_plain bs (All-tail (λ (x : ℕ). (33 ≤ x) × (x ≤ 126)) b bs h)) refl

pub name_shown : (name : List ℕ) → IsPrintableName name → IsShown name
name_shown name h = record { plain = record { some = omega (arith, h.some); bytes = bytes_plain name h.bytes }; short = omega (arith, h.short) }

lead_shown : (b n : ℕ) → is_plain b ≡ true → n < 2 ^ 64 → IsShown (b ∷ decimal n)
lead_shown b n p h = record { plain = record { some = omega arith; bytes = rw (p, (digits_plain n h).bytes) refl }; short = omega (arith, digits_few n h) }

pub id_shown : (id : PlantId) → id_number id < 2 ^ 64 → IsShown (id_word id)
id_shown (ids.Existing p) h = lead_shown 80 p refl h
id_shown (ids.Thermal k) h = lead_shown 84 k refl h
id_shown (ids.Hydro g) h = lead_shown 72 g refl h
