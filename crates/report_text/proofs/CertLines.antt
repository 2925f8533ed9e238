-- The lines of a certificate, from their words.
use Rattle.std.proofs.Common.{◌≡◌, ◌==◌, ℕ, zero, suc, ◌+◌, ◌-◌, ◌^◌, ◌<◌, ◌≤◌, Bool, true, false, List, [], ◌∷◌, ◌++◌, length, map, Option, None, Some, IfSome, Result, Ok, Err, refl, sym, ap, ◌∙◌, append_assoc, arith}
use Rattle.std.specs.Prelude.{codes, decimal}
use Rattle.std.specs.Str.{bytes_eq}
use Rattle.std.proofs.lemmas.Bool.Decides.{nat_tests}
use Rattle.std.proofs.lemmas.List.{append-nil}
use Rattle.std.proofs.lemmas.Option.{none-some}
use Rattle.std.proofs.lemmas.Slice.Eq.{bytes_eq-Decides}
use Rattle.deck_lines.specs.declared.fault.LineFault.{LineFault}
use Rattle.deck_lines.specs.declared.line.CertLine.TheVariants as certs
use Rattle.deck_lines.specs.declared.line.Line.TheVariants as lines
use Rattle.deck_lines.specs.declared.line_word.LineWord.TheVariants as words
use Rattle.deck_lines.specs.declared.form.Kind.{Kind}
use Rattle.deck_lines.specs.LineFault.{◌>>=◌}
use Rattle.deck_lines.specs.Words.{Piece, number_of}
use Rattle.deck_lines.specs.Grammar.{behind, count, counts_onto, number, value_at}
use Rattle.deck_lines.specs.Statements.{allows, fields_onto, groups_onto, number_at, year}
use Rattle.deck_lines.proofs.Texts.{placed, past}
use Rattle.report_text.specs.Report.{cost_word}
use Rattle.report_text.proofs.Digits.{digits_back}

-- ---- one number

number_read : (kind : Kind) (column n : ℕ) → n < 10 ^ 18 → allows kind n ≡ true → number_at kind (record { column = column; text = decimal n }) ≡ Ok n
number_read kind column n h a = rw (digits_back n h, a) refl

number_allowed : (n : ℕ) → n < 10 ^ 18 → allows number n ≡ true
number_allowed n h = grind (arith, nat_tests)

year_allowed : (t : ℕ) → 1 ≤ t → t ≤ 30 → allows year t ≡ true
year_allowed t low high = grind (arith, nat_tests)

count_allowed : (n : ℕ) → n ≤ 128 → allows count n ≡ true
count_allowed n h = grind (arith, nat_tests)

pub total_read : (end column total : ℕ) → total < 10 ^ 18 → behind words.Total end (placed column (decimal total ∷ [])) ≡ Ok (lines.Cert (certs.Total total))
unfolding placed
total_read end column total h = rw (number_read number (column + 1) total h (number_allowed total h)) refl

pub infeasible_read : (end column t : ℕ) → 1 ≤ t → t ≤ 30 → behind words.Infeasible end (placed column (decimal t ∷ [])) ≡ Ok (lines.Cert (certs.Infeasible t))
unfolding placed
infeasible_read end column t low high = rw (number_read year (column + 1) t (omega (arith, high)) (year_allowed t low high)) refl

-- ---- counts

-- each count is at most 128
abbrev pub AreLow : List ℕ → Type 0
AreLow [] = Unit {0}
AreLow (n ∷ ns) = (n ≤ 128) × AreLow ns

group_step : (before : List ℕ) (end least more : ℕ) (w : Piece) (ws : List Piece) → groups_onto before end (count ∷ []) least (suc more) (w ∷ ws) ≡ (number_at count w >>= λ n. groups_onto (before ++ n ∷ []) end (count ∷ []) (least - 1) more ws)
unfolding groups_onto fields_onto
group_step before end least more w ws = group (number_at count w)
  where
    both : ℕ → List ℕ × List Piece
    both n = (before ++ n ∷ [], ws)

    group : (r : Result ℕ LineFault) → ((r >>= λ n. Ok (both n)) >>= λ one. groups_onto one.0 end (count ∷ []) (least - 1) more one.1) ≡ (r >>= λ n. groups_onto (before ++ n ∷ []) end (count ∷ []) (least - 1) more ws)
    group (Ok n) = refl
    group (Err e) = refl

none_least : (least : ℕ) → least ≤ 0 → (least == 0) ≡ true
none_least least h = grind (arith, nat_tests)

groups_read : (ns before : List ℕ) (end column least more : ℕ) → AreLow ns → least ≤ length ns → length ns ≤ more → groups_onto before end (count ∷ []) least more (placed column (map decimal ns)) ≡ Ok (before ++ ns)
unfolding groups_onto placed
groups_read [] before end column least zero a low high = ap (λ (t : List ℕ). Ok t) (sym (append-nil before))
groups_read [] before end column least (suc more) a low high = rw (none_least least low) (ap (λ (t : List ℕ). Ok t) (sym (append-nil before)))
groups_read (n ∷ ns) before end column least zero a low high = absurd (omega (arith, high))
groups_read (n ∷ ns) before end column least (suc more) a low high =
    group_step before end least more (record { column = column + 1; text = decimal n }) (placed (column + 1 + length (decimal n)) (map decimal ns))
    ∙ (ap (λ (r : Result ℕ LineFault). r >>= λ m. groups_onto (before ++ m ∷ []) end (count ∷ []) (least - 1) more (placed (column + 1 + length (decimal n)) (map decimal ns))) (number_read count (column + 1) n (omega (arith, a.0)) (count_allowed n a.0))
    ∙ (groups_read ns (before ++ n ∷ []) end (column + 1 + length (decimal n)) (least - 1) more a.1 (omega (arith, low)) (omega (arith, high))
    ∙ ap (λ (t : List ℕ). Ok t) (append_assoc before (n ∷ []) ns)))

pub chosen_read : (end column t : ℕ) (counts : List ℕ) → 1 ≤ t → t ≤ 30 → AreLow counts → 1 ≤ length counts → length counts ≤ 14 → behind words.Chosen end (placed column (decimal t ∷ map decimal counts)) ≡ Ok (lines.Cert (certs.Chosen t counts))
unfolding placed
chosen_read end column t counts low high a some few =
    rw (number_read year (column + 1) t (omega (arith, high)) (year_allowed t low high), groups_read counts [] end (column + 1 + length (decimal t)) 1 14 a some few) refl

-- ---- counts and a last word

abbrev last_piece : ℕ → List ℕ → List ℕ → Piece
last_piece column ns v = record { column = past column (map decimal ns) + 1; text = v }

count_step : (before : List ℕ) (end column least more : ℕ) (w : Piece) (ns v : List ℕ) → counts_onto before end least (suc more) (w ∷ placed column (map decimal ns ++ v ∷ [])) ≡ (number_at count w >>= λ n. counts_onto (before ++ n ∷ []) end (least - 1) more (placed column (map decimal ns ++ v ∷ [])))
unfolding counts_onto placed
count_step before end column least more w [] v = refl
count_step before end column least more w (n ∷ ns) v = refl

counts_read : (ns before : List ℕ) (end column least more : ℕ) (v : List ℕ) → AreLow ns → least ≤ length ns → length ns ≤ more → counts_onto before end least more (placed column (map decimal ns ++ v ∷ [])) ≡ Ok (before ++ ns, last_piece column ns v)
unfolding counts_onto placed past
counts_read [] before end column least more v a low high = rw (none_least least low) (ap (λ (t : List ℕ). Ok (t, record { column = column + 1; text = v })) (sym (append-nil before)))
counts_read (n ∷ ns) before end column least zero v a low high = absurd (omega (arith, high))
counts_read (n ∷ ns) before end column least (suc more) v a low high =
    let next = column + 1 + length (decimal n) in
    count_step before end next least more (record { column = column + 1; text = decimal n }) ns v
    ∙ (ap (λ (r : Result ℕ LineFault). r >>= λ m. counts_onto (before ++ m ∷ []) end (least - 1) more (placed next (map decimal ns ++ v ∷ []))) (number_read count (column + 1) n (omega (arith, a.0)) (count_allowed n a.0))
    ∙ (counts_read ns (before ++ n ∷ []) end next (least - 1) more v a.1 (omega (arith, low)) (omega (arith, high))
    ∙ ap (λ (t : List ℕ). Ok (t, last_piece next ns v)) (append_assoc before (n ∷ []) ns)))

no_none : (n : ℕ) → n < 10 ^ 18 → bytes_eq (decimal n) (codes "NONE") ≡ false
no_none n h = cases (bytes_eq (decimal n) (codes "NONE")) refl
  where
    spelled : decimal n ≡ codes "NONE" → ⊥
    spelled e = none-some n (sym (ap number_of e) ∙ digits_back n h)

    cases : (b : Bool) → bytes_eq (decimal n) (codes "NONE") ≡ b → b ≡ false
    cases false e = refl
    cases true e = absurd (spelled (grind (arith, bytes_eq-Decides (decimal n) (codes "NONE"))))

value_read : (column : ℕ) (value : Option ℕ) → IfSome value (λ v. v < 10 ^ 18) → value_at (record { column = column; text = cost_word value }) ≡ Ok value
value_read column None h = refl
value_read column (Some cost) h = rw (no_none cost h, number_read number column cost h (number_allowed cost h)) refl

pub come_read : (end column t : ℕ) (counts : List ℕ) (value : Option ℕ) → 1 ≤ t → t ≤ 30 → AreLow counts → 1 ≤ length counts → length counts ≤ 14 → IfSome value (λ v. v < 10 ^ 18)
    → behind words.Come end (placed column (decimal t ∷ map decimal counts ++ cost_word value ∷ [])) ≡ Ok (lines.Cert (certs.Come t counts value))
unfolding placed
come_read end column t counts value low high a some few h =
    let next = column + 1 + length (decimal t) in
    rw (number_read year (column + 1) t (omega (arith, high)) (year_allowed t low high), counts_read counts [] end next 1 14 (cost_word value) a some few, value_read (past next (map decimal counts) + 1) value h) refl
