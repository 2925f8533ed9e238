-- Worked rows of the definitions.
use Rattle.std.proofs.Common.{◌≡◌, ℕ, [], ◌∷◌, Some, None, Ok, Err, refl}
use Rattle.std.specs.Prelude.{codes}
use Rattle.std.specs.Fmt.{digits}
use Rattle.deck_lines.specs.declared.fault.LineKind.TheVariants as faults
use Rattle.deck_lines.specs.declared.head.Head.TheVariants as heads
use Rattle.deck_lines.specs.declared.line.Line.{Line}
use Rattle.deck_lines.specs.declared.line.Line.TheVariants as lines
use Rattle.deck_lines.specs.declared.line.CertLine.TheVariants as certs
use Rattle.deck_lines.specs.declared.line.Mode.TheVariants as modes
use Rattle.deck_lines.specs.Words.{words_of, number_of}
use Rattle.deck_lines.specs.LineFault.{fault}
use Rattle.deck_lines.specs.Statements.{statement_of, fields_onto, groups_onto, name_at}
use Rattle.deck_lines.specs.Grammar.{line_of, counts_onto}
use Rattle.deck_lines.specs.Canonical.{text_of}
use Rattle.deck_lines.specs.Deck.{deck_at}

-- words stand where their first byte stands, from 1
columns : words_of (codes " ADD  3") ≡ record { column = 2; text = codes "ADD" } ∷ record { column = 7; text = codes "3" } ∷ []
columns = refl

eighteen_digits : number_of (codes "000000000000000042") ≡ Some 42
eighteen_digits = refl

nineteen_digits : number_of (codes "0000000000000000042") ≡ None
nineteen_digits = refl

added : line_of modes.Plan (codes "ADD 40 30 128") ≡ Ok (lines.Set (record { head = heads.Add 40 30; body = record { name = []; numbers = 128 ∷ [] } }))
unfolding line_of statement_of fields_onto groups_onto name_at
added = refl

year_31 : line_of modes.Plan (codes "YEARS 31") ≡ Err (fault faults.Range 7)
unfolding line_of statement_of fields_onto groups_onto name_at
year_31 = refl

-- a word that completes a pair is missing
half_a_pair : line_of modes.Plan (codes "LOAD 1 100 1 90") ≡ Err (fault faults.Count 16)
unfolding line_of statement_of fields_onto groups_onto name_at
half_a_pair = refl

-- ---- the deck

ens_at : ℕ → Line
ens_at n = lines.Set (record { head = heads.Ens; body = record { name = []; numbers = n ∷ [] } })

later_statement_counts : deck_at (ens_at 1 ∷ ens_at 2 ∷ lines.Plan ∷ []) heads.Ens ≡ Some (record { name = []; numbers = 2 ∷ [] })
unfolding ens_at
later_statement_counts = refl

drop_takes_away : deck_at (ens_at 1 ∷ lines.Drop heads.Ens ∷ lines.Plan ∷ []) heads.Ens ≡ None
unfolding ens_at
drop_takes_away = refl

set_again : deck_at (lines.Drop heads.Ens ∷ ens_at 3 ∷ lines.Drop heads.Years ∷ []) heads.Ens ≡ Some (record { name = []; numbers = 3 ∷ [] })
unfolding ens_at
set_again = refl

-- ---- lines

short_come : line_of modes.Certificate (codes "COME 1 200") ≡ Err (fault faults.Count 11)
unfolding line_of counts_onto
short_come = refl

come_with_none : line_of modes.Certificate (codes "COME 3 0 128 NONE") ≡ Ok (lines.Cert (certs.Come 3 (0 ∷ 128 ∷ []) None))
unfolding line_of counts_onto
come_with_none = refl

two_returns : line_of modes.Plan (13 ∷ 13 ∷ []) ≡ Err (fault faults.Byte 1)
unfolding line_of
two_returns = refl

plan_in_check : line_of modes.Check (codes " PLAN") ≡ Err (fault faults.Word 2)
unfolding line_of
plan_in_check = refl

-- ---- texts

text_of_add : text_of (record { head = heads.Add 7 30; body = record { name = []; numbers = 128 ∷ [] } }) ≡ codes "ADD 7 30 128"
unfolding digits
text_of_add = refl

text_of_hydro : text_of (record { head = heads.Hydro 2; body = record { name = codes "Dam"; numbers = 0 ∷ 15 ∷ 10 ∷ [] } }) ≡ codes "HYDRO 2 Dam 0 15 10"
unfolding digits
text_of_hydro = refl
