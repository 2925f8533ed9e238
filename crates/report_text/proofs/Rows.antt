-- Worked rows of the definitions.
use Rattle.std.proofs.Common.{◌≡◌, [], ◌∷◌, ◌++◌, None, Some, refl}
use Rattle.std.specs.Fmt.{digits}
use Rattle.std.specs.Prelude.{codes}
use Rattle.checked_deck.specs.declared.names.PlantId.TheVariants as ids
use Rattle.deck_lines.specs.declared.fault.LineKind.TheVariants as kinds
use Rattle.plan_certificate.specs.declared.judging.Verdict.TheVariants.{No, Yes}
use Rattle.plant_data.specs.declared.row.Row.{Row}
use Rattle.report_text.specs.Lines.{heading, keys_line}
use Rattle.report_text.specs.Marks.{marks}
use Rattle.report_text.specs.Refusals.{malformed_line, refusal_line}
use Rattle.report_text.specs.Report.{chosen_line, come_line, come_lines, edge_line, gen_line, risk_line, short_line, terms_line}
use Rattle.report_text.specs.Verdicts.{verdict_line}
use Rattle.report_text.specs.declared.refusals.Refusal.TheVariants.{Deck, Many, Wide}
use Rattle.report_text.specs.declared.verdicts.Judged.TheVariants.{Form, Refused, Said}

-- ---- the lines of three gas units, of which two are planned

abbrev row : Row
row = record { fuel_domestic = 867240000000; fuel_foreign = 0; variable = 0; unserved = 8760; worst = 10000000; average = 10000000; short1 = 8760; short2 = 0; short3 = 70; short4 = 8; short5 = 12 }

chosen : chosen_line 1 (2 ∷ []) ≡ codes "CHOSEN 1 2\n"
unfolding digits
chosen = refl

at_the_upper_edge : edge_line 1 (3 ∷ []) (record { least = 0 ∷ []; width = 2 ∷ [] }) (2 ∷ []) ≡ codes "EDGE 1 +\n"
unfolding digits
at_the_upper_edge = refl

terms : terms_line 1 (record { build = 100000000; salvage = 86363636; stock = 0 }) (record { fuel = 8268808; upkeep = 0; unserved = 8352332 }) ≡ codes "TERMS 1 100000000 86363636 0 8268808 0 8352332\n"
unfolding digits
terms = refl

risk : risk_line 1 row ≡ codes "RISK 1 10000000 10000000 8760\n"
unfolding digits
risk = refl

no_short : short_line 0 1 row ≡ []
no_short = refl

one_short : short_line 1 1 row ≡ codes "SHORT 1 8760\n"
unfolding digits
one_short = refl

five_shorts : short_line 5 12 row ≡ codes "SHORT 12 8760 0 70 8 12\n"
unfolding digits
five_shorts = refl

generation : gen_line 1 (record { id = ids.Thermal 1; name = codes "GAS"; energy = 867240 }) ≡ codes "GEN 1 T1 GAS 867240\n"
unfolding digits
generation = refl

numbered_costs : come_lines 1 (record { config = 0 ∷ []; row = row } ∷ record { config = 1 ∷ []; row = row } ∷ []) (Some 835233227 ∷ Some 97858603 ∷ []) ≡ codes "COME 1 0 835233227\nCOME 1 1 97858603\n"
unfolding digits
numbered_costs = refl

no_cost : come_line 2 (0 ∷ 12 ∷ []) None ≡ codes "COME 2 0 12 NONE\n"
unfolding digits
no_cost = refl

-- ---- all four marks: at the upper edge, at none, at the lower edge, at both

four_marks : marks (8 ∷ 8 ∷ 8 ∷ 8 ∷ []) (record { least = 1 ∷ 1 ∷ 1 ∷ 1 ∷ []; width = 2 ∷ 2 ∷ 2 ∷ 0 ∷ [] }) (3 ∷ 2 ∷ 1 ∷ 1 ∷ []) ≡ codes "+.-="
four_marks = refl

-- an edge that cannot be moved has no mark
fixed_edges : marks (3 ∷ 3 ∷ []) (record { least = 1 ∷ 0 ∷ []; width = 2 ∷ 2 ∷ [] }) (3 ∷ 0 ∷ []) ≡ codes ".."
fixed_edges = refl

-- ---- refusals and the lines of a script

no_load : refusal_line (Deck (record { number = 6; a = 1; b = 0; c = 0 })) ≡ codes "REFUSED 6 NOLOAD 1 0 0\n"
unfolding digits
no_load = refl

too_many : refusal_line (Many 1 1 501) ≡ codes "REFUSED 26 TOOMANY 1 1 501\n"
unfolding digits
too_many = refl

too_wide : refusal_line (Wide 1 1 1185921) ≡ codes "REFUSED 25 TOOWIDE 1 1 1185921\n"
unfolding digits
too_wide = refl

last_name : refusal_line (Deck (record { number = 29; a = 2; b = 15; c = 12 })) ≡ codes "REFUSED 29 STEPWATER 2 15 12\n"
unfolding digits
last_name = refl

malformed : malformed_line 13 (record { kind = kinds.Word; column = 1 }) ≡ codes "MALFORMED 13 WORD 1\n"
unfolding digits
malformed = refl

second_plan : heading 2 ++ keys_line 3 ≡ codes "PLAN 2\nKEYS 3\n"
unfolding digits
second_plan = refl

-- ---- what checks say

all_hold : verdict_line 1 1 (Said Yes) ≡ codes "CHECK 1 CASE 1 YES\n"
unfolding digits
all_hold = refl

last_fails : verdict_line 2 8 (Said (No 7)) ≡ codes "CHECK 2 CASE 8 NO 7\n"
unfolding digits
last_fails = refl

faulty_line : verdict_line 64 1 (Form 12) ≡ codes "CHECK 64 CASE 1 NO 0 AT 12\n"
unfolding digits
faulty_line = refl

too_wide_to_check : verdict_line 4 2 (Refused (Wide 2 1 1771561)) ≡ codes "CHECK 4 CASE 2 REFUSED 25 TOOWIDE 2 1 1771561\n"
unfolding digits
too_wide_to_check = refl
