-- Worked rows of a report that is read back.
use Rattle.std.proofs.Common.{◌≡◌, [], ◌∷◌, None, Ok, refl}
use Rattle.std.specs.Prelude.{codes, map}
use Rattle.deck_lines.specs.Grammar.{counts_onto, line_of}
use Rattle.deck_lines.specs.Statements.{fields_onto, groups_onto}
use Rattle.deck_lines.specs.declared.line.CertLine.TheVariants as certs
use Rattle.deck_lines.specs.declared.line.Line.TheVariants as lines
use Rattle.deck_lines.specs.declared.line.Mode.TheVariants as modes
use Rattle.report_text.specs.ReadBack.{certificate_in, lined}

two_lines : lined (codes "CASE 1" ∷ codes "TOTAL 97858603" ∷ []) ≡ codes "CASE 1\nTOTAL 97858603\n"
two_lines = refl

-- each kind of line
as_read : map (line_of modes.Certificate) (codes "CASE 1" ∷ codes "CHOSEN 1 2 0" ∷ codes "EDGE 1 +." ∷ codes "GEN 1 T1 GAS 867240" ∷ codes "TOTAL 97858603" ∷ codes "COME 1 2 0 NONE" ∷ []) ≡ Ok lines.Skip ∷ Ok (lines.Cert (certs.Chosen 1 (2 ∷ 0 ∷ []))) ∷ Ok lines.Skip ∷ Ok lines.Skip ∷ Ok (lines.Cert (certs.Total 97858603)) ∷ Ok (lines.Cert (certs.Come 1 (2 ∷ 0 ∷ []) None)) ∷ []
unfolding line_of groups_onto fields_onto counts_onto
as_read = refl

no_plan : line_of modes.Certificate (codes "INFEASIBLE 3") ≡ Ok (lines.Cert (certs.Infeasible 3))
unfolding line_of
no_plan = refl

-- what is skipped says nothing
among_others : certificate_in (lines.Skip ∷ lines.Cert (certs.Total 97858603) ∷ lines.Skip ∷ []) ≡ certs.Total 97858603 ∷ []
among_others = refl
