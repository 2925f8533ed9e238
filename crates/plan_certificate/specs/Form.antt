-- What is kept of a certificate's lines while their form is looked at.
use Rattle.std.specs.Prelude.{◌≡◌, ◌≢◌, ℕ, ◌+◌, ◌<◌, ◌++◌, ◌⊎◌, Bool, true, List, [], ◌∷◌, length, map, Contains, Option, Some, None, IsSome, nat_eq, if◌then◌else◌, slice_index}
use Rattle.deck_lines.specs.declared.line.CertLine.{CertLine}
use Rattle.deck_lines.specs.declared.line.CertLine.TheVariants.{Come, Chosen, Total, Infeasible}
use Rattle.plan_program.specs.declared.solved.Outcome.{Outcome}
use Rattle.plan_program.specs.declared.solved.Outcome.TheVariants as claims
use Rattle.plan_certificate.specs.Reading.{HasInfeasible, HasTotal, chosen_of}
use Rattle.plan_certificate.specs.declared.reading.Reading.{Reading}

-- a line has a fault, by what is kept of those before it
abbrev pub IsFaultyWith : ℕ → ℕ → Reading → Bool → CertLine → Type 0
IsFaultyWith years width r again (Come year config value) = (years < year) ⊎ ((length config ≢ width) ⊎ (again ≡ true))
IsFaultyWith years width r again (Chosen year config) = (years < year) ⊎ ((length config ≢ width) ⊎ ((year ≢ length r.chosen.items + 1) ⊎ IsSome r.infeasible))
IsFaultyWith years width r again (Total total) = IsSome r.total ⊎ IsSome r.infeasible
IsFaultyWith years width r again (Infeasible year) = (years < year) ⊎ (IsSome r.infeasible ⊎ ((length r.chosen.items ≢ 0) ⊎ IsSome r.total))

-- what is kept with one more line
abbrev pub Adds : CertLine → Reading → Reading → Type 0
Adds (Come year config value) old new = (new.chosen.items ≡ old.chosen.items) × (new.total ≡ old.total) × (new.infeasible ≡ old.infeasible)
Adds (Chosen year config) old new = (new.chosen.items ≡ old.chosen.items ++ config ∷ []) × (new.total ≡ old.total) × (new.infeasible ≡ old.infeasible)
Adds (Total total) old new = (new.chosen.items ≡ old.chosen.items) × (new.total ≡ Some total) × (new.infeasible ≡ old.infeasible)
Adds (Infeasible year) old new = (new.chosen.items ≡ old.chosen.items) × (new.total ≡ old.total) × (new.infeasible ≡ Some year)

-- what is kept of lines without a fault: the chosen configurations, of years 1, 2 and so on, and the numbers of
-- the TOTAL and the INFEASIBLE
pub record IsRead (lines : List CertLine) (r : Reading) : Type 0 where
  pub chosen : map (λ p. p.1) (chosen_of lines) ≡ r.chosen.items
  pub counted : (i : ℕ) → i < length (chosen_of lines) → slice_index (map (λ p. p.0) (chosen_of lines)) i ≡ i + 1
  pub total : (total : ℕ) → r.total ≡ Some total → Contains lines (Total total)
  pub no_total : r.total ≡ None → HasTotal lines → ⊥
  pub infeasible : (year : ℕ) → r.infeasible ≡ Some year → Contains lines (Infeasible year)
  pub no_infeasible : r.infeasible ≡ None → HasInfeasible lines → ⊥

-- the claim, where nothing is missing
abbrev pub claim_of : ℕ → List (List ℕ) → Option ℕ → Option ℕ → Option Outcome
claim_of years chosen None None = None
claim_of years chosen (Some total) None = if nat_eq (length chosen) years then Some (claims.Plan chosen total) else None
claim_of years chosen None (Some year) = Some (claims.Infeasible year)
claim_of years chosen (Some total) (Some year) = Some (claims.Infeasible year)
