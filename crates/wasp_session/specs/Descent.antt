-- The rounds of a search go down: a round under tunnels that were moved by a round with a plan costs no more, and it is
-- not infeasible. So the printed costs of a case never rise, and its first round alone can be infeasible. This
-- program's own.
use Rattle.std.specs.Prelude.{◌≡◌, ℕ, ◌≤◌}
use Rattle.deck_check.specs.Readings.{Says}
use Rattle.report_text.specs.declared.rounds.Found.{Found}
use Rattle.case_study.specs.Listings.{AreTunnels}
use Rattle.deck_tellings.specs.Rounds.{IsBarred, IsFound, tunnels_behind}

-- what is known of the round behind one with a plan
pub record GoesDown (d : Says) (c : ℕ) (f : Found) : Type 0 where
  pub cheaper : (g : Found) → g.tunnels ≡ tunnels_behind d f → IsFound d c g → g.total ≤ f.total
  pub feasible : (year : ℕ) → IsBarred d c (tunnels_behind d f) year → ⊥

-- each round with a plan has such a round behind it
abbrev pub CostsNeverRise : Type 0
CostsNeverRise = (d : Says) (c : ℕ) (f : Found) → AreTunnels d f.tunnels → IsFound d c f → GoesDown d c f
