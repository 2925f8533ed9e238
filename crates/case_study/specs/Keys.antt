-- The keys that are demanded: year systems with configurations. A PLAN that is not refused demands those of all
-- configurations that are listed for its cases and years. Each is simulated once in a run, whatever was edited between
-- two lines, since the key has all the data of its year. This program's own.
use Rattle.std.specs.Prelude.{◌≡◌, ℕ}
use Rattle.checked_deck.specs.Systems.{system}
use Rattle.deck_check.specs.Readings.{Says}
use Rattle.sim_engine.specs.Engine.{Run}
use Rattle.case_study.specs.Listings.{AreWithin, IsListedOf, IsOf, IsTaken, Tunnels, deck_tunnels, tunnel_at}

-- a key of a case under tunnels: the system of a year with a configuration that is listed for it
pub record IsCaseKey (d : Says) (c : ℕ) (tunnels : Tunnels) (key : Run) : Type 0 where
  pub year : ℕ
  pub is_of : IsOf d c year
  pub of_year : key.0 ≡ system d year
  pub listed : IsListedOf d c year (tunnel_at tunnels year) key.1

-- a key of one of a deck's cases, each under the deck's own tunnels
pub record IsKeyOf (d : Says) (key : Run) : Type 0 where
  pub case : ℕ
  pub is_key : IsCaseKey d case (deck_tunnels d case) key

-- a PLAN on the deck demands it
abbrev pub Demands : Says → Run → Type 0
Demands d key = IsTaken d × IsKeyOf d key

-- a case demands it under tunnels, where each of its years is within the limits
abbrev pub DemandsUnder : Says → ℕ → Tunnels → Run → Type 0
DemandsUnder d c tunnels key = AreWithin d c tunnels × IsCaseKey d c tunnels key
