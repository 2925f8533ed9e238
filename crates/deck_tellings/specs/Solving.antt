-- The solution of a case of a deck without a fault, of which no year is over a limit. This program's own.
use Rattle.std.specs.Prelude.{ℕ, ◌≤◌, List}
use Rattle.deck_check.specs.DeckFault.{HasNoFault}
use Rattle.deck_check.specs.Readings.{Says, cases}
use Rattle.report_text.specs.declared.refusals.Refusal.{Refusal}
use Rattle.sim_engine.specs.Engine.{Run, Work}
use Rattle.case_study.specs.Keys.{DemandsUnder}
use Rattle.case_study.specs.Listings.{AreWithin, IsOverIn, deck_tunnels}
use Rattle.deck_tellings.specs.Memory.{MemoryIs}
use Rattle.deck_tellings.specs.Learning.{IsLost, Learns}

-- the deck has the case and meets no row of the fault table, and no year of the case is over a limit
pub record IsSolvable (d : Says) (c : ℕ) : Type 0 where
  pub faultless : HasNoFault d
  pub low : 1 ≤ c
  pub high : c ≤ cases d
  pub fair : (r : Refusal) → IsOverIn d c (deck_tunnels d c) r → ⊥

-- each year of a case is within the limits, under the deck's own tunnels
abbrev pub IsCaseWithin : Says → ℕ → Type 0
IsCaseWithin d c = AreWithin d c (deck_tunnels d c)

-- a key that its solution demands
abbrev pub DemandsCase : Says → ℕ → Run → Type 0
DemandsCase d c key = DemandsUnder d c (deck_tunnels d c) key

-- the rows of its keys are there; nothing is detailed
abbrev pub LearnsCase : {X : Type 0} → Says → ℕ → MemoryIs → MemoryIs → (X → Work) → List X → List X → Type 0
LearnsCase d c m n work es fs = Learns (IsCaseWithin d c) (DemandsCase d c) d m n work es fs 0

-- what stands where memory was wanting
abbrev pub IsCaseLost : {X : Type 0} → Says → ℕ → MemoryIs → MemoryIs → (X → Work) → List X → List X → Type 0
IsCaseLost d c m n work es fs = IsLost (IsCaseWithin d c) (DemandsCase d c) d m n work es fs
