-- The solution of a case is one. This program's own.
use Rattle.std.specs.Prelude.{◌≡◌, ◌≢◌, ◌↔◌, ℕ, AllPairs, Contains, List}
use Rattle.cost_terms.specs.Table.{Table}
use Rattle.deck_check.specs.Readings.{Says}
use Rattle.deck_lines.specs.Deck.{body_of}
use Rattle.plan_program.specs.Chosen.{IsSolution}
use Rattle.plan_program.specs.declared.solved.Solved.{Solved}
use Rattle.sim_engine.specs.Engine.{Run, Work}
use Rattle.case_study.specs.Case.{IsTableOf}
use Rattle.case_study.specs.Keys.{IsCaseKey}
use Rattle.case_study.specs.Listings.{deck_tunnels}
use Rattle.wasp_session.specs.Oneness.{AreSameKeys}
use Rattle.wasp_session.specs.State.{State}
use Rattle.wasp_session.specs.Steps.{IsWanting}
use Rattle.deck_tellings.specs.Solving.{IsCaseWithin, DemandsCase}

-- what stands where memory was wanting, of a session
abbrev pub IsCaseWanting : {X : Type 0} → ℕ → State → State → (X → Work) → List X → List X → Type 0
IsCaseWanting c s t work es fs = IsWanting (IsCaseWithin (body_of s.deck) c) (DemandsCase (body_of s.deck) c) s t work es fs

-- ---- a case has one solution

-- the keys of a case, each once
pub record AreCaseKeys (d : Says) (c : ℕ) (keys : List Run) : Type 0 where
  pub once : AllPairs (λ one other. one ≢ other) keys
  pub each : (key : Run) → Contains keys key ↔ IsCaseKey d c (deck_tunnels d c) key

-- what solves the table of a case is one, and so are its keys
pub record SolvedCasesAreOne : Type 0 where
  pub solved : (d : Says) (c : ℕ) (one other : Table) (s t : Solved)
      → IsTableOf d c (deck_tunnels d c) one → IsTableOf d c (deck_tunnels d c) other → IsSolution one s → IsSolution other t → s ≡ t
  pub keys : (d : Says) (c : ℕ) (one other : List Run) → AreCaseKeys d c one → AreCaseKeys d c other → AreSameKeys one other
