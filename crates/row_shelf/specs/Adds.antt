-- What is done to a shelf: rows of asked keys are added, each new key simulated once by one of the engines. This
-- program's own.
use Rattle.std.specs.Prelude.{◌≡◌, ◌≢◌, ℕ, ◌+◌, ◌⊎◌, AllPairs, Contains, List, length, map}
use Rattle.sim_engine.specs.Engine.{Run, Work}
use Rattle.sim_sweep.specs.Works.{HaveWorked}
use Rattle.row_shelf.specs.Asked.{IsAsked}
use Rattle.row_shelf.specs.Shelf.{Holds, ShelfIs}

-- these are the new ones of the asked keys, each once; they are added, what was there stays, and nothing else comes
pub record Adds (Asked : Run → Type 0) (before now : ShelfIs) (new : List Run) : Type 0 where
  pub once : AllPairs (λ one other. one ≢ other) new
  pub fresh : (key : Run) → Contains new key → Holds before key → ⊥
  pub asked : (key : Run) → Contains new key → Asked key
  pub all : (key : Run) → Asked key → Holds before key ⊎ Contains new key
  pub stays : (key : Run) → Holds before key → Holds now key
  pub stand : (key : Run) → Contains new key → Holds now key
  pub only : (key : Run) → Holds now key → Holds before key ⊎ Contains new key
  pub many : length now.kept ≡ length before.kept + length new

-- the new ones were simulated by the engines
pub record Fills {X : Type 0} (Asked : Run → Type 0) (before now : ShelfIs) (work : X → Work) (es fs : List X) : Type 0 where
  pub new : List Run
  pub adds : Adds Asked before now new
  pub worked : HaveWorked new 0 (map work es) (map work fs)

-- the asked keys are those of cases, whose lists are of the systems with these numbers
abbrev pub FillsCases : {X : Type 0} → List ℕ → List (List (List (List ℕ))) → ShelfIs → ShelfIs → (X → Work) → List X → List X → Type 0
FillsCases ids cases before now work es fs = Fills (IsAsked before.book ids cases) before now work es fs
