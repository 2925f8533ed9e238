-- What a call does to the memory of a run: it keeps the rows of the keys that are demanded, and has the engines
-- simulate the new ones. This program's own.
use Rattle.std.specs.Prelude.{◌≡◌, ℕ, ◌+◌, ◌<◌, ◌≤◌, ◌^◌, ◌⊎◌, List, ◌++◌, length, map}
use Rattle.std.specs.Prelude.{Vec}
use Rattle.deck_check.specs.Readings.{Says}
use Rattle.row_shelf.specs.Adds.{Adds}
use Rattle.row_shelf.specs.Shelf.{Grows, Holds, ShelfIs}
use Rattle.sim_engine.specs.Engine.{Run, Work, raised}
use Rattle.sim_sweep.specs.Works.{HaveWorked}
use Rattle.deck_tellings.specs.Memory.{MemoryIs}
use Rattle.case_study.specs.Studies.{IsSystemOf}
use Rattle.deck_tellings.specs.Told.{Told}

-- ---- what a call does to the memory, by what is demanded of a deck, and whether anything is taken from it at all

-- the shelf has what it had; systems come from the deck's years alone, and rows are of demanded keys alone
pub record OnlyGains (Taken : Type 0) (Asks : Run → Type 0) (d : Says) (before now : ShelfIs) : Type 0 where
  pub grown : Grows (IsSystemOf d) before.book now.book
  pub stays : (key : Run) → Holds before key → Holds now key
  pub only : (key : Run) → Holds now key → Holds before key ⊎ Asks key
  pub still : (Taken → ⊥) → now ≡ before

-- the rows of the demanded keys are there: the new ones were simulated by the engines, each once, and counted, and the
-- first engine detailed so many years
pub record Learns {X : Type 0} (Taken : Type 0) (Asks : Run → Type 0) (d : Says) (before now : MemoryIs) (work : X → Work) (es fs : List X) (years : ℕ) : Type 0 where
  pub gains : OnlyGains Taken Asks d before.shelf now.shelf
  pub new : List Run
  pub adds : Adds Asks before.shelf now.shelf new
  pub worked : HaveWorked new years (map work es) (map work fs)
  pub tally : now.tally ≡ raised (length new) before.tally

-- the systems of a deck's years came to it at most, and so many rows
pub record GainsFew (keys : ℕ) (before now : MemoryIs) : Type 0 where
  pub systems : length now.shelf.book ≤ length before.shelf.book + 30
  pub rows : length now.shelf.kept ≤ length before.shelf.kept + keys

-- some engines simulated some keys, each once, the first detailed some years, and a tally rose by the keys
pub record HaveGone (tally tally_now : ℕ) (before now : List Work) : Type 0 where
  pub keys : List Run
  pub years : ℕ
  pub worked : HaveWorked keys years before now
  pub rose : tally_now ≡ raised (length keys) tally

-- what stands where memory was wanting
pub record IsLost {X : Type 0} (Taken : Type 0) (Asks : Run → Type 0) (d : Says) (before now : MemoryIs) (work : X → Work) (es fs : List X) : Type 0 where
  pub gains : OnlyGains Taken Asks d before.shelf now.shelf
  pub gone : HaveGone before.tally now.tally (map work es) (map work fs)

-- ---- what a call does

-- it tells something with so many NOs, and learns
pub record Tells {X Z : Type 0} (Is : Told → Type 0) (Taken : Type 0) (Asks : Run → Type 0) (d : Says) (before now : MemoryIs) (work : X → Work) (es fs : List X) (said said_now : Vec ℕ Z) (count : ℕ) : Type 0 where
  pub told : Told
  pub is_told : Is told
  pub text : said_now.items ≡ said.items ++ told.text
  pub nos : told.nos ≡ count
  pub learns : Learns Taken Asks d before now work es fs told.details

-- ---- the sizes

-- for one call: the systems of a deck's years find numbers, and so many keys places beside the kept rows
pub record HasRoomFor (keys : ℕ) (m : MemoryIs) : Type 0 where
  pub systems : length m.shelf.book ≤ 2018
  pub rows : length m.shelf.kept + keys < 2 ^ 23

-- for the calls of a line, one after the other on one deck: the last finds room behind the others
pub record HasPlaceFor (keys : ℕ) (m : MemoryIs) : Type 0 where
  pub systems : length m.shelf.book ≤ 1988
  pub rows : length m.shelf.kept + keys < 2 ^ 23
