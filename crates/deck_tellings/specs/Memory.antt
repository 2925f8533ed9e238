-- What is kept of a run: the shelf, and how many rows were filled for it by sweeps. This program's own.
use Rattle.std.specs.Prelude.{ℕ}
use Rattle.row_shelf.specs.Shelf.{ShelfIs, no_rows}

pub record MemoryIs : Type 0 where
  pub shelf : ShelfIs
  pub tally : ℕ

abbrev pub no_memory : MemoryIs
no_memory = record { shelf = no_rows; tally = 0 }
