-- The demands of asked keys, as the sweep takes them. For proofs and inner contracts.
use Rattle.std.specs.Prelude.{◌≡◌, ℕ, ◌≤◌, List, [], ◌++◌, length, map, filter, Option, None, Some, is_none, slice_get}
use Rattle.std.specs.List.{flat_map, zip}
use Rattle.std.specs.List.Sorted.{IsPermutation}
use Rattle.board_core.specs.declared.row.KeptRow.{KeptRow}
use Rattle.sim_sweep.specs.Kept.{words_in}
use Rattle.sim_sweep.specs.declared.demand.Demand.{Demand}
use Rattle.year_system.specs.Code.{code_of}
use Rattle.year_system.specs.System.{System}

-- the demands of configurations of a system with a number, of the book's systems, of a case and of all cases
abbrev pub demands_of : ℕ → List (List ℕ) → Option System → List Demand
demands_of id configs None = []
demands_of id configs (Some s) = map (λ x. record { code = code_of id s x; id = id; config = x }) configs

abbrev pub year_demands : List System → ℕ × List (List ℕ) → List Demand
year_demands book e = demands_of e.0 e.1 (slice_get book e.0)

abbrev pub case_demands : List System → List ℕ → List (List (List ℕ)) → List (List Demand)
case_demands book ids lists = map (year_demands book) (zip ids lists)

abbrev pub years_demands : List System → List ℕ → List (List (List ℕ)) → List Demand
years_demands book ids lists = flat_map (year_demands book) (zip ids lists)

abbrev pub all_demands : List System → List ℕ → List (List (List (List ℕ))) → List Demand
all_demands book ids cases = flat_map (years_demands book ids) cases

-- of these demands the ones whose row is not kept
abbrev pub wanted : List KeptRow → List Demand → List Demand
wanted kept demands = filter (λ d. is_none (words_in kept d.code)) demands

-- they were added behind others
abbrev pub AddsWanted : List KeptRow → List Demand → List Demand → List Demand → Type 0
AddsWanted kept demands before now = now ≡ before ++ wanted kept demands

-- these are the ones of all whose row is not kept, each as often as there, in any order
abbrev pub AreWanted : List KeptRow → List Demand → List Demand → Type 0
AreWanted kept all demands = IsPermutation (wanted kept all) demands

-- no system stands twice in the book
abbrev pub AreOnes : List System → Type 0
AreOnes book = (i j : ℕ) (s : System) → slice_get book i ≡ Some s → slice_get book j ≡ Some s → i ≡ j

-- the book has grown, by no more than so many systems
pub record HasGrown (before now : List System) (most : ℕ) : Type 0 where
  pub more : List System
  pub is : now ≡ before ++ more
  pub few : length more ≤ most
