-- The study of a case: a deck without fault, the case, its tunnels, the configurations that are listed for each year,
-- and the numbers of its years' systems on a shelf. This program's own.
use Rattle.std.specs.Prelude.{◌≡◌, ℕ, ◌+◌, ◌≤◌, ◌<◌, All, List, length, Some, slice_get}
use Rattle.checked_deck.specs.Systems.{system}
use Rattle.checked_deck.specs.TypedDeck.{IsTyped}
use Rattle.deck_check.specs.Readings as says
use Rattle.deck_check.specs.Readings.{Says, cases, years}
use Rattle.deck_lines.specs.Deck.{body_of}
use Rattle.deck_lines.specs.declared.statement.Statement.{Statement}
use Rattle.plant_data.specs.declared.row.Tunnel.{Tunnel}
use Rattle.row_shelf.specs.Asked.{EachAt}
use Rattle.row_shelf.specs.Shelf.{Holds, ShelfIs}
use Rattle.sim_engine.specs.Engine.{Run}
use Rattle.case_study.specs.Keys.{IsCaseKey}
use Rattle.case_study.specs.Listings.{AreTunnels, IsFairListing, Tunnels, deck_tunnels, tunnel_at}
use Rattle.year_system.specs.System.{Fits, System, greatest}

-- the system of a year, whose candidates are those of the deck
pub record IsYearSystem (d : Says) (t : ℕ) (s : System) : Type 0 where
  pub is : s ≡ system d t
  pub width : greatest s ≡ says.greatest d

-- the system of one of a deck's years, and of each of them
pub record IsSystemOf (d : Says) (s : System) : Type 0 where
  pub year : ℕ
  pub within : (1 ≤ year) × (year ≤ years d)
  pub is : s ≡ system d year

pub record AreSystems (d : Says) (systems : List System) : Type 0 where
  pub many : length systems ≡ years d
  pub each : EachAt (λ k s. IsYearSystem d (k + 1) s) systems

-- the listed configurations of a case and year under a tunnel, within the limits and within the greatest counts
pub record IsYearList (d : Says) (c t : ℕ) (in_tunnel : Tunnel) (configs : List (List ℕ)) : Type 0 where
  pub fair : IsFairListing d c t in_tunnel configs
  pub fit : All (Fits (system d t)) configs

-- those of each year of a case
pub record AreYearLists (d : Says) (c : ℕ) (tunnels : Tunnels) (lists : List (List (List ℕ))) : Type 0 where
  pub many : length lists ≡ years d
  pub each : EachAt (λ k configs. IsYearList d c (k + 1) (tunnel_at tunnels (k + 1)) configs) lists

-- those of each case of a deck, each under the deck's own tunnels
pub record AreCaseLists (d : Says) (lists : List (List (List (List ℕ)))) : Type 0 where
  pub many : length lists ≡ cases d
  pub each : EachAt (λ k years. AreYearLists d (k + 1) (deck_tunnels d (k + 1)) years) lists

-- the numbers in a book of the systems of a deck's years
pub record HasYears (d : Says) (book : List System) (ids : List ℕ) : Type 0 where
  pub many : length ids ≡ years d
  pub each : EachAt (λ k id. slice_get book id ≡ Some (system d (k + 1))) ids
  pub width : (k : ℕ) → k < years d → greatest (system d (k + 1)) ≡ says.greatest d

-- ---- a study

pub record StudyIs : Type 0 where
  pub deck : List Statement
  pub case : ℕ
  pub tunnels : Tunnels
  pub lists : List (List (List ℕ))
  pub ids : List ℕ

-- what is true of every study, but for its numbers
pub record IsStudy (s : StudyIs) : Type 0 where
  pub typed : IsTyped s.deck
  pub case : (1 ≤ s.case) × (s.case ≤ cases (body_of s.deck))
  pub tunnels : AreTunnels (body_of s.deck) s.tunnels
  pub lists : AreYearLists (body_of s.deck) s.case s.tunnels s.lists

-- its numbers are those of its years' systems on a shelf, which has the rows of its keys
pub record IsOn (shelf : ShelfIs) (s : StudyIs) : Type 0 where
  pub numbers : HasYears (body_of s.deck) shelf.book s.ids
  pub rows : (key : Run) → IsCaseKey (body_of s.deck) s.case s.tunnels key → Holds shelf key
