-- What the steps of a case hand on. For proofs and inner contracts.
use Rattle.std.specs.Prelude.{◌≡◌, ℕ, ◌+◌, ◌<◌, ◌≤◌, All, Contains, List, [], length, Some, slice_get}
use Rattle.checked_deck.specs.Systems.{system}
use Rattle.checked_deck.specs.TypedDeck.{limit}
use Rattle.cost_terms.specs.declared.entries.Scored.{Scored}
use Rattle.deck_check.specs.Readings.{Says, years}
use Rattle.checked_deck.specs.TypedDeck.{IsTyped}
use Rattle.deck_lines.specs.Deck.{body_of}
use Rattle.deck_lines.specs.declared.statement.Statement.{Statement}
use Rattle.row_shelf.specs.Shelf.{Holds, ShelfIs}
use Rattle.case_study.specs.Keys.{IsKeyOf}
use Rattle.case_study.specs.Studies.{AreCaseLists, HasYears}
use Rattle.plan_program.specs.Plans.{entry_at}
use Rattle.plant_data.specs.declared.row.Limit.{Limit}
use Rattle.row_shelf.specs.Asked.{EachAt}
use Rattle.sim_engine.specs.Engine.{Run, Work}
use Rattle.sim_sweep.specs.Works.{HaveWorked}
use Rattle.year_system.specs.System.{Fits}

-- ---- lists

-- a list of each year, at most 500 configurations, each within the greatest counts of the year's system
pub record FitYears (d : Says) (lists : List (List (List ℕ))) : Type 0 where
  pub many : length lists ≡ years d
  pub few : All (λ (configs : List (List ℕ)). length configs ≤ 500) lists
  pub fit : EachAt (λ k configs. All (Fits (system d (k + 1))) configs) lists

-- a key of one of some cases: the system of a year with a configuration of its list
pub record IsOfLists (d : Says) (cases : List (List (List (List ℕ)))) (key : Run) : Type 0 where
  pub case : ℕ
  pub year : ℕ
  pub lists : List (List (List ℕ))
  pub configs : List (List ℕ)
  pub at : slice_get cases case ≡ Some lists
  pub list : slice_get lists year ≡ Some configs
  pub of_year : key.0 ≡ system d (year + 1)
  pub listed : Contains configs key.1

-- the limits of each year of a case
pub record AreLimits (d : Says) (c : ℕ) (limits : List Limit) : Type 0 where
  pub many : length limits ≡ years d
  pub each : EachAt (λ k l. l ≡ limit d c (k + 1)) limits

-- ---- a plan's entries

-- a layer has an entry of a configuration; this is one
pub record HasPlace (layer : List Scored) (counts : List ℕ) : Type 0 where
  pub place : ℕ
  pub within : place < length layer
  pub is : (entry_at layer place).config ≡ counts

pub record IsPlacedAt (layer : List Scored) (counts : List ℕ) (entry : Scored) : Type 0 where
  pub place : ℕ
  pub within : place < length layer
  pub is : entry_at layer place ≡ entry
  pub config : entry.config ≡ counts

-- ---- what is done with engines and text

-- an engine does nothing but to detail years
abbrev pub OnlyDetails : Work → Work → Type 0
OnlyDetails before now = now ≡ record before { detailed = now.detailed }

-- the first of some engines detailed some years, and nothing else was done
pub record HaveDetailed (before now : List Work) : Type 0 where
  pub years : ℕ
  pub worked : HaveWorked [] years before now

-- ---- the study of all cases of a deck, each under the deck's own tunnels

pub record DeckStudyIs : Type 0 where
  pub deck : List Statement
  pub cases : List (List (List (List ℕ)))
  pub ids : List ℕ

pub record IsDeckStudy (s : DeckStudyIs) : Type 0 where
  pub typed : IsTyped s.deck
  pub lists : AreCaseLists (body_of s.deck) s.cases

-- its numbers are those of its years' systems on a shelf, which has the rows of its keys
pub record IsDeckOn (shelf : ShelfIs) (s : DeckStudyIs) : Type 0 where
  pub numbers : HasYears (body_of s.deck) shelf.book s.ids
  pub rows : (key : Run) → IsKeyOf (body_of s.deck) key → Holds shelf key
