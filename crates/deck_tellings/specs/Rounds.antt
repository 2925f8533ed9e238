-- What `search` tells of a PLAN line: each case is planned round by round, its tunnels moved in between, until no chosen
-- configuration stands at an edge that may be moved, a round is refused or infeasible, or 20 rounds are done. This
-- program's own.
use Rattle.std.specs.Prelude.{◌≡◌, ℕ, zero, suc, ◌+◌, ◌<◌, ◌≤◌, ◌⊎◌, ◌++◌, List, Option, None, Some}
use Rattle.cost_terms.specs.Table.{Table}
use Rattle.deck_check.specs.DeckFault.{HasNoFault}
use Rattle.deck_check.specs.Readings.{Says, cases, greatest}
use Rattle.plan_program.specs.Chosen.{IsInfeasible, IsPlanOf}
use Rattle.report_text.specs.Refusals.{refusal_line}
use Rattle.report_text.specs.Rounds.{barred_line, case_line, found_text, inside_line, round_line, rounds_line, search_heading}
use Rattle.report_text.specs.declared.refusals.Refusal.{Refusal}
use Rattle.report_text.specs.declared.rounds.Found.{Found}
use Rattle.sim_engine.specs.Engine.{Run}
use Rattle.tunnel_search.specs.Search.{AreInside, moved_tunnels}
use Rattle.case_study.specs.Case.{IsTableOf}
use Rattle.case_study.specs.Keys.{DemandsUnder}
use Rattle.case_study.specs.Listings.{AreWithin, IsOverIn, Tunnels, deck_tunnels}
use Rattle.deck_tellings.specs.Said.{IsFaultTold}
use Rattle.deck_tellings.specs.Told.{AreJoined, Told, nothing, plain}

-- ---- a round under tunnels

-- the chosen plan of a case
pub record IsFound (d : Says) (c : ℕ) (f : Found) : Type 0 where
  pub within : AreWithin d c f.tunnels
  pub table : Table
  pub is_table : IsTableOf d c f.tunnels table
  pub is_plan : IsPlanOf table f.configs f.total

-- there is none: the first year that no plan reaches
pub record IsBarred (d : Says) (c : ℕ) (tunnels : Tunnels) (year : ℕ) : Type 0 where
  pub within : AreWithin d c tunnels
  pub table : Table
  pub is_table : IsTableOf d c tunnels table
  pub is_barred : IsInfeasible table year

-- no chosen configuration has a mark
abbrev pub IsSettled : Says → Found → Type 0
IsSettled d f = AreInside (greatest d) f.tunnels f.configs

-- the tunnels of the round behind it
abbrev pub tunnels_behind : Says → Found → Tunnels
tunnels_behind d f = moved_tunnels (greatest d) f.tunnels f.configs

-- ---- the rounds of a case, from one on

pub record EndsOver (d : Says) (c : ℕ) (tunnels : Tunnels) (last : Option Found) (text : List ℕ) : Type 0 where
  pub refusal : Refusal
  pub over : IsOverIn d c tunnels refusal
  pub is : text ≡ refusal_line refusal ++ found_text c last

pub record EndsBarred (d : Says) (c : ℕ) (tunnels : Tunnels) (last : Option Found) (text : List ℕ) : Type 0 where
  pub year : ℕ
  pub barred : IsBarred d c tunnels year
  pub is : text ≡ barred_line year ++ found_text c last

-- a round with a plan, and what is told behind its line
pub record GoesBehind (d : Says) (c round : ℕ) (tunnels : Tunnels) (Behind : Found → List ℕ → Type 0) (text : List ℕ) : Type 0 where
  pub found : Found
  pub under : found.tunnels ≡ tunnels
  pub is_found : IsFound d c found
  pub rest : List ℕ
  pub behind : Behind found rest
  pub is : text ≡ round_line round found.total ++ rest

-- what is told of the rounds from one on, with so many of them allowed
abbrev pub AreRounds : ℕ → Says → ℕ → ℕ → Tunnels → Option Found → List ℕ → Type 0
AreRounds zero d c round tunnels last text = text ≡ rounds_line ++ found_text c last
AreRounds (suc more) d c round tunnels last text =
    EndsOver d c tunnels last text ⊎ (EndsBarred d c tunnels last text
    ⊎ GoesBehind d c round tunnels
    (λ f rest. (IsSettled d f × (rest ≡ inside_line ++ found_text c (Some f)))
    ⊎ ((IsSettled d f → ⊥) × AreRounds more d c (round + 1) (tunnels_behind d f) (Some f) rest)) text)

-- ---- what is told

pub record IsCaseSearched (d : Says) (c : ℕ) (told : Told) : Type 0 where
  pub rounds : List ℕ
  pub are_rounds : AreRounds 20 d c 1 (deck_tunnels d c) None rounds
  pub is : told ≡ plain (case_line c ++ rounds)

-- of the first cases
abbrev pub AreCasesSearched : Says → ℕ → Told → Type 0
AreCasesSearched d zero told = told ≡ nothing
AreCasesSearched d (suc c) told = AreJoined (AreCasesSearched d c) (IsCaseSearched d (suc c)) told

-- of a deck: its fault comes first
abbrev pub IsDeckSearched : Says → Told → Type 0
IsDeckSearched d told = IsFaultTold d told ⊎ (HasNoFault d × AreCasesSearched d (cases d) told)

-- of the n-th PLAN on a deck
abbrev pub IsSearchTold : ℕ → Says → Told → Type 0
IsSearchTold n d told = AreJoined (λ head. head ≡ plain (search_heading n)) (IsDeckSearched d) told

-- ---- the keys

-- the tunnels of a round, counted from 0: the deck's own, and those that are moved by the chosen plan of the round
-- before, as long as a configuration of it has a mark
abbrev pub IsRoundUnder : ℕ → Says → ℕ → Tunnels → Type 0
IsRoundUnder zero d c tunnels = tunnels ≡ deck_tunnels d c
IsRoundUnder (suc round) d c tunnels =
    (f : Found) × IsRoundUnder round d c f.tunnels × IsFound d c f × (IsSettled d f → ⊥)
    × (tunnels ≡ tunnels_behind d f)

-- a round of a case, of the first so many, that is not refused
pub record RoundDemands (d : Says) (c rounds : ℕ) (key : Run) : Type 0 where
  pub round : ℕ
  pub few : round < rounds
  pub tunnels : Tunnels
  pub is_round : IsRoundUnder round d c tunnels
  pub asked : DemandsUnder d c tunnels key

-- the keys of all of them
pub record SearchDemands (d : Says) (key : Run) : Type 0 where
  pub faultless : HasNoFault d
  pub case : ℕ
  pub within : (1 ≤ case) × (case ≤ cases d)
  pub asked : RoundDemands d case 20 key
