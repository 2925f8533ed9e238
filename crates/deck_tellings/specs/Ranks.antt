-- What `best K` tells of a PLAN line: the K best plans of each case, or why there is none. This program's own.
use Rattle.std.specs.Prelude.{◌≡◌, ℕ, zero, suc, ◌≤◌, ◌⊎◌, List, ◌++◌, Vec}
use Rattle.best_plans.specs.Best.{IsRanking}
use Rattle.best_plans.specs.declared.ranked.Ranked.{Ranked}
use Rattle.cost_terms.specs.Table.{Table}
use Rattle.deck_check.specs.DeckFault.{HasNoFault}
use Rattle.deck_check.specs.Readings.{Says, cases}
use Rattle.plan_program.specs.Chosen.{IsOutcome}
use Rattle.plan_program.specs.declared.solved.Outcome.{Outcome}
use Rattle.report_text.specs.Ranking.{best_heading, over_text, ranking_text}
use Rattle.report_text.specs.declared.refusals.Refusal.{Refusal}
use Rattle.sim_engine.specs.Engine.{Run}
use Rattle.case_study.specs.Case.{IsTableOf}
use Rattle.case_study.specs.Keys.{DemandsUnder}
use Rattle.case_study.specs.Listings.{AreWithin, IsOverIn, deck_tunnels}
use Rattle.deck_tellings.specs.Said.{IsFaultTold}
use Rattle.deck_tellings.specs.Told.{AreJoined, Told, nothing, plain}

-- the first k of all admissible plans of a case, with the outcome of its chosen plan where there is none
pub record IsRankingTold (d : Says) (k c : ℕ) (told : Told) : Type 0 where
  pub within : AreWithin d c (deck_tunnels d c)
  pub table : Table
  pub is_table : IsTableOf d c (deck_tunnels d c) table
  pub outcome : Outcome
  pub is_outcome : IsOutcome table outcome
  pub ranking : List Ranked
  pub is_ranking : IsRanking table k ranking
  pub is : told ≡ plain (ranking_text c outcome ranking)

-- its first year over a limit, which ends this case alone
pub record IsCaseOverTold (d : Says) (c : ℕ) (told : Told) : Type 0 where
  pub refusal : Refusal
  pub over : IsOverIn d c (deck_tunnels d c) refusal
  pub is : told ≡ plain (over_text c refusal)

abbrev pub IsCaseRanked : Says → ℕ → ℕ → Told → Type 0
IsCaseRanked d k c told = IsCaseOverTold d c told ⊎ IsRankingTold d k c told

-- of the first cases
abbrev pub AreCasesRanked : Says → ℕ → ℕ → Told → Type 0
AreCasesRanked d k zero told = told ≡ nothing
AreCasesRanked d k (suc c) told = AreJoined (AreCasesRanked d k c) (IsCaseRanked d k (suc c)) told

-- of a deck: its fault comes first
abbrev pub IsDeckRanked : ℕ → Says → Told → Type 0
IsDeckRanked k d told = IsFaultTold d told ⊎ (HasNoFault d × AreCasesRanked d k (cases d) told)

-- of the n-th PLAN on a deck
abbrev pub IsBestTold : ℕ → ℕ → Says → Told → Type 0
IsBestTold k n d told = AreJoined (λ head. head ≡ plain (best_heading n)) (IsDeckRanked k d) told

-- the keys that it demands: those of each case that is within its limits
pub record BestDemands (d : Says) (key : Run) : Type 0 where
  pub faultless : HasNoFault d
  pub case : ℕ
  pub asked : DemandsUnder d case (deck_tunnels d case) key

-- ---- case by case

-- the keys of the first cases
pub record AsksUpTo (d : Says) (last : ℕ) (key : Run) : Type 0 where
  pub case : ℕ
  pub within : case ≤ last
  pub asked : DemandsUnder d case (deck_tunnels d case) key

-- a text is told, for which nothing is detailed
pub record TellsPlain {Z : Type 0} (Is : Told → Type 0) (said said_now : Vec ℕ Z) : Type 0 where
  pub more : List ℕ
  pub is_told : Is (plain more)
  pub text : said_now.items ≡ said.items ++ more
