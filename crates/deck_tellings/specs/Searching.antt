-- What the steps of a search hand on. For proofs and inner contracts.
use Rattle.std.specs.Prelude.{◌≡◌, ℕ, suc, ◌+◌, ◌-◌, ◌<◌, ◌≤◌, ◌^◌, ◌++◌, List, length, None, Some}
use Rattle.std.specs.Prelude.{Vec}
use Rattle.deck_check.specs.Readings.{Says}
use Rattle.plan_program.specs.declared.solved.Outcome.{Outcome}
use Rattle.plan_program.specs.declared.solved.Outcome.TheVariants as outcomes
use Rattle.report_text.specs.Rounds.{round_line}
use Rattle.report_text.specs.declared.rounds.Found.{Found}
use Rattle.row_shelf.specs.Shelf.{Grows}
use Rattle.sim_engine.specs.Engine.{Run}
use Rattle.tunnel_configs.specs.Listed.{ListingsAreOne}
use Rattle.case_study.specs.Listings.{AreTunnels, IsOverIn, Tunnels, deck_tunnels}
use Rattle.deck_tellings.specs.Rounds.{AreRounds, IsBarred, IsFound, IsSettled, RoundDemands, tunnels_behind}
use Rattle.deck_tellings.specs.Memory.{MemoryIs}
use Rattle.case_study.specs.Studies.{IsSystemOf}
use Rattle.deck_tellings.specs.declared.rounds.RoundAnswer.{RoundAnswer}
use Rattle.deck_tellings.specs.declared.rounds.RoundAnswer.TheVariants as answers
use Rattle.deck_tellings.specs.declared.rounds.NextRound.{NextRound}
use Rattle.deck_tellings.specs.declared.rounds.Turn.{Turn}
use Rattle.deck_tellings.specs.declared.rounds.Turn.TheVariants as turns
use Rattle.year_system.specs.System.{System}

-- ---- the answer of a round

abbrev pub IsRoundAnswer : Says → ℕ → Tunnels → RoundAnswer → Type 0
IsRoundAnswer d c tunnels (answers.Over r) = IsOverIn d c tunnels r
IsRoundAnswer d c tunnels (answers.Barred year) = IsBarred d c tunnels year
IsRoundAnswer d c tunnels (answers.Planned configs total) = IsFound d c (record { tunnels = tunnels; configs = configs; total = total })

-- that of a solved case
abbrev pub answer_of : Outcome → RoundAnswer
answer_of (outcomes.Plan configs total) = answers.Planned configs total
answer_of (outcomes.Infeasible year) = answers.Barred year

-- ---- what is told of it

-- it is the last: no round with a plan stands before another one
pub record IsLastRound {Z : Type 0} (d : Says) (c : ℕ) (r : NextRound) (said said_now : Vec ℕ Z) : Type 0 where
  pub rest : List ℕ
  pub text : said_now.items ≡ said.items ++ rest
  pub is : (more : ℕ) → AreRounds (suc more) d c r.number r.tunnels.items r.last rest
  pub last : ListingsAreOne → (f : Found) → f.tunnels ≡ r.tunnels.items → IsFound d c f → (IsSettled d f → ⊥) → ⊥

-- it has a plan and is not the last
pub record GoesRound {Z : Type 0} (d : Says) (c : ℕ) (r next : NextRound) (said said_now : Vec ℕ Z) : Type 0 where
  pub found : Found
  pub under : found.tunnels ≡ r.tunnels.items
  pub is_found : IsFound d c found
  pub unsettled : IsSettled d found → ⊥
  pub text : said_now.items ≡ said.items ++ round_line r.number found.total
  pub number : next.number ≡ r.number + 1
  pub tunnels : next.tunnels.items ≡ tunnels_behind d found
  pub fit : AreTunnels d next.tunnels.items
  pub last : next.last ≡ Some found

abbrev pub IsTurn : {Z : Type 0} → Says → ℕ → NextRound → Vec ℕ Z → Vec ℕ Z → Turn → Type 0
IsTurn d c r said said_now turns.Ended = IsLastRound d c r said said_now
IsTurn d c r said said_now (turns.Goes next) = GoesRound d c r next said said_now

-- ---- several calls on one deck

-- a text is told, and it is this
pub record IsSaid {Z : Type 0} (Is : List ℕ → Type 0) (said said_now : Vec ℕ Z) : Type 0 where
  pub rest : List ℕ
  pub is : Is rest
  pub text : said_now.items ≡ said.items ++ rest

-- in a book that began with few systems only those of the deck's years came to it, and so many rows have places
pub record HasRoundsFor (d : Says) (keys : ℕ) (m : MemoryIs) : Type 0 where
  pub front : List System
  pub few : length front ≤ 1988
  pub grown : Grows (IsSystemOf d) front m.shelf.book
  pub rows : length m.shelf.kept + keys < 2 ^ 23

-- the keys of the rounds of the first cases
pub record CasesDemand (d : Says) (many : ℕ) (key : Run) : Type 0 where
  pub case : ℕ
  pub within : (1 ≤ case) × (case ≤ many)
  pub asked : RoundDemands d case 20 key

-- what was told so far, behind which the rest from a round on gives what the whole gives
pub record IsSoFar {Z : Type 0} (d : Says) (c rounds : ℕ) (r : NextRound) (said said_now : Vec ℕ Z) : Type 0 where
  pub front : List ℕ
  pub text : said_now.items ≡ said.items ++ front
  pub gives : (rest : List ℕ) → AreRounds (20 - rounds) d c r.number r.tunnels.items r.last rest
      → AreRounds 20 d c 1 (deck_tunnels d c) None (front ++ rest)
