-- What the steps of a telling hand on. For proofs and inner contracts.
use Rattle.std.specs.Prelude.{◌≡◌, ℕ, ◌+◌, List, [], ◌∷◌, ◌++◌, length, map}
use Rattle.std.specs.Prelude.{Vec}
use Rattle.cost_terms.specs.CostData.{greatest as candidate_counts}
use Rattle.cost_terms.specs.Table.{Table}
use Rattle.deck_check.specs.Readings.{Says, greatest}
use Rattle.deck_lines.specs.Deck.{body_of}
use Rattle.sim_engine.specs.Engine.{Work}
use Rattle.sim_sweep.specs.Cases.{Done}
use Rattle.sim_sweep.specs.Works.{HaveWorked}
use Rattle.case_study.specs.Case.{IsTableOf}
use Rattle.case_study.specs.Listings.{AreWithin, IsOverIn, Tunnels, deck_tunnels}
use Rattle.deck_tellings.specs.Told.{Told}
use Rattle.deck_tellings.specs.declared.answer.CaseAnswer.{CaseAnswer}
use Rattle.deck_tellings.specs.declared.answer.CaseAnswer.TheVariants as answers
use Rattle.case_study.specs.Inner.{DeckStudyIs}

-- ---- what is done with engines and text

-- a text goes on
pub record GoesOn {Z : Type 0} (before now : Vec ℕ Z) : Type 0 where
  pub more : List ℕ
  pub is : now.items ≡ before.items ++ more

-- an engine details the years that are told
pub record TellsBy {Z : Type 0} (Is : Told → Type 0) (before now : Work) (said said_now : Vec ℕ Z) : Type 0 where
  pub told : Told
  pub is_told : Is told
  pub text : said_now.items ≡ said.items ++ told.text
  pub nos : told.nos ≡ 0
  pub worked : HaveWorked [] told.details (before ∷ []) (now ∷ [])

-- the first of some engines does, and the others nothing
pub record TellsByFirst {X Z : Type 0} (Is : Told → Type 0) (work : X → Work) (es fs : List X) (said said_now : Vec ℕ Z) : Type 0 where
  pub told : Told
  pub is_told : Is told
  pub text : said_now.items ≡ said.items ++ told.text
  pub nos : told.nos ≡ 0
  pub worked : HaveWorked [] told.details (map work es) (map work fs)

-- ---- what is answered of a case under tunnels

-- the table of its accepted configurations
pub record HasTable (d : Says) (c : ℕ) (tunnels : Tunnels) (table : Table) : Type 0 where
  pub within : AreWithin d c tunnels
  pub is : IsTableOf d c tunnels table
  pub width : candidate_counts table.economy ≡ greatest d

-- or the first year over a limit
abbrev pub IsAnswerUnder : Says → ℕ → Tunnels → CaseAnswer → Type 0
IsAnswerUnder d c tunnels (answers.Table table) = HasTable d c tunnels table
IsAnswerUnder d c tunnels (answers.Over r) = IsOverIn d c tunnels r

-- ---- settled cases

-- the table of a case under the deck's own tunnels
pub record IsOwnTable (d : Says) (c : ℕ) (table : Table) : Type 0 where
  pub is : IsTableOf d c (deck_tunnels d c) table
  pub width : candidate_counts table.economy ≡ greatest d

-- those of the cases from one on
abbrev pub AreTablesFrom : Says → ℕ → List Table → Type 0
AreTablesFrom d c [] = Unit {0}
AreTablesFrom d c (table ∷ tables) = IsOwnTable d c table × AreTablesFrom d (c + 1) tables

-- each of its cases is settled, in their order
pub record AreSettled (s : DeckStudyIs) (dones : List Done) : Type 0 where
  pub many : length dones ≡ length s.cases
  pub tables : AreTablesFrom (body_of s.deck) 1 (map (λ done. done.table) dones)
