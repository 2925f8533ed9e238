-- What a PLAN tells behind its heading, by its command.
use Rattle.std.proofs.Common.{◌≡◌, ◌∙◌, ap, refl, ℕ, ◌+◌, List, ◌++◌, arith, append_assoc}
use Rattle.std.specs.Prelude.{Vec}
use Rattle.deck_check.specs.DeckFault.{HasNoFault}
use Rattle.deck_check.specs.Readings.{Says}
use Rattle.deck_lines.specs.Deck.{body_of}
use Rattle.deck_lines.specs.declared.statement.Statement.{Statement}
use Rattle.report_text.specs.Lines.{heading}
use Rattle.report_text.specs.Ranking.{best_heading}
use Rattle.report_text.specs.Rounds.{search_heading}
use Rattle.sim_engine.specs.Engine.{Run, Work}
use Rattle.wasp_session.specs.Inner.{TellsDeck, TellsPlan}
use Rattle.case_study.specs.Keys.{Demands}
use Rattle.case_study.specs.Listings.{IsTaken}
use Rattle.wasp_session.specs.Modes.{HasPlans}
use Rattle.deck_tellings.specs.Ranks.{BestDemands, IsDeckRanked}
use Rattle.deck_tellings.specs.Rounds.{IsDeckSearched, SearchDemands}
use Rattle.deck_tellings.specs.Said.{IsDeckTold}
use Rattle.deck_tellings.specs.Memory.{MemoryIs}
use Rattle.deck_tellings.specs.Learning.{Tells}
use Rattle.wasp_session.specs.Tasks.{head_of}
use Rattle.deck_tellings.specs.Told.{AreJoined, Told, joined, plain}
use Rattle.wasp_session.specs.declared.command.Command.{Command}
use Rattle.wasp_session.specs.declared.command.Command.TheVariants as commands
use Rattle.deck_tellings.proofs.TellBehind.{learns_years}

head_told : {X Z : Type 0} (head : List ℕ) (Is : Told → Type 0) (d : Says) (Taken : Type 0) (Asks : Run → Type 0) (m n : MemoryIs) (work : X → Work) (es fs : List X) (said headed said_now : Vec ℕ Z)
    → headed.items ≡ said.items ++ head → Tells Is Taken Asks d m n work es fs headed said_now 0 → Tells (AreJoined (λ first. first ≡ plain head) Is) Taken Asks d m n work es fs said said_now 0
head_told head Is d Taken Asks m n work es fs said headed said_now text t = record {
  told = joined (plain head) t.told;
  is_told = record { one = plain head; other = t.told; is_one = refl; is_other = t.is_told; is = refl };
  text = t.text ∙ ap (λ (z : List ℕ). z ++ t.told.text) text ∙ append_assoc said.items head t.told.text;
  nos = omega (arith, t.nos);
  learns = learns_years Taken Asks d m n work es fs t.told.details (0 + t.told.details) (omega arith) t.learns;
}

-- by what the command tells
pub plan_told : {X Z : Type 0} (command : Command) (k : ℕ) (deck : List Statement) (m n : MemoryIs) (work : X → Work) (es fs : List X) (said headed said_now : Vec ℕ Z) → HasPlans command
    → headed.items ≡ said.items ++ head_of command k → TellsDeck command deck m n work es fs headed said_now → TellsPlan command k deck m n work es fs said said_now
plan_told commands.Plan k deck m n work es fs said headed said_now plans text t =
    let d = body_of deck in head_told (heading k) (IsDeckTold d) d (IsTaken d) (Demands d) m n work es fs said headed said_now text t
plan_told commands.Check k deck m n work es fs said headed said_now plans text t = absurd plans
plan_told commands.Search k deck m n work es fs said headed said_now plans text t =
    let d = body_of deck in head_told (search_heading k) (IsDeckSearched d) d (HasNoFault d) (SearchDemands d) m n work es fs said headed said_now text t
plan_told (commands.Best b) k deck m n work es fs said headed said_now plans text t =
    let d = body_of deck in head_told (best_heading k) (IsDeckRanked b d) d (HasNoFault d) (BestDemands d) m n work es fs said headed said_now text t
