-- The answer of a solved case under tunnels.
use Rattle.std.proofs.Common.{◌≡◌, sym, subst, ℕ}
use Rattle.cost_terms.specs.Table.{Table}
use Rattle.deck_check.specs.Readings.{Says}
use Rattle.plan_program.specs.Chosen.{IsOutcome}
use Rattle.plan_program.specs.declared.solved.Outcome.{Outcome}
use Rattle.plan_program.specs.declared.solved.Outcome.TheVariants as outcomes
use Rattle.deck_tellings.specs.Inner.{HasTable}
use Rattle.case_study.specs.Listings.{Tunnels}
use Rattle.deck_tellings.specs.Searching.{IsRoundAnswer, answer_of}
use Rattle.deck_tellings.specs.declared.rounds.RoundAnswer.{RoundAnswer}

answers : (d : Says) (c : ℕ) (tunnels : Tunnels) (table : Table) (outcome : Outcome) → HasTable d c tunnels table → IsOutcome table outcome → IsRoundAnswer d c tunnels (answer_of outcome)
answers d c tunnels table (outcomes.Plan configs total) has is = record { within = has.within; table = table; is_table = has.is; is_plan = is }
answers d c tunnels table (outcomes.Infeasible year) has is = record { within = has.within; table = table; is_table = has.is; is_barred = is }

pub answer_is : (d : Says) (c : ℕ) (tunnels : Tunnels) (table other : Table) (outcome solved : Outcome) (answer : RoundAnswer) → other ≡ table → answer ≡ answer_of outcome → outcome ≡ solved → HasTable d c tunnels table → IsOutcome other solved
    → IsRoundAnswer d c tunnels answer
answer_is d c tunnels table other outcome solved answer same is of_solved has outcome_is =
    subst (IsRoundAnswer d c tunnels) (sym is)
    (answers d c tunnels table outcome has (subst (λ (t : Table). IsOutcome t outcome) same (subst (λ (o : Outcome). IsOutcome other o) (sym of_solved) outcome_is)))
