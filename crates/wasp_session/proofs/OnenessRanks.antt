-- What is told of the best plans is one.
use Rattle.std.proofs.Common.{◌≡◌, ◌∙◌, ap, sym, subst, ℕ, zero, suc, inl, inr}
use Rattle.best_plans.proofs.OneRanking.{one_ranking}
use Rattle.best_plans.specs.Best.{IsRanking}
use Rattle.cost_terms.specs.Table.{Table}
use Rattle.deck_check.proofs.Single.{met, single}
use Rattle.deck_check.specs.Readings.{Says, cases}
use Rattle.deck_check.specs.declared.fault.DeckFault.{DeckFault}
use Rattle.wasp_session.proofs.OneOutcome.{one_outcome}
use Rattle.plan_program.specs.Chosen.{IsOutcome}
use Rattle.report_text.specs.Ranking.{best_heading, over_text, ranking_text}
use Rattle.report_text.specs.Refusals.{refusal_line}
use Rattle.report_text.specs.declared.refusals.Refusal.{Refusal}
use Rattle.report_text.specs.declared.refusals.Refusal.TheVariants.{Deck}
use Rattle.tunnel_configs.specs.Listed.{ListingsAreOne}
use Rattle.case_study.proofs.OnenessReports.{over_in_apart, over_in_one, table_one}
use Rattle.wasp_session.proofs.TellSteps.{both_are, joined_one}
use Rattle.case_study.specs.Listings.{deck_tunnels}
use Rattle.deck_tellings.specs.Ranks.{AreCasesRanked, IsBestTold, IsCaseOverTold, IsCaseRanked, IsDeckRanked, IsRankingTold}
use Rattle.deck_tellings.specs.Said.{IsFaultTold}
use Rattle.deck_tellings.specs.Told.{Told, nothing, plain}

-- ---- a case

over_one : ListingsAreOne → (d : Says) (c : ℕ) (a b : Told) → IsCaseOverTold d c a → IsCaseOverTold d c b → a ≡ b
over_one one d c a b x y =
    let same = over_in_one one d c (deck_tunnels d c) x.refusal y.refusal x.over y.over in
    x.is ∙ (ap (λ (r : Refusal). plain (over_text c r)) same ∙ sym y.is)

ranking_one : ListingsAreOne → (d : Says) (k c : ℕ) (a b : Told) → IsRankingTold d k c a → IsRankingTold d k c b → a ≡ b
ranking_one one d k c a b x y =
    let table : x.table ≡ y.table = table_one one d c (deck_tunnels d c) x.table y.table x.is_table y.is_table in
    let outcome : x.outcome ≡ y.outcome = one_outcome x.table x.outcome y.outcome x.is_outcome (subst (λ (t : Table). IsOutcome t y.outcome) (sym table) y.is_outcome) in
    let ranking : x.ranking ≡ y.ranking = one_ranking x.table k x.ranking y.ranking x.is_ranking (subst (λ (t : Table). IsRanking t k y.ranking) (sym table) y.is_ranking) in
    let both : plain (ranking_text c x.outcome x.ranking) ≡ plain (ranking_text c y.outcome y.ranking) = λ i. plain (ranking_text c (outcome i) (ranking i)) in
    x.is ∙ (both ∙ sym y.is)

case_one : ListingsAreOne → (d : Says) (k c : ℕ) (a b : Told) → IsCaseRanked d k c a → IsCaseRanked d k c b → a ≡ b
case_one one d k c a b (inl x) (inl y) = over_one one d c a b x y
case_one one d k c a b (inl x) (inr y) = absurd (over_in_apart one d c (deck_tunnels d c) x.refusal x.over y.within)
case_one one d k c a b (inr x) (inl y) = absurd (over_in_apart one d c (deck_tunnels d c) y.refusal y.over x.within)
case_one one d k c a b (inr x) (inr y) = ranking_one one d k c a b x y

cases_one : ListingsAreOne → (d : Says) (k c : ℕ) (a b : Told) → AreCasesRanked d k c a → AreCasesRanked d k c b → a ≡ b
cases_one one d k zero a b x y = both_are nothing a b x y
cases_one one d k (suc c) a b x y = joined_one (AreCasesRanked d k c) (IsCaseRanked d k (suc c)) a b (cases_one one d k c) (case_one one d k (suc c)) x y

-- ---- a deck

fault_one : (d : Says) (a b : Told) → IsFaultTold d a → IsFaultTold d b → a ≡ b
fault_one d a b x y =
    x.is ∙ (ap (λ (f : DeckFault). plain (refusal_line (Deck f))) (single d x.fault y.fault x.is_of y.is_of) ∙ sym y.is)

deck_one : ListingsAreOne → (k : ℕ) (d : Says) (a b : Told) → IsDeckRanked k d a → IsDeckRanked k d b → a ≡ b
deck_one one k d a b (inl x) (inl y) = fault_one d a b x y
deck_one one k d a b (inl x) (inr y) = absurd (met d x.fault x.is_of y.0)
deck_one one k d a b (inr x) (inl y) = absurd (met d y.fault y.is_of x.0)
deck_one one k d a b (inr x) (inr y) = cases_one one d k (cases d) a b x.1 y.1

pub best_one : ListingsAreOne → (k n : ℕ) (d : Says) (a b : Told) → IsBestTold k n d a → IsBestTold k n d b → a ≡ b
best_one one k n d a b x y =
    joined_one (λ head. head ≡ plain (best_heading n)) (IsDeckRanked k d) a b (both_are (plain (best_heading n))) (deck_one one k d) x y
