-- What is told of a search is one.
use Rattle.std.proofs.Common.{◌≡◌, ◌∙◌, ap, sym, subst, ℕ, zero, suc, ◌+◌, ◌⊎◌, inl, inr, List, ◌++◌, Option, Some, None}
use Rattle.cost_terms.specs.Table.{Table}
use Rattle.deck_check.proofs.Single.{met, single}
use Rattle.deck_check.specs.Readings.{Says, cases}
use Rattle.deck_check.specs.declared.fault.DeckFault.{DeckFault}
use Rattle.plan_program.specs.Chosen.{IsInfeasible}
use Rattle.report_text.specs.Refusals.{refusal_line}
use Rattle.report_text.specs.Rounds.{barred_line, case_line, found_text, inside_line, round_line, search_heading}
use Rattle.report_text.specs.declared.refusals.Refusal.{Refusal}
use Rattle.report_text.specs.declared.refusals.Refusal.TheVariants.{Deck}
use Rattle.report_text.specs.declared.rounds.Found.{Found}
use Rattle.tunnel_configs.specs.Listed.{ListingsAreOne}
use Rattle.deck_tellings.proofs.OnePlan.{one_year}
use Rattle.case_study.proofs.OnenessReports.{over_in_apart, over_in_one, table_one}
use Rattle.deck_tellings.proofs.RoundSteps.{found_not_barred, found_not_over, found_one}
use Rattle.wasp_session.proofs.TellSteps.{both_are, joined_one}
use Rattle.case_study.specs.Listings.{Tunnels, deck_tunnels}
use Rattle.deck_tellings.specs.Rounds.{AreCasesSearched, AreRounds, EndsBarred, EndsOver, GoesBehind, IsCaseSearched, IsDeckSearched, IsSearchTold, IsSettled, tunnels_behind}
use Rattle.deck_tellings.specs.Said.{IsFaultTold}
use Rattle.deck_tellings.specs.Told.{Told, nothing, plain}

-- ---- the rounds of a case

over_one : ListingsAreOne → (d : Says) (c : ℕ) (tunnels : Tunnels) (last : Option Found) (a b : List ℕ) → EndsOver d c tunnels last a → EndsOver d c tunnels last b → a ≡ b
over_one one d c tunnels last a b x y =
    x.is ∙ (ap (λ (r : Refusal). refusal_line r ++ found_text c last) (over_in_one one d c tunnels x.refusal y.refusal x.over y.over) ∙ sym y.is)

barred_one : ListingsAreOne → (d : Says) (c : ℕ) (tunnels : Tunnels) (last : Option Found) (a b : List ℕ) → EndsBarred d c tunnels last a → EndsBarred d c tunnels last b → a ≡ b
barred_one one d c tunnels last a b x y =
    let table : x.barred.table ≡ y.barred.table = table_one one d c tunnels x.barred.table y.barred.table x.barred.is_table y.barred.is_table in
    let year : x.year ≡ y.year = one_year x.barred.table x.year y.year x.barred.is_barred (subst (λ (t : Table). IsInfeasible t y.year) (sym table) y.barred.is_barred) in
    x.is ∙ (ap (λ (t : ℕ). barred_line t ++ found_text c last) year ∙ sym y.is)

-- what is told behind a round's line, by what is told of the rounds behind it
abbrev Behind : ℕ → Says → ℕ → ℕ → Found → List ℕ → Type 0
Behind more d c round f rest =
    (IsSettled d f × (rest ≡ inside_line ++ found_text c (Some f))) ⊎ ((IsSettled d f → ⊥) × AreRounds more d c (round + 1) (tunnels_behind d f) (Some f) rest)

behind_one : (more : ℕ) (d : Says) (c round : ℕ) (f : Found)
    → ((a b : List ℕ) → AreRounds more d c (round + 1) (tunnels_behind d f) (Some f) a → AreRounds more d c (round + 1) (tunnels_behind d f) (Some f) b → a ≡ b)
    → (a b : List ℕ) → Behind more d c round f a → Behind more d c round f b → a ≡ b
behind_one more d c round f rest a b (inl x) (inl y) = x.1 ∙ sym y.1
behind_one more d c round f rest a b (inl x) (inr y) = absurd (y.0 x.0)
behind_one more d c round f rest a b (inr x) (inl y) = absurd (x.0 y.0)
behind_one more d c round f rest a b (inr x) (inr y) = rest a b x.1 y.1

goes_one : ListingsAreOne → (more : ℕ) (d : Says) (c round : ℕ) (tunnels : Tunnels)
    → ((f : Found) (a b : List ℕ) → AreRounds more d c (round + 1) (tunnels_behind d f) (Some f) a → AreRounds more d c (round + 1) (tunnels_behind d f) (Some f) b → a ≡ b)
    → (a b : List ℕ) → GoesBehind d c round tunnels (Behind more d c round) a → GoesBehind d c round tunnels (Behind more d c round) b → a ≡ b
goes_one one more d c round tunnels later a b x y =
    let found : x.found ≡ y.found = found_one one d c x.found y.found (x.under ∙ sym y.under) x.is_found y.is_found in
    let rest : x.rest ≡ y.rest =
    behind_one more d c round x.found (later x.found) x.rest y.rest x.behind (subst (λ (f : Found). Behind more d c round f y.rest) (sym found) y.behind) in
    let both : round_line round x.found.total ++ x.rest ≡ round_line round y.found.total ++ y.rest = λ i. round_line round (found i).total ++ rest i in
    x.is ∙ (both ∙ sym y.is)

rounds_one : ListingsAreOne → (n : ℕ) (d : Says) (c round : ℕ) (tunnels : Tunnels) (last : Option Found) (a b : List ℕ) → AreRounds n d c round tunnels last a → AreRounds n d c round tunnels last b → a ≡ b
rounds_one one zero d c round tunnels last a b x y = x ∙ sym y
rounds_one one (suc more) d c round tunnels last a b (inl x) (inl y) = over_one one d c tunnels last a b x y
rounds_one one (suc more) d c round tunnels last a b (inl x) (inr (inl y)) = absurd (over_in_apart one d c tunnels x.refusal x.over y.barred.within)
rounds_one one (suc more) d c round tunnels last a b (inl x) (inr (inr y)) = absurd (found_not_over one d c y.found tunnels x.refusal y.under y.is_found x.over)
rounds_one one (suc more) d c round tunnels last a b (inr (inl x)) (inl y) = absurd (over_in_apart one d c tunnels y.refusal y.over x.barred.within)
rounds_one one (suc more) d c round tunnels last a b (inr (inl x)) (inr (inl y)) = barred_one one d c tunnels last a b x y
rounds_one one (suc more) d c round tunnels last a b (inr (inl x)) (inr (inr y)) = absurd (found_not_barred one d c y.found tunnels x.year y.under y.is_found x.barred)
rounds_one one (suc more) d c round tunnels last a b (inr (inr x)) (inl y) = absurd (found_not_over one d c x.found tunnels y.refusal x.under x.is_found y.over)
rounds_one one (suc more) d c round tunnels last a b (inr (inr x)) (inr (inl y)) = absurd (found_not_barred one d c x.found tunnels y.year x.under x.is_found y.barred)
rounds_one one (suc more) d c round tunnels last a b (inr (inr x)) (inr (inr y)) =
    goes_one one more d c round tunnels (λ f p q. rounds_one one more d c (round + 1) (tunnels_behind d f) (Some f) p q) a b x y

-- ---- cases and decks

case_one : ListingsAreOne → (d : Says) (c : ℕ) (a b : Told) → IsCaseSearched d c a → IsCaseSearched d c b → a ≡ b
case_one one d c a b x y =
    let rounds : x.rounds ≡ y.rounds = rounds_one one 20 d c 1 (deck_tunnels d c) None x.rounds y.rounds x.are_rounds y.are_rounds in
    x.is ∙ (ap (λ (r : List ℕ). plain (case_line c ++ r)) rounds ∙ sym y.is)

cases_one : ListingsAreOne → (d : Says) (c : ℕ) (a b : Told) → AreCasesSearched d c a → AreCasesSearched d c b → a ≡ b
cases_one one d zero a b x y = both_are nothing a b x y
cases_one one d (suc c) a b x y = joined_one (AreCasesSearched d c) (IsCaseSearched d (suc c)) a b (cases_one one d c) (case_one one d (suc c)) x y

fault_one : (d : Says) (a b : Told) → IsFaultTold d a → IsFaultTold d b → a ≡ b
fault_one d a b x y =
    x.is ∙ (ap (λ (f : DeckFault). plain (refusal_line (Deck f))) (single d x.fault y.fault x.is_of y.is_of) ∙ sym y.is)

deck_one : ListingsAreOne → (d : Says) (a b : Told) → IsDeckSearched d a → IsDeckSearched d b → a ≡ b
deck_one one d a b (inl x) (inl y) = fault_one d a b x y
deck_one one d a b (inl x) (inr y) = absurd (met d x.fault x.is_of y.0)
deck_one one d a b (inr x) (inl y) = absurd (met d y.fault y.is_of x.0)
deck_one one d a b (inr x) (inr y) = cases_one one d (cases d) a b x.1 y.1

pub search_one : ListingsAreOne → (n : ℕ) (d : Says) (a b : Told) → IsSearchTold n d a → IsSearchTold n d b → a ≡ b
search_one one n d a b x y =
    joined_one (λ head. head ≡ plain (search_heading n)) (IsDeckSearched d) a b (both_are (plain (search_heading n))) (deck_one one d) x y
