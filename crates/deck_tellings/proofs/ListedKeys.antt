-- The keys of listed cases are those that the cases demand, and each year of a listed case is within the limits.
use Rattle.std.proofs.Common.{◌≡◌, ◌∙◌, ap, sym, refl, subst, ℕ, zero, suc, ◌+◌, ◌-◌, ◌≤◌, List, [], ◌∷◌, Contains, Some, slice_get, true≢false, is_some, arith}
use Rattle.std.proofs.lemmas.Option.{same_Some, slice_get_within}
use Rattle.checked_deck.specs.Systems.{system}
use Rattle.deck_check.specs.DeckFault.{HasNoFault}
use Rattle.deck_check.specs.Readings.{Says, cases}
use Rattle.row_shelf.proofs.EachSteps.{at_place}
use Rattle.sim_engine.specs.Engine.{Run}
use Rattle.case_study.specs.Inner.{IsOfLists}
use Rattle.case_study.specs.Keys.{Demands, DemandsUnder, IsCaseKey}
use Rattle.case_study.specs.Listings.{AreWithin, IsTaken, IsWithin, Tunnels, deck_tunnels, tunnel_at}
use Rattle.case_study.specs.Studies.{AreCaseLists, AreYearLists, IsYearList}

-- ---- one case

-- a configuration of a year's list makes a key
listed_key : (d : Says) (c : ℕ) (tunnels : Tunnels) (lists : List (List (List ℕ))) (k : ℕ) (configs : List (List ℕ)) (key : Run) → 1 ≤ c → c ≤ cases d → AreYearLists d c tunnels lists
    → slice_get lists k ≡ Some configs → key.0 ≡ system d (k + 1) → Contains configs key.1 → IsCaseKey d c tunnels key
listed_key d c tunnels lists k configs key low high are at of_year has =
    let within = slice_get_within lists k configs at in
    record {
      year = k + 1;
      is_of = record { case = (low, high); year = (omega arith, omega (arith, within, are.many)) };
      of_year = of_year;
      listed = ((are.each k configs at).fair.listing.each key.1).0 has;
    }

-- and each key is of one
key_listed : (d : Says) (c : ℕ) (tunnels : Tunnels) (all : List (List (List (List ℕ)))) (i : ℕ) (lists : List (List (List ℕ))) (key : Run) → slice_get all i ≡ Some lists
    → AreYearLists d c tunnels lists → IsCaseKey d c tunnels key → IsOfLists d all key
key_listed d c tunnels all i lists key here are is =
    let at = at_place lists (is.year - 1) (omega (arith, are.many, is.is_of.year.0, is.is_of.year.1)) in
    let same : is.year - 1 + 1 ≡ is.year = omega (arith, is.is_of.year.0) in
    let list : IsYearList d c is.year (tunnel_at tunnels is.year) at.0 = subst (λ (t : ℕ). IsYearList d c t (tunnel_at tunnels t) at.0) same (are.each (is.year - 1) at.0 at.1) in
    record {
      case = i;
      year = is.year - 1;
      lists = lists;
      configs = at.0;
      at = here;
      list = at.1;
      of_year = is.of_year ∙ ap (system d) (sym same);
      listed = (list.fair.listing.each key.1).1 is.listed;
    }

pub case_within : (d : Says) (c : ℕ) (tunnels : Tunnels) (lists : List (List (List ℕ))) → AreYearLists d c tunnels lists → AreWithin d c tunnels
case_within d c tunnels lists are = λ t low high.
    let at = at_place lists (t - 1) (omega (arith, are.many, low, high)) in
    let same : t - 1 + 1 ≡ t = omega (arith, low) in
    subst (λ (n : ℕ). IsWithin d c n (tunnel_at tunnels n)) same (record { configs = at.0; fair = (are.each (t - 1) at.0 at.1).fair })

only_case : {X : Type 0} (x y : X) (k : ℕ) → slice_get (x ∷ []) k ≡ Some y → x ≡ y
only_case x y zero at = same_Some x y at
only_case x y (suc k) at = absurd (true≢false (sym (ap is_some at)))

pub case_asks : (d : Says) (c : ℕ) (tunnels : Tunnels) (lists : List (List (List ℕ))) (key : Run) → 1 ≤ c → c ≤ cases d → AreYearLists d c tunnels lists → IsOfLists d (lists ∷ []) key → DemandsUnder d c tunnels key
case_asks d c tunnels lists key low high are is =
    let same = only_case lists is.lists is.case is.at in
    let mine : slice_get lists is.year ≡ Some is.configs = ap (λ (z : List (List (List ℕ))). slice_get z is.year) same ∙ is.list in
    (case_within d c tunnels lists are, listed_key d c tunnels lists is.year is.configs key low high are mine is.of_year is.listed)

pub asks_case : (d : Says) (c : ℕ) (tunnels : Tunnels) (lists : List (List (List ℕ))) (key : Run) → AreYearLists d c tunnels lists → DemandsUnder d c tunnels key → IsOfLists d (lists ∷ []) key
asks_case d c tunnels lists key are is = key_listed d c tunnels (lists ∷ []) 0 lists key refl are is.1

-- ---- all cases of a deck

-- a deck whose configurations are all listed is taken
pub is_taken : (d : Says) (all : List (List (List (List ℕ)))) → HasNoFault d → AreCaseLists d all → IsTaken d
is_taken d all faultless are = record {
  faultless = faultless;
  within = λ c low high.
      let at = at_place all (c - 1) (omega (arith, are.many, low, high)) in
      let same : c - 1 + 1 ≡ c = omega (arith, low) in
      case_within d c (deck_tunnels d c) at.0 (subst (λ (n : ℕ). AreYearLists d n (deck_tunnels d n) at.0) same (are.each (c - 1) at.0 at.1));
}

pub deck_asks : (d : Says) (all : List (List (List (List ℕ)))) (key : Run) → HasNoFault d → AreCaseLists d all → IsOfLists d all key → Demands d key
deck_asks d all key faultless are is =
    let within = slice_get_within all is.case is.lists is.at in (
      is_taken d all faultless are,
      record {
        case = is.case + 1;
        is_key = listed_key d (is.case + 1) (deck_tunnels d (is.case + 1)) is.lists is.year is.configs key (omega arith) (omega (arith, within, are.many)) (are.each is.case is.lists is.at) is.list is.of_year is.listed;
      },
    )

pub asks_deck : (d : Says) (all : List (List (List (List ℕ)))) (key : Run) → AreCaseLists d all → Demands d key → IsOfLists d all key
asks_deck d all key are is =
    let c = is.1.case in
    let low : 1 ≤ c = is.1.is_key.is_of.case.0 in
    let at = at_place all (c - 1) (omega (arith, are.many, low, is.1.is_key.is_of.case.1)) in
    let same : c - 1 + 1 ≡ c = omega (arith, low) in
    key_listed d c (deck_tunnels d c) all (c - 1) at.0 key at.1 (subst (λ (n : ℕ). AreYearLists d n (deck_tunnels d n) at.0) same (are.each (c - 1) at.0 at.1)) is.1.is_key
