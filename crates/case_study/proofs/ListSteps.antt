-- The listed configurations of a year, and the first year and the first case over a limit.
use Rattle.std.proofs.Common.{◌≡◌, ◌∙◌, ap, sym, refl, subst, ℕ, ◌+◌, ◌-◌, ◌<◌, ◌≤◌, List, [], ◌∷◌, ◌++◌, All, Contains, Some, length, map, get_or, slice_get, arith}
use Rattle.std.specs.List.{range_with_len}
use Rattle.std.proofs.lemmas.List.{get_or_default}
use Rattle.std.proofs.lemmas.List.Elements.{All-contains_itself, All-weaker}
use Rattle.std.proofs.lemmas.List.FromFn.{length-map-range_with_len, map-range_with_len_more}
use Rattle.std.proofs.lemmas.Option.{slice_get-get_or}
use Rattle.checked_deck.specs.Systems.{system}
use Rattle.checked_deck.specs.TypedDeck.{margin, tunnel}
use Rattle.deck_check.specs.Readings as says
use Rattle.deck_check.specs.Readings.{Says}
use Rattle.plant_data.specs.Tunnels.{IsTunnelOf}
use Rattle.plant_data.specs.declared.row.Margin.{Margin}
use Rattle.plant_data.specs.declared.row.Tunnel.{Tunnel}
use Rattle.report_text.specs.declared.refusals.Refusal.{Refusal}
use Rattle.row_shelf.proofs.EachSteps.{at_place}
use Rattle.row_shelf.specs.Asked.{EachAt}
use Rattle.tunnel_configs.proofs.Sizes.{in_tunnel_fits}
use Rattle.tunnel_configs.specs.Listed.{HasListing, IsListing, box_size}
use Rattle.case_study.specs.Inner.{FitYears}
use Rattle.case_study.specs.Listings.{AreTunnels, AreWithin, IsFairListing, IsFirstOver, IsOf, IsOver, IsOverIn, IsTooLong, IsWithin, Tunnels, deck_tunnels, tunnel_at}
use Rattle.case_study.specs.Studies.{AreCaseLists, AreYearLists, IsYearList, IsYearSystem}
use Rattle.year_system.specs.System.{Fits, System, greatest}

-- what a list has stands at its place
pub its_place : {X : Type 0} (xs : List X) (x : X) → (has : Contains xs x) → slice_get xs has.0 ≡ Some x
its_place xs x has = slice_get-get_or xs has.0 x has.1 ∙ ap Some has.2

-- ---- a year

pub year_list : (d : Says) (c t : ℕ) (s : System) (n : Tunnel) (m : Margin) (configs : List (List ℕ)) → IsYearSystem d t s → m ≡ margin d c t
    → IsTunnelOf (says.greatest d) n → box_size n ≤ 1000000 → IsListing s n m configs → length configs ≤ 500 → IsYearList d c t n configs
year_list d c t s n m configs year em fits narrow is few =
    let of_system : IsTunnelOf (greatest s) n = rw year.width fits in
    record {
      fair = record { narrow = narrow; listing = subst (λ z. IsListing (system d t) n z configs) em (subst (λ (z : System). IsListing z n m configs) year.is is); few = few };
      fit = subst (λ z. All (Fits z) configs) year.is (All-weaker (Contains configs) (Fits s) (λ x has. in_tunnel_fits s n x of_system ((is.each x).0 has).tunnel) configs (All-contains_itself configs));
    }

pub year_long : (d : Says) (c t : ℕ) (s : System) (n : Tunnel) (m : Margin) (count : ℕ) → IsYearSystem d t s → m ≡ margin d c t
    → box_size n ≤ 1000000 → HasListing s n m count → 500 < count → IsTooLong d c t n count
year_long d c t s n m count year em narrow has long =
    record { narrow = narrow; listed = subst (λ z. HasListing (system d t) n z count) em (subst (λ (z : System). HasListing z n m count) year.is has); long = long }

-- ---- the deck's own tunnels

pub own_more : (d : Says) (c k : ℕ) (tunnels : List Tunnel) (n : Tunnel) → tunnels ≡ map (λ t. tunnel d c t) (range_with_len 1 k) → n ≡ tunnel d c (k + 1)
    → tunnels ++ n ∷ [] ≡ map (λ t. tunnel d c t) (range_with_len 1 (k + 1))
own_more d c k tunnels n own is =
    ap (λ (ts : List Tunnel). ts ++ n ∷ []) own ∙ ap (λ (z : Tunnel). map (λ t. tunnel d c t) (range_with_len 1 k) ++ z ∷ []) is
    ∙ sym (map-range_with_len_more (λ t. tunnel d c t) 1 k (k + 1) (omega arith))

pub are_tunnels : (d : Says) (c k : ℕ) (tunnels : List Tunnel) → tunnels ≡ map (λ t. tunnel d c t) (range_with_len 1 k) → k ≡ says.years d
    → All (IsTunnelOf (says.greatest d)) tunnels → AreTunnels d tunnels
are_tunnels d c k tunnels own end fit = record { many = ap length own ∙ length-map-range_with_len (λ t. tunnel d c t) 1 k ∙ end; fit = fit }

-- ---- the years of a case

-- what is read at a place is the tunnel of its year
pub tunnel_is : (tunnels : Tunnels) (k : ℕ) (x : Tunnel) → k < length tunnels → x ≡ get_or tunnels k x → x ≡ tunnel_at tunnels (k + 1)
tunnel_is tunnels k x within at =
    let one : k + 1 - 1 ≡ k = omega arith in
    at ∙ get_or_default tunnels k x (record { least = []; width = [] }) within ∙ ap (λ i. get_or tunnels i (record { least = []; width = [] })) (sym one)

within_at : (d : Says) (c k t : ℕ) (tunnels : Tunnels) (lists : List (List (List ℕ))) → length lists ≡ k
    → EachAt (λ i configs. IsYearList d c (i + 1) (tunnel_at tunnels (i + 1)) configs) lists → 1 ≤ t → t < k + 1 → IsWithin d c t (tunnel_at tunnels t)
within_at d c k t tunnels lists many each low high =
    let at = at_place lists (t - 1) (omega (arith, many, low, high)) in
    let is : t - 1 + 1 ≡ t = omega (arith, low) in
    record { configs = at.0; fair = subst (λ n. IsFairListing d c n (tunnel_at tunnels n) at.0) is (each (t - 1) at.0 at.1).fair }

pub over_in : (d : Says) (c k : ℕ) (tunnels : Tunnels) (lists : List (List (List ℕ))) (r : Refusal) → IsOf d c (k + 1) → length lists ≡ k
    → EachAt (λ i configs. IsYearList d c (i + 1) (tunnel_at tunnels (i + 1)) configs) lists → IsOver d c (k + 1) (tunnel_at tunnels (k + 1)) r → IsOverIn d c tunnels r
over_in d c k tunnels lists r is_of many each over =
    record { year = k + 1; is_of = is_of; over = over; earlier = λ t low high. within_at d c k t tunnels lists many each low high }

pub years_within : (d : Says) (c : ℕ) (tunnels : Tunnels) (lists : List (List (List ℕ))) → AreYearLists d c tunnels lists → AreWithin d c tunnels
years_within d c tunnels lists are = λ t low high. let many = are.many in within_at d c (length lists) t tunnels lists refl are.each low (omega (arith, many, high))

-- they fit the systems of their years
pub fit_years : (d : Says) (c : ℕ) (tunnels : Tunnels) (lists : List (List (List ℕ))) → AreYearLists d c tunnels lists → FitYears d lists
fit_years d c tunnels lists are = record {
  many = are.many;
  few = All-weaker (Contains lists) (λ (configs : List (List ℕ)). length configs ≤ 500) (λ configs has. (are.each has.0 configs (its_place lists configs has)).fair.few) lists (All-contains_itself lists);
  fit = λ k configs at. (are.each k configs at).fit;
}

-- ---- the cases

cases_within : (d : Says) (k c : ℕ) (lists : List (List (List (List ℕ)))) → length lists ≡ k → EachAt (λ i years. AreYearLists d (i + 1) (deck_tunnels d (i + 1)) years) lists
    → 1 ≤ c → c < k + 1 → AreWithin d c (deck_tunnels d c)
cases_within d k c lists many each low high =
    let at = at_place lists (c - 1) (omega (arith, many, low, high)) in
    let is : c - 1 + 1 ≡ c = omega (arith, low) in
    subst (λ n. AreWithin d n (deck_tunnels d n)) is (years_within d (c - 1 + 1) (deck_tunnels d (c - 1 + 1)) at.0 (each (c - 1) at.0 at.1))

pub first_over : (d : Says) (c : ℕ) (lists : List (List (List (List ℕ)))) (r : Refusal) → length lists ≡ c → EachAt (λ i years. AreYearLists d (i + 1) (deck_tunnels d (i + 1)) years) lists
    → IsOverIn d (c + 1) (deck_tunnels d (c + 1)) r → IsFirstOver d r
first_over d c lists r many each over =
    record { case = c + 1; over = over; earlier = λ case low before. cases_within d c case lists many each low before }

-- a list that holds them all
pub all_within : (d : Says) (lists : List (List (List (List ℕ)))) → AreCaseLists d lists → (c : ℕ) → 1 ≤ c → c ≤ says.cases d → AreWithin d c (deck_tunnels d c)
all_within d lists are c low high = let many = are.many in cases_within d (length lists) c lists refl are.each low (omega (arith, many, high))
