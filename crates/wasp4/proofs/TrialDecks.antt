-- The one case of a trial deck: no year of it is over a limit.
use Rattle.std.proofs.Common.{◌≡◌, ◌∙◌, refl, sym, ap, subst, ℕ, zero, suc, ◌+◌, ◌-◌, ◌*◌, ◌≤◌, [], length, arith}
use Rattle.std.specs.List.{range_with_len}
use Rattle.std.proofs.lemmas.List.{get_or-map, length-map}
use Rattle.std.proofs.lemmas.List.FromFn.{get_or-range_with_len, length-range_with_len}
use Rattle.checked_deck.specs.TypedDeck.{counts_in, tunnel, year_of}
use Rattle.deck_check.specs.Readings.{Says, number, width, years}
use Rattle.deck_lines.specs.declared.head.Head.TheVariants as heads
use Rattle.deck_maker.specs.Laws.{IsOneCase, TrialsHaveNoFault, TrialsHaveOneCase}
use Rattle.plant_data.specs.declared.row.Tunnel.{Tunnel}
use Rattle.report_text.specs.declared.refusals.Refusal.{Refusal}
use Rattle.report_text.specs.declared.refusals.Refusal.TheVariants.{Deck, Wide, Many}
use Rattle.tunnel_configs.specs.Listed.{ListingsFit, box_size}
use Rattle.checked_deck.specs.Systems.{system}
use Rattle.checked_deck.specs.TypedDeck.{margin}
use Rattle.case_study.specs.Listings.{IsOver, IsOverIn, deck_tunnels, tunnel_at}
use Rattle.deck_lines.specs.Deck.{body_of}
use Rattle.deck_maker.specs.TrialDeck.{trial}
use Rattle.deck_tellings.specs.Solving.{IsSolvable}
use Rattle.wasp_session.specs.State.{State, begun}
use Rattle.deck_tellings.specs.Learning.{HasPlaceFor}
use Rattle.wasp_session.specs.declared.command.Command.TheVariants as commands
use Rattle.year_system.specs.System.{size}
use Rattle.wasp4.specs.Trial.{IsTrial, trial_says}
use Rattle.wasp4.specs.declared.trial.TrialNumbers.{TrialNumbers}

-- the tunnel of a year
tunnel_is : (d : Says) (c t : ℕ) → 1 ≤ t → t ≤ years d → tunnel_at (deck_tunnels d c) t ≡ tunnel d c t
tunnel_is d c t low high =
    let inside : t - 1 + 1 ≤ years d = omega (arith, low, high) in
    let long : length (range_with_len 1 (years d)) ≡ years d = length-range_with_len 1 (years d) in
    let place : 1 + (t - 1) ≡ t = omega (arith, low) in
    get_or-map (λ y. tunnel d c y) (range_with_len 1 (years d)) (t - 1) 0 (record { least = []; width = [] }) (omega (arith, inside, long))
    ∙ ap (λ y. tunnel d c y) (get_or-range_with_len 1 (years d) (t - 1) 0 (omega (arith, inside)) ∙ place)

-- each year has its own, which is narrow
own_year : (d : Says) (many t : ℕ) → IsOneCase d many → 1 ≤ t → t ≤ many → year_of d (heads.Tunnel 1) t ≡ t
own_year d many zero one low high = absurd (omega (arith, low))
own_year d many (suc t) one low high = rw (one.there (suc t) low high) refl

narrow_box : (d : Says) (many t : ℕ) → IsOneCase d many → 1 ≤ t → t ≤ many → box_size (tunnel d 1 t) ≤ 64
narrow_box d many t one low high =
    subst (λ (y : ℕ). size (counts_in d (heads.Tunnel 1 y) 1) ≤ 64) (sym (own_year d many t one low high)) (one.narrow t low high)

narrow_at : (d : Says) (many t : ℕ) → IsOneCase d many → 1 ≤ t → t ≤ years d → box_size (tunnel_at (deck_tunnels d 1) t) ≤ 64
narrow_at d many t one low high =
    subst (λ (u : Tunnel). box_size u ≤ 64) (sym (tunnel_is d 1 t low high)) (narrow_box d many t one low (omega (arith, high, one.years)))

even : (d : Says) (c t : ℕ) → length (tunnel d c t).width ≡ length (tunnel d c t).least
even d c t =
    let h = heads.Tunnel c (year_of d (heads.Tunnel c) t) in
    length-map (range_with_len 0 (width d)) (λ k. number d h (2 * k + 1)) ∙ sym (length-map (range_with_len 0 (width d)) (λ k. number d h (2 * k + 0)))

even_at : (d : Says) (t : ℕ) → 1 ≤ t → t ≤ years d → length (tunnel_at (deck_tunnels d 1) t).width ≡ length (tunnel_at (deck_tunnels d 1) t).least
even_at d t low high = subst (λ (u : Tunnel). length u.width ≡ length u.least) (sym (tunnel_is d 1 t low high)) (even d 1 t)

-- so none is over a limit
not_over : ListingsFit → (d : Says) (t : ℕ) (u : Tunnel) (r : Refusal) → length u.width ≡ length u.least → box_size u ≤ 64 → IsOver d 1 t u r → ⊥
not_over fit d t u (Deck fault) even narrow over = over
not_over fit d t u (Wide case year n) even narrow over =
    let wide = over.2 in
    absurd (omega (arith, wide.box, wide.wide, narrow))
not_over fit d t u (Many case year n) even narrow over =
    let long = over.2 in
    let few = fit (system d t) u (margin d 1 t) long.listed.configs even long.listed.listing in
    absurd (omega (arith, long.listed.many, long.long, few, narrow))

none_over : ListingsFit → (d : Says) (many : ℕ) → IsOneCase d many → (r : Refusal) → IsOverIn d 1 (deck_tunnels d 1) r → ⊥
none_over fit d many one r over =
    let low = over.is_of.year.0 in
    let high = over.is_of.year.1 in
    not_over fit d over.year (tunnel_at (deck_tunnels d 1) over.year) r (even_at d over.year low high) (narrow_at d many over.year one low high) over.over

pub trial_solvable : TrialsHaveNoFault → TrialsHaveOneCase → ListingsFit → (t : TrialNumbers) → IsTrial t → IsSolvable (trial_says t) 1
trial_solvable faultless one_case fit t is =
    let one = one_case t.seed t.years t.candidates is.candidates.1 in
    record {
      faultless = faultless t.seed t.years t.candidates is.years.0 is.years.1 is.candidates.0 is.candidates.1;
      low = omega arith;
      high = omega (arith, one.cases);
      fair = none_over fit (trial_says t) t.years one;
    }

-- ---- of a session that begins with the deck

abbrev pub begins_with : TrialNumbers → State
begins_with t = begun commands.Plan (trial t.seed t.years t.candidates)

pub begun_solvable : TrialsHaveNoFault → TrialsHaveOneCase → ListingsFit → (t : TrialNumbers) (s : State) → IsTrial t → s ≡ begins_with t → IsSolvable (body_of s.deck) 1
begun_solvable faultless one_case fit t s is begins =
    subst (λ (z : State). IsSolvable (body_of z.deck) 1) (sym begins) (trial_solvable faultless one_case fit t is)

pub begun_placed : (t : TrialNumbers) (s : State) → s ≡ begins_with t → HasPlaceFor 15000 s.memory
begun_placed t s begins =
    subst (λ (z : State). HasPlaceFor 15000 z.memory) (sym begins) (record { systems = omega arith; rows = omega arith })
