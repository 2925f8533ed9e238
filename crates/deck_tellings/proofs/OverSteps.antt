-- A case and year over a limit, and why a deck is refused.
use Rattle.std.proofs.Common.{ap, ℕ, length, arith}
use Rattle.checked_deck.specs.Systems.{system}
use Rattle.checked_deck.specs.TypedDeck.{margin}
use Rattle.deck_check.specs.DeckFault.{FaultsAreMet, HasNoFault, IsFaultOf}
use Rattle.deck_check.specs.Readings.{Says}
use Rattle.deck_check.specs.declared.fault.DeckFault.{DeckFault}
use Rattle.plant_data.specs.declared.row.Tunnel.{Tunnel}
use Rattle.report_text.specs.declared.refusals.Refusal.{Refusal}
use Rattle.report_text.specs.declared.refusals.Refusal.TheVariants.{Deck, Wide, Many}
use Rattle.tunnel_configs.specs.Listed.{ListingsAreOne}
use Rattle.case_study.specs.Listings.{AreWithin, IsFirstOver, IsOver, IsOverIn, IsRefusalOf, IsTaken, IsWithin, Tunnels, deck_tunnels, tunnel_at}

-- a case and year over a limit are not within it
pub over_not_within : ListingsAreOne → (d : Says) (c t : ℕ) (n : Tunnel) (r : Refusal) → IsOver d c t n r → IsWithin d c t n → ⊥
over_not_within one d c t n (Deck fault) over within = over
over_not_within one d c t n (Wide case year m) over within =
    let wide = over.2 in
    absurd (omega (arith, wide.box, wide.wide, within.fair.narrow))
over_not_within one d c t n (Many case year m) over within =
    let long = over.2 in
    let same = one (system d t) n (margin d c t) long.listed.configs within.configs long.listed.listing within.fair.listing in
    absurd (omega (arith, ap length same, long.listed.many, long.long, within.fair.few))

pub over_not_case : ListingsAreOne → (d : Says) (c : ℕ) (tunnels : Tunnels) (r : Refusal) → IsOverIn d c tunnels r → AreWithin d c tunnels → ⊥
over_not_case one d c tunnels r over within =
    over_not_within one d c over.year (tunnel_at tunnels over.year) r over.over (within over.year over.is_of.year.0 over.is_of.year.1)

-- so a deck with one is not taken
pub over_not_taken : ListingsAreOne → (d : Says) (r : Refusal) → IsFirstOver d r → IsTaken d → ⊥
over_not_taken one d r first taken =
    over_not_case one d first.case (deck_tunnels d first.case) r first.over (taken.within first.case first.over.is_of.case.0 first.over.is_of.case.1)

-- nor is one with a fault
pub fault_not_taken : FaultsAreMet → (d : Says) (fault : DeckFault) → IsFaultOf d fault → IsTaken d → ⊥
fault_not_taken met d fault is taken = met d fault is taken.faultless

-- why it is refused else
pub over_refusal : (d : Says) (r : Refusal) → HasNoFault d → IsFirstOver d r → IsRefusalOf d r
over_refusal d (Deck fault) faultless first = absurd first.over.over
over_refusal d (Wide c t n) faultless first = (faultless, first)
over_refusal d (Many c t n) faultless first = (faultless, first)
