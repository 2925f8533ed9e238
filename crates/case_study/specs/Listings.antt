-- The configurations that are listed for a case and year under a tunnel, the limits on their number, and why a PLAN on
-- a deck is refused: the deck's fault, or the first case and year over a limit. After the module CONGEN of the IAEA's
-- Computer Manual Series No. 16; the limits and their order are this program's own.
use Rattle.std.specs.Prelude.{◌≡◌, ℕ, ◌-◌, ◌<◌, ◌≤◌, All, List, [], length, map, slice_index_or}
use Rattle.std.specs.List.{range_with_len}
use Rattle.checked_deck.specs.Systems.{system}
use Rattle.checked_deck.specs.TypedDeck.{margin, tunnel}
use Rattle.deck_check.specs.DeckFault.{HasNoFault, IsFaultOf}
use Rattle.deck_check.specs.Readings.{Says, cases, greatest, years}
use Rattle.plant_data.specs.Tunnels.{IsTunnelOf}
use Rattle.plant_data.specs.declared.row.Tunnel.{Tunnel}
use Rattle.report_text.specs.declared.refusals.Refusal.{Refusal}
use Rattle.report_text.specs.declared.refusals.Refusal.TheVariants.{Deck, Wide, Many}
use Rattle.tunnel_configs.specs.Listed.{HasListing, IsListed, IsListing, box_size}

-- ---- the tunnels of a case: a list, one a year

abbrev pub Tunnels : Type 0
Tunnels = List Tunnel

-- that of a year
abbrev pub tunnel_at : Tunnels → ℕ → Tunnel
tunnel_at tunnels t = slice_index_or tunnels (t - 1) (record { least = []; width = [] })

-- the deck's own
abbrev pub deck_tunnels : Says → ℕ → Tunnels
deck_tunnels d c = map (λ t. tunnel d c t) (range_with_len 1 (years d))

-- as many as years, each within the greatest counts of the candidates
pub record AreTunnels (d : Says) (tunnels : Tunnels) : Type 0 where
  pub many : length tunnels ≡ years d
  pub fit : All (IsTunnelOf (greatest d)) tunnels

-- ---- a case and year under a tunnel

-- the deck has this case and this year
pub record IsOf (d : Says) (c t : ℕ) : Type 0 where
  pub case : (1 ≤ c) × (c ≤ cases d)
  pub year : (1 ≤ t) × (t ≤ years d)

-- the configurations that are listed, in rising order
abbrev pub IsListingOf : Says → ℕ → ℕ → Tunnel → List (List ℕ) → Type 0
IsListingOf d c t in_tunnel configs = IsListing (system d t) in_tunnel (margin d c t) configs

-- one of them
abbrev pub IsListedOf : Says → ℕ → ℕ → Tunnel → List ℕ → Type 0
IsListedOf d c t in_tunnel counts = IsListed (system d t) in_tunnel (margin d c t) counts

-- the same where the tunnel has at most 1,000,000 configurations, and at most 500 of them keep the margins
pub record IsFairListing (d : Says) (c t : ℕ) (in_tunnel : Tunnel) (configs : List (List ℕ)) : Type 0 where
  pub narrow : box_size in_tunnel ≤ 1000000
  pub listing : IsListingOf d c t in_tunnel configs
  pub few : length configs ≤ 500

-- it is within both limits
pub record IsWithin (d : Says) (c t : ℕ) (in_tunnel : Tunnel) : Type 0 where
  pub configs : List (List ℕ)
  pub fair : IsFairListing d c t in_tunnel configs

-- it has n configurations, which are too many
pub record IsTooWide (in_tunnel : Tunnel) (n : ℕ) : Type 0 where
  pub box : box_size in_tunnel ≡ n
  pub wide : 1000000 < n

-- it is within its limit, and n of its configurations, which are too many, keep the margins
pub record IsTooLong (d : Says) (c t : ℕ) (in_tunnel : Tunnel) (n : ℕ) : Type 0 where
  pub narrow : box_size in_tunnel ≤ 1000000
  pub listed : HasListing (system d t) in_tunnel (margin d c t) n
  pub long : 500 < n

-- the refusal names this case and year, and they exceed its limit
abbrev pub IsOver : Says → ℕ → ℕ → Tunnel → Refusal → Type 0
IsOver d c t in_tunnel (Deck fault) = ⊥
IsOver d c t in_tunnel (Wide case year n) = (case ≡ c) × (year ≡ t) × IsTooWide in_tunnel n
IsOver d c t in_tunnel (Many case year n) = (case ≡ c) × (year ≡ t) × IsTooLong d c t in_tunnel n

-- ---- a case under tunnels

-- the refusal is of the first year over a limit
pub record IsOverIn (d : Says) (c : ℕ) (tunnels : Tunnels) (r : Refusal) : Type 0 where
  pub year : ℕ
  pub is_of : IsOf d c year
  pub over : IsOver d c year (tunnel_at tunnels year) r
  pub earlier : (t : ℕ) → 1 ≤ t → t < year → IsWithin d c t (tunnel_at tunnels t)

-- each year is within the limits
abbrev pub AreWithin : Says → ℕ → Tunnels → Type 0
AreWithin d c tunnels = (t : ℕ) → 1 ≤ t → t ≤ years d → IsWithin d c t (tunnel_at tunnels t)

-- ---- all cases of a deck under its own tunnels

-- the refusal is of the first case over a limit: each case before it is within
pub record IsFirstOver (d : Says) (r : Refusal) : Type 0 where
  pub case : ℕ
  pub over : IsOverIn d case (deck_tunnels d case) r
  pub earlier : (c : ℕ) → 1 ≤ c → c < case → AreWithin d c (deck_tunnels d c)

-- why a PLAN on a deck is refused: the fault table comes first
abbrev pub IsRefusalOf : Says → Refusal → Type 0
IsRefusalOf d (Deck fault) = IsFaultOf d fault
IsRefusalOf d (Wide c t n) = HasNoFault d × IsFirstOver d (Wide c t n)
IsRefusalOf d (Many c t n) = HasNoFault d × IsFirstOver d (Many c t n)

-- a PLAN on the deck is not refused
pub record IsTaken (d : Says) : Type 0 where
  pub faultless : HasNoFault d
  pub within : (c : ℕ) → 1 ≤ c → c ≤ cases d → AreWithin d c (deck_tunnels d c)
