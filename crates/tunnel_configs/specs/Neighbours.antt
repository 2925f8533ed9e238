-- The configurations of a tunnel as a walk goes through them: which comes next, which is the last, and how
-- many there are from one on. This program's own.
use Rattle.std.specs.Prelude.{◌≡◌, ℕ, ◌+◌, ◌-◌, ◌*◌, List, [], ◌∷◌, ◌++◌, ◌⊎◌, length, take}
use Rattle.std.specs.Cmp.Lexicographic.{slice_cmp}
use Rattle.std.specs.Ordering.{nat_cmp}
use Rattle.std.specs.declared.cmp.Ordering.TheVariants.{Less}
use Rattle.plant_data.specs.declared.row.Margin.{Margin}
use Rattle.plant_data.specs.declared.row.Tunnel.{Tunnel}
use Rattle.tunnel_configs.specs.Listed.{IsInTunnel, IsListing, MeetsMargin}
use Rattle.year_system.specs.System.{System, size}

-- one configuration is the other or comes before it
abbrev pub IsNotAfter : List ℕ → List ℕ → Type 0
IsNotAfter counts other = (counts ≡ other) ⊎ (slice_cmp nat_cmp counts other ≡ Less)

-- no configuration of the tunnel lies between the two
pub record IsNext (t : Tunnel) (counts next : List ℕ) : Type 0 where
  pub tunnel : IsInTunnel t next
  pub after : slice_cmp nat_cmp counts next ≡ Less
  pub none_between : (c : List ℕ) → IsInTunnel t c → slice_cmp nat_cmp c next ≡ Less → IsNotAfter c counts

-- none comes after it
abbrev pub IsLast : Tunnel → List ℕ → Type 0
IsLast t counts = (c : List ℕ) → IsInTunnel t c → IsNotAfter c counts

-- by the counts, the first of them first: those with a greater first count, and those with this one
abbrev pub left_in : List ℕ → List ℕ → List ℕ → ℕ
left_in [] ws xs = 1
left_in (l ∷ ls) [] xs = 1
left_in (l ∷ ls) (w ∷ ws) [] = 1
left_in (l ∷ ls) (w ∷ ws) (x ∷ xs) = (l + w - x) * size ws + left_in ls ws xs

-- how many configurations of the tunnel there are from one on, itself counted
abbrev pub left : Tunnel → List ℕ → ℕ
left t counts = left_in t.least t.width counts

-- the number of the listed configurations, and the first 500 of them
pub record IsGathered (s : System) (t : Tunnel) (m : Margin) (count : ℕ) (configs : List (List ℕ)) : Type 0 where
  pub all : List (List ℕ)
  pub listing : IsListing s t m all
  pub many : length all ≡ count
  pub first : configs ≡ take 500 all

-- one more configuration: it meets the margins and counts, or it does not and nothing changes
abbrev pub Considered : System → Margin → List ℕ → ℕ → List (List ℕ) → ℕ → List (List ℕ) → Type 0
Considered s m x count configs count' configs' =
    (MeetsMargin s m x × (count' ≡ count + 1) × (configs' ≡ take 500 (configs ++ x ∷ [])))
    ⊎ ((MeetsMargin s m x → ⊥) × (count' ≡ count) × (configs' ≡ configs))
