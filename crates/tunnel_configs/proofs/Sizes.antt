-- The number of configurations of a tunnel within that of its system.
use Rattle.std.proofs.Common.{◌≡◌, ℕ, zero, suc, ◌+◌, ◌-◌, ◌*◌, ◌<◌, ◌≤◌, List, [], ◌∷◌, length, get_or, drop, map, arith, ap, sym, ◌∙◌, ⊎_elim}
use Rattle.std.proofs.Math.ListN.{get_or-append}
use Rattle.std.proofs.lemmas.Bool.{cases_lt}
use Rattle.std.proofs.lemmas.List.{get_or-append-add, get_or-map, length-append, length-map}
use Rattle.std.proofs.Math.Nat.{mul-le-mul, mul-le-mul_right}
use Rattle.plant_data.specs.declared.row.Tunnel.{Tunnel}
use Rattle.plant_data.proofs.UnitLists.{no_plant}
use Rattle.plant_data.specs.declared.plant.Plant.{Plant}
use Rattle.plant_data.specs.declared.water.Group.{Group}
use Rattle.plant_data.specs.Tunnels.{IsTunnelOf}
use Rattle.tunnel_configs.specs.Listed.{IsInTunnel}
use Rattle.year_system.specs.Capacity.{no_group}
use Rattle.year_system.specs.System.{Fits, IsSystem, System, greatest, size}
use Rattle.year_system.proofs.Radix.{size_drop}

pub size_most : (ws gs : List ℕ) → length ws ≡ length gs → ((k : ℕ) → k < length gs → get_or ws k 0 ≤ get_or gs k 0) → size ws ≤ size gs
size_most [] [] e h = omega arith
size_most [] (g ∷ gs) e h = absurd (omega (arith, e))
size_most (w ∷ ws) [] e h = absurd (omega (arith, e))
size_most (w ∷ ws) (g ∷ gs) e h =
    let first : w ≤ g = h 0 (omega arith) in
    let rest : size ws ≤ size gs = size_most ws gs (omega (arith, e)) (λ k b. h (suc k) (omega (arith, b))) in
    mul-le-mul (omega (arith, first)) rest

pub size_drop_most : (gs : List ℕ) (k : ℕ) → size (drop k gs) ≤ size gs
size_drop_most gs zero = omega arith
size_drop_most [] (suc k) = omega arith
size_drop_most (g ∷ gs) (suc k) = omega (arith, size_drop_most gs k, mul-le-mul_right {m = 1} {n = g + 1} (size gs) (omega arith))

pub tunnel_most : (s : System) (t : Tunnel) → IsTunnelOf (greatest s) t → size t.width ≤ size (greatest s)
tunnel_most s t h = size_most t.width (greatest s) h.width (λ k b. omega (arith, h.most k))

-- one more width, from the last on
pub one_more : (ws : List ℕ) (n k w size' : ℕ) → n ≡ length ws → k < n → w ≡ get_or ws (n - 1 - k) 0 → size' ≡ size (drop (n - k) ws) → size' * (w + 1) ≡ size (drop (n - (k + 1)) ws)
one_more ws n k w size' e h v s =
    let at = size_drop ws (n - 1 - k) (omega (arith, e, h)) in
    let place : n - (k + 1) ≡ n - 1 - k = omega arith in
    let next : n - 1 - k + 1 ≡ n - k = omega (arith, h) in
    let rest : size (drop (n - 1 - k + 1) ws) ≡ size' = ap (λ i. size (drop i ws)) next ∙ sym s in
    let whole : size (drop (n - (k + 1)) ws) ≡ (w + 1) * size' = ap (λ i. size (drop i ws)) place ∙ (at ∙ (ap (λ z. (get_or ws (n - 1 - k) 0 + 1) * z) rest ∙ ap (λ z. (z + 1) * size') (sym v))) in
    omega (arith, whole)

-- and it fits
pub more_fits : (s : System) (t : Tunnel) (k size' : ℕ) → IsTunnelOf (greatest s) t → size' ≡ size (drop k t.width) → size' ≤ size (greatest s)
more_fits s t k size' h e = omega (arith, e, size_drop_most t.width k, tunnel_most s t h)

-- no greatest count is above 128
pub greatest_small : (s : System) (k : ℕ) → IsSystem s → k < length (greatest s) → get_or (greatest s) k 0 ≤ 128
greatest_small s k v h =
    let thermal : length (map (λ (p : Plant). p.units) s.thermal) ≡ length s.thermal = length-map s.thermal (λ (p : Plant). p.units) in
    let groups : length (map (λ (g : Group). g.greatest) s.groups) ≡ length s.groups = length-map s.groups (λ (g : Group). g.greatest) in
    ⊎_elim
    (λ front.
    let at : get_or (greatest s) k 0 ≡ (get_or s.thermal k no_plant).units =
    get_or-append (map (λ (p : Plant). p.units) s.thermal) (map (λ (g : Group). g.greatest) s.groups) 0 k (omega (arith, front, thermal)) ∙ get_or-map (λ (p : Plant). p.units) s.thermal k no_plant 0 front in
    omega (arith, at, (v.thermal.1 k no_plant front).2.units))
    (λ back.
    let place : k ≡ length (map (λ (p : Plant). p.units) s.thermal) + (k - length s.thermal) = omega (arith, thermal, back) in
    let within : k - length s.thermal < length s.groups = omega (arith, h, back, thermal, groups, length-append (map (λ (p : Plant). p.units) s.thermal) (map (λ (g : Group). g.greatest) s.groups)) in
    let at : get_or (greatest s) k 0 ≡ (get_or s.groups (k - length s.thermal) no_group).greatest =
    ap (λ i. get_or (greatest s) i 0) place
    ∙ (get_or-append-add (map (λ (p : Plant). p.units) s.thermal) (map (λ (g : Group). g.greatest) s.groups) (k - length s.thermal) 0
    ∙ get_or-map (λ (g : Group). g.greatest) s.groups (k - length s.thermal) no_group 0 within) in
    omega (arith, at, (v.groups.1 (k - length s.thermal) no_group within).greatest))
    (cases_lt k (length s.thermal))

pub tunnel_small : (s : System) (t : Tunnel) → IsSystem s → IsTunnelOf (greatest s) t → (k : ℕ) → k < length t.least → get_or t.least k 0 + get_or t.width k 0 ≤ 128
tunnel_small s t v h k b =
    let l : k < length (greatest s) = omega (arith, b, h.least) in
    omega (arith, h.most k, greatest_small s k v l)

pub in_tunnel_fits : (s : System) (t : Tunnel) (counts : List ℕ) → IsTunnelOf (greatest s) t → IsInTunnel t counts → Fits s counts
in_tunnel_fits s t counts h b = record {
  width = b.width ∙ h.least;
  most = λ k l. omega (arith, (b.each k l).1, h.most k);
}
