-- The tunnels of the years, one year after the other.
use Rattle.std.proofs.Common.{◌≡◌, ◌∙◌, ap, sym, subst, ℕ, ◌+◌, ◌<◌, All, List, [], ◌∷◌, ◌++◌, length, map, get_or, arith}
use Rattle.std.specs.List.{range_with_len}
use Rattle.std.proofs.lemmas.List.{get_or_default}
use Rattle.std.proofs.lemmas.List.Elements.{All-push}
use Rattle.std.proofs.lemmas.List.FromFn.{map-range_with_len_more}
use Rattle.plant_data.specs.Tunnels.{IsTunnelOf}
use Rattle.plant_data.specs.declared.row.Tunnel.{Tunnel}
use Rattle.tunnel_search.specs.Search.{AreInside, ArePlaced, IsInside, config_of, moved_tunnel, tunnel_of}

-- what is read at a place
pub read_tunnel : (tunnels : List Tunnel) (k : ℕ) (t : Tunnel) → k < length tunnels → t ≡ get_or tunnels k t → t ≡ tunnel_of tunnels k
read_tunnel tunnels k t within at = at ∙ get_or_default tunnels k t (record { least = []; width = [] }) within

pub read_config : (configs : List (List ℕ)) (k : ℕ) (x : List ℕ) → k < length configs → x ≡ get_or configs k x → x ≡ config_of configs k
read_config configs k x within at = at ∙ get_or_default configs k x [] within

pub inside_at : (most : List ℕ) (tunnels : List Tunnel) (configs : List (List ℕ)) (k : ℕ) (t : Tunnel) (x : List ℕ) → ArePlaced most tunnels configs → k < length tunnels
    → t ≡ get_or tunnels k t → x ≡ get_or configs k x → AreInside most tunnels configs → IsInside most t x
inside_at most tunnels configs k t x placed within at there inside =
    subst (λ (z : Tunnel). IsInside most z x) (sym (read_tunnel tunnels k t within at))
    (subst (λ (z : List ℕ). IsInside most (tunnel_of tunnels k) z) (sym (read_config configs k x (omega (arith, within, placed.many)) there)) (inside k within))

pub moved_more : (most : List ℕ) (tunnels : List Tunnel) (configs : List (List ℕ)) (k : ℕ) (t : Tunnel) (x : List ℕ) (old new : List Tunnel) (m : Tunnel) → ArePlaced most tunnels configs → k < length tunnels
    → t ≡ get_or tunnels k t → x ≡ get_or configs k x → m ≡ moved_tunnel most t x → new ≡ old ++ m ∷ []
    → old ≡ map (λ k. moved_tunnel most (tunnel_of tunnels k) (config_of configs k)) (range_with_len 0 k)
    → new ≡ map (λ k. moved_tunnel most (tunnel_of tunnels k) (config_of configs k)) (range_with_len 0 (k + 1))
moved_more most tunnels configs k t x old new m placed within at there is more so_far =
    let f : ℕ → Tunnel = λ k. moved_tunnel most (tunnel_of tunnels k) (config_of configs k) in
    let here = read_tunnel tunnels k t within at in
    let its = read_config configs k x (omega (arith, within, placed.many)) there in
    let same : m ≡ f k = is ∙ (ap (λ (z : Tunnel). moved_tunnel most z x) here ∙ ap (λ (z : List ℕ). moved_tunnel most (tunnel_of tunnels k) z) its) in
    more ∙ (ap (λ (ts : List Tunnel). ts ++ m ∷ []) so_far ∙ (ap (λ (z : Tunnel). map f (range_with_len 0 k) ++ z ∷ []) same ∙ sym (map-range_with_len_more f 0 k k (omega arith))))

pub fit_more : (most : List ℕ) (old new : List Tunnel) (m : Tunnel) → new ≡ old ++ m ∷ [] → IsTunnelOf most m → All (IsTunnelOf most) old → All (IsTunnelOf most) new
fit_more most old new m more is so_far = subst (λ (ts : List Tunnel). All (IsTunnelOf most) ts) (sym more) (All-push (IsTunnelOf most) old m so_far is)
