-- Steps of the loop that places the maintenance of a unit.
use Rattle.std.proofs.Common.{◌≡◌, ℕ, zero, suc, ◌+◌, ◌-◌, ◌*◌, ◌<◌, List, length, min, ap, refl, arith, false, ◌==◌, add-one, ◌≤◌, ◌^◌, get_or, All, ⊎_elim}
use Rattle.std.proofs.lemmas.List.Elements.{All-set}
use Rattle.std.proofs.lemmas.Bool.Decides.{eqb_tells}
use Rattle.loading_order.specs.declared.periods.Period.{Period}
use Rattle.loading_order.specs.Maintenance.{place_hours, with_hours, most_free, no_period}

pub place_none : (H full n left : ℕ) (ps : List Period) → left ≡ 0 → place_hours H full n left ps ≡ ps
place_none H full zero left ps e = refl
place_none H full (suc n) left ps e = rw e refl

pub place_step : (H full n m left : ℕ) (ps : List Period) → n ≡ m + 1 → (left ≡ 0 → ⊥) → place_hours H full n left ps ≡ place_hours H full m (left - min left H) (with_hours ps (most_free ps) full (min left H))
place_step H full n m left ps e f = let z : (left == 0) ≡ false = ⊎_elim (λ t. absurd (f t.1)) (λ t. t.0) (eqb_tells left 0) in rw (e, add-one, z) refl

-- the energies stay in their bounds

pub fits_more : (bound full left part at : ℕ) (ps : List Period) → at < length ps → part ≤ left → All (λ p. (p.supply < 2 ^ 62) × (p.need + full * left < bound)) ps → All (λ p. (p.supply < 2 ^ 62) × (p.need + full * (left - part) < bound)) (with_hours ps at full part)
fits_more bound full left part at ps h l f =
    let e : full * left ≡ full * (part + (left - part)) = ap (λ z. full * z) (omega arith) in
    let old = get_or ps at no_period in
    let new : Period = record { supply = old.supply; need = old.need + full * part; hours = part } in
    let here = f at no_period h in
    All-set (λ p. (p.supply < 2 ^ 62) × (p.need + full * (left - part) < bound)) ps at new
    (here.0, omega (arith, here.1, e))
    (λ k d q. let a = f k d q in (a.0, omega (arith, a.1, e)))
