-- No salvage is above its investment.
use Rattle.std.proofs.Common.{◌≡◌, ℕ, ◌+◌, ◌-◌, ◌*◌, ◌/◌, ◌≤◌, List, [], ◌∷◌, sum_by, arith, ⊎_elim}
use Rattle.std.proofs.Math.Nat.{add-mul, div-le_self, mul-le-mul_left}
use Rattle.std.proofs.lemmas.Bool.{cases_eq}
use Rattle.std.proofs.lemmas.List.Sums.{sum_by-cons}
use Rattle.wasp_fixed.specs.declared.numbers.TheConstants.{ONE}
use Rattle.cost_terms.specs.Cost.{SalvageIsWithinBuild, domestic, foreign, horizon, item_salvage, items}
use Rattle.cost_terms.specs.declared.additions.Horizon.{Horizon}
use Rattle.cost_terms.specs.declared.additions.Item.{Item}
use Rattle.cost_terms.proofs.Amounts.{part_le, regained}
use Rattle.cost_terms.proofs.FactorBounds.{end_later}

-- an item with no life has no salvage
no_life : (worth rest divisor : ℕ) → rest ≡ 0 → worth * rest / divisor * ONE ≤ worth
no_life worth rest divisor none =
    let m : worth * rest ≤ worth * 0 = mul-le-mul_left worth (omega (arith, none)) in
    omega (arith, m, div-le_self (worth * rest) divisor)

pub item_le : (h : Horizon) (i : Item) → item_salvage h i * ONE ≤ domestic i * h.domestic + foreign i * h.foreign
item_le h i =
    let worth : ℕ = domestic i * h.domestic + foreign i * h.foreign in
    ⊎_elim (λ none. no_life worth (i.life - h.ahead) (i.life * ONE) (omega (arith, none)))
    (λ some. part_le worth (i.life - h.ahead) i.life (omega (arith, some)) (omega arith)) (cases_eq i.life 0)

sums_le : (h : Horizon) (is : List Item) → sum_by (item_salvage h) is * ONE ≤ sum_by domestic is * h.domestic + sum_by foreign is * h.foreign
sums_le h [] = omega arith
sums_le h (i ∷ is) =
    rw (sum_by-cons (item_salvage h) i is, sum_by-cons domestic i is, sum_by-cons foreign i is)
    (omega (arith, item_le h i, sums_le h is, add-mul (item_salvage h i) (sum_by (item_salvage h) is) ONE, add-mul (domestic i) (sum_by domestic is) h.domestic, add-mul (foreign i) (sum_by foreign is) h.foreign))

pub within_build : SalvageIsWithinBuild
within_build c year before after last =
    let k : year - 1 ≤ c.years = omega (arith, last) in
    regained _ _ _ _ _ _ _ (sums_le (horizon c year) (items c before after)) (end_later c.rates.domestic (year - 1) c.years k) (end_later c.rates.foreign (year - 1) c.years k)
