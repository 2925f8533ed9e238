-- Bounds of products and quotients of money.
use Rattle.std.proofs.Common.{ℕ, ◌+◌, ◌-◌, ◌*◌, ◌/◌, ◌≤◌, arith}
use Rattle.std.proofs.Math.Nat.{div-le_of_le-mul, div-mul-le_self, le_of_mul-le-mul_right, mul-le-mul, mul-le-mul_left, mul-le-mul_right}
use Rattle.std.proofs.lemmas.Nat.{le-div}
use Rattle.wasp_fixed.specs.declared.numbers.TheConstants.{ONE}
use Rattle.cost_terms.specs.Cost.{domestic, foreign}
use Rattle.cost_terms.specs.Totals.{IsHorizon, IsItem}
use Rattle.cost_terms.specs.declared.additions.Horizon.{Horizon}
use Rattle.cost_terms.specs.declared.additions.Item.{Item}
use Rattle.cost_terms.specs.declared.additions.Totals.{Totals}

-- an investment is at most so much per MW
pub per_mw : (mw price most : ℕ) → price ≤ most → mw * 1000 * price ≤ 1000 * most * mw
per_mw mw price most h = let m : mw * 1000 * price ≤ mw * 1000 * most = mul-le-mul_left (mw * 1000) h in omega (arith, m)

pub whole_most : (mw price most : ℕ) → mw ≤ 2560000 → price ≤ most → mw * 1000 * price ≤ 2560000000 * most
whole_most mw price most m h = mul-le-mul (omega (arith, m)) h

-- what an item is worth at the horizon
pub worth_most : (i : Item) (h : Horizon) → IsItem i → IsHorizon h → domestic i * h.domestic + foreign i * h.foreign ≤ 256000000000000 * ONE
worth_most i h v w =
    let a : domestic i * h.domestic ≤ 128000000000000 * ONE = mul-le-mul (whole_most i.mw i.capdom 50000 v.mw v.capdom) w.domestic in
    let b : foreign i * h.foreign ≤ 128000000000000 * ONE = mul-le-mul (whole_most i.mw i.capfor 50000 v.mw v.capfor) w.foreign in
    omega (arith, a, b)

-- a part of a worth, by straight line
pub part_le : (worth rest life : ℕ) → 1 ≤ life → rest ≤ life → worth * rest / (life * ONE) * ONE ≤ worth
part_le worth rest life one h =
    let q : ℕ = worth * rest / (life * ONE) in
    let below : q * (life * ONE) ≤ worth * rest = div-mul-le_self (worth * rest) (life * ONE) in
    let most : worth * rest ≤ worth * life = mul-le-mul_left worth h in
    let both : q * ONE * life ≤ worth * life = omega (arith, below, most) in
    le_of_mul-le-mul_right both one

-- the price of a shortage is at most the sum of its parts
pub scaled_most : (a b c demand lesser : ℕ) → a ≤ 10000000 → b ≤ 10000000 → c ≤ 10000000 → lesser ≤ demand →
    a * (demand * demand) + b * (demand * lesser) + c * (lesser * lesser) ≤ 30000000 * (demand * demand)
scaled_most a b c demand lesser ha hb hc h =
    let x : a * (demand * demand) ≤ 10000000 * (demand * demand) = mul-le-mul_right (demand * demand) ha in
    let y : b * (demand * lesser) ≤ 10000000 * (demand * demand) = mul-le-mul hb (mul-le-mul_left demand h) in
    let z : c * (lesser * lesser) ≤ 10000000 * (demand * demand) = mul-le-mul hc (mul-le-mul h h) in
    omega (arith, x, y, z)

pub priced_most : (short scaled square : ℕ) → scaled ≤ 30000000 * square → short * scaled / square ≤ 30000000 * short
priced_most short scaled square h =
    let m : short * scaled ≤ short * (30000000 * square) = mul-le-mul_left short h in
    let n : short * scaled ≤ square * (30000000 * short) = omega (arith, m) in
    div-le_of_le-mul square n

-- two amounts with their factors
pub both_most : (d w f v most factor : ℕ) → d ≤ most → f ≤ most → w ≤ factor → v ≤ factor → d * w + f * v ≤ 2 * (most * factor)
both_most d w f v most factor hd hf hw hv =
    let a : d * w ≤ most * factor = mul-le-mul hd hw in
    let b : f * v ≤ most * factor = mul-le-mul hf hv in
    omega (arith, a, b)

-- salvage is no more than the investment, since money is worth no more at the horizon
pub regained : (s d f hd hf w v : ℕ) → s * ONE ≤ d * hd + f * hf → hd ≤ w → hf ≤ v → s ≤ (d * w + f * v) / ONE
regained s d f hd hf w v h a b =
    let x : d * hd ≤ d * w = mul-le-mul_left d a in
    let y : f * hf ≤ f * v = mul-le-mul_left f b in
    le-div s (d * w + f * v) ONE (omega arith) (omega (arith, h, x, y))

-- the sums of a year against the factors: `h` and `g` at the horizon, `w` and `v` now
pub record AreWorths (t : Totals) (h g w v : ℕ) : Type 0 where
  pub mw : t.mw ≤ 40000000
  pub domestic : t.domestic ≤ 50000000 * t.mw
  pub foreign : t.foreign ≤ 50000000 * t.mw
  pub inventory : t.inventory ≤ 10000000 * t.mw
  pub salvage : t.salvage * ONE ≤ t.domestic * h + t.foreign * g
  pub falls : h ≤ w
  pub falls_abroad : g ≤ v
  pub most : w ≤ ONE
  pub most_abroad : v ≤ ONE

pub build_most : (t : Totals) (h g w v : ℕ) → AreWorths t h g w v → (t.domestic * w + t.foreign * v) / ONE ≤ 4000000000000000
build_most t h g w v a =
    div-le_of_le-mul ONE (omega (arith, both_most t.domestic w t.foreign v 2000000000000000 ONE (omega (arith, a.mw, a.domestic)) (omega (arith, a.mw, a.foreign)) a.most a.most_abroad))

pub stock_most : (t : Totals) (h g w v : ℕ) → AreWorths t h g w v → t.inventory * (w - h) / ONE ≤ 400000000000000
stock_most t h g w v a =
    let i : t.inventory ≤ 400000000000000 = omega (arith, a.mw, a.inventory) in
    let f : w - h ≤ ONE = omega (arith, a.most) in
    let m : t.inventory * (w - h) ≤ 400000000000000 * ONE = mul-le-mul i f in
    div-le_of_le-mul ONE (omega (arith, m))
