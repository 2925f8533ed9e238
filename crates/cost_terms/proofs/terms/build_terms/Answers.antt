use Rattle.std.proofs.Common.{◌≡◌, ◌-◌, ◌≤◌, ℕ, get_or, arith}
use Rattle.wasp_fixed.specs.Discounts.{end_factor}
use Rattle.cost_terms.specs.Cost.{horizon}
use Rattle.cost_terms.specs.Factors.{AreFactors}
use Rattle.cost_terms.specs.Totals.{IsWithin}
use Rattle.cost_terms.specs.declared.additions.Horizon.{Horizon}
use Rattle.cost_terms.specs.declared.additions.Totals.{Totals}
use Rattle.cost_terms.specs.declared.factors.Factors.{Factors}
use Rattle.cost_terms.specs.declared.prices.CostData.{CostData}
use Rattle.cost_terms.proofs.Amounts.{AreWorths, build_most, regained, stock_most}
use Rattle.cost_terms.proofs.FactorBounds.{end_later}
use Rattle.cost_terms.proofs.terms.build_terms.Goals as goal

worths : (c : CostData) (f : Factors) (year : ℕ) (h : Horizon) (t : Totals) → AreFactors c f → c.years ≤ 30 → year ≤ c.years → h ≡ horizon c year → IsWithin h t → t.mw ≤ 40000000 →
    AreWorths t h.domestic h.foreign (get_or f.end_domestic (year - 1) 0) (get_or f.end_foreign (year - 1) 0)
worths c f year h t v few last is within mw =
    let k : year - 1 ≤ 30 = omega (arith, few, last) in
    let d : h.domestic ≡ end_factor c.rates.domestic c.years = λ i. (is i).domestic in
    let g : h.foreign ≡ end_factor c.rates.foreign c.years = λ i. (is i).foreign in
    record {
      mw = mw;
      domestic = within.domestic;
      foreign = within.foreign;
      inventory = within.inventory;
      salvage = within.salvage;
      falls = omega (arith, d, v.end_domestic.value (year - 1) k, end_later c.rates.domestic (year - 1) c.years (omega (arith, last)));
      falls_abroad = omega (arith, g, v.end_foreign.value (year - 1) k, end_later c.rates.foreign (year - 1) c.years (omega (arith, last)));
      most = v.end_domestic.small (year - 1) k;
      most_abroad = v.end_foreign.small (year - 1) k;
    }

pub both_worth-requires-clause-fits : goal.both_worth-requires-clause-fits
both_worth-requires-clause-fits c =
    let a = worths _ _ _ _ _ c.requires.factors c.requires.costs.years.1 c.requires.last c.horizon_of-horizon.ensures.value c.year_totals-totals.ensures.within c.year_totals-totals.ensures.mw in
    let m = build_most _ _ _ _ _ a in
    omega (arith, m)

pub overflow_sub-worth : goal.overflow_sub-worth
overflow_sub-worth c =
    let a = worths _ _ _ _ _ c.requires.factors c.requires.costs.years.1 c.requires.last c.horizon_of-horizon.ensures.value c.year_totals-totals.ensures.within c.year_totals-totals.ensures.mw in
    a.falls

pub mul_div_floor-requires-clause-fits : goal.mul_div_floor-requires-clause-fits
mul_div_floor-requires-clause-fits c =
    let a = worths _ _ _ _ _ c.requires.factors c.requires.costs.years.1 c.requires.last c.horizon_of-horizon.ensures.value c.year_totals-totals.ensures.within c.year_totals-totals.ensures.mw in
    let m = stock_most _ _ _ _ _ a in
    omega (arith, m)

pub returns-clause-regained : goal.returns-clause-regained
returns-clause-regained c =
    let a = worths _ _ _ _ _ c.requires.factors c.requires.costs.years.1 c.requires.last c.horizon_of-horizon.ensures.value c.year_totals-totals.ensures.within c.year_totals-totals.ensures.mw in
    rw c.both_worth.ensures (regained _ _ _ _ _ _ _ a.salvage a.falls a.falls_abroad)

pub returns-clause-small : goal.returns-clause-small
returns-clause-small c =
    let a = worths _ _ _ _ _ c.requires.factors c.requires.costs.years.1 c.requires.last c.horizon_of-horizon.ensures.value c.year_totals-totals.ensures.within c.year_totals-totals.ensures.mw in
    let m = build_most _ _ _ _ _ a in
    let n = stock_most _ _ _ _ _ a in
    omega (arith, m, n, c.both_worth.ensures, c.mul_div_floor.ensures)
