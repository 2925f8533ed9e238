-- The units of thermal candidates and their capacity stay within those of the greatest counts.
use Rattle.std.proofs.Common.{◌≡◌, ℕ, suc, ◌+◌, ◌*◌, ◌<◌, ◌≤◌, List, [], ◌∷◌, length, map, get_or, sum_by, take, arith, refl, ◌∙◌}
use Rattle.std.specs.List.{zip}
use Rattle.std.proofs.Math.ListN.{get_or-append}
use Rattle.std.proofs.Math.Nat.{mul-le-mul_right}
use Rattle.std.proofs.lemmas.List.{get_or-map, length-append, length-map}
use Rattle.std.proofs.lemmas.List.Concat.{flat_map-cons}
use Rattle.std.proofs.lemmas.List.Sums.{sum_by-cons, sum_by_more}
use Rattle.plant_data.proofs.UnitLists.{length-plant_units, no_plant}
use Rattle.plant_data.specs.Units.{candidate_units, existing_units, plant_units, units_of}
use Rattle.plant_data.specs.declared.plant.Unit.{Unit as Machine}
use Rattle.plant_data.specs.declared.plant.Plant.{Plant}
use Rattle.plant_data.specs.declared.water.Group.{Group}
use Rattle.wasp_fixed.proofs.Lists.{zip_more}
use Rattle.year_system.specs.System.{System, Fits, full_mw, greatest, unit_limit, units}

pub counted : (s : System) (counts : List ℕ) → Fits s counts → length s.thermal ≤ length counts
counted s counts f =
    omega (arith, f.width, length-append (map (λ (p : Plant). p.units) s.thermal) (map (λ (g : Group). g.greatest) s.groups), length-map s.thermal (λ (p : Plant). p.units))

-- the count of a thermal candidate is within its units
pub most : (s : System) (counts : List ℕ) (k : ℕ) → Fits s counts → k < length s.thermal → get_or counts k 0 ≤ (get_or s.thermal k no_plant).units
most s counts k f h =
    let front : get_or (greatest s) k 0 ≡ (get_or s.thermal k no_plant).units =
    get_or-append (map (λ (p : Plant). p.units) s.thermal) (map (λ (g : Group). g.greatest) s.groups) 0 k (omega (arith, h, length-map s.thermal (λ (p : Plant). p.units)))
    ∙ get_or-map (λ (p : Plant). p.units) s.thermal k no_plant 0 h in
    omega (arith, f.most k (omega (arith, h, counted s counts f)), front)

pub record OneMore (s : System) (counts : List ℕ) (k : ℕ) : Type 0 where
  pub value : sum_by (λ (c : Plant × ℕ). c.1 * c.0.full) (take (k + 1) (zip s.thermal counts)) ≡ sum_by (λ (c : Plant × ℕ). c.1 * c.0.full) (take k (zip s.thermal counts)) + get_or counts k 0 * (get_or s.thermal k no_plant).full
  pub small : full_mw (take k s.thermal) + get_or counts k 0 * (get_or s.thermal k no_plant).full ≤ full_mw (take (k + 1) s.thermal)

pub one_more : (s : System) (counts : List ℕ) (k : ℕ) → Fits s counts → k < length s.thermal → OneMore s counts k
one_more s counts k f h =
    let p = get_or s.thermal k no_plant in
    record {
      value = zip_more (λ (c : Plant × ℕ). c.1 * c.0.full) s.thermal counts k no_plant (counted s counts f) h;
      small = omega (arith, sum_by_more (λ (q : Plant). q.units * q.full) s.thermal k no_plant h, mul-le-mul_right p.full (most s counts k f h));
    }

-- how many units there are
existing_length : (ps : List Plant) → length (existing_units ps) ≡ units ps
existing_length [] = refl
existing_length (p ∷ ps) =
    let f : Plant → List Machine = λ q. plant_units q q.units in
    rw (flat_map-cons f p ps) (omega (arith, length-append (plant_units p p.units) (existing_units ps), length-plant_units p p.units, existing_length ps, sum_by-cons (λ (q : Plant). q.units) p ps))

candidate_length : (ps : List Plant) (ns : List ℕ) → ((k : ℕ) → k < length ps → get_or ns k 0 ≤ (get_or ps k no_plant).units) → length (candidate_units ps ns) ≤ units ps
candidate_length [] ns h = omega arith
candidate_length (p ∷ ps) [] h = omega arith
candidate_length (p ∷ ps) (n ∷ ns) h =
    let f : Plant × ℕ → List Machine = λ c. plant_units c.0 c.1 in
    let rest = candidate_length ps ns (λ k l. h (suc k) (omega (arith, l))) in
    let first : n ≤ p.units = h 0 (omega arith) in
    rw (flat_map-cons f (p, n) (zip ps ns)) (omega (arith, length-append (plant_units p n) (candidate_units ps ns), length-plant_units p n, rest, first, sum_by-cons (λ (q : Plant). q.units) p ps))

pub units_fit : (s : System) (counts : List ℕ) → Fits s counts → length (units_of s.existing s.thermal counts) ≤ unit_limit s
units_fit s counts f =
    omega (arith, length-append (existing_units s.existing) (candidate_units s.thermal counts), existing_length s.existing, candidate_length s.thermal counts (λ k l. most s counts k f l))
