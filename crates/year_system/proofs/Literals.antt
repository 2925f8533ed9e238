-- A test for literal systems: where it computes to true, the system is one.
use Rattle.std.proofs.Common.{◌≡◌, ℕ, zero, suc, ◌+◌, ◌-◌, ◌*◌, ◌%◌, ◌^◌, ◌<◌, ◌≤◌, ◌++◌, Bool, true, ◌&&◌, nat_eq, nat_lt, nat_le, List, [], ◌∷◌, All, length, map, sum, slice_index, arith, ⊎_elim}
use Rattle.std.specs.List.{list_all}
use Rattle.std.specs.List.Sorted.{IsStrictlyIncreasing}
use Rattle.std.proofs.lemmas.Bool.{and_parts, cases_eq, eqb-true, leb-true, ltb-true}
use Rattle.std.proofs.lemmas.List.Elements.{All-cons}
use Rattle.plant_data.specs.Shapes.{IsFaultless, IsInRange, load_at, share_at}
use Rattle.plant_data.specs.declared.plant.Plant.{Plant}
use Rattle.plant_data.specs.declared.shape.Load.{Load}
use Rattle.plant_data.specs.declared.shape.Point.{Point}
use Rattle.plant_data.specs.declared.water.Group.{Group}
use Rattle.plant_data.specs.declared.water.Water.{Water}
use Rattle.year_system.specs.System.{IsGroup, IsLoad, IsPlant, IsSystem, IsWater, System, greatest, greatest_peak, size, thermal_mw, unit_limit}

le : (a b : ℕ) → nat_le a b ≡ true → a ≤ b
le a b h = leb-true a b h

-- a test of the numbers below n
abbrev pub each_below : ℕ → (ℕ → Bool) → Bool
each_below zero p = true
each_below (suc n) p = p n && each_below n p

below : (n : ℕ) (p : ℕ → Bool) → each_below n p ≡ true → (i : ℕ) → i < n → p i ≡ true
below zero p h i l = absurd (omega (arith, l))
below (suc n) p h i l =
    let b = and_parts (p n) (each_below n p) h in
    ⊎_elim (λ e. rw e b.0) (λ d. below n p b.1 i (omega (arith, l, d))) (cases_eq i n)

all_from : {X : Type 0} (p : X → Bool) (P : X → Type 0) → ((x : X) → p x ≡ true → P x) → (xs : List X) → list_all p xs ≡ true → All P xs
all_from p P f [] h = λ i d l. absurd (omega (arith, l))
all_from p P f (x ∷ xs) h = let b = and_parts (p x) (list_all p xs) h in All-cons P x xs (f x b.0) (all_from p P f xs b.1)

abbrev pub is_rising : List ℕ → Bool
is_rising xs = each_below (length xs - 1) (λ k. nat_lt (slice_index xs k) (slice_index xs (k + 1)))

rising_holds : (xs : List ℕ) → is_rising xs ≡ true → IsStrictlyIncreasing xs
rising_holds xs h = λ k l. ltb-true (slice_index xs k) (slice_index xs (k + 1)) (below (length xs - 1) (λ j. nat_lt (slice_index xs j) (slice_index xs (j + 1))) h k (omega (arith, l)))

abbrev pub is_faultless : List Point → Bool
is_faultless ps =
    nat_eq (load_at ps 0) 0 && (nat_eq (load_at ps (length ps - 1)) 10000
    && (each_below (length ps - 1) (λ i. nat_lt (load_at ps i) (load_at ps (i + 1))) && each_below (length ps - 1) (λ i. nat_le (share_at ps (i + 1)) (share_at ps i))))

faultless_holds : (ps : List Point) → is_faultless ps ≡ true → IsFaultless ps
faultless_holds ps h =
    let a = and_parts _ _ h in
    let b = and_parts _ _ a.1 in
    let c = and_parts _ _ b.1 in
    record {
      first = eqb-true (load_at ps 0) 0 a.0;
      rises = λ i l. ltb-true (load_at ps i) (load_at ps (i + 1)) (below (length ps - 1) (λ j. nat_lt (load_at ps j) (load_at ps (j + 1))) c.0 i (omega (arith, l)));
      falls = λ i l. le (share_at ps (i + 1)) (share_at ps i) (below (length ps - 1) (λ j. nat_le (share_at ps (j + 1)) (share_at ps j)) c.1 i (omega (arith, l)));
      last = eqb-true (load_at ps (length ps - 1)) 10000 b.0;
    }

-- from a to b
abbrev pub is_from : ℕ → ℕ → ℕ → Bool
is_from a b n = nat_le a n && nat_le n b

from : (a b n : ℕ) → is_from a b n ≡ true → (a ≤ n) × (n ≤ b)
from a b n h = let c = and_parts (nat_le a n) (nat_le n b) h in (le a n c.0, le n b c.1)

abbrev pub is_load : Load → Bool
is_load l = is_from 1 400000 l.peak && (is_from 2 64 (length l.shape) && (list_all (λ p. nat_le p.load 10000 && nat_le p.share 10000) l.shape && is_faultless l.shape))

load_holds : (l : Load) → is_load l ≡ true → IsLoad l
load_holds l h =
    let a = and_parts _ _ h in
    let b = and_parts _ _ a.1 in
    let c = and_parts _ _ b.1 in
    record {
      peak = from 1 400000 l.peak a.0;
      points = from 2 64 (length l.shape) b.0;
      range = all_from (λ p. nat_le p.load 10000 && nat_le p.share 10000) IsInRange (λ p k. let d = and_parts (nat_le p.load 10000) (nat_le p.share 10000) k in (le p.load 10000 d.0, le p.share 10000 d.1)) l.shape c.0;
      faultless = faultless_holds l.shape c.1;
    }

abbrev pub is_plant : ℕ → Plant → Bool
is_plant step p =
    nat_le p.units 128 && (is_from 1 p.full p.least && (nat_le p.full 20000 && (nat_le p.heat 50000 && (nat_le p.inc 50000 && (nat_le p.domestic 50000
    && (nat_le p.foreign 50000 && (nat_le p.variable 100000 && (nat_le p.outage 10000 && (nat_le p.repair 8760 && (nat_eq (p.least % step) 0 && nat_eq (p.full % step) 0))))))))))

plant_holds : (step : ℕ) (p : Plant) → is_plant step p ≡ true → IsPlant step p
plant_holds step p h =
    let a = and_parts _ _ h in
    let b = and_parts _ _ a.1 in
    let c = and_parts _ _ b.1 in
    let d = and_parts _ _ c.1 in
    let e = and_parts _ _ d.1 in
    let f = and_parts _ _ e.1 in
    let g = and_parts _ _ f.1 in
    let i = and_parts _ _ g.1 in
    let j = and_parts _ _ i.1 in
    let k = and_parts _ _ j.1 in
    let l = and_parts _ _ k.1 in
    record {
      units = le p.units 128 a.0;
      least = from 1 p.full p.least b.0;
      full = le p.full 20000 c.0;
      heat = le p.heat 50000 d.0;
      inc = le p.inc 50000 e.0;
      domestic = le p.domestic 50000 f.0;
      foreign = le p.foreign 50000 g.0;
      variable = le p.variable 100000 i.0;
      outage = le p.outage 10000 j.0;
      repair = le p.repair 8760 k.0;
      steps = (eqb-true (p.least % step) 0 l.0, eqb-true (p.full % step) 0 l.1);
    }

abbrev pub is_water : ℕ → Water → Bool
is_water step w = nat_le w.base 20000 && (nat_le w.peak 20000 && (nat_le w.energy 200000000 && (nat_eq (w.base % step) 0 && nat_eq (w.peak % step) 0)))

water_holds : (step : ℕ) (w : Water) → is_water step w ≡ true → IsWater step w
water_holds step w h =
    let a = and_parts _ _ h in
    let b = and_parts _ _ a.1 in
    let c = and_parts _ _ b.1 in
    let d = and_parts _ _ c.1 in
    record {
      base = le w.base 20000 a.0;
      peak = le w.peak 20000 b.0;
      energy = le w.energy 200000000 c.0;
      steps = (eqb-true (w.base % step) 0 d.0, eqb-true (w.peak % step) 0 d.1);
    }

abbrev pub is_group : ℕ → ℕ → ℕ → Group → Bool
is_group step periods conditions g =
    is_from 1 2 g.number && (nat_le g.existing 15 && (nat_le g.greatest 15 && (nat_eq (length g.water) ((g.existing + g.greatest) * periods * conditions) && list_all (is_water step) g.water)))

group_holds : (step periods conditions : ℕ) (g : Group) → is_group step periods conditions g ≡ true → IsGroup step periods conditions g
group_holds step periods conditions g h =
    let a = and_parts _ _ h in
    let b = and_parts _ _ a.1 in
    let c = and_parts _ _ b.1 in
    let d = and_parts _ _ c.1 in
    record {
      number = from 1 2 g.number a.0;
      existing = le g.existing 15 b.0;
      greatest = le g.greatest 15 c.0;
      water = eqb-true (length g.water) ((g.existing + g.greatest) * periods * conditions) d.0;
      ranges = all_from (is_water step) (IsWater step) (water_holds step) g.water d.1;
    }

abbrev pub is_existing : ℕ → Plant → Bool
is_existing step p = is_from 1 40 p.number && (nat_le 1 p.units && is_plant step p)

existing_holds : (step : ℕ) (p : Plant) → is_existing step p ≡ true → (1 ≤ p.number) × (p.number ≤ 40) × (1 ≤ p.units) × IsPlant step p
existing_holds step p h =
    let a = and_parts _ _ h in
    let b = and_parts _ _ a.1 in
    let n = from 1 40 p.number a.0 in
    (n.0, n.1, le 1 p.units b.0, plant_holds step p b.1)

abbrev pub is_candidate : ℕ → Plant → Bool
is_candidate step p = is_from 41 52 p.number && is_plant step p

candidate_holds : (step : ℕ) (p : Plant) → is_candidate step p ≡ true → (41 ≤ p.number) × (p.number ≤ 52) × IsPlant step p
candidate_holds step p h =
    let a = and_parts _ _ h in
    let n = from 41 52 p.number a.0 in
    (n.0, n.1, plant_holds step p a.1)

abbrev pub is_system : System → Bool
is_system s =
    is_from 1 20 s.step && (is_from 1 12 (length s.loads) && (nat_eq (12 % length s.loads) 0 && (list_all is_load s.loads
    && (is_from 1 5 (length s.weights) && (nat_eq (sum s.weights) 10000 && (nat_le (length s.existing) 40 && (list_all (is_existing s.step) s.existing
    && (nat_le (length s.thermal) 12 && (list_all (is_candidate s.step) s.thermal && (is_rising (map (λ p. p.number) (s.existing ++ s.thermal))
    && (nat_le (length s.groups) 2 && (list_all (is_group s.step (length s.loads) (length s.weights)) s.groups && (is_rising (map (λ g. g.number) s.groups)
    && (nat_le 1 (length s.thermal + length s.groups) && (nat_le (unit_limit s) 128 && (nat_le (thermal_mw s + greatest_peak s.loads) (65535 * s.step)
    && (nat_le (thermal_mw s + greatest_peak s.loads) 400000 && nat_le (size (greatest s)) (2 ^ 50))))))))))))))))))

pub system_holds : (s : System) → is_system s ≡ true → IsSystem s
system_holds s h =
    let a = and_parts _ _ h in
    let b = and_parts _ _ a.1 in
    let c = and_parts _ _ b.1 in
    let d = and_parts _ _ c.1 in
    let e = and_parts _ _ d.1 in
    let f = and_parts _ _ e.1 in
    let g = and_parts _ _ f.1 in
    let i = and_parts _ _ g.1 in
    let j = and_parts _ _ i.1 in
    let k = and_parts _ _ j.1 in
    let l = and_parts _ _ k.1 in
    let m = and_parts _ _ l.1 in
    let n = and_parts _ _ m.1 in
    let o = and_parts _ _ n.1 in
    let p = and_parts _ _ o.1 in
    let q = and_parts _ _ p.1 in
    let r = and_parts _ _ q.1 in
    let t = and_parts _ _ r.1 in
    let periods = from 1 12 (length s.loads) b.0 in
    record {
      step = from 1 20 s.step a.0;
      periods = (periods.0, periods.1, eqb-true (12 % length s.loads) 0 c.0);
      loads = all_from is_load IsLoad load_holds s.loads d.0;
      conditions = from 1 5 (length s.weights) e.0;
      weights = eqb-true (sum s.weights) 10000 f.0;
      existing = (le (length s.existing) 40 g.0, all_from (is_existing s.step) _ (existing_holds s.step) s.existing i.0);
      thermal = (le (length s.thermal) 12 j.0, all_from (is_candidate s.step) _ (candidate_holds s.step) s.thermal k.0);
      numbers = rising_holds (map (λ (x : Plant). x.number) (s.existing ++ s.thermal)) l.0;
      groups = (le (length s.groups) 2 m.0, all_from (is_group s.step (length s.loads) (length s.weights)) _ (group_holds s.step (length s.loads) (length s.weights)) s.groups n.0);
      group_numbers = rising_holds (map (λ (x : Group). x.number) s.groups) o.0;
      candidate = le 1 (length s.thermal + length s.groups) p.0;
      few_units = le (unit_limit s) 128 q.0;
      power = (le (thermal_mw s + greatest_peak s.loads) (65535 * s.step) r.0, le (thermal_mw s + greatest_peak s.loads) 400000 t.0);
      codes = le (size (greatest s)) (2 ^ 50) t.1;
    }
