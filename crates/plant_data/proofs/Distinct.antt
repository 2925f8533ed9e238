-- No two units of a year have the same plant and unit number: the pair of numbers rises along the list.
use Rattle.std.proofs.Common.{◌≡◌, ℕ, ◌+◌, ◌<◌, ◌≤◌, ◌++◌, List, [], ◌∷◌, length, map, get_or, arith, suc, zero, ⊎_elim, subst, sym}
use Rattle.std.specs.Bool.{⊤}
use Rattle.std.specs.List.{range_with_len, zip}
use Rattle.std.specs.List.Sorted.{IsStrictlyIncreasing}
use Rattle.std.proofs.lemmas.List.Concat.{flat_map-cons}
use Rattle.std.proofs.lemmas.Bool.{cases_eq, cases_lt}
use Rattle.std.proofs.lemmas.List.{append_assoc, length-map}
use Rattle.plant_data.specs.declared.plant.Plant.{Plant}
use Rattle.plant_data.specs.declared.plant.Unit.{Unit as Machine}
use Rattle.plant_data.specs.Units.{unit_of, plant_units, existing_units, candidate_units, units_of, no_unit, HasDistinctUnits, UnitsAreDistinct}

-- unit n of plant p comes after unit l of plant q
abbrev pub Follows : ℕ → ℕ → ℕ → ℕ → Type 0
Follows q l p n = (q ≤ p) × (q ≡ p → l < n)

-- each unit comes after the one before it, and the first after unit l of plant q
abbrev pub Rises : ℕ → ℕ → List Machine → Type 0
Rises q l [] = ⊤
Rises q l (u ∷ us) = Follows q l u.plant u.unit × Rises u.plant u.unit us

follows_trans : (q l p n r m : ℕ) → Follows q l p n → Follows p n r m → Follows q l r m
follows_trans q l p n r m a b =
    (omega (arith, a.0, b.0), λ e. let f : q ≡ p = omega (arith, a.0, b.0, e) in let g : p ≡ r = omega (arith, e, f) in omega (arith, a.1 f, b.1 g))

rises_lower : (q l p n : ℕ) (us : List Machine) → Follows q l p n → Rises p n us → Rises q l us
rises_lower q l p n [] h r = tt
rises_lower q l p n (u ∷ us) h r = (follows_trans q l p n u.plant u.unit h r.0, r.1)

rises_plant : (p : Plant) (from n : ℕ) (rest : List Machine) (q l : ℕ) → Follows q l p.number from → ((m : ℕ) → Rises p.number m rest) → Rises q l (map (unit_of p) (range_with_len from n) ++ rest)
rises_plant p from zero rest q l h r = rises_lower q l p.number from rest h (r from)
rises_plant p from (suc n) rest q l h r = (h, rises_plant p (from + 1) n rest p.number from (omega arith, λ _. omega arith) r)

-- the numbers of plants rise, from lo on
abbrev pub NumbersRise : ℕ → List Plant → Type 0
NumbersRise lo [] = ⊤
NumbersRise lo (p ∷ ps) = (lo ≤ p.number) × NumbersRise (p.number + 1) ps

suc_more : (k : ℕ) → suc k + 1 ≡ suc (k + 1)
suc_more k = omega arith

numbers_rise : (ps : List Plant) (lo : ℕ) → (0 < length ps → lo ≤ get_or (map (λ (p : Plant). p.number) ps) 0 0) → IsStrictlyIncreasing (map (λ (p : Plant). p.number) ps) → NumbersRise lo ps
numbers_rise [] lo f h = tt
numbers_rise (p ∷ ps) lo f h = (f (omega arith), numbers_rise ps (p.number + 1) (λ l. omega (arith, h 0 (omega (arith, l, length-map ps (λ (q : Plant). q.number))))) (λ k l. subst (λ j. get_or (map (λ (q : Plant). q.number) (p ∷ ps)) (suc k) 0 < get_or (map (λ (q : Plant). q.number) (p ∷ ps)) j 0) (suc_more k) (h (suc k) (omega (arith, l)))))

follows_up : (q l lo p : ℕ) → Follows q l lo 1 → lo ≤ p → Follows q l p 1
follows_up q l lo p h n = (omega (arith, h.0, n), λ e. let f : q ≡ lo = omega (arith, h.0, n, e) in h.1 f)

follows_next : (q l : ℕ) → Follows q l (q + 1) 1
follows_next q l = (omega arith, λ e. absurd (omega (arith, e)))

-- the units of candidates whose numbers rise from lo on
rises_candidates : (q l lo : ℕ) (ps : List Plant) (ns : List ℕ) → Follows q l lo 1 → NumbersRise lo ps → Rises q l (candidate_units ps ns)
rises_candidates q l lo [] ns h n = tt
rises_candidates q l lo (p ∷ ps) [] h n = tt
rises_candidates q l lo (p ∷ ps) (m ∷ ns) h n =
    let f : Plant × ℕ → List Machine = λ c. plant_units c.0 c.1 in
    rw (flat_map-cons f (p, m) (zip ps ns))
    (rises_plant p 1 m (candidate_units ps ns) q l (follows_up q l lo p.number h n.0)
    (λ k. rises_candidates p.number k (p.number + 1) ps ns (follows_next p.number k) n.1))

-- the units of a year
rises_units : (q l lo : ℕ) (es ps : List Plant) (ns : List ℕ) → Follows q l lo 1 → NumbersRise lo (es ++ ps) → Rises q l (units_of es ps ns)
rises_units q l lo [] ps ns h n = rises_candidates q l lo ps ns h n
rises_units q l lo (e ∷ es) ps ns h n =
    let f : Plant → List Machine = λ p. plant_units p p.units in
    rw (flat_map-cons f e es) (rw (append_assoc (plant_units e e.units) (existing_units es) (candidate_units ps ns))
    (rises_plant e 1 e.units (units_of es ps ns) q l (follows_up q l lo e.number h n.0)
    (λ k. rises_units e.number k (e.number + 1) es ps ns (follows_next e.number k) n.1)))

rises_above : (q l : ℕ) (us : List Machine) (i : ℕ) → Rises q l us → i < length us → Follows q l (get_or us i no_unit).plant (get_or us i no_unit).unit
rises_above q l [] i r h = absurd (omega (arith, h))
rises_above q l (u ∷ us) zero r h = r.0
rises_above q l (u ∷ us) (suc i) r h = follows_trans q l u.plant u.unit (get_or us i no_unit).plant (get_or us i no_unit).unit r.0 (rises_above u.plant u.unit us i r.1 (omega (arith, h)))

rises_apart : (q l : ℕ) (us : List Machine) (i j : ℕ) → Rises q l us → i < j → j < length us → Follows (get_or us i no_unit).plant (get_or us i no_unit).unit (get_or us j no_unit).plant (get_or us j no_unit).unit
rises_apart q l [] i j r h k = absurd (omega (arith, k))
rises_apart q l (u ∷ us) i zero r h k = absurd (omega (arith, h))
rises_apart q l (u ∷ us) zero (suc j) r h k = rises_above u.plant u.unit us j r.1 (omega (arith, k))
rises_apart q l (u ∷ us) (suc i) (suc j) r h k = rises_apart u.plant u.unit us i j r.1 (omega (arith, h)) (omega (arith, k))

distinct : (q l : ℕ) (us : List Machine) → Rises q l us → HasDistinctUnits us
distinct q l us r = λ i j h k p u.
    ⊎_elim (λ same. same) (λ d. ⊎_elim (λ b. absurd (omega (arith, u, (rises_apart q l us i j r b k).1 p)))
    (λ g. let b : j < i = omega (arith, g, d) in absurd (omega (arith, u, (rises_apart q l us j i r b h).1 (sym p)))) (cases_lt i j)) (cases_eq i j)

pub units_distinct : UnitsAreDistinct
units_distinct es ps ns h = distinct 0 0 (units_of es ps ns) (rises_units 0 0 0 es ps ns (omega arith, λ _. omega arith) (numbers_rise (es ++ ps) 0 (λ _. omega arith) h))
