-- What is added in two steps against what is added in one.
use Rattle.std.proofs.Common.{◌≡◌, ℕ, ◌+◌, ◌-◌, ◌≤◌, ◌++◌, List, [], ◌∷◌, length, map, take, drop, ap, ◌∙◌, sym, arith, refl, sum_by, suc, drop-drop}
use Rattle.std.specs.List.{flat_map, zip}
use Rattle.std.proofs.Math.Seq.{take-add}
use Rattle.std.proofs.lemmas.List.{map-append}
use Rattle.std.proofs.lemmas.List.Sums.{sum_by-append, sum_by-cons}
use Rattle.plant_data.specs.Configs.{IsAtMost}
use Rattle.cost_terms.specs.Cost.{added_projects, added_units}
use Rattle.cost_terms.specs.declared.additions.Item.{Item}
use Rattle.cost_terms.specs.declared.prices.GroupCost.{GroupCost}
use Rattle.cost_terms.specs.declared.prices.ProjectCost.{ProjectCost}
use Rattle.cost_terms.specs.declared.prices.ThermalCost.{ThermalCost}

-- an amount of an item that is so much for each unit
abbrev pub IsPerUnit : (Item → ℕ) → Type 0
IsPerUnit f = (p : ThermalCost) (m n : ℕ) → f (added_units p m) + f (added_units p n) ≡ f (added_units p (m + n))

-- one that is no less for all units together than for two parts of them
abbrev pub IsMoreTogether : (Item → ℕ) → Type 0
IsMoreTogether f = (p : ThermalCost) (m n : ℕ) → f (added_units p m) + f (added_units p n) ≤ f (added_units p (m + n))

abbrev pub of_units : (Item → ℕ) → List ThermalCost → List ℕ → List ℕ → ℕ
of_units f ps ms ns = sum_by f (map (λ s. added_units s.0 (s.1.1 - s.1.0)) (zip ps (zip ms ns)))

abbrev pub of_projects : (Item → ℕ) → List GroupCost → List ℕ → List ℕ → ℕ
of_projects f gs ms ns = sum_by f (flat_map (λ s. added_projects s.0 s.1.0 s.1.1) (zip gs (zip ms ns)))

at_most_rest : (m n : ℕ) (ms ns : List ℕ) → IsAtMost (m ∷ ms) (n ∷ ns) → IsAtMost ms ns
at_most_rest m n ms ns h = λ k b. h (suc k) (omega (arith, b))

at_most_first : (m n : ℕ) (ms ns : List ℕ) → IsAtMost (m ∷ ms) (n ∷ ns) → m ≤ n
at_most_first m n ms ns h = h 0 (omega arith)

pub units_even : (f : Item → ℕ) → IsPerUnit f → (ps : List ThermalCost) (os bs ns : List ℕ) → IsAtMost os bs → IsAtMost bs ns → length ps ≤ length os → length ps ≤ length bs → length ps ≤ length ns →
    of_units f ps os bs + of_units f ps bs ns ≡ of_units f ps os ns
units_even f u [] os bs ns g h lo lb ln = refl
units_even f u (p ∷ ps) [] bs ns g h lo lb ln = absurd (omega (arith, lo))
units_even f u (p ∷ ps) (o ∷ os) [] ns g h lo lb ln = absurd (omega (arith, lb))
units_even f u (p ∷ ps) (o ∷ os) (b ∷ bs) [] g h lo lb ln = absurd (omega (arith, ln))
units_even f u (p ∷ ps) (o ∷ os) (b ∷ bs) (n ∷ ns) g h lo lb ln =
    let x = at_most_first o b os bs g in
    let y = at_most_first b n bs ns h in
    let e : b - o + (n - b) ≡ n - o = omega (arith, x, y) in
    let here : f (added_units p (b - o)) + f (added_units p (n - b)) ≡ f (added_units p (n - o)) = u p (b - o) (n - b) ∙ ap (λ m. f (added_units p m)) e in
    let rest = units_even f u ps os bs ns (at_most_rest o b os bs g) (at_most_rest b n bs ns h) (omega (arith, lo)) (omega (arith, lb)) (omega (arith, ln)) in
    let i : ThermalCost × (ℕ × ℕ) → Item = λ s. added_units s.0 (s.1.1 - s.1.0) in
    omega (arith, here, rest, sum_by-cons f (i (p, (o, b))) (map i (zip ps (zip os bs))), sum_by-cons f (i (p, (b, n))) (map i (zip ps (zip bs ns))), sum_by-cons f (i (p, (o, n))) (map i (zip ps (zip os ns))))

pub units_more : (f : Item → ℕ) → IsMoreTogether f → (ps : List ThermalCost) (os bs ns : List ℕ) → IsAtMost os bs → IsAtMost bs ns → length ps ≤ length os → length ps ≤ length bs → length ps ≤ length ns →
    of_units f ps os bs + of_units f ps bs ns ≤ of_units f ps os ns
units_more f u [] os bs ns g h lo lb ln = omega arith
units_more f u (p ∷ ps) [] bs ns g h lo lb ln = absurd (omega (arith, lo))
units_more f u (p ∷ ps) (o ∷ os) [] ns g h lo lb ln = absurd (omega (arith, lb))
units_more f u (p ∷ ps) (o ∷ os) (b ∷ bs) [] g h lo lb ln = absurd (omega (arith, ln))
units_more f u (p ∷ ps) (o ∷ os) (b ∷ bs) (n ∷ ns) g h lo lb ln =
    let x = at_most_first o b os bs g in
    let y = at_most_first b n bs ns h in
    let e : b - o + (n - b) ≡ n - o = omega (arith, x, y) in
    let same : f (added_units p (b - o + (n - b))) ≡ f (added_units p (n - o)) = ap (λ m. f (added_units p m)) e in
    let here : f (added_units p (b - o)) + f (added_units p (n - b)) ≤ f (added_units p (n - o)) = omega (arith, u p (b - o) (n - b), same) in
    let rest = units_more f u ps os bs ns (at_most_rest o b os bs g) (at_most_rest b n bs ns h) (omega (arith, lo)) (omega (arith, lb)) (omega (arith, ln)) in
    let i : ThermalCost × (ℕ × ℕ) → Item = λ s. added_units s.0 (s.1.1 - s.1.0) in
    omega (arith, here, rest, sum_by-cons f (i (p, (o, b))) (map i (zip ps (zip os bs))), sum_by-cons f (i (p, (b, n))) (map i (zip ps (zip bs ns))), sum_by-cons f (i (p, (o, n))) (map i (zip ps (zip os ns))))

-- the projects of two steps are those of one
pub projects_even : (g : GroupCost) (o b n : ℕ) → o ≤ b → b ≤ n → added_projects g o b ++ added_projects g b n ≡ added_projects g o n
projects_even g o b n x y =
    let i : ProjectCost → Item = λ p. record { mw = p.capacity; capdom = p.capdom; capfor = p.capfor; stock = 0; life = p.life } in
    let from = drop (g.existing + o) g.projects in
    let place : g.existing + o + (b - o) ≡ g.existing + b = omega (arith, x) in
    let later : drop (b - o) from ≡ drop (g.existing + b) g.projects = drop-drop (b - o) (g.existing + o) g.projects ∙ ap (λ m. drop m g.projects) (omega (arith, place)) in
    let e : b - o + (n - b) ≡ n - o = omega (arith, x, y) in
    sym (map-append i (take (b - o) from) (take (n - b) (drop (g.existing + b) g.projects)))
    ∙ (ap (λ (rest : List ProjectCost). map i (take (b - o) from ++ take (n - b) rest)) (sym later)
    ∙ (ap (map i) (sym (take-add (b - o) (n - b) from)) ∙ ap (λ m. map i (take m from)) e))

pub groups_even : (f : Item → ℕ) → (gs : List GroupCost) (os bs ns : List ℕ) → IsAtMost os bs → IsAtMost bs ns → length gs ≤ length os → length gs ≤ length bs → length gs ≤ length ns →
    of_projects f gs os bs + of_projects f gs bs ns ≡ of_projects f gs os ns
groups_even f [] os bs ns g h lo lb ln = refl
groups_even f (p ∷ ps) [] bs ns g h lo lb ln = absurd (omega (arith, lo))
groups_even f (p ∷ ps) (o ∷ os) [] ns g h lo lb ln = absurd (omega (arith, lb))
groups_even f (p ∷ ps) (o ∷ os) (b ∷ bs) [] g h lo lb ln = absurd (omega (arith, ln))
groups_even f (p ∷ ps) (o ∷ os) (b ∷ bs) (n ∷ ns) g h lo lb ln =
    let x = at_most_first o b os bs g in
    let y = at_most_first b n bs ns h in
    let here : sum_by f (added_projects p o b) + sum_by f (added_projects p b n) ≡ sum_by f (added_projects p o n) = sym (sum_by-append f (added_projects p o b) (added_projects p b n)) ∙ ap (sum_by f) (projects_even p o b n x y) in
    let rest = groups_even f ps os bs ns (at_most_rest o b os bs g) (at_most_rest b n bs ns h) (omega (arith, lo)) (omega (arith, lb)) (omega (arith, ln)) in
    let i : GroupCost × (ℕ × ℕ) → List Item = λ s. added_projects s.0 s.1.0 s.1.1 in
    omega (arith, here, rest, sum_by-append f (added_projects p o b) (flat_map i (zip ps (zip os bs))), sum_by-append f (added_projects p b n) (flat_map i (zip ps (zip bs ns))), sum_by-append f (added_projects p o n) (flat_map i (zip ps (zip os ns))))
