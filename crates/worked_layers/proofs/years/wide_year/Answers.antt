use Rattle.std.proofs.Common.{◌≡◌, ℕ, zero, suc, List, [], ◌∷◌, ◌++◌, ◌∙◌, sym, refl, subst}
use Rattle.plant_data.specs.declared.plant.Plant.{Plant}
use Rattle.plant_data.specs.declared.plant.Rule.TheVariants.{BaseFirst}
use Rattle.plant_data.specs.declared.shape.Load.{Load}
use Rattle.plant_data.specs.declared.water.Group.{Group}
use Rattle.plant_data.specs.declared.water.Water.{Water}
use Rattle.year_system.specs.System.{IsSystem, System}
use Rattle.year_system.proofs.Literals.{system_holds}
use Rattle.worked_layers.proofs.years.wide_year.Goals as goal

-- the first condition's water and the second's, for each of n projects
abbrev pairs : ℕ → List Water
pairs zero = []
pairs (suc n) = record { base = 10; peak = 20; energy = 0 } ∷ record { base = 300; peak = 400; energy = 0 } ∷ pairs n

abbrev gas : ℕ → ℕ → Plant
gas n count = record { number = n; units = count; least = 100; full = 100; heat = 2000; inc = 2000; domestic = 500; foreign = 0; variable = 0; outage = 1000; repair = 0 }

abbrev gases : List Plant
gases = gas 41 11 ∷ gas 42 11 ∷ gas 43 11 ∷ gas 44 11 ∷ gas 45 11 ∷ gas 46 11 ∷ gas 47 11 ∷ gas 48 11 ∷ gas 49 10 ∷ gas 50 10 ∷ gas 51 10 ∷ gas 52 10 ∷ []

abbrev river : ℕ → ℕ → Group
river n count = record { number = n; existing = 0; greatest = count; water = pairs count }

abbrev flat : Load
flat = record { peak = 100; shape = record { load = 0; share = 10000 } ∷ record { load = 10000; share = 10000 } ∷ [] }

abbrev wide : System
wide = record { rule = BaseFirst; loads = flat ∷ []; weights = 0 ∷ 10000 ∷ []; existing = []; thermal = gases; groups = river 1 15 ∷ river 2 9 ∷ []; step = 1 }

wide_is : IsSystem wide
wide_is = system_holds wide refl

pub new-requires-8 : goal.new-requires-8
new-requires-8 c =
    let loads : c.in_ok-loads.loads ≡ flat ∷ [] = c.in_ok-loads.ensures in
    let weights : c.new-3.result ≡ 0 ∷ 10000 ∷ [] = c.new-3.ensures ∙ c.in_ok-weights.ensures.items in
    let existing : c.new-5.result ≡ [] = c.new-5.ensures ∙ c.new-4.ensures.items in
    let thermal : c.new-6.result ≡ gases = c.new-6.ensures ∙ c.in_ok-thermal.ensures.items in
    let first : c.new.result ≡ pairs 15 = c.new.ensures ∙ c.in_ok-first.ensures.items in
    let second : c.new-2.result ≡ pairs 9 = c.new-2.ensures ∙ c.in_ok-second.ensures.items in
    let one : c.push.new.self.items ≡ river 1 15 ∷ [] =
    c.in_ok-push.ensures.items ∙ λ i. c.new-groups.ensures.items i ++ record { number = 1; existing = 0; greatest = 15; water = first i } ∷ [] in
    let groups : c.new-7.result ≡ river 1 15 ∷ river 2 9 ∷ [] =
    c.new-7.ensures ∙ (c.in_ok-push-2.ensures.items ∙ λ i. one i ++ record { number = 2; existing = 0; greatest = 9; water = second i } ∷ []) in
    subst IsSystem (sym (λ i. record { rule = BaseFirst; loads = loads i; weights = weights i; existing = existing i; thermal = thermal i; groups = groups i; step = 1 })) wide_is
