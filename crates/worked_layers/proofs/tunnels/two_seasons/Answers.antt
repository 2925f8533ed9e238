use Rattle.std.proofs.Common.{◌≡◌, ℕ, List, [], ◌∷◌, ◌++◌, ◌∙◌, sym, refl, subst}
use Rattle.plant_data.specs.declared.plant.Plant.{Plant}
use Rattle.plant_data.specs.declared.plant.Rule.TheVariants.{Merit}
use Rattle.plant_data.specs.declared.shape.Load.{Load}
use Rattle.plant_data.specs.declared.water.Group.{Group}
use Rattle.plant_data.specs.declared.water.Water.{Water}
use Rattle.year_system.specs.System.{IsSystem, System}
use Rattle.year_system.proofs.Literals.{system_holds}
use Rattle.worked_layers.proofs.tunnels.two_seasons.Goals as goal

abbrev small : ℕ → ℕ → Plant
small n count = record { number = n; units = count; least = 1; full = 1; heat = 2000; inc = 2000; domestic = 500; foreign = 0; variable = 0; outage = 1000; repair = 0 }

abbrev flat : ℕ → Load
flat p = record { peak = p; shape = record { load = 0; share = 10000 } ∷ record { load = 10000; share = 10000 } ∷ [] }

abbrev water : ℕ → ℕ → Water
water b p = record { base = b; peak = p; energy = 0 }

abbrev waters : List Water
waters = water 20 40 ∷ water 20 20 ∷ water 0 0 ∷ water 0 10 ∷ []

abbrev river : List Water → Group
river ws = record { number = 1; existing = 0; greatest = 2; water = ws }

abbrev year : System
year = record { rule = Merit; loads = flat 100 ∷ flat 90 ∷ []; weights = 10000 ∷ []; existing = []; thermal = small 41 120 ∷ []; groups = river waters ∷ []; step = 1 }

year_is : IsSystem year
year_is = system_holds year refl

pub year_of-requires : goal.year_of-requires
year_of-requires c =
    let one : c.push.new.self.items ≡ flat 100 ∷ [] =
    c.in_ok-push.ensures.items ∙ λ i. c.new-loads.ensures.items i ++ c.in_ok-flat.ensures i ∷ [] in
    let loads : c.push-2.new.self.items ≡ flat 100 ∷ flat 90 ∷ [] =
    c.in_ok-push-2.ensures.items ∙ λ i. one i ++ c.in_ok-flat-2.ensures i ∷ [] in
    let thermal : c.in_ok-thermal.thermal.items ≡ small 41 120 ∷ [] = c.in_ok-thermal.ensures.items in
    let stated : c.in_ok-water.water.items ≡ waters =
    c.in_ok-water.ensures.items ∙ λ i. c.water_of.ensures i ∷ c.water_of-2.ensures i ∷ c.water_of-3.ensures i ∷ c.water_of-4.ensures i ∷ [] in
    let held : c.new.result ≡ waters = c.new.ensures ∙ stated in
    let groups : c.push-3.new.self.items ≡ river waters ∷ [] =
    c.in_ok-push-3.ensures.items ∙ λ i. c.new-groups.ensures.items i ++ river (held i) ∷ [] in
    subst IsSystem (sym (λ i. record { rule = Merit; loads = loads i; weights = 10000 ∷ []; existing = []; thermal = thermal i; groups = groups i; step = 1 })) year_is
