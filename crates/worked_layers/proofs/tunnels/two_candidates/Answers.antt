use Rattle.std.proofs.Common.{◌≡◌, ℕ, List, [], ◌∷◌, ◌++◌, ◌∙◌, sym, refl, subst}
use Rattle.plant_data.specs.declared.plant.Plant.{Plant}
use Rattle.plant_data.specs.declared.plant.Rule.TheVariants.{Merit}
use Rattle.plant_data.specs.declared.shape.Load.{Load}
use Rattle.year_system.specs.System.{IsSystem, System}
use Rattle.year_system.proofs.Literals.{system_holds}
use Rattle.worked_layers.proofs.tunnels.two_candidates.Goals as goal

abbrev small : ℕ → ℕ → Plant
small n count = record { number = n; units = count; least = 1; full = 1; heat = 2000; inc = 2000; domestic = 500; foreign = 0; variable = 0; outage = 1000; repair = 0 }

abbrev flat : ℕ → Load
flat p = record { peak = p; shape = record { load = 0; share = 10000 } ∷ record { load = 10000; share = 10000 } ∷ [] }

abbrev plants : List Plant
plants = small 41 24 ∷ small 42 20 ∷ []

abbrev year : System
year = record { rule = Merit; loads = flat 100 ∷ []; weights = 10000 ∷ []; existing = []; thermal = plants; groups = []; step = 1 }

year_is : IsSystem year
year_is = system_holds year refl

pub year_of-requires : goal.year_of-requires
year_of-requires c =
    let loads : c.push.new.self.items ≡ flat 100 ∷ [] =
    c.in_ok-push.ensures.items ∙ λ i. c.new-loads.ensures.items i ++ c.in_ok-flat.ensures i ∷ [] in
    let thermal : c.in_ok-thermal.thermal.items ≡ plants = c.in_ok-thermal.ensures.items in
    let groups : c.new.result.items ≡ [] = c.new.ensures.items in
    subst IsSystem (sym (λ i. record { rule = Merit; loads = loads i; weights = 10000 ∷ []; existing = []; thermal = thermal i; groups = groups i; step = 1 })) year_is
