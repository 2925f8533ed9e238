use Rattle.std.proofs.Common.{◌≡◌, [], ◌∷◌, ◌∙◌, sym, refl, subst}
use Rattle.plant_data.specs.declared.plant.Plant.{Plant}
use Rattle.plant_data.specs.declared.plant.Rule.TheVariants.{Merit}
use Rattle.plant_data.specs.declared.shape.Load.{Load}
use Rattle.year_system.specs.System.{IsSystem, System}
use Rattle.year_system.proofs.Literals.{system_holds}
use Rattle.worked_engines.proofs.tape.gas_year.Goals as goal

abbrev gas : Plant
gas = record { number = 41; units = 1; least = 1; full = 1; heat = 2000; inc = 2000; domestic = 500; foreign = 0; variable = 0; outage = 1000; repair = 0 }

abbrev flat : Load
flat = record { peak = 1; shape = record { load = 0; share = 10000 } ∷ record { load = 10000; share = 10000 } ∷ [] }

abbrev year : System
year = record { rule = Merit; loads = flat ∷ []; weights = 10000 ∷ []; existing = []; thermal = gas ∷ []; groups = []; step = 1 }

year_is : IsSystem year
year_is = system_holds year refl

pub new-requires-7 : goal.new-requires-7
new-requires-7 c =
    let loads : c.in_ok-loads.loads ≡ flat ∷ [] = c.in_ok-loads.ensures in
    let weights : c.new.result ≡ 10000 ∷ [] = c.new.ensures ∙ c.in_ok-weights.ensures.items in
    let existing : c.new-3.result ≡ [] = c.new-3.ensures ∙ c.new-2.ensures.items in
    let thermal : c.new-4.result ≡ gas ∷ [] = c.new-4.ensures ∙ c.in_ok-thermal.ensures.items in
    let groups : c.new-6.result ≡ [] = c.new-6.ensures ∙ c.new-5.ensures.items in
    subst IsSystem (sym (λ i. record { rule = Merit; loads = loads i; weights = weights i; existing = existing i; thermal = thermal i; groups = groups i; step = 1 })) year_is
