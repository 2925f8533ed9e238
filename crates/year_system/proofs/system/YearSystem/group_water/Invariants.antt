use Rattle.std.proofs.Common.{◌≡◌, ℕ, ◌*◌, ◌≤◌, get_or, sum, map}
use Rattle.std.specs.List.{range_with_len}
use Rattle.plant_data.specs.declared.water.Water.{Water}
use Rattle.year_system.specs.Capacity.{no_group, water_at}
use Rattle.year_system.proofs.system.YearSystem.group_water.Given as goal

abbrev pub invariant-loop-project : goal.invariant-loop-project
invariant-loop-project l =
    let water : ℕ → Water = λ j. water_at l.self (get_or l.self.groups l.k no_group) j l.period l.condition in
    record {
      base_is : l.base ≡ sum (map (λ j. (water j).base) (range_with_len 0 l.project));
      peak_is : l.peak ≡ sum (map (λ j. (water j).peak) (range_with_len 0 l.project));
      energy_is : l.energy ≡ sum (map (λ j. (water j).energy) (range_with_len 0 l.project));
      base_most : l.base ≤ 20000 * l.project;
      peak_most : l.peak ≤ 20000 * l.project;
      energy_most : l.energy ≤ 200000000 * l.project;
    }
