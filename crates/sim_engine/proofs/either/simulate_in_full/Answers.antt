use Rattle.std.proofs.Common.{◌≡◌, ℕ, ◌+◌, ◌-◌, ◌*◌, ◌/◌, ◌<◌, ◌≤◌, ◌++◌, List, length, take, drop, get_or, sym, ap, subst, ◌∙◌, arith}
use Rattle.std.proofs.lemmas.List.{length-take}
use Rattle.wasp_fixed.specs.declared.numbers.TheConstants.{M}
use Rattle.plant_data.specs.declared.plant.Unit.{Unit as Machine}
use Rattle.loading_order.specs.declared.blocks.Block.{Block}
use Rattle.year_system.specs.System.{greatest_peak, thermal_mw}
use Rattle.year_system.proofs.CellSteps.{cells_fit}
use Rattle.load_curves.proofs.Ceilings.{ceiling-div_ceil}
use Rattle.wasp_fixed.proofs.Lists.{written}
use Rattle.sim_engine.specs.Curves.{load_cells, no_load}
use Rattle.sim_engine.specs.Dispatch.{available, dispatch}
use Rattle.sim_engine.specs.Loading.{cells_in, energies, lolp, unserved}
use Rattle.sim_engine.specs.Prepared.{period_of}
use Rattle.sim_engine.proofs.PieceSteps.{available_small, dispatch_is, peak_at, same_available, top_hours, top_mw}
use Rattle.sim_engine.proofs.either.simulate_in_full.Goals as goal

pub run_period-requires-clause-cells : goal.run_period-requires-clause-cells
run_period-requires-clause-cells c =
    let s = c.args.system.now in
    let v = c.requires.prepared.system in
    let e : cells_in c.step-step.result c.blocks-2.result.now ≡ cells_in s.step c.args.fleet.now.blocks = λ i. cells_in (c.step-step.ensures.value i) (c.blocks-2.ensures i) in
    omega (arith, e, c.requires.prepared.capacity c.args.period c.requires.period, cells_fit (greatest_peak s.loads) (thermal_mw s) s.step v.step.0 v.power.0)

pub run_period-requires-clause-top : goal.run_period-requires-clause-top
run_period-requires-clause-top c =
    let s = c.args.system.now in
    let v = c.requires.prepared.system in
    let es = c.step-step.ensures.value in
    let ep = peak_at s.loads c.loads-loads.result.now c.args.period c.index-loads-period.result c.loads-loads.ensures.value c.requires.period in
    let t : c.div_ceil-top.result ≡ load_cells s c.args.period = c.div_ceil-top.ensures ∙ (ceiling-div_ceil _ c.step-step.result (omega (arith, es, v.step.0)) ∙ (λ i. (ep i + es i - 1) / es i)) in
    omega (arith, t, c.requires.prepared.capacity c.args.period c.requires.period, cells_fit (greatest_peak s.loads) (thermal_mw s) s.step v.step.0 v.power.0)

pub run_period-requires-clause-available : goal.run_period-requires-clause-available
run_period-requires-clause-available c =
    let s = c.args.system.now in
    let f = c.args.fleet.now in
    let xs = c.write_available.new.room in
    let items = c.args.bench.now.available.items in
    let w : take c.args.bench.now.available.len (xs ++ drop (length xs) items) ≡ xs =
    written xs items _ (c.write_available.auto.room ∙ ap length c.as_mut_slice.ensures.value) (sym c.as_mut_slice.ensures.len ∙ ap length c.as_mut_slice.ensures.value) in
    let n : length f.units ≤ length xs = omega (arith, c.write_available.auto.room, ap length c.as_mut_slice.ensures.value, c.requires.room.available) in
    let at : (u : ℕ) → u < length f.units → get_or xs u 0 ≡ get_or f.availabilities (u * length s.loads + c.args.period) 0 =
    λ u h. c.write_available.ensures u h ∙ ap (λ ls. get_or f.availabilities (u * length ls + c.args.period) 0) c.loads-loads.ensures.value in
    let small : (k d : ℕ) → k < length (take (length f.units) xs) → get_or (take (length f.units) xs) k d ≤ M = λ k d h.
    let l : k < length f.units = omega (arith, h, length-take (length f.units) xs) in
    available_small s c.args.config.now f c.args.period k d xs c.requires.prepared c.requires.period l n (at k l) in
    subst (λ ys. (k d : ℕ) → k < length (take (length c.units.result.now) ys) → get_or (take (length c.units.result.now) ys) k d ≤ M) (sym w)
    (subst (λ (us : List Machine). (k d : ℕ) → k < length (take (length us) xs) → get_or (take (length us) xs) k d ≤ M) (sym c.units.ensures) small)

whole : (c : goal.After-run_period) →
    period_of c.fill_thermal_load.new.curve.cells c.blocks-2.result.now (take (length c.units.result.now) (take c.args.bench.now.available.len (c.write_available.new.room ++ drop (length c.write_available.new.room) c.args.bench.now.available.items))) c.div_ceil-top.result c.step-step.result c.hours.result
    ≡ dispatch c.args.system.now c.args.config.now c.args.period c.args.condition
whole c =
    let s = c.args.system.now in
    let f = c.args.fleet.now in
    let m = c.args.period in
    let es = c.step-step.ensures.value in
    let ep = peak_at s.loads c.loads-loads.result.now m c.index-loads-period.result c.loads-loads.ensures.value c.requires.period in
    let t : c.div_ceil-top.result ≡ load_cells s m = c.div_ceil-top.ensures ∙ (ceiling-div_ceil _ c.step-step.result (omega (arith, es, c.requires.prepared.system.step.0)) ∙ (λ i. (ep i + es i - 1) / es i)) in
    let xs = c.write_available.new.room in
    let items = c.args.bench.now.available.items in
    let w : take c.args.bench.now.available.len (xs ++ drop (length xs) items) ≡ xs =
    written xs items _ (c.write_available.auto.room ∙ ap length c.as_mut_slice.ensures.value) (sym c.as_mut_slice.ensures.len ∙ ap length c.as_mut_slice.ensures.value) in
    let n : length f.units ≤ length xs = omega (arith, c.write_available.auto.room, ap length c.as_mut_slice.ensures.value, c.requires.room.available) in
    let a : take (length c.units.result.now) (take c.args.bench.now.available.len (xs ++ drop (length xs) items)) ≡ available s c.args.config.now m =
    (λ i. take (length (c.units.ensures i)) (w i)) ∙ same_available s c.args.config.now f m (length c.loads-loads.result.now) xs c.requires.prepared c.requires.period (ap length c.loads-loads.ensures.value) n c.write_available.ensures in
    dispatch_is s c.args.config.now m c.args.condition f c.fill_thermal_load.new.curve.cells c.blocks-2.result.now _ c.div_ceil-top.result c.step-step.result c.hours.result c.requires.prepared c.blocks-2.ensures a c.fill_thermal_load.ensures.value t es c.hours.ensures.value

pub returns-clause-energies : goal.returns-clause-energies
returns-clause-energies c =
    ap (λ (bs : List Block). take (length bs) c.run_period.new.bench.energies.items) (sym c.blocks-2.ensures) ∙ (c.run_period.ensures.energies ∙ ap energies (whole c))

pub returns-clause-lolp : goal.returns-clause-lolp
returns-clause-lolp c = c.run_period.ensures.lolp ∙ ap lolp (whole c)

pub returns-clause-unserved : goal.returns-clause-unserved
returns-clause-unserved c = c.run_period.ensures.unserved ∙ ap unserved (whole c)

pub returns-clause-most : goal.returns-clause-most
returns-clause-most c =
    let s = c.args.system.now in
    let m = c.args.period in
    let v = c.requires.prepared.system in
    let es = c.step-step.ensures.value in
    let ep = peak_at s.loads c.loads-loads.result.now m c.index-loads-period.result c.loads-loads.ensures.value c.requires.period in
    let t : c.div_ceil-top.result ≡ load_cells s m = c.div_ceil-top.ensures ∙ (ceiling-div_ceil _ c.step-step.result (omega (arith, es, c.requires.prepared.system.step.0)) ∙ (λ i. (ep i + es i - 1) / es i)) in
    let mw : c.div_ceil-top.result * c.step-step.result ≤ 400019 =
    subst (λ n. n ≤ 400019) (sym (λ i. t i * es i)) (top_mw (get_or s.loads m no_load).peak s.step v.step.0 v.step.1 (v.loads m no_load c.requires.period).peak.1) in
    omega (arith, c.run_period.ensures.most, top_hours c.div_ceil-top.result c.step-step.result c.hours.result mw, ap (λ n. 400019 * n) c.hours.ensures.value)
