use Rattle.std.proofs.Common.{◌≡◌, ℕ, ◌+◌, ◌-◌, ◌*◌, ◌/◌, ◌<◌, ◌≤◌, List, length, take, get_or, sym, ap, subst, ◌∙◌, arith, refl}
use Rattle.std.specs.Prelude.{IfSome}
use Rattle.std.proofs.lemmas.List.{length-take}
use Rattle.wasp_fixed.specs.Curves.{cell}
use Rattle.wasp_fixed.specs.declared.numbers.TheConstants.{M}
use Rattle.plant_data.specs.declared.plant.Unit.{Unit as Machine}
use Rattle.loading_order.specs.declared.blocks.Block.{Block}
use Rattle.year_system.specs.System.{greatest_peak, hours, thermal_mw}
use Rattle.year_system.proofs.CellSteps.{cells_fit}
use Rattle.load_curves.proofs.Ceilings.{ceiling-div_ceil}
use Rattle.sim_engine.specs.Curves.{load_cells, no_load}
use Rattle.sim_engine.specs.Dispatch.{available, dispatch}
use Rattle.sim_engine.specs.Laid.{period_with}
use Rattle.sim_engine.specs.Loading.{cells_in, energies, lolp, unserved}
use Rattle.sim_engine.proofs.PieceSteps.{available_small, dispatch_is, peak_at, same_available, top_hours, top_mw, unserved-within}
use Rattle.sim_engine.proofs.either.run_on.Goals as goal

pub lay-requires-clause-cells : goal.lay-requires-clause-cells
lay-requires-clause-cells c =
    let s = c.args.system.now in
    let v = c.requires.prepared.system in
    let e : cells_in c.step-step.result c.blocks-blocks.result.now ≡ cells_in s.step c.args.fleet.now.blocks = λ i. cells_in (c.step-step.ensures.value i) (c.blocks-blocks.ensures i) in
    omega (arith, e, c.requires.prepared.capacity c.args.period c.requires.period, cells_fit (greatest_peak s.loads) (thermal_mw s) s.step v.step.0 v.power.0)

pub run-requires-clause-cells : goal.run-requires-clause-cells
run-requires-clause-cells c =
    let s = c.args.system.now in
    let v = c.requires.prepared.system in
    let e : cells_in c.step-step.result c.blocks-blocks.result.now ≡ cells_in s.step c.args.fleet.now.blocks = λ i. cells_in (c.step-step.ensures.value i) (c.blocks-blocks.ensures i) in
    omega (arith, e, c.requires.prepared.capacity c.args.period c.requires.period, cells_fit (greatest_peak s.loads) (thermal_mw s) s.step v.step.0 v.power.0)

pub run-requires-clause-top : goal.run-requires-clause-top
run-requires-clause-top c =
    let s = c.args.system.now in
    let v = c.requires.prepared.system in
    let es = c.step-step.ensures.value in
    let ep = peak_at s.loads c.loads-loads.result.now c.args.period c.index-loads-period.result c.loads-loads.ensures.value c.requires.period in
    let t : c.div_ceil-top.result ≡ load_cells s c.args.period = c.div_ceil-top.ensures ∙ (ceiling-div_ceil _ c.step-step.result (omega (arith, es, v.step.0)) ∙ (λ i. (ep i + es i - 1) / es i)) in
    omega (arith, t, c.requires.prepared.capacity c.args.period c.requires.period, cells_fit (greatest_peak s.loads) (thermal_mw s) s.step v.step.0 v.power.0)

pub run-requires-clause-available : goal.run-requires-clause-available
run-requires-clause-available c =
    let s = c.args.system.now in
    let f = c.args.fleet.now in
    let xs = c.write_available.new.room in
    let n : length f.units ≤ length xs = omega (arith, c.write_available.auto.room, c.requires.available) in
    let at : (u : ℕ) → u < length f.units → get_or xs u 0 ≡ get_or f.availabilities (u * length s.loads + c.args.period) 0 =
    λ u h. c.write_available.ensures u h ∙ ap (λ ls. get_or f.availabilities (u * length ls + c.args.period) 0) c.loads-loads.ensures.value in
    let small : (k d : ℕ) → k < length (take (length f.units) xs) → get_or (take (length f.units) xs) k d ≤ M = λ k d h.
    let l : k < length f.units = omega (arith, h, length-take (length f.units) xs) in
    available_small s c.args.config.now f c.args.period k d xs c.requires.prepared c.requires.period l n (at k l) in
    subst (λ (us : List Machine). (k d : ℕ) → k < length (take (length us) xs) → get_or (take (length us) xs) k d ≤ M) (sym c.units.ensures) small

pub returns-clause-energies : goal.returns-clause-energies
returns-clause-energies c =
    let s = c.args.system.now in
    let f = c.args.fleet.now in
    let m = c.args.period in
    let es = c.step-step.ensures.value in
    let ep = peak_at s.loads c.loads-loads.result.now m c.index-loads-period.result c.loads-loads.ensures.value c.requires.period in
    let t : c.div_ceil-top.result ≡ load_cells s m = c.div_ceil-top.ensures ∙ (ceiling-div_ceil _ c.step-step.result (omega (arith, es, c.requires.prepared.system.step.0)) ∙ (λ i. (ep i + es i - 1) / es i)) in
    let xs = c.write_available.new.room in
    let n : length f.units ≤ length xs = omega (arith, c.write_available.auto.room, c.requires.available) in
    let a : take (length c.units.result.now) xs ≡ available s c.args.config.now m =
    (λ i. take (length (c.units.ensures i)) xs) ∙ same_available s c.args.config.now f m (length c.loads-loads.result.now) xs c.requires.prepared c.requires.period (ap length c.loads-loads.ensures.value) n c.write_available.ensures in
    let whole : period_with (cell c.take_load.new.self.load) c.blocks-blocks.result.now (take (length c.units.result.now) xs) c.div_ceil-top.result c.step-step.result c.hours.result ≡ dispatch s c.args.config.now m c.args.condition =
    dispatch_is s c.args.config.now m c.args.condition f c.take_load.new.self.load c.blocks-blocks.result.now _ c.div_ceil-top.result c.step-step.result c.hours.result c.requires.prepared c.blocks-blocks.ensures a (c.if-not-take_load.ensures.value refl) t es c.hours.ensures.value in
    let kept : IfSome c.run.result (λ r. take (length c.blocks-blocks.result.now) c.run.new.room ≡ energies (dispatch s c.args.config.now m c.args.condition)) = subst (λ p. IfSome c.run.result (λ r. take (length c.blocks-blocks.result.now) c.run.new.room ≡ energies p)) whole c.run.ensures.energies in
    subst (λ (bs : List Block). IfSome c.run.result (λ r. take (length bs) c.run.new.room ≡ energies (dispatch s c.args.config.now m c.args.condition))) c.blocks-blocks.ensures kept

pub returns-clause-lolp : goal.returns-clause-lolp
returns-clause-lolp c =
    let s = c.args.system.now in
    let f = c.args.fleet.now in
    let m = c.args.period in
    let es = c.step-step.ensures.value in
    let ep = peak_at s.loads c.loads-loads.result.now m c.index-loads-period.result c.loads-loads.ensures.value c.requires.period in
    let t : c.div_ceil-top.result ≡ load_cells s m = c.div_ceil-top.ensures ∙ (ceiling-div_ceil _ c.step-step.result (omega (arith, es, c.requires.prepared.system.step.0)) ∙ (λ i. (ep i + es i - 1) / es i)) in
    let xs = c.write_available.new.room in
    let n : length f.units ≤ length xs = omega (arith, c.write_available.auto.room, c.requires.available) in
    let a : take (length c.units.result.now) xs ≡ available s c.args.config.now m =
    (λ i. take (length (c.units.ensures i)) xs) ∙ same_available s c.args.config.now f m (length c.loads-loads.result.now) xs c.requires.prepared c.requires.period (ap length c.loads-loads.ensures.value) n c.write_available.ensures in
    let whole : period_with (cell c.take_load.new.self.load) c.blocks-blocks.result.now (take (length c.units.result.now) xs) c.div_ceil-top.result c.step-step.result c.hours.result ≡ dispatch s c.args.config.now m c.args.condition =
    dispatch_is s c.args.config.now m c.args.condition f c.take_load.new.self.load c.blocks-blocks.result.now _ c.div_ceil-top.result c.step-step.result c.hours.result c.requires.prepared c.blocks-blocks.ensures a (c.if-not-take_load.ensures.value refl) t es c.hours.ensures.value in
    subst (λ p. IfSome c.run.result (λ r. r.lolp ≡ lolp p)) whole c.run.ensures.lolp

pub returns-clause-unserved : goal.returns-clause-unserved
returns-clause-unserved c =
    let s = c.args.system.now in
    let f = c.args.fleet.now in
    let m = c.args.period in
    let es = c.step-step.ensures.value in
    let ep = peak_at s.loads c.loads-loads.result.now m c.index-loads-period.result c.loads-loads.ensures.value c.requires.period in
    let t : c.div_ceil-top.result ≡ load_cells s m = c.div_ceil-top.ensures ∙ (ceiling-div_ceil _ c.step-step.result (omega (arith, es, c.requires.prepared.system.step.0)) ∙ (λ i. (ep i + es i - 1) / es i)) in
    let xs = c.write_available.new.room in
    let n : length f.units ≤ length xs = omega (arith, c.write_available.auto.room, c.requires.available) in
    let a : take (length c.units.result.now) xs ≡ available s c.args.config.now m =
    (λ i. take (length (c.units.ensures i)) xs) ∙ same_available s c.args.config.now f m (length c.loads-loads.result.now) xs c.requires.prepared c.requires.period (ap length c.loads-loads.ensures.value) n c.write_available.ensures in
    let whole : period_with (cell c.take_load.new.self.load) c.blocks-blocks.result.now (take (length c.units.result.now) xs) c.div_ceil-top.result c.step-step.result c.hours.result ≡ dispatch s c.args.config.now m c.args.condition =
    dispatch_is s c.args.config.now m c.args.condition f c.take_load.new.self.load c.blocks-blocks.result.now _ c.div_ceil-top.result c.step-step.result c.hours.result c.requires.prepared c.blocks-blocks.ensures a (c.if-not-take_load.ensures.value refl) t es c.hours.ensures.value in
    subst (λ p. IfSome c.run.result (λ r. r.unserved ≡ unserved p)) whole c.run.ensures.unserved

pub returns-clause-most : goal.returns-clause-most
returns-clause-most c =
    let s = c.args.system.now in
    let f = c.args.fleet.now in
    let m = c.args.period in
    let es = c.step-step.ensures.value in
    let ep = peak_at s.loads c.loads-loads.result.now m c.index-loads-period.result c.loads-loads.ensures.value c.requires.period in
    let t : c.div_ceil-top.result ≡ load_cells s m = c.div_ceil-top.ensures ∙ (ceiling-div_ceil _ c.step-step.result (omega (arith, es, c.requires.prepared.system.step.0)) ∙ (λ i. (ep i + es i - 1) / es i)) in
    let v = c.requires.prepared.system in
    let mw : c.div_ceil-top.result * c.step-step.result ≤ 400019 =
    subst (λ n. n ≤ 400019) (sym (λ i. t i * es i)) (top_mw (get_or s.loads m no_load).peak s.step v.step.0 v.step.1 (v.loads m no_load c.requires.period).peak.1) in
    let most : c.div_ceil-top.result * (c.step-step.result * c.hours.result) ≤ 400019 * hours s = omega (arith, top_hours c.div_ceil-top.result c.step-step.result c.hours.result mw, ap (λ n. 400019 * n) c.hours.ensures.value) in
    unserved-within c.run.result _ _ most c.run.ensures.most
