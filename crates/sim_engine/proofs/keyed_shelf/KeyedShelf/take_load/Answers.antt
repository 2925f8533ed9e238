use Rattle.std.proofs.Common.{◌≡◌, ◌<◌, sym, ap, ◌∙◌, arith, refl}
use Rattle.wasp_fixed.specs.Curves.{cell}
use Rattle.sim_fast.specs.Turns.{ShelfView}
use Rattle.sim_engine.specs.Curves.{thermal_load}
use Rattle.sim_engine.specs.LoadData.{LoadData, load_data, load_from}
use Rattle.sim_engine.proofs.WaterSteps.{thermal_from}
use Rattle.sim_engine.proofs.keyed_shelf.KeyedShelf.take_load.Goals as goal

pub returns-then-is_of-clause-value : goal.returns-then-is_of-clause-value
returns-then-is_of-clause-value c = λ same.
    let s = c.args.system.now in
    let e : c.self.inside.key ≡ load_data s c.args.config.now c.args.period c.args.condition = c.if-is_of.ensures refl in
    let pos : 0 < c.self.inside.key.step = omega (arith, ap (λ (d : LoadData). d.step) e, c.step-step.ensures.valid.step.0) in
    sym (ap (λ (v : ShelfView). cell v.load) c.self.view_is)
    ∙ (c.self.invariant pos ∙ (ap load_from e ∙ thermal_from s c.args.config.now c.args.period c.args.condition))

made : (c : goal.After-set) → cell c.match_load.new.shelf.load ≡ thermal_load c.args.system.now c.args.config.now c.args.period c.args.condition
made c = (λ i x. c.if-not-match_load.ensures.value refl x i) ∙ (ap cell c.as_slice.ensures.value ∙ c.fill_thermal_load.ensures.value)

pub invariant_of-self-2 : goal.invariant_of-self-2
invariant_of-self-2 c = λ pos.
    made c ∙ (sym (thermal_from c.args.system.now c.args.config.now c.args.period c.args.condition) ∙ ap load_from (sym c.set.ensures))

pub returns-clause-value : goal.returns-clause-value
returns-clause-value c = λ same. made c
