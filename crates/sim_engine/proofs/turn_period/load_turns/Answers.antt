use Rattle.std.proofs.Common.{length, map, ◌∙◌}
use Rattle.std.specs.List.{range_with_len}
use Rattle.wasp_fixed.specs.Curves.{cell}
use Rattle.sim_engine.specs.Laid.{energy_at}
use Rattle.sim_engine.proofs.TurnEnergies.{covered-most, energies-are}
use Rattle.sim_engine.proofs.turn_period.load_turns.Goals as goal

pub write_energies-requires-clause-covered : goal.write_energies-requires-clause-covered
write_energies-requires-clause-covered c = λ k h.
    rw (c.lower.ensures.value, c.upper.ensures.value) (covered-most (cell c.args.shelf.now.load) c.args.step c.args.available.now c.args.blocks.now c.args.turns.now c.args.marks.now _ _ _ k c.len-small.ensures.small c.requires.laid c.run_list.ensures.stands h)

pub returns-clause-energies : goal.returns-clause-energies
returns-clause-energies c = λ top.
    let bs = c.args.blocks.now in
    c.write_energies.ensures.value
    ∙ ((λ i. map (λ k. energy_at c.args.step c.args.hours bs c.args.available.now c.args.marks.now (c.lower.ensures.value i) (c.upper.ensures.value i) k) (range_with_len 0 (length bs)))
    ∙ energies-are (cell c.args.shelf.now.load) bs c.args.available.now top c.args.step c.args.hours c.args.turns.now c.args.marks.now _ _ _ c.requires.laid c.run_list.ensures.stands)
