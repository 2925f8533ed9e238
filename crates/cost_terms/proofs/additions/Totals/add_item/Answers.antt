use Rattle.std.proofs.Common.{arith}
use Rattle.cost_terms.proofs.TableSteps.{item_small, sum_small}
use Rattle.cost_terms.proofs.additions.Totals.add_item.Goals as goal

pub overflow_add-result-5 : goal.overflow_add-result-5
overflow_add-result-5 c =
    let a = sum_small c.args.self.now c.args.horizon.now c.requires.horizon c.requires.within c.requires.few in
    let b = item_small c.args.item.now c.args.horizon.now c.args.salvage c.requires.item c.requires.horizon c.requires.regained in
    omega (arith, a, b)
