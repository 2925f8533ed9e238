use Rattle.std.proofs.Common.{◌*◌, ◌^◌, ◌∙◌, [], ◌∷◌, ap, length, arith}
use Rattle.std.proofs.lemmas.List.{length-append}
use Rattle.std.proofs.lemmas.List.{get_or_default}
use Rattle.best_plans.proofs.Reaching.{added_each, added_small}
use Rattle.best_plans.proofs.reach.additions.Goals as goal

pub loop-from-preserved : goal.loop-from-preserved
loop-from-preserved c =
    let n = c.loop-from.from-index in
    let at = c.from-item.is ∙ get_or_default c.args.reached.now n c.from-item.result (record { config = []; ways = [] }) c.loop-from-test.true in
    record {
      long = omega (arith, ap length c.in_ok-push.ensures.items, length-append c.loop-from.added.items (c.addition.result ∷ []), c.loop-from.invariant.long);
      each = added_each c.args.economy.now c.args.year c.args.reached.now c.args.entry.now c.loop-from.added.items c.push.new.self.items n c.from-item.result c.addition.result c.loop-from.invariant.long c.loop-from.invariant.each c.in_ok-push.ensures.items at c.addition.ensures.value;
      small = added_small c.loop-from.added.items c.push.new.self.items n (2 * 10 ^ 16) c.addition.result c.loop-from.invariant.long c.loop-from.invariant.small c.in_ok-push.ensures.items c.addition.ensures.small;
    }
