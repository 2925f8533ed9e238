use Rattle.std.proofs.Common.{◌≡◌, ◌∙◌, ◌+◌, ap, arith, length, map, subst, sym}
use Rattle.plant_data.specs.Configs.{IsAtMost}
use Rattle.plan_program.specs.Starts.{IsSettled, reached_of, start_at}
use Rattle.plan_program.specs.Steps.{IsLeastFrom, reached_at}
use Rattle.plan_program.specs.declared.come.Reached.{Reached}
use Rattle.plan_program.specs.declared.come.Start.{Start}
use Rattle.plan_program.proofs.Forward.{with_way}
use Rattle.plan_program.proofs.StartSteps.{least_skips, reached_start_at, start_is, walk_ends}
use Rattle.plan_program.proofs.come.least_from.Goals as goal

pub loop-place-init : goal.loop-place-init
loop-place-init c = record {
  within = c.next-place.ensures.within;
  least = λ i b g. c.next-place.ensures.skipped i (omega arith) b (subst (λ (r : Reached). IsAtMost r.config c.args.to.now.config) (reached_start_at c.args.starts.now i) g);
  small = tt;
}

pub returns-then-is_settled-clause-least : goal.returns-then-is_settled-clause-least
returns-then-is_settled-clause-least c =
    let n = c.loop-place.place in
    let at : c.index-starts-place.result ≡ start_at c.args.starts.now n = c.index-starts-place.is ∙ start_is c.args.starts.now n c.index-starts-place.result c.loop-place-test.true in
    walk_ends c.args.economy.now c.args.steps.now.year c.args.starts.now c.args.to.now n c.loop-place.least c.requires.table.last c.requires.starts c.requires.sorted c.requires.to c.loop-place-test.true c.loop-place.invariant.least
    (subst (λ (s : Start). IsSettled c.loop-place.least s.potential c.args.to.now.net) at (c.is_settled.ensures c.if-is_settled.true))

pub loop-place-preserved : goal.loop-place-preserved
loop-place-preserved c =
    let n = c.loop-place.place in
    let starts = c.args.starts.now in
    let economy = c.args.economy.now in
    let year = c.args.steps.now.year in
    let to = c.args.to.now.config in
    let at : reached_of c.index-starts-place.result ≡ reached_at (map reached_of starts) n = ap reached_of (c.index-starts-place.is ∙ start_is starts n c.index-starts-place.result c.loop-place-test.true) ∙ sym (reached_start_at starts n) in
    let here : IsLeastFrom economy year (map reached_of starts) (n + 1) to c.with_way-least.result = with_way economy year (map reached_of starts) n (reached_of c.index-starts-place.result) to c.loop-place.least c.with_way-least.result c.loop-place.invariant.least at c.with_way-least.ensures.value in
    record {
      within = c.next-place-in-loop-place.ensures.within;
      least = least_skips economy year starts to (n + 1) c.next-place-in-loop-place.result c.with_way-least.result c.next-place-in-loop-place.ensures.later c.next-place-in-loop-place.ensures.skipped here;
      small = c.with_way-least.ensures.small;
    }

pub returns-clause-least : goal.returns-clause-least
returns-clause-least c =
    let end : c.loop-place.place ≡ length c.args.starts.now = omega (arith, c.loop-place-test.false, c.loop-place.invariant.within) in
    subst (λ n. IsLeastFrom c.args.economy.now c.args.steps.now.year (map reached_of c.args.starts.now) n c.args.to.now.config c.loop-place.least) end c.loop-place.invariant.least
