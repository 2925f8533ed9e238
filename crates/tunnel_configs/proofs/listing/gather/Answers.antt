use Rattle.std.proofs.Common.{◌≡◌, length, arith, sym, ap, subst, refl, List, ℕ}
use Rattle.tunnel_configs.proofs.Boxes.{from_box, least_in_box, left_least}
use Rattle.tunnel_configs.proofs.Gathered.{Before, Found, UpTo, considered_few, found_all, found_few, found_more, found_next, found_none}
use Rattle.tunnel_configs.proofs.Sizes.{tunnel_small}
use Rattle.tunnel_configs.proofs.listing.gather.Goals as goal

pub loop-count-init : goal.loop-count-init
loop-count-init c =
    let t = c.args.tunnel.now in
    let e : length t.width ≡ length t.least = omega (arith, c.requires.tunnel.width, c.requires.tunnel.least) in
    record {
      tunnel = from_box t t.least (least_in_box t.least t.width e);
      few = omega (arith, left_least t.least t.width e, c.requires.small);
      kept = omega (arith, ap length c.requires.empty);
      found = subst (λ (zs : List (List ℕ)). Found c.args.system.now t c.args.margin.now (Before t.least) 0 zs) (sym c.requires.empty) (found_none c.args.system.now t c.args.margin.now e);
    }

pub advance-requires-clause-small : goal.advance-requires-clause-small
advance-requires-clause-small c = tunnel_small c.args.system.now c.args.tunnel.now c.loads-loads.ensures.valid c.requires.tunnel

pub returns-then-not-advance : goal.returns-then-not-advance
returns-then-not-advance c =
    let kept = c.loop-count.invariant in
    found_all c.args.system.now c.args.tunnel.now c.args.margin.now c.loop-count.config c.in_ok-count.count c.consider.new.configs.items
    (found_more c.args.system.now c.args.tunnel.now c.args.margin.now c.loop-count.config c.loop-count.count c.in_ok-count.count c.loop-count.configs.items c.consider.new.configs.items kept.found kept.tunnel c.in_ok-count.ensures)
    (rw c.if-not-advance.true at c.advance.ensures.last refl)

pub loop-count-preserved : goal.loop-count-preserved
loop-count-preserved c =
    let kept = c.loop-count.invariant in
    let n = c.in_ok-count.count in
    let s = c.args.system.now in
    let t = c.args.tunnel.now in
    let m = c.args.margin.now in
    let more = found_more s t m c.loop-count.config c.loop-count.count n c.loop-count.configs.items c.consider.new.configs.items kept.found kept.tunnel c.in_ok-count.ensures in
    let next = rw c.if-not-advance.false at c.advance.ensures.next refl in
    let fewer = rw c.if-not-advance.false at c.advance.ensures.left refl in
    record {
      tunnel = next.tunnel;
      few = omega (arith, kept.few, fewer, considered_few s m c.loop-count.config c.loop-count.count n c.loop-count.configs.items c.consider.new.configs.items c.in_ok-count.ensures);
      kept = found_few s t m (UpTo c.loop-count.config) n c.consider.new.configs.items more;
      found = found_next s t m c.loop-count.config c.advance.new.config n c.consider.new.configs.items more next;
    }
