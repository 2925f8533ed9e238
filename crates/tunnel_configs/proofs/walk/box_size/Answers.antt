use Rattle.std.proofs.Common.{◌+◌, ◌-◌, ◌*◌, arith}
use Rattle.tunnel_configs.proofs.Sizes.{more_fits, one_more}
use Rattle.tunnel_configs.proofs.walk.box_size.Goals as goal

pub overflow_mul-size : goal.overflow_mul-size
overflow_mul-size c =
    let one = one_more c.args.tunnel.now.width c.width-width.result c.loop-k.k c.get.result c.loop-k.size (omega (arith, c.width-width.ensures.value, c.requires.width)) (omega (arith, c.loop-k-test.true)) c.get.ensures.value c.loop-k.invariant.value in
    let most = more_fits c.args.system.now c.args.tunnel.now (c.width-width.result - (c.loop-k.k + 1)) (c.loop-k.size * (c.get.result + 1)) c.requires one in
    record { fits = omega (arith, most, c.width-width.ensures.codes) }

pub loop-k-preserved : goal.loop-k-preserved
loop-k-preserved c = record {
  range = omega (arith, c.loop-k-test.true);
  value = one_more c.args.tunnel.now.width c.width-width.result c.loop-k.k c.get.result c.loop-k.size (omega (arith, c.width-width.ensures.value, c.requires.width)) (omega (arith, c.loop-k-test.true)) c.get.ensures.value c.loop-k.invariant.value;
}
