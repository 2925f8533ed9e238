use Rattle.std.proofs.Common.{◌*◌, ◌-◌, arith}
use Rattle.load_curves.proofs.Neighbours.{fall-le, gap-positive}
use Rattle.load_curves.proofs.points.share_between.Goals as goal

pub nonzero_div-result : goal.nonzero_div-result
nonzero_div-result c =
    gap-positive c.args.low.load c.args.high.load c.args.peak c.args.load c.requires.from c.requires.to

pub overflow_sub-result-3 : goal.overflow_sub-result-3
overflow_sub-result-3 c =
    let fall = fall-le (c.args.low.share * 100000 - c.args.high.share * 100000) c.args.low.load c.args.high.load c.args.peak c.args.load c.requires.from c.requires.to in
    omega (arith, fall)
