use Rattle.std.proofs.Common.{◌*◌, arith}
use Rattle.load_curves.proofs.FillSteps.{below_end, end_of, ends_rise}
use Rattle.load_curves.proofs.fill.push_between.Goals as goal

pub share_between-requires-clause-to : goal.share_between-requires-clause-to
share_between-requires-clause-to c =
    below_end (c.args.high.load * c.args.peak) c.args.step c.div_ceil-end.result c.loop-x.x c.requires.step c.div_ceil-end.ensures c.loop-x-test.true

pub push-requires-clause-room : goal.push-requires-clause-room
push-requires-clause-room c =
    let e = end_of (c.args.high.load * c.args.peak) c.args.step c.div_ceil-end.result c.requires.step c.div_ceil-end.ensures in
    omega (arith, e)

pub returns-clause-len : goal.returns-clause-len
returns-clause-len c =
    let e = end_of (c.args.high.load * c.args.peak) c.args.step c.div_ceil-end.result c.requires.step c.div_ceil-end.ensures in
    let r = ends_rise c.args.low.load c.args.high.load c.args.peak c.args.step c.requires.step c.requires.rises in
    omega (arith, e, r)
