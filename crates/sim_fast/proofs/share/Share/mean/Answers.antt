use Rattle.std.proofs.Common.{◌≤◌, arith}
use Rattle.wasp_fixed.specs.declared.numbers.TheConstants.{M}
use Rattle.sim_fast.proofs.Shares.{mean-parted}
use Rattle.sim_fast.proofs.share.Share.mean.Goals as goal

pub returns-clause-value : goal.returns-clause-value
returns-clause-value c =
    let h : c.args.self.rate ≤ M = omega (arith, c.args.self.below) in
    omega (arith, c.of.ensures.value, mean-parted c.args.self.rate c.args.ahead c.args.stay h c.requires.order)
