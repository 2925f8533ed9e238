use Rattle.std.proofs.Common.{◌≤◌, ◌/◌, arith}
use Rattle.wasp_fixed.specs.declared.numbers.TheConstants.{ONE, M}
use Rattle.convolution.specs.EquivalentLoad.{two_states}
use Rattle.convolution.proofs.Means.{two_states-div-le}
use Rattle.convolution.proofs.Estimates.{estimate-low, estimate-high, mean-estimated}
use Rattle.convolution.proofs.kernel.Weights.mean.Goals as goal

pub overflow_sub-rest : goal.overflow_sub-rest
overflow_sub-rest c =
    estimate-low c.args.self.keep c.args.self.outage c.args.up c.args.out _ _ c.args.self.keep_share_is c.args.self.outage_share_is

pub overflow_cast-rest-2 : goal.overflow_cast-rest-2
overflow_cast-rest-2 c =
    let h = estimate-high c.args.self.keep c.args.self.outage c.args.up c.args.out _ _ c.args.self.whole c.requires.up c.requires.out c.args.self.keep_share_is c.args.self.outage_share_is in
    record { fits = omega (arith, h) }

pub returns-clause-value : goal.returns-clause-value
returns-clause-value c =
    mean-estimated c.args.self.keep c.args.self.outage c.args.up c.args.out _ _ c.args.self.whole c.args.self.keep_share_is c.args.self.outage_share_is

pub returns-clause-small : goal.returns-clause-small
returns-clause-small c =
    let e = mean-estimated c.args.self.keep c.args.self.outage c.args.up c.args.out _ _ c.args.self.whole c.args.self.keep_share_is c.args.self.outage_share_is in
    let h : two_states c.args.self.outage c.args.up c.args.out / M ≤ ONE = two_states-div-le c.args.self.outage _ _ ONE (omega arith) c.requires.up c.requires.out in
    omega (arith, e, h)

pub overflow_add-result : goal.overflow_add-result
overflow_add-result c =
    let e = mean-estimated c.args.self.keep c.args.self.outage c.args.up c.args.out _ _ c.args.self.whole c.args.self.keep_share_is c.args.self.outage_share_is in
    let h : two_states c.args.self.outage c.args.up c.args.out / M ≤ ONE = two_states-div-le c.args.self.outage _ _ ONE (omega arith) c.requires.up c.requires.out in
    record { fits = omega (arith, e, h) }
