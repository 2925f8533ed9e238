use Rattle.std.proofs.Common.{◌∙◌, length, All, ◌≤◌}
use Rattle.hourly_load.proofs.Counting.{sum-above}
use Rattle.hourly_load.proofs.tally.count_above.Goals as goal

pub returns-clause-value : goal.returns-clause-value
returns-clause-value c =
    let within : All (λ load. load ≤ length c.count_loads.new.counts) c.args.loads.now = rw c.count_loads.ensures.len c.requires.within in
    λ x. c.sum_from_end.ensures.value x ∙ sum-above c.args.loads.now c.count_loads.new.counts x within c.count_loads.ensures.value
