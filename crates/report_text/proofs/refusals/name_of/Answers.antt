use Rattle.std.proofs.Common.{◌≤◌, arith}
use Rattle.report_text.proofs.Naming.{name_of_none}
use Rattle.report_text.proofs.refusals.name_of.Goals as goal

pub returns-in_default : goal.returns-in_default
returns-in_default c =
    let past : 1 ≤ c.args.number → 30 ≤ c.args.number = λ one. omega arith in
    name_of_none c.args.number past
