use Rattle.std.proofs.Common.{rules}
use Rattle.case_study.proofs.PrintSteps.{generations_printable}
use Rattle.case_study.proofs.generation.push_generation.Goals as goal

pub returns-in_ok-push-in-Some-clause-printable : goal.returns-in_ok-push-in-Some-clause-printable
returns-in_ok-push-in-Some-clause-printable c =
    generations_printable c.args.generations.now.items c.push.new.self.items _ c.in_ok-push-in-Some.ensures.items (search rules) c.as_bytes-bytes.ensures.name (search rules)
