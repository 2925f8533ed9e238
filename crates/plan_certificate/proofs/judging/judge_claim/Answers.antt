use Rattle.plan_certificate.proofs.Sound.{plan_claim}
use Rattle.plan_certificate.proofs.judging.judge_claim.Goals as goal

pub returns-in-Plan : goal.returns-in-Plan
returns-in-Plan c = plan_claim c.args.table.now c.args.certificate.now c.args.claim.now _ _ _ _ c.in-Plan.is c.as_slice.ensures c.judge_plan.ensures
