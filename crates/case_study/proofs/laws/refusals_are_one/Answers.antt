use Rattle.case_study.proofs.OnenessReports.{one_refusal}
use Rattle.case_study.proofs.laws.refusals_are_one.Goals as goal

pub returns : goal.returns
returns c = one_refusal c.listings_are_one.ensures
