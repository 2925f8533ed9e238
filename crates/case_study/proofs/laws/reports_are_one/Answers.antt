use Rattle.case_study.proofs.OnenessReports.{one_report}
use Rattle.case_study.proofs.laws.reports_are_one.Goals as goal

pub returns : goal.returns
returns c = one_report c.listings_are_one.ensures
