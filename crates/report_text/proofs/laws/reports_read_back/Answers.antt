use Rattle.report_text.proofs.ReadBack.{reads_back}
use Rattle.report_text.proofs.laws.reports_read_back.Goals as goal

pub returns : goal.returns
returns c = reads_back
