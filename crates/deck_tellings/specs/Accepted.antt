-- A report that the checker accepts: its text is read back as a certificate of its case, and on the same deck this
-- certificate is judged YES. This program's own.
use Rattle.std.specs.Prelude.{ℕ, List}
use Rattle.deck_check.specs.Readings.{Says}
use Rattle.deck_lines.specs.declared.line.Line.{Line}
use Rattle.plan_certificate.specs.declared.judging.Verdict.TheVariants.{Yes}
use Rattle.report_text.specs.ReadBack.{ReadsAs, certificate_in}
use Rattle.report_text.specs.declared.verdicts.Judged.TheVariants.{Said}
use Rattle.deck_tellings.specs.Checks.{IsJudged}

pub record IsAccepted (d : Says) (c : ℕ) (text : List ℕ) : Type 0 where
  pub read : List Line
  pub reads : ReadsAs text read
  pub yes : IsJudged d (record { case = c; certificate = certificate_in read }) (Said Yes)
