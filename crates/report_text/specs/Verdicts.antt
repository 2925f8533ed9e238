-- What a check says. This program's own.
use Rattle.std.specs.Prelude.{ℕ, List, [], ◌∷◌, codes, decimal}
use Rattle.plan_certificate.specs.declared.judging.Verdict.TheVariants.{Yes, No}
use Rattle.report_text.specs.declared.verdicts.Judged.{Judged}
use Rattle.report_text.specs.declared.verdicts.Judged.TheVariants.{Refused, Form, Said}
use Rattle.report_text.specs.Lines.{line}
use Rattle.report_text.specs.Refusals.{fault_of, fault_words}

-- the deck is refused; the certificate's line i has a fault, 0 where the deck has no such case; or its conditions hold, or
-- the first that fails
abbrev pub judged_words : Judged → List (List ℕ)
judged_words (Refused r) = codes "REFUSED" ∷ fault_words (fault_of r)
judged_words (Form i) = codes "NO" ∷ codes "0" ∷ codes "AT" ∷ decimal i ∷ []
judged_words (Said Yes) = codes "YES" ∷ []
judged_words (Said (No k)) = codes "NO" ∷ decimal k ∷ []

-- the n-th CHECK of a script, of a case
abbrev pub verdict_line : ℕ → ℕ → Judged → List ℕ
verdict_line n case judged = line (codes "CHECK") (decimal n ∷ codes "CASE" ∷ decimal case ∷ judged_words judged)
