-- The report of a case is accepted by the checker.
use Rattle.std.proofs.Common.{◌≡◌, ◌∙◌, ap, sym, subst, ℕ, ◌+◌, ◌-◌, ◌≤◌, List, length, arith}
use Rattle.cost_terms.specs.CostData.{greatest as candidate_counts}
use Rattle.cost_terms.specs.Table.{IsTable, Table}
use Rattle.cost_terms.specs.declared.prices.CostData.{CostData}
use Rattle.deck_check.specs.DeckFault.{HasNoFault}
use Rattle.deck_check.specs.Readings.{Says, cases, greatest, years}
use Rattle.plan_certificate.specs.Certificate.{IsVerdict}
use Rattle.plan_certificate.specs.Reading.{IsSaidBy, ReadingsAreOne}
use Rattle.plan_certificate.specs.Truth.{SolutionsAreCertified}
use Rattle.plan_certificate.specs.declared.judging.Verdict.TheVariants.{Yes}
use Rattle.report_text.specs.ReadBack.{IsPrintable, ReportsReadBack, certificate_in}
use Rattle.report_text.specs.Report.{IsCaseReport, case_text}
use Rattle.report_text.specs.declared.data.CaseReport.{CaseReport}
use Rattle.row_shelf.proofs.EachSteps.{at_place}
use Rattle.deck_tellings.specs.Accepted.{IsAccepted}
use Rattle.case_study.specs.Case.{IsReportOf, IsTableOf}
use Rattle.deck_tellings.specs.Checks.{IsInForm, IsVerdictOf, Open}
use Rattle.case_study.specs.Listings.{AreWithin, IsFairListing, Tunnels, deck_tunnels, tunnel_at}
use Rattle.case_study.specs.Studies.{AreYearLists}

-- the tables of a case have the candidates of the deck
pub same_width : (d : Says) (c : ℕ) (tunnels : Tunnels) (table other : Table) → IsTableOf d c tunnels table → candidate_counts table.economy ≡ greatest d → IsTableOf d c tunnels other → candidate_counts other.economy ≡ greatest d
same_width d c tunnels table other is width is_other = ap (λ (e : CostData). candidate_counts e) (is_other.economy ∙ sym is.economy) ∙ width

-- a case whose configurations are all listed is within the limits
lists_within : (d : Says) (c : ℕ) (tunnels : Tunnels) (lists : List (List (List ℕ))) → AreYearLists d c tunnels lists → AreWithin d c tunnels
lists_within d c tunnels lists are = λ t low high.
    let at = at_place lists (t - 1) (omega (arith, are.many, low, high)) in
    let is : t - 1 + 1 ≡ t = omega (arith, low) in
    record { configs = at.0; fair = subst (λ (n : ℕ). IsFairListing d c n (tunnel_at tunnels n) at.0) is (are.each (t - 1) at.0 at.1).fair }

-- what a certificate of a table says is said over the years and the candidates of the deck
pub report_accepted : ReportsReadBack → SolutionsAreCertified → ReadingsAreOne → (d : Says) (c : ℕ) (tunnels : Tunnels) (report : CaseReport) (lists : List (List (List ℕ)))
    → HasNoFault d → c ≤ cases d → tunnels ≡ deck_tunnels d c → AreYearLists d c tunnels lists → IsReportOf d c tunnels report → candidate_counts report.table.economy ≡ greatest d
    → IsTable report.table → IsCaseReport report → IsPrintable c report → IsAccepted d c (case_text c report)
report_accepted back certified one d c tunnels report lists faultless high own are is width table form printable =
    let r = back c report table form printable in
    let says = r.2 in
    let lines = certificate_in r.0 in
    let said : IsSaidBy (years d) (length (greatest d)) lines says.said =
    subst (λ (n : ℕ). IsSaidBy n (length (greatest d)) lines says.said) is.table.many
    (subst (λ (w : List ℕ). IsSaidBy (length report.table.layers) (length w) lines says.said) width says.is_said) in
    let o : Open = record { case = c; certificate = lines } in
    let in_form : IsInForm d o = record { case = high; form = λ i fault. one.apart (years d) (length (greatest d)) lines i says.said fault said } in
    let verdict : IsVerdict report.table says.said Yes = certified report.table report.solved says.said table is.solution says.of_solution in
    let own_table : IsTableOf d c (deck_tunnels d c) report.table = subst (λ (t : Tunnels). IsTableOf d c t report.table) own is.table in
    let within : AreWithin d c (deck_tunnels d c) = subst (AreWithin d c) own (lists_within d c tunnels lists are) in
    let judged : IsVerdictOf d o Yes = record { table = report.table; is_table = own_table; certificate = says.said; is_said = said; is_verdict = verdict } in
    record { read = r.0; reads = r.1; yes = (faultless, in_form, within, judged) }
