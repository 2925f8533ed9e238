use Rattle.std.proofs.Common.{◌≡◌, ◌+◌, ◌*◌, ◌≤◌, arith, ap, ◌∙◌}
use Rattle.year_system.specs.System.{full_mw, greatest_peak}
use Rattle.year_system.proofs.CellSteps.{cells_fit}
use Rattle.year_system.proofs.system.YearSystem.cells.Goals as goal

pub returns-clause-small : goal.returns-clause-small
returns-clause-small c =
    let v = c.step-step.ensures.valid in
    let p : c.greatest_peak-peak.result ≡ greatest_peak c.args.self.now.loads = c.greatest_peak-peak.ensures ∙ ap greatest_peak c.loads.ensures.value in
    let e : c.full_mw.result ≡ full_mw c.args.self.now.existing = c.full_mw.ensures ∙ ap full_mw c.existing.ensures.value in
    let t : c.full_mw-2.result ≡ full_mw c.args.self.now.thermal = c.full_mw-2.ensures ∙ ap full_mw c.thermal.ensures.value in
    let s = c.step-step.ensures.value in
    let most : c.full_mw.result + c.full_mw-2.result + c.greatest_peak-peak.result ≤ 65535 * c.step-step.result = omega (arith, v.power.0, p, e, t, s) in
    cells_fit c.greatest_peak-peak.result (c.full_mw.result + c.full_mw-2.result) c.step-step.result (omega (arith, v.step.0, s)) most
