use Rattle.std.proofs.Common.{◌≡◌, ◌∙◌, ℕ, ◌+◌, ◌<◌, ap, ◌++◌, length, get_or, arith}
use Rattle.plant_data.specs.declared.row.Tunnel.{Tunnel}
use Rattle.report_text.specs.Rounds.{tunnel_line}
use Rattle.report_text.proofs.TextSteps.{numbered_step}
use Rattle.report_text.proofs.rounds.push_tunnels.Goals as goal

pub loop-k-preserved : goal.loop-k-preserved
loop-k-preserved c =
    let k = c.loop-k.k in
    let y = c.index-tunnels-k.result in
    let text = λ (p : ℕ × Tunnel). tunnel_line c.args.case p.0 p.1 in
    let within : k < length c.args.tunnels.now = omega (arith, c.loop-k-test.true) in
    let more : c.push_tunnel.new.lines.items ≡ c.loop-k.lines.items ++ text (k + 1, get_or c.args.tunnels.now k y) =
    c.in_ok-push_tunnel.ensures ∙ ap (λ (z : Tunnel). c.loop-k.lines.items ++ text (k + 1, z)) c.index-tunnels-k.is in
    numbered_step text c.args.tunnels.now k y _ _ _ within c.loop-k.invariant more
