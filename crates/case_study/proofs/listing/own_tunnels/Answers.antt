use Rattle.std.proofs.Common.{◌≡◌, arith}
use Rattle.std.proofs.lemmas.List.Elements.{All-push}
use Rattle.deck_check.specs.Readings.{greatest, years}
use Rattle.deck_lines.specs.Deck.{body_of}
use Rattle.plant_data.specs.Tunnels.{IsTunnelOf}
use Rattle.case_study.proofs.ListSteps.{are_tunnels, own_more}
use Rattle.case_study.proofs.listing.own_tunnels.Goals as goal

pub loop-k-preserved : goal.loop-k-preserved
loop-k-preserved c =
    let d = body_of c.args.typed.now in
    rw c.in_ok-push.ensures.items (record {
      own = own_more d c.args.case c.loop-k.k c.loop-k.tunnels.items c.tunnel.result c.loop-k.invariant.own c.tunnel.ensures.value;
      fit = All-push (IsTunnelOf (greatest d)) c.loop-k.tunnels.items c.tunnel.result c.loop-k.invariant.fit c.tunnel.ensures.fits;
    })

pub returns-clause-tunnels : goal.returns-clause-tunnels
returns-clause-tunnels c =
    let d = body_of c.args.typed.now in
    let end : c.loop-k.k ≡ years d = omega arith in
    are_tunnels d c.args.case c.loop-k.k c.loop-k.tunnels.items c.loop-k.invariant.own end c.loop-k.invariant.fit
