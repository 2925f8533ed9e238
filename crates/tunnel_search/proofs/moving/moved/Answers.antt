use Rattle.std.proofs.Common.{subst, sym, arith}
use Rattle.plant_data.specs.Tunnels.{IsTunnelOf}
use Rattle.plant_data.specs.declared.row.Tunnel.{Tunnel}
use Rattle.tunnel_configs.specs.Listed.{IsInTunnel}
use Rattle.tunnel_search.proofs.MovedTunnels.{moved_contains, moved_fits, moved_is, set_next}
use Rattle.tunnel_search.proofs.moving.moved.Goals as goal

pub loop-k-preserved : goal.loop-k-preserved
loop-k-preserved c = record {
  least = set_next _ c.loop-k.least c.set.new.self _ c.loop-k.k _ (omega (arith, c.loop-k-test.true, c.width-k-end.ensures.value)) c.loop-k.invariant.least c.set.ensures c.moved_at-low.ensures.least;
  width = set_next _ c.loop-k.width c.set-in-loop-k.new.self _ c.loop-k.k _ (omega (arith, c.loop-k-test.true, c.width-k-end.ensures.value)) c.loop-k.invariant.width c.set-in-loop-k.ensures c.moved_at-low.ensures.width;
}

pub returns-clause-value : goal.returns-clause-value
returns-clause-value c =
    moved_is c.args.greatest.now c.args.tunnel.now c.args.chosen.now c.loop-k.least c.loop-k.width c.loop-k.k (omega (arith, c.loop-k-test.false, c.loop-k.auto.k-end, c.width-k-end.ensures.value)) c.loop-k.invariant.least c.loop-k.invariant.width

pub returns-clause-fits : goal.returns-clause-fits
returns-clause-fits c =
    let e = moved_is c.args.greatest.now c.args.tunnel.now c.args.chosen.now c.loop-k.least c.loop-k.width c.loop-k.k (omega (arith, c.loop-k-test.false, c.loop-k.auto.k-end, c.width-k-end.ensures.value)) c.loop-k.invariant.least c.loop-k.invariant.width in
    subst (λ (t : Tunnel). IsTunnelOf c.args.greatest.now t) (sym e) (moved_fits c.args.greatest.now c.args.tunnel.now c.args.chosen.now c.requires.tunnel c.requires.chosen)

pub returns-clause-contains : goal.returns-clause-contains
returns-clause-contains c =
    let e = moved_is c.args.greatest.now c.args.tunnel.now c.args.chosen.now c.loop-k.least c.loop-k.width c.loop-k.k (omega (arith, c.loop-k-test.false, c.loop-k.auto.k-end, c.width-k-end.ensures.value)) c.loop-k.invariant.least c.loop-k.invariant.width in
    subst (λ (t : Tunnel). IsInTunnel t c.args.chosen.now) (sym e) (moved_contains c.args.greatest.now c.args.tunnel.now c.args.chosen.now c.requires.tunnel c.requires.chosen)
