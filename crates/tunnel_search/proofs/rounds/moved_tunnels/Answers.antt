use Rattle.tunnel_search.proofs.Years.{fit_more, moved_more}
use Rattle.tunnel_search.proofs.rounds.moved_tunnels.Goals as goal

pub loop-k-preserved : goal.loop-k-preserved
loop-k-preserved c = record {
  value = moved_more c.args.greatest.now c.args.tunnels.now c.args.configs.now c.loop-k.k _ _ c.loop-k.next.items c.push.new.self.items _ c.requires c.loop-k-test.true c.index-tunnels-k.is c.index-configs-k.is c.moved.ensures.value c.in_ok-push.ensures.items c.loop-k.invariant.value;
  fit = fit_more c.args.greatest.now c.loop-k.next.items c.push.new.self.items _ c.in_ok-push.ensures.items c.moved.ensures.fits c.loop-k.invariant.fit;
}
