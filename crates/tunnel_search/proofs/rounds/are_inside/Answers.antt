use Rattle.std.proofs.Common.{◌∙◌, sym, true≢false}
use Rattle.tunnel_search.proofs.Years.{inside_at}
use Rattle.tunnel_search.proofs.rounds.are_inside.Goals as goal

pub returns-then-not-is_inside : goal.returns-then-not-is_inside
returns-then-not-is_inside c = (
  λ yes. absurd (true≢false (sym yes)),
  λ inside.
      let yes = c.is_inside.ensures.1 (inside_at c.args.greatest.now c.args.tunnels.now c.args.configs.now c.loop-k.k _ _ c.requires c.loop-k-test.true c.index-tunnels-k.is c.index-configs-k.is inside) in
      absurd (true≢false (sym yes ∙ c.if-not-is_inside.true)),
)
