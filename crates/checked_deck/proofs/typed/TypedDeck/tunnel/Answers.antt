use Rattle.std.proofs.Common.{subst}
use Rattle.checked_deck.specs.TypedDeck.{IsTyped}
use Rattle.checked_deck.proofs.TunnelFacts.{tunnel_is}
use Rattle.checked_deck.proofs.typed.TypedDeck.tunnel.Goals as goal

pub returns-clause-fits : goal.returns-clause-fits
returns-clause-fits c =
    let typed : IsTyped c.args.self.now = subst IsTyped c.self.view_is c.self.invariant in
    rw (c.tunnel_of.ensures, c.self.view_is) (tunnel_is c.args.self.now c.args.case c.args.year typed c.requires.case c.requires.cases c.requires.year c.requires.years)
