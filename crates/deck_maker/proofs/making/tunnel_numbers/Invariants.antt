use Rattle.std.proofs.Common.{◌≡◌}
use Rattle.deck_maker.specs.TrialDeck.{pairs}
use Rattle.deck_maker.proofs.making.tunnel_numbers.Given as goal

abbrev pub invariant-loop-i : goal.invariant-loop-i
invariant-loop-i l = l.numbers.items ≡ pairs l.least l.i
