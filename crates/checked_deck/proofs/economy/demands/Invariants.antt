use Rattle.std.proofs.Common.{◌≡◌, ◌^◌, ◌<◌, All, map}
use Rattle.deck_lines.specs.Deck.{body_of}
use Rattle.checked_deck.specs.Economy.{demand}
use Rattle.deck_check.specs.Readings.{first}
use Rattle.checked_deck.proofs.economy.demands.Given as goal

abbrev pub invariant-loop-t : goal.invariant-loop-t
invariant-loop-t l = (l.demands.items ≡ map (demand (body_of l.deck)) (first l.t)) × All (λ mwh. mwh < 2 ^ 32) l.demands.items
