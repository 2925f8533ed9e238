use Rattle.std.proofs.Common.{◌≡◌, ◌*◌, ◌≤◌, ◌/◌, map}
use Rattle.std.specs.Prelude.{sum}
use Rattle.std.specs.List.{range_with_len}
use Rattle.deck_lines.specs.Deck.{body_of}
use Rattle.checked_deck.specs.Economy.{energy}
use Rattle.deck_check.specs.Readings.{load_in, periods, step}
use Rattle.checked_deck.proofs.economy.demand.Given as goal

abbrev pub invariant-loop-i : goal.invariant-loop-i
invariant-loop-i l = (l.total ≡ sum (map (λ i. energy (step (body_of l.deck)) (8760 / periods (body_of l.deck)) (load_in (body_of l.deck) l.t i)) (range_with_len 0 l.i))) × (l.total ≤ 400019 * (8760 / periods (body_of l.deck)) * l.i)
