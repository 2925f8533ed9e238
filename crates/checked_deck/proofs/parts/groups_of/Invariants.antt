use Rattle.std.proofs.Common.{◌≡◌, map}
use Rattle.std.specs.Prelude.{filter}
use Rattle.deck_lines.specs.Deck.{body_of}
use Rattle.deck_lines.specs.declared.head.Head.TheVariants as heads
use Rattle.checked_deck.specs.Systems.{group_of}
use Rattle.deck_check.specs.Readings.{first, is_there}
use Rattle.checked_deck.proofs.parts.groups_of.Given as goal

abbrev pub invariant-loop-g : goal.invariant-loop-g
invariant-loop-g l = l.groups.items ≡ map (group_of (body_of l.deck)) (filter (λ g. is_there (body_of l.deck) (heads.Hydro g)) (first l.g))
