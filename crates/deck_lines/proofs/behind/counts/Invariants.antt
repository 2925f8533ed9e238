use Rattle.std.proofs.Common.{◌≡◌, ◌-◌, ◌∷◌}
use Rattle.deck_lines.specs.Words.{piece_of}
use Rattle.deck_lines.specs.Grammar.{counts_onto}
use Rattle.deck_lines.proofs.behind.counts.Given as goal

abbrev pub invariant-loop-done : goal.invariant-loop-done
invariant-loop-done l = counts_onto l.out.items l.end (1 - l.done) (14 - l.done) (piece_of l.word ∷ l.words) ≡ counts_onto l.fn.out.items l.end 1 14 l.fn.words
