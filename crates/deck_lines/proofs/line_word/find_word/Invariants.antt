use Rattle.std.proofs.Common.{◌≡◌, drop}
use Rattle.std.specs.Prelude.{find}
use Rattle.std.specs.Str.{bytes_eq}
use Rattle.deck_lines.specs.Grammar.{line_spelling_of}
use Rattle.deck_lines.proofs.line_word.find_word.Given as goal

abbrev pub invariant-loop-word : goal.invariant-loop-word
invariant-loop-word l = find (λ word. bytes_eq l.text (line_spelling_of word)) (drop l.word-index l.words) ≡ find (λ word. bytes_eq l.text (line_spelling_of word)) l.words
