use Rattle.std.proofs.Common.{◌≡◌, All}
use Rattle.std.specs.List.{filter_map, range_with_len}
use Rattle.deck_lines.specs.Deck.{body_of}
use Rattle.report_text.specs.ReadBack.{IsPrintableGeneration}
use Rattle.case_study.specs.Case.{generation_at}
use Rattle.case_study.proofs.generation.name_generations.Given as goal

abbrev pub invariant-loop-k : goal.invariant-loop-k
invariant-loop-k l = record {
  value : l.generations.items ≡ filter_map (generation_at (body_of l.typed) l.system l.config l.energies) (range_with_len 0 l.k);
  printable : All IsPrintableGeneration l.generations.items;
}
