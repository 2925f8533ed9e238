use Rattle.std.proofs.Common.{◌≡◌, ◌<◌, ◌^◌, drop}
use Rattle.deck_lines.specs.Words.{number_after}
use Rattle.hourly_load.proofs.scan.number.Given as goal

abbrev pub invariant-loop-digit : goal.invariant-loop-digit
invariant-loop-digit l = record {
  rest : number_after l.n (drop l.digit-index l.word) ≡ number_after 0 l.word;
  small : l.n < 10 ^ l.digit-index;
}
