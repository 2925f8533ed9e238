use Rattle.std.proofs.Common.{◌≡◌, ◌↔◌, ℕ, ◌<◌, [], length, slice_index_or}
use Rattle.plan_certificate.specs.Gathered.{AreNamesOf, HasMark, IsAgainBelow}
use Rattle.plan_certificate.proofs.gathered.gather.Given as goal

abbrev pub invariant-loop-year : goal.invariant-loop-year
invariant-loop-year l = record {
  years : length l.entries.items ≡ l.year;
  names : (k : ℕ) → k < l.year → AreNamesOf l.lines k (slice_index_or l.entries.items k []);
  long : length l.again.items ≡ length l.lines;
  again : (line : ℕ) → HasMark l.again.items line ↔ IsAgainBelow l.lines l.year line;
}
