use Rattle.std.proofs.Common.{◌≡◌, ◌<◌, ◌≤◌, length}
use Rattle.plan_certificate.specs.Gathered.{AreMarked}
use Rattle.plan_certificate.proofs.gathered.mark_repeats.Given as goal

abbrev pub invariant-loop-i : goal.invariant-loop-i
invariant-loop-i l = record {
  len : length l.marks.items ≡ length l.fn.marks.items;
  few : 1 < l.i → l.i ≤ length l.names;
  marks : AreMarked l.names l.i l.fn.marks.items l.marks.items;
}
