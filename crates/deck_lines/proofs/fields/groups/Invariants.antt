use Rattle.std.proofs.Common.{◌≡◌, ◌-◌}
use Rattle.deck_lines.specs.Statements.{groups_onto}
use Rattle.deck_lines.proofs.fields.groups.Given as goal

abbrev pub invariant-loop-done : goal.invariant-loop-done
invariant-loop-done l = groups_onto l.out.items l.end l.form.group.now (l.form.least - l.done) (l.form.most - l.done) l.words ≡ groups_onto l.fn.out.items l.end l.form.group.now l.form.least l.form.most l.fn.words
