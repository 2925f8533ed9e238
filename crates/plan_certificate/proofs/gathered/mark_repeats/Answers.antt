use Rattle.std.proofs.Common.{◌≡◌, ◌-◌, ◌<◌, ◌∙◌, length, arith, ap, sym}
use Rattle.std.proofs.lemmas.List.{get_or_default}
use Rattle.plan_certificate.specs.Gathered.{no_numbered, numbered_at}
use Rattle.plan_certificate.specs.declared.gathered.Numbered.{Numbered}
use Rattle.plan_certificate.proofs.Marks.{marked_done, marked_step}
use Rattle.plan_certificate.proofs.gathered.mark_repeats.Goals as goal

pub loop-i-preserved : goal.loop-i-preserved
loop-i-preserved c =
    let names = c.args.names.now in
    let n = c.loop-i.i in
    let b : n < length names = c.loop-i-test.true in
    let first = c.index-names-i.is ∙ get_or_default names (n - 1) c.index-names-i.result no_numbered (omega (arith, b)) in
    let second : c.index-names-i-in-loop-i.result ≡ numbered_at names n = c.index-names-i-in-loop-i.is ∙ get_or_default names n c.index-names-i-in-loop-i.result no_numbered b in
    record {
      len = c.mark_if_same.ensures.len ∙ c.loop-i.invariant.len;
      few = λ _. omega (arith, b);
      marks = marked_step names n c.index-names-i.result c.index-names-i-in-loop-i.result c.args.marks.now.items c.loop-i.marks.items c.mark_if_same.new.marks.items c.loop-i.invariant.marks c.loop-i.auto.i first second b
          (omega (arith, c.requires n no_numbered b, ap (λ (x : Numbered). x.line) second, c.loop-i.invariant.len)) c.mark_if_same.ensures.marks;
    }

pub returns-clause-marks : goal.returns-clause-marks
returns-clause-marks c = marked_done c.args.names.now c.loop-i.i c.args.marks.now.items c.loop-i.marks.items c.loop-i.invariant.marks c.loop-i.auto.i c.loop-i-test.false c.loop-i.invariant.few
