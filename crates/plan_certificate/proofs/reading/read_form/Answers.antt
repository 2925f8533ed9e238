use Rattle.std.proofs.Common.{◌≡◌, ◌+◌, ◌∙◌, refl, sym, get_or, false}
use Rattle.std.proofs.lemmas.List.{get_or_default}
use Rattle.plan_certificate.specs.Reading.{no_line}
use Rattle.plan_certificate.proofs.Faults.{Looks, fault_here, form_more, form_same, read_next}
use Rattle.plan_certificate.proofs.Years.{not_so}
use Rattle.plan_certificate.proofs.reading.read_form.Goals as goal

pub returns-then-is_faulty-clause-fault : goal.returns-then-is_faulty-clause-fault
returns-then-is_faulty-clause-fault c = λ n e.
    let lines = c.args.lines.now in
    let k = c.loop-k.k in
    let line = c.index-lines-k.result in
    let again = get_or c.args.again.now k false in
    let looks : Looks lines c.args.years c.args.width k c.loop-k.reading again line = record {
      ranges = c.requires.ranges;
      within = c.loop-k-test.true;
      is = sym (c.index-lines-k.is ∙ get_or_default lines k line no_line c.loop-k-test.true);
      read = c.loop-k.invariant.read;
      form = c.loop-k.invariant.form;
      marks = c.requires.again k;
    } in
    fault_here lines c.args.years c.args.width k c.loop-k.reading again line looks (c.if-is_faulty.ensures.0 refl) n (form_same (k + 1) n e)

pub loop-k-preserved : goal.loop-k-preserved
loop-k-preserved c =
    let lines = c.args.lines.now in
    let k = c.loop-k.k in
    let line = c.index-lines-k.result in
    let again = get_or c.args.again.now k false in
    let looks : Looks lines c.args.years c.args.width k c.loop-k.reading again line = record {
      ranges = c.requires.ranges;
      within = c.loop-k-test.true;
      is = sym (c.index-lines-k.is ∙ get_or_default lines k line no_line c.loop-k-test.true);
      read = c.loop-k.invariant.read;
      form = c.loop-k.invariant.form;
      marks = c.requires.again k;
    } in
    record {
      form = form_more lines c.args.years c.args.width k c.loop-k.reading again line looks (not_so c.if-is_faulty.ensures);
      read = read_next lines c.args.years c.args.width k c.loop-k.reading c.add.new.self again line looks (not_so c.if-is_faulty.ensures) c.in_ok-add.ensures;
    }
