use Rattle.std.proofs.Common.{◌≡◌, ◌∙◌, ap, map, length, subst, List, Bool}
use Rattle.plan_certificate.specs.Gathered.{AreMarked}
use Rattle.plan_certificate.specs.declared.gathered.Numbered.{Numbered}
use Rattle.plan_certificate.proofs.Marks.{lines_within, marks_again}
use Rattle.plan_certificate.proofs.Orders.{in_order, names_are, sorted_names}
use Rattle.plan_certificate.proofs.gathered.gather_year.Goals as goal

pub mark_repeats-requires : goal.mark_repeats-requires
mark_repeats-requires c =
    let lines = c.args.lines.now in
    let names = c.sort_names.new.names.items in
    let numbered = sorted_names lines c.args.year c.in_ok-names.names.items names c.in_ok-names.ensures c.sort_names.ensures.permutation in
    lines_within lines c.args.year names c.deref.result.now c.args.marks.now.items c.deref.ensures.value numbered c.requires.long

pub returns-clause-names : goal.returns-clause-names
returns-clause-names c =
    let lines = c.args.lines.now in
    let names = c.sort_names.new.names.items in
    let numbered = sorted_names lines c.args.year c.in_ok-names.names.items names c.in_ok-names.ensures c.sort_names.ensures.permutation in
    names_are lines c.args.year names c.in_ok-plain.plain.items numbered (in_order lines c.args.year names numbered c.sort_names.ensures.sorted)
    (c.in_ok-plain.ensures ∙ ap (λ (xs : List Numbered). map (λ (m : Numbered). m.named) xs) c.deref-2.ensures.value)

pub returns-clause-marks : goal.returns-clause-marks
returns-clause-marks c =
    let lines = c.args.lines.now in
    let names = c.sort_names.new.names.items in
    let numbered = sorted_names lines c.args.year c.in_ok-names.names.items names c.in_ok-names.ensures c.sort_names.ensures.permutation in
    marks_again lines c.args.year names c.args.marks.now.items c.mark_repeats.new.marks.items numbered (in_order lines c.args.year names numbered c.sort_names.ensures.sorted)
    (subst (λ (xs : List Numbered). AreMarked xs (length xs) c.args.marks.now.items c.mark_repeats.new.marks.items) c.deref.ensures.value c.mark_repeats.ensures.marks)
