use Rattle.std.proofs.Common.{◌≡◌, ◌+◌, ◌++◌, ◌∷◌, ◌∙◌, [], ap, arith, length, List}
use Rattle.std.proofs.lemmas.List.{length_push}
use Rattle.plan_certificate.specs.declared.certificate.Named.{Named}
use Rattle.plan_certificate.proofs.Marks.{below_more, names_more}
use Rattle.plan_certificate.proofs.gathered.gather.Goals as goal

pub loop-year-preserved : goal.loop-year-preserved
loop-year-preserved c =
    let lines = c.args.lines.now in
    let year = c.loop-year.year in
    let old = c.loop-year.entries.items in
    let row = c.in_ok-names.names.items in
    let pushed : c.push.new.self.items ≡ old ++ row ∷ [] = c.in_ok-push.ensures.items ∙ ap (λ (xs : List Named). old ++ xs ∷ []) c.new.ensures in
    record {
      years = omega (arith, ap length pushed, length_push old row, c.loop-year.invariant.years);
      names = names_more lines year old c.push.new.self.items row c.loop-year.invariant.years c.loop-year.invariant.names c.in_ok-names.ensures.names pushed;
      long = c.in_ok-names.ensures.len ∙ c.loop-year.invariant.long;
      again = below_more lines year c.loop-year.again.items c.gather_year.new.marks.items c.loop-year.invariant.again c.in_ok-names.ensures.marks;
    }
