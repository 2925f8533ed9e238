use Rattle.std.proofs.Common.{◌∙◌, ap, sym, List, ℕ, ◌++◌}
use Rattle.std.specs.Prelude.{codes, decimal}
use Rattle.std.proofs.lemmas.List.{append-nil}
use Rattle.report_text.proofs.rounds.write_barred.Goals as goal

pub returns-clause-appended : goal.returns-clause-appended
returns-clause-appended c =
    c.in_ok-extend_from_slice.ensures.items ∙ ap (λ (t : List ℕ). c.args.text.now.items ++ t) (c.as_bytes.ensures.value ∙ c.in_ok-line.ensures.ok)
    ∙ ap (λ (t : List ℕ). c.args.text.now.items ++ (codes "INFEASIBLE " ++ (t ++ codes "\n"))) (sym (append-nil (decimal c.args.year)))
