use Rattle.std.proofs.Common.{◌+◌, [], ◌∷◌, length-append, arith}
use Rattle.deck_lines.specs.Deck.{body_of}
use Rattle.case_study.specs.Studies.{IsYearSystem}
use Rattle.row_shelf.proofs.EachSteps.{each_more}
use Rattle.case_study.proofs.listing.systems_of.Goals as goal

pub loop-k-preserved : goal.loop-k-preserved
loop-k-preserved c =
    let n = c.loop-k.invariant.0 in
    rw c.in_ok-push.ensures.items (
      omega (arith, n, length-append c.loop-k.systems.items (c.in_ok-system.field-0 ∷ [])),
      each_more (λ k s. IsYearSystem (body_of c.args.typed.now) (k + 1) s) c.loop-k.systems.items c.in_ok-system.field-0 c.loop-k.invariant.1 (rw n (record { is = c.in_ok-system.ensures.value; width = c.in_ok-system.ensures.width })),
    )
