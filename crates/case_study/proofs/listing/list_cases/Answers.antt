use Rattle.std.proofs.Common.{◌+◌, [], ◌∷◌, length-append, arith}
use Rattle.std.proofs.lemmas.List.Elements.{All-push}
use Rattle.deck_lines.specs.Deck.{body_of}
use Rattle.case_study.specs.Inner.{FitYears}
use Rattle.case_study.specs.Listings.{deck_tunnels}
use Rattle.case_study.specs.Studies.{AreYearLists}
use Rattle.row_shelf.proofs.EachSteps.{each_more}
use Rattle.case_study.proofs.ResultSteps.{same_error}
use Rattle.case_study.proofs.ListSteps.{first_over}
use Rattle.case_study.proofs.listing.list_cases.Goals as goal

pub returns-in-Err-clause-over : goal.returns-in-Err-clause-over
returns-in-Err-clause-over c = λ r e.
    first_over (body_of c.args.typed.now) c.loop-c.c c.loop-c.lists.items r c.loop-c.invariant.many c.loop-c.invariant.each (c.in-Err.ensures.over r (same_error c.in-Err.error _ e))

pub loop-c-preserved : goal.loop-c-preserved
loop-c-preserved c =
    let d = body_of c.args.typed.now in
    let n = c.loop-c.invariant.many in
    rw c.in-Ok-push.ensures.items (record {
      many = omega (arith, n, length-append c.loop-c.lists.items (c.in-Ok.list ∷ []));
      each = each_more (λ k years. AreYearLists d (k + 1) (deck_tunnels d (k + 1)) years) c.loop-c.lists.items c.in-Ok.list c.loop-c.invariant.each (rw n c.in-Ok.ensures.lists);
      fit = All-push (FitYears d) c.loop-c.lists.items c.in-Ok.list c.loop-c.invariant.fit c.in-Ok.ensures.fit;
    })
