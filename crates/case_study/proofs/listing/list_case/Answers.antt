use Rattle.std.proofs.Common.{◌+◌, ◌<◌, length, refl, subst, arith, [], ◌∷◌, length-append}
use Rattle.std.proofs.lemmas.Option.{slice_get_read}
use Rattle.deck_lines.specs.Deck.{body_of}
use Rattle.plant_data.specs.declared.row.Tunnel.{Tunnel}
use Rattle.case_study.specs.Listings.{IsOf, IsOver, tunnel_at}
use Rattle.case_study.specs.Studies.{AreYearLists, IsYearList}
use Rattle.row_shelf.proofs.EachSteps.{each_more}
use Rattle.case_study.proofs.ResultSteps.{same_error}
use Rattle.case_study.proofs.ListSteps.{fit_years, over_in, tunnel_is}
use Rattle.case_study.proofs.listing.list_case.Goals as goal

pub list_year-requires-clause-system : goal.list_year-requires-clause-system
list_year-requires-clause-system c =
    c.requires.systems.each c.loop-k.k c.index-systems-k.result (slice_get_read c.args.systems.now (length c.args.systems.now) c.loop-k.k c.index-systems-k.result refl c.loop-k-test.true c.index-systems-k.is)

pub returns-in-Err-clause-over : goal.returns-in-Err-clause-over
returns-in-Err-clause-over c =
    let d = body_of c.args.typed.now in
    let k = c.loop-k.k in
    let within : k < length c.args.tunnels.now = omega (arith, c.loop-k-test.true, c.requires.systems.many, c.requires.tunnels.many) in
    let is_of : IsOf d c.args.case (k + 1) = record { case = (c.requires.low, c.requires.high); year = (omega arith, omega (arith, c.loop-k-test.true, c.requires.systems.many)) } in
    let is = tunnel_is c.args.tunnels.now k c.index-tunnels-k.result within c.index-tunnels-k.is in
    λ r e. over_in d c.args.case k c.args.tunnels.now c.loop-k.lists.items r is_of c.loop-k.invariant.0 c.loop-k.invariant.1
    (subst (λ (z : Tunnel). IsOver d c.args.case (k + 1) z r) is (c.in-Err.ensures.over r (same_error c.in-Err.error _ e)))

pub loop-k-preserved : goal.loop-k-preserved
loop-k-preserved c =
    let d = body_of c.args.typed.now in
    let k = c.loop-k.k in
    let within : k < length c.args.tunnels.now = omega (arith, c.loop-k-test.true, c.requires.systems.many, c.requires.tunnels.many) in
    let is = tunnel_is c.args.tunnels.now k c.index-tunnels-k.result within c.index-tunnels-k.is in
    let n = c.loop-k.invariant.0 in
    let list : IsYearList d c.args.case (k + 1) (tunnel_at c.args.tunnels.now (k + 1)) c.in-Ok.list = subst (λ (z : Tunnel). IsYearList d c.args.case (k + 1) z c.in-Ok.list) is c.in-Ok.ensures.list in
    rw c.in-Ok-push.ensures.items (
      omega (arith, n, length-append c.loop-k.lists.items (c.in-Ok.list ∷ [])),
      each_more (λ i configs. IsYearList d c.args.case (i + 1) (tunnel_at c.args.tunnels.now (i + 1)) configs) c.loop-k.lists.items c.in-Ok.list c.loop-k.invariant.1 (rw n list),
    )

pub returns-clause-lists : goal.returns-clause-lists
returns-clause-lists c =
    rw c.new.ensures (record { many = omega (arith, c.loop-k.invariant.0, c.requires.systems.many); each = c.loop-k.invariant.1 })

pub returns-clause-fit : goal.returns-clause-fit
returns-clause-fit c =
    let are : AreYearLists (body_of c.args.typed.now) c.args.case c.args.tunnels.now c.loop-k.lists.items =
    record { many = omega (arith, c.loop-k.invariant.0, c.requires.systems.many); each = c.loop-k.invariant.1 } in
    rw c.new.ensures (fit_years (body_of c.args.typed.now) c.args.case c.args.tunnels.now c.loop-k.lists.items are)
