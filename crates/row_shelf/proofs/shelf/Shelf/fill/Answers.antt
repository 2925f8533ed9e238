use Rattle.std.proofs.Common.{◌≡◌, ℕ, ◌∙◌, ◌+◌, ◌<◌, ap, sym, length, arith, All, subst}
use Rattle.std.proofs.lemmas.Result.{on_ok_weaker}
use Rattle.row_shelf.proofs.AskSteps.{are_demands, few_asked, few_new}
use Rattle.row_shelf.proofs.FillSteps.{fills, on_ok2, on_ok5}
use Rattle.row_shelf.proofs.RoomSteps.{sweep_these}
use Rattle.row_shelf.proofs.WantedSteps.{wanted_all, wanted_few}
use Rattle.row_shelf.specs.Adds.{FillsCases}
use Rattle.row_shelf.specs.Asked.{FitBook, asked_count}
use Rattle.row_shelf.specs.Demands.{AreWanted, all_demands}
use Rattle.row_shelf.specs.Shelf.{ShelfIs}
use Rattle.sim_engine.specs.Engine.{raised}
use Rattle.sim_sweep.specs.Demands.{IsDemand}
use Rattle.row_shelf.proofs.shelf.Shelf.fill.Goals as goal

pub keep_rows-filled-requires-clause-demands : goal.keep_rows-filled-requires-clause-demands
keep_rows-filled-requires-clause-demands g c κs within =
    let fit = subst (λ (v : ShelfIs). All (FitBook v.book c.args.ids.now) c.args.cases.now) (sym c.self.view_is) c.requires.fit in
    let all = all_demands c.self.inside.book c.args.ids.now c.args.cases.now in
    let wants = subst (AreWanted c.self.inside.kept all) (sym c.deref.ensures.value) c.in_ok-demands.ensures in
    wanted_all (IsDemand c.self.inside.book) c.self.inside.kept all c.deref.result.now wants (are_demands c.self.inside.book c.args.ids.now c.args.cases.now fit)

pub keep_rows-filled-requires-clause-few : goal.keep_rows-filled-requires-clause-few
keep_rows-filled-requires-clause-few g c =
    let place = subst (λ (v : ShelfIs). length v.kept + asked_count c.args.cases.now < 8388608) (sym c.self.view_is) c.requires.place in
    let all = all_demands c.self.inside.book c.args.ids.now c.args.cases.now in
    let wants = subst (AreWanted c.self.inside.kept all) (sym c.deref.ensures.value) c.in_ok-demands.ensures in
    let wanted = wanted_few c.self.inside.kept all c.deref.result.now wants in
    let few = few_asked c.self.inside.book c.args.ids.now c.args.cases.now in
    omega (arith, place, wanted, few)

pub keep_rows-filled-requires-clause-can : goal.keep_rows-filled-requires-clause-can
keep_rows-filled-requires-clause-can g c κs within =
    let fit = subst (λ (v : ShelfIs). All (FitBook v.book c.args.ids.now) c.args.cases.now) (sym c.self.view_is) c.requires.fit in
    let all = all_demands c.self.inside.book c.args.ids.now c.args.cases.now in
    let wants = subst (AreWanted c.self.inside.kept all) (sym c.deref.ensures.value) c.in_ok-demands.ensures in
    sweep_these {X = g.row.E.Denot} g.E.SimEngine.room c.self.inside.book c.self.inside.kept c.args.ids.now c.args.cases.now c.deref.result.now _ _ c.make_ready.new.engines
    wants fit c.room_for-cells.ensures.cells c.room_for-cells.ensures.units c.in_ok-make_ready.ensures.ready

pub returns-clause-filled : goal.returns-clause-filled
returns-clause-filled g c =
    let fit = subst (λ (v : ShelfIs). All (FitBook v.book c.args.ids.now) c.args.cases.now) (sym c.self.view_is) c.requires.fit in
    let all = all_demands c.self.inside.book c.args.ids.now c.args.cases.now in
    let wants = subst (AreWanted c.self.inside.kept all) (sym c.deref.ensures.value) c.in_ok-demands.ensures in
    let k = c.keep_rows-filled.ensures in
    on_ok5 c.keep_rows-filled.result _ _ _ _ _ _ k.filled k.stays k.only k.many k.worked
    (λ filled stays only many worked.
    subst (λ (v : ShelfIs). FillsCases c.args.ids.now c.args.cases.now v (record { book = c.self.inside.book; kept = c.keep_rows-filled.new.kept }) g.E.SimEngine.work c.args.engines.now c.keep_rows-filled.new.engines) c.self.view_is
    (fills {X = g.row.E.Denot} g.E.SimEngine.work c.new_codes_come_once.ensures c.self.inside.book c.self.inside.kept c.keep_rows-filled.new.kept c.args.ids.now c.args.cases.now c.deref.result.now c.args.engines.now c.make_ready.new.engines c.keep_rows-filled.new.engines
    c.len-systems.ensures.apart c.len-systems.ensures.valid c.self.invariant.due fit wants c.make_ready.ensures.work (record { filled = filled; stays = stays; only = only; many = many }) worked))

pub returns-clause-tally : goal.returns-clause-tally
returns-clause-tally g c =
    let k = c.keep_rows-filled.ensures in
    on_ok2 c.keep_rows-filled.result _ _ _ k.many k.tally
    (λ many tally new is.
    let kept : c.self.inside.kept ≡ c.args.self.now.kept = ap (λ (v : ShelfIs). v.kept) c.self.view_is in
    tally ∙ ap (λ (n : ℕ). raised n c.args.tally.now) (omega (arith, many, is, ap length kept)))

pub returns-clause-few : goal.returns-clause-few
returns-clause-few g c =
    let all = all_demands c.self.inside.book c.args.ids.now c.args.cases.now in
    let wants = subst (AreWanted c.self.inside.kept all) (sym c.deref.ensures.value) c.in_ok-demands.ensures in
    let wanted = wanted_few c.self.inside.kept all c.deref.result.now wants in
    let few = few_asked c.self.inside.book c.args.ids.now c.args.cases.now in
    let new = few_new c.self.inside.kept c.deref.result.now in
    let kept : c.self.inside.kept ≡ c.args.self.now.kept = ap (λ (v : ShelfIs). v.kept) c.self.view_is in
    on_ok_weaker c.keep_rows-filled.result (λ many. omega (arith, many, wanted, few, new, ap length kept)) c.keep_rows-filled.ensures.many
