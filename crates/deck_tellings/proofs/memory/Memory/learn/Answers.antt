use Rattle.std.proofs.Common.{◌∙◌, ◌*◌, ◌<◌, ◌≤◌, ap, sym, subst, All, Contains, List, ℕ, length, map, arith}
use Rattle.deck_check.specs.Readings.{years}
use Rattle.deck_lines.specs.Deck.{body_of}
use Rattle.row_shelf.specs.Adds.{FillsCases}
use Rattle.row_shelf.specs.Asked.{FitBook}
use Rattle.row_shelf.specs.Shelf.{Grows, ShelfIs}
use Rattle.sim_sweep.proofs.TogetherSteps.{idle}
use Rattle.case_study.specs.Inner.{IsOfLists}
use Rattle.deck_tellings.specs.Memory.{MemoryIs}
use Rattle.deck_tellings.specs.Learning.{GainsFew, IsLost, Learns}
use Rattle.case_study.specs.Studies.{HasYears}
use Rattle.deck_tellings.proofs.ShelfSteps.{few_asked, fit_books, gained, has_years, learnt, lost, numbers_within}
use Rattle.deck_tellings.proofs.WhereErr.{on_err}
use Rattle.year_system.specs.System.{System}
use Rattle.deck_tellings.proofs.memory.Memory.learn.Goals as goal

pub returns-in_err-ids-clause-err : goal.returns-in_err-ids-clause-err
returns-in_err-ids-clause-err g c =
    let d = body_of c.args.typed.now in
    let es = c.args.engines.now in
    let old : MemoryIs = record { shelf = c.self.inside.shelf; tally = c.self.inside.tally } in
    let now : MemoryIs = record { shelf = c.take_in-taken.new.self; tally = c.self.inside.tally } in
    let work = g.E.SimEngine.work in
    on_err c.from_residual.result _
    (subst (λ (m : MemoryIs). IsLost (Unit {0}) (IsOfLists d c.args.cases.now) d m now work es es) c.self.view_is
    (lost d c.args.systems.items (IsOfLists d c.args.cases.now) old now.shelf now.tally work es es
    c.requires.systems c.self.invariant c.systems-systems.ensures.valid c.take_in-taken.ensures.grown c.take_in-taken.ensures.rows (idle now.tally (map work es))))

pub fill-filled-requires-clause-numbers : goal.fill-filled-requires-clause-numbers
fill-filled-requires-clause-numbers g c = λ ks lives.
    let d = body_of c.args.typed.now in
    let book = c.take_in-taken.new.self.book in
    let ids = c.in_ok-ids.ids.items in
    subst (All (λ id. id < length book)) (sym c.deref.ensures.value) (numbers_within d book ids (has_years d book c.args.systems.items ids c.requires.systems c.in_ok-ids.ensures.numbers))

pub fill-filled-requires-clause-fit : goal.fill-filled-requires-clause-fit
fill-filled-requires-clause-fit g c = λ ks lives.
    let d = body_of c.args.typed.now in
    let book = c.take_in-taken.new.self.book in
    let ids = c.in_ok-ids.ids.items in
    subst (λ (i : List ℕ). All (FitBook book i) c.args.cases.now) (sym c.deref.ensures.value)
    (fit_books d book ids c.args.cases.now (has_years d book c.args.systems.items ids c.requires.systems c.in_ok-ids.ensures.numbers) c.requires.lists)

pub fill-filled-requires-clause-place : goal.fill-filled-requires-clause-place
fill-filled-requires-clause-place g c = λ ks lives.
    let d = body_of c.args.typed.now in
    let few_years : years d ≤ 30 = omega (arith, c.years-years.ensures.value, c.years-years.ensures.high) in
    let few = few_asked d c.args.cases.now few_years c.requires.lists in
    let old = ap (λ (m : MemoryIs). length m.shelf.kept) c.self.view_is in
    let rows = ap length c.take_in-taken.ensures.rows in
    omega (arith, few, old, rows, c.requires.place.rows)

pub returns-in_err-filled-clause-err : goal.returns-in_err-filled-clause-err
returns-in_err-filled-clause-err g c =
    let d = body_of c.args.typed.now in
    let es = c.args.engines.now in
    let fs = c.fill-filled.new.engines in
    let old : MemoryIs = record { shelf = c.self.inside.shelf; tally = c.self.inside.tally } in
    let now : MemoryIs = record { shelf = c.fill-filled.new.self; tally = c.fill-filled.new.tally } in
    let work = g.E.SimEngine.work in
    let grown = subst (λ (b : List System). Grows (Contains c.args.systems.items) old.shelf.book b) (sym c.fill-filled.ensures.book) c.take_in-taken.ensures.grown in
    let rows = ap (λ (s : ShelfIs). s.kept) c.in_err-filled.ensures.err ∙ c.take_in-taken.ensures.rows in
    on_err c.from_residual-in_err-filled.result _
    (subst (λ (m : MemoryIs). IsLost (Unit {0}) (IsOfLists d c.args.cases.now) d m now work es fs) c.self.view_is
    (lost d c.args.systems.items (IsOfLists d c.args.cases.now) old now.shelf now.tally work es fs
    c.requires.systems c.self.invariant c.len-rows.ensures.valid grown rows c.fill-filled.ensures.ran))

pub returns-clause-numbers : goal.returns-clause-numbers
returns-clause-numbers g c =
    let d = body_of c.args.typed.now in
    let ids = c.in_ok-ids.ids.items in
    subst (λ (b : List System). HasYears d b ids) (sym c.fill-filled.ensures.book)
    (has_years d c.take_in-taken.new.self.book c.args.systems.items ids c.requires.systems c.in_ok-ids.ensures.numbers)

pub returns-clause-learns : goal.returns-clause-learns
returns-clause-learns g c =
    let d = body_of c.args.typed.now in
    let es = c.args.engines.now in
    let fs = c.fill-filled.new.engines in
    let old : MemoryIs = record { shelf = c.self.inside.shelf; tally = c.self.inside.tally } in
    let now : MemoryIs = record { shelf = c.fill-filled.new.self; tally = c.fill-filled.new.tally } in
    let mid = c.take_in-taken.new.self in
    let work = g.E.SimEngine.work in
    let fills = subst (λ (i : List ℕ). FillsCases i c.args.cases.now mid now.shelf work es fs) c.deref.ensures.value c.in_ok-filled.ensures.filled in
    subst (λ (m : MemoryIs). Learns (Unit {0}) (IsOfLists d c.args.cases.now) d m now work es fs 0) c.self.view_is
    (learnt d c.args.systems.items c.in_ok-ids.ids.items c.args.cases.now old mid now.shelf now.tally work es fs
    c.requires.lists c.requires.systems c.self.invariant c.systems-systems.ensures.valid
    c.in_ok-ids.ensures.numbers c.take_in-taken.ensures.grown c.take_in-taken.ensures.rows
    c.fill-filled.ensures.book fills c.in_ok-filled.ensures.tally)

pub returns-clause-few : goal.returns-clause-few
returns-clause-few g c =
    let d = body_of c.args.typed.now in
    let old : MemoryIs = record { shelf = c.self.inside.shelf; tally = c.self.inside.tally } in
    let now : MemoryIs = record { shelf = c.fill-filled.new.self; tally = c.fill-filled.new.tally } in
    let few_years : years d ≤ 30 = omega (arith, c.years-years.ensures.value, c.years-years.ensures.high) in
    subst (λ (m : MemoryIs). GainsFew (15000 * length c.args.cases.now) m now) c.self.view_is
    (gained d c.args.systems.items c.args.cases.now old now c.take_in-taken.new.self few_years c.requires.lists c.requires.systems c.systems-systems.ensures.valid
    c.take_in-taken.ensures.grown c.take_in-taken.ensures.rows c.fill-filled.ensures.book c.in_ok-filled.ensures.few)
