use Rattle.std.proofs.Common.{List, length, map, sym, ap, subst, arith}
use Rattle.board_core.specs.Rows.{codes_of}
use Rattle.sim_sweep.specs.Workers.{EngineIs, SweepsAll}
use Rattle.sim_sweep.proofs.KeepSteps.{rise_once, rows_moved}
use Rattle.sim_sweep.proofs.OutcomeSteps.{kept_filled, none_new, rows_due, rows_filled, rows_kept, rows_only, rows_stay, swept_new}
use Rattle.sim_sweep.proofs.SharedSteps.{many_rows}
use Rattle.sim_sweep.proofs.TogetherSteps.{idle, together_none}
use Rattle.sim_engine.specs.Engine.{raised}
use Rattle.sim_sweep.specs.Demands.{runs_of}
use Rattle.sim_sweep.specs.Works.{HaveWorked}
use Rattle.sim_sweep.specs.declared.demand.Demand.{Demand}
use Rattle.sim_sweep.proofs.keeping.keep_rows.Goals as goal

pub returns-clause-filled : goal.returns-clause-filled
returns-clause-filled g c =
    let moved = rows_moved c.args.book.now c.args.kept.now c.args.demands.now c.in_ok-rows.rows.items c.in_order.result.items c.in_order.ensures.moved (rw c.rows.ensures.value at c.in_ok-rows.ensures.rows) in
    rows_filled c.args.book.now c.args.kept.now c.args.demands.now c.in_order.result.items c.len-systems.ensures.valid c.requires.demands moved

pub returns-clause-due : goal.returns-clause-due
returns-clause-due g c =
    let moved = rows_moved c.args.book.now c.args.kept.now c.args.demands.now c.in_ok-rows.rows.items c.in_order.result.items c.in_order.ensures.moved (rw c.rows.ensures.value at c.in_ok-rows.ensures.rows) in
    let f = g.E.SimEngine in
    let of : EngineIs g.row.E.Denot = record { room = f.room; work = f.work } in
    let swept : SweepsAll of c.args.book.now (codes_of c.args.kept.now) c.args.demands.now c.args.tally.now c.swept_rows.new.tally c.args.engines.now c.swept_rows.new.engines = rw c.rows.ensures.value at c.in_ok-rows.ensures.swept in
    rows_due {X = g.row.E.Denot} of c.args.book.now c.args.kept.now c.args.demands.now c.in_order.result.items c.args.tally.now c.swept_rows.new.tally c.args.engines.now c.swept_rows.new.engines c.len-systems.ensures.valid c.requires.demands c.requires.due moved swept

pub returns-clause-kept : goal.returns-clause-kept
returns-clause-kept g c = rows_kept c.args.book.now c.args.demands.now c.in_order.result.items c.requires.demands (returns-clause-filled g c) (returns-clause-due g c)

pub returns-clause-stays : goal.returns-clause-stays
returns-clause-stays g c =
    let moved = rows_moved c.args.book.now c.args.kept.now c.args.demands.now c.in_ok-rows.rows.items c.in_order.result.items c.in_order.ensures.moved (rw c.rows.ensures.value at c.in_ok-rows.ensures.rows) in
    rows_stay c.args.book.now c.args.kept.now c.args.demands.now c.in_order.result.items c.len-systems.ensures.valid c.requires.due moved

pub returns-clause-only : goal.returns-clause-only
returns-clause-only g c =
    let moved = rows_moved c.args.book.now c.args.kept.now c.args.demands.now c.in_ok-rows.rows.items c.in_order.result.items c.in_order.ensures.moved (rw c.rows.ensures.value at c.in_ok-rows.ensures.rows) in
    rows_only c.args.book.now c.args.kept.now c.args.demands.now c.in_order.result.items moved

pub returns-clause-many : goal.returns-clause-many
returns-clause-many g c =
    let moved = rows_moved c.args.book.now c.args.kept.now c.args.demands.now c.in_ok-rows.rows.items c.in_order.result.items c.in_order.ensures.moved (rw c.rows.ensures.value at c.in_ok-rows.ensures.rows) in
    many_rows c.args.book.now c.args.kept.now c.args.demands.now c.in_order.result.items (rise_once c.args.kept.now c.rows.ensures.rise) moved

pub returns-clause-worked : goal.returns-clause-worked
returns-clause-worked g c =
    let f = g.E.SimEngine in
    let of : EngineIs g.row.E.Denot = record { room = f.room; work = f.work } in
    let swept : SweepsAll of c.args.book.now (codes_of c.args.kept.now) c.args.demands.now c.args.tally.now c.swept_rows.new.tally c.args.engines.now c.swept_rows.new.engines = rw c.rows.ensures.value at c.in_ok-rows.ensures.swept in
    (swept_new {X = g.row.E.Denot} of c.args.book.now c.args.kept.now c.args.demands.now c.args.tally.now c.swept_rows.new.tally c.args.engines.now c.swept_rows.new.engines c.len-systems.ensures.valid c.requires.demands swept).0

pub returns-clause-tally : goal.returns-clause-tally
returns-clause-tally g c =
    let f = g.E.SimEngine in
    let of : EngineIs g.row.E.Denot = record { room = f.room; work = f.work } in
    let swept : SweepsAll of c.args.book.now (codes_of c.args.kept.now) c.args.demands.now c.args.tally.now c.swept_rows.new.tally c.args.engines.now c.swept_rows.new.engines = rw c.rows.ensures.value at c.in_ok-rows.ensures.swept in
    (swept_new {X = g.row.E.Denot} of c.args.book.now c.args.kept.now c.args.demands.now c.args.tally.now c.swept_rows.new.tally c.args.engines.now c.swept_rows.new.engines c.len-systems.ensures.valid c.requires.demands swept).1

-- where every demanded code is kept
pub returns-then-are_kept-clause-filled : goal.returns-then-are_kept-clause-filled
returns-then-are_kept-clause-filled g c = kept_filled c.args.book.now c.args.kept.now c.args.demands.now c.len-systems.ensures.valid c.requires.due c.requires.demands (c.are_kept.ensures.0 c.if-are_kept.true)

pub returns-then-are_kept-clause-kept : goal.returns-then-are_kept-clause-kept
returns-then-are_kept-clause-kept g c = rows_kept c.args.book.now c.args.demands.now c.args.kept.now c.requires.demands (returns-then-are_kept-clause-filled g c) c.requires.due

pub returns-then-are_kept-clause-many : goal.returns-then-are_kept-clause-many
returns-then-are_kept-clause-many g c =
    let none = ap length (none_new c.args.kept.now c.args.demands.now (c.are_kept.ensures.0 c.if-are_kept.true)) in
    omega (arith, none)

pub returns-then-are_kept-clause-worked : goal.returns-then-are_kept-clause-worked
returns-then-are_kept-clause-worked g c =
    let works = map g.E.SimEngine.work c.args.engines.now in
    subst (λ (l : List Demand). HaveWorked (runs_of c.args.book.now l) 0 works works) (sym (none_new c.args.kept.now c.args.demands.now (c.are_kept.ensures.0 c.if-are_kept.true))) (together_none works)

pub returns-then-are_kept-clause-tally : goal.returns-then-are_kept-clause-tally
returns-then-are_kept-clause-tally g c = ap (λ (l : List Demand). raised (length l) c.args.tally.now) (sym (none_new c.args.kept.now c.args.demands.now (c.are_kept.ensures.0 c.if-are_kept.true)))

pub returns-then-are_kept-clause-ran : goal.returns-then-are_kept-clause-ran
returns-then-are_kept-clause-ran g c = idle c.args.tally.now (map g.E.SimEngine.work c.args.engines.now)
