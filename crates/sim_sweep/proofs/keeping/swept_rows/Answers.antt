use Rattle.std.proofs.Common.{◌≡◌, ◌++◌, List, subst, sym, ap, ◌∙◌}
use Rattle.board_core.specs.declared.row.KeptRow.{KeptRow}
use Rattle.board_core.specs.Rows.{codes_of}
use Rattle.board_core.proofs.Lists.{is_in_at}
use Rattle.sim_sweep.specs.Demands.{codes_of as demanded_codes}
use Rattle.sim_sweep.specs.Keeping.{HasRows}
use Rattle.sim_sweep.proofs.BoardSteps.{board_rows, due_in, start_codes, start_kept}
use Rattle.sim_sweep.proofs.KeepSteps.{rise_once}
use Rattle.sim_sweep.specs.Workers.{EngineIs}
use Rattle.sim_sweep.proofs.OutcomeSteps.{swept_run}
use Rattle.sim_sweep.proofs.TogetherSteps.{rooms_stay}
use Rattle.sim_sweep.proofs.keeping.swept_rows.Goals as goal

pub start-requires-clause-codes : goal.start-requires-clause-codes
start-requires-clause-codes g c κs = start_codes c.args.book.now c.args.kept.now c.args.demands.now c.deref.result.now (c.deref.ensures.value ∙ c.in_ok-codes.ensures) c.requires.due c.requires.demands

pub start-requires-clause-kept : goal.start-requires-clause-kept
start-requires-clause-kept g c κs = start_kept c.args.book.now c.new-due.result.book.now c.args.kept.now c.args.demands.now c.deref.result.now c.new-due.ensures (c.deref.ensures.value ∙ c.in_ok-codes.ensures) c.requires.systems c.requires.rise c.requires.due c.requires.demands

pub start-requires-clause-once : goal.start-requires-clause-once
start-requires-clause-once g c κs = rise_once c.args.kept.now c.requires.rise

pub sweep-requires-clause-due : goal.sweep-requires-clause-due
sweep-requires-clause-due g c κs within =
    let codes : c.deref.result.now ≡ codes_of c.args.kept.now ++ demanded_codes c.args.demands.now = c.deref.ensures.value ∙ c.in_ok-codes.ensures in
    let rows = rw c.new-due.ensures at c.in_ok-board.ensures.board.0 in
    λ k d lt. due_in c.args.book.now c.args.kept.now c.args.demands.now c.deref.result.now c.in_ok-board.board.rows _ c.requires.systems rows codes (c.requires.demands k d lt) (is_in_at c.args.demands.now k d lt)

pub returns-clause-rows : goal.returns-clause-rows
returns-clause-rows g c =
    let codes : c.deref.result.now ≡ codes_of c.args.kept.now ++ demanded_codes c.args.demands.now = c.deref.ensures.value ∙ c.in_ok-codes.ensures in
    let rows = rw c.new-due.ensures at c.in_ok-board.ensures.board.0 in
    let ready = c.sweep.ensures.ready.seat_of in
    let f = c.in_ok-collect.ensures.ok in
    let items : c.collect.new.into.items ≡ f.0 = f.1 ∙ ap (λ (l : List KeptRow). l ++ f.0) c.new-rows.ensures.items in
    subst (HasRows c.args.book.now c.args.kept.now c.args.demands.now) (sym items)
    (board_rows c.args.book.now c.args.kept.now c.args.demands.now c.deref.result.now c.sweep.new.seat f.0 (ready.for_rows ∙ rows) (ready.from ∙ c.in_ok-board.ensures.board.1) codes c.collect.ensures.knows c.sweep.ensures.all f.2)

pub returns-in_err-collect-clause-ran : goal.returns-in_err-collect-clause-ran
returns-in_err-collect-clause-ran g c =
    let f = g.E.SimEngine in
    let of : EngineIs g.row.E.Denot = record { room = f.room; work = f.work } in
    swept_run {X = g.row.E.Denot} of c.args.book.now c.in_ok-board.board.start c.args.demands.now c.args.tally.now c.sweep.new.tally c.args.engines.now c.sweep.new.engines c.requires.demands c.sweep.ensures.swept

pub returns-in_err-collect-clause-rooms : goal.returns-in_err-collect-clause-rooms
returns-in_err-collect-clause-rooms g c =
    let f = g.E.SimEngine in
    let of : EngineIs g.row.E.Denot = record { room = f.room; work = f.work } in
    rooms_stay {X = g.row.E.Denot} of c.args.book.now c.sweep.ensures.swept.shares c.args.engines.now c.sweep.new.engines c.sweep.ensures.swept.each

pub returns-clause-ran : goal.returns-clause-ran
returns-clause-ran g c =
    let f = g.E.SimEngine in
    let of : EngineIs g.row.E.Denot = record { room = f.room; work = f.work } in
    swept_run {X = g.row.E.Denot} of c.args.book.now c.in_ok-board.board.start c.args.demands.now c.args.tally.now c.sweep.new.tally c.args.engines.now c.sweep.new.engines c.requires.demands c.sweep.ensures.swept

pub returns-clause-rooms : goal.returns-clause-rooms
returns-clause-rooms g c =
    let f = g.E.SimEngine in
    let of : EngineIs g.row.E.Denot = record { room = f.room; work = f.work } in
    rooms_stay {X = g.row.E.Denot} of c.args.book.now c.sweep.ensures.swept.shares c.args.engines.now c.sweep.new.engines c.sweep.ensures.swept.each
