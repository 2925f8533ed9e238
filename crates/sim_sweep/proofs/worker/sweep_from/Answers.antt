use Rattle.std.proofs.Common.{All, sym, subst}
use Rattle.std.proofs.lemmas.List.Elements.{All-drop, All-same, All-take}
use Rattle.sim_engine.specs.Engine.{Room}
use Rattle.sim_sweep.specs.Demands.{HasRoomFor}
use Rattle.sim_sweep.specs.Due.{IsDueIn}
use Rattle.sim_sweep.proofs.WorkerSteps.{swept_round}
use Rattle.sim_sweep.proofs.worker.sweep_from.Goals as goal

pub sweep_list-first-requires-clause-room : goal.sweep_list-first-requires-clause-room
sweep_list-first-requires-clause-room g c κs within =
    All-same (HasRoomFor (g.E.SimEngine.room c.args.engine.now) c.args.book.now) _ _ c.split_at.ensures.back (All-drop (HasRoomFor (g.E.SimEngine.room c.args.engine.now) c.args.book.now) _ _ c.requires.room)

pub sweep_list-requires-clause-due : goal.sweep_list-requires-clause-due
sweep_list-requires-clause-due g c κs within =
    All-same (IsDueIn c.args.book.now c.args.board.now.rows) _ _ c.split_at.ensures.front (All-take (IsDueIn c.args.book.now c.args.board.now.rows) _ _ c.requires.due)

pub sweep_list-requires-clause-room : goal.sweep_list-requires-clause-room
sweep_list-requires-clause-room g c κs within =
    subst (λ (room : Room). All (HasRoomFor room c.args.book.now) c.split_at.result.0.now) (sym c.sweep_list-first.ensures.swept.simulated.room)
    (All-same (HasRoomFor (g.E.SimEngine.room c.args.engine.now) c.args.book.now) _ _ c.split_at.ensures.front (All-take (HasRoomFor (g.E.SimEngine.room c.args.engine.now) c.args.book.now) _ _ c.requires.room))

pub returns-clause-swept : goal.returns-clause-swept
returns-clause-swept g c =
    swept_round _ c.args.book.now c.args.demands.now _ _ c.args.from c.args.seat.now c.sweep_list-first.new.seat _ c.args.engine.now c.sweep_list-first.new.engine _ c.split_at.ensures.front c.split_at.ensures.back c.sweep_list-first.ensures.swept c.sweep_list.ensures.swept
