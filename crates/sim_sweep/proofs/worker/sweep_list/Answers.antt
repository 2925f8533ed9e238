use Rattle.std.proofs.Common.{◌<◌, length, arith, subst, sym}
use Rattle.sim_engine.specs.Engine.{Room}
use Rattle.sim_sweep.specs.Demands.{HasRoomFor}
use Rattle.sim_sweep.specs.Due.{IsDueIn}
use Rattle.sim_sweep.proofs.WorkerSteps.{swept_more, swept_none}
use Rattle.sim_sweep.proofs.worker.sweep_list.Goals as goal

pub loop-demand-init : goal.loop-demand-init
loop-demand-init g c = record { ready = c.requires.ready; swept = swept_none _ c.args.book.now c.args.seat.now c.args.engine.now; got = omega arith; few = omega arith }

pub sweep_one-count-requires-clause-due : goal.sweep_one-count-requires-clause-due
sweep_one-count-requires-clause-due g c κs within =
    let w : c.loop-demand.demand-index < length c.args.demands.now = omega arith in
    subst (IsDueIn c.args.book.now c.args.board.now.rows) (sym c.demand-item.is) (c.requires.due c.loop-demand.demand-index c.demand-item.result w)

pub sweep_one-count-requires-clause-room : goal.sweep_one-count-requires-clause-room
sweep_one-count-requires-clause-room g c κs within =
    let w : c.loop-demand.demand-index < length c.args.demands.now = omega arith in
    subst (λ (room : Room). HasRoomFor room c.args.book.now c.demand-item.result) (sym c.loop-demand.invariant.swept.simulated.room)
    (subst (HasRoomFor (g.E.SimEngine.room c.args.engine.now) c.args.book.now) (sym c.demand-item.is) (c.requires.room c.loop-demand.demand-index c.demand-item.result w))

pub loop-demand-preserved : goal.loop-demand-preserved
loop-demand-preserved g c =
    let i = c.loop-demand.invariant in
    let o = c.sweep_one-count.ensures in
    let w : c.loop-demand.demand-index < length c.args.demands.now = omega arith in
    record {
      ready = o.ready;
      got = omega (arith, i.got, o.got);
      few = omega (arith, i.few, o.few);
      swept = swept_more _ c.args.book.now c.args.demands.now c.loop-demand.demand-index c.demand-item.result c.args.seat.now c.loop-demand.seat _ c.args.engine.now c.loop-demand.engine _ w c.demand-item.is i.swept o.swept;
    }
