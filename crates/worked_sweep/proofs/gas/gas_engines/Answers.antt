use Rattle.std.proofs.Common.{[], ◌∷◌, All, sym, subst}
use Rattle.std.proofs.lemmas.List.Elements.{All-append, All-cons, All-nil}
use Rattle.sim_engine.specs.Engine.{TapeView}
use Rattle.worked_sweep.specs.Trial.{HasTrialRoom}
use Rattle.worked_sweep.proofs.gas.gas_engines.Goals as goal

-- one engine more
pub loop-preserved : goal.loop-preserved
loop-preserved c =
    let P : TapeView → Type 0 = λ e. HasTrialRoom c.args.book.now e.room in
    subst (All P) (sym c.in_ok-push.ensures.items) (All-append P _ _ c.loop.invariant (All-cons P _ [] c.in_ok-gas_engine.ensures (All-nil P)))
