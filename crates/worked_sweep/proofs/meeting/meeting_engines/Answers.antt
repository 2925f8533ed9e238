use Rattle.std.proofs.Common.{[], ◌∷◌, All, sym, subst}
use Rattle.std.proofs.lemmas.List.Elements.{All-append, All-cons, All-nil}
use Rattle.worked_sweep.specs.Trial.{HasTrialRoom}
use Rattle.worked_sweep.proofs.meeting.meeting_engines.Goals as goal

-- one engine more
pub loop-preserved : goal.loop-preserved
loop-preserved c =
    subst (All (λ e. HasTrialRoom c.args.book.now e.engine.room)) (sym c.in_ok-push.ensures.items) (All-append (λ e. HasTrialRoom c.args.book.now e.engine.room) _ _ c.loop.invariant (All-cons (λ e. HasTrialRoom c.args.book.now e.engine.room) _ [] c.in_ok-meeting_engine.ensures (All-nil (λ e. HasTrialRoom c.args.book.now e.engine.room))))
