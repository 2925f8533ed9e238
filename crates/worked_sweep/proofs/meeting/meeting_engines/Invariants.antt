use Rattle.std.proofs.Common.{All}
use Rattle.worked_sweep.specs.Trial.{HasTrialRoom}
use Rattle.worked_sweep.proofs.meeting.meeting_engines.Given as goal

abbrev pub invariant-loop : goal.invariant-loop
invariant-loop l = All (λ e. HasTrialRoom l.book e.engine.room) l.engines.items
