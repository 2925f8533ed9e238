use Rattle.std.proofs.Common.{◌≡◌}
use Rattle.worked_sweep.proofs.meeting.MeetingEngine.meet.Given as goal

abbrev pub invariant-loop : goal.invariant-loop
invariant-loop l = l.self.engine ≡ l.initial.self.engine
