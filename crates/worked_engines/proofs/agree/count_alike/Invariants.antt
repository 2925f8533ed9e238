use Rattle.std.proofs.Common.{◌≡◌}
use Rattle.worked_engines.proofs.agree.count_alike.Given as goal

abbrev pub invariant-loop-n : goal.invariant-loop-n
invariant-loop-n g l =
    record {
      plain : g.P.SimEngine.room l.plain ≡ g.P.SimEngine.room l.initial.plain;
      fast : g.F.SimEngine.room l.fast ≡ g.F.SimEngine.room l.initial.fast;
    }
