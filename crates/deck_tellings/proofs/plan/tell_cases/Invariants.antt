use Rattle.std.proofs.Common.{◌≡◌, ◌+◌, [], ◌∷◌, length, map}
use Rattle.deck_lines.specs.Deck.{body_of}
use Rattle.sim_sweep.specs.Cases.{Done}
use Rattle.deck_tellings.specs.Inner.{AreTablesFrom, GoesOn, TellsBy}
use Rattle.case_study.specs.Inner.{HaveDetailed}
use Rattle.deck_tellings.specs.Said.{AreCasesTold}
use Rattle.deck_tellings.proofs.plan.tell_cases.Given as goal

abbrev pub invariant-loop-c : goal.invariant-loop-c
invariant-loop-c g l =
    let e = g.E.SimEngine in
    record {
      many : l.c + length l.dones.items ≡ length l.plan.cases;
      tables : AreTablesFrom (body_of l.plan.deck) (l.c + 1) (map (λ (done : Done). done.table) l.dones.items);
      told : TellsBy (AreCasesTold (body_of l.plan.deck) l.c) (e.work l.initial.engine) (e.work l.engine) l.initial.text l.text;
      gone : HaveDetailed (e.work l.initial.engine ∷ []) (e.work l.engine ∷ []);
      goes_on : GoesOn l.initial.text l.text;
    }
