use Rattle.std.proofs.Common.{◌∙◌, arith}
use Rattle.sim_fast.proofs.Steps.{stands-more}
use Rattle.sim_fast.proofs.workbench.load_rest.Goals as goal

pub loop-k-preserved : goal.loop-k-preserved
loop-k-preserved c =
    let v = c.loop-k.invariant in
    let e = c.load.ensures in
    record {
      stands = λ base s.
          stands-more base c.args.turns.now c.loop-k.k _ _ _ _ _ _ (omega (arith, c.loop-k-test.true, c.requires.within)) e.tail e.lower e.upper e.lower_kept e.upper_kept (v.stands base s);
      kept = record {
        room = e.room ∙ v.kept.room;
        places = e.places ∙ v.kept.places;
        shorter = omega (arith, e.len, v.kept.shorter);
      };
    }
