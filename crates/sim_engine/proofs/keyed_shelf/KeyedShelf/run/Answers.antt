use Rattle.std.proofs.Common.{◌≡◌, subst}
use Rattle.std.specs.Prelude.{IfSome}
use Rattle.wasp_fixed.specs.Curves.{cell}
use Rattle.sim_fast.specs.Turns.{ShelfView}
use Rattle.sim_engine.specs.Laid.{period_with}
use Rattle.sim_engine.specs.Loading.{lolp, unserved}
use Rattle.sim_engine.proofs.keyed_shelf.KeyedShelf.run.Goals as goal

pub returns-clause-lolp : goal.returns-clause-lolp
returns-clause-lolp c =
    subst (λ (v : ShelfView). IfSome c.run_turns.result (λ m. m.lolp ≡ lolp (period_with (cell v.load) c.args.blocks.now c.args.available.now c.args.top c.args.step c.args.hours))) c.self.view_is c.run_turns.ensures.lolp

pub returns-clause-unserved : goal.returns-clause-unserved
returns-clause-unserved c =
    subst (λ (v : ShelfView). IfSome c.run_turns.result (λ m. m.unserved ≡ unserved (period_with (cell v.load) c.args.blocks.now c.args.available.now c.args.top c.args.step c.args.hours))) c.self.view_is c.run_turns.ensures.unserved
