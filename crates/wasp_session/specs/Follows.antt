-- A session that has gone through the lines of a script, for the layer above. This program's own.
use Rattle.std.specs.Prelude.{◌≡◌, List, [], fold}
use Rattle.deck_lines.specs.Deck.{changed}
use Rattle.deck_lines.specs.declared.line.Line.{Line}
use Rattle.row_shelf.specs.Shelf.{HoldsAll}
use Rattle.sim_engine.specs.Engine.{Run}
use Rattle.deck_tellings.specs.Checks.{check_count, open_at}
use Rattle.wasp_session.specs.State.{State}
use Rattle.wasp_session.specs.Tasks.{AreKeys, Task, plan_count}

-- it has their deck, their numbers of PLAN and CHECK lines, their open CHECK, and the rows of these keys, which they
-- demand
pub record Follows (task : Task) (ls : List Line) (keys : List Run) (s : State) : Type 0 where
  pub command : s.command ≡ task.command
  pub deck : s.deck ≡ fold changed [] ls
  pub plans : s.plans ≡ plan_count ls
  pub checks : s.checks ≡ check_count ls
  pub opened : s.opened ≡ open_at ls
  pub are_keys : AreKeys task ls keys
  pub holds : HoldsAll s.memory.shelf keys
