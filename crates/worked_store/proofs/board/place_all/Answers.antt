use Rattle.std.proofs.Common.{arith}
use Rattle.board_core.proofs.Lists.{is_in_at}
use Rattle.worked_store.proofs.board.place_all.Goals as goal

pub place_one-new-requires-clause-code : goal.place_one-new-requires-clause-code
place_one-new-requires-clause-code c = is_in_at c.args.codes.now c.loop-code.code-index 0 (omega arith)
