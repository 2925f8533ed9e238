use Rattle.std.proofs.Common.{List, take, arith, subst}
use Rattle.board_core.specs.declared.row.KeptRow.{KeptRow}
use Rattle.board_core.specs.Rows.{codes_of}
use Rattle.board_core.specs.Start.{LaysRows}
use Rattle.board_core.specs.Laid.{IsLaid}
use Rattle.board_core.proofs.Lists.{is_in_at}
use Rattle.board_core.proofs.Laying.{not_before, codes_more, lays_more}
use Rattle.board_core.proofs.lay.lay_rows.Goals as goal

pub lay_row-requires-clause-row : goal.lay_row-requires-clause-row
lay_row-requires-clause-row c = (c.requires.due _ (is_in_at c.args.kept.now c.loop-k.k _ (omega arith)), not_before c.args.kept.now c.loop-k.k _ (omega arith) c.requires.once)

pub loop-k-preserved : goal.loop-k-preserved
loop-k-preserved c =
    let e = codes_more c.args.kept.now c.loop-k.k _ (omega arith) in
    record {
      laid = subst (λ (l : List KeptRow). IsLaid c.args.bits c.args.due.now (codes_of l) c.lay_row.new.slots) e c.lay_row.ensures.laid;
      placed = subst (λ (l : List KeptRow). LaysRows c.args.bits c.args.slots.now l c.lay_row.new.slots) e (lays_more c.args.bits c.args.slots.now c.loop-k.slots c.lay_row.new.slots (take c.loop-k.k c.args.kept.now) _ c.loop-k.invariant.placed c.lay_row.ensures.placed);
    }
