use Rattle.std.proofs.Common.{sym, ap, subst, refl, ◌∙◌, List, []}
use Rattle.board_core.specs.declared.row.KeptRow.{KeptRow}
use Rattle.board_core.specs.Lists.{IsIn}
use Rattle.board_core.specs.Rows.{codes_of, due_word}
use Rattle.board_core.specs.Trial.{same}
use Rattle.sim_board.proofs.Starts.{codes_rows, due_rows}
use Rattle.worked_store.proofs.board.place_one.Goals as goal

pub place-requires-clause-code : goal.place-requires-clause-code
place-requires-clause-code c κs =
    subst (λ (r : List KeptRow). IsIn c.args.code (codes_of r)) (sym c.requires.trial.rows) (subst (IsIn c.args.code) (sym (codes_rows same c.args.codes.now)) c.requires.code)

pub fill-requires-clause-hand : goal.fill-requires-clause-hand
fill-requires-clause-hand c =
    let a = c.in-Mine.ensures.answer in
    let code = c.args.code in (
      record { slot = c.in-Mine.slot; written = [] },
      record {
        code = code;
        hand = a.1.hand;
        none = refl;
        saw = a.1.saw;
        due = λ at lt. sym (ap (λ (r : List KeptRow). due_word r code at) (a.1.rows ∙ c.requires.trial.rows) ∙ due_rows same c.args.codes.now code at c.requires.code);
      },
    )
