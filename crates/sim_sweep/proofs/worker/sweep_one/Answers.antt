use Rattle.std.proofs.Common.{◌≡◌, refl, subst, sym, ap, ◌∙◌, List, []}
use Rattle.std.specs.Prelude.{slice_index}
use Rattle.board_core.specs.declared.row.KeptRow.{KeptRow}
use Rattle.board_core.specs.declared.row.Words.{Words}
use Rattle.board_core.specs.Rows.{due_word, words_of}
use Rattle.plant_data.specs.declared.row.Row.{Row}
use Rattle.sim_engine.specs.Row.{row_of}
use Rattle.plant_data.specs.Rows.{IsRow}
use Rattle.sim_sweep.specs.Kept.{row_words}
use Rattle.sim_sweep.proofs.WorkerSteps.{got_mine, ran_one, swept_mine, swept_there}
use Rattle.sim_sweep.proofs.worker.sweep_one.Goals as goal

pub fill_slot-requires-clause-hand : goal.fill_slot-requires-clause-hand
fill_slot-requires-clause-hand g c κs within =
    let a = c.in-Mine.ensures.answer in
    let code = c.args.demand.now.code in
    let is : c.words_of.result ≡ row_words (row_of c.get.result.now c.args.demand.now.config) = c.words_of.ensures ∙ ap (λ (r : Row). row_words r) c.simulate-row.ensures.row in (
      record { slot = c.in-Mine.field-0; written = [] },
      record {
        code = code;
        hand = a.1.hand;
        none = refl;
        saw = a.1.saw;
        due = λ at lt. ap (λ (w : Words). slice_index (words_of w) at) is ∙ c.requires.due.words c.get.result.now at c.get.ensures.value lt ∙ ap (λ (r : List KeptRow). due_word r code at) (sym (a.1.rows ∙ c.requires.ready.seat_of.for_rows));
      },
    )

pub returns-in-Mine-clause-swept : goal.returns-in-Mine-clause-swept
returns-in-Mine-clause-swept g c =
    let a = c.in-Mine.ensures.answer in
    let e = c.simulate-row.ensures in
    let ran = ran_one _ c.args.book.now c.args.demand.now c.get.result.now _ _ c.get.ensures.value e.counted e.told e.only_told e.room (subst IsRow e.row e.bounds) in
    swept_mine _ c.args.book.now c.args.seat.now c.place.new.seat c.fill_slot.new.seat c.in-Mine.field-0 c.args.demand.now _ _ a.1 (c.fill_slot.ensures.seat (record { slot = c.in-Mine.field-0; written = [] }) a.1.hand) ran

pub returns-in-There-clause-swept : goal.returns-in-There-clause-swept
returns-in-There-clause-swept g c =
    let a = c.in-There.ensures.answer in
    swept_there _ c.args.book.now c.args.seat.now c.place.new.seat c.in-There.field-0 c.args.demand.now _ a.1 a.2

pub returns-in-Mine-clause-got : goal.returns-in-Mine-clause-got
returns-in-Mine-clause-got g c =
    let a = c.in-Mine.ensures.answer in
    got_mine c.args.seat.now c.place.new.seat c.fill_slot.new.seat c.in-Mine.field-0 c.args.demand.now.code a.1 (c.fill_slot.ensures.seat (record { slot = c.in-Mine.field-0; written = [] }) a.1.hand)
