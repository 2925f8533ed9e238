use Rattle.std.proofs.Common.{◌∙◌, ap, sym, subst, ℕ, List, Err}
use Rattle.deck_lines.specs.Deck.{body_of}
use Rattle.case_study.specs.Keys.{DemandsUnder}
use Rattle.case_study.specs.Listings.{AreWithin}
use Rattle.case_study.specs.Studies.{AreYearLists, HasYears}
use Rattle.deck_tellings.proofs.CheckSteps.{case_learns, case_lost, over_learns}
use Rattle.deck_tellings.proofs.LearnSteps.{lost_none, lost_of}
use Rattle.deck_tellings.proofs.ListedKeys.{case_within}
use Rattle.deck_tellings.proofs.StudyOn.{case_on}
use Rattle.deck_tellings.proofs.WhereErr.{on_err}
use Rattle.deck_tellings.proofs.answer.answer_under.Goals as goal

pub returns-in_err-systems-clause-err : goal.returns-in_err-systems-clause-err
returns-in_err-systems-clause-err g c =
    let d = body_of c.args.asked.typed.now in
    let k = c.args.asked.case in
    on_err _ _ (lost_none {X = g.row.E.Denot} (AreWithin d k c.args.asked.tunnels.now) (DemandsUnder d k c.args.asked.tunnels.now) d c.args.memory.now g.E.SimEngine.work c.args.engines.now)

pub returns-in_err-ids-in-Ok-clause-err : goal.returns-in_err-ids-in-Ok-clause-err
returns-in_err-ids-in-Ok-clause-err g c =
    let d = body_of c.args.asked.typed.now in
    let k = c.args.asked.case in
    let are = c.in-Ok.ensures.lists in
    on_err _ _ (case_lost {X = g.row.E.Denot} d k c.args.asked.tunnels.now c.in-Ok.lists c.args.memory.now c.learn.new.self g.E.SimEngine.work c.args.engines.now c.learn.new.engines c.requires.low c.requires.high are c.in_err-ids-in-Ok.ensures.err)

pub new-study-requires : goal.new-study-requires
new-study-requires g c =
    let d = body_of c.args.asked.typed.now in
    let k = c.args.asked.case in
    record {
      typed = c.years-years.ensures.valid;
      case = (c.requires.low, c.requires.high);
      tunnels = c.requires.tunnels;
      lists = subst (λ (l : List (List (List ℕ))). AreYearLists d k c.args.asked.tunnels.now l) (sym c.as_slice.ensures) c.in-Ok.ensures.lists;
    }

pub table_of-requires : goal.table_of-requires
table_of-requires g c =
    let d = body_of c.args.asked.typed.now in
    let k = c.args.asked.case in
    let t = c.args.asked.tunnels.now in
    record {
      on = case_on {X = g.row.E.Denot} c.args.asked.typed.now k t c.in-Ok.lists c.deref-in-Ok.result.now c.new-study.result c.shelf.result.now c.args.memory.now c.learn.new.self g.E.SimEngine.work c.args.engines.now c.learn.new.engines
          (c.new-study.ensures ∙ ap (λ (l : List (List (List ℕ))). record { deck = c.args.asked.typed.now; case = k; tunnels = t; lists = l; ids = c.deref-in-Ok.result.now }) c.as_slice.ensures)
          c.shelf.ensures.value c.in-Ok.ensures.lists
          (subst (λ (ids : List ℕ). HasYears d c.learn.new.self.shelf.book ids) (sym c.deref-in-Ok.ensures.value) c.in_ok-ids-in-Ok.ensures.numbers) c.in_ok-ids-in-Ok.ensures.learns;
    }

pub returns-in_err-table_of-in-Ok-clause-err : goal.returns-in_err-table_of-in-Ok-clause-err
returns-in_err-table_of-in-Ok-clause-err g c =
    let d = body_of c.args.asked.typed.now in
    let k = c.args.asked.case in
    let are = c.in-Ok.ensures.lists in
    on_err _ _ (lost_of {X = g.row.E.Denot} (AreWithin d k c.args.asked.tunnels.now) (DemandsUnder d k c.args.asked.tunnels.now) d c.args.memory.now c.learn.new.self g.E.SimEngine.work c.args.engines.now c.learn.new.engines 0 (case_learns {X = g.row.E.Denot} d k c.args.asked.tunnels.now c.in-Ok.lists c.args.memory.now c.learn.new.self g.E.SimEngine.work c.args.engines.now c.learn.new.engines c.requires.low c.requires.high are c.in_ok-ids-in-Ok.ensures.learns))

pub returns-in-Ok-clause-answer : goal.returns-in-Ok-clause-answer
returns-in-Ok-clause-answer g c =
    let d = body_of c.args.asked.typed.now in
    let k = c.args.asked.case in
    let are = c.in-Ok.ensures.lists in
    record {
      within = case_within d k c.args.asked.tunnels.now c.in-Ok.lists are;
      is = rw c.new-study.ensures at c.in_ok-table_of-in-Ok.ensures.table;
      width = rw c.new-study.ensures at c.in_ok-table_of-in-Ok.ensures.width;
    }

pub returns-in-Ok-clause-learns : goal.returns-in-Ok-clause-learns
returns-in-Ok-clause-learns g c =
    let d = body_of c.args.asked.typed.now in
    let k = c.args.asked.case in
    let are = c.in-Ok.ensures.lists in
    case_learns {X = g.row.E.Denot} d k c.args.asked.tunnels.now c.in-Ok.lists c.args.memory.now c.learn.new.self g.E.SimEngine.work c.args.engines.now c.learn.new.engines c.requires.low c.requires.high are c.in_ok-ids-in-Ok.ensures.learns

pub returns-in-Err-OutOfMemory-clause-err : goal.returns-in-Err-OutOfMemory-clause-err
returns-in-Err-OutOfMemory-clause-err g c =
    let d = body_of c.args.asked.typed.now in
    let k = c.args.asked.case in
    lost_none {X = g.row.E.Denot} (AreWithin d k c.args.asked.tunnels.now) (DemandsUnder d k c.args.asked.tunnels.now) d c.args.memory.now g.E.SimEngine.work c.args.engines.now

pub returns-clause-learns : goal.returns-clause-learns
returns-clause-learns g c =
    let d = body_of c.args.asked.typed.now in
    let k = c.args.asked.case in
    let r = c.in-Err-Over.refusal in
    let over = c.in-Err-Over.ensures.over r (ap (λ z. Err z) c.in-Err-Over.field-0-is) in
    over_learns {X = g.row.E.Denot} d k c.args.asked.tunnels.now r c.args.memory.now g.E.SimEngine.work c.args.engines.now c.listings_are_one.ensures over
