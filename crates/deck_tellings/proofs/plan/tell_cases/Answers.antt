use Rattle.std.proofs.Common.{arith, ◌∙◌, ◌+◌, ◌<◌, ap, refl, sym, subst, List, [], ◌∷◌, length, map}
use Rattle.deck_lines.specs.Deck.{body_of}
use Rattle.deck_lines.specs.declared.statement.Statement.{Statement}
use Rattle.sim_sweep.specs.Cases.{Done}
use Rattle.deck_tellings.specs.Inner.{AreTablesFrom, IsOwnTable}
use Rattle.case_study.specs.Listings.{AreTunnels, Tunnels}
use Rattle.case_study.specs.Studies.{IsOn, StudyIs}
use Rattle.deck_tellings.proofs.CaseStudies.{study_is, study_on}
use Rattle.deck_tellings.proofs.CaseTables.{first_table, other_tables}
use Rattle.deck_tellings.proofs.CaseTellings.{cases_more, none_told, on_none, on_then, told_of_study}
use Rattle.case_study.proofs.DetailSteps.{detailed_none, detailed_then}
use Rattle.case_study.proofs.YearSteps.{read_at}
use Rattle.deck_tellings.proofs.plan.tell_cases.Goals as goal

pub loop-c-init : goal.loop-c-init
loop-c-init g c =
    record {
      many = omega (arith, c.requires.settled.many);
      tables = c.requires.settled.tables;
      told = none_told (body_of c.args.plan.now.deck) (g.E.SimEngine.work c.args.engine.now) c.args.text.now;
      gone = detailed_none (g.E.SimEngine.work c.args.engine.now ∷ []);
      goes_on = on_none c.args.text.now c.args.text.now refl;
    }

pub new-study-requires : goal.new-study-requires
new-study-requires g c =
    let s = c.args.plan.now in
    let typed = c.typed-typed.result.now in
    let k = c.loop-c.c in
    let within : k < length s.cases = subst (λ xs. k < length xs) c.cases-cases.ensures.value c.loop-c-test.true in
    study_is s _ k c.typed-typed.ensures.valid c.typed-typed.ensures.value refl within
    (c.as_slice.ensures ∙ read_at s.cases c.cases-cases.result.now k c.index-cases-c.result [] c.cases-cases.ensures.value within c.index-cases-c.is)
    (c.deref.ensures.value ∙ c.in_ok-tunnels.ensures.own)
    (subst (λ (ts : Tunnels). AreTunnels (body_of typed) ts) (sym c.deref.ensures.value) c.in_ok-tunnels.ensures.tunnels)

pub tell_case-requires-clause-on : goal.tell_case-requires-clause-on
tell_case-requires-clause-on g c κs w =
    subst (IsOn c.args.shelf.now) (sym c.new-study.ensures)
    (study_on c.args.shelf.now c.args.plan.now _ c.requires.on c.typed-typed.ensures.value c.ids.ensures.value (c.deref.ensures.value ∙ c.in_ok-tunnels.ensures.own))

pub returns-in_err-tell_case-clause-gone : goal.returns-in_err-tell_case-clause-gone
returns-in_err-tell_case-clause-gone g c = detailed_then _ _ _ c.loop-c.invariant.gone c.tell_case.ensures.gone

pub loop-c-preserved : goal.loop-c-preserved
loop-c-preserved g c =
    let e = g.E.SimEngine in
    let k = c.loop-c.c in
    let before = c.loop-c.invariant in
    let one = c.in_ok-tell_case.ensures in
    let first = e.work c.args.engine.now in
    let old = e.work c.loop-c.engine in
    let new = e.work c.tell_case.new.engine in
    let text = c.loop-c.text in
    let text_now = c.tell_case.new.text in
    let told = told_of_study c.new-study.result c.args.plan.now.deck (k + 1) old new text text_now
    (ap (λ (t : StudyIs). t.deck) c.new-study.ensures ∙ c.typed-typed.ensures.value) (ap (λ (t : StudyIs). t.case) c.new-study.ensures) one.told in
    let some : 0 < length c.loop-c.dones.items = omega (arith, before.many, subst (λ xs. k < length xs) c.cases-cases.ensures.value c.loop-c-test.true) in
    record {
      many = omega (arith, before.many, c.remove.ensures.len);
      tables = subst (λ (ds : List Done). AreTablesFrom (body_of c.args.plan.now.deck) (k + 1 + 1) (map (λ (done : Done). done.table) ds)) (sym c.remove.ensures.items)
          (other_tables (body_of c.args.plan.now.deck) (k + 1) c.loop-c.dones.items some before.tables);
      told = cases_more (body_of c.args.plan.now.deck) k first old new c.args.text.now text text_now before.told told;
      gone = detailed_then (first ∷ []) (old ∷ []) (new ∷ []) before.gone one.gone;
      goes_on = on_then c.args.text.now text text_now before.goes_on one.goes_on;
    }

pub tell_case-requires-clause-table : goal.tell_case-requires-clause-table
tell_case-requires-clause-table g c κs w =
    let k = c.loop-c.c in
    let before = c.loop-c.invariant in
    let d = body_of c.args.plan.now.deck in
    let some : 0 < length c.loop-c.dones.items = omega (arith, before.many, subst (λ xs. k < length xs) c.cases-cases.ensures.value c.loop-c-test.true) in
    let first : IsOwnTable d (k + 1) c.remove.result.table =
    subst (λ (x : Done). IsOwnTable d (k + 1) x.table) (sym c.remove.ensures.value) (first_table d (k + 1) c.loop-c.dones.items c.remove.result some before.tables) in
    subst (λ (s : StudyIs). IsOwnTable (body_of s.deck) s.case c.remove.result.table) (sym c.new-study.ensures)
    (subst (λ (deck : List Statement). IsOwnTable (body_of deck) (k + 1) c.remove.result.table) (sym c.typed-typed.ensures.value) first)
