use Rattle.std.proofs.Common.{arith, ◌≡◌, ◌∙◌, ◌+◌, ◌<◌, ap, sym, subst, ℕ, List, [], ◌∷◌, length, refl}
use Rattle.std.proofs.lemmas.List.{length-append}
use Rattle.cost_terms.specs.Table.{Table}
use Rattle.deck_lines.specs.Deck.{body_of}
use Rattle.deck_tellings.specs.Inner.{AreTablesFrom, IsOwnTable}
use Rattle.case_study.specs.Listings.{AreTunnels, Tunnels, deck_tunnels}
use Rattle.case_study.specs.Studies.{IsOn, StudyIs}
use Rattle.deck_tellings.proofs.CaseStudies.{study_is, study_on}
use Rattle.deck_tellings.proofs.CaseTables.{own_table, tables_more}
use Rattle.case_study.proofs.YearSteps.{read_at}
use Rattle.deck_tellings.proofs.plan.tables_of.Goals as goal

pub new-study-requires : goal.new-study-requires
new-study-requires c =
    let s = c.args.plan.now in
    let typed = c.typed-typed.result.now in
    let k = c.loop-c.c in
    let within : k < length s.cases = subst (λ xs. k < length xs) c.cases-cases.ensures.value c.loop-c-test.true in
    study_is s _ k c.typed-typed.ensures.valid c.typed-typed.ensures.value refl within
    (c.as_slice.ensures ∙ read_at s.cases c.cases-cases.result.now k c.index-cases-c.result [] c.cases-cases.ensures.value within c.index-cases-c.is)
    (c.deref.ensures.value ∙ c.in_ok-tunnels.ensures.own)
    (subst (λ (ts : Tunnels). AreTunnels (body_of typed) ts) (sym c.deref.ensures.value) c.in_ok-tunnels.ensures.tunnels)

pub table_of-requires : goal.table_of-requires
table_of-requires c =
    record {
      on = subst (IsOn c.args.shelf.now) (sym c.new-study.ensures)
          (study_on c.args.shelf.now c.args.plan.now _ c.requires.on c.typed-typed.ensures.value c.ids.ensures.value (c.deref.ensures.value ∙ c.in_ok-tunnels.ensures.own));
    }

pub loop-c-preserved : goal.loop-c-preserved
loop-c-preserved c =
    let d = body_of c.args.plan.now.deck in
    let k = c.loop-c.c in
    let before = c.loop-c.invariant in
    let t : Table = c.in_ok-table_of.field-0 in
    let s : StudyIs = c.new-study.result in
    let own = own_table s c.args.plan.now.deck (k + 1) t
    (ap (λ (z : StudyIs). z.deck) c.new-study.ensures ∙ c.typed-typed.ensures.value) (ap (λ (z : StudyIs). z.case) c.new-study.ensures)
    (subst (λ (z : StudyIs). z.tunnels ≡ deck_tunnels (body_of z.deck) z.case) (sym c.new-study.ensures) (c.deref.ensures.value ∙ c.in_ok-tunnels.ensures.own))
    c.in_ok-table_of.ensures.table c.in_ok-table_of.ensures.width in
    let at : k + 1 ≡ length c.loop-c.tables.items + 1 = omega (arith, before.many) in
    record {
      many = ap length c.in_ok-push.ensures.items ∙ length-append c.loop-c.tables.items (t ∷ []) ∙ omega (arith, before.many);
      tables = subst (λ (ts : List Table). AreTablesFrom d 1 ts) (sym c.in_ok-push.ensures.items)
          (tables_more d 1 c.loop-c.tables.items t before.tables (subst (λ (n : ℕ). IsOwnTable d n t) at own));
    }
