use Rattle.std.proofs.Common.{◌≡◌, ◌∙◌, refl, sym, subst, ℕ, ◌+◌, ◌<◌, All, List, [], ◌∷◌, length, get_or, arith}
use Rattle.std.proofs.lemmas.List.Elements.{All-push}
use Rattle.cost_terms.specs.Cost.{nothing_built}
use Rattle.cost_terms.specs.CostData.{Fits}
use Rattle.cost_terms.specs.Table.{IsEntry}
use Rattle.cost_terms.specs.declared.prices.CostData.{CostData}
use Rattle.checked_deck.specs.Economy.{costs}
use Rattle.deck_check.specs.Readings.{greatest, years}
use Rattle.deck_lines.specs.Deck.{body_of}
use Rattle.report_text.specs.ReadBack.{IsPrintableYear}
use Rattle.report_text.specs.Report.{HasWidths}
use Rattle.case_study.specs.Case.{IsYearOf}
use Rattle.case_study.proofs.DetailSteps.{details_then, detailed_then, raised_more}
use Rattle.case_study.proofs.PlanSteps.{entry_is, grows_from, last_of, length_is, row_is, years_more}
use Rattle.case_study.proofs.YearSteps.{before_more, configs_more, last_is, placed_in, read_at, year_place, years_long}
use Rattle.case_study.proofs.planned.plan_years.Goals as goal

pub entry_in-entry-requires : goal.entry_in-entry-requires
entry_in-entry-requires g c =
    let t = c.args.table.now in
    let k = c.loop-k.k in
    let is = c.requires.chosen.1 in
    let in_layers : k < length t.layers = omega (arith, c.loop-k-test.true, length_is t c.args.configs.now c.requires.chosen.0 is) in
    year_place t c.args.configs.now c.requires.chosen.0 k c.entries.result.now c.index-configs-k.result is c.loop-k-test.true
    (c.entries.ensures.value ∙ read_at t.layers c.layers-layers.result.now k c.index-layers-k.result [] c.layers-layers.ensures.value in_layers c.index-layers-k.is)
    (read_at c.args.configs.now c.args.configs.now k c.index-configs-k.result [] refl c.loop-k-test.true c.index-configs-k.is)

pub plan_year-requires-clause-entry : goal.plan_year-requires-clause-entry
plan_year-requires-clause-entry g c κs w =
    let t = c.args.table.now in
    let k = c.loop-k.k in
    let in_layers : k < length t.layers = omega (arith, c.loop-k-test.true, length_is t c.args.configs.now c.requires.chosen.0 c.requires.chosen.1) in
    let placed = placed_in t k c.entries.result.now c.index-configs-k.result c.entry_in-entry.result
    (c.entries.ensures.value ∙ read_at t.layers c.layers-layers.result.now k c.index-layers-k.result [] c.layers-layers.ensures.value in_layers c.index-layers-k.is) c.entry_in-entry.ensures in
    subst (λ (e : CostData). IsEntry e c.entry_in-entry.result) (sym c.economy-economy.ensures.value)
    (entry_is t k c.index-configs-k.result c.entry_in-entry.result c.economy-economy.ensures.valid in_layers placed)

pub plan_year-requires-clause-grows : goal.plan_year-requires-clause-grows
plan_year-requires-clause-grows g c κs w =
    let configs = c.args.configs.now in
    grows_from c.args.table.now configs c.requires.chosen.0 c.loop-k.k c.loop-k.before c.entry_in-entry.result.config c.requires.chosen.1 c.loop-k-test.true c.loop-k.invariant.before
    (c.entry_in-entry.ensures.config ∙ read_at configs configs c.loop-k.k c.index-configs-k.result [] refl c.loop-k-test.true c.index-configs-k.is)

pub plan_year-requires-clause-row : goal.plan_year-requires-clause-row
plan_year-requires-clause-row g c κs w =
    let d = body_of c.args.study.now.deck in
    let t = c.args.table.now in
    let k = c.loop-k.k in
    let long = length_is t c.args.configs.now c.requires.chosen.0 c.requires.chosen.1 in
    let in_layers : k < length t.layers = omega (arith, c.loop-k-test.true, long) in
    let in_years : k < years d = omega (arith, c.loop-k-test.true, long, c.requires.table.many) in
    let placed = placed_in t k c.entries.result.now c.index-configs-k.result c.entry_in-entry.result
    (c.entries.ensures.value ∙ read_at t.layers c.layers-layers.result.now k c.index-layers-k.result [] c.layers-layers.ensures.value in_layers c.index-layers-k.is) c.entry_in-entry.ensures in
    row_is d c.args.study.now.case k c.args.study.now.tunnels t c.index-configs-k.result c.entry_in-entry.result c.requires.table in_years placed

pub returns-in_err-plan_year-clause-gone : goal.returns-in_err-plan_year-clause-gone
returns-in_err-plan_year-clause-gone g c = detailed_then _ _ _ c.loop-k.invariant.gone c.plan_year.ensures.gone

pub returns-in_err-push-clause-gone : goal.returns-in_err-push-clause-gone
returns-in_err-push-clause-gone g c = detailed_then _ _ _ c.loop-k.invariant.gone c.plan_year.ensures.gone

pub returns-clause-printable : goal.returns-clause-printable
returns-clause-printable g c = subst (All IsPrintableYear) (sym c.new.ensures) c.loop-k.invariant.printable

pub loop-k-preserved : goal.loop-k-preserved
loop-k-preserved g c =
    let d = body_of c.args.study.now.deck in
    let tunnels = c.args.study.now.tunnels in
    let e = g.E.SimEngine in
    let t = c.args.table.now in
    let l = c.loop-k in
    let k = l.k in
    let configs = c.args.configs.now in
    let y = c.in_ok-plan_year.field-0 in
    let ys = l.years.items in
    let start = nothing_built (costs d) in
    let in_layers : k < length t.layers = omega (arith, c.loop-k-test.true, length_is t configs c.requires.chosen.0 c.requires.chosen.1) in
    let placed = placed_in t k c.entries.result.now c.index-configs-k.result c.entry_in-entry.result
    (c.entries.ensures.value ∙ read_at t.layers c.layers-layers.result.now k c.index-layers-k.result [] c.layers-layers.ensures.value in_layers c.index-layers-k.is) c.entry_in-entry.ensures in
    let entry = entry_is t k c.index-configs-k.result c.entry_in-entry.result c.economy-economy.ensures.valid in_layers placed in
    let here : c.entry_in-entry.result.config ≡ get_or configs k [] =
    c.entry_in-entry.ensures.config ∙ read_at configs configs k c.index-configs-k.result [] refl c.loop-k-test.true c.index-configs-k.is in
    let at : y.config ≡ get_or configs k [] = c.in_ok-plan_year.ensures.config ∙ here in
    let next : c.index-configs-k-in-loop-k.result ≡ get_or configs k [] =
    read_at configs configs k c.index-configs-k-in-loop-k.result [] refl c.loop-k-test.true c.index-configs-k-in-loop-k.is in
    let long : length ys ≡ k = years_long ys configs k (omega (arith, c.loop-k-test.true)) l.invariant.configs in
    let year : IsYearOf d (k + 1) tunnels (last_of start ys) y = subst (λ (x : List ℕ). IsYearOf d (k + 1) tunnels x y) l.invariant.last c.in_ok-plan_year.ensures.year in
    let first = e.work c.args.engine.now in
    let old = e.work l.engine in
    let new = e.work c.plan_year.new.engine in
    rw c.in_ok-push.ensures.items
    (record {
      years = years_more d 1 (k + 1) tunnels start ys y (omega (arith, long)) l.invariant.years year;
      configs = configs_more ys y configs k c.loop-k-test.true l.invariant.configs at;
      last = last_is start ys y c.index-configs-k-in-loop-k.result (next ∙ sym at);
      before = before_more (nothing_built t.economy) configs k c.index-configs-k-in-loop-k.result next;
      wide = All-push (HasWidths (greatest d)) ys y l.invariant.wide c.in_ok-plan_year.ensures.widths;
      printable = All-push IsPrintableYear ys y l.invariant.printable c.in_ok-plan_year.ensures.printable;
      fits = subst (Fits t.economy) (here ∙ sym next) entry.fits;
      detailed = raised_more k first.detailed old.detailed new.detailed l.invariant.detailed c.in_ok-plan_year.ensures.detailed;
      work = details_then first old new l.invariant.work c.plan_year.ensures.work;
      gone = detailed_then (first ∷ []) (old ∷ []) (new ∷ []) l.invariant.gone c.plan_year.ensures.gone;
    })
