use Rattle.std.proofs.Common.{◌≡◌, All, [], ◌∷◌, map, take}
use Rattle.cost_terms.specs.Cost.{nothing_built}
use Rattle.cost_terms.specs.CostData.{Fits}
use Rattle.checked_deck.specs.Economy.{costs}
use Rattle.deck_check.specs.Readings.{greatest}
use Rattle.deck_lines.specs.Deck.{body_of}
use Rattle.report_text.specs.ReadBack.{IsPrintableYear}
use Rattle.report_text.specs.Report.{HasWidths}
use Rattle.report_text.specs.declared.data.PlanYear.{PlanYear}
use Rattle.sim_engine.specs.Engine.{raised}
use Rattle.case_study.specs.Case.{AreYearsFrom}
use Rattle.case_study.specs.Inner.{HaveDetailed, OnlyDetails}
use Rattle.case_study.proofs.PlanSteps.{before_at, last_of}
use Rattle.case_study.proofs.planned.plan_years.Given as goal

abbrev pub invariant-loop-k : goal.invariant-loop-k
invariant-loop-k g l =
    let e = g.E.SimEngine in
    let d = body_of l.study.deck in
    record {
      years : AreYearsFrom d 1 l.study.tunnels (nothing_built (costs d)) l.years.items;
      configs : map (λ (y : PlanYear). y.config) l.years.items ≡ take l.k l.configs;
      last : l.before ≡ last_of (nothing_built (costs d)) l.years.items;
      before : l.before ≡ before_at (nothing_built l.table.economy) l.configs l.k;
      wide : All (HasWidths (greatest d)) l.years.items;
      printable : All IsPrintableYear l.years.items;
      fits : Fits l.table.economy l.before;
      detailed : (e.work l.engine).detailed ≡ raised l.k (e.work l.initial.engine).detailed;
      work : OnlyDetails (e.work l.initial.engine) (e.work l.engine);
      gone : HaveDetailed (e.work l.initial.engine ∷ []) (e.work l.engine ∷ []);
    }
