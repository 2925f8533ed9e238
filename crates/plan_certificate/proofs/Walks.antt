-- The chosen configurations, walked year by year.
use Rattle.std.proofs.Common.{◌≡◌, ℕ, suc, ◌+◌, ◌-◌, ◌<◌, List, [], ◌∷◌, ◌++◌, length, get_or, take, reverse, sym, ap, ◌∙◌, arith, subst, ⊎_elim}
use Rattle.std.proofs.Math.ListN.{get_or-map}
use Rattle.std.proofs.Math.Seq.{take-suc}
use Rattle.std.proofs.lemmas.Bool.{cases_eq}
use Rattle.std.proofs.lemmas.List.{length-map, take_all}
use Rattle.plant_data.specs.Configs.{IsAtMost}
use Rattle.cost_terms.specs.Cost.{step_cost}
use Rattle.cost_terms.specs.Table.{IsTable, Table, plan_cost}
use Rattle.cost_terms.specs.declared.entries.Scored.{Scored}
use Rattle.plan_program.specs.Plans.{configs, entry_at, no_entry}
use Rattle.plan_program.specs.Ways.{last_config}
use Rattle.plan_program.proofs.Orders.{configs_push}
use Rattle.plan_program.proofs.Ways.{cost_same, nothing_least, reverse_more, way_plan}
use Rattle.wasp_fixed.proofs.Lists.{list_ext}
use Rattle.plan_certificate.specs.Certificate.{HasPlanOver, IsAccepted, IsPlanOver}
use Rattle.plan_certificate.specs.Steps.{IsCostOf, StepsTo, WalksTo}
use Rattle.plan_certificate.proofs.Aligned.{one_entry}

step_costs : (t : Table) (k n : ℕ) (before last config : List ℕ) (e : Scored) (old cost : ℕ) → n ≡ k → last ≡ before → e.config ≡ config → step_cost t.economy (k + 1) before config e.row ≡ cost → old + step_cost t.economy (n + 1) last e.config e.row ≡ old + cost
step_costs t k n before last config e old cost h l s c = ap (λ x. old + x) ((λ i. step_cost t.economy (h i + 1) (l i) (s i) e.row) ∙ c)

pub walk_more : (t : Table) (chosen : List (List ℕ)) (k : ℕ) (before config : List ℕ) (old cost : ℕ) → WalksTo t chosen k before old → StepsTo t k before config cost → k < length t.layers → k < length chosen → get_or chosen k [] ≡ config → WalksTo t chosen (k + 1) config (old + cost)
walk_more t chosen k before config old cost w s h b at = record {
  way = s.entry ∷ w.way;
  is_way = (rw w.long h, rw w.long s.accepted, rw w.last (rw s.same s.grows), w.is_way);
  long = omega (arith, w.long);
  told =
      let more : configs (reverse (s.entry ∷ w.way)) ≡ configs (reverse w.way) ++ s.entry.config ∷ [] = ap configs (reverse_more s.entry w.way) ∙ configs_push (reverse w.way) s.entry in
      let next : k + 1 ≡ suc k = omega arith in
      more ∙ ((λ i. w.told i ++ (s.same ∙ sym at) i ∷ []) ∙ (sym (take-suc chosen k [] b) ∙ ap (λ n. take n chosen) (sym next)));
  stands = λ _. sym at ∙ ap (λ n. get_or chosen n []) (omega arith);
  last = s.same;
  costs = (λ i. w.costs i + step_cost t.economy (length w.way + 1) (last_config t.economy w.way) s.entry.config s.entry.row) ∙ step_costs t k (length w.way) before (last_config t.economy w.way) config s.entry old cost w.long w.last s.same s.costs;
}

pub over_long : (t : Table) (chosen : List (List ℕ)) (plan : List Scored) → IsPlanOver t chosen plan → length plan ≡ length chosen
over_long t chosen plan p = sym (length-map plan (λ (s : Scored). s.config)) ∙ ap length p.shown

pub over_at : (t : Table) (chosen : List (List ℕ)) (plan : List Scored) (k : ℕ) → IsPlanOver t chosen plan → (entry_at plan k).config ≡ get_or chosen k []
over_at t chosen plan k p = sym (get_or-map (λ (s : Scored). s.config) plan k no_entry) ∙ ap (λ (xs : List (List ℕ)). get_or xs k []) p.shown

-- one plan has these configurations
pub one_plan : (t : Table) → IsTable t → (chosen : List (List ℕ)) (p q : List Scored) → IsPlanOver t chosen p → IsPlanOver t chosen q → p ≡ q
one_plan t v chosen p q a b =
    let n : length p ≡ length q = over_long t chosen p a ∙ sym (over_long t chosen q b) in
    list_ext no_entry p q n (λ k h. one_entry t v k (entry_at p k) (entry_at q k) (a.admissible.accepted k h) (b.admissible.accepted k (omega (arith, h, n))) (over_at t chosen p k a ∙ sym (over_at t chosen q k b)))

pub walk_done : (t : Table) → IsTable t → (chosen : List (List ℕ)) (k : ℕ) (before : List ℕ) (cost : ℕ) → k ≡ length chosen → WalksTo t chosen k before cost → IsCostOf t chosen cost
walk_done t v chosen k before cost n w =
    let plan = reverse w.way in
    let over : IsPlanOver t chosen plan = record { admissible = way_plan t w.way w.is_way; shown = w.told ∙ (ap (λ m. take m chosen) n ∙ take_all (length chosen) chosen (omega arith)) } in
    ((plan, over), λ other o. ap (λ (xs : List Scored). plan_cost t.economy xs) (one_plan t v chosen other plan o over) ∙ (cost_same t.economy w.way ∙ w.costs))

-- where no step leads on, there is no plan over the configurations
first_before : (t : Table) (way : List Scored) (config before : List ℕ) → length way ≡ 0 → last_config t.economy way ≡ before → IsAtMost before config
first_before t [] config before n e = subst (λ (x : List ℕ). IsAtMost x config) e (nothing_least t.economy config)
first_before t (d ∷ ds) config before n e = absurd (omega (arith, n))

pub walk_fails : (t : Table) (chosen : List (List ℕ)) (k : ℕ) (before config : List ℕ) (cost : ℕ) → WalksTo t chosen k before cost → k < length chosen → get_or chosen k [] ≡ config → (IsAccepted t k config → IsAtMost before config → ⊥) → HasPlanOver t chosen → ⊥
walk_fails t chosen k before config cost w b at none (plan, p) =
    let n = over_long t chosen plan p in
    let same : (entry_at plan k).config ≡ config = over_at t chosen plan k p ∙ at in
    none (entry_at plan k, p.admissible.accepted k (omega (arith, b, n)), same) (⊎_elim
    (λ first. first_before t w.way config before (w.long ∙ first) w.last)
    (λ later.
    let next : k - 1 + 1 ≡ k = omega (arith, later) in
    let grows : IsAtMost (entry_at plan (k - 1)).config (entry_at plan (k - 1 + 1)).config = p.admissible.grows (k - 1) (omega (arith, b, n, later)) in
    let here : (entry_at plan (k - 1 + 1)).config ≡ config = ap (λ m. (entry_at plan m).config) next ∙ same in
    let there : (entry_at plan (k - 1)).config ≡ before = over_at t chosen plan (k - 1) p ∙ sym (w.stands (omega (arith, later))) in
    subst (λ (x : List ℕ). IsAtMost x config) there (subst (λ (x : List ℕ). IsAtMost (entry_at plan (k - 1)).config x) here grows))
    (cases_eq k 0))
