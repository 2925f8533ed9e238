-- A case as a job, and the table that its rows make.
use Rattle.std.proofs.Common.{◌≡◌, ◌≢◌, ◌∙◌, ap, sym, refl, subst, ℕ, zero, suc, ◌<◌, List, [], ◌∷◌, All, Contains, Some, filter, length, map, min, slice_get, slice_index_or, arith}
use Rattle.std.specs.Cmp.Lexicographic.{slice_cmp}
use Rattle.std.specs.List.{AllPairs, zip}
use Rattle.std.specs.List.Sorted.{IsStrictlySortedBy}
use Rattle.std.specs.Ordering.{nat_cmp}
use Rattle.std.proofs.lemmas.List.{length-map}
use Rattle.std.proofs.lemmas.List.Elements.{All-contains, All-contains_itself, All-map, All-weaker}
use Rattle.std.proofs.lemmas.Option.{get_or_from_slice_get, same_Some, slice_get_within}
use Rattle.std.proofs.lemmas.Slice.Zip.{length-zip}
use Rattle.board_core.specs.declared.row.KeptRow.{KeptRow}
use Rattle.board_core.specs.declared.row.Words.{Words}
use Rattle.cost_terms.specs.CostData as economy
use Rattle.cost_terms.specs.Table.{Table}
use Rattle.cost_terms.specs.declared.entries.Scored.{Scored}
use Rattle.cost_terms.specs.declared.prices.CostData.{CostData}
use Rattle.plan_program.specs.Plans.{layer_at}
use Rattle.plant_data.specs.Rows.{IsRow}
use Rattle.plant_data.specs.declared.row.Limit.{Limit}
use Rattle.sim_engine.specs.Engine.{Run}
use Rattle.sim_engine.specs.Row.{row_of}
use Rattle.sim_sweep.specs.Cases.{AreRising, AreRowsOf, IsJob, IsKept, Job, accepted_layer, accepted_layers, demands_at, is_accepted, kept_row, limit_at, simulated_row}
use Rattle.sim_sweep.specs.Kept.{AreDue, row_words, words_in, words_row}
use Rattle.sim_sweep.specs.declared.demand.Demand.{Demand}
use Rattle.row_shelf.proofs.AskSteps.{all_zip, in_place, one_demand, year_all, year_is}
use Rattle.row_shelf.proofs.EachSteps.{at_place}
use Rattle.row_shelf.proofs.FillSteps.{ones}
use Rattle.row_shelf.specs.Asked.{FitBook, IsAskedIn}
use Rattle.row_shelf.specs.Demands.{case_demands, year_demands}
use Rattle.row_shelf.specs.Shelf.{Holds}
use Rattle.row_shelf.specs.Tables.{FitEconomy, IsTableBy}
use Rattle.year_system.specs.Code.{code_of}
use Rattle.year_system.specs.System.{System}

-- the table of a job by the kept rows, and once more by the simulated rows of any system of which these are the rows
pub record TableOf (kept : List KeptRow) (j : Job) (table : Table) : Type 0 where
  pub layers : table.layers ≡ accepted_layers (kept_row kept) j
  pub simulated : (k : ℕ) (s : System) → k < length j.demands → AreRowsOf s kept (demands_at j k) → layer_at table k ≡ accepted_layer (simulated_row s) (limit_at j k) (demands_at j k)

case_at : (book : List System) (ids : List ℕ) (ys : List (List (List ℕ))) (k id : ℕ) (configs : List (List ℕ)) → slice_get ids k ≡ Some id → slice_get ys k ≡ Some configs
    → slice_index_or (case_demands book ids ys) k [] ≡ year_demands book (id, configs)
case_at book [] ys k id configs a b = cc
case_at book (i ∷ is) [] k id configs a b = cc
case_at book (i ∷ is) (y ∷ ys) zero id configs a b = ap (λ (n : ℕ). year_demands book (n, y)) (same_Some _ _ a) ∙ ap (λ (z : List (List ℕ)). year_demands book (id, z)) (same_Some _ _ b)
case_at book (i ∷ is) (y ∷ ys) (suc k) id configs a b = case_at book is ys k id configs a b

configs_of : (id : ℕ) (s : System) (xs : List (List ℕ)) → map (λ (d : Demand). d.config) (map (one_demand id s) xs) ≡ xs
configs_of id s [] = refl
configs_of id s (x ∷ xs) = ap (λ (t : List (List ℕ)). x ∷ t) (configs_of id s xs)

abbrev scored : System → Demand → Scored
scored s d = record { config = d.config; row = simulated_row s d }

abbrev scored_at : System → List ℕ → Scored
scored_at s x = record { config = x; row = row_of s x }

scored_of : (id : ℕ) (s : System) (xs : List (List ℕ)) → map (scored s) (map (one_demand id s) xs) ≡ map (scored_at s) xs
scored_of id s [] = refl
scored_of id s (x ∷ xs) = ap (λ (t : List Scored). scored_at s x ∷ t) (scored_of id s xs)

case_length : (book : List System) (ids : List ℕ) (ys : List (List (List ℕ))) → FitBook book ids ys → length (case_demands book ids ys) ≡ length ys
case_length book ids ys fit =
    let n = length-map (zip ids ys) (year_demands book) in
    let m : length (zip ids ys) ≡ min (length ids) (length ys) = length-zip ids ys in
    omega (arith, n, m, fit.many)

pub job_is : (book : List System) (ids : List ℕ) (ys : List (List (List ℕ))) (e : CostData) (limits : List Limit) (ds : List (List Demand)) → ds ≡ case_demands book ids ys → FitBook book ids ys → FitEconomy e limits ys
    → IsJob (record { economy = e; limits = limits; demands = ds })
job_is book ids ys e limits ds is fit costs = subst (λ (l : List (List Demand)). IsJob (record { economy = e; limits = limits; demands = l })) (sym is) (record {
  economy = costs.economy;
  limits = costs.many_limits;
  demands = case_length book ids ys fit ∙ costs.many_lists;
  rising = All-map AreRising (year_demands book) (zip ids ys) (all_zip (λ (z : ℕ × List (List ℕ)). AreRising (year_demands book z)) ids ys (λ k id configs a b.
      let s = at_place book id (fit.within k id a) in
      let at : year_demands book (id, configs) ≡ map (one_demand id s.0) configs = year_is book id configs s.0 s.1 in
      subst (IsStrictlySortedBy (slice_cmp nat_cmp)) (sym (ap (map (λ (z : Demand). z.config)) at ∙ configs_of id s.0 configs)) (All-contains (IsStrictlySortedBy (slice_cmp nat_cmp)) ys configs costs.rising (in_place ys k configs b))));
  fit = All-map (All (λ (z : Demand). economy.Fits e z.config)) (year_demands book) (zip ids ys) (all_zip (λ (z : ℕ × List (List ℕ)). All (λ (y : Demand). economy.Fits e y.config) (year_demands book z)) ids ys (λ k id configs a b.
      let s = at_place book id (fit.within k id a) in
      year_all (λ (y : Demand). economy.Fits e y.config) book id configs s.0 s.1 (λ x has. All-contains (economy.Fits e) configs x (All-contains (All (economy.Fits e)) ys configs costs.fit (in_place ys k configs b)) has)));
})

-- the row of an asked key lies under its code
row_at : (book : List System) (kept : List KeptRow) (ids : List ℕ) (ys : List (List (List ℕ))) (k id : ℕ) (s : System) (configs : List (List ℕ)) (x : List ℕ) → AllPairs (λ t u. t ≢ u) book
    → ((key : Run) → IsAskedIn book ids ys key → Holds (record { book = book; kept = kept }) key)
    → slice_get ids k ≡ Some id → slice_get book id ≡ Some s → slice_get ys k ≡ Some configs → Contains configs x → words_in kept (code_of id s x) ≡ Some (row_words (row_of s x))
row_at book kept ids ys k id s configs x apart held a at b has =
    let h = held (s, x) (record { year = k; id = id; configs = configs; number = a; system = at; list = b; listed = has }) in
    ap (λ (n : ℕ). words_in kept (code_of n s x)) (ones book apart id h.id s at h.at) ∙ h.row

pub case_kept : (book : List System) (kept : List KeptRow) (ids : List ℕ) (ys : List (List (List ℕ))) (ds : List (List Demand)) → ds ≡ case_demands book ids ys → FitBook book ids ys → AllPairs (λ t u. t ≢ u) book → AreDue book kept
    → ((key : Run) → IsAskedIn book ids ys key → Holds (record { book = book; kept = kept }) key) → All (All (IsKept kept)) ds
case_kept book kept ids ys ds is fit apart due held = subst (All (All (IsKept kept))) (sym is)
    (All-map (All (IsKept kept)) (year_demands book) (zip ids ys) (all_zip (λ (z : ℕ × List (List ℕ)). All (IsKept kept) (year_demands book z)) ids ys (λ k id configs a b.
    let s = at_place book id (fit.within k id a) in
    year_all (IsKept kept) book id configs s.0 s.1 (λ x has.
    let words : Words = row_words (row_of s.0 x) in
    let here : words_in kept (code_of id s.0 x) ≡ Some words = row_at book kept ids ys k id s.0 configs x apart held a s.1 b has in
    let d = due (code_of id s.0 x) words here in
    record { words = words; kept = here; bounds = subst (λ (w : Words). IsRow (words_row w)) (sym d.is) d.bounds }))))

pub table_is : (book : List System) (kept : List KeptRow) (ids : List ℕ) (ys : List (List (List ℕ))) (e : CostData) (limits : List Limit) (j : Job) (table : Table) → FitBook book ids ys → FitEconomy e limits ys → AllPairs (λ t u. t ≢ u) book
    → ((key : Run) → IsAskedIn book ids ys key → Holds (record { book = book; kept = kept }) key) → j ≡ record { economy = e; limits = limits; demands = case_demands book ids ys } → TableOf kept j table → IsTableBy book ids ys limits table
table_is book kept ids ys e limits j table fit costs apart held is settles =
    let t = subst (λ (z : Job). TableOf kept z table) is settles in
    let n = case_length book ids ys fit in
    let pairs : length (zip limits (case_demands book ids ys)) ≡ min (length limits) (length (case_demands book ids ys)) = length-zip limits (case_demands book ids ys) in
    record {
      many = ap length t.layers ∙ length-map (zip limits (case_demands book ids ys)) (λ (y : Limit × List Demand). accepted_layer (kept_row kept) y.0 y.1) ∙ omega (arith, pairs, n, costs.many_limits, costs.many_lists);
      layers = λ k id s l configs a at lim b.
          let demands : slice_index_or (case_demands book ids ys) k [] ≡ map (one_demand id s) configs = case_at book ids ys k id configs a b ∙ year_is book id configs s at in
          let w = slice_get_within ys k configs b in
          let inside : k < length (case_demands book ids ys) = omega (arith, w, n) in
          let rows : AreRowsOf s kept (slice_index_or (case_demands book ids ys) k []) = subst (AreRowsOf s kept) (sym demands) (All-map (λ (z : Demand). words_in kept z.code ≡ Some (row_words (simulated_row s z))) (one_demand id s) configs
          (All-weaker (Contains configs) (λ (x : List ℕ). words_in kept (code_of id s x) ≡ Some (row_words (row_of s x))) (λ x has. row_at book kept ids ys k id s configs x apart held a at b has) configs (All-contains_itself configs))) in
          let limit_is : slice_index_or limits k (record { worst = 0; average = 0 }) ≡ l = get_or_from_slice_get limits k l (record { worst = 0; average = 0 }) lim in
          t.simulated k s inside rows
          ∙ ap (λ (ds : List Demand). accepted_layer (simulated_row s) (slice_index_or limits k (record { worst = 0; average = 0 })) ds) demands
          ∙ ap (λ (m : Limit). accepted_layer (simulated_row s) m (map (one_demand id s) configs)) limit_is
          ∙ ap (filter (λ (z : Scored). is_accepted z.row l)) (scored_of id s configs);
    }
