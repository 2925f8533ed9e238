-- The table of a case by the rows on a shelf.
use Rattle.std.proofs.Common.{◌≡◌, ◌∙◌, ap, sym, subst, ℕ, ◌+◌, ◌<◌, ◌≤◌, List, All, Contains, length, get_or, arith}
use Rattle.std.specs.Cmp.Lexicographic.{slice_cmp}
use Rattle.std.specs.List.Sorted.{IsStrictlySortedBy}
use Rattle.std.specs.Ordering.{nat_cmp}
use Rattle.std.proofs.lemmas.List.Elements.{All-contains_itself, All-weaker}
use Rattle.std.proofs.lemmas.Option.{same_Some, slice_get_within}
use Rattle.checked_deck.specs.Economy.{costs}
use Rattle.checked_deck.specs.Systems.{system}
use Rattle.cost_terms.specs.CostData.{IsEconomy, greatest as candidate_counts}
use Rattle.cost_terms.specs.CostData as economy
use Rattle.cost_terms.specs.Table.{Table}
use Rattle.cost_terms.specs.declared.prices.CostData.{CostData}
use Rattle.deck_check.specs.Readings as says
use Rattle.deck_check.specs.Readings.{Says, years}
use Rattle.deck_lines.specs.Deck.{body_of}
use Rattle.deck_lines.specs.declared.statement.Statement.{Statement}
use Rattle.plant_data.specs.declared.row.Limit.{Limit}
use Rattle.row_shelf.proofs.EachSteps.{at_place}
use Rattle.row_shelf.specs.Asked.{FitBook, IsAskedIn}
use Rattle.row_shelf.specs.Shelf.{Holds, ShelfIs}
use Rattle.row_shelf.specs.Tables.{FitEconomy, IsTableBy, accepted_of}
use Rattle.sim_engine.specs.Engine.{Run}
use Rattle.case_study.proofs.ListSteps.{fit_years, its_place}
use Rattle.case_study.specs.Case.{IsTableOf}
use Rattle.case_study.specs.Inner.{AreLimits}
use Rattle.case_study.specs.Keys.{IsCaseKey}
use Rattle.case_study.specs.Listings.{Tunnels}
use Rattle.case_study.specs.Studies.{AreYearLists, HasYears, IsOn, IsStudy, StudyIs}
use Rattle.year_system.specs.System.{Fits, System, greatest}
use Rattle.std.proofs.Common.{slice_get, slice_index}
use Rattle.std.proofs.lemmas.Option.{get_or_from_slice_get}
use Rattle.case_study.specs.Inner.{FitYears}

pub fit_book : (d : Says) (book : List System) (ids : List ℕ) (lists : List (List (List ℕ))) → HasYears d book ids → FitYears d lists → FitBook book ids lists
fit_book d book ids lists numbers fit = record {
  many = fit.many ∙ sym numbers.many;
  within = λ k id at. slice_get_within book id (system d (k + 1)) (numbers.each k id at);
  each = λ k configs at s its.
      let within = slice_get_within lists k configs at in
      let id = at_place ids k (omega (arith, within, fit.many, numbers.many)) in
      let number : slice_index ids k ≡ id.0 = get_or_from_slice_get ids k id.0 0 id.1 in
      let same : system d (k + 1) ≡ s = same_Some _ _ (sym (ap (slice_get book) number ∙ numbers.each k id.0 id.1) ∙ its) in
      subst (λ (z : System). All (Fits z) configs) same (fit.fit k configs at);
}

-- what fits a year's system fits the economy, which has the same candidates
fits_economy : (s : System) (e : CostData) (x : List ℕ) → greatest s ≡ candidate_counts e → Fits s x → economy.Fits e x
fits_economy s e x wide f =
    record { width = f.width ∙ ap length wide; most = λ i h. subst (λ (g : List ℕ). get_or x i 0 ≤ get_or g i 0) wide (f.most i h) }

pub fit_economy : (d : Says) (c : ℕ) (tunnels : Tunnels) (lists : List (List (List ℕ))) (e : CostData) (limits : List Limit)
    → ((k : ℕ) → k < years d → greatest (system d (k + 1)) ≡ says.greatest d) → AreYearLists d c tunnels lists
    → IsEconomy e → e ≡ costs d → candidate_counts e ≡ says.greatest d → AreLimits d c limits → FitEconomy e limits lists
fit_economy d c tunnels lists e limits widths are is same width of_years =
    let n : e.years ≡ years d = ap (λ (z : CostData). z.years) same in
    record {
      economy = is;
      many_limits = of_years.many ∙ sym n;
      many_lists = are.many ∙ sym n;
      fit = All-weaker (Contains lists) (All (economy.Fits e)) (λ configs has.
          let k = has.0 in
          let many = are.many in
          let wide : greatest (system d (k + 1)) ≡ candidate_counts e = widths k (omega (arith, has.1, many)) ∙ sym width in
          All-weaker (Fits (system d (k + 1))) (economy.Fits e) (λ x f. fits_economy (system d (k + 1)) e x wide f) configs (are.each k configs (its_place lists configs has)).fit) lists (All-contains_itself lists);
      rising = All-weaker (Contains lists) (IsStrictlySortedBy (slice_cmp nat_cmp)) (λ configs has. (are.each has.0 configs (its_place lists configs has)).fair.listing.rising) lists (All-contains_itself lists);
    }

-- what is asked for is a key of the case
pub case_key : (d : Says) (c : ℕ) (tunnels : Tunnels) (lists : List (List (List ℕ))) (book : List System) (ids : List ℕ) (key : Run) → (1 ≤ c) × (c ≤ says.cases d)
    → HasYears d book ids → AreYearLists d c tunnels lists → IsAskedIn book ids lists key → IsCaseKey d c tunnels key
case_key d c tunnels lists book ids key case numbers are a =
    let within = slice_get_within ids a.year a.id a.number in
    let many = numbers.many in
    record {
      year = a.year + 1;
      is_of = record { case = case; year = (omega arith, omega (arith, within, many)) };
      of_year = same_Some _ _ (sym a.system ∙ numbers.each a.year a.id a.number);
      listed = ((are.each a.year a.configs a.list).fair.listing.each key.1).0 a.listed;
    }

pub table_is : (d : Says) (c : ℕ) (tunnels : Tunnels) (lists : List (List (List ℕ))) (book : List System) (ids : List ℕ) (e : CostData) (limits : List Limit) (table : Table)
    → HasYears d book ids → AreYearLists d c tunnels lists → e ≡ costs d → AreLimits d c limits
    → table.economy ≡ e → IsTableBy book ids lists limits table → IsTableOf d c tunnels table
table_is d c tunnels lists book ids e limits table numbers are same of_years economy_is by = record {
  economy = economy_is ∙ same;
  many = by.many ∙ are.many;
  layers = λ k within.
      let many = are.many in
      let id = at_place ids k (omega (arith, within, numbers.many)) in
      let configs = at_place lists k (omega (arith, within, many)) in
      let l = at_place limits k (omega (arith, within, of_years.many)) in
      record {
        configs = configs.0;
        listing = (are.each k configs.0 configs.1).fair.listing;
        is = by.layers k id.0 (system d (k + 1)) l.0 configs.0 id.1 (numbers.each k id.0 id.1) l.1 configs.1
            ∙ ap (λ (z : Limit). accepted_of (system d (k + 1)) z configs.0) (of_years.each k l.0 l.1);
      };
}

-- ---- a study on a shelf

pub on_fit : (s : StudyIs) (shelf : ShelfIs) (ids : List ℕ) (lists : List (List (List ℕ))) → IsStudy s → IsOn shelf s → ids ≡ s.ids → lists ≡ s.lists → FitBook shelf.book ids lists
on_fit s shelf ids lists is on of_ids of_lists =
    rw of_ids (rw of_lists (fit_book (body_of s.deck) shelf.book s.ids s.lists on.numbers (fit_years (body_of s.deck) s.case s.tunnels s.lists is.lists)))

pub on_limits : (s : StudyIs) (deck : List Statement) (case : ℕ) (limits : List Limit) → deck ≡ s.deck → case ≡ s.case → AreLimits (body_of deck) case limits → AreLimits (body_of s.deck) s.case limits
on_limits s deck case limits of_deck of_case are =
    subst (λ (z : List Statement). AreLimits (body_of z) s.case limits) of_deck (subst (λ n. AreLimits (body_of deck) n limits) of_case are)

pub on_economy : (s : StudyIs) (shelf : ShelfIs) (deck : List Statement) (lists : List (List (List ℕ))) (e : CostData) (limits : List Limit)
    → IsStudy s → IsOn shelf s → lists ≡ s.lists → deck ≡ s.deck → AreLimits (body_of s.deck) s.case limits
    → IsEconomy e → e ≡ costs (body_of deck) → candidate_counts e ≡ says.greatest (body_of deck) → FitEconomy e limits lists
on_economy s shelf deck lists e limits is on of_lists of_deck of_years economy same width =
    rw of_lists
    (fit_economy (body_of s.deck) s.case s.tunnels s.lists e limits on.numbers.width is.lists economy
    (same ∙ ap (λ (z : List Statement). costs (body_of z)) of_deck) (width ∙ ap (λ (z : List Statement). says.greatest (body_of z)) of_deck) of_years)

pub on_held : (s : StudyIs) (shelf : ShelfIs) (ids : List ℕ) (lists : List (List (List ℕ))) → IsStudy s → IsOn shelf s → ids ≡ s.ids → lists ≡ s.lists
    → (key : Run) → IsAskedIn shelf.book ids lists key → Holds shelf key
on_held s shelf ids lists is on of_ids of_lists key asked =
    on.rows key (case_key (body_of s.deck) s.case s.tunnels s.lists shelf.book s.ids key is.case on.numbers is.lists
    (subst (λ (i : List ℕ). IsAskedIn shelf.book i s.lists key) of_ids (subst (λ (l : List (List (List ℕ))). IsAskedIn shelf.book ids l key) of_lists asked)))

pub on_table : (s : StudyIs) (shelf : ShelfIs) (deck : List Statement) (ids : List ℕ) (lists : List (List (List ℕ))) (e : CostData) (limits : List Limit) (table : Table)
    → IsStudy s → IsOn shelf s → ids ≡ s.ids → lists ≡ s.lists → deck ≡ s.deck → AreLimits (body_of s.deck) s.case limits → e ≡ costs (body_of deck)
    → table.economy ≡ e → IsTableBy shelf.book ids lists limits table → IsTableOf (body_of s.deck) s.case s.tunnels table
on_table s shelf deck ids lists e limits table is on of_ids of_lists of_deck of_years same economy_is by =
    table_is (body_of s.deck) s.case s.tunnels s.lists shelf.book s.ids e limits table on.numbers is.lists
    (same ∙ ap (λ (z : List Statement). costs (body_of z)) of_deck) of_years economy_is
    (subst (λ (i : List ℕ). IsTableBy shelf.book i s.lists limits table) of_ids (subst (λ (l : List (List (List ℕ))). IsTableBy shelf.book ids l limits table) of_lists by))
