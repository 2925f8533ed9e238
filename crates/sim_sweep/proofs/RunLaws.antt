-- The runs of the new demands are the new keys, each once.
use Rattle.std.proofs.Common.{◌≡◌, ◌≢◌, ℕ, zero, suc, ◌<◌, eqb, true, false, not, List, [], ◌∷◌, length, get_or, Some, All, AllPairs, Contains, is_none, slice_get, inl, inr, refl, sym, ap, ◌∙◌, arith}
use mathlib.Core.Bool.{false≢true}
use Rattle.std.specs.List.{AllByRecursion, IsDistinct}
use Rattle.std.proofs.lemmas.Bool.{cases_eq, cases_lt}
use Rattle.std.proofs.lemmas.Bool.Decides.{nat_tests}
use Rattle.std.proofs.lemmas.List.Elements.{All-cons, All-contains, All-contains_itself, All-filter, All-head, All-nil, All-tail, filter_passes}
use Rattle.std.proofs.lemmas.List.Kept.{AllPairs-cons}
use Rattle.std.proofs.lemmas.Option.{get_or_from_slice_get, slice_get_within}
use Rattle.board_core.specs.declared.row.KeptRow.{KeptRow}
use Rattle.sim_engine.specs.Engine.{Run}
use Rattle.sim_sweep.specs.Demands.{IsDemand, NewRunsComeOnce, codes_of, first_demands, is_demanded, new_demands, runs_of}
use Rattle.sim_sweep.specs.Kept.{words_in}
use Rattle.sim_sweep.specs.declared.demand.Demand.{Demand}
use Rattle.sim_sweep.proofs.CodeLaws.{codes_come_once, new_demanded}
use Rattle.year_system.specs.Code.{IsCode, code_of}
use Rattle.year_system.specs.System.{System}
use Rattle.year_system.proofs.CodeParts.{one_key}

-- what holds of the demands holds of the first and of the new ones
pub all_first : (P : Demand → Type 0) (ds : List Demand) → All P ds → All P (first_demands ds)
all_first P [] all = All-nil P
all_first P (d ∷ ds) all = All-cons P d _ (All-head P d ds all) (All-filter (λ e. not (eqb d.code e.code)) P (first_demands ds) (all_first P ds (All-tail P d ds all)))

pub all_new : (P : Demand → Type 0) (rows : List KeptRow) (ds : List Demand) → All P ds → All P (new_demands rows ds)
all_new P rows ds all = All-filter (λ d. is_none (words_in rows d.code)) P (first_demands ds) (all_first P ds all)

-- the run of a demand
run_at : (book : List System) (d : Demand) (ds : List Demand) (s : System) → slice_get book d.id ≡ Some s → runs_of book (d ∷ ds) ≡ (s, d.config) ∷ runs_of book ds
run_at book d ds s at = rw at refl

-- a system stands at one place of a book whose systems differ
one_place : (book : List System) (i j : ℕ) (s : System) → AllPairs (λ s t. s ≢ t) book → slice_get book i ≡ Some s → slice_get book j ≡ Some s → i ≡ j
one_place book i j s apart here there =
    let a = get_or_from_slice_get book i s s here in
    let b = get_or_from_slice_get book j s s there in
    let w = slice_get_within book i s here in
    let v = slice_get_within book j s there in
    elim (cases_lt i j) [
      | inl less ↦ absurd (apart i j s less v (a ∙ sym b))
      | inr from ↦ elim (cases_eq i j) [
        | inl same ↦ same
        | inr other ↦ absurd (apart j i s (omega arith) w (b ∙ sym a))
      ]
    ]

-- demands of other codes have other runs
other_run : (book : List System) (d e : Demand) → AllPairs (λ s t. s ≢ t) book → (one : IsDemand book d) → (other : IsDemand book e) → eqb d.code e.code ≡ false → ◌≡◌ {A = Run} (one.system, d.config) (other.system, e.config) → ⊥
other_run book d e apart one other codes same =
    let systems : one.system ≡ other.system = ap (λ (r : Run). r.0) same in
    let configs : d.config ≡ e.config = ap (λ (r : Run). r.1) same in
    let ids : d.id ≡ e.id = one_place book d.id e.id one.system apart one.at (rw systems other.at) in
    let all : code_of d.id one.system d.config ≡ code_of e.id other.system e.config = ap (λ i. code_of i one.system d.config) ids ∙ (ap (λ s. code_of e.id s d.config) systems ∙ ap (code_of e.id other.system) configs) in
    let code : d.code ≡ e.code = one.is ∙ (all ∙ sym other.is) in
    false≢true (sym codes ∙ grind (arith, nat_tests, code))

runs_differ : (book : List System) (d : Demand) (ds : List Demand) → AllPairs (λ s t. s ≢ t) book → (one : IsDemand book d) → All (IsDemand book) ds → AllByRecursion (λ y. eqb d.code y ≡ false) (codes_of ds) → All (λ r. (one.system, d.config) ≢ r) (runs_of book ds)
runs_differ book d [] apart one all codes = All-nil (λ r. (one.system, d.config) ≢ r)
runs_differ book d (e ∷ es) apart one all codes =
    let other = All-head (IsDemand book) e es all in
    let rest = runs_differ book d es apart one (All-tail (IsDemand book) e es all) codes.1 in
    rw (run_at book e es other.system other.at) (All-cons (λ r. (one.system, d.config) ≢ r) _ _ (other_run book d e apart one other codes.0) rest)

runs_apart : (book : List System) (ds : List Demand) → AllPairs (λ s t. s ≢ t) book → All (IsDemand book) ds → IsDistinct eqb (codes_of ds) → AllPairs (λ r s. r ≢ s) (runs_of book ds)
unfolding IsDistinct
runs_apart book [] apart all codes = λ i j d less within. absurd (omega arith)
runs_apart book (d ∷ ds) apart all codes =
    let one = All-head (IsDemand book) d ds all in
    let rest = All-tail (IsDemand book) d ds all in
    rw (run_at book d ds one.system one.at) (AllPairs-cons (λ r s. r ≢ s) _ _ (runs_differ book d ds apart one rest codes.0) (runs_apart book ds apart rest codes.1))

-- a run comes from a demand
record ComesFrom (book : List System) (ds : List Demand) (run : Run) : Type 0 where
  pub demand : Demand
  pub among : Contains ds demand
  pub at : slice_get book demand.id ≡ Some run.0
  pub config : demand.config ≡ run.1

later : (book : List System) (d : Demand) (ds : List Demand) (run : Run) → ComesFrom book ds run → ComesFrom book (d ∷ ds) run
later book d ds run from =
    let k = from.among.0 in
    let w = from.among.1 in
    record { demand = from.demand; among = (suc k, omega (arith, w), from.among.2); at = from.at; config = from.config }

run_first : (book : List System) (d : Demand) (ds : List Demand) (s : System) (run : Run) → slice_get book d.id ≡ Some s → ((k : ℕ) → k < length (runs_of book ds) → get_or (runs_of book ds) k run ≡ run → ComesFrom book ds run) → (k : ℕ) → k < length ((s, d.config) ∷ runs_of book ds) → get_or ((s, d.config) ∷ runs_of book ds) k run ≡ run → ComesFrom book (d ∷ ds) run
run_first book d ds s run at rest zero w is = record { demand = d; among = (0, omega arith, refl); at = at ∙ ap (λ (r : Run). Some r.0) is; config = ap (λ (r : Run). r.1) is }
run_first book d ds s run at rest (suc k) w is = later book d ds run (rest k (omega arith) is)

run_from : (book : List System) (ds : List Demand) (run : Run) → All (IsDemand book) ds → Contains (runs_of book ds) run → ComesFrom book ds run
run_from book [] run all has = absurd (let w = has.1 in omega (arith, w))
run_from book (d ∷ ds) run all has =
    let one = All-head (IsDemand book) d ds all in
    let rest = All-tail (IsDemand book) d ds all in
    let found = rw (run_at book d ds one.system one.at) at has in
    run_first book d ds one.system run one.at (λ k w is. run_from book ds run rest (k, w, is)) found.0 found.1 found.2

-- and each demand has its run
has_run : (book : List System) (ds : List Demand) (run : Run) (k : ℕ) (e : Demand) → All (IsDemand book) ds → k < length ds → get_or ds k e ≡ e → slice_get book e.id ≡ Some run.0 → e.config ≡ run.1 → Contains (runs_of book ds) run
has_run book [] run k e all within is at config = absurd (omega arith)
has_run book (d ∷ ds) run zero e all within is at config =
    let system : slice_get book d.id ≡ Some run.0 = ap (λ (x : Demand). slice_get book x.id) is ∙ at in
    let counts : d.config ≡ run.1 = ap (λ (x : Demand). x.config) is ∙ config in
    rw (run_at book d ds run.0 system) (0, omega arith, ap (λ c. (run.0, c)) counts)
has_run book (d ∷ ds) run (suc k) e all within is at config =
    let one = All-head (IsDemand book) d ds all in
    let rest = has_run book ds run k e (All-tail (IsDemand book) d ds all) (omega arith) is at config in
    let w = rest.1 in
    rw (run_at book d ds one.system one.at) (suc rest.0, omega (arith, w), rest.2)

-- the demand among the new ones that has a code
with_code : (ds : List Demand) (code : ℕ) → is_demanded ds code ≡ true → (e : Demand) × Contains ds e × (e.code ≡ code)
with_code [] code any = absurd (false≢true any)
with_code (d ∷ ds) code any = elim (cases_eq d.code code) [
  | inl here ↦ (d, (0, omega arith, refl), here)
  | inr other ↦
      let rest = with_code ds code (grind (arith, nat_tests, any)) in
      let w = rest.1.1 in
      (rest.0, (suc rest.1.0, omega (arith, w), rest.1.2), rest.2)
]

demanded_by : (ds : List Demand) (k : ℕ) (d : Demand) → k < length ds → get_or ds k d ≡ d → is_demanded ds d.code ≡ true
demanded_by [] k d within is = absurd (omega arith)
demanded_by (e ∷ es) zero d within is = let code : e.code ≡ d.code = ap (λ (x : Demand). x.code) is in grind (arith, nat_tests, code)
demanded_by (e ∷ es) (suc k) d within is = grind (arith, nat_tests, demanded_by es k d (omega arith) is)

pub runs_come_once : NewRunsComeOnce
runs_come_once book rows ds systems apart demands =
    let news = new_demands rows ds in
    let new_valid = all_new (IsDemand book) rows ds demands in
    record {
      once = runs_apart book news apart new_valid (codes_come_once rows ds).once;
      each = λ run. (
        λ has.
            let from = run_from book news run new_valid has in
            record {
              demand = from.demand;
              demanded = All-contains (Contains ds) news from.demand (all_new (Contains ds) rows ds (All-contains_itself ds)) from.among;
              at = from.at;
              config = from.config;
              new = All-contains (λ d. is_none (words_in rows d.code) ≡ true) news from.demand (filter_passes (λ d. is_none (words_in rows d.code)) (first_demands ds)) from.among;
            },
        λ is.
            let d = is.demand in
            let any : is_demanded news d.code ≡ true = new_demanded rows ds d.code ∙ rw (is.new, demanded_by ds is.demanded.0 d is.demanded.1 is.demanded.2) refl in
            let e = with_code news d.code any in
            let mine : IsDemand book d = All-contains (IsDemand book) ds d demands is.demanded in
            let theirs : IsDemand book e.0 = All-contains (IsDemand book) news e.0 new_valid e.1 in
            let own : IsCode book d.code = record { id = d.id; system = mine.system; counts = d.config; at = mine.at; fits = mine.fits; is = mine.is } in
            let other : IsCode book d.code = record { id = e.0.id; system = theirs.system; counts = e.0.config; at = theirs.at; fits = theirs.fits; is = sym e.2 ∙ theirs.is } in
            let same = one_key book d.code systems other own in
            has_run book news run e.1.0 e.0 new_valid e.1.1 e.1.2 (ap (slice_get book) same.0 ∙ is.at) (same.1 ∙ is.config),
      );
    }
