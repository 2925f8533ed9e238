-- What a sweep leaves, for the callers above.
use Rattle.std.proofs.Common.{◌≡◌, ◌≢◌, ◌⊎◌, ℕ, List, [], ◌∷◌, All, IsSome, IsTrue, Option, Some, None, get_or, length, map, slice_get, filter, is_none, refl, sym, ap, ◌∙◌, subst, inl, inr, ⊎_elim}
use Rattle.std.proofs.lemmas.Bool.{cases_eq}
use Rattle.std.proofs.lemmas.Option.{same_Some}
use Rattle.std.proofs.lemmas.List.Elements.{All-cons, All-head, All-nil, All-tail}
use Rattle.std.proofs.lemmas.List.Sorted.{All-permutation, IsPermutation-sym, length_permutation}
use Rattle.board_core.specs.declared.row.KeptRow.{KeptRow}
use Rattle.board_core.specs.declared.row.Words.{Words}
use Rattle.board_core.specs.Lists.{IsIn, times}
use Rattle.board_core.specs.Rows.{codes_of}
use Rattle.board_core.proofs.Lists.{is_in-append, is_in_at, times-some}
use Rattle.plant_data.specs.Rows.{IsRow}
use Rattle.sim_engine.specs.Row.{row_of}
use Rattle.sim_sweep.specs.Cases.{IsKept}
use Rattle.sim_sweep.specs.Demands.{IsDemand, IsFilled, codes_of as demanded_codes, first_demands, is_demanded, new_demands, runs_of}
use Rattle.sim_sweep.specs.Due.{due_words}
use Rattle.sim_sweep.specs.Keeping.{HasRows}
use Rattle.sim_sweep.specs.Kept.{AreDue, IsDue, row_words, words_in, words_row}
use Rattle.sim_sweep.specs.Workers.{EngineIs, HaveSimulated, SweepsAll, together}
use Rattle.sim_sweep.specs.Works.{HaveRun, HaveWorked}
use Rattle.sim_sweep.specs.declared.demand.Demand.{Demand}
use Rattle.sim_sweep.proofs.BoardSteps.{demand_code, words_for}
use Rattle.sim_sweep.proofs.DueSteps.{due_of_code}
use Rattle.sim_sweep.proofs.KeepSteps.{all_in, code_of_words, words_of_code}
use Rattle.sim_sweep.proofs.RunLaws.{all_first}
use Rattle.sim_sweep.proofs.SharedSteps.{demand_at, in_demanded, same_demand, shared_is}
use Rattle.sim_sweep.proofs.TogetherSteps.{have_run, share_worked}
use Rattle.sim_engine.specs.Engine.{raised}
use Rattle.sim_engine.specs.Told.{no_system}
use Rattle.year_system.specs.Code.{IsCode}
use Rattle.year_system.specs.System.{IsSystem, System}
use Rattle.year_system.proofs.CodeParts.{one_key}

all_among : (book : List System) (demands ds : List Demand) → All (IsDemand book) demands → ((d : Demand) → IsIn d ds → IsIn d demands) → All (IsDemand book) ds
all_among book demands [] all among = All-nil (IsDemand book)
all_among book demands (d ∷ ds) all among = All-cons (IsDemand book) d ds (all_in (IsDemand book) demands d all (among d (inl refl))) (all_among book demands ds all (λ e i. among e (inr i)))

-- what a sweep says of its engines and its tally
pub swept_run : {X : Type 0} (of : EngineIs X) (book : List System) (placed : List ℕ) (demands : List Demand) (tally tally_now : ℕ) (es fs : List X) → All (IsDemand book) demands → SweepsAll of book placed demands tally tally_now es fs → HaveRun tally tally_now (map of.work es) (map of.work fs)
swept_run of book placed demands tally tally_now es fs all h = have_run of book (no_system, []) h.shares tally tally_now es fs (all_among book demands (together h.shares) all (λ d i. (h.unplaced.among d i).0)) h.each h.rose

pub swept_new : {X : Type 0} (of : EngineIs X) (book : List System) (kept : List KeptRow) (demands : List Demand) (tally tally_now : ℕ) (es fs : List X) → All IsSystem book → All (IsDemand book) demands → SweepsAll of book (codes_of kept) demands tally tally_now es fs
    → HaveWorked (runs_of book (new_demands kept demands)) 0 (map of.work es) (map of.work fs) × (tally_now ≡ raised (length (new_demands kept demands)) tally)
swept_new of book kept demands tally tally_now es fs systems are h =
    let new = new_demands kept demands in
    let p = shared_is book kept demands (together h.shares) systems are h.unplaced in
    let among = all_among book demands (together h.shares) are (λ d i. (h.unplaced.among d i).0) in (
      share_worked of book (no_system, []) new h.shares es fs (All-permutation (IsDemand book) (together h.shares) new (IsPermutation-sym new (together h.shares) p) among) p h.each,
      h.rose ∙ ap (λ (n : ℕ). raised n tally) (length_permutation new (together h.shares) p),
    )

-- the bounds of a row that an engine simulated
bounded : {X : Type 0} (of : EngineIs X) (book : List System) (shares : List (List Demand)) (es fs : List X) (d : Demand) (s : System) → HaveSimulated of book shares es fs → IsIn d (together shares) → slice_get book d.id ≡ Some s → IsRow (row_of s d.config)
bounded of book [] es fs d s h i at = elim i [ ]
bounded of book (share ∷ shares) (e ∷ es) (f ∷ fs) d s h i at = ⊎_elim
    (λ (l : IsIn d share). h.0.bounds d s l at)
    (λ (r : IsIn d (together shares)). bounded of book shares es fs d s h.1 r at)
    (is_in-append d share (together shares) i)
bounded of book (share ∷ shares) [] fs d s h i at = elim h [ ]
bounded of book (share ∷ shares) (e ∷ es) [] d s h i at = elim h [ ]

kept_or : {A : Type 0} (code : ℕ) (kept : List KeptRow) → (IsIn code (codes_of kept) → A) → (times code (codes_of kept) ≡ 0 → A) → A
kept_or code kept there none = ⊎_elim (λ (z : times code (codes_of kept) ≡ 0). none z) (λ (n : times code (codes_of kept) ≢ 0). there (times-some code (codes_of kept) n)) (cases_eq (times code (codes_of kept)) 0)

-- each row is that of its code
pub rows_due : {X : Type 0} (of : EngineIs X) (book : List System) (kept : List KeptRow) (demands : List Demand) (rows : List KeptRow) (tally tally_now : ℕ) (es fs : List X) → All IsSystem book → All (IsDemand book) demands → AreDue book kept → HasRows book kept demands rows → SweepsAll of book (codes_of kept) demands tally tally_now es fs → AreDue book rows
unfolding demand_code
rows_due of book kept demands rows tally tally_now es fs systems are due h swept code words found =
    let here = code_of_words rows code words found in
    let is : words ≡ due_words book code = same_Some words (due_words book code) (sym found ∙ words_of_code book rows code h.due here) in
    let old : IsIn code (codes_of kept) → IsDue book code words = λ i.
    let o = words_for kept code i in
    let k = due code o.0 o.1 in
    record { key = k.key; is = is ∙ due_of_code book code systems k.key; bounds = k.bounds } in
    let new : times code (codes_of kept) ≡ 0 → IsIn code (demanded_codes demands) → IsDue book code words = λ z i.
    let q = demand_at demands code i in
    let g = demand_at (together swept.shares) q.0.code (swept.unplaced.all q.0 q.1 (ap (λ n. times n (codes_of kept)) q.2 ∙ z)) in
    let d = all_in (IsDemand book) demands q.0 are q.1 in
    let same = same_demand book g.0 q.0 systems (all_in (IsDemand book) demands g.0 are (swept.unplaced.among g.0 g.1).0) d g.2 in
    let ran : IsIn q.0 (together swept.shares) = subst (λ e. IsIn e (together swept.shares)) same g.1 in
    let key : IsCode book code = record { id = q.0.id; system = d.system; counts = q.0.config; at = d.at; fits = d.fits; is = sym q.2 ∙ d.is } in
    record { key = key; is = is ∙ due_of_code book code systems key; bounds = bounded of book swept.shares es fs q.0 d.system swept.each ran d.at } in
    ⊎_elim old
    (λ (i : IsIn code (demanded_codes demands)). kept_or code kept (λ k. old k) (λ z. new z i))
    (h.only code here)

pub rows_filled : (book : List System) (kept : List KeptRow) (demands : List Demand) (rows : List KeptRow) → All IsSystem book → All (IsDemand book) demands → HasRows book kept demands rows → All (IsFilled book rows) demands
unfolding demand_code
rows_filled book kept demands rows systems are h = λ k e within s at.
    let d = get_or demands k e in
    let a = are k e within in
    let found = words_of_code book rows d.code h.due (h.demanded d (is_in_at demands k e within)) in
    let system : a.system ≡ s = same_Some a.system s (sym a.at ∙ at) in
    found ∙ ap Some (due_of_code book d.code systems (demand_code book d a) ∙ ap (λ (y : System). row_words (row_of y d.config)) system)

pub rows_kept : (book : List System) (demands : List Demand) (rows : List KeptRow) → All (IsDemand book) demands → All (IsFilled book rows) demands → AreDue book rows → All (IsKept rows) demands
rows_kept book demands rows are filled due = λ k e within.
    let a = are k e within in
    let found = filled k e within a.system a.at in
    let d = due _ _ found in
    record { words = row_words (row_of a.system (get_or demands k e).config); kept = found; bounds = subst IsRow (ap words_row (sym d.is)) d.bounds }

pub rows_stay : (book : List System) (kept : List KeptRow) (demands : List Demand) (rows : List KeptRow) → All IsSystem book → AreDue book kept → HasRows book kept demands rows → (code : ℕ) (words : Words) → words_in kept code ≡ Some words → words_in rows code ≡ Some words
rows_stay book kept demands rows systems due h code words found =
    let k = due code words found in
    words_of_code book rows code h.due (h.stays code (code_of_words kept code words found)) ∙ ap Some (due_of_code book code systems k.key ∙ sym k.is)

some_words : (o : Option Words) → IsSome o → (w : Words) × (o ≡ Some w)
some_words None h = cc
some_words (Some w) h = (w, refl)

pub rows_only : (book : List System) (kept : List KeptRow) (demands : List Demand) (rows : List KeptRow) → HasRows book kept demands rows → (code : ℕ) → IsSome (words_in rows code) → IsSome (words_in kept code) ⊎ IsTrue (is_demanded demands code)
rows_only book kept demands rows h code some =
    let o = some_words (words_in rows code) some in
    ⊎_elim
    (λ (i : IsIn code (codes_of kept)). let w = words_for kept code i in inl (subst IsSome (sym w.1) refl))
    (λ (i : IsIn code (demanded_codes demands)). inr (in_demanded demands code i))
    (h.only code (code_of_words rows code o.0 o.1))

-- ---- where every demanded code is kept

none_of : (rows : List KeptRow) (ds : List Demand) → All (λ (d : Demand). IsSome (words_in rows d.code)) ds → filter (λ (d : Demand). is_none (words_in rows d.code)) ds ≡ []
none_of rows [] all = refl
none_of rows (d ∷ ds) all =
    let here = some_words (words_in rows d.code) (All-head (λ (e : Demand). IsSome (words_in rows e.code)) d ds all) in
    rw here.1 (none_of rows ds (All-tail (λ (e : Demand). IsSome (words_in rows e.code)) d ds all))

pub none_new : (rows : List KeptRow) (demands : List Demand) → All (λ (d : Demand). IsSome (words_in rows d.code)) demands → new_demands rows demands ≡ []
none_new rows demands all = none_of rows (first_demands demands) (all_first (λ (d : Demand). IsSome (words_in rows d.code)) demands all)

pub kept_filled : (book : List System) (rows : List KeptRow) (demands : List Demand) → All IsSystem book → AreDue book rows → All (IsDemand book) demands → All (λ (d : Demand). IsSome (words_in rows d.code)) demands → All (IsFilled book rows) demands
unfolding demand_code
kept_filled book rows demands systems due are all = λ k e within s at.
    let d = get_or demands k e in
    let a = are k e within in
    let o = some_words (words_in rows d.code) (all k e within) in
    let is = due d.code o.0 o.1 in
    let keys = one_key book d.code systems is.key (demand_code book d a) in
    let system : is.key.system ≡ s = same_Some is.key.system s (sym is.key.at ∙ (ap (λ (n : ℕ). slice_get book n) keys.0 ∙ at)) in
    let counts : is.key.counts ≡ d.config = keys.1 in
    o.1 ∙ ap Some (is.is ∙ (λ i. row_words (row_of (system i) (counts i))))
