-- The demands of asked keys: which they are, and how many.
use Rattle.std.proofs.Common.{◌≡◌, ◌∙◌, ap, sym, refl, subst, ℕ, zero, suc, ◌+◌, ◌*◌, ◌≤◌, ⊎_elim, eqb, Bool, true, false, cond, not, List, [], ◌∷◌, ◌++◌, All, Contains, Option, None, Some, filter, length, map, slice_get, slice_index, is_none, arith}
use Rattle.std.specs.List.{flat_map, zip}
use Rattle.std.proofs.lemmas.List.{length-append, length-map}
use Rattle.std.proofs.lemmas.List.Elements.{All-append, All-cons, All-contains, All-contains_itself, All-head, All-map, All-nil, All-tail, All-weaker, Contains-append_left, Contains-append_right}
use Rattle.std.proofs.lemmas.Option.{same_Some}
use Rattle.board_core.specs.declared.row.KeptRow.{KeptRow}
use Rattle.board_core.specs.Lists.{total}
use Rattle.sim_engine.specs.Engine.{Room, Run}
use Rattle.sim_sweep.specs.Demands.{HasRoomFor, IsDemand, first_demands, new_demands, run_in}
use Rattle.sim_sweep.specs.Kept.{words_in}
use Rattle.sim_sweep.specs.declared.demand.Demand.{Demand}
use Rattle.row_shelf.proofs.EachSteps.{at_place}
use Rattle.row_shelf.proofs.KeySteps.{in_cases, in_none, in_rest}
use Rattle.row_shelf.specs.Asked.{FitBook, IsAsked, asked_count}
use Rattle.row_shelf.specs.Demands.{all_demands, case_demands, demands_of, year_demands}
use Rattle.row_shelf.specs.Rooms.{HasRoomAt, IsRoomy}
use Rattle.year_system.specs.Code.{code_of}
use Rattle.year_system.specs.System.{Fits, System}

-- ---- lists of lists

pub all_flat : {X Y : Type 0} (P : Y → Type 0) (f : X → List Y) (xs : List X) → All (λ x. All P (f x)) xs → All P (flat_map f xs)
all_flat {X} {Y} P f [] all = All-nil P
all_flat {X} {Y} P f (x ∷ xs) all = All-append P (f x) (flat_map f xs) (All-head (λ (z : X). All P (f z)) x xs all) (all_flat P f xs (All-tail (λ (z : X). All P (f z)) x xs all))

all_split : {X : Type 0} (P : X → Type 0) (xs ys : List X) → All P (xs ++ ys) → All P xs × All P ys
all_split P [] ys all = (All-nil P, all)
all_split P (x ∷ xs) ys all =
    let rest = all_split P xs ys (All-tail P x (xs ++ ys) all) in
    (All-cons P x xs (All-head P x (xs ++ ys) all) rest.0, rest.1)

pub flat_all : {X Y : Type 0} (P : Y → Type 0) (f : X → List Y) (xs : List X) → All P (flat_map f xs) → All (λ x. All P (f x)) xs
flat_all {X} {Y} P f [] all = All-nil (λ (z : X). All P (f z))
flat_all {X} {Y} P f (x ∷ xs) all =
    let parts = all_split P (f x) (flat_map f xs) all in
    All-cons (λ (z : X). All P (f z)) x xs parts.0 (flat_all P f xs parts.1)

pub all_zip : {X : Type 0} (Q : ℕ × X → Type 0) (ids : List ℕ) (xs : List X) → ((k id : ℕ) (x : X) → slice_get ids k ≡ Some id → slice_get xs k ≡ Some x → Q (id, x)) → All Q (zip ids xs)
all_zip Q [] xs h = All-nil Q
all_zip Q (i ∷ is) [] h = All-nil Q
all_zip Q (i ∷ is) (x ∷ xs) h = All-cons Q (i, x) (zip is xs) (h 0 i x refl refl) (all_zip Q is xs (λ k id y a b. h (suc k) id y a b))

all_each : {X : Type 0} (Q : X → Type 0) (xs : List X) → ((k : ℕ) (x : X) → slice_get xs k ≡ Some x → Q x) → All Q xs
all_each Q [] h = All-nil Q
all_each Q (x ∷ xs) h = All-cons Q x xs (h 0 x refl) (all_each Q xs (λ k y a. h (suc k) y a))

pub in_flat : {X Y : Type 0} (f : X → List Y) (xs : List X) (x : X) (y : Y) → Contains xs x → Contains (f x) y → Contains (flat_map f xs) y
in_flat f [] x y has inside = absurd (in_none x has)
in_flat f (z ∷ xs) x y has inside =
    ⊎_elim
    (λ here. Contains-append_left (f z) (flat_map f xs) y (subst (λ w. Contains (f w) y) (sym here) inside))
    (λ rest. Contains-append_right (f z) (flat_map f xs) y (in_flat f xs x y rest inside))
    (in_cases z xs x has)

pub in_zip : {X : Type 0} (ids : List ℕ) (xs : List X) (k id : ℕ) (x : X) → slice_get ids k ≡ Some id → slice_get xs k ≡ Some x → Contains (zip ids xs) (id, x)
in_zip [] xs k id x a b = cc
in_zip (i ∷ is) [] k id x a b = cc
in_zip (i ∷ is) (y ∷ xs) zero id x a b = (0, omega arith, ap (λ n. (n, y)) (same_Some _ _ a) ∙ ap (λ z. (id, z)) (same_Some _ _ b))
in_zip (i ∷ is) (y ∷ xs) (suc k) id x a b = in_rest (i, y) (zip is xs) (id, x) (in_zip is xs k id x a b)

pub in_map : {X Y : Type 0} (f : X → Y) (xs : List X) (x : X) → Contains xs x → Contains (map f xs) (f x)
in_map f [] x has = absurd (in_none x has)
in_map f (z ∷ xs) x has = ⊎_elim (λ here. (0, omega arith, ap f here)) (λ rest. in_rest (f z) (map f xs) (f x) (in_map f xs x rest)) (in_cases z xs x has)

pub in_place : {X : Type 0} (xs : List X) (k : ℕ) (x : X) → slice_get xs k ≡ Some x → Contains xs x
in_place [] k x a = cc
in_place (y ∷ xs) zero x a = (0, omega arith, same_Some _ _ a)
in_place (y ∷ xs) (suc k) x a = in_rest y xs x (in_place xs k x a)

-- ---- demands

abbrev pub one_demand : ℕ → System → List ℕ → Demand
one_demand id s x = record { code = code_of id s x; id = id; config = x }

-- the demands of a year, by its system
pub year_is : (book : List System) (id : ℕ) (configs : List (List ℕ)) (s : System) → slice_get book id ≡ Some s → year_demands book (id, configs) ≡ map (one_demand id s) configs
year_is book id configs s at = ap (demands_of id configs) at

pub year_all : (P : Demand → Type 0) (book : List System) (id : ℕ) (configs : List (List ℕ)) (s : System) → slice_get book id ≡ Some s
    → ((x : List ℕ) → Contains configs x → P (one_demand id s x)) → All P (year_demands book (id, configs))
year_all P book id configs s at h =
    subst (All P) (sym (year_is book id configs s at))
    (All-map P (one_demand id s) configs (All-weaker (Contains configs) (λ x. P (one_demand id s x)) h configs (All-contains_itself configs)))

-- what is true of all demands is so of each case's
pub case_all : (P : Demand → Type 0) (book : List System) (ids : List ℕ) (lists : List (List (List (List ℕ)))) → All P (all_demands book ids lists) → All (λ ys. All (All P) (case_demands book ids ys)) lists
case_all P book ids lists all =
    All-weaker (λ (ys : List (List (List ℕ))). All P (flat_map (year_demands book) (zip ids ys))) (λ (ys : List (List (List ℕ))). All (All P) (case_demands book ids ys)) (λ (ys : List (List (List ℕ))) one. All-map (All P) (year_demands book) (zip ids ys) (flat_all P (year_demands book) (zip ids ys) one)) lists
    (flat_all P (λ (ys : List (List (List ℕ))). flat_map (year_demands book) (zip ids ys)) lists all)

-- ---- how many there are

pub length_flat : {X Y : Type 0} (f : X → List Y) (n : ℕ) (xs : List X) → All (λ x. length (f x) ≤ n) xs → length (flat_map f xs) ≤ n * length xs
length_flat f n [] all = omega arith
length_flat f n (x ∷ xs) all =
    let one = All-head (λ z. length (f z) ≤ n) x xs all in
    let rest = length_flat f n xs (All-tail (λ z. length (f z) ≤ n) x xs all) in
    let both = length-append (f x) (flat_map f xs) in
    let more : n * suc (length xs) ≡ n + n * length xs = omega arith in
    omega (arith, one, rest, both, more)

pub short_filter : (p : Demand → Bool) (ds : List Demand) → length (filter p ds) ≤ length ds
short_filter p [] = omega arith
short_filter p (d ∷ ds) = elim (p d) as (λ b. length (cond b (d ∷ filter p ds) (filter p ds)) ≤ suc (length ds)) [
  | true ↦ omega (arith, short_filter p ds)
  | false ↦ omega (arith, short_filter p ds)
]

length_first : (ds : List Demand) → length (first_demands ds) ≤ length ds
length_first [] = omega arith
length_first (d ∷ ds) = omega (arith, short_filter (λ (e : Demand). not (eqb d.code e.code)) (first_demands ds), length_first ds)

pub few_new : (rows : List KeptRow) (ds : List Demand) → length (new_demands rows ds) ≤ length ds
few_new rows ds = omega (arith, short_filter (λ (d : Demand). is_none (words_in rows d.code)) (first_demands ds), length_first ds)

-- what stands at a place
index_is : (xs : List ℕ) (k x : ℕ) → slice_get xs k ≡ Some x → slice_index xs k ≡ x
index_is [] k x a = cc
index_is (y ∷ xs) zero x a = same_Some _ _ a
index_is (y ∷ xs) (suc k) x a = index_is xs k x a

fits_at : (cases : List (List (List (List ℕ)))) (book : List System) (ids : List ℕ) (c : ℕ) (ys : List (List (List ℕ))) → All (FitBook book ids) cases → slice_get cases c ≡ Some ys → FitBook book ids ys
fits_at cases book ids c ys fit at = All-contains (FitBook book ids) cases ys fit (in_place cases c ys at)

-- all demands, by what is true of each year of each case
pub asked_all : (P : Demand → Type 0) (book : List System) (ids : List ℕ) (cases : List (List (List (List ℕ)))) → All (FitBook book ids) cases
    → ((c k id : ℕ) (s : System) (ys : List (List (List ℕ))) (configs : List (List ℕ)) (x : List ℕ) → slice_get cases c ≡ Some ys → slice_get ids k ≡ Some id → slice_get book id ≡ Some s → slice_get ys k ≡ Some configs → Contains configs x → Fits s x → P (one_demand id s x))
    → All P (all_demands book ids cases)
asked_all P book ids cases fit h =
    all_flat P (λ (ys : List (List (List ℕ))). flat_map (year_demands book) (zip ids ys)) cases
    (all_each (λ (zs : List (List (List ℕ))). All P (flat_map (year_demands book) (zip ids zs))) cases (λ c ys at.
    let f = fits_at cases book ids c ys fit at in
    all_flat P (year_demands book) (zip ids ys)
    (all_zip (λ (e : ℕ × List (List ℕ)). All P (year_demands book e)) ids ys (λ k id configs a b.
    let s = at_place book id (f.within k id a) in
    let all = f.each k configs b s.0 (ap (slice_get book) (index_is ids k id a) ∙ s.1) in
    year_all P book id configs s.0 s.1 (λ x has. h c k id s.0 ys configs x at a s.1 b has (All-contains (Fits s.0) configs x all has))))))

pub are_demands : (book : List System) (ids : List ℕ) (cases : List (List (List (List ℕ)))) → All (FitBook book ids) cases → All (IsDemand book) (all_demands book ids cases)
are_demands book ids cases fit = asked_all (IsDemand book) book ids cases fit (λ c k id s ys configs x a b at d has fits. record { system = s; at = at; fits = fits; is = refl })

pub have_room : (book : List System) (ids : List ℕ) (cases : List (List (List (List ℕ)))) (n m : ℕ) (room : Room) → All (FitBook book ids) cases → All (HasRoomAt n m book) ids → IsRoomy n m room → All (HasRoomFor room book) (all_demands book ids cases)
have_room book ids cases n m room fit enough roomy = asked_all (HasRoomFor room book) book ids cases fit (λ c k id s ys configs x a b at d has fits.
    λ t its. let r = All-contains (HasRoomAt n m book) ids id enough (in_place ids k id b) t its in (omega (arith, r.cells, roomy.enough_cells), omega (arith, r.units, roomy.enough_units)))

-- the keys of the demands are the asked ones
pub are_keys : (book : List System) (ids : List ℕ) (cases : List (List (List (List ℕ)))) → All (FitBook book ids) cases
    → All (λ e. (key : Run) → run_in book e ≡ Some key → IsAsked book ids cases key) (all_demands book ids cases)
are_keys book ids cases fit = asked_all (λ e. (key : Run) → run_in book e ≡ Some key → IsAsked book ids cases key) book ids cases fit (λ c k id s ys configs x a b at d has fits.
    λ key is.
    let run : run_in book (one_demand id s x) ≡ Some (s, x) = rw at refl in
    let same : (s, x) ≡ key = same_Some _ _ (sym run ∙ is) in
    subst (IsAsked book ids cases) same (record { case = c; lists = ys; at = a; asked = record { year = k; id = id; configs = configs; number = b; system = at; list = d; listed = has } }))

pub all_asked : (book : List System) (ids : List ℕ) (cases : List (List (List (List ℕ)))) (key : Run) → IsAsked book ids cases key
    → (e : Demand) × Contains (all_demands book ids cases) e × (run_in book e ≡ Some key)
all_asked book ids cases key is =
    let a = is.asked in
    let one = one_demand a.id key.0 key.1 in
    let in_year : Contains (year_demands book (a.id, a.configs)) one = subst (λ ds. Contains ds one) (sym (year_is book a.id a.configs key.0 a.system)) (in_map (one_demand a.id key.0) a.configs key.1 a.listed) in
    let in_case = in_flat (year_demands book) (zip ids is.lists) (a.id, a.configs) one (in_zip ids is.lists a.year a.id a.configs a.number a.list) in_year in
    let run : run_in book one ≡ Some (key.0, key.1) = rw a.system refl in
    (one, in_flat (λ (zs : List (List (List ℕ))). flat_map (year_demands book) (zip ids zs)) cases is.lists one (in_place cases is.case is.lists is.at) in_case, run)

-- ---- how many

few_years : (book : List System) (ids : List ℕ) (lists : List (List (List ℕ))) → length (flat_map (year_demands book) (zip ids lists)) ≤ total (λ (configs : List (List ℕ)). length configs) lists
few_years book [] lists = omega arith
few_years book (id ∷ ids) [] = omega arith
few_years book (id ∷ ids) (xs ∷ lists) =
    let rest = few_years book ids lists in
    let n = length-append (year_demands book (id, xs)) (flat_map (year_demands book) (zip ids lists)) in
    let one = few_of id xs (slice_get book id) in
    omega (arith, rest, n, one)
  where
    few_of : (id : ℕ) (xs : List (List ℕ)) (o : Option System) → length (demands_of id xs o) ≤ length xs
    few_of id xs None = omega arith
    few_of id xs (Some s) = let e = length-map xs (one_demand id s) in omega (arith, e)

pub few_asked : (book : List System) (ids : List ℕ) (cases : List (List (List (List ℕ)))) → length (all_demands book ids cases) ≤ asked_count cases
few_asked book ids [] = omega arith
few_asked book ids (ys ∷ cases) =
    let one = few_years book ids ys in
    let rest = few_asked book ids cases in
    let n = length-append (flat_map (year_demands book) (zip ids ys)) (all_demands book ids cases) in
    omega (arith, one, rest, n)
