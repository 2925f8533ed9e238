-- What engines do together, over calls one after the other, and what a sweep is among these.
use Rattle.std.proofs.Common.{◌≡◌, ℕ, ◌+◌, ◌^◌, ◌<◌, ◌≤◌, List, [], ◌∷◌, ◌++◌, All, Option, Some, None, length, map, slice_get, refl, sym, ap, ◌∙◌, subst, arith, append-nil, append_assoc, length-append}
use Rattle.std.specs.List.Sorted.{IsPermutation}
use Rattle.std.proofs.lemmas.List.{length-map}
use Rattle.std.proofs.lemmas.List.Elements.{All-head, All-tail, filter_map-append}
use Rattle.std.proofs.lemmas.List.Sorted.{All-permutation, IsPermutation-append, IsPermutation-append_comm, IsPermutation-append_left, IsPermutation-append_right, IsPermutation-map, IsPermutation-refl, IsPermutation-trans, length_permutation}
use Rattle.sim_engine.specs.Engine.{Run, Work, raised}
use Rattle.sim_engine.proofs.CountSteps.{counts_sum}
use Rattle.sim_sweep.specs.Demands.{IsDemand, run_in, runs_of}
use Rattle.sim_sweep.specs.Works.{CountsRiseTogether, EachWorked, HasWorked, HaveRun, HaveWorked, all_runs, simulated_by}
use Rattle.sim_sweep.specs.Workers.{EngineIs, HaveSimulated, together}
use Rattle.sim_sweep.specs.declared.demand.Demand.{Demand}
use Rattle.sim_sweep.proofs.WorkSteps.{worked_none, worked_then}
use Rattle.year_system.specs.System.{System}

-- the shares of one call behind those of another
zipped : List (List Run) → List (List Run) → List (List Run)
zipped [] ts = []
zipped (s ∷ ss) [] = s ∷ ss
zipped (s ∷ ss) (t ∷ ts) = (s ++ t) ∷ zipped ss ts

none_left : (ts : List (List Run)) (n : ℕ) (z : Work) (c : List Work) → EachWorked ts n [] (z ∷ c) → ⊥
none_left [] n z c h = h
none_left (t ∷ ts) n z c h = h

each_then : (ss ts : List (List Run)) (m n : ℕ) (a b c : List Work) → EachWorked ss m a b → EachWorked ts n b c → EachWorked (zipped ss ts) (m + n) a c
unfolding zipped
each_then [] [] m n [] [] [] h k = omega (arith, h, k)
each_then (s ∷ ss) (t ∷ ts) m n (x ∷ a) (y ∷ b) (z ∷ c) h k = (worked_then s t m n x y z h.0 k.0, each_then ss ts 0 0 a b c h.1 k.1)
each_then [] ts m n [] [] (z ∷ c) h k = elim (none_left ts n z c k) [ ]
each_then [] (t ∷ ts) m n [] [] [] h k = elim k [ ]
each_then [] ts m n [] (y ∷ b) c h k = elim h [ ]
each_then [] ts m n (x ∷ a) b c h k = elim h [ ]
each_then (s ∷ ss) ts m n [] b c h k = elim h [ ]
each_then (s ∷ ss) ts m n (x ∷ a) [] c h k = elim h [ ]
each_then (s ∷ ss) [] m n (x ∷ a) (y ∷ b) c h k = elim k [ ]
each_then (s ∷ ss) (t ∷ ts) m n (x ∷ a) (y ∷ b) [] h k = elim k [ ]

-- runs of four parts, the middle two changed about
middle : (a b c d : List Run) → IsPermutation ((a ++ b) ++ (c ++ d)) ((a ++ c) ++ (b ++ d))
middle a b c d =
    let inner : IsPermutation (b ++ (c ++ d)) (c ++ (b ++ d)) = subst (λ (l : List Run). IsPermutation l (c ++ (b ++ d))) (append_assoc b c d) (subst (IsPermutation ((b ++ c) ++ d)) (append_assoc c b d) (IsPermutation-append_left d (b ++ c) (c ++ b) (IsPermutation-append_comm b c))) in
    subst (λ (l : List Run). IsPermutation l ((a ++ c) ++ (b ++ d))) (sym (append_assoc a b (c ++ d))) (subst (IsPermutation (a ++ (b ++ (c ++ d)))) (sym (append_assoc a c (b ++ d))) (IsPermutation-append_right a (b ++ (c ++ d)) (c ++ (b ++ d)) inner))

-- as many shares as engines
alike : (ss ts : List (List Run)) (m n : ℕ) (a b c : List Work) → EachWorked ss m a b → EachWorked ts n b c → IsPermutation (all_runs ss ++ all_runs ts) (all_runs (zipped ss ts))
unfolding zipped
alike [] [] m n [] [] [] h k = IsPermutation-refl []
alike (s ∷ ss) (t ∷ ts) m n (x ∷ a) (y ∷ b) (z ∷ c) h k =
    let rest = alike ss ts 0 0 a b c h.1 k.1 in
    IsPermutation-trans ((s ++ all_runs ss) ++ (t ++ all_runs ts)) ((s ++ t) ++ (all_runs ss ++ all_runs ts)) ((s ++ t) ++ all_runs (zipped ss ts))
    (middle s (all_runs ss) t (all_runs ts))
    (IsPermutation-append_right (s ++ t) (all_runs ss ++ all_runs ts) (all_runs (zipped ss ts)) rest)
alike [] ts m n [] [] (z ∷ c) h k = elim (none_left ts n z c k) [ ]
alike [] (t ∷ ts) m n [] [] [] h k = elim k [ ]
alike [] ts m n [] (y ∷ b) c h k = elim h [ ]
alike [] ts m n (x ∷ a) b c h k = elim h [ ]
alike (s ∷ ss) ts m n [] b c h k = elim h [ ]
alike (s ∷ ss) ts m n (x ∷ a) [] c h k = elim h [ ]
alike (s ∷ ss) [] m n (x ∷ a) (y ∷ b) c h k = elim k [ ]
alike (s ∷ ss) (t ∷ ts) m n (x ∷ a) (y ∷ b) [] h k = elim k [ ]

-- two calls one after the other
pub together_then : (xs ys : List Run) (m n : ℕ) (a b c : List Work) → HaveWorked xs m a b → HaveWorked ys n b c → HaveWorked (xs ++ ys) (m + n) a c
together_then xs ys m n a b c one other = record {
  shares = zipped one.shares other.shares;
  each = each_then one.shares other.shares m n a b c one.each other.each;
  whole = IsPermutation-trans (xs ++ ys) (all_runs one.shares ++ all_runs other.shares) (all_runs (zipped one.shares other.shares))
      (IsPermutation-append xs (all_runs one.shares) ys (all_runs other.shares) one.whole other.whole)
      (alike one.shares other.shares m n a b c one.each other.each);
}

-- nothing, by any
idle_runs : List Work → List (List Run)
idle_runs [] = []
idle_runs (w ∷ ws) = [] ∷ idle_runs ws

each_idle : (ws : List Work) → EachWorked (idle_runs ws) 0 ws ws
unfolding idle_runs
each_idle [] = refl
each_idle (w ∷ ws) = (worked_none w, each_idle ws)

no_runs : (ws : List Work) → all_runs (idle_runs ws) ≡ []
unfolding idle_runs
no_runs [] = refl
no_runs (w ∷ ws) = no_runs ws

pub together_none : (ws : List Work) → HaveWorked [] 0 ws ws
together_none ws = record { shares = idle_runs ws; each = each_idle ws; whole = subst (IsPermutation []) (sym (no_runs ws)) (IsPermutation-refl []) }

-- what the first engine did alone
pub first_worked : (keys : List Run) (years : ℕ) (w v : Work) (ws : List Work) → HasWorked keys years w v → HaveWorked keys years (w ∷ ws) (v ∷ ws)
first_worked keys years w v ws h = record {
  shares = keys ∷ idle_runs ws;
  each = (h, each_idle ws);
  whole = subst (IsPermutation keys) (sym (ap (λ (l : List Run). keys ++ l) (no_runs ws) ∙ append-nil keys)) (IsPermutation-refl keys);
}

-- the counts of engines that do not stand at their last values
risen : (shares : List (List Run)) (years most : ℕ) (a b : List Work) → EachWorked shares years a b → length (all_runs shares) ≤ most → All (λ (w : Work). w.simulated + most < 2 ^ 64) a → simulated_by b ≡ simulated_by a + length (all_runs shares)
risen [] years most [] [] h few below = refl
risen (s ∷ ss) years most (x ∷ a) (y ∷ b) h few below =
    let len = length-append s (all_runs ss) in
    let first : x.simulated + most < 2 ^ 64 = All-head (λ (w : Work). w.simulated + most < 2 ^ 64) x a below in
    let one : y.simulated ≡ x.simulated + length s = h.0.simulated ∙ counts_sum (length s) x.simulated (omega (arith, len, few, first)) in
    let rest = risen ss 0 most a b h.1 (omega (arith, len, few)) (All-tail (λ (w : Work). w.simulated + most < 2 ^ 64) x a below) in
    omega (arith, one, rest, len)
risen [] years most [] (y ∷ b) h few below = elim h [ ]
risen [] years most (x ∷ a) b h few below = elim h [ ]
risen (s ∷ ss) years most [] b h few below = elim h [ ]
risen (s ∷ ss) years most (x ∷ a) [] h few below = elim h [ ]

pub counts_together : CountsRiseTogether
counts_together keys years before now h below =
    let len : length (all_runs h.shares) ≡ length keys = length_permutation keys (all_runs h.shares) h.whole in
    let most : length (all_runs h.shares) ≤ length keys = omega (arith, len) in
    let sum = risen h.shares years (length keys) before now h.each most below in
    omega (arith, sum, len)

-- the run of a demand, as a function
run_from : Option System → Run → Demand → Run
run_from None none d = none
run_from (Some s) none d = (s, d.config)

run_or : List System → Run → Demand → Run
run_or book none d = run_from (slice_get book d.id) none d

runs_map : (book : List System) (none : Run) (ds : List Demand) → All (IsDemand book) ds → runs_of book ds ≡ map (run_or book none) ds
unfolding run_or run_from
runs_map book none [] all = refl
runs_map book none (d ∷ ds) all =
    let a = All-head (IsDemand book) d ds all in
    rw a.at (ap (λ (l : List Run). (a.system, d.config) ∷ l) (runs_map book none ds (All-tail (IsDemand book) d ds all)))

runs_moved : (book : List System) (none : Run) (xs ys : List Demand) → All (IsDemand book) xs → IsPermutation xs ys → IsPermutation (runs_of book xs) (runs_of book ys)
runs_moved book none xs ys all p =
    subst (λ (l : List Run). IsPermutation l (runs_of book ys)) (sym (runs_map book none xs all))
    (subst (IsPermutation (map (run_or book none) xs)) (sym (runs_map book none ys (All-permutation (IsDemand book) xs ys p all))) (IsPermutation-map (run_or book none) xs ys p))

share_runs : (book : List System) (shares : List (List Demand)) → runs_of book (together shares) ≡ all_runs (map (runs_of book) shares)
share_runs book [] = refl
share_runs book (share ∷ shares) = filter_map-append (run_in book) share (together shares) ∙ ap (λ (l : List Run). runs_of book share ++ l) (share_runs book shares)

len_runs : (book : List System) (none : Run) (ds : List Demand) → All (IsDemand book) ds → length (runs_of book ds) ≡ length ds
len_runs book none ds all = ap length (runs_map book none ds all) ∙ length-map ds (run_or book none)

-- ---- a sweep

-- each engine worked through its share
each_ran : {X : Type 0} (of : EngineIs X) (book : List System) (shares : List (List Demand)) (es fs : List X) → HaveSimulated of book shares es fs → EachWorked (map (runs_of book) shares) 0 (map of.work es) (map of.work fs)
each_ran of book [] [] [] h = refl
each_ran of book (share ∷ shares) (e ∷ es) (f ∷ fs) h = (h.0.worked, each_ran of book shares es fs h.1)
each_ran of book [] [] (f ∷ fs) h = elim h [ ]
each_ran of book [] (e ∷ es) fs h = elim h [ ]
each_ran of book (share ∷ shares) [] fs h = elim h [ ]
each_ran of book (share ∷ shares) (e ∷ es) [] h = elim h [ ]

-- the engines' shares are together these demands
pub share_worked : {X : Type 0} (of : EngineIs X) (book : List System) (none : Run) (new : List Demand) (shares : List (List Demand)) (es fs : List X) → All (IsDemand book) new → IsPermutation new (together shares) → HaveSimulated of book shares es fs → HaveWorked (runs_of book new) 0 (map of.work es) (map of.work fs)
share_worked of book none new shares es fs all whole h = record {
  shares = map (runs_of book) shares;
  each = each_ran of book shares es fs h;
  whole = subst (IsPermutation (runs_of book new)) (share_runs book shares) (runs_moved book none new (together shares) all whole);
}

-- a tally that rose by as many as the engines simulated
pub have_run : {X : Type 0} (of : EngineIs X) (book : List System) (none : Run) (shares : List (List Demand)) (tally tally_now : ℕ) (es fs : List X) → All (IsDemand book) (together shares) → HaveSimulated of book shares es fs → tally_now ≡ raised (length (together shares)) tally → HaveRun tally tally_now (map of.work es) (map of.work fs)
have_run of book none shares tally tally_now es fs all h is = record {
  keys = runs_of book (together shares);
  worked = share_worked of book none (together shares) shares es fs all (IsPermutation-refl (together shares)) h;
  rose = is ∙ ap (λ (n : ℕ). raised n tally) (sym (len_runs book none (together shares) all));
}

pub idle : (tally : ℕ) (ws : List Work) → HaveRun tally tally ws ws
idle tally ws = record { keys = []; worked = together_none ws; rose = refl }

-- no engine's room is another
pub rooms_stay : {X : Type 0} (of : EngineIs X) (book : List System) (shares : List (List Demand)) (es fs : List X) → HaveSimulated of book shares es fs → map of.room fs ≡ map of.room es
rooms_stay of book [] [] [] h = refl
rooms_stay of book (share ∷ shares) (e ∷ es) (f ∷ fs) h = λ i. h.0.room i ∷ rooms_stay of book shares es fs h.1 i
rooms_stay of book [] [] (f ∷ fs) h = elim h [ ]
rooms_stay of book [] (e ∷ es) fs h = elim h [ ]
rooms_stay of book (share ∷ shares) [] fs h = elim h [ ]
rooms_stay of book (share ∷ shares) (e ∷ es) [] h = elim h [ ]
