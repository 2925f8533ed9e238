-- The walk over starts in the order of their potentials.
use Rattle.std.proofs.Common.{◌≡◌, ℕ, ◌+◌, ◌^◌, ◌<◌, ◌≤◌, List, [], ◌∷◌, ◌++◌, length, map, get_or, All, Option, Some, None, sym, ap, ◌∙◌, arith, subst, ⊎_elim}
use Rattle.std.proofs.Math.ListN.{get_or-append, get_or-map}
use Rattle.std.proofs.lemmas.Bool.{cases_eq, cases_lt}
use Rattle.std.proofs.lemmas.List.{get_or_default, get_or_past, get_or_push, length-append, length-map}
use Rattle.std.proofs.lemmas.Option.{none-some}
use Rattle.std.proofs.lemmas.List.Sorted.{All-permutation, Contains-permutation}
use Rattle.std.specs.List.Sorted.{IsNonDecreasingBy, IsPermutation}
use Rattle.plant_data.specs.Configs.{IsAtMost}
use Rattle.cost_terms.specs.StepTable.{IsStanding}
use Rattle.cost_terms.specs.declared.entries.Scored.{Scored}
use Rattle.cost_terms.specs.declared.prices.CostData.{CostData}
use Rattle.cost_terms.specs.declared.tables.Standing.{Standing}
use Rattle.cost_terms.proofs.Detours.{detour}
use Rattle.cost_terms.proofs.TableSteps.{growing}
use Rattle.plan_program.specs.Starts.{AreListed, AreStarts, IsFrom, IsSettled, IsStart, reached_of, start_at}
use Rattle.plan_program.specs.Steps.{IsLeastFrom, IsRaised, built, reached_at}
use Rattle.plan_program.specs.declared.come.Reached.{Reached}
use Rattle.plan_program.specs.declared.come.Start.{Start}

-- what is reached at a place of the starts
pub reached_start_at : (starts : List Start) (i : ℕ) → reached_at (map reached_of starts) i ≡ reached_of (start_at starts i)
reached_start_at starts i = get_or-map reached_of starts i (record { standing = record { config = []; domestic = 0; foreign = 0; inventory = 0; projects = 0; net = 0 }; cost = 0; potential = 0 })

pub start_is : (starts : List Start) (i : ℕ) (s : Start) → i < length starts → get_or starts i s ≡ start_at starts i
start_is starts i s h = get_or_default starts i s (record { standing = record { config = []; domestic = 0; foreign = 0; inventory = 0; projects = 0; net = 0 }; cost = 0; potential = 0 }) h

-- no start of at least such a potential comes cheaper
settled_start : (c : CostData) (year : ℕ) (s : Start) (to : Standing) (cost potential : ℕ) → year ≤ c.years → IsStart c year s → IsStanding c year to → potential ≤ s.potential → IsAtMost s.standing.config to.config →
    cost + 10 ^ 16 + 2 ≤ potential + to.net → cost ≤ s.cost + built c year s.standing.config to.config
settled_start c year s to cost potential last v w p g h =
    let d = detour c year _ s.standing.config to.config (growing c s.standing.config to.config v.standing.fits w.fits g) last in
    omega (arith, d, v.potential, v.standing.net, w.net, p, h)

-- the walk may end where the least cost so far is settled
pub walk_ends : (c : CostData) (year : ℕ) (starts : List Start) (to : Standing) (n : ℕ) (least : Option ℕ) → year ≤ c.years → All (IsStart c year) starts → IsNonDecreasingBy (λ (s : Start). s.potential) starts → IsStanding c year to → n < length starts →
    IsLeastFrom c year (map reached_of starts) n to.config least → IsSettled least (start_at starts n).potential to.net → IsLeastFrom c year (map reached_of starts) (length starts) to.config least
walk_ends c year starts to n None last each sorted w b h s = absurd s
walk_ends c year starts to n (Some cost) last each sorted w b h s = (
  record { place = h.0.place; within = omega (arith, h.0.within, b); grows = h.0.grows; costs = h.0.costs },
  λ i k g. ⊎_elim
      (λ (before : i < n). h.1 i before g)
      (λ (after : n ≤ i).
      let at = reached_start_at starts i in
      rw at (settled_start c year (start_at starts i) to cost (start_at starts n).potential last (each i _ k) w (sorted n i _ after k) (subst (λ (r : Reached). IsAtMost r.config to.config) at g) s))
      (cases_lt i n),
)

-- the starts between two places change nothing where none is at most the configuration
pub least_skips : (c : CostData) (year : ℕ) (starts : List Start) (config : List ℕ) (n m : ℕ) (least : Option ℕ) → n ≤ m → ((i : ℕ) → n ≤ i → i < m → IsAtMost (start_at starts i).standing.config config → ⊥) →
    IsLeastFrom c year (map reached_of starts) n config least → IsLeastFrom c year (map reached_of starts) m config least
least_skips c year starts config n m None b none h = λ i d g. ⊎_elim
    (λ before. h i before g)
    (λ behind. none i behind d (subst (λ (r : Reached). IsAtMost r.config config) (reached_start_at starts i) g))
    (cases_lt i n)
least_skips c year starts config n m (Some cost) b none h = (
  record { place = h.0.place; within = omega (arith, h.0.within, b); grows = h.0.grows; costs = h.0.costs },
  λ i d g. ⊎_elim
      (λ before. h.1 i before g)
      (λ behind. absurd (none i behind d (subst (λ (r : Reached). IsAtMost r.config config) (reached_start_at starts i) g)))
      (cases_lt i n),
)

-- the starts of a list are those of what is reached
pub listed_starts : (c : CostData) (year : ℕ) (rs : List Reached) (old new : List Start) → AreListed c year rs (length rs) old → IsPermutation old new → AreStarts c year rs new
listed_starts c year rs old new h p =
    record {
      each = All-permutation (IsStart c year) old new p (λ i d b. rw (start_is old i d b) (h.each i (omega (arith, b, h.long))));
      from = All-permutation (IsFrom rs) old new p (λ i d b. rw (start_is old i d b) (record { place = i; within = omega (arith, b, h.long); same = h.same i (omega (arith, b, h.long)) }));
      all = λ i b. record {
        start = start_at old i;
        among = Contains-permutation old new (start_at old i) p (i, omega (arith, b, h.long), start_is old i (start_at old i) (omega (arith, b, h.long)));
        same = h.same i b;
      };
    }

-- the least cost from the starts is that from what is reached
pub least_same : (c : CostData) (year : ℕ) (rs : List Reached) (starts : List Start) (config : List ℕ) (least : Option ℕ) → AreStarts c year rs starts → IsLeastFrom c year (map reached_of starts) (length starts) config least → IsLeastFrom c year rs (length rs) config least
least_same c year rs starts config None v h = λ i b g.
    let s = v.all i b in
    let k = s.among.0 in
    let at : reached_at (map reached_of starts) k ≡ reached_at rs i = reached_start_at starts k ∙ (ap reached_of (sym (start_is starts k s.start s.among.1) ∙ s.among.2) ∙ s.same) in
    h k s.among.1 (subst (λ (r : Reached). IsAtMost r.config config) (sym at) g)
least_same c year rs starts config (Some cost) v h = (
  (let k = h.0.place in
      let f = v.from k _ h.0.within in
      let at : reached_at (map reached_of starts) k ≡ reached_at rs f.place = reached_start_at starts k ∙ f.same in
      record {
        place = f.place;
        within = f.within;
        grows = subst (λ (r : Reached). IsAtMost r.config config) at h.0.grows;
        costs = subst (λ (r : Reached). r.cost + built c year r.config config ≡ cost) at h.0.costs;
      }),
  λ i b g.
      let s = v.all i b in
      let k = s.among.0 in
      let at : reached_at (map reached_of starts) k ≡ reached_at rs i = reached_start_at starts k ∙ (ap reached_of (sym (start_is starts k s.start s.among.1) ∙ s.among.2) ∙ s.same) in
      subst (λ (r : Reached). cost ≤ r.cost + built c year r.config config) at (h.1 k s.among.1 (subst (λ (r : Reached). IsAtMost r.config config) (sym at) g)),
)

pub raised_same : (c : CostData) (year : ℕ) (rs : List Reached) (starts : List Start) (e : Scored) (come : Option ℕ) → AreStarts c year rs starts → IsRaised c year (map reached_of starts) e come → IsRaised c year rs e come
raised_same c year rs starts e come v h =
    record {
      least = h.least;
      is_least = least_same c year rs starts e.config h.least v (subst (λ n. IsLeastFrom c year (map reached_of starts) n e.config h.least) (length-map starts reached_of) h.is_least);
      adds = h.adds;
    }

-- what holds of each item of a list and of one more
pub pushed_each : {X : Type 0} (P : ℕ → X → Type 0) (xs : List X) (x d : X) (n : ℕ) → length xs ≡ n → ((i : ℕ) → i < n → P i (get_or xs i d)) → P n x → (i : ℕ) → i < n + 1 → P i (get_or (xs ++ x ∷ []) i d)
pushed_each {X} P xs x d n long front here i b =
    ⊎_elim
    (λ same. subst (λ (v : X). P i v) (sym (get_or_push xs x d i (long ∙ sym same))) (subst (λ k. P k x) (sym same) here))
    (λ other. subst (λ (v : X). P i v) (sym (get_or-append xs (x ∷ []) d i (omega (arith, b, long, other)))) (front i (omega (arith, b, other))))
    (cases_eq i n)

pub pushed_small : (xs : List (Option ℕ)) (x : Option ℕ) (most : ℕ) → ((i cost : ℕ) → get_or xs i None ≡ Some cost → cost ≤ most) → ((cost : ℕ) → x ≡ Some cost → cost ≤ most) → (i cost : ℕ) → get_or (xs ++ x ∷ []) i None ≡ Some cost → cost ≤ most
pushed_small xs x most front here i cost e =
    ⊎_elim
    (λ (within : i < length xs + 1). pushed_each (λ j (v : Option ℕ). (k : ℕ) → v ≡ Some k → k ≤ most) xs x None (length xs) (omega arith) (λ j b k f. front j k f) here i within cost e)
    (λ (past : length xs + 1 ≤ i). absurd (none-some cost (sym (get_or_past (xs ++ x ∷ []) i None (omega (arith, past, length-append xs (x ∷ [])))) ∙ e)))
    (cases_lt i (length xs + 1))
