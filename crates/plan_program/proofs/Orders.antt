-- Whole plans in the order of choice: by cost, and then by the configurations from the last back.
use Rattle.std.proofs.Common.{◌≡◌, ℕ, ◌<◌, List, [], ◌∷◌, ◌++◌, reverse, sym, ap, ◌∙◌, arith, refl, ⊎_elim, inl, inr, true≢false, ◌≢◌, ◌⊎◌}
use Rattle.std.specs.Cmp.Lexicographic.{slice_cmp}
use Rattle.std.specs.Ordering.{is_gt, is_lt, nat_cmp, ordering_reverse, ordering_then}
use Rattle.std.specs.declared.cmp.Ordering.{Ordering}
use Rattle.std.specs.declared.cmp.Ordering.TheVariants.{Less, Equal, Greater}
use Rattle.std.proofs.lemmas.Grind.{reverse_onto}
use Rattle.std.proofs.lemmas.Cmp.{nat_list_cmp_total}
use Rattle.std.proofs.lemmas.List.{reverse-reverse}
use Rattle.cost_terms.specs.declared.entries.Scored.{Scored}
use Rattle.cost_terms.specs.declared.prices.CostData.{CostData}
use Rattle.plan_program.specs.Chosen.{IsNoWorse, backwards}
use Rattle.plan_program.specs.Plans.{configs}
use Rattle.plan_program.specs.Ways.{way_cost}
use Rattle.plan_program.proofs.Ways.{cost_same, reverse_more}

abbrev pub lists_cmp : List (List ℕ) → List (List ℕ) → Ordering
lists_cmp xs ys = slice_cmp (slice_cmp nat_cmp) xs ys

-- the configurations backwards are those of the way
pub configs_push : (es : List Scored) (e : Scored) → configs (es ++ e ∷ []) ≡ configs es ++ e.config ∷ []
configs_push [] e = refl
configs_push (d ∷ es) e = ap (λ (xs : List (List ℕ)). d.config ∷ xs) (configs_push es e)

configs_reverse : (es : List Scored) → configs (reverse es) ≡ reverse (configs es)
configs_reverse [] = refl
configs_reverse (e ∷ es) = ap configs (reverse_more e es) ∙ (configs_push (reverse es) e ∙ (ap (λ (xs : List (List ℕ)). xs ++ e.config ∷ []) (configs_reverse es) ∙ sym (reverse_onto (configs es) e.config [])))

pub backwards_is : (es : List Scored) → backwards (reverse es) ≡ configs es
backwards_is es = ap reverse (configs_reverse es) ∙ reverse-reverse (configs es)

-- no worse, of ways
abbrev pub NoWorse : CostData → List Scored → List Scored → Type 0
NoWorse c xs ys = (way_cost c xs < way_cost c ys) ⊎ ((way_cost c xs ≡ way_cost c ys) × (lists_cmp (configs xs) (configs ys) ≢ Greater))

pub no_worse : (c : CostData) (xs ys : List Scored) → NoWorse c xs ys → IsNoWorse c (reverse xs) (reverse ys)
no_worse c xs ys h =
    ⊎_elim
    (λ less. inl (omega (arith, less, cost_same c xs, cost_same c ys)))
    (λ same. inr (cost_same c xs ∙ (same.0 ∙ sym (cost_same c ys)), rw (backwards_is xs) (rw (backwards_is ys) same.1)))
    h

pub worse_no : (c : CostData) (xs ys : List Scored) → IsNoWorse c (reverse xs) (reverse ys) → NoWorse c xs ys
worse_no c xs ys h =
    ⊎_elim
    (λ less. inl (omega (arith, less, cost_same c xs, cost_same c ys)))
    (λ same. inr (sym (cost_same c xs) ∙ (same.0 ∙ cost_same c ys), rw (← backwards_is xs) (rw (← backwards_is ys) same.1)))
    h

equal_itself : (o : Ordering) → o ≡ ordering_reverse o → o ≡ Equal
equal_itself Less e = absurd (true≢false (ap is_lt e))
equal_itself Equal e = refl
equal_itself Greater e = absurd (true≢false (sym (ap is_lt e)))

pub config_equal : (x : List ℕ) → slice_cmp nat_cmp x x ≡ Equal
config_equal x = equal_itself (slice_cmp nat_cmp x x) (nat_list_cmp_total.antisymm x x)

less_no_greater : (o : Ordering) → o ≡ Less → o ≢ Greater
less_no_greater Less e f = true≢false (ap is_lt f)
less_no_greater Equal e f = true≢false (sym (ap is_lt e))
less_no_greater Greater e f = true≢false (sym (ap is_lt e))

equal_no_greater : (o : Ordering) → o ≡ Equal → o ≢ Greater
equal_no_greater o e f = true≢false (sym (ap is_gt (sym e ∙ f)))

-- by the first configuration
pub same_first : (x : List ℕ) (xs ys : List (List ℕ)) → lists_cmp (x ∷ xs) (x ∷ ys) ≡ lists_cmp xs ys
same_first x xs ys = ap (λ o. ordering_then o (lists_cmp xs ys)) (config_equal x)

pub less_first : (x y : List ℕ) (xs ys : List (List ℕ)) → slice_cmp nat_cmp x y ≡ Less → lists_cmp (x ∷ xs) (y ∷ ys) ≢ Greater
less_first x y xs ys h = less_no_greater (lists_cmp (x ∷ xs) (y ∷ ys)) (ap (λ o. ordering_then o (lists_cmp xs ys)) h)

pub none_none : lists_cmp [] [] ≢ Greater
none_none = equal_no_greater (lists_cmp [] []) refl
