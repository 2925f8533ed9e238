-- Two rankings of one table are equal.
use Rattle.std.proofs.Common.{◌≡◌, ℕ, zero, suc, ◌<◌, List, [], length, map, get_or, Contains, sym, ap, ◌∙◌, arith, subst, ⊎_elim, inl, inr, ◌⊎◌, true≢false}
use Rattle.std.proofs.lemmas.Bool.{cases_eq, cases_lt}
use Rattle.std.proofs.lemmas.Cmp.{lists_total, nat_list_cmp_total}
use Rattle.std.specs.Cmp.Lexicographic.{slice_cmp}
use Rattle.std.specs.Ordering.{is_lt, nat_cmp, ordering_reverse}
use Rattle.std.specs.declared.cmp.Ordering.{Ordering}
use Rattle.std.specs.declared.cmp.Ordering.TheVariants.{Less}
use Rattle.cost_terms.specs.declared.entries.Scored.{Scored}
use Rattle.cost_terms.specs.declared.prices.CostData.{CostData}
use Rattle.plan_program.specs.Chosen.{backwards}
use Rattle.wasp_fixed.proofs.Lists.{list_ext}
use Rattle.best_plans.specs.Best.{AreFirst, IsBetter, IsWhole, RankingsAreOne, shown}
use Rattle.best_plans.proofs.Putting.{at_place}

-- an order in which no two come before one another
abbrev IsOneWay : {A : Type 0} → (A → A → Type 0) → Type 0
IsOneWay {A} Before = (x y : A) → Before x y → Before y x → ⊥

module _ {A : Type 0} (Before : A → A → Type 0) (IsSuch : A → Type 0) (none : A) (k : ℕ) (one_way : IsOneWay Before) where
  abbrev First : List A → Type 0
  First xs = AreFirst Before IsSuch none k xs

  abbrev Same : List A → List A → ℕ → Type 0
  Same xs ys i = (j : ℕ) → j < i → j < length xs → j < length ys → get_or xs j none ≡ get_or ys j none

  -- the i-th of one list stands in the other there, or the other's i-th comes before it
  one_side : (xs ys : List A) (i : ℕ) → First xs → First ys → Same xs ys i → i < length xs → i < length ys → (get_or xs i none ≡ get_or ys i none) ⊎ Before (get_or ys i none) (get_or xs i none)
  one_side xs ys i f g same b c = ⊎_elim there (λ out. inr (out.1 i c)) (g.all (get_or xs i none) (f.each i b))
    where
      there : Contains ys (get_or xs i none) → (get_or xs i none ≡ get_or ys i none) ⊎ Before (get_or ys i none) (get_or xs i none)
      there m =
          let is : get_or ys m.0 none ≡ get_or xs i none = at_place ys none (get_or xs i none) m in
          ⊎_elim
          (λ less.
          let back : get_or xs m.0 none ≡ get_or xs i none = same m.0 less (omega (arith, less, b)) m.1 ∙ is in
          let before : Before (get_or xs m.0 none) (get_or xs i none) = f.order m.0 i less b in
          let itself : Before (get_or xs i none) (get_or xs i none) = subst (λ (x : A). Before x (get_or xs i none)) back before in
          absurd (one_way (get_or xs i none) (get_or xs i none) itself itself))
          (λ above. ⊎_elim
          (λ eq. inl (sym is ∙ ap (λ n. get_or ys n none) eq))
          (λ other. inr (subst (λ (x : A). Before (get_or ys i none) x) is (g.order i m.0 (omega (arith, above, other)) m.1)))
          (cases_eq m.0 i))
          (cases_lt m.0 i)

  same_here : (xs ys : List A) (i : ℕ) → First xs → First ys → Same xs ys i → i < length xs → i < length ys → get_or xs i none ≡ get_or ys i none
  same_here xs ys i f g same b c = ⊎_elim
      (λ e. e)
      (λ before. ⊎_elim (λ e. sym e) (λ after. absurd (one_way (get_or ys i none) (get_or xs i none) before after)) (one_side ys xs i g f (λ j l p q. sym (same j l q p)) c b))
      (one_side xs ys i f g same b c)

  same_all : (xs ys : List A) → First xs → First ys → (i : ℕ) → Same xs ys i
  same_all xs ys f g zero j l b c = absurd (omega (arith, l))
  same_all xs ys f g (suc i) j l b c = ⊎_elim (λ e. subst (λ n. n < length xs → n < length ys → get_or xs n none ≡ get_or ys n none) (sym e) (λ p q. same_here xs ys i f g (same_all xs ys f g i) p q) b c) (λ other. same_all xs ys f g i j (omega (arith, l, other)) b c) (cases_eq j i)

  no_longer : (xs ys : List A) → First xs → First ys → length xs < length ys → ⊥
  no_longer xs ys f g less = ⊎_elim
      (λ m.
      let n = length xs in
      let is : get_or xs m.0 none ≡ get_or ys n none = at_place xs none (get_or ys n none) m in
      let back : get_or ys m.0 none ≡ get_or ys n none = sym (same_all xs ys f g n m.0 m.1 m.1 (omega (arith, m.1, less))) ∙ is in
      let itself : Before (get_or ys n none) (get_or ys n none) = subst (λ (x : A). Before x (get_or ys n none)) back (g.order m.0 n m.1 less) in
      one_way (get_or ys n none) (get_or ys n none) itself itself)
      (λ out. omega (arith, out.0, less, g.few))
      (f.all (get_or ys (length xs) none) (g.each (length xs) less))

  pub first_one : (xs ys : List A) → First xs → First ys → xs ≡ ys
  first_one xs ys f g =
      let long : length xs ≡ length ys = ⊎_elim (λ less. absurd (no_longer xs ys f g less)) (λ more. ⊎_elim (λ e. e) (λ other. absurd (no_longer ys xs g f (omega (arith, more, other)))) (cases_eq (length xs) (length ys))) (cases_lt (length xs) (length ys)) in
      list_ext none xs ys long (λ i b. same_all xs ys f g (suc i) i (omega arith) b (omega (arith, b, long)))

not_both : (o p : Ordering) → o ≡ ordering_reverse p → o ≡ Less → p ≡ Less → ⊥
not_both o p e f g = true≢false (ap is_lt (sym f ∙ (e ∙ ap ordering_reverse g)))

better_one_way : (c : CostData) → IsOneWay (IsBetter c)
better_one_way c x y (inl p) (inl q) = omega (arith, p, q)
better_one_way c x y (inl p) (inr q) = omega (arith, p, q.0)
better_one_way c x y (inr p) (inl q) = omega (arith, p.0, q)
better_one_way c x y (inr p) (inr q) = not_both (slice_cmp (slice_cmp nat_cmp) (backwards x) (backwards y)) (slice_cmp (slice_cmp nat_cmp) (backwards y) (backwards x)) ((lists_total nat_list_cmp_total).antisymm (backwards x) (backwards y)) p.1 q.1

pub one_ranking : RankingsAreOne
one_ranking t k one other a b = a.shows ∙ (ap (λ (plans : List (List Scored)). map (shown t.economy) plans) (first_one (IsBetter t.economy) (IsWhole t) [] k (better_one_way t.economy) a.plans b.plans a.best b.best) ∙ sym b.shows)
