-- A case has one chosen plan or one first infeasible year.
use Rattle.std.proofs.Common.{◌≡◌, ◌≢◌, ℕ, ◌+◌, ◌<◌, ◌≤◌, List, length, take, reverse, sym, ap, ◌∙◌, arith, refl, true≢false, ⊎_elim, inl, inr}
use Rattle.std.proofs.lemmas.Bool.{cases_eq, cases_lt}
use Rattle.std.proofs.lemmas.Cmp.{lists_total, nat_list_cmp_total}
use Rattle.std.proofs.lemmas.List.{get_or-take, length-take-le, reverse-reverse}
use Rattle.std.specs.Cmp.Lexicographic.{slice_cmp}
use Rattle.std.specs.FinMap.{nat_cmp-IsAntisymmetric, slice_cmp-IsAntisymmetric}
use Rattle.std.specs.Ordering.{is_lt, nat_cmp, ordering_reverse}
use Rattle.std.specs.declared.cmp.Ordering.{Ordering}
use Rattle.std.specs.declared.cmp.Ordering.TheVariants.{Less, Equal, Greater}
use Rattle.cost_terms.specs.Table.{Table, plan_cost}
use Rattle.cost_terms.specs.declared.entries.Scored.{Scored}
use Rattle.plan_program.specs.Chosen.{ComesNoLater, IsChosen, IsInfeasible, IsNoWorse, backwards}
use Rattle.plan_program.specs.Plans.{IsAdmissible, configs, entry_at, no_entry}

-- ---- chosen plans

no_greater : (o p : Ordering) → o ≡ ordering_reverse p → o ≢ Greater → p ≢ Greater → o ≡ Equal
no_greater Less Less e f g = absurd (true≢false (sym (ap is_lt (sym e))))
no_greater Less Equal e f g = absurd (true≢false (ap is_lt e))
no_greater Less Greater e f g = absurd (g refl)
no_greater Equal p e f g = refl
no_greater Greater p e f g = absurd (f refl)

-- plans of which neither comes after the other
one_order : (plan other : List Scored) → ComesNoLater plan other → ComesNoLater other plan → configs plan ≡ configs other
one_order plan other f g =
    let total = lists_total nat_list_cmp_total in
    let tie : slice_cmp (slice_cmp nat_cmp) (backwards plan) (backwards other) ≡ Equal = no_greater _ _ (total.antisymm (backwards plan) (backwards other)) f g in
    let same : backwards plan ≡ backwards other = slice_cmp-IsAntisymmetric (slice_cmp-IsAntisymmetric nat_cmp-IsAntisymmetric) (backwards plan) (backwards other) tie in
    sym (reverse-reverse (configs plan)) ∙ (ap reverse same ∙ reverse-reverse (configs other))

not_both : (x y : ℕ) → x < y → y < x → ⊥
not_both x y h g = omega (arith, h, g)

not_less : (x y : ℕ) → x < y → y ≡ x → ⊥
not_less x y h g = omega (arith, h, g)

pub one_chosen : (t : Table) (plan other : List Scored) → IsChosen t plan → IsChosen t other → (configs plan ≡ configs other) × (plan_cost t.economy plan ≡ plan_cost t.economy other)
one_chosen t plan other a b = both (a.best other b.admissible b.whole) (b.best plan a.admissible a.whole)
  where
    both : IsNoWorse t.economy plan other → IsNoWorse t.economy other plan → (configs plan ≡ configs other) × (plan_cost t.economy plan ≡ plan_cost t.economy other)
    both (inl less) (inl more) = absurd (not_both _ _ less more)
    both (inl less) (inr tie) = absurd (not_less _ _ less tie.0)
    both (inr tie) (inl less) = absurd (not_less _ _ less tie.0)
    both (inr tie) (inr back) = (one_order plan other tie.1 back.1, tie.0)

-- ---- infeasible years

-- the first years of an admissible plan are one
front_admissible : (t : Table) (plan : List Scored) (n : ℕ) → IsAdmissible t plan → n ≤ length plan → IsAdmissible t (take n plan)
front_admissible t plan n a le =
    let long : length (take n plan) ≡ n = length-take-le n plan le in
    record {
      years = omega (arith, long, le, a.years);
      accepted = λ k h.
          let e : entry_at (take n plan) k ≡ entry_at plan k = get_or-take n plan k no_entry (omega (arith, h, long)) in
          rw e (a.accepted k (omega (arith, h, long, le)));
      grows = λ k h.
          let e : entry_at (take n plan) k ≡ entry_at plan k = get_or-take n plan k no_entry (omega (arith, h, long)) in
          let f : entry_at (take n plan) (k + 1) ≡ entry_at plan (k + 1) = get_or-take n plan (k + 1) no_entry (omega (arith, h, long)) in
          rw (e, f) (a.grows k (omega (arith, h, long, le)));
    }

pub no_admissible : (t : Table) (plan : List Scored) (year : ℕ) → IsAdmissible t plan → length plan ≡ length t.layers → IsInfeasible t year → ⊥
no_admissible t plan year a whole i =
    let le : year ≤ length plan = omega (arith, i.within.1, whole) in
    i.none (record { plan = take year plan; admissible = front_admissible t plan year a le; long = length-take-le year plan le })

pub no_plan : (t : Table) (plan : List Scored) (year : ℕ) → IsChosen t plan → IsInfeasible t year → ⊥
no_plan t plan year c i = no_admissible t plan year c.admissible c.whole i

pub one_year : (t : Table) (x y : ℕ) → IsInfeasible t x → IsInfeasible t y → x ≡ y
one_year t x y a b =
    ⊎_elim
    (λ less. absurd (a.none (b.first x less)))
    (λ above. ⊎_elim (λ same. sym same) (λ other. absurd (b.none (a.first y (omega (arith, above, other))))) (cases_eq y x))
    (cases_lt x y)
