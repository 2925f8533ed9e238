-- The least cost of a year so far.
use Rattle.std.proofs.Common.{◌≡◌, ℕ, ◌+◌, ◌<◌, ◌≤◌, List, length, get_or, Option, Some, None, sym, ap, ◌∙◌, arith, refl, subst, ⊎_elim, inl, inr, ◌⊎◌}
use Rattle.std.proofs.lemmas.Bool.{cases_eq, cases_lt}
use Rattle.std.proofs.lemmas.List.{get_or_past}
use Rattle.std.proofs.lemmas.Option.{none-some}
use Rattle.std.specs.Option.{unwrap_or}
use Rattle.plan_program.specs.Steps.{HasNumber, IsLeastPlace, IsLess}

-- among the first n none has a cost
pub record NoneSoFar (come : List (Option ℕ)) (n place : ℕ) : Type 0 where
  pub none : (i : ℕ) → i < n → get_or come i None ≡ None
  pub start : place ≡ 0

-- or the least of them stands at the place
pub record SomeSoFar (come : List (Option ℕ)) (n place : ℕ) : Type 0 where
  pub cost : ℕ
  pub least : IsLeastPlace come n place cost

abbrev pub LeastSoFar : List (Option ℕ) → ℕ → ℕ → Type 0
LeastSoFar come n place = NoneSoFar come n place ⊎ SomeSoFar come n place

less_of : (a b x y : Option ℕ) → a ≡ x → b ≡ y → IsLess x y → IsLess a b
less_of a b x y e f h = subst (λ (o : Option ℕ). IsLess o b) (sym e) (subst (λ (o : Option ℕ). IsLess x o) (sym f) h)

not_less_of : (a b x y : Option ℕ) → a ≡ x → b ≡ y → (IsLess x y → ⊥) → IsLess a b → ⊥
not_less_of a b x y e f h k = h (subst (λ (o : Option ℕ). IsLess x o) f (subst (λ (o : Option ℕ). IsLess o b) e k))

same_cost : (a b : ℕ) (o : Option ℕ) → o ≡ Some a → o ≡ Some b → a ≡ b
same_cost a b o e f = ap (λ (x : Option ℕ). unwrap_or x 0) (sym e ∙ f)

-- one more without a cost
step_none : (come : List (Option ℕ)) (n place : ℕ) → get_or come n None ≡ None → LeastSoFar come n place → LeastSoFar come (n + 1) place
step_none come n place e h =
    ⊎_elim
    (λ none. inl (record { none = λ i b. ⊎_elim (λ same. ap (λ k. get_or come k None) same ∙ e) (λ other. none.none i (omega (arith, b, other))) (cases_eq i n); start = none.start }))
    (λ some. inr (record {
      cost = some.cost;
      least = record {
        has = some.least.has;
        within = omega (arith, some.least.within);
        least = λ i other b f. ⊎_elim (λ same. absurd (none-some other (sym e ∙ (ap (λ k. get_or come k None) (sym same) ∙ f)))) (λ apart. some.least.least i other (omega (arith, b, apart)) f) (cases_eq i n);
        first = λ i b f. ⊎_elim (λ same. absurd (none-some some.cost (sym e ∙ (ap (λ k. get_or come k None) (sym same) ∙ f)))) (λ apart. some.least.first i (omega (arith, b, apart)) f) (cases_eq i n);
      };
    }))
    h

-- the first with a cost
step_first : (come : List (Option ℕ)) (n v : ℕ) → get_or come n None ≡ Some v → ((i : ℕ) → i < n → get_or come i None ≡ None) → LeastSoFar come (n + 1) n
step_first come n v e none = inr (record {
  cost = v;
  least = record {
    has = e;
    within = omega arith;
    least = λ i other b f. ⊎_elim (λ same. omega (arith, same_cost other v (get_or come n None) (ap (λ k. get_or come k None) (sym same) ∙ f) e)) (λ apart. absurd (none-some other (sym (none i (omega (arith, b, apart))) ∙ f))) (cases_eq i n);
    first = λ i b f. ⊎_elim (λ same. omega (arith, same)) (λ apart. absurd (none-some v (sym (none i (omega (arith, b, apart))) ∙ f))) (cases_eq i n);
  };
})

-- one with a lesser cost
step_less : (come : List (Option ℕ)) (n place v w : ℕ) → get_or come n None ≡ Some v → IsLeastPlace come n place w → v < w → LeastSoFar come (n + 1) n
step_less come n place v w e h l = inr (record {
  cost = v;
  least = record {
    has = e;
    within = omega arith;
    least = λ i other b f. ⊎_elim (λ same. omega (arith, same_cost other v (get_or come n None) (ap (λ k. get_or come k None) (sym same) ∙ f) e)) (λ apart. omega (arith, l, h.least i other (omega (arith, b, apart)) f)) (cases_eq i n);
    first = λ i b f. ⊎_elim (λ same. omega (arith, same)) (λ apart. absurd (omega (arith, l, h.least i v (omega (arith, b, apart)) f))) (cases_eq i n);
  };
})

-- one with no lesser cost
step_more : (come : List (Option ℕ)) (n place v w : ℕ) → get_or come n None ≡ Some v → IsLeastPlace come n place w → w ≤ v → LeastSoFar come (n + 1) place
step_more come n place v w e h l = inr (record {
  cost = w;
  least = record {
    has = h.has;
    within = omega (arith, h.within);
    least = λ i other b f. ⊎_elim (λ same. omega (arith, l, same_cost other v (get_or come n None) (ap (λ k. get_or come k None) (sym same) ∙ f) e)) (λ apart. h.least i other (omega (arith, b, apart)) f) (cases_eq i n);
    first = λ i b f. ⊎_elim (λ same. omega (arith, same, h.within)) (λ apart. h.first i (omega (arith, b, apart)) f) (cases_eq i n);
  };
})

abbrev Moves : List (Option ℕ) → ℕ → ℕ → ℕ → Type 0
Moves come n place result =
    (IsLess (get_or come n None) (get_or come place None) → result ≡ n) × ((IsLess (get_or come n None) (get_or come place None) → ⊥) → result ≡ place)

step_some : (come : List (Option ℕ)) (n place result v : ℕ) → get_or come n None ≡ Some v → LeastSoFar come n place → Moves come n place result → LeastSoFar come (n + 1) result
step_some come n place result v e h m =
    ⊎_elim
    (λ none. ⊎_elim
    (λ zero'.
    let here : get_or come place None ≡ Some v = ap (λ k. get_or come k None) (omega (arith, none.start, zero')) ∙ e in
    let stays : result ≡ place = m.1 (not_less_of (get_or come n None) (get_or come place None) (Some v) (Some v) e here (λ (l : v < v). omega (arith, l))) in
    let at : result ≡ n = omega (arith, stays, none.start, zero') in
    subst (λ k. LeastSoFar come (n + 1) k) (sym at) (step_first come n v e none.none))
    (λ some'.
    let empty : get_or come place None ≡ None = none.none place (omega (arith, none.start, some')) in
    let goes : result ≡ n = m.0 (less_of (get_or come n None) (get_or come place None) (Some v) None e empty tt) in
    subst (λ k. LeastSoFar come (n + 1) k) (sym goes) (step_first come n v e none.none))
    (cases_eq n 0))
    (λ some. ⊎_elim
    (λ (below : v < some.cost). subst (λ k. LeastSoFar come (n + 1) k) (sym (m.0 (less_of (get_or come n None) (get_or come place None) (Some v) (Some some.cost) e some.least.has below))) (step_less come n place v some.cost e some.least below))
    (λ above. subst (λ k. LeastSoFar come (n + 1) k) (sym (m.1 (not_less_of (get_or come n None) (get_or come place None) (Some v) (Some some.cost) e some.least.has (λ (l : v < some.cost). omega (arith, l, above))))) (step_more come n place v some.cost e some.least above))
    (cases_lt v some.cost))
    h

step_case : (come : List (Option ℕ)) (n place result : ℕ) (o : Option ℕ) → get_or come n None ≡ o → LeastSoFar come n place → Moves come n place result → LeastSoFar come (n + 1) result
step_case come n place result None e h m =
    subst (λ k. LeastSoFar come (n + 1) k) (sym (m.1 (λ l. subst (λ (o : Option ℕ). IsLess o (get_or come place None)) e l))) (step_none come n place e h)
step_case come n place result (Some v) e h m = step_some come n place result v e h m

pub least_step : (come : List (Option ℕ)) (n place result : ℕ) → LeastSoFar come n place → (IsLess (get_or come n None) (get_or come place None) → result ≡ n) → ((IsLess (get_or come n None) (get_or come place None) → ⊥) → result ≡ place) → LeastSoFar come (n + 1) result
least_step come n place result h less same = step_case come n place result (get_or come n None) refl h (less, same)

-- at the end
pub least_done : (come : List (Option ℕ)) (place : ℕ) → LeastSoFar come (length come) place → HasNumber come → (cost : ℕ) × IsLeastPlace come (length come) place cost
least_done come place h n =
    ⊎_elim
    (λ none. absurd (none-some n.cost (sym (wanting come n.place none.none) ∙ n.has)))
    (λ some. (some.cost, some.least))
    h
  where
    wanting : (come : List (Option ℕ)) (i : ℕ) → ((k : ℕ) → k < length come → get_or come k None ≡ None) → get_or come i None ≡ None
    wanting come i f = ⊎_elim (λ below. f i below) (λ above. get_or_past come i None above) (cases_lt i (length come))
