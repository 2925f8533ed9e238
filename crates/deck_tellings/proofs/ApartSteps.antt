-- Distinct elements of another list are no more than it has.
use Rattle.std.proofs.Common.{◌≡◌, ◌≢◌, ℕ, suc, ◌+◌, ◌-◌, ◌<◌, ◌≤◌, List, [], ◌∷◌, ◌++◌, length, get_or, AllPairs, Contains, sym, ap, ◌∙◌, arith, refl, ⊎_elim}
use Rattle.std.specs.List.{remove}
use Rattle.std.proofs.lemmas.Bool.{cases_eq, cases_lt}
use Rattle.std.proofs.lemmas.List.{get_or_default}
use Rattle.std.proofs.lemmas.List.Edits.{get_or-remove_above, get_or-remove_below, length-remove}

-- what stands in a list and is not what is taken out stands there after it
stays_in : {X : Type 0} (x z : X) (ys : List X) (i : ℕ) → i < length ys → get_or ys i x ≡ x → x ≢ z → Contains ys z → Contains (remove ys i) z
stays_in x z ys i b e apart (j, bj, ej) =
    let long = length-remove ys i b in
    ⊎_elim
    (λ below. (j, omega (arith, long, b, below), get_or-remove_below ys i z j below b ∙ ej))
    (λ above. ⊎_elim
    (λ same. absurd (apart (sym e ∙ (get_or_default ys i x z b ∙ (ap (λ k. get_or ys k z) (sym same) ∙ ej)))))
    (λ other.
    let next : j - 1 + 1 ≡ j = omega (arith, above, other) in
    (j - 1, omega (arith, long, bj, above, other), get_or-remove_above ys i z (j - 1) (omega (arith, above, other)) b ∙ (ap (λ k. get_or ys k z) next ∙ ej)))
    (cases_eq j i))
    (cases_lt j i)

pub no_longer : {X : Type 0} (xs ys : List X) → AllPairs (λ one other. one ≢ other) xs → ((z : X) → Contains xs z → Contains ys z) → length xs ≤ length ys
no_longer [] ys apart inside = omega arith
no_longer (x ∷ xs) ys apart inside =
    let at = inside x (0, omega arith, refl) in
    let rest = no_longer xs (remove ys at.0) (λ j k d less within. apart (suc j) (suc k) d (omega (arith, less)) (omega (arith, within)))
    (λ z has. stays_in x z ys at.0 at.1 at.2 (λ same. apart 0 (suc has.0) z (omega arith) (omega (arith, has.1)) (same ∙ sym has.2)) (inside z (suc has.0, omega (arith, has.1), has.2))) in
    omega (arith, rest, length-remove ys at.0 at.1)

-- what is apart stays so without its front
pub apart_behind : {X : Type 0} (xs ys : List X) → AllPairs (λ one other. one ≢ other) (xs ++ ys) → AllPairs (λ one other. one ≢ other) ys
apart_behind [] ys apart = apart
apart_behind (x ∷ xs) ys apart = apart_behind xs ys (λ i j d less within. apart (suc i) (suc j) d (omega (arith, less)) (omega (arith, within)))
