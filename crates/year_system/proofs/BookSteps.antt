-- A system stands at one place of a book.
use Rattle.std.proofs.Common.{◌≡◌, ◌≢◌, ℕ, ◌<◌, ◌≤◌, ◌↔◌, ◌++◌, List, [], ◌∷◌, All, AllPairs, length, slice_get, Some, arith, ap, ◌∙◌, sym, get_or, refl, ⊎_elim}
use Rattle.std.proofs.lemmas.Bool.{cases_eq, cases_lt}
use Rattle.std.proofs.lemmas.List.{length_push, get_or_push}
use Rattle.std.proofs.lemmas.List.Elements.{All-push}
use Rattle.std.proofs.lemmas.List.Quantifiers.{all_pairs_push}
use Rattle.std.proofs.lemmas.Option.{slice_get-get_or, slice_get_within, get_or_from_slice_get}
use Rattle.year_system.specs.System.{IsSystem, System}

abbrev pub IsBook : List System → Type 0
IsBook ss = (length ss ≤ 2048) × AllPairs (λ s t. s ≢ t) ss × All IsSystem ss

pub book_push : (ss : List System) (s : System) → IsBook ss → length ss < 2048 → ((k : ℕ) (d : System) → k < length ss → get_or ss k d ≢ s) → IsSystem s → IsBook (ss ++ s ∷ [])
book_push ss s b h f v =
    (omega (arith, length_push ss s), all_pairs_push (λ a t. a ≢ t) ss s b.1 f, All-push IsSystem ss s b.2 v)

pub found_last : (ss : List System) (s : System) → slice_get (ss ++ s ∷ []) (length ss) ≡ Some s
found_last ss s = slice_get-get_or (ss ++ s ∷ []) (length ss) s (omega (arith, length_push ss s)) ∙ ap Some (get_or_push ss s s (length ss) refl)

pub found_at : (ss : List System) (k : ℕ) (x s : System) → k < length ss → x ≡ get_or ss k x → x ≡ s → slice_get ss k ≡ Some s
found_at ss k x s h e f = slice_get-get_or ss k x h ∙ ap Some (sym e ∙ f)

-- where no two systems are the same, no other place holds one
pub only_place : (ss : List System) (i : ℕ) (s : System) → AllPairs (λ a b. a ≢ b) ss → slice_get ss i ≡ Some s → (k : ℕ) → (slice_get ss k ≡ Some s) ↔ (k ≡ i)
only_place ss i s apart at k =
    let one : slice_get ss k ≡ Some s → k ≡ i = λ h.
    let a : get_or ss k s ≡ s = get_or_from_slice_get ss k s s h in
    let b : get_or ss i s ≡ s = get_or_from_slice_get ss i s s at in
    ⊎_elim (λ same. same)
    (λ other. ⊎_elim (λ l. absurd (apart k i s l (slice_get_within ss i s at) (a ∙ sym b)))
    (λ g. let l : i < k = omega (arith, g, other) in absurd (apart i k s l (slice_get_within ss k s h) (b ∙ sym a))) (cases_lt k i)) (cases_eq k i) in
    (one, λ e. ap (λ n. slice_get ss n) e ∙ at)
