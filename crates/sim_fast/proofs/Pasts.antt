-- The load past one unit more.
use Rattle.std.proofs.Common.{◌≡◌, ℕ, ◌+◌, ◌-◌, ◌/◌, ◌≤◌, List, [], ◌∷◌, ◌++◌, ap, ◌∙◌, arith}
use Rattle.std.proofs.lemmas.List.Sums.{fold_push, sum_by_push}
use Rattle.wasp_fixed.specs.Curves.{before}
use Rattle.wasp_fixed.specs.declared.numbers.TheConstants.{M, ONE}
use Rattle.convolution.specs.EquivalentLoad.{Part, eq_step, equivalent_load, two_states}
use Rattle.sim_fast.specs.Behind.{cells_of, load_past, shifted_step}

-- at a place past the unit, what falls to it where it is out comes from its capacity before
before-past : (f : ℕ → ℕ) (c x : ℕ) → c ≤ x → before ONE f c x ≡ f (x - c)
before-past f c x h = grind (arith, h)

step-from : (f : ℕ → ℕ) (c r n y : ℕ) → eq_step f c r (n + c + y) ≡ two_states r (f (n + (y + c))) (f (n + y)) / M
step-from f c r n y =
    let e : n + c + y ≡ n + (y + c) = omega arith in
    let d : n + c + y - c ≡ n + y = omega arith in
    let b : before ONE f c (n + c + y) ≡ f (n + y) = before-past f c (n + c + y) (omega arith) ∙ ap f d in
    (λ i. two_states r (f (e i)) (b i) / M)

pub past-more : (base : ℕ → ℕ) (parts : List Part) (p : Part) (y : ℕ) → load_past base (parts ++ p ∷ []) y ≡ shifted_step (load_past base parts) p.capacity p.rate y
past-more base parts p y =
    let f : equivalent_load base (parts ++ p ∷ []) ≡ eq_step (equivalent_load base parts) p.capacity p.rate = fold_push (λ curve q. eq_step curve q.capacity q.rate) base parts p in
    let n : cells_of (parts ++ p ∷ []) ≡ cells_of parts + p.capacity = sum_by_push (λ q. q.capacity) parts p in
    (λ i. f i (n i + y)) ∙ step-from (equivalent_load base parts) p.capacity p.rate (cells_of parts) y

pub past-none : (base : ℕ → ℕ) (y : ℕ) → load_past base [] y ≡ base y
past-none base y = ap base (let e : 0 + y ≡ y = omega arith in e)
