-- A listing has no more configurations than its tunnel: what is left of the tunnel falls from one to the next.
use Rattle.std.proofs.Common.{◌≡◌, ℕ, ◌+◌, ◌-◌, ◌*◌, ◌<◌, ◌≤◌, List, [], ◌∷◌, length, Contains, sym, ap, ◌∙◌, arith, ⊎_elim, true≢false}
use Rattle.std.specs.Cmp.Lexicographic.{slice_cmp}
use Rattle.std.specs.Ordering.{is_lt, nat_cmp}
use Rattle.std.specs.declared.cmp.Ordering.TheVariants.{Less}
use Rattle.std.proofs.lemmas.Bool.{cases_eq, cases_lt}
use Rattle.std.proofs.Math.Nat.{mul-le-mul_right, add-mul}
use Rattle.tunnel_configs.specs.Listed.{AreRising, ListingsFit}
use Rattle.tunnel_configs.specs.Neighbours.{left_in}
use Rattle.tunnel_configs.proofs.Boxes.{InBox, first_equal, first_greater, left_pos, less_not_greater, to_box}
use Rattle.tunnel_configs.proofs.Risings.{contains_first, contains_later, rising_first, rising_rest}
use Rattle.year_system.specs.System.{size}

-- no more is left than the whole
left_most : (ls ws xs : List ℕ) → length ws ≡ length ls → InBox ls ws xs → left_in ls ws xs ≤ size ws
left_most [] [] xs e h = omega arith
left_most [] (w ∷ ws) xs e h = absurd (omega (arith, e))
left_most (l ∷ ls) [] xs e h = absurd (omega (arith, e))
left_most (l ∷ ls) (w ∷ ws) [] e h = absurd h
left_most (l ∷ ls) (w ∷ ws) (x ∷ xs) e h =
    let first : (l + w - x) * size ws ≤ w * size ws = mul-le-mul_right (size ws) (omega (arith, h.0)) in
    omega (arith, first, left_most ls ws xs (omega (arith, e)) h.2, add-mul w 1 (size ws))

-- less is left from a later one on
left_falls : (ls ws xs ys : List ℕ) → length ws ≡ length ls → InBox ls ws xs → InBox ls ws ys → slice_cmp nat_cmp xs ys ≡ Less → left_in ls ws ys < left_in ls ws xs
left_falls [] ws [] [] e h i less = absurd (true≢false (sym (ap is_lt less)))
left_falls [] ws [] (y ∷ ys) e h i less = absurd i
left_falls [] ws (x ∷ xs) ys e h i less = absurd h
left_falls (l ∷ ls) ws [] ys e h i less = absurd h
left_falls (l ∷ ls) [] (x ∷ xs) ys e h i less = absurd h
left_falls (l ∷ ls) (w ∷ ws) (x ∷ xs) [] e h i less = absurd i
left_falls (l ∷ ls) (w ∷ ws) (x ∷ xs) (y ∷ ys) e h i less =
    ⊎_elim
    (λ below.
    let step : (l + w - y + 1) * size ws ≤ (l + w - x) * size ws = mul-le-mul_right (size ws) (omega (arith, below, i.1)) in
    omega (arith, step, add-mul (l + w - y) 1 (size ws), left_most ls ws ys (omega (arith, e)) i.2, left_pos ls ws xs))
    (λ above. ⊎_elim
    (λ same.
    let rest = left_falls ls ws xs ys (omega (arith, e)) h.2 i.2 (sym (first_equal x y xs ys same) ∙ less) in
    let step : (l + w - x) * size ws ≡ (l + w - y) * size ws = ap (λ k. (l + w - k) * size ws) same in
    omega (arith, step, rest))
    (λ other. absurd (less_not_greater (slice_cmp nat_cmp (x ∷ xs) (y ∷ ys)) less (first_greater x y xs ys (omega (arith, above, other)))))
    (cases_eq x y))
    (cases_lt x y)

-- so there are no more from one on than are left
rising_left : (ls ws x : List ℕ) (xs : List (List ℕ)) → length ws ≡ length ls → AreRising (x ∷ xs) → ((c : List ℕ) → Contains (x ∷ xs) c → InBox ls ws c) → length (x ∷ xs) ≤ left_in ls ws x
rising_left ls ws x [] e r h = left_pos ls ws x
rising_left ls ws x (y ∷ ys) e r h =
    let less = rising_first x (y ∷ ys) r y (contains_first y ys) in
    let falls = left_falls ls ws x y e (h x (contains_first x (y ∷ ys))) (h y (contains_later x (y ∷ ys) y (contains_first y ys))) less in
    omega (arith, falls, rising_left ls ws y ys e (rising_rest x (y ∷ ys) r) (λ c has. h c (contains_later x (y ∷ ys) c has)))

rising_few : (ls ws : List ℕ) (configs : List (List ℕ)) → length ws ≡ length ls → AreRising configs → ((c : List ℕ) → Contains configs c → InBox ls ws c) → length configs ≤ size ws
rising_few ls ws [] e r h = omega arith
rising_few ls ws (x ∷ xs) e r h =
    omega (arith, rising_left ls ws x xs e r h, left_most ls ws x e (h x (contains_first x xs)))

pub listings_fit : ListingsFit
listings_fit s t m configs e listing =
    rising_few t.least t.width configs e listing.rising (λ c has. to_box t c e (((listing.each c).0 has).tunnel))
