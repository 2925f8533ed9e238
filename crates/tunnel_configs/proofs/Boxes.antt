-- The configurations of a tunnel by their counts one after the other, and which comes next.
use Rattle.std.proofs.Common.{◌≡◌, ℕ, zero, suc, ◌+◌, ◌-◌, ◌*◌, ◌<◌, ◌≤◌, List, [], ◌∷◌, length, get_or, sym, ap, ◌∙◌, arith, refl, subst, ⊎_elim, inl, inr, true≢false}
use Rattle.std.specs.Bool.{⊤}
use Rattle.std.specs.Cmp.{nat_cmp_is}
use Rattle.std.specs.Cmp.Lexicographic.{slice_cmp}
use Rattle.std.specs.Ordering.{is_lt, nat_cmp, ordering_then}
use Rattle.std.specs.declared.cmp.Ordering.{Ordering}
use Rattle.std.specs.declared.cmp.Ordering.TheVariants.{Less, Equal, Greater}
use Rattle.std.proofs.lemmas.Bool.{cases_eq, cases_lt}
use Rattle.std.proofs.Math.Nat.{mul-le-mul_right, add-mul}
use Rattle.plant_data.specs.declared.row.Tunnel.{Tunnel}
use Rattle.tunnel_configs.specs.Listed.{IsInTunnel}
use Rattle.tunnel_configs.specs.Neighbours.{IsLast, IsNext, IsNotAfter, left_in}
use Rattle.year_system.specs.System.{size}

-- each count within its least and its width
abbrev pub InBox : List ℕ → List ℕ → List ℕ → Type 0
InBox [] ws [] = ⊤
InBox [] ws (x ∷ xs) = ⊥
InBox (l ∷ ls) ws [] = ⊥
InBox (l ∷ ls) [] (x ∷ xs) = ⊥
InBox (l ∷ ls) (w ∷ ws) (x ∷ xs) = (l ≤ x) × (x ≤ l + w) × InBox ls ws xs

pub in_box : (ls ws xs : List ℕ) → length ws ≡ length ls → length xs ≡ length ls → ((k : ℕ) → k < length xs → (get_or ls k 0 ≤ get_or xs k 0) × (get_or xs k 0 ≤ get_or ls k 0 + get_or ws k 0)) → InBox ls ws xs
in_box [] ws [] e f h = tt
in_box [] ws (x ∷ xs) e f h = absurd (omega (arith, f))
in_box (l ∷ ls) ws [] e f h = absurd (omega (arith, f))
in_box (l ∷ ls) [] (x ∷ xs) e f h = absurd (omega (arith, e))
in_box (l ∷ ls) (w ∷ ws) (x ∷ xs) e f h =
    let first = h 0 (omega arith) in
    (first.0, first.1, in_box ls ws xs (omega (arith, e)) (omega (arith, f)) (λ k b. h (suc k) (omega (arith, b))))

pub box_long : (ls ws xs : List ℕ) → InBox ls ws xs → length xs ≡ length ls
box_long [] ws [] h = refl
box_long [] ws (x ∷ xs) h = absurd h
box_long (l ∷ ls) ws [] h = absurd h
box_long (l ∷ ls) [] (x ∷ xs) h = absurd h
box_long (l ∷ ls) (w ∷ ws) (x ∷ xs) h = omega (arith, box_long ls ws xs h.2)

pub box_each : (ls ws xs : List ℕ) → InBox ls ws xs → (k : ℕ) → k < length xs → (get_or ls k 0 ≤ get_or xs k 0) × (get_or xs k 0 ≤ get_or ls k 0 + get_or ws k 0)
box_each [] ws [] h k b = absurd (omega (arith, b))
box_each [] ws (x ∷ xs) h k b = absurd h
box_each (l ∷ ls) ws [] h k b = absurd h
box_each (l ∷ ls) [] (x ∷ xs) h k b = absurd h
box_each (l ∷ ls) (w ∷ ws) (x ∷ xs) h zero b = (h.0, h.1)
box_each (l ∷ ls) (w ∷ ws) (x ∷ xs) h (suc k) b = box_each ls ws xs h.2 k (omega (arith, b))

-- the least configuration
pub least_in_box : (ls ws : List ℕ) → length ws ≡ length ls → InBox ls ws ls
least_in_box [] ws e = tt
least_in_box (l ∷ ls) [] e = absurd (omega (arith, e))
least_in_box (l ∷ ls) (w ∷ ws) e = (omega arith, omega arith, least_in_box ls ws (omega (arith, e)))

-- what the first counts say of the order
pub first_less : (x y : ℕ) (xs ys : List ℕ) → x < y → slice_cmp nat_cmp (x ∷ xs) (y ∷ ys) ≡ Less
first_less x y xs ys h = ap (λ o. ordering_then o (slice_cmp nat_cmp xs ys)) (sym (nat_cmp_is x y Less h))

pub first_equal : (x y : ℕ) (xs ys : List ℕ) → x ≡ y → slice_cmp nat_cmp (x ∷ xs) (y ∷ ys) ≡ slice_cmp nat_cmp xs ys
first_equal x y xs ys h = ap (λ o. ordering_then o (slice_cmp nat_cmp xs ys)) (sym (nat_cmp_is x y Equal h))

pub first_greater : (x y : ℕ) (xs ys : List ℕ) → y < x → slice_cmp nat_cmp (x ∷ xs) (y ∷ ys) ≡ Greater
first_greater x y xs ys h = ap (λ o. ordering_then o (slice_cmp nat_cmp xs ys)) (sym (nat_cmp_is x y Greater h))

pub less_not_greater : (o : Ordering) → o ≡ Less → o ≡ Greater → ⊥
less_not_greater Less e f = absurd (true≢false (ap is_lt f))
less_not_greater Equal e f = absurd (true≢false (sym (ap is_lt e)))
less_not_greater Greater e f = absurd (true≢false (sym (ap is_lt e)))

-- the same with one more count in front
pub not_after_more : (x y : ℕ) (xs ys : List ℕ) → x ≡ y → IsNotAfter xs ys → IsNotAfter (x ∷ xs) (y ∷ ys)
not_after_more x y xs ys e h =
    ⊎_elim (λ same. inl (λ i. e i ∷ same i)) (λ less. inr (first_equal x y xs ys e ∙ less)) h

-- nothing comes after the greatest configuration
pub full_last : (ls ws xs c : List ℕ) → InBox ls ws c → length xs ≡ length ls → ((i : ℕ) → i < length xs → get_or xs i 0 ≡ get_or ls i 0 + get_or ws i 0) → IsNotAfter c xs
full_last [] ws [] [] h e f = inl refl
full_last [] ws (x ∷ xs) c h e f = absurd (omega (arith, e))
full_last [] ws [] (y ∷ c) h e f = absurd h
full_last (l ∷ ls) ws xs [] h e f = absurd h
full_last (l ∷ ls) ws [] (y ∷ c) h e f = absurd (omega (arith, e))
full_last (l ∷ ls) [] (x ∷ xs) (y ∷ c) h e f = absurd h
full_last (l ∷ ls) (w ∷ ws) (x ∷ xs) (y ∷ c) h e f =
    let top : x ≡ l + w = f 0 (omega arith) in
    ⊎_elim
    (λ below. inr (first_less y x c xs below))
    (λ above.
    not_after_more y x c xs (omega (arith, above, top, h.1)) (full_last ls ws xs c h.2 (omega (arith, e)) (λ i b. f (suc i) (omega (arith, b)))))
    (cases_lt y x)

-- nothing comes before the least configuration
pub none_below_least : (ls ws c : List ℕ) → InBox ls ws c → slice_cmp nat_cmp c ls ≡ Less → ⊥
none_below_least [] ws [] h e = absurd (true≢false (sym (ap is_lt e)))
none_below_least [] ws (y ∷ c) h e = absurd h
none_below_least (l ∷ ls) ws [] h e = absurd h
none_below_least (l ∷ ls) [] (y ∷ c) h e = absurd h
none_below_least (l ∷ ls) (w ∷ ws) (y ∷ c) h e =
    ⊎_elim
    (λ same. none_below_least ls ws c h.2 (sym (first_equal y l c ls same) ∙ e))
    (λ other. less_not_greater (slice_cmp nat_cmp (y ∷ c) (l ∷ ls)) e (first_greater y l c ls (omega (arith, h.0, other))))
    (cases_eq y l)

pub left_pos : (ls ws xs : List ℕ) → 1 ≤ left_in ls ws xs
left_pos [] ws xs = omega arith
left_pos (l ∷ ls) [] xs = omega arith
left_pos (l ∷ ls) (w ∷ ws) [] = omega arith
left_pos (l ∷ ls) (w ∷ ws) (x ∷ xs) = omega (arith, left_pos ls ws xs)

pub left_least : (ls ws : List ℕ) → length ws ≡ length ls → left_in ls ws ls ≡ size ws
left_least [] [] e = refl
left_least [] (w ∷ ws) e = absurd (omega (arith, e))
left_least (l ∷ ls) [] e = absurd (omega (arith, e))
left_least (l ∷ ls) (w ∷ ws) e =
    let n : l + w - l ≡ w = omega arith in
    omega (arith, left_least ls ws (omega (arith, e)), ap (λ k. k * size ws) n, add-mul w 1 (size ws))

-- lists that are the same at each place
pub same_list : (xs ys : List ℕ) → length xs ≡ length ys → ((i : ℕ) → i < length xs → get_or xs i 0 ≡ get_or ys i 0) → xs ≡ ys
same_list [] [] e h = refl
same_list [] (y ∷ ys) e h = absurd (omega (arith, e))
same_list (x ∷ xs) [] e h = absurd (omega (arith, e))
same_list (x ∷ xs) (y ∷ ys) e h =
    let first : x ≡ y = h 0 (omega arith) in
    let rest = same_list xs ys (omega (arith, e)) (λ i b. h (suc i) (omega (arith, b))) in
    λ i. first i ∷ rest i

-- what the next configuration is
pub record Next (ls ws xs ys : List ℕ) : Type 0 where
  pub box : InBox ls ws ys
  pub after : slice_cmp nat_cmp xs ys ≡ Less
  pub fewer : left_in ls ws ys < left_in ls ws xs
  pub none_between : (c : List ℕ) → InBox ls ws c → slice_cmp nat_cmp c ys ≡ Less → IsNotAfter c xs

-- one count grows, those after it begin anew
pub record Grown (ls ws xs ys : List ℕ) (k : ℕ) : Type 0 where
  pub long : length ys ≡ length xs
  pub within : k < length xs
  pub room : get_or xs k 0 < get_or ls k 0 + get_or ws k 0
  pub full : (i : ℕ) → k < i → i < length xs → get_or xs i 0 ≡ get_or ls i 0 + get_or ws i 0
  pub before : (i : ℕ) → i < k → get_or ys i 0 ≡ get_or xs i 0
  pub one : get_or ys k 0 ≡ get_or xs k 0 + 1
  pub anew : (i : ℕ) → k < i → get_or ys i 0 ≡ get_or ls i 0

-- the first count grows, the others are at their greatest
between_here : (l w x y : ℕ) (ls ws xs ys c : List ℕ) → InBox (l ∷ ls) (w ∷ ws) c → y ≡ x + 1 → ys ≡ ls → length xs ≡ length ls → ((i : ℕ) → i < length xs → get_or xs i 0 ≡ get_or ls i 0 + get_or ws i 0) → slice_cmp nat_cmp c (y ∷ ys) ≡ Less → IsNotAfter c (x ∷ xs)
between_here l w x y ls ws xs ys [] b g least long full less = absurd b
between_here l w x y ls ws xs ys (z ∷ c) b g least long full less =
    ⊎_elim
    (λ below. inr (first_less z x c xs below))
    (λ above. ⊎_elim
    (λ same. not_after_more z x c xs same (full_last ls ws xs c b.2 long full))
    (λ other. ⊎_elim
    (λ at. absurd (none_below_least ls ws c b.2 (ap (λ (zs : List ℕ). slice_cmp nat_cmp c zs) (sym least) ∙ (sym (first_equal z y c ys at) ∙ less))))
    (λ past. absurd (less_not_greater (slice_cmp nat_cmp (z ∷ c) (y ∷ ys)) less (first_greater z y c ys (omega (arith, past, g, above, other)))))
    (cases_eq z y))
    (cases_eq z x))
    (cases_lt z x)

next_here : (l w x y : ℕ) (ls ws xs ys : List ℕ) → InBox (l ∷ ls) (w ∷ ws) (x ∷ xs) → length ws ≡ length ls → Grown (l ∷ ls) (w ∷ ws) (x ∷ xs) (y ∷ ys) 0 → Next (l ∷ ls) (w ∷ ws) (x ∷ xs) (y ∷ ys)
next_here l w x y ls ws xs ys h e g =
    let long = box_long ls ws xs h.2 in
    let grown : y ≡ x + 1 = g.one in
    let room : x < l + w = g.room in
    let full : (i : ℕ) → i < length xs → get_or xs i 0 ≡ get_or ls i 0 + get_or ws i 0 = λ i b. g.full (suc i) (omega arith) (omega (arith, b)) in
    let least : ys ≡ ls = same_list ys ls (omega (arith, g.long, long)) (λ i b. g.anew (suc i) (omega arith)) in
    let rest : left_in ls ws ys ≡ size ws = ap (λ (zs : List ℕ). left_in ls ws zs) least ∙ left_least ls ws e in
    let step : (l + w - y + 1) * size ws ≤ (l + w - x) * size ws = mul-le-mul_right (size ws) (omega (arith, grown, room)) in
    record {
      box = (omega (arith, h.0, grown), omega (arith, grown, room), subst (λ (zs : List ℕ). InBox ls ws zs) (sym least) (least_in_box ls ws e));
      after = first_less x y xs ys (omega (arith, grown));
      fewer = omega (arith, rest, step, add-mul (l + w - y) 1 (size ws), left_pos ls ws xs);
      none_between = λ c b less. between_here l w x y ls ws xs ys c b grown least long full less;
    }

between_later : (l w x y : ℕ) (ls ws xs ys c : List ℕ) → InBox (l ∷ ls) (w ∷ ws) c → x ≡ y → Next ls ws xs ys → slice_cmp nat_cmp c (y ∷ ys) ≡ Less → IsNotAfter c (x ∷ xs)
between_later l w x y ls ws xs ys [] b e n less = absurd b
between_later l w x y ls ws xs ys (z ∷ c) b e n less =
    ⊎_elim
    (λ below. inr (first_less z x c xs below))
    (λ above. ⊎_elim
    (λ same. not_after_more z x c xs same (n.none_between c b.2 (sym (first_equal z y c ys (same ∙ e)) ∙ less)))
    (λ other. absurd (less_not_greater (slice_cmp nat_cmp (z ∷ c) (y ∷ ys)) less (first_greater z y c ys (omega (arith, e, above, other)))))
    (cases_eq z x))
    (cases_lt z x)

next_later : (l w x y : ℕ) (ls ws xs ys : List ℕ) → InBox (l ∷ ls) (w ∷ ws) (x ∷ xs) → x ≡ y → Next ls ws xs ys → Next (l ∷ ls) (w ∷ ws) (x ∷ xs) (y ∷ ys)
next_later l w x y ls ws xs ys h e n =
    let same : (l + w - x) * size ws ≡ (l + w - y) * size ws = ap (λ k. (l + w - k) * size ws) e in
    record {
      box = (omega (arith, h.0, e), omega (arith, h.1, e), n.box);
      after = first_equal x y xs ys e ∙ n.after;
      fewer = omega (arith, same, n.fewer);
      none_between = λ c b less. between_later l w x y ls ws xs ys c b e n less;
    }

pub next_is : (ls ws xs ys : List ℕ) (k : ℕ) → InBox ls ws xs → length ws ≡ length ls → Grown ls ws xs ys k → Next ls ws xs ys
next_is [] ws [] ys k h e g = absurd (omega (arith, g.within))
next_is [] ws (x ∷ xs) ys k h e g = absurd h
next_is (l ∷ ls) ws [] ys k h e g = absurd h
next_is (l ∷ ls) [] (x ∷ xs) ys k h e g = absurd h
next_is (l ∷ ls) (w ∷ ws) (x ∷ xs) [] k h e g = absurd (omega (arith, g.long))
next_is (l ∷ ls) (w ∷ ws) (x ∷ xs) (y ∷ ys) zero h e g = next_here l w x y ls ws xs ys h (omega (arith, e)) g
next_is (l ∷ ls) (w ∷ ws) (x ∷ xs) (y ∷ ys) (suc k) h e g =
    let first : x ≡ y = sym (g.before 0 (omega arith)) in
    next_later l w x y ls ws xs ys h first (next_is ls ws xs ys k h.2 (omega (arith, e)) (record {
      long = omega (arith, g.long);
      within = omega (arith, g.within);
      room = g.room;
      full = λ i a b. g.full (suc i) (omega (arith, a)) (omega (arith, b));
      before = λ i b. g.before (suc i) (omega (arith, b));
      one = g.one;
      anew = λ i b. g.anew (suc i) (omega (arith, b));
    }))

-- the same of tunnels
pub to_box : (t : Tunnel) (c : List ℕ) → length t.width ≡ length t.least → IsInTunnel t c → InBox t.least t.width c
to_box t c e h = in_box t.least t.width c e h.width h.each

pub from_box : (t : Tunnel) (c : List ℕ) → InBox t.least t.width c → IsInTunnel t c
from_box t c h = record { width = box_long t.least t.width c h; each = box_each t.least t.width c h }

pub record Advanced (t : Tunnel) (xs ys : List ℕ) : Type 0 where
  pub next : IsNext t xs ys
  pub fewer : left_in t.least t.width ys < left_in t.least t.width xs

pub advanced : (t : Tunnel) (xs ys : List ℕ) (k : ℕ) → length t.width ≡ length t.least → IsInTunnel t xs → Grown t.least t.width xs ys k → Advanced t xs ys
advanced t xs ys k e h g =
    let n = next_is t.least t.width xs ys k (to_box t xs e h) e g in
    record {
      next = record {
        tunnel = from_box t ys n.box;
        after = n.after;
        none_between = λ c b less. n.none_between c (to_box t c e b) less;
      };
      fewer = n.fewer;
    }

pub last_is : (t : Tunnel) (xs : List ℕ) → length t.width ≡ length t.least → IsInTunnel t xs → ((i : ℕ) → i < length xs → get_or xs i 0 ≡ get_or t.least i 0 + get_or t.width i 0) → IsLast t xs
last_is t xs e h f c b = full_last t.least t.width xs c (to_box t c e b) h.width f
