-- What a trial deck says of each head.
use Rattle.std.proofs.Common.{◌≡◌, ℕ, zero, suc, ◌+◌, ◌<◌, ◌≤◌, Bool, true, false, cond, ◌&&◌, ◌==◌, List, [], ◌∷◌, ◌++◌, map, Option, Some, None, refl, sym, ap, subst, ◌∙◌, arith, ⊎_elim, inl, inr}
use Rattle.std.specs.Prelude.{nat_le}
use Rattle.std.specs.List.{range_with_len}
use Rattle.std.proofs.lemmas.Bool.{cases_eq, eq-eqb, ne_eqb}
use Rattle.std.proofs.lemmas.Bool.Decides.{leb_tells}
use Rattle.deck_lines.specs.Body.{BodyParts}
use Rattle.deck_lines.specs.declared.head.Head.{Head}
use Rattle.deck_lines.specs.declared.head.Head.TheVariants as heads
use Rattle.deck_lines.specs.declared.statement.Statement.{Statement}
use Rattle.deck_lines.specs.Statements.{same_head}
use Rattle.deck_lines.specs.Deck.{body_of}
use Rattle.deck_check.specs.Readings.{Says, first}
use Rattle.deck_maker.specs.TrialDeck.{frame, fuels, plant, thermal, river, load, limits, tunnel, trial}

abbrev pub or_else : Option BodyParts → Option BodyParts → Option BodyParts
or_else None other = other
or_else (Some b) other = Some b

over : (b : Bool) (x : BodyParts) (o p : Option BodyParts) → cond b (Some x) (or_else o p) ≡ or_else (cond b (Some x) o) p
over true x o p = refl
over false x o p = refl

pub of_both : (a b : List Statement) (h : Head) → body_of (a ++ b) h ≡ or_else (body_of a h) (body_of b h)
of_both [] b h = refl
of_both (s ∷ a) b h = ap (λ (o : Option BodyParts). cond (same_head s.head h) (Some s.body) o) (of_both a b h) ∙ over (same_head s.head h) s.body (body_of a h) (body_of b h)

elsewhere_from : (f : ℕ → Statement) (h : Head) → ((i : ℕ) → same_head (f i).head h ≡ false) → (a n : ℕ) → body_of (map f (range_with_len a n)) h ≡ None
elsewhere_from f h apart a zero = refl
elsewhere_from f h apart a (suc n) = rw (apart a) (elsewhere_from f h apart (a + 1) n)

pub elsewhere : (f : ℕ → Statement) (h : Head) → ((i : ℕ) → same_head (f i).head h ≡ false) → (n : ℕ) → body_of (map f (first n)) h ≡ None
unfolding first
elsewhere f h apart n = elsewhere_from f h apart 1 n

in_from : (f : ℕ → Statement) (h : Head) (p : ℕ) → ((i : ℕ) → same_head (f i).head h ≡ (i == p)) → (a n : ℕ) → a ≤ p → p < a + n → body_of (map f (range_with_len a n)) h ≡ Some (f p).body
in_from f h p same a zero low high = absurd (omega (arith, low, high))
in_from f h p same a (suc n) low high =
    ⊎_elim
    (λ e. rw (same a, eq-eqb a p e) (ap (λ (x : ℕ). Some ((f x).body)) e))
    (λ ne. rw (same a, ne_eqb a p ne) (in_from f h p same (a + 1) n (omega (arith, low, ne)) (omega (arith, high))))
    (cases_eq a p)

out_from : (f : ℕ → Statement) (h : Head) (p : ℕ) → ((i : ℕ) → same_head (f i).head h ≡ (i == p)) → (a n : ℕ) → (a ≤ p → a + n ≤ p) → body_of (map f (range_with_len a n)) h ≡ None
out_from f h p same a zero out = refl
out_from f h p same a (suc n) out =
    let ne : a ≡ p → ⊥ = λ e. let o : a + suc n ≤ p = out (omega (arith, e)) in omega (arith, o, e) in
    rw (same a, ne_eqb a p ne) (out_from f h p same (a + 1) n (λ le. let o : a + suc n ≤ p = out (omega (arith, le)) in omega (arith, o)))

pub numbered : (f : ℕ → Statement) (h : Head) (p n : ℕ) → ((i : ℕ) → same_head (f i).head h ≡ (i == p)) → body_of (map f (first n)) h ≡ cond (nat_le 1 p && nat_le p n) (Some (f p).body) None
unfolding first
numbered f h p n same = elim (leb_tells 1 p) [
  | inl low ↦ elim (leb_tells p n) [
    | inl high ↦ rw (low.0, high.0) (in_from f h p same 1 n low.1 (omega (arith, high.1)))
    | inr high ↦ rw (low.0, high.0) (out_from f h p same 1 n (λ le. omega (arith, high.1)))
  ]
  | inr low ↦ rw low.0 (out_from f h p same 1 n (λ le. absurd (omega (arith, le, low.1))))
]

pub parts : (seed years candidates : ℕ) (h : Head) → body_of (trial seed years candidates) h
    ≡ or_else (or_else (or_else (or_else (or_else (or_else (or_else (body_of (frame years) h) (body_of (fuels seed) h)) (body_of (map (plant seed) (first 6)) h)) (body_of (map (thermal seed) (first candidates)) h)) (body_of (river seed candidates) h)) (body_of (map (load seed candidates) (first years)) h)) (body_of limits h)) (body_of (map (tunnel candidates) (first years)) h)
unfolding trial
parts s y c h = split (frame y) (fuels s) (map (plant s) (first 6)) (map (thermal s) (first c)) (river s c) (map (load s c) (first y)) limits (map (tunnel c) (first y))
  where
    split : (a b d e f g k l : List Statement) → body_of (a ++ b ++ d ++ e ++ f ++ g ++ k ++ l) h ≡ or_else (or_else (or_else (or_else (or_else (or_else (or_else (body_of a h) (body_of b h)) (body_of d h)) (body_of e h)) (body_of f h)) (body_of g h)) (body_of k h)) (body_of l h)
    split a b d e f g k l = rw (of_both (a ++ b ++ d ++ e ++ f ++ g ++ k) l h, of_both (a ++ b ++ d ++ e ++ f ++ g) k h, of_both (a ++ b ++ d ++ e ++ f) g h, of_both (a ++ b ++ d ++ e) f h, of_both (a ++ b ++ d) e h, of_both (a ++ b) d h, of_both a b h) refl

-- the same, where the years' and the units' statements are known
pub known : (seed years candidates : ℕ) (h : Head) (p k l t : Option BodyParts) → body_of (map (plant seed) (first 6)) h ≡ p → body_of (map (thermal seed) (first candidates)) h ≡ k
    → body_of (map (load seed candidates) (first years)) h ≡ l → body_of (map (tunnel candidates) (first years)) h ≡ t → body_of (trial seed years candidates) h
    ≡ or_else (or_else (or_else (or_else (or_else (or_else (or_else (body_of (frame years) h) (body_of (fuels seed) h)) p) k) (body_of (river seed candidates) h)) l) (body_of limits h)) t
known seed years candidates h p k l t a b c d =
    parts seed years candidates h
    ∙ ap (λ (o : Option BodyParts). or_else (or_else (or_else (or_else (or_else (or_else (or_else (body_of (frame years) h) (body_of (fuels seed) h)) o) (body_of (map (thermal seed) (first candidates)) h)) (body_of (river seed candidates) h)) (body_of (map (load seed candidates) (first years)) h)) (body_of limits h)) (body_of (map (tunnel candidates) (first years)) h)) a
    ∙ ap (λ (o : Option BodyParts). or_else (or_else (or_else (or_else (or_else (or_else (or_else (body_of (frame years) h) (body_of (fuels seed) h)) p) o) (body_of (river seed candidates) h)) (body_of (map (load seed candidates) (first years)) h)) (body_of limits h)) (body_of (map (tunnel candidates) (first years)) h)) b
    ∙ ap (λ (o : Option BodyParts). or_else (or_else (or_else (or_else (or_else (or_else (or_else (body_of (frame years) h) (body_of (fuels seed) h)) p) k) (body_of (river seed candidates) h)) o) (body_of limits h)) (body_of (map (tunnel candidates) (first years)) h)) c
    ∙ ap (λ (o : Option BodyParts). or_else (or_else (or_else (or_else (or_else (or_else (or_else (body_of (frame years) h) (body_of (fuels seed) h)) p) k) (body_of (river seed candidates) h)) l) (body_of limits h)) o) d

-- the deck as a map from heads to bodies
abbrev pub says : ℕ → ℕ → ℕ → Says
says seed years candidates heads.Years = body_of (frame years) heads.Years
says seed years candidates heads.Periods = body_of (frame years) heads.Periods
says seed years candidates heads.Rate = body_of (frame years) heads.Rate
says seed years candidates heads.Ens = body_of (frame years) heads.Ens
says seed years candidates heads.Rule = None
says seed years candidates heads.Cases = None
says seed years candidates heads.Conditions = body_of (frame years) heads.Conditions
says seed years candidates (heads.Shape i) = body_of (frame years) (heads.Shape i)
says seed years candidates (heads.Fuel i) = body_of (fuels seed) (heads.Fuel i)
says seed years candidates (heads.Load i) = cond (nat_le 1 i && nat_le i years) (Some (load seed candidates i).body) None
says seed years candidates (heads.Plant i) = cond (nat_le 1 i && nat_le i 6) (Some (plant seed i).body) None
says seed years candidates (heads.Add i j) = None
says seed years candidates (heads.Retire i j) = None
says seed years candidates (heads.Thermal i) = cond (nat_le 1 i && nat_le i candidates) (Some (thermal seed i).body) None
says seed years candidates (heads.Hydro i) = body_of (river seed candidates) (heads.Hydro i)
says seed years candidates (heads.Project i j) = body_of (river seed candidates) (heads.Project i j)
says seed years candidates (heads.Water i j k) = body_of (river seed candidates) (heads.Water i j k)
says seed years candidates (heads.Tunnel i j) = cond ((1 == i) && nat_le 1 j && nat_le j years) (Some (tunnel candidates j).body) None
says seed years candidates (heads.Margin i j) = body_of limits (heads.Margin i j)
says seed years candidates (heads.Lolp i j) = body_of limits (heads.Lolp i j)
says seed years candidates heads.Version = None
says seed years candidates heads.EnsMore = None
says seed years candidates heads.Escalate = None
says seed years candidates heads.Grid = None

tunnel_out : (candidates years c t : ℕ) → (1 ≡ c → ⊥) → body_of (map (tunnel candidates) (first years)) (heads.Tunnel c t) ≡ None
tunnel_out candidates years c t ne = elsewhere (tunnel candidates) (heads.Tunnel c t) (λ i. rw (ne_eqb 1 c ne) refl) years

tunnel_said : (candidates years c t : ℕ) → body_of (map (tunnel candidates) (first years)) (heads.Tunnel c t) ≡ cond ((1 == c) && nat_le 1 t && nat_le t years) (Some (tunnel candidates t).body) None
tunnel_said candidates years c t =
    ⊎_elim
    (λ e. subst (λ (x : ℕ). body_of (map (tunnel candidates) (first years)) (heads.Tunnel x t) ≡ cond ((1 == x) && nat_le 1 t && nat_le t years) (Some (tunnel candidates t).body) None) e
    (numbered (tunnel candidates) (heads.Tunnel 1 t) t years (λ i. and_true (i == t))))
    (λ ne. tunnel_out candidates years c t ne ∙ sym (rw (ne_eqb 1 c ne) refl))
    (cases_eq 1 c)
  where
    and_true : (b : Bool) → (b && true) ≡ b
    and_true true = refl
    and_true false = refl

nones_1 : (o : Option BodyParts) → or_else o None ≡ o
nones_1 None = refl
nones_1 (Some b) = refl

nones_2 : (o : Option BodyParts) → or_else (or_else o None) None ≡ o
nones_2 None = refl
nones_2 (Some b) = refl

nones_3 : (o : Option BodyParts) → or_else (or_else (or_else o None) None) None ≡ o
nones_3 None = refl
nones_3 (Some b) = refl

nones_4 : (o : Option BodyParts) → or_else (or_else (or_else (or_else o None) None) None) None ≡ o
nones_4 None = refl
nones_4 (Some b) = refl

nones_5 : (o : Option BodyParts) → or_else (or_else (or_else (or_else (or_else o None) None) None) None) None ≡ o
nones_5 None = refl
nones_5 (Some b) = refl

nones_6 : (o : Option BodyParts) → or_else (or_else (or_else (or_else (or_else (or_else o None) None) None) None) None) None ≡ o
nones_6 None = refl
nones_6 (Some b) = refl

nones_7 : (o : Option BodyParts) → or_else (or_else (or_else (or_else (or_else (or_else (or_else o None) None) None) None) None) None) None ≡ o
nones_7 None = refl
nones_7 (Some b) = refl

tail : (b : Bool) → (b && true && true) ≡ b
tail true = refl
tail false = refl

pub said : (seed years candidates : ℕ) (h : Head) → body_of (trial seed years candidates) h ≡ says seed years candidates h
said seed years candidates heads.Years = known seed years candidates heads.Years None None None None (elsewhere (plant seed) heads.Years (λ n. refl) 6) (elsewhere (thermal seed) heads.Years (λ n. refl) candidates) (elsewhere (load seed candidates) heads.Years (λ n. refl) years) (elsewhere (tunnel candidates) heads.Years (λ n. refl) years)
said seed years candidates heads.Periods = known seed years candidates heads.Periods None None None None (elsewhere (plant seed) heads.Periods (λ n. refl) 6) (elsewhere (thermal seed) heads.Periods (λ n. refl) candidates) (elsewhere (load seed candidates) heads.Periods (λ n. refl) years) (elsewhere (tunnel candidates) heads.Periods (λ n. refl) years)
said seed years candidates heads.Rate = known seed years candidates heads.Rate None None None None (elsewhere (plant seed) heads.Rate (λ n. refl) 6) (elsewhere (thermal seed) heads.Rate (λ n. refl) candidates) (elsewhere (load seed candidates) heads.Rate (λ n. refl) years) (elsewhere (tunnel candidates) heads.Rate (λ n. refl) years)
said seed years candidates heads.Ens = known seed years candidates heads.Ens None None None None (elsewhere (plant seed) heads.Ens (λ n. refl) 6) (elsewhere (thermal seed) heads.Ens (λ n. refl) candidates) (elsewhere (load seed candidates) heads.Ens (λ n. refl) years) (elsewhere (tunnel candidates) heads.Ens (λ n. refl) years)
said seed years candidates heads.Rule = known seed years candidates heads.Rule None None None None (elsewhere (plant seed) heads.Rule (λ n. refl) 6) (elsewhere (thermal seed) heads.Rule (λ n. refl) candidates) (elsewhere (load seed candidates) heads.Rule (λ n. refl) years) (elsewhere (tunnel candidates) heads.Rule (λ n. refl) years)
said seed years candidates heads.Cases = known seed years candidates heads.Cases None None None None (elsewhere (plant seed) heads.Cases (λ n. refl) 6) (elsewhere (thermal seed) heads.Cases (λ n. refl) candidates) (elsewhere (load seed candidates) heads.Cases (λ n. refl) years) (elsewhere (tunnel candidates) heads.Cases (λ n. refl) years)
said seed years candidates heads.Conditions = known seed years candidates heads.Conditions None None None None (elsewhere (plant seed) heads.Conditions (λ n. refl) 6) (elsewhere (thermal seed) heads.Conditions (λ n. refl) candidates) (elsewhere (load seed candidates) heads.Conditions (λ n. refl) years) (elsewhere (tunnel candidates) heads.Conditions (λ n. refl) years)
said seed years candidates (heads.Shape i) = known seed years candidates (heads.Shape i) None None None None (elsewhere (plant seed) (heads.Shape i) (λ n. refl) 6) (elsewhere (thermal seed) (heads.Shape i) (λ n. refl) candidates) (elsewhere (load seed candidates) (heads.Shape i) (λ n. refl) years) (elsewhere (tunnel candidates) (heads.Shape i) (λ n. refl) years) ∙ nones_7 (says seed years candidates (heads.Shape i))
said seed years candidates (heads.Fuel i) = known seed years candidates (heads.Fuel i) None None None None (elsewhere (plant seed) (heads.Fuel i) (λ n. refl) 6) (elsewhere (thermal seed) (heads.Fuel i) (λ n. refl) candidates) (elsewhere (load seed candidates) (heads.Fuel i) (λ n. refl) years) (elsewhere (tunnel candidates) (heads.Fuel i) (λ n. refl) years) ∙ nones_6 (says seed years candidates (heads.Fuel i))
said seed years candidates (heads.Load i) = known seed years candidates (heads.Load i) None None (cond (nat_le 1 i && nat_le i years) (Some (load seed candidates i).body) None) None (elsewhere (plant seed) (heads.Load i) (λ n. refl) 6) (elsewhere (thermal seed) (heads.Load i) (λ n. refl) candidates) (numbered (load seed candidates) (heads.Load i) i years (λ n. tail (n == i))) (elsewhere (tunnel candidates) (heads.Load i) (λ n. refl) years) ∙ nones_2 (says seed years candidates (heads.Load i))
said seed years candidates (heads.Plant i) = known seed years candidates (heads.Plant i) (cond (nat_le 1 i && nat_le i 6) (Some (plant seed i).body) None) None None None (numbered (plant seed) (heads.Plant i) i 6 (λ n. tail (n == i))) (elsewhere (thermal seed) (heads.Plant i) (λ n. refl) candidates) (elsewhere (load seed candidates) (heads.Plant i) (λ n. refl) years) (elsewhere (tunnel candidates) (heads.Plant i) (λ n. refl) years) ∙ nones_5 (says seed years candidates (heads.Plant i))
said seed years candidates (heads.Add i j) = known seed years candidates (heads.Add i j) None None None None (elsewhere (plant seed) (heads.Add i j) (λ n. refl) 6) (elsewhere (thermal seed) (heads.Add i j) (λ n. refl) candidates) (elsewhere (load seed candidates) (heads.Add i j) (λ n. refl) years) (elsewhere (tunnel candidates) (heads.Add i j) (λ n. refl) years)
said seed years candidates (heads.Retire i j) = known seed years candidates (heads.Retire i j) None None None None (elsewhere (plant seed) (heads.Retire i j) (λ n. refl) 6) (elsewhere (thermal seed) (heads.Retire i j) (λ n. refl) candidates) (elsewhere (load seed candidates) (heads.Retire i j) (λ n. refl) years) (elsewhere (tunnel candidates) (heads.Retire i j) (λ n. refl) years)
said seed years candidates (heads.Thermal i) = known seed years candidates (heads.Thermal i) None (cond (nat_le 1 i && nat_le i candidates) (Some (thermal seed i).body) None) None None (elsewhere (plant seed) (heads.Thermal i) (λ n. refl) 6) (numbered (thermal seed) (heads.Thermal i) i candidates (λ n. tail (n == i))) (elsewhere (load seed candidates) (heads.Thermal i) (λ n. refl) years) (elsewhere (tunnel candidates) (heads.Thermal i) (λ n. refl) years) ∙ nones_4 (says seed years candidates (heads.Thermal i))
said seed years candidates (heads.Hydro i) = known seed years candidates (heads.Hydro i) None None None None (elsewhere (plant seed) (heads.Hydro i) (λ n. refl) 6) (elsewhere (thermal seed) (heads.Hydro i) (λ n. refl) candidates) (elsewhere (load seed candidates) (heads.Hydro i) (λ n. refl) years) (elsewhere (tunnel candidates) (heads.Hydro i) (λ n. refl) years) ∙ nones_3 (says seed years candidates (heads.Hydro i))
said seed years candidates (heads.Project i j) = known seed years candidates (heads.Project i j) None None None None (elsewhere (plant seed) (heads.Project i j) (λ n. refl) 6) (elsewhere (thermal seed) (heads.Project i j) (λ n. refl) candidates) (elsewhere (load seed candidates) (heads.Project i j) (λ n. refl) years) (elsewhere (tunnel candidates) (heads.Project i j) (λ n. refl) years) ∙ nones_3 (says seed years candidates (heads.Project i j))
said seed years candidates (heads.Water i j k) = known seed years candidates (heads.Water i j k) None None None None (elsewhere (plant seed) (heads.Water i j k) (λ n. refl) 6) (elsewhere (thermal seed) (heads.Water i j k) (λ n. refl) candidates) (elsewhere (load seed candidates) (heads.Water i j k) (λ n. refl) years) (elsewhere (tunnel candidates) (heads.Water i j k) (λ n. refl) years) ∙ nones_3 (says seed years candidates (heads.Water i j k))
said seed years candidates (heads.Tunnel i j) = known seed years candidates (heads.Tunnel i j) None None None (cond ((1 == i) && nat_le 1 j && nat_le j years) (Some (tunnel candidates j).body) None) (elsewhere (plant seed) (heads.Tunnel i j) (λ n. refl) 6) (elsewhere (thermal seed) (heads.Tunnel i j) (λ n. refl) candidates) (elsewhere (load seed candidates) (heads.Tunnel i j) (λ n. refl) years) (tunnel_said candidates years i j)
said seed years candidates (heads.Margin i j) = known seed years candidates (heads.Margin i j) None None None None (elsewhere (plant seed) (heads.Margin i j) (λ n. refl) 6) (elsewhere (thermal seed) (heads.Margin i j) (λ n. refl) candidates) (elsewhere (load seed candidates) (heads.Margin i j) (λ n. refl) years) (elsewhere (tunnel candidates) (heads.Margin i j) (λ n. refl) years) ∙ nones_1 (says seed years candidates (heads.Margin i j))
said seed years candidates (heads.Lolp i j) = known seed years candidates (heads.Lolp i j) None None None None (elsewhere (plant seed) (heads.Lolp i j) (λ n. refl) 6) (elsewhere (thermal seed) (heads.Lolp i j) (λ n. refl) candidates) (elsewhere (load seed candidates) (heads.Lolp i j) (λ n. refl) years) (elsewhere (tunnel candidates) (heads.Lolp i j) (λ n. refl) years) ∙ nones_1 (says seed years candidates (heads.Lolp i j))
said seed years candidates heads.Version = known seed years candidates heads.Version None None None None (elsewhere (plant seed) heads.Version (λ n. refl) 6) (elsewhere (thermal seed) heads.Version (λ n. refl) candidates) (elsewhere (load seed candidates) heads.Version (λ n. refl) years) (elsewhere (tunnel candidates) heads.Version (λ n. refl) years)
said seed years candidates heads.EnsMore = known seed years candidates heads.EnsMore None None None None (elsewhere (plant seed) heads.EnsMore (λ n. refl) 6) (elsewhere (thermal seed) heads.EnsMore (λ n. refl) candidates) (elsewhere (load seed candidates) heads.EnsMore (λ n. refl) years) (elsewhere (tunnel candidates) heads.EnsMore (λ n. refl) years)
said seed years candidates heads.Escalate = known seed years candidates heads.Escalate None None None None (elsewhere (plant seed) heads.Escalate (λ n. refl) 6) (elsewhere (thermal seed) heads.Escalate (λ n. refl) candidates) (elsewhere (load seed candidates) heads.Escalate (λ n. refl) years) (elsewhere (tunnel candidates) heads.Escalate (λ n. refl) years)
said seed years candidates heads.Grid = known seed years candidates heads.Grid None None None None (elsewhere (plant seed) heads.Grid (λ n. refl) 6) (elsewhere (thermal seed) heads.Grid (λ n. refl) candidates) (elsewhere (load seed candidates) heads.Grid (λ n. refl) years) (elsewhere (tunnel candidates) heads.Grid (λ n. refl) years)
