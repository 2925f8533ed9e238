-- The listed configurations that a walk through a tunnel has found so far.
use Rattle.std.proofs.Common.{◌≡◌, ℕ, ◌+◌, ◌≤◌, ◌↔◌, List, [], ◌∷◌, ◌++◌, length, take, Contains, sym, ap, ◌∙◌, arith, refl, ⊎_elim, subst, inl, inr}
use Rattle.std.specs.Cmp.Lexicographic.{slice_cmp}
use Rattle.std.specs.Ordering.{nat_cmp}
use Rattle.std.specs.declared.cmp.Ordering.TheVariants.{Less}
use Rattle.std.proofs.lemmas.List.{length-append, length-take, take_all}
use Rattle.std.proofs.lemmas.List.Elements.{Contains-append_left, Contains-push, Contains-push_cases}
use Rattle.plant_data.specs.declared.row.Margin.{Margin}
use Rattle.plant_data.specs.declared.row.Tunnel.{Tunnel}
use Rattle.tunnel_configs.specs.Listed.{AreRising, HasListing, IsInTunnel, IsListed, IsListing, MeetsMargin}
use Rattle.tunnel_configs.specs.Neighbours.{Considered, IsGathered, IsLast, IsNext, IsNotAfter}
use Rattle.tunnel_configs.proofs.Boxes.{none_below_least, to_box}
use Rattle.tunnel_configs.proofs.Risings.{contains_none, rising_is_one, rising_none, rising_push, take_front, transitive}
use Rattle.year_system.specs.System.{System}

-- the listed configurations among those that P speaks of
pub record Found (s : System) (t : Tunnel) (m : Margin) (P : List ℕ → Type 0) (count : ℕ) (configs : List (List ℕ)) : Type 0 where
  pub all : List (List ℕ)
  pub rising : AreRising all
  pub each : (c : List ℕ) → Contains all c ↔ (IsListed s t m c × P c)
  pub many : length all ≡ count
  pub first : configs ≡ take 500 all

abbrev pub Before : List ℕ → List ℕ → Type 0
Before x c = slice_cmp nat_cmp c x ≡ Less

abbrev pub UpTo : List ℕ → List ℕ → Type 0
UpTo x c = IsNotAfter c x

pub found_none : (s : System) (t : Tunnel) (m : Margin) → length t.width ≡ length t.least → Found s t m (Before t.least) 0 []
found_none s t m e = record {
  all = [];
  rising = rising_none;
  each = λ c. (λ h. absurd (contains_none c h), λ h. absurd (none_below_least t.least t.width c (to_box t c e h.0.tunnel) h.1));
  many = refl;
  first = refl;
}

pub found_skip : (s : System) (t : Tunnel) (m : Margin) (x : List ℕ) (n : ℕ) (configs : List (List ℕ)) → Found s t m (Before x) n configs → (MeetsMargin s m x → ⊥) → Found s t m (UpTo x) n configs
found_skip s t m x n configs f h = record {
  all = f.all;
  rising = f.rising;
  each = λ c. (
    λ b. let l = (f.each c).0 b in (l.0, inr l.1),
    λ l. ⊎_elim (λ e. absurd (h (subst (λ (z : List ℕ). MeetsMargin s m z) e l.0.margin))) (λ less. (f.each c).1 (l.0, less)) l.1,
  );
  many = f.many;
  first = f.first;
}

pub found_add : (s : System) (t : Tunnel) (m : Margin) (x : List ℕ) (n : ℕ) (configs : List (List ℕ)) → Found s t m (Before x) n configs → IsInTunnel t x → MeetsMargin s m x → Found s t m (UpTo x) (n + 1) (take 500 (configs ++ x ∷ []))
found_add s t m x n configs f b h = record {
  all = f.all ++ x ∷ [];
  rising = rising_push f.all x f.rising (λ c l. ((f.each c).0 l).1);
  each = λ c. (
    λ l. ⊎_elim
        (λ before. let k = (f.each c).0 before in (k.0, inr k.1))
        (λ e. (subst (λ (z : List ℕ). IsListed s t m z) e (record { tunnel = b; margin = h }), inl (sym e)))
        (Contains-push_cases f.all x c l),
    λ l. ⊎_elim
        (λ e. subst (λ (z : List ℕ). Contains (f.all ++ x ∷ []) z) (sym e) (Contains-push f.all x))
        (λ less. Contains-append_left f.all (x ∷ []) c ((f.each c).1 (l.0, less)))
        l.1,
  );
  many = omega (arith, length-append f.all (x ∷ []), f.many);
  first = ap (λ (zs : List (List ℕ)). take 500 (zs ++ x ∷ [])) f.first ∙ take_front 500 f.all (x ∷ []);
}

pub found_next : (s : System) (t : Tunnel) (m : Margin) (x y : List ℕ) (n : ℕ) (configs : List (List ℕ)) → Found s t m (UpTo x) n configs → IsNext t x y → Found s t m (Before y) n configs
found_next s t m x y n configs f h = record {
  all = f.all;
  rising = f.rising;
  each = λ c. (
    λ b. let l = (f.each c).0 b in
        (l.0, ⊎_elim (λ e. subst (λ (z : List ℕ). slice_cmp nat_cmp z y ≡ Less) (sym e) h.after) (λ less. transitive c x y less h.after) l.1),
    λ l. (f.each c).1 (l.0, h.none_between c l.0.tunnel l.1),
  );
  many = f.many;
  first = f.first;
}

pub found_all : (s : System) (t : Tunnel) (m : Margin) (x : List ℕ) (n : ℕ) (configs : List (List ℕ)) → Found s t m (UpTo x) n configs → IsLast t x → IsGathered s t m n configs
found_all s t m x n configs f h = record {
  all = f.all;
  listing = record {
    rising = f.rising;
    each = λ c. (λ b. ((f.each c).0 b).0, λ l. (f.each c).1 (l, h c l.tunnel));
  };
  many = f.many;
  first = f.first;
}

pub listings_one : (s : System) (t : Tunnel) (m : Margin) (one other : List (List ℕ)) → IsListing s t m one → IsListing s t m other → one ≡ other
listings_one s t m one other a b =
    rising_is_one one other a.rising b.rising (λ c h. (b.each c).1 ((a.each c).0 h)) (λ c h. (a.each c).1 ((b.each c).0 h))

pub found_more : (s : System) (t : Tunnel) (m : Margin) (x : List ℕ) (n n' : ℕ) (configs configs' : List (List ℕ)) → Found s t m (Before x) n configs → IsInTunnel t x → Considered s m x n configs n' configs' → Found s t m (UpTo x) n' configs'
found_more s t m x n n' configs configs' f b h =
    ⊎_elim
    (λ meets. subst (λ (k : ℕ). Found s t m (UpTo x) k configs') (sym meets.1) (subst (λ (zs : List (List ℕ)). Found s t m (UpTo x) (n + 1) zs) (sym meets.2) (found_add s t m x n configs f b meets.0)))
    (λ not. subst (λ (k : ℕ). Found s t m (UpTo x) k configs') (sym not.1) (subst (λ (zs : List (List ℕ)). Found s t m (UpTo x) n zs) (sym not.2) (found_skip s t m x n configs f not.0)))
    h

pub considered_few : (s : System) (m : Margin) (x : List ℕ) (n n' : ℕ) (configs configs' : List (List ℕ)) → Considered s m x n configs n' configs' → n' ≤ n + 1
considered_few s m x n n' configs configs' h = ⊎_elim (λ meets. omega (arith, meets.1)) (λ not. omega (arith, not.1)) h

pub found_few : (s : System) (t : Tunnel) (m : Margin) (P : List ℕ → Type 0) (n : ℕ) (configs : List (List ℕ)) → Found s t m P n configs → length configs ≤ 500
found_few s t m P n configs f = omega (arith, ap length f.first, length-take 500 f.all)

-- where they are no more than 500, they are kept whole
pub gathered_whole : (s : System) (t : Tunnel) (m : Margin) (n : ℕ) (configs : List (List ℕ)) → IsGathered s t m n configs → n ≤ 500 → IsListing s t m configs
gathered_whole s t m n configs g h =
    let whole : configs ≡ g.all = g.first ∙ take_all 500 g.all (omega (arith, g.many, h)) in
    subst (λ (zs : List (List ℕ)). IsListing s t m zs) (sym whole) g.listing

pub gathered_few : (s : System) (t : Tunnel) (m : Margin) (n : ℕ) (configs : List (List ℕ)) → IsGathered s t m n configs → length configs ≤ 500
gathered_few s t m n configs g = omega (arith, ap length g.first, length-take 500 g.all)

pub gathered_many : (s : System) (t : Tunnel) (m : Margin) (n : ℕ) (configs : List (List ℕ)) → IsGathered s t m n configs → HasListing s t m n
gathered_many s t m n configs g = record { configs = g.all; listing = g.listing; many = g.many }
