-- Names and layers that stand in the same order.
use Rattle.std.proofs.Common.{◌≡◌, ◌≢◌, ℕ, zero, suc, ◌+◌, ◌<◌, List, [], ◌∷◌, length, get_or, map, Contains, Option, Some, None, sym, ap, ◌∙◌, arith, refl, subst, true≢false, ⊎_elim, ◌⊎◌}
use Rattle.std.proofs.Math.ListN.{get_or-map}
use Rattle.std.proofs.lemmas.Bool.{cases_eq, cases_lt}
use Rattle.std.proofs.lemmas.List.{get_or_default, get_or_past, length-map}
use Rattle.std.proofs.lemmas.Cmp.{nat_list_cmp_total}
use Rattle.std.proofs.lemmas.Option.{none-some}
use Rattle.std.specs.Cmp.Lexicographic.{slice_cmp}
use Rattle.std.specs.Ordering.{is_lt, nat_cmp, ordering_reverse}
use Rattle.std.specs.declared.cmp.Ordering.TheVariants.{Less}
use Rattle.plant_data.specs.Configs.{IsAtMost}
use Rattle.cost_terms.specs.Cost.{nothing_built}
use Rattle.cost_terms.specs.Table.{IsTable, Table}
use Rattle.cost_terms.specs.declared.entries.Scored.{Scored}
use Rattle.plan_program.specs.Plans.{configs, entry_at, layer_at, no_entry}
use Rattle.plan_program.proofs.Forward.{contains_at, place_of}
use Rattle.wasp_fixed.proofs.Lists.{first_or_rest, contains_tail, list_ext}
use Rattle.plan_certificate.specs.Certificate.{AreBounds, CertData, IsAccepted, IsCertificate, NamesAccepted, NoneAfterNone, Precedes, Says, named_in}
use Rattle.plan_certificate.specs.Steps.{AreAligned, ArrivalKeeps, RuleHolds, StepKeeps, YearsKeep, arrival, name_at, names_of, no_name}
use Rattle.plan_certificate.specs.declared.certificate.Named.{Named}
use Rattle.plan_certificate.specs.declared.steps.Rule.{Rule}
use Rattle.plan_certificate.specs.declared.steps.Rule.TheVariants.{Bounded, Reached}

-- ---- lists that rise by a key

abbrev pub RisesBy : {X : Type 0} → X → (X → List ℕ) → List X → Type 0
RisesBy d f xs = (i j : ℕ) → i < j → j < length xs → slice_cmp nat_cmp (f (get_or xs i d)) (f (get_or xs j d)) ≡ Less

pub no_less : (x : List ℕ) → slice_cmp nat_cmp x x ≡ Less → ⊥
no_less x h = true≢false (sym (ap is_lt (sym (nat_list_cmp_total.antisymm x x ∙ ap ordering_reverse h) ∙ h)))

pub no_both : (x y : List ℕ) → slice_cmp nat_cmp x y ≡ Less → slice_cmp nat_cmp y x ≡ Less → ⊥
no_both x y h g = true≢false (sym (ap is_lt (sym (nat_list_cmp_total.antisymm x y ∙ ap ordering_reverse g) ∙ h)))

rises_tail : {X : Type 0} (d : X) (f : X → List ℕ) (x : X) (xs : List X) → RisesBy d f (x ∷ xs) → RisesBy d f xs
rises_tail d f x xs r i j h b = r (suc i) (suc j) (omega (arith, h)) (omega (arith, b))

above_head : {X : Type 0} (d : X) (f : X → List ℕ) (x : X) (xs : List X) (z : X) → RisesBy d f (x ∷ xs) → Contains xs z → slice_cmp nat_cmp (f x) (f z) ≡ Less
above_head d f x xs z r (k, b, e) = subst (λ y. slice_cmp nat_cmp (f x) (f y) ≡ Less) (get_or_default xs k d z b ∙ e) (r 0 (suc k) (omega arith) (omega (arith, b)))

pub contains_head : {X : Type 0} (x : X) (xs : List X) → Contains (x ∷ xs) x
contains_head x xs = (0, omega arith, refl)

pub none_in_none : {X : Type 0} (z : X) → Contains {X = X} [] z → ⊥
none_in_none z (k, b, e) = omega (arith, b)

heads : {X : Type 0} (d : X) (f : X → List ℕ) (x y : X) (xs ys : List X) → RisesBy d f (x ∷ xs) → RisesBy d f (y ∷ ys) → Contains (y ∷ ys) x → Contains (x ∷ xs) y → x ≡ y
heads d f x y xs ys r s a b =
    ⊎_elim (λ e. sym e)
    (λ later. ⊎_elim (λ e. e) (λ also. absurd (no_both (f y) (f x) (above_head d f y ys x s later) (above_head d f x xs y r also))) (first_or_rest x xs y b))
    (first_or_rest y ys x a)

-- two lists that rise and have the same elements are one
pub same_sorted : {X : Type 0} (d : X) (f : X → List ℕ) (xs ys : List X) → RisesBy d f xs → RisesBy d f ys → ((z : X) → Contains xs z → Contains ys z) → ((z : X) → Contains ys z → Contains xs z) → xs ≡ ys
same_sorted d f [] [] r s a b = refl
same_sorted d f [] (y ∷ ys) r s a b = absurd (none_in_none y (b y (contains_head y ys)))
same_sorted d f (x ∷ xs) [] r s a b = absurd (none_in_none x (a x (contains_head x xs)))
same_sorted {X} d f (x ∷ xs) (y ∷ ys) r s a b =
    let e : x ≡ y = heads d f x y xs ys r s (a x (contains_head x xs)) (b y (contains_head y ys)) in
    let one : (z : X) → Contains xs z → Contains ys z = λ z h.
    ⊎_elim (λ same. absurd (no_less (f x) (subst (λ w. slice_cmp nat_cmp (f x) (f w) ≡ Less) (sym (e ∙ same)) (above_head d f x xs z r h)))) (λ g. g) (first_or_rest y ys z (a z (contains_tail x xs z h))) in
    let two : (z : X) → Contains ys z → Contains xs z = λ z h.
    ⊎_elim (λ same. absurd (no_less (f y) (subst (λ w. slice_cmp nat_cmp (f y) (f w) ≡ Less) (sym (sym e ∙ same)) (above_head d f y ys z s h)))) (λ g. g) (first_or_rest x xs z (b z (contains_tail y ys z h))) in
    let rest : xs ≡ ys = same_sorted d f xs ys (rises_tail d f x xs r) (rises_tail d f y ys s) one two in
    λ i. e i ∷ rest i

-- equal keys stand at one place
pub same_place : {X : Type 0} (d : X) (f : X → List ℕ) (xs : List X) (i j : ℕ) → RisesBy d f xs → i < length xs → j < length xs → f (get_or xs i d) ≡ f (get_or xs j d) → i ≡ j
same_place d f xs i j r b b' e =
    ⊎_elim
    (λ below. absurd (no_less (f (get_or xs i d)) (subst (λ (y : List ℕ). slice_cmp nat_cmp (f (get_or xs i d)) y ≡ Less) (sym e) (r i j below b'))))
    (λ above. ⊎_elim (λ same. sym same) (λ other. absurd (no_less (f (get_or xs j d)) (subst (λ (y : List ℕ). slice_cmp nat_cmp (f (get_or xs j d)) y ≡ Less) e (r j i (omega (arith, above, other)) b)))) (cases_eq j i))
    (cases_lt i j)

-- ---- entries of a table

pub layer_rises : (t : Table) → IsTable t → (k : ℕ) → RisesBy no_entry (λ (e : Scored). e.config) (layer_at t k)
layer_rises t v k i j h b =
    ⊎_elim
    (λ within. v.rises k [] within i j no_entry h b)
    (λ past. absurd (omega (arith, h, b, ap length (get_or_past t.layers k [] past))))
    (cases_lt k (length t.layers))

-- the entries of a layer with one configuration are one
pub one_entry : (t : Table) → IsTable t → (k : ℕ) (e d : Scored) → Contains (layer_at t k) e → Contains (layer_at t k) d → e.config ≡ d.config → e ≡ d
one_entry t v k e d a b same =
    let p = place_of (layer_at t k) e a in
    let q = place_of (layer_at t k) d b in
    let at : p.place ≡ q.place = same_place no_entry (λ (x : Scored). x.config) (layer_at t k) p.place q.place (layer_rises t v k) p.within q.within (ap (λ (x : Scored). x.config) p.is ∙ (same ∙ sym (ap (λ (x : Scored). x.config) q.is))) in
    sym p.is ∙ (ap (λ i. entry_at (layer_at t k) i) at ∙ q.is)

pub layer_within : (t : Table) (k : ℕ) (e : Scored) → Contains (layer_at t k) e → k < length t.layers
layer_within t k e (i, b, is) = ⊎_elim (λ h. h) (λ past. absurd (omega (arith, b, ap length (get_or_past t.layers k [] past)))) (cases_lt k (length t.layers))

-- ---- names

pub names_rise : (c : CertData) → IsCertificate c → (k : ℕ) → k < length c.entries → RisesBy no_name (λ (n : Named). n.config) (named_in c k)
names_rise c v k h i j g b = v.rises k [] h i j no_name g b

pub said_within : (c : CertData) (k : ℕ) (config : List ℕ) (value : Option ℕ) → Says c k config value → k < length c.entries
said_within c k config value (i, b, is) = ⊎_elim (λ h. h) (λ past. absurd (omega (arith, b, ap length (get_or_past c.entries k [] past)))) (cases_lt k (length c.entries))

pub long_as : (names : List Named) (layer : List Scored) → names_of names ≡ configs layer → length names ≡ length layer
long_as names layer e = sym (length-map names (λ (n : Named). n.config)) ∙ (ap length e ∙ length-map layer (λ (s : Scored). s.config))

pub config_as : (names : List Named) (layer : List Scored) (j : ℕ) → names_of names ≡ configs layer → (name_at names j).config ≡ (entry_at layer j).config
config_as names layer j e = sym (get_or-map (λ (n : Named). n.config) names j no_name) ∙ (ap (λ (xs : List (List ℕ)). get_or xs j []) e ∙ get_or-map (λ (s : Scored). s.config) layer j no_entry)

pub named_at : (c : CertData) (k j : ℕ) (config : List ℕ) → j < length (named_in c k) → (name_at (named_in c k) j).config ≡ config → Says c k config (name_at (named_in c k) j).value
named_at c k j config b e =
    let x : Named = record { config = config; value = (name_at (named_in c k) j).value } in
    let is : name_at (named_in c k) j ≡ x = λ i. record { config = e i; value = (name_at (named_in c k) j).value } in
    (j, b, get_or_default (named_in c k) j x no_name b ∙ is)

pub said_at : (t : Table) (c : CertData) → AreAligned t c → (k j : ℕ) → k < length t.layers → j < length (layer_at t k) → Says c k (entry_at (layer_at t k) j).config (name_at (named_in c k) j).value
said_at t c a k j h b = named_at c k j (entry_at (layer_at t k) j).config (omega (arith, b, long_as (named_in c k) (layer_at t k) (a k h))) (config_as (named_in c k) (layer_at t k) j (a k h))

-- where a certificate says something
pub record SaidAt (t : Table) (c : CertData) (k : ℕ) (config : List ℕ) (value : Option ℕ) : Type 0 where
  pub year : k < length t.layers
  pub place : ℕ
  pub within : place < length (layer_at t k)
  pub same : (entry_at (layer_at t k) place).config ≡ config
  pub entry : (name_at (named_in c k) place).value ≡ value

pub place_said : (t : Table) (c : CertData) → AreAligned t c → length c.entries ≡ length t.layers → (k : ℕ) (config : List ℕ) (value : Option ℕ) → Says c k config value → SaidAt t c k config value
place_said t c a n k config value s = at s
  where
    at : Says c k config value → SaidAt t c k config value
    at (j, b, is) =
        let h : k < length t.layers = omega (arith, n, said_within c k config value (j, b, is)) in
        let x : Named = record { config = config; value = value } in
        let name : name_at (named_in c k) j ≡ x = get_or_default (named_in c k) j no_name x b ∙ is in
        record {
          year = h;
          place = j;
          within = omega (arith, b, long_as (named_in c k) (layer_at t k) (a k h));
          same = sym (config_as (named_in c k) (layer_at t k) j (a k h)) ∙ ap (λ (m : Named). m.config) name;
          entry = ap (λ (m : Named). m.value) name;
        }

-- the same configurations, place by place
pub same_lists : (names : List Named) (layer : List Scored) → length names ≡ length layer → ((i : ℕ) → i < length layer → (name_at names i).config ≡ (entry_at layer i).config) → names_of names ≡ configs layer
same_lists names layer n h =
    let ln = length-map names (λ (m : Named). m.config) in
    let ll = length-map layer (λ (s : Scored). s.config) in
    list_ext [] (names_of names) (configs layer) (ln ∙ (n ∙ sym ll)) (λ i b. get_or-map (λ (m : Named). m.config) names i no_name ∙ (h i (omega (arith, b, ln, n)) ∙ sym (get_or-map (λ (s : Scored). s.config) layer i no_entry)))

-- ---- condition 1

pub aligned_named : (t : Table) (c : CertData) → length c.entries ≡ length t.layers → AreAligned t c → NamesAccepted t c
aligned_named t c n a = record {
  only = λ k config value s. let p = place_said t c a n k config value s in (entry_at (layer_at t k) p.place, contains_at (layer_at t k) p.place p.within, p.same);
  all = λ k config (e, b, same).
      let p = place_of (layer_at t k) e b in
      ((name_at (named_in c k) p.place).value, subst (λ (x : List ℕ). Says c k x (name_at (named_in c k) p.place).value) (ap (λ (x : Scored). x.config) p.is ∙ same) (said_at t c a k p.place (layer_within t k e b) p.within));
}

contains_map : {X : Type 0} (f : X → List ℕ) (d : X) (xs : List X) (i : ℕ) (y : List ℕ) → i < length xs → f (get_or xs i d) ≡ y → Contains (map f xs) y
contains_map f d xs i y b e = (i, omega (arith, b, length-map xs f), get_or_default (map f xs) i y (f d) (omega (arith, b, length-map xs f)) ∙ (get_or-map f xs i d ∙ e))

map_contains : {X : Type 0} (f : X → List ℕ) (d : X) (xs : List X) (y : List ℕ) → Contains (map f xs) y → (i : ℕ) × (i < length xs) × (f (get_or xs i d) ≡ y)
map_contains f d xs y (i, b, e) = (i, omega (arith, b, length-map xs f), sym (get_or-map f xs i d) ∙ (get_or_default (map f xs) i (f d) y b ∙ e))

map_rises : {X : Type 0} (f : X → List ℕ) (d : X) (xs : List X) → f d ≡ [] → RisesBy d f xs → RisesBy [] (λ (x : List ℕ). x) (map f xs)
map_rises f d xs z r i j h b =
    let at : (k : ℕ) → f (get_or xs k d) ≡ get_or (map f xs) k [] = λ k. sym (get_or-map f xs k d) ∙ ap (λ (y : List ℕ). get_or (map f xs) k y) z in
    rw (← at i) (rw (← at j) (r i j h (omega (arith, b, length-map xs f))))

pub named_aligned : (t : Table) (c : CertData) → IsTable t → IsCertificate c → length c.entries ≡ length t.layers → NamesAccepted t c → AreAligned t c
named_aligned t c v w n a k h =
    same_sorted [] (λ (x : List ℕ). x) (names_of (named_in c k)) (configs (layer_at t k))
    (map_rises (λ (m : Named). m.config) no_name (named_in c k) refl (names_rise c w k (omega (arith, n, h))))
    (map_rises (λ (s : Scored). s.config) no_entry (layer_at t k) refl (layer_rises t v k))
    (λ z m.
    let p = map_contains (λ (x : Named). x.config) no_name (named_in c k) z m in
    accepted z (a.only k z (name_at (named_in c k) p.0).value (named_at c k p.0 z p.1 p.2)))
    (λ z m.
    let p = map_contains (λ (x : Scored). x.config) no_entry (layer_at t k) z m in
    said z (a.all k z (entry_at (layer_at t k) p.0, contains_at (layer_at t k) p.0 p.1, p.2)))
  where
    accepted : (z : List ℕ) → IsAccepted t k z → Contains (configs (layer_at t k)) z
    accepted z (e, b, same) =
        let p = place_of (layer_at t k) e b in
        contains_map (λ (x : Scored). x.config) no_entry (layer_at t k) p.place z p.within (ap (λ (x : Scored). x.config) p.is ∙ same)

    said : (z : List ℕ) → ((value : Option ℕ) × Says c k z value) → Contains (names_of (named_in c k)) z
    said z (value, (i, b, is)) =
        let x : Named = record { config = z; value = value } in
        contains_map (λ (m : Named). m.config) no_name (named_in c k) i z b (ap (λ (m : Named). m.config) (get_or_default (named_in c k) i no_name x b ∙ is))

-- ---- conditions 2 and 3

pub rule_years : (rule : Rule) (t : Table) (c : CertData) → AreAligned t c → RuleHolds rule t c → YearsKeep rule t c (length t.layers)
rule_years rule t c a r k h j b = keeps k h j b
  where
    keeps : (k : ℕ) → k < length t.layers → (j : ℕ) → j < length (layer_at t k) → ArrivalKeeps rule t c k (arrival t.economy k (entry_at (layer_at t k) j) (name_at (named_in c k) j).value)
    keeps zero h j b = r 0 (entry_at (layer_at t 0) j) (nothing_built t.economy) (Some 0) (name_at (named_in c 0) j).value (contains_at (layer_at t 0) j b) (said_at t c a 0 j h b) (refl, refl)
    keeps (suc k) h j b = λ i d g. r (suc k) (entry_at (layer_at t (suc k)) j) (entry_at (layer_at t k) i).config (name_at (named_in c k) i).value (name_at (named_in c (suc k)) j).value (contains_at (layer_at t (suc k)) j b) (said_at t c a (suc k) j h b)
        ((entry_at (layer_at t k) i, contains_at (layer_at t k) i d, refl), g, said_at t c a k i (omega (arith, h)) d)

from_before : (rule : Rule) (t : Table) (c : CertData) → AreAligned t c → length c.entries ≡ length t.layers → (k : ℕ) (e : Scored) (before : List ℕ) (from value : Option ℕ) → ArrivalKeeps rule t c k (arrival t.economy k e value) → Precedes t c k e.config before from → StepKeeps rule t.economy (k + 1) before from e value
from_before rule t c a n zero e before from value h p =
    subst (λ (x : List ℕ). StepKeeps rule t.economy 1 x from e value) (sym p.0) (subst (λ (o : Option ℕ). StepKeeps rule t.economy 1 (nothing_built t.economy) o e value) (sym p.1) h)
from_before rule t c a n (suc k) e before from value h p =
    let s = place_said t c a n k before from p.2 in
    let d = entry_at (layer_at t k) s.place in
    let step : StepKeeps rule t.economy (suc k + 1) d.config (name_at (named_in c k) s.place).value e value = h s.place s.within (subst (λ (x : List ℕ). IsAtMost x e.config) (sym s.same) p.1) in
    subst (λ (x : List ℕ). StepKeeps rule t.economy (suc k + 1) x from e value) s.same (subst (λ (o : Option ℕ). StepKeeps rule t.economy (suc k + 1) d.config o e value) s.entry step)

pub years_rule : (rule : Rule) (t : Table) (c : CertData) → IsTable t → AreAligned t c → length c.entries ≡ length t.layers → YearsKeep rule t c (length t.layers) → RuleHolds rule t c
years_rule rule t c v a n y k e before from value b s p =
    let q = place_said t c a n k e.config value s in
    let d = entry_at (layer_at t k) q.place in
    let is : d ≡ e = one_entry t v k d e (contains_at (layer_at t k) q.place q.within) b q.same in
    let keeps = y k q.year q.place q.within in
    let here : ArrivalKeeps rule t c k (arrival t.economy k e value) =
    subst (λ (x : Scored). ArrivalKeeps rule t c k (arrival t.economy k x value)) is (subst (λ (o : Option ℕ). ArrivalKeeps rule t c k (arrival t.economy k d o)) q.entry keeps) in
    from_before rule t c a n k e before from value here p

pub bounds_rule : (t : Table) (c : CertData) → AreBounds t c → RuleHolds Bounded t c
bounds_rule t c h k e before from value b s p = case from value s p
  where
    case : (from value : Option ℕ) → Says c k e.config value → Precedes t c k e.config before from → StepKeeps Bounded t.economy (k + 1) before from e value
    case None None s p = tt
    case None (Some v) s p = tt
    case (Some u) None s p = tt
    case (Some u) (Some v) s p = h k e before u v b s p

pub rule_bounds : (t : Table) (c : CertData) → RuleHolds Bounded t c → AreBounds t c
rule_bounds t c r k e before from value b s p = r k e before (Some from) (Some value) b s p

pub reached_rule : (t : Table) (c : CertData) → NoneAfterNone t c → RuleHolds Reached t c
reached_rule t c h k e before from value b s p = case from value s p
  where
    case : (from value : Option ℕ) → Says c k e.config value → Precedes t c k e.config before from → StepKeeps Reached t.economy (k + 1) before from e value
    case None None s p = tt
    case None (Some v) s p = tt
    case (Some u) None s p = none-some u (sym (h k e before (Some u) b s p))
    case (Some u) (Some v) s p = tt

pub rule_reached : (t : Table) (c : CertData) → RuleHolds Reached t c → NoneAfterNone t c
rule_reached t c r k e before None b s p = refl
rule_reached t c r k e before (Some u) b s p = absurd (r k e before (Some u) None b s p)
