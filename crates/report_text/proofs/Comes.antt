-- The COME lines of a table's entries.
use Rattle.std.proofs.Common.{◌≡◌, ℕ, zero, suc, ◌+◌, ◌<◌, ◌≤◌, List, [], ◌∷◌, ◌++◌, length, Contains, Option, refl, sym, ap, subst, ◌∙◌, append_assoc, arith, inl, inr, ⊎_elim}
use Rattle.std.specs.Prelude.{◌⊎◌}
use Rattle.std.specs.List.{flat_map, range_with_len}
use Rattle.std.proofs.lemmas.Bool.{cases_eq}
use Rattle.std.proofs.lemmas.Grind.{flat_map-append}
use Rattle.std.proofs.lemmas.List.{append-nil}
use Rattle.std.proofs.lemmas.List.Elements.{Contains-append_cases, Contains-append_left, Contains-append_right}
use Rattle.cost_terms.specs.CostData.{greatest}
use Rattle.cost_terms.specs.Table.{IsTable, Table}
use Rattle.cost_terms.specs.declared.entries.Scored.{Scored}
use Rattle.deck_lines.specs.declared.line.CertLine.{CertLine}
use Rattle.deck_lines.specs.declared.line.CertLine.TheVariants as certs
use Rattle.plan_program.specs.CostToCome.{come_at}
use Rattle.plan_program.specs.Plans.{entry_at, layer_at, no_entry}
use Rattle.plan_certificate.specs.Reading.{IsFaulty, chosen_by, chosen_of}
use Rattle.plan_certificate.proofs.Aligned.{contains_head, layer_rises, none_in_none, same_place}
use Rattle.plan_certificate.proofs.Lines.{config_of, contains_cases, year_of}
use Rattle.report_text.proofs.Following.{Follow, follow_append}
use Rattle.report_text.proofs.Layers.{entry_width}

-- the line of an entry
abbrev pub come_of : Table → List (List (Option ℕ)) → ℕ → ℕ → CertLine
come_of t come k i = certs.Come (k + 1) (entry_at (layer_at t k) i).config (come_at come k i)

abbrev pub year_comes : Table → List (List (Option ℕ)) → ℕ → List CertLine
year_comes t come k = flat_map (λ i. come_of t come k i ∷ []) (range_with_len 0 (length (layer_at t k)))

abbrev pub all_comes : Table → List (List (Option ℕ)) → List CertLine
all_comes t come = flat_map (year_comes t come) (range_with_len 0 (length t.layers))

-- ---- what they contain

pub flat_contains : {X : Type 0} (f : ℕ → List X) (a n k : ℕ) (x : X) → a ≤ k → k < a + n → Contains (f k) x → Contains (flat_map f (range_with_len a n)) x
flat_contains f a zero k x low high c = absurd (omega (arith, low, high))
flat_contains {X} f a (suc n) k x low high c =
    ⊎_elim
    (λ (here : a ≡ k). Contains-append_left (f a) (flat_map f (range_with_len (a + 1) n)) x (subst (λ m. Contains (f m) x) (sym here) c))
    (λ other. Contains-append_right (f a) (flat_map f (range_with_len (a + 1) n)) x (flat_contains f (a + 1) n k x (omega (arith, low, other)) (omega (arith, high)) c))
    (cases_eq a k)

pub contains_flat : {X : Type 0} (f : ℕ → List X) (a n : ℕ) (x : X) → Contains (flat_map f (range_with_len a n)) x → (k : ℕ) × (a ≤ k) × (k < a + n) × Contains (f k) x
contains_flat f a zero x c = absurd (none_in_none x c)
contains_flat {X} f a (suc n) x c =
    ⊎_elim
    (λ here. (a, omega arith, omega arith, here))
    (λ later. let p = contains_flat f (a + 1) n x later in (p.0, omega (arith, p.1), omega (arith, p.2), p.3))
    (Contains-append_cases (f a) (flat_map f (range_with_len (a + 1) n)) x c)

one_in : {X : Type 0} (x y : X) → Contains (x ∷ []) y → x ≡ y
one_in x y (zero, b, e) = e
one_in x y (suc k, b, e) = absurd (omega (arith, b))

pub come_in : (t : Table) (come : List (List (Option ℕ))) (k i : ℕ) → k < length t.layers → i < length (layer_at t k) → Contains (all_comes t come) (come_of t come k i)
come_in t come k i h b =
    let x = come_of t come k i in
    flat_contains (year_comes t come) 0 (length t.layers) k x (omega arith) (omega (arith, h))
    (flat_contains (λ j. come_of t come k j ∷ []) 0 (length (layer_at t k)) i x (omega arith) (omega (arith, b)) (contains_head x []))

pub in_comes : (t : Table) (come : List (List (Option ℕ))) (x : CertLine) → Contains (all_comes t come) x → (k : ℕ) × (i : ℕ) × (k < length t.layers) × (i < length (layer_at t k)) × (come_of t come k i ≡ x)
in_comes t come x c =
    let p = contains_flat (year_comes t come) 0 (length t.layers) x c in
    let k = p.0 in
    let q = contains_flat (λ j. come_of t come k j ∷ []) 0 (length (layer_at t k)) x p.3 in
    (k, q.0, omega (arith, p.2), omega (arith, q.2), one_in (come_of t come k q.0) x q.3)

no_chosen_year : (t : Table) (come : List (List (Option ℕ))) (k a n : ℕ) → chosen_of (flat_map (λ i. come_of t come k i ∷ []) (range_with_len a n)) ≡ []
no_chosen_year t come k a zero = refl
no_chosen_year t come k a (suc n) = no_chosen_year t come k (a + 1) n

no_chosen_from : (t : Table) (come : List (List (Option ℕ))) (a n : ℕ) → chosen_of (flat_map (year_comes t come) (range_with_len a n)) ≡ []
no_chosen_from t come a zero = refl
no_chosen_from t come a (suc n) =
    flat_map-append chosen_by (year_comes t come a) (flat_map (year_comes t come) (range_with_len (a + 1) n))
    ∙ (λ i. no_chosen_year t come a 0 (length (layer_at t a)) i ++ no_chosen_from t come (a + 1) n i)

pub no_chosen : (t : Table) (come : List (List (Option ℕ))) → chosen_of (all_comes t come) ≡ []
no_chosen t come = no_chosen_from t come 0 (length t.layers)

-- ---- they follow one another

-- an earlier COME line is of an earlier year, or of an earlier place of this one
abbrev pub NamedBefore : Table → ℕ → ℕ → List CertLine → Type 0
NamedBefore t k i earlier = (year : ℕ) (config : List ℕ) (value : Option ℕ) → Contains earlier (certs.Come year config value)
    → (year < k + 1) ⊎ ((year ≡ k + 1) × (j : ℕ) × (j < i) × ((entry_at (layer_at t k) j).config ≡ config))

come_good : (t : Table) → IsTable t → (come : List (List (Option ℕ))) (k i : ℕ) (earlier : List CertLine) → k < length t.layers → i < length (layer_at t k) → NamedBefore t k i earlier
    → IsFaulty (length t.layers) (length (greatest t.economy)) earlier (come_of t come k i) → ⊥
come_good t v come k i earlier h b n (inl above) = omega (arith, above, h)
come_good t v come k i earlier h b n (inr (inl other)) = other (entry_width t v k i h b)
come_good t v come k i earlier h b n (inr (inr (value, c))) =
    ⊎_elim (λ below. omega (arith, below)) (λ here. again here) (n (k + 1) (entry_at (layer_at t k) i).config value c)
  where
    again : (k + 1 ≡ k + 1) × (j : ℕ) × (j < i) × ((entry_at (layer_at t k) j).config ≡ (entry_at (layer_at t k) i).config) → ⊥
    again (year, j, less, same) =
        omega (arith, less, same_place no_entry (λ (e : Scored). e.config) (layer_at t k) j i (layer_rises t v k) (omega (arith, less, b)) b same)

named_more : (t : Table) (come : List (List (Option ℕ))) (k i : ℕ) (earlier : List CertLine) → NamedBefore t k i earlier → NamedBefore t k (i + 1) (earlier ++ come_of t come k i ∷ [])
named_more t come k i earlier n year config value c =
    ⊎_elim
    (λ before. ⊎_elim (λ below. inl below) (λ here. inr (here.0, here.1, omega (arith, here.2), here.3)) (n year config value before))
    (λ e. inr (sym (ap year_of e), i, omega arith, ap config_of e))
    (contains_cases earlier (come_of t come k i) (certs.Come year config value) c)

named_year : (t : Table) (k i : ℕ) (earlier : List CertLine) → NamedBefore t k i earlier → NamedBefore t (k + 1) 0 earlier
named_year t k i earlier n year config value c =
    ⊎_elim (λ below. inl (omega (arith, below))) (λ here. inl (omega (arith, here.0))) (n year config value c)

record YearFollows (t : Table) (come : List (List (Option ℕ))) (k a n : ℕ) (earlier : List CertLine) : Type 0 where
  follow : Follow (length t.layers) (length (greatest t.economy)) earlier (flat_map (λ i. come_of t come k i ∷ []) (range_with_len a n))
  next : NamedBefore t k (a + n) (earlier ++ flat_map (λ i. come_of t come k i ∷ []) (range_with_len a n))

year_follows : (t : Table) → IsTable t → (come : List (List (Option ℕ))) (k : ℕ) → k < length t.layers → (a n : ℕ) (earlier : List CertLine) → a + n ≤ length (layer_at t k) → NamedBefore t k a earlier → YearFollows t come k a n earlier
year_follows t v come k h a zero earlier within named = record {
  follow = tt;
  next = let same : a ≡ a + 0 = omega arith in subst (λ i. NamedBefore t k i (earlier ++ [])) same (subst (λ (ls : List CertLine). NamedBefore t k a ls) (sym (append-nil earlier)) named);
}
year_follows t v come k h a (suc n) earlier within named =
    let x = come_of t come k a in
    let rest = year_follows t v come k h (a + 1) n (earlier ++ x ∷ []) (omega (arith, within)) (named_more t come k a earlier named) in
    let place : a + 1 + n ≡ a + suc n = omega arith in
    let ls = flat_map (λ i. come_of t come k i ∷ []) (range_with_len (a + 1) n) in
    record {
      follow = (come_good t v come k a earlier h (omega (arith, within)) named, rest.follow);
      next = subst (λ i. NamedBefore t k i (earlier ++ x ∷ ls)) place (subst (λ (es : List CertLine). NamedBefore t k (a + 1 + n) es) (append_assoc earlier (x ∷ []) ls) rest.next);
    }

pub comes_follow : (t : Table) → IsTable t → (come : List (List (Option ℕ))) (k n : ℕ) (earlier : List CertLine) → k + n ≤ length t.layers → NamedBefore t k 0 earlier
    → Follow (length t.layers) (length (greatest t.economy)) earlier (flat_map (year_comes t come) (range_with_len k n))
comes_follow t v come k zero earlier within named = tt
comes_follow t v come k (suc n) earlier within named =
    let y = year_follows t v come k (omega (arith, within)) 0 (length (layer_at t k)) earlier (omega arith) named in
    follow_append (length t.layers) (length (greatest t.economy)) earlier (year_comes t come k) (flat_map (year_comes t come) (range_with_len (k + 1) n)) y.follow
    (comes_follow t v come (k + 1) n (earlier ++ year_comes t come k) (omega (arith, within)) (named_year t k (0 + length (layer_at t k)) (earlier ++ year_comes t come k) y.next))
