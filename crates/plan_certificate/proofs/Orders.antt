-- Names gathered from lines and put in order.
use Rattle.std.proofs.Common.{◌≡◌, ◌≢◌, ◌↔◌, ℕ, zero, suc, ◌+◌, ◌-◌, ◌<◌, ◌≤◌, Bool, true, false, List, [], ◌∷◌, ◌++◌, length, get_or, map, take, set, All, Contains, Option, Some, None, nat_eq, sym, ap, ◌∙◌, arith, refl, subst, true≢false, ⊎_elim, inl, inr, ◌⊎◌}
use Rattle.std.proofs.Math.ListN.{get_or-append, get_or-map}
use Rattle.std.proofs.Math.Seq.{get_or-append_seam}
use Rattle.std.proofs.lemmas.Bool.{cases_eq, cases_lt}
use Rattle.std.proofs.lemmas.Bool.Decides.{nat_tests}
use Rattle.std.proofs.lemmas.Cmp.{nat_cmp_total, nat_list_cmp_total, on_total, then_total}
use Rattle.std.proofs.lemmas.List.{get_or-take, get_or_default, length-append, length-map, length-take-le}
use Rattle.std.proofs.lemmas.List.Elements.{All-push}
use Rattle.std.proofs.lemmas.List.Sorted.{All-permutation, Contains-permutation, IsPermutation-sym, length_permutation, ranks_by, sorted_far}
use Rattle.std.proofs.lemmas.Map.Keys.{IsDistinct-IsPermutation, IsDistinct-from_apart, apart_from_distinct}
use Rattle.std.proofs.lemmas.Map.Lookups.{exact_bytes}
use Rattle.std.proofs.lemmas.Option.{none-some}
use Rattle.std.specs.Cmp.{IsTotalOrder}
use Rattle.std.specs.Cmp.Lexicographic.{slice_cmp}
use Rattle.std.specs.List.Sorted.{IsPermutation, IsSortedByKey}
use Rattle.std.specs.Ordering.{is_lt, nat_cmp, ordering_reverse, ordering_then}
use Rattle.std.specs.declared.cmp.Ordering.{Ordering}
use Rattle.std.specs.declared.cmp.Ordering.TheVariants.{Less, Equal, Greater}
use Rattle.deck_lines.specs.declared.line.CertLine.{CertLine}
use Rattle.deck_lines.specs.declared.line.CertLine.TheVariants.{Come, Chosen, Total, Infeasible}
use Rattle.plan_certificate.specs.Certificate.{NamesRise}
use Rattle.plan_certificate.specs.Gathered.{AreNamesOf, AreNumbered, IsAgain, IsNumbered, RepeatsAt, key, key_cmp, no_numbered, numbered_at}
use Rattle.plan_certificate.specs.Reading.{IsNamedBy, line_at, no_line}
use Rattle.plan_certificate.specs.Steps.{name_at, no_name}
use Rattle.plan_certificate.specs.declared.certificate.Named.{Named}
use Rattle.plan_certificate.specs.declared.gathered.Numbered.{Numbered}
use Rattle.plan_certificate.proofs.Aligned.{no_both, no_less}
use Rattle.plan_certificate.proofs.Lines.{config_of, contains_cases, contains_end, contains_front, line_in, value_of}

-- ---- names in the order of the lines

pub numbered_none : (lines : List CertLine) (year : ℕ) (names : List Numbered) → names ≡ [] → AreNumbered lines year 0 names
numbered_none lines year names e = subst (λ (xs : List Numbered). AreNumbered lines year 0 xs) (sym e) (record {
  each = λ i d b. absurd (omega (arith, b));
  all = λ j config value b s. absurd (omega (arith, b));
  apart = λ i j h b. absurd (omega (arith, b));
})

numbered_wider : (lines : List CertLine) (year n : ℕ) (names : List Numbered) → All (IsNumbered lines year n) names → All (IsNumbered lines year (n + 1)) names
numbered_wider lines year n names h i d b = record { within = omega (arith, (h i d b).within); says = (h i d b).says }

pub numbered_skip : (lines : List CertLine) (year n : ℕ) (names : List Numbered) (line : CertLine) → AreNumbered lines year n names → line_at lines n ≡ line → ((config : List ℕ) (value : Option ℕ) → line ≢ Come (year + 1) config value) → AreNumbered lines year (n + 1) names
numbered_skip lines year n names line h e never = record {
  each = numbered_wider lines year n names h.each;
  all = λ j config value b s. ⊎_elim
      (λ same. absurd (never config value (sym e ∙ (ap (λ k. line_at lines k) (sym same) ∙ s))))
      (λ other. h.all j config value (omega (arith, b, other)) s)
      (cases_eq j n);
  apart = h.apart;
}

pub numbered_more : (lines : List CertLine) (year n : ℕ) (names new : List Numbered) (line : CertLine) (m : Named) → AreNumbered lines year n names → line_at lines n ≡ line → line ≡ Come (year + 1) m.config m.value → new ≡ names ++ record { named = m; line = n } ∷ [] → AreNumbered lines year (n + 1) new
numbered_more lines year n names new line m h e is push =
    let x : Numbered = record { named = m; line = n } in
    subst (λ (xs : List Numbered). AreNumbered lines year (n + 1) xs) (sym push) (record {
      each = All-push (IsNumbered lines year (n + 1)) names x (numbered_wider lines year n names h.each) (record { within = omega arith; says = e ∙ is });
      all = λ j config value b s. ⊎_elim
          (λ same.
          let whole : Come (year + 1) m.config m.value ≡ Come (year + 1) config value = sym (e ∙ is) ∙ (ap (λ k. line_at lines k) (sym same) ∙ s) in
          let item : x ≡ record { named = record { config = config; value = value }; line = j } = λ i. record { named = record { config = config_of (whole i); value = value_of (whole i) }; line = sym same i } in
          subst (λ (y : Numbered). Contains (names ++ x ∷ []) y) item (contains_end names x))
          (λ other. contains_front names x (record { named = record { config = config; value = value }; line = j }) (h.all j config value (omega (arith, b, other)) s))
          (cases_eq j n);
      apart = λ i j g b. ⊎_elim
          (λ below.
          let at : (k : ℕ) → k < length names → numbered_at (names ++ x ∷ []) k ≡ numbered_at names k = λ k d. get_or-append names (x ∷ []) no_numbered k d in
          λ same. h.apart i j g below (sym (ap (λ (y : Numbered). y.line) (at i (omega (arith, g, below)))) ∙ (same ∙ ap (λ (y : Numbered). y.line) (at j below))))
          (λ above.
          let last : j ≡ length names = omega (arith, above, b, length-append names (x ∷ [])) in
          let at : numbered_at (names ++ x ∷ []) i ≡ numbered_at names i = get_or-append names (x ∷ []) no_numbered i (omega (arith, g, last)) in
          let end : numbered_at (names ++ x ∷ []) j ≡ x = ap (λ k. numbered_at (names ++ x ∷ []) k) last ∙ get_or-append_seam names x [] no_numbered in
          let low = (h.each i no_numbered (omega (arith, g, last))).within in
          λ same. below (numbered_at names i).line n low (sym (ap (λ (y : Numbered). y.line) at) ∙ (same ∙ ap (λ (y : Numbered). y.line) end)))
          (cases_lt j (length names));
    })
  where
    below : (a b : ℕ) → a < b → a ≡ b → ⊥
    below a b h g = omega (arith, h, g)

-- ---- in order

key_total : IsTotalOrder key_cmp
key_total = then_total (on_total (λ (p : List ℕ × ℕ). p.0) nat_list_cmp_total) (on_total (λ (p : List ℕ × ℕ). p.1) nat_cmp_total)

-- a name comes before those of greater configurations, and before those of its own from later lines
abbrev pub InOrder : List Numbered → Type 0
InOrder names = (i j : ℕ) → i < j → j < length names →
    (slice_cmp nat_cmp (numbered_at names i).named.config (numbered_at names j).named.config ≡ Less)
    ⊎ (((numbered_at names i).named.config ≡ (numbered_at names j).named.config) × ((numbered_at names i).line < (numbered_at names j).line))

not_less : (x y : ℕ) → is_lt (nat_cmp y x) ≡ false → x ≢ y → x < y
not_less x y h never = grind (arith, nat_tests)

order_of : (a b : Numbered) (o : Ordering) → slice_cmp nat_cmp b.named.config a.named.config ≡ o → is_lt (key_cmp (key b) (key a)) ≡ false → a.line ≢ b.line →
    (slice_cmp nat_cmp a.named.config b.named.config ≡ Less) ⊎ ((a.named.config ≡ b.named.config) × (a.line < b.line))
order_of a b Less e h never = absurd (true≢false (sym (ap (λ o. is_lt (ordering_then o (nat_cmp b.line a.line))) e) ∙ h))
order_of a b Equal e h never = inr (sym (exact_bytes b.named.config a.named.config e), not_less a.line b.line (sym (ap (λ o. is_lt (ordering_then o (nat_cmp b.line a.line))) e) ∙ h) never)
order_of a b Greater e h never = inl (nat_list_cmp_total.antisymm a.named.config b.named.config ∙ ap ordering_reverse e)

abbrev same_line : Numbered → Numbered → Bool
same_line a b = nat_eq a.line b.line

lines_differ : (x y : ℕ) → nat_eq x y ≡ false → x ≢ y
lines_differ x y h e = grind (arith, nat_tests)

lines_apart : (x y : ℕ) → x ≢ y → nat_eq x y ≡ false
lines_apart x y h = grind (arith, nat_tests)

flips : (a b : Numbered) → same_line a b ≡ same_line b a
flips a b = grind (arith, nat_tests)

pub sorted_names : (lines : List CertLine) (year : ℕ) (old new : List Numbered) → AreNumbered lines year (length lines) old → IsPermutation old new → AreNumbered lines year (length lines) new
sorted_names lines year old new h p = record {
  each = All-permutation (IsNumbered lines year (length lines)) old new p h.each;
  all = λ j config value b s. Contains-permutation old new (record { named = record { config = config; value = value }; line = j }) p (h.all j config value b s);
  apart = λ i j g b.
      let distinct = IsDistinct-IsPermutation same_line flips old new p (IsDistinct-from_apart same_line old (λ i j d g b. rw (get_or_default old i d no_numbered (omega (arith, g, b))) (rw (get_or_default old j d no_numbered b) (lines_apart (numbered_at old i).line (numbered_at old j).line (h.apart i j g b))))) in
      lines_differ (numbered_at new i).line (numbered_at new j).line (apart_from_distinct same_line new i j no_numbered distinct g b);
}

pub in_order : (lines : List CertLine) (year : ℕ) (names : List Numbered) → AreNumbered lines year (length lines) names → IsSortedByKey key key_cmp names → InOrder names
in_order lines year names h s i j g b =
    let far = sorted_far (λ (x y : Numbered). is_lt (key_cmp (key x) (key y))) (ranks_by key_total key) names s i j no_numbered (omega (arith, g)) b in
    order_of (numbered_at names i) (numbered_at names j) (slice_cmp nat_cmp (numbered_at names j).named.config (numbered_at names i).named.config) refl far (h.apart i j g b)

-- ---- names that stand beside their own

config_at : List Numbered → ℕ → List ℕ
config_at names i = (numbered_at names i).named.config

said_by : (lines : List CertLine) (year : ℕ) (names : List Numbered) → AreNumbered lines year (length lines) names → (i : ℕ) → i < length names → IsNumbered lines year (length lines) (numbered_at names i)
said_by lines year names h i b = h.each i no_numbered b

-- the later of two names of one configuration comes from a line that names it again
again_at : (lines : List CertLine) (year : ℕ) (names : List Numbered) → AreNumbered lines year (length lines) names → (i j : ℕ) → i < length names → j < length names → (numbered_at names i).named.config ≡ (numbered_at names j).named.config → (numbered_at names i).line < (numbered_at names j).line → IsAgain lines year (numbered_at names j).line
again_at lines year names h i j bi bj same less =
    let a = numbered_at names i in
    let z = numbered_at names j in
    let x : CertLine = Come (year + 1) z.named.config a.named.value in
    let one = said_by lines year names h i bi in
    let two = said_by lines year names h j bj in
    let is : line_at lines a.line ≡ x = one.says ∙ ap (λ (g : List ℕ). Come (year + 1) g a.named.value) same in
    record {
      config = z.named.config;
      value = z.named.value;
      within = two.within;
      says = two.says;
      earlier = (a.named.value, (a.line, omega (arith, less, length-take-le z.line lines (omega (arith, two.within))), get_or-take z.line lines a.line x less ∙ (get_or_default lines a.line x no_line one.within ∙ is)));
    }

no_less_same : (x y : List ℕ) → x ≡ y → slice_cmp nat_cmp x y ≡ Less → ⊥
no_less_same x y e h = no_less x (subst (λ (z : List ℕ). slice_cmp nat_cmp x z ≡ Less) (sym e) h)

pub repeat_again : (lines : List CertLine) (year : ℕ) (names : List Numbered) → AreNumbered lines year (length lines) names → InOrder names → (line : ℕ) → RepeatsAt names (length names) line → IsAgain lines year line
repeat_again lines year names h o line r =
    let i = r.place in
    subst (λ (n : ℕ). IsAgain lines year n) r.at (⊎_elim
    (λ less. absurd (no_less_same (numbered_at names i).named.config (numbered_at names (i + 1)).named.config r.same less))
    (λ tie. again_at lines year names h i (i + 1) (omega (arith, r.within)) r.within tie.0 tie.1)
    (o i (i + 1) (omega arith) r.within))

-- between two names of one configuration stand only names of it
between : (names : List Numbered) → InOrder names → (i j : ℕ) → i < j → j < length names → (numbered_at names i).named.config ≡ (numbered_at names j).named.config → (numbered_at names (j - 1)).named.config ≡ (numbered_at names j).named.config
between names o i j h b same =
    let c = (numbered_at names j).named.config in
    let d = (numbered_at names (j - 1)).named.config in
    ⊎_elim
    (λ at. ap (λ n. (numbered_at names n).named.config) (sym at) ∙ same)
    (λ other.
    ⊎_elim
    (λ below. ⊎_elim
    (λ above. absurd (no_both d c above (subst (λ (x : List ℕ). slice_cmp nat_cmp x d ≡ Less) same below)))
    (λ tie. tie.0)
    (o (j - 1) j (omega (arith, h)) b))
    (λ tie. sym tie.0 ∙ same)
    (o i (j - 1) (omega (arith, h, other)) (omega (arith, h, b))))
    (cases_eq i (j - 1))

pub again_repeat : (lines : List CertLine) (year : ℕ) (names : List Numbered) → AreNumbered lines year (length lines) names → InOrder names → (line : ℕ) → IsAgain lines year line → RepeatsAt names (length names) line
again_repeat lines year names h o line a = found a.earlier
  where
    places : (k : ℕ) (v : Option ℕ) → k < line → Contains names (record { named = record { config = a.config; value = v }; line = k }) → Contains names (record { named = record { config = a.config; value = a.value }; line = line }) → RepeatsAt names (length names) line
    places k v less (i, bi, ei) (j, bj, ej) =
        let x : Numbered = record { named = record { config = a.config; value = v }; line = k } in
        let z : Numbered = record { named = record { config = a.config; value = a.value }; line = line } in
        let ix : numbered_at names i ≡ x = get_or_default names i no_numbered x bi ∙ ei in
        let jz : numbered_at names j ≡ z = get_or_default names j no_numbered z bj ∙ ej in
        let same : (numbered_at names i).named.config ≡ (numbered_at names j).named.config = ap (λ (m : Numbered). m.named.config) ix ∙ sym (ap (λ (m : Numbered). m.named.config) jz) in
        let li : (numbered_at names i).line ≡ k = ap (λ (m : Numbered). m.line) ix in
        let lj : (numbered_at names j).line ≡ line = ap (λ (m : Numbered). m.line) jz in
        let before : i < j = ⊎_elim
        (λ below. below)
        (λ above. ⊎_elim
        (λ at. absurd (equal_lines k line less (sym li ∙ (ap (λ n. (numbered_at names n).line) (sym at) ∙ lj))))
        (λ other. ⊎_elim
        (λ less'. absurd (no_less_same (numbered_at names j).named.config (numbered_at names i).named.config (sym same) less'))
        (λ tie. absurd (lines_back (numbered_at names i).line (numbered_at names j).line k line less li lj tie.1))
        (o j i (omega (arith, above, other)) bi))
        (cases_eq j i))
        (cases_lt i j) in
        let next : j - 1 + 1 ≡ j = omega (arith, before) in
        record {
          place = j - 1;
          within = omega (arith, before, bj);
          same = between names o i j before bj same ∙ ap (λ n. (numbered_at names n).named.config) (sym next);
          at = ap (λ n. (numbered_at names n).line) next ∙ lj;
        }
      where
        equal_lines : (k line : ℕ) → k < line → k ≡ line → ⊥
        equal_lines k line h e = omega (arith, h, e)

        lines_back : (x y k line : ℕ) → k < line → x ≡ k → y ≡ line → y < x → ⊥
        lines_back x y k line h e f g = omega (arith, h, e, f, g)

    found : IsNamedBy (take line lines) (year + 1) a.config → RepeatsAt names (length names) line
    found (v, (k, b, e)) =
        let x : CertLine = Come (year + 1) a.config v in
        let less : k < line = omega (arith, b, length-take-le line lines (omega (arith, a.within))) in
        let bk : k < length lines = omega (arith, less, a.within) in
        let is : line_at lines k ≡ x = get_or_default lines k no_line x bk ∙ (sym (get_or-take line lines k x less) ∙ e) in
        places k v less (h.all k a.config v bk is) (h.all line a.config a.value a.within a.says)

-- ---- the names of a year

pub names_are : (lines : List CertLine) (year : ℕ) (names : List Numbered) (plain : List Named) → AreNumbered lines year (length lines) names → InOrder names → plain ≡ map (λ m. m.named) names → AreNamesOf lines year plain
names_are lines year names plain h o e = subst (λ (xs : List Named). AreNamesOf lines year xs) (sym e) (record {
  says = λ config value. (λ s. to config value s, λ s. back config value s);
  rises = λ none i j d g b.
      let long = length-map names (λ (m : Numbered). m.named) in
      let bj : j < length names = omega (arith, b, long) in
      let bi : i < length names = omega (arith, g, bj) in
      let at : (k : ℕ) → k < length names → (get_or (map (λ (m : Numbered). m.named) names) k d).config ≡ (numbered_at names k).named.config = λ k c.
      ap (λ (m : Named). m.config) (get_or_default (map (λ (m : Numbered). m.named) names) k d no_name (omega (arith, c, long)) ∙ get_or-map (λ (m : Numbered). m.named) names k no_numbered) in
      rw (at i bi) (rw (at j bj) (⊎_elim (λ less. less) (λ tie. absurd (none (numbered_at names j).line (again_at lines year names h i j bi bj tie.0 tie.1))) (o i j g bj)));
})
  where
    to : (config : List ℕ) (value : Option ℕ) → Contains (map (λ (m : Numbered). m.named) names) (record { config = config; value = value }) → Contains lines (Come (year + 1) config value)
    to config value (i, b, s) =
        let x : Named = record { config = config; value = value } in
        let bi : i < length names = omega (arith, b, length-map names (λ (m : Numbered). m.named)) in
        let is : (numbered_at names i).named ≡ x = sym (get_or-map (λ (m : Numbered). m.named) names i no_numbered) ∙ (get_or_default (map (λ (m : Numbered). m.named) names) i no_name x b ∙ s) in
        let one = said_by lines year names h i bi in
        subst (λ (l : CertLine). Contains lines l) (one.says ∙ ap (λ (m : Named). Come (year + 1) m.config m.value) is) (line_in lines (numbered_at names i).line one.within)

    back : (config : List ℕ) (value : Option ℕ) → Contains lines (Come (year + 1) config value) → Contains (map (λ (m : Numbered). m.named) names) (record { config = config; value = value })
    back config value (k, b, s) = there (h.all k config value b (get_or_default lines k no_line (Come (year + 1) config value) b ∙ s))
      where
        there : Contains names (record { named = record { config = config; value = value }; line = k }) → Contains (map (λ (m : Numbered). m.named) names) (record { config = config; value = value })
        there (i, bi, ei) =
            let x : Named = record { config = config; value = value } in
            let z : Numbered = record { named = x; line = k } in
            let is : numbered_at names i ≡ z = get_or_default names i no_numbered z bi ∙ ei in
            let bm : i < length (map (λ (m : Numbered). m.named) names) = omega (arith, bi, length-map names (λ (m : Numbered). m.named)) in
            (i, bm, get_or_default (map (λ (m : Numbered). m.named) names) i x no_name bm ∙ (get_or-map (λ (m : Numbered). m.named) names i no_numbered ∙ ap (λ (m : Numbered). m.named) is))
