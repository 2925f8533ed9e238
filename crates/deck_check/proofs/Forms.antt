-- The numbers of a statement in its form, by their places.
use Rattle.std.proofs.Common.{◌≡◌, ℕ, zero, suc, ◌+◌, ◌-◌, ◌*◌, ◌%◌, ◌<◌, ◌≤◌, true, ◌&&◌, List, [], ◌∷◌, length, take, drop, slice_index, slice_index_or, ap, subst, ◌∙◌, arith, ⊎_elim}
use Rattle.std.proofs.lemmas.Bool.{and_parts, cases_lt, eqb-true}
use Rattle.std.proofs.lemmas.Bool.Decides.{nat_tests}
use Rattle.std.proofs.lemmas.List.{get_or-take, get_or-drop, get_or_past, length-drop, length-take}
use Rattle.std.proofs.Math.Nat.{mod-eq-sub-mod, mod-eq_of_lt, mul-le-mul_right}
use Rattle.deck_lines.proofs.Ranges.{allows_each-length}
use Rattle.deck_lines.specs.Body.{BodyParts}
use Rattle.deck_lines.specs.declared.form.Kind.{Kind}
use Rattle.deck_lines.specs.declared.form.Kind.TheVariants as kinds
use Rattle.deck_lines.specs.declared.head.Head.{Head}
use Rattle.deck_lines.specs.Statements.{allows, allows_each, are_groups, index_of, is_named, is_statement, layout_of, word_of, IsStatement}
use Rattle.deck_check.specs.Forms.{bottom, form_of, kind_at, top, IsFilled, IsFormOf}

pub kind_bounds : (kind : Kind) (n : ℕ) → allows kind n ≡ true → (bottom kind ≤ n) × (n ≤ top kind)
kind_bounds (kinds.Number low high) n h = (grind (arith, nat_tests), grind (arith, nat_tests))
kind_bounds kinds.Periods n h = (grind (arith, nat_tests), grind (arith, nat_tests))

each_at : (ks : List Kind) (ns : List ℕ) → allows_each ks ns ≡ true → (i : ℕ) → i < length ks → allows (slice_index_or ks i kinds.Periods) (slice_index ns i) ≡ true
each_at [] ns h i lt = absurd (omega arith)
each_at (kind ∷ ks) [] h i lt = absurd cc
each_at (kind ∷ ks) (n ∷ ns) h zero lt = (and_parts (allows kind n) (allows_each ks ns) h).0
each_at (kind ∷ ks) (n ∷ ns) h (suc i) lt = each_at ks ns (and_parts (allows kind n) (allows_each ks ns) h).1 i (omega arith)

-- each number of groups is of its kind
pub groups_at : (ks : List Kind) (least most : ℕ) (ns : List ℕ) → 0 < length ks → are_groups ks least most ns ≡ true → (i : ℕ) → i < length ns → allows (slice_index_or ks (i % length ks) kinds.Periods) (slice_index ns i) ≡ true
groups_at ks least zero [] some h i lt = absurd (omega arith)
groups_at ks least zero (n ∷ ns) some h i lt = absurd cc
groups_at ks least (suc more) [] some h i lt = absurd (omega arith)
groups_at ks least (suc more) (n ∷ ns) some h i lt =
    let all : List ℕ = n ∷ ns in
    let b = and_parts (allows_each ks (take (length ks) all)) (are_groups ks (least - 1) more (drop (length ks) all)) h in
    ⊎_elim
    (λ below. let e : i % length ks ≡ i = mod-eq_of_lt below in
    rw e (subst (λ (x : ℕ). allows (slice_index_or ks i kinds.Periods) x ≡ true) (get_or-take (length ks) all i 0 below) (each_at ks (take (length ks) all) b.0 i below)))
    (λ above. let e : i % length ks ≡ (i - length ks) % length ks = mod-eq-sub-mod above in
    let back : length ks + (i - length ks) ≡ i = omega (arith, above) in
    let at : slice_index (drop (length ks) all) (i - length ks) ≡ slice_index all i = get_or-drop (length ks) all (i - length ks) 0 ∙ ap (λ (j : ℕ). slice_index all j) back in
    rw e (subst (λ (x : ℕ). allows (slice_index_or ks ((i - length ks) % length ks) kinds.Periods) x ≡ true) at
    (groups_at ks (least - 1) more (drop (length ks) all) some b.1 (i - length ks) (rw (length-drop (length ks) all) (omega (arith, lt, above))))))
    (cases_lt i (length ks))

-- how many groups there are
pub record AreCounted (size least most length : ℕ) : Type 0 where
  pub groups : ℕ
  pub low : least ≤ groups
  pub high : groups ≤ most
  pub count : length ≡ groups * size

zero_of : (n : ℕ) → n ≤ 0 → n ≡ 0
zero_of n h = omega (arith, h)

take_whole : (k : ℕ) (ns : List ℕ) → length (take k ns) ≡ k → k ≤ length ns
take_whole k ns h = omega (arith, length-take k ns)

one_group : (size least more count : ℕ) → size ≤ count → AreCounted size (least - 1) more (count - size) → AreCounted size least (suc more) count
one_group size least more count fits r = record {
  groups = suc r.groups;
  low = omega (arith, r.low);
  high = omega (arith, r.high);
  count = let e : count - size ≡ r.groups * size = r.count in let m : suc r.groups * size ≡ r.groups * size + size = omega arith in rw m (omega (arith, e, fits));
}

pub groups_count : (ks : List Kind) (least most : ℕ) (ns : List ℕ) → are_groups ks least most ns ≡ true → AreCounted (length ks) least most (length ns)
groups_count ks least zero [] h = record { groups = 0; low = omega (arith, eqb-true least 0 h); high = omega arith; count = omega arith }
groups_count ks least zero (n ∷ ns) h = absurd cc
groups_count ks least (suc more) [] h = record { groups = 0; low = omega (arith, eqb-true least 0 h); high = omega arith; count = omega arith }
groups_count ks least (suc more) (n ∷ ns) h =
    let all : List ℕ = n ∷ ns in
    let b = and_parts (allows_each ks (take (length ks) all)) (are_groups ks (least - 1) more (drop (length ks) all)) h in
    let whole : length ks ≤ length all = take_whole (length ks) all (allows_each-length ks (take (length ks) all) b.0) in
    one_group (length ks) least more (length all) whole (subst (λ (x : ℕ). AreCounted (length ks) (least - 1) more x) (length-drop (length ks) all) (groups_count ks (least - 1) more (drop (length ks) all) b.1))

-- the groups of a statement in its form
pub groups_of : (h : Head) (b : BodyParts) → IsStatement (record { head = h; body = b }) → are_groups (form_of h).group (form_of h).least (form_of h).most b.numbers ≡ true
unfolding is_statement
groups_of h b s =
    let form = layout_of (word_of h) in
    (and_parts (allows_each form.index (index_of h) && is_named form.naming b.name) (are_groups form.group form.least form.most b.numbers) s).1

pub name_of : (h : Head) (b : BodyParts) → IsStatement (record { head = h; body = b }) → is_named (form_of h).naming b.name ≡ true
unfolding is_statement
name_of h b s =
    let form = layout_of (word_of h) in
    (and_parts (allows_each form.index (index_of h)) (is_named form.naming b.name) (and_parts (allows_each form.index (index_of h) && is_named form.naming b.name) (are_groups form.group form.least form.most b.numbers) s).0).1

pub form_is : (h : Head) (b : BodyParts) → IsStatement (record { head = h; body = b }) → IsFormOf h b.numbers
form_is h b s =
    let form = form_of h in
    let ns = b.numbers in
    let counted : AreCounted (length form.group) form.least form.most (length ns) = groups_count form.group form.least form.most ns (groups_of h b s) in
    record {
      most = λ i. ⊎_elim
          (λ lt. ⊎_elim
          (λ some. (kind_bounds (kind_at form i) (slice_index ns i) (groups_at form.group form.least form.most ns some (groups_of h b s) i lt)).1)
          (λ none. absurd (omega (arith, lt, counted.count, ap (λ (x : ℕ). counted.groups * x) (zero_of (length form.group) none))))
          (cases_lt 0 (length form.group)))
          (λ past. let e : slice_index ns i ≡ 0 = get_or_past ns i 0 past in rw e (omega arith))
          (cases_lt i (length ns));
      few = rw counted.count (mul-le-mul_right (length form.group) counted.high);
    }

pub empty_form : (h : Head) → IsFormOf h []
empty_form h = record { most = λ i. omega arith; few = omega arith }

pub filled_is : (h : Head) (b : BodyParts) → IsStatement (record { head = h; body = b }) → IsFilled h b.numbers
filled_is h b s =
    let form = form_of h in
    let ns = b.numbers in
    let counted : AreCounted (length form.group) form.least form.most (length ns) = groups_count form.group form.least form.most ns (groups_of h b s) in
    record {
      low = λ i lt. ⊎_elim
          (λ some. (kind_bounds (kind_at form i) (slice_index ns i) (groups_at form.group form.least form.most ns some (groups_of h b s) i lt)).0)
          (λ none. absurd (omega (arith, lt, counted.count, ap (λ (x : ℕ). counted.groups * x) (zero_of (length form.group) none))))
          (cases_lt 0 (length form.group));
      some = rw counted.count (mul-le-mul_right (length form.group) counted.low);
    }
