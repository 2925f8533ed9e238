-- The form of a certificate's lines, by what is kept of them.
use Rattle.std.proofs.Common.{◌≡◌, ◌≢◌, ◌↔◌, ℕ, ◌+◌, ◌-◌, ◌<◌, ◌≤◌, Bool, true, List, [], ◌∷◌, ◌++◌, length, get_or, map, take, Contains, Option, Some, None, IsSome, sym, ap, ◌∙◌, arith, refl, subst, true≢false, ⊎_elim, inl, inr, ◌⊎◌}
use Rattle.std.proofs.Math.ListN.{get_or-append, get_or-map}
use Rattle.std.proofs.Math.Seq.{get_or-append_seam}
use Rattle.std.proofs.lemmas.Bool.{cases_eq, cases_lt}
use Rattle.std.proofs.lemmas.List.{append-nil, get_or_default, length-append, length-map, map-append}
use Rattle.std.proofs.lemmas.Option.{none-some}
use Rattle.deck_lines.specs.declared.line.CertLine.{CertLine}
use Rattle.deck_lines.specs.declared.line.CertLine.TheVariants.{Come, Chosen, Total, Infeasible}
use Rattle.plan_certificate.specs.Form.{Adds, IsFaultyWith, IsRead}
use Rattle.plan_certificate.specs.Gathered.{IsAgainBelow}
use Rattle.plan_certificate.specs.Reading.{HasChosen, HasInfeasible, HasTotal, IsFaulty, IsNamedBy, chosen_by, chosen_of, last_year, line_at}
use Rattle.plan_certificate.specs.declared.reading.Reading.{Reading}
use Rattle.plan_certificate.proofs.Lines.{chosen_add, chosen_line, config_of, contains_cases, contains_end, contains_front, kind, line_chosen, year_of}

-- ---- what is kept

-- the number of CHOSEN lines is the year of the last
pub chosen_count : (lines : List CertLine) (r : Reading) → IsRead lines r → length r.chosen.items ≡ length (chosen_of lines)
chosen_count lines r h = ap length (sym h.chosen) ∙ length-map (chosen_of lines) (λ (p : ℕ × List ℕ). p.1)

last_is : (cs : List (ℕ × List ℕ)) → ((i : ℕ) → i < length cs → get_or (map (λ p. p.0) cs) i 0 ≡ i + 1) → last_year cs ≡ length cs
last_is [] h = refl
last_is (c ∷ cs) h = h (length (c ∷ cs) - 1) (omega arith) ∙ omega arith

pub last_count : (lines : List CertLine) (r : Reading) → IsRead lines r → last_year (chosen_of lines) ≡ length r.chosen.items
last_count lines r h = last_is (chosen_of lines) h.counted ∙ sym (chosen_count lines r h)

-- a total or an infeasible year among the lines with one more, which is neither
other_total : (xs : List CertLine) (x : CertLine) → kind x ≢ 2 → (HasTotal xs → ⊥) → HasTotal (xs ++ x ∷ []) → ⊥
other_total xs x k never (v, c) = ⊎_elim (λ before. never (v, before)) (λ e. k (ap kind e)) (contains_cases xs x (Total v) c)

other_infeasible : (xs : List CertLine) (x : CertLine) → kind x ≢ 3 → (HasInfeasible xs → ⊥) → HasInfeasible (xs ++ x ∷ []) → ⊥
other_infeasible xs x k never (y, c) = ⊎_elim (λ before. never (y, before)) (λ e. k (ap kind e)) (contains_cases xs x (Infeasible y) c)

-- the same chosen lines
same_chosen : (xs : List CertLine) (x : CertLine) → chosen_by x ≡ [] → chosen_of (xs ++ x ∷ []) ≡ chosen_of xs
same_chosen xs x e = chosen_add xs x ∙ (ap (λ ys. chosen_of xs ++ ys) e ∙ append-nil (chosen_of xs))

abbrev IsCounted : List (ℕ × List ℕ) → Type 0
IsCounted cs = (i : ℕ) → i < length cs → get_or (map (λ p. p.0) cs) i 0 ≡ i + 1

counted_more : (cs : List (ℕ × List ℕ)) (year : ℕ) (config : List ℕ) → IsCounted cs → year ≡ length cs + 1 → IsCounted (cs ++ (year, config) ∷ [])
counted_more cs year config h e i b =
    let at : get_or (map (λ p. p.0) (cs ++ (year, config) ∷ [])) i 0 ≡ (get_or (cs ++ (year, config) ∷ []) i (0, [])).0 = get_or-map (λ (p : ℕ × List ℕ). p.0) (cs ++ (year, config) ∷ []) i (0, []) in
    at ∙ ⊎_elim
    (λ below. ap (λ (p : ℕ × List ℕ). p.0) (get_or-append cs ((year, config) ∷ []) (0, []) i below) ∙ (sym (get_or-map (λ (p : ℕ × List ℕ). p.0) cs i (0, [])) ∙ h i below))
    (λ above.
    let same : i ≡ length cs = omega (arith, above, b, length-append cs ((year, config) ∷ [])) in
    ap (λ n. (get_or (cs ++ (year, config) ∷ []) n (0, [])).0) same ∙ (ap (λ (p : ℕ × List ℕ). p.0) (get_or-append_seam cs (year, config) [] (0, [])) ∙ (e ∙ ap (λ n. n + 1) (sym same))))
    (cases_lt i (length cs))

pub read_more : (xs : List CertLine) (x : CertLine) (r s : Reading) (years width : ℕ) (again : Bool) → IsRead xs r → (IsFaultyWith years width r again x → ⊥) → Adds x r s → IsRead (xs ++ x ∷ []) s
read_more xs (Come year config value) r s years width again h ok a =
    let x = Come year config value in
    let same = same_chosen xs x refl in
    record {
      chosen = ap (λ cs. map (λ p. p.1) cs) same ∙ (h.chosen ∙ sym a.0);
      counted = subst IsCounted (sym same) h.counted;
      total = λ v e. contains_front xs x (Total v) (h.total v (sym a.1 ∙ e));
      no_total = λ e. other_total xs x (λ k. omega (arith, k)) (h.no_total (sym a.1 ∙ e));
      infeasible = λ y e. contains_front xs x (Infeasible y) (h.infeasible y (sym a.2 ∙ e));
      no_infeasible = λ e. other_infeasible xs x (λ k. omega (arith, k)) (h.no_infeasible (sym a.2 ∙ e));
    }
read_more xs (Chosen year config) r s years width again h ok a =
    let x = Chosen year config in
    let more = chosen_add xs x in
    let place : year ≡ length r.chosen.items + 1 = ⊎_elim (λ e. e) (λ other. absurd (ok (inr (inr (inl other))))) (cases_eq year (length r.chosen.items + 1)) in
    record {
      chosen = ap (λ cs. map (λ p. p.1) cs) more ∙ (map-append (λ (p : ℕ × List ℕ). p.1) (chosen_of xs) ((year, config) ∷ []) ∙ (ap (λ ys. ys ++ config ∷ []) h.chosen ∙ sym a.0));
      counted = subst IsCounted (sym more) (counted_more (chosen_of xs) year config h.counted (place ∙ ap (λ n. n + 1) (chosen_count xs r h)));
      total = λ v e. contains_front xs x (Total v) (h.total v (sym a.1 ∙ e));
      no_total = λ e. other_total xs x (λ k. omega (arith, k)) (h.no_total (sym a.1 ∙ e));
      infeasible = λ y e. contains_front xs x (Infeasible y) (h.infeasible y (sym a.2 ∙ e));
      no_infeasible = λ e. other_infeasible xs x (λ k. omega (arith, k)) (h.no_infeasible (sym a.2 ∙ e));
    }
read_more xs (Total total) r s years width again h ok a =
    let x = Total total in
    let same = same_chosen xs x refl in
    record {
      chosen = ap (λ cs. map (λ p. p.1) cs) same ∙ (h.chosen ∙ sym a.0);
      counted = subst IsCounted (sym same) h.counted;
      total = λ v e. subst (λ (n : ℕ). Contains (xs ++ x ∷ []) (Total n)) (some_same total v (sym a.1 ∙ e)) (contains_end xs x);
      no_total = λ e. absurd (none-some total (sym e ∙ a.1));
      infeasible = λ y e. contains_front xs x (Infeasible y) (h.infeasible y (sym a.2 ∙ e));
      no_infeasible = λ e. other_infeasible xs x (λ k. omega (arith, k)) (h.no_infeasible (sym a.2 ∙ e));
    }
  where
    some_same : (a b : ℕ) → Some a ≡ Some b → a ≡ b
    some_same a b e = ap or_zero e
      where
        or_zero : Option ℕ → ℕ
        or_zero None = 0
        or_zero (Some n) = n
read_more xs (Infeasible year) r s years width again h ok a =
    let x = Infeasible year in
    let same = same_chosen xs x refl in
    record {
      chosen = ap (λ cs. map (λ p. p.1) cs) same ∙ (h.chosen ∙ sym a.0);
      counted = subst IsCounted (sym same) h.counted;
      total = λ v e. contains_front xs x (Total v) (h.total v (sym a.1 ∙ e));
      no_total = λ e. other_total xs x (λ k. omega (arith, k)) (h.no_total (sym a.1 ∙ e));
      infeasible = λ y e. subst (λ (n : ℕ). Contains (xs ++ x ∷ []) (Infeasible n)) (some_same year y (sym a.2 ∙ e)) (contains_end xs x);
      no_infeasible = λ e. absurd (none-some year (sym e ∙ a.2));
    }
  where
    some_same : (a b : ℕ) → Some a ≡ Some b → a ≡ b
    some_same a b e = ap or_zero e
      where
        or_zero : Option ℕ → ℕ
        or_zero None = 0
        or_zero (Some n) = n

-- ---- faults

some_total : (lines : List CertLine) (r : Reading) → IsRead lines r → IsSome r.total ↔ HasTotal lines
some_total lines r h = case r.total refl
  where
    case : (o : Option ℕ) → r.total ≡ o → IsSome r.total ↔ HasTotal lines
    case None e = (λ s. absurd (no_some (subst IsSome e s)), λ g. absurd (h.no_total e g))
      where
        no_some : IsSome {T = ℕ} None → ⊥
        no_some s = true≢false (sym s)
    case (Some v) e = (λ _. (v, h.total v e), λ _. subst IsSome (sym e) refl)

some_infeasible : (lines : List CertLine) (r : Reading) → IsRead lines r → IsSome r.infeasible ↔ HasInfeasible lines
some_infeasible lines r h = case r.infeasible refl
  where
    case : (o : Option ℕ) → r.infeasible ≡ o → IsSome r.infeasible ↔ HasInfeasible lines
    case None e = (λ s. absurd (no_some (subst IsSome e s)), λ g. absurd (h.no_infeasible e g))
      where
        no_some : IsSome {T = ℕ} None → ⊥
        no_some s = true≢false (sym s)
    case (Some v) e = (λ _. (v, h.infeasible v e), λ _. subst IsSome (sym e) refl)

some_chosen : (lines : List CertLine) (r : Reading) → IsRead lines r → (length r.chosen.items ≢ 0) ↔ HasChosen lines
some_chosen lines r h = (
  λ some.
      let n = chosen_count lines r h in
      let b : 0 < length (chosen_of lines) = omega (arith, some, n) in
      let p = get_or (chosen_of lines) 0 (0, []) in
      (p.0, p.1, chosen_line lines p.0 p.1 (0, b, get_or_default (chosen_of lines) 0 p (0, []) b)),
  λ g. has g,
)
  where
    has : HasChosen lines → length r.chosen.items ≢ 0
    has (year, config, c) zero_long =
        let m = line_chosen lines year config c in
        omega (arith, zero_long, chosen_count lines r h, m.1)

come_of : (year y : ℕ) (config g : List ℕ) (value v : Option ℕ) → Come year config value ≡ Come y g v → (year ≡ y) × (config ≡ g)
come_of year y config g value v e = (ap year_of e, ap config_of e)

-- what is marked is what is named again
marked : (lines : List CertLine) (k years year : ℕ) (config : List ℕ) (value : Option ℕ) → line_at lines k ≡ Come year config value → IsAgainBelow lines years k → IsNamedBy (take k lines) year config
marked lines k years year config value e (y, b, g) =
    let same = sym e ∙ g.says in
    subst (λ (n : ℕ). IsNamedBy (take k lines) n config) (sym (ap year_of same)) (subst (λ (x : List ℕ). IsNamedBy (take k lines) (y + 1) x) (sym (ap config_of same)) g.earlier)

mark : (lines : List CertLine) (k years year : ℕ) (config : List ℕ) (value : Option ℕ) → k < length lines → line_at lines k ≡ Come year config value → 1 ≤ year → year ≤ years → IsNamedBy (take k lines) year config → IsAgainBelow lines years k
mark lines k years year config value b e low high g =
    let next : year - 1 + 1 ≡ year = omega (arith, low) in (
      year - 1,
      omega (arith, low, high),
      record {
        config = config;
        value = value;
        within = b;
        says = e ∙ ap (λ n. Come n config value) (sym next);
        earlier = subst (λ (n : ℕ). IsNamedBy (take k lines) n config) (sym next) g;
      },
    )

-- the fault of a line, by what is kept, is its fault by the lines before it
pub faulty_is : (lines : List CertLine) (k years width : ℕ) (r : Reading) (again : Bool) (line : CertLine) → line_at lines k ≡ line → k < length lines → IsRead (take k lines) r → ((again ≡ true) ↔ IsAgainBelow lines years k) → IsFaultyWith years width r again line → IsFaulty years width (take k lines) line
faulty_is lines k years width r again (Come year config value) e b h m (inl f) = inl f
faulty_is lines k years width r again (Come year config value) e b h m (inr (inl f)) = inr (inl f)
faulty_is lines k years width r again (Come year config value) e b h m (inr (inr f)) = inr (inr (marked lines k years year config value e (m.0 f)))
faulty_is lines k years width r again (Chosen year config) e b h m (inl f) = inl f
faulty_is lines k years width r again (Chosen year config) e b h m (inr (inl f)) = inr (inl f)
faulty_is lines k years width r again (Chosen year config) e b h m (inr (inr (inl f))) = inr (inr (inl (λ g. f (g ∙ ap (λ n. n + 1) (last_count (take k lines) r h)))))
faulty_is lines k years width r again (Chosen year config) e b h m (inr (inr (inr f))) = inr (inr (inr ((some_infeasible (take k lines) r h).0 f)))
faulty_is lines k years width r again (Total total) e b h m (inl f) = inl ((some_total (take k lines) r h).0 f)
faulty_is lines k years width r again (Total total) e b h m (inr f) = inr ((some_infeasible (take k lines) r h).0 f)
faulty_is lines k years width r again (Infeasible year) e b h m (inl f) = inl f
faulty_is lines k years width r again (Infeasible year) e b h m (inr (inl f)) = inr (inl ((some_infeasible (take k lines) r h).0 f))
faulty_is lines k years width r again (Infeasible year) e b h m (inr (inr (inl f))) = inr (inr (inl ((some_chosen (take k lines) r h).0 f)))
faulty_is lines k years width r again (Infeasible year) e b h m (inr (inr (inr f))) = inr (inr (inr ((some_total (take k lines) r h).0 f)))

pub is_faulty : (lines : List CertLine) (k years width : ℕ) (r : Reading) (again : Bool) (line : CertLine) → line_at lines k ≡ line → k < length lines → 1 ≤ year_of line → IsRead (take k lines) r → ((again ≡ true) ↔ IsAgainBelow lines years k) → IsFaulty years width (take k lines) line → IsFaultyWith years width r again line
is_faulty lines k years width r again (Come year config value) e b low h m (inl f) = inl f
is_faulty lines k years width r again (Come year config value) e b low h m (inr (inl f)) = inr (inl f)
is_faulty lines k years width r again (Come year config value) e b low h m (inr (inr f)) = ⊎_elim (λ above. inl above) (λ high. inr (inr (m.1 (mark lines k years year config value b e low high f)))) (cases_lt years year)
is_faulty lines k years width r again (Chosen year config) e b low h m (inl f) = inl f
is_faulty lines k years width r again (Chosen year config) e b low h m (inr (inl f)) = inr (inl f)
is_faulty lines k years width r again (Chosen year config) e b low h m (inr (inr (inl f))) = inr (inr (inl (λ g. f (g ∙ ap (λ n. n + 1) (sym (last_count (take k lines) r h))))))
is_faulty lines k years width r again (Chosen year config) e b low h m (inr (inr (inr f))) = inr (inr (inr ((some_infeasible (take k lines) r h).1 f)))
is_faulty lines k years width r again (Total total) e b low h m (inl f) = inl ((some_total (take k lines) r h).1 f)
is_faulty lines k years width r again (Total total) e b low h m (inr f) = inr ((some_infeasible (take k lines) r h).1 f)
is_faulty lines k years width r again (Infeasible year) e b low h m (inl f) = inl f
is_faulty lines k years width r again (Infeasible year) e b low h m (inr (inl f)) = inr (inl ((some_infeasible (take k lines) r h).1 f))
is_faulty lines k years width r again (Infeasible year) e b low h m (inr (inr (inl f))) = inr (inr (inl ((some_chosen (take k lines) r h).1 f)))
is_faulty lines k years width r again (Infeasible year) e b low h m (inr (inr (inr f))) = inr (inr (inr ((some_total (take k lines) r h).1 f)))
