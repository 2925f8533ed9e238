-- Lines of a certificate that follow one another without a fault.
use Rattle.std.proofs.Common.{◌≡◌, ℕ, zero, suc, ◌+◌, ◌-◌, ◌<◌, ◌≤◌, List, [], ◌∷◌, ◌++◌, length, get_or, map, take, All, Contains, Option, refl, sym, ap, subst, ◌∙◌, append_assoc, arith, inl, inr, ⊎_elim}
use Rattle.std.proofs.Math.Seq.{get_or-append_seam}
use Rattle.std.proofs.lemmas.List.{append-nil, length-append, length-map, map-append}
use Rattle.std.proofs.lemmas.List.Elements.{All-head, All-tail}
use Rattle.deck_lines.specs.declared.line.CertLine.{CertLine}
use Rattle.deck_lines.specs.declared.line.CertLine.TheVariants as certs
use Rattle.plan_certificate.specs.Reading.{AreInForm, HasInfeasible, HasTotal, IsFaulty, chosen_of, last_year, line_at}
use Rattle.plan_certificate.proofs.Aligned.{none_in_none}
use Rattle.plan_certificate.proofs.Lines.{chosen_add, contains_cases, kind}
use Rattle.report_text.specs.declared.data.PlanYear.{PlanYear}
use Rattle.report_text.proofs.YearParts.{chosen_lines}

-- no line has a fault by those before it, of which the earlier ones are given
abbrev pub Follow : ℕ → ℕ → List CertLine → List CertLine → Type 0
Follow years width earlier [] = Unit {0}
Follow years width earlier (x ∷ xs) = (IsFaulty years width earlier x → ⊥) × Follow years width (earlier ++ x ∷ []) xs

follow_at : (years width : ℕ) (earlier lines : List CertLine) → Follow years width earlier lines → (k : ℕ) → k < length lines → IsFaulty years width (earlier ++ take k lines) (line_at lines k) → ⊥
follow_at years width earlier [] f k b = absurd (omega (arith, b))
follow_at years width earlier (x ∷ xs) f zero b = λ bad. f.0 (subst (λ (ls : List CertLine). IsFaulty years width ls x) (append-nil earlier) bad)
follow_at years width earlier (x ∷ xs) f (suc k) b = λ bad.
    follow_at years width (earlier ++ x ∷ []) xs f.1 k (omega (arith, b)) (subst (λ (ls : List CertLine). IsFaulty years width ls (line_at xs k)) (sym (append_assoc earlier (x ∷ []) (take k xs))) bad)

pub in_form : (years width : ℕ) (lines : List CertLine) → Follow years width [] lines → AreInForm years width lines (length lines)
in_form years width lines f k b = follow_at years width [] lines f k b

pub follow_append : (years width : ℕ) (earlier xs ys : List CertLine) → Follow years width earlier xs → Follow years width (earlier ++ xs) ys → Follow years width earlier (xs ++ ys)
follow_append years width earlier [] ys f g = subst (λ (ls : List CertLine). Follow years width ls ys) (append-nil earlier) g
follow_append years width earlier (x ∷ xs) ys f g =
    (f.0, follow_append years width (earlier ++ x ∷ []) xs ys f.1 (subst (λ (ls : List CertLine). Follow years width ls ys) (sym (append_assoc earlier (x ∷ []) xs)) g))

-- ---- CHOSEN lines

-- only CHOSEN lines, the last of the year before this one
pub record BeforeYear (t : ℕ) (earlier : List CertLine) : Type 0 where
  pub last : last_year (chosen_of earlier) + 1 ≡ t
  pub chosen : (x : CertLine) → Contains earlier x → kind x ≡ 1

last_pushed : (cs : List (ℕ × List ℕ)) (t : ℕ) (config : List ℕ) → last_year (cs ++ (t, config) ∷ []) ≡ t
last_pushed cs t config =
    let year : ℕ × List ℕ → ℕ = λ p. p.0 in
    let place : length (cs ++ (t, config) ∷ []) - 1 ≡ length (map year cs) = omega (arith, length-append cs ((t, config) ∷ []), length-map cs year) in
    (λ i. get_or (map-append year cs ((t, config) ∷ []) i) (place i) 0) ∙ get_or-append_seam (map year cs) t [] 0

pub before_first : BeforeYear 1 []
before_first = record { last = refl; chosen = λ x c. absurd (none_in_none x c) }

before_next : (t : ℕ) (earlier : List CertLine) (config : List ℕ) → BeforeYear t earlier → BeforeYear (t + 1) (earlier ++ certs.Chosen t config ∷ [])
before_next t earlier config b = record {
  last = ap (λ (cs : List (ℕ × List ℕ)). last_year cs + 1) (chosen_add earlier (certs.Chosen t config)) ∙ ap (λ n. n + 1) (last_pushed (chosen_of earlier) t config);
  chosen = λ x c. ⊎_elim (λ before. b.chosen x before) (λ e. sym (ap kind e)) (contains_cases earlier (certs.Chosen t config) x c);
}

pub no_infeasible : (t : ℕ) (earlier : List CertLine) → BeforeYear t earlier → HasInfeasible earlier → ⊥
no_infeasible t earlier b (y, c) = omega (arith, b.chosen (certs.Infeasible y) c)

pub no_total : (t : ℕ) (earlier : List CertLine) → BeforeYear t earlier → HasTotal earlier → ⊥
no_total t earlier b (v, c) = omega (arith, b.chosen (certs.Total v) c)

pub no_come : (t : ℕ) (earlier : List CertLine) → BeforeYear t earlier → (year : ℕ) (config : List ℕ) (value : Option ℕ) → Contains earlier (certs.Come year config value) → ⊥
no_come t earlier b year config value c = omega (arith, b.chosen (certs.Come year config value) c)

chosen_good : (years width t : ℕ) (earlier : List CertLine) (config : List ℕ) → t ≤ years → length config ≡ width → BeforeYear t earlier → IsFaulty years width earlier (certs.Chosen t config) → ⊥
chosen_good years width t earlier config high w b (inl above) = omega (arith, above, high)
chosen_good years width t earlier config high w b (inr (inl other)) = other w
chosen_good years width t earlier config high w b (inr (inr (inl order))) = order (sym b.last)
chosen_good years width t earlier config high w b (inr (inr (inr has))) = no_infeasible t earlier b has

-- CHOSEN lines follow one another, and what stands behind them
pub record ChosenFollow (years width t : ℕ) (earlier : List CertLine) (ys : List PlanYear) : Type 0 where
  pub follow : Follow years width earlier (chosen_lines t ys)
  pub next : BeforeYear (t + length ys) (earlier ++ chosen_lines t ys)

pub chosen_follow : (years width t : ℕ) (earlier : List CertLine) (ys : List PlanYear) → t + length ys ≤ years + 1 → All (λ y. length y.config ≡ width) ys → BeforeYear t earlier → ChosenFollow years width t earlier ys
chosen_follow years width t earlier [] high w b = record {
  follow = tt;
  next = let same : t ≡ t + 0 = omega arith in subst (λ n. BeforeYear n (earlier ++ [])) same (subst (λ (ls : List CertLine). BeforeYear t ls) (sym (append-nil earlier)) b);
}
chosen_follow years width t earlier (y ∷ ys) high w b =
    let x : CertLine = certs.Chosen t y.config in
    let rest = chosen_follow years width (t + 1) (earlier ++ x ∷ []) ys (omega (arith, high)) (All-tail (λ (z : PlanYear). length z.config ≡ width) y ys w) (before_next t earlier y.config b) in
    let place : t + 1 + length ys ≡ t + length (y ∷ ys) = omega arith in
    record {
      follow = (chosen_good years width t earlier y.config (omega (arith, high)) (All-head (λ (z : PlanYear). length z.config ≡ width) y ys w) b, rest.follow);
      next = subst (λ n. BeforeYear n (earlier ++ chosen_lines t (y ∷ ys))) place (subst (λ (ls : List CertLine). BeforeYear (t + 1 + length ys) ls) (append_assoc earlier (x ∷ []) (chosen_lines (t + 1) ys)) rest.next);
    }

-- ---- TOTAL and INFEASIBLE lines

pub total_good : (years width t : ℕ) (earlier : List CertLine) (total : ℕ) → BeforeYear t earlier → IsFaulty years width earlier (certs.Total total) → ⊥
total_good years width t earlier total b (inl has) = no_total t earlier b has
total_good years width t earlier total b (inr has) = no_infeasible t earlier b has

pub infeasible_good : (years width year : ℕ) → year ≤ years → IsFaulty years width [] (certs.Infeasible year) → ⊥
infeasible_good years width year high (inl above) = omega (arith, above, high)
infeasible_good years width year high (inr (inl (y, c))) = none_in_none (certs.Infeasible y) c
infeasible_good years width year high (inr (inr (inl (y, g, c)))) = none_in_none (certs.Chosen y g) c
infeasible_good years width year high (inr (inr (inr (v, c)))) = none_in_none (certs.Total v) c
