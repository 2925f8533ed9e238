-- The certificate that lines without a fault say.
use Rattle.std.proofs.Common.{◌≡◌, ◌≢◌, ◌↔◌, ℕ, zero, suc, ◌+◌, ◌-◌, ◌^◌, ◌<◌, ◌≤◌, Bool, true, false, List, [], ◌∷◌, length, get_or, map, take, cond, All, Contains, IfSome, Option, Some, None, nat_eq, sym, ap, ◌∙◌, arith, refl, subst, ⊎_elim, inl, inr, ◌⊎◌}
use Rattle.std.proofs.Math.ListN.{get_or-map}
use Rattle.std.proofs.lemmas.Bool.{cases_eq, cases_lt}
use Rattle.std.proofs.lemmas.Bool.Decides.{nat_tests}
use Rattle.std.proofs.lemmas.List.{get_or_default, get_or_past, length-map}
use Rattle.std.proofs.lemmas.Option.{none-some}
use Rattle.deck_lines.specs.Grammar.{IsCertLine}
use Rattle.deck_lines.specs.declared.line.CertLine.{CertLine}
use Rattle.deck_lines.specs.declared.line.CertLine.TheVariants.{Come, Chosen, Total, Infeasible}
use Rattle.plan_program.specs.declared.solved.Outcome.{Outcome}
use Rattle.plan_program.specs.declared.solved.Outcome.TheVariants as claims
use Rattle.plan_certificate.specs.Certificate.{CertData, IsCertificate, IsClaim, IsNamed, NamesRise, Says, named_in}
use Rattle.plan_certificate.specs.Form.{IsRead, claim_of}
use Rattle.plan_certificate.specs.Gathered.{AreNamesOf, IsAgain}
use Rattle.plan_certificate.specs.Reading.{AreCertLines, AreInForm, HasInfeasible, HasPlanLines, HasTotal, IsClaimedBy, IsComplete, IsFaulty, IsFormFault, IsMissing, IsSaidBy, chosen_of, line_at, no_line}
use Rattle.plan_certificate.specs.declared.certificate.Named.{Named}
use Rattle.plan_certificate.specs.declared.reading.Reading.{Reading}
use Rattle.plan_certificate.proofs.Forms.{chosen_count}
use Rattle.plan_certificate.proofs.Lines.{chosen_line, line_chosen}

-- what is known of lines without a fault
pub record AreGood (years width : ℕ) (lines : List CertLine) : Type 0 where
  pub form : AreInForm years width lines (length lines)
  pub ranges : AreCertLines lines

pub record IsGood (years width : ℕ) (x : CertLine) : Type 0 where
  pub earlier : List CertLine
  pub good : IsFaulty years width earlier x → ⊥
  pub range : IsCertLine x

good_line : (years width : ℕ) (lines : List CertLine) → AreGood years width lines → (x : CertLine) → Contains lines x → IsGood years width x
good_line years width lines g x (k, b, e) =
    let is : line_at lines k ≡ x = get_or_default lines k no_line x b ∙ e in
    record {
      earlier = take k lines;
      good = subst (λ (l : CertLine). IsFaulty years width (take k lines) l → ⊥) is (g.form k b);
      range = subst IsCertLine is (g.ranges k no_line b);
    }

within : (years year : ℕ) → (years < year → ⊥) → year ≤ years
within years year h = ⊎_elim (λ above. absurd (h above)) (λ good. good) (cases_lt years year)

equal : (a b : ℕ) → (a ≢ b → ⊥) → a ≡ b
equal a b h = ⊎_elim (λ e. e) (λ other. absurd (h other)) (cases_eq a b)

come_good : (years width : ℕ) (lines : List CertLine) → AreGood years width lines → (year : ℕ) (config : List ℕ) (value : Option ℕ) → Contains lines (Come year config value) → (year ≤ years) × (length config ≡ width) × IfSome value (λ v. v < 10 ^ 18)
come_good years width lines g year config value c =
    let l = good_line years width lines g (Come year config value) c in
    (within years year (λ f. l.good (inl f)), equal (length config) width (λ f. l.good (inr (inl f))), l.range.2)

chosen_good : (years width : ℕ) (lines : List CertLine) → AreGood years width lines → (year : ℕ) (config : List ℕ) → Contains lines (Chosen year config) → (year ≤ years) × (length config ≡ width)
chosen_good years width lines g year config c =
    let l = good_line years width lines g (Chosen year config) c in
    (within years year (λ f. l.good (inl f)), equal (length config) width (λ f. l.good (inr (inl f))))

none_again : (years width : ℕ) (lines : List CertLine) → AreGood years width lines → (year line : ℕ) → IsAgain lines year line → ⊥
none_again years width lines g year line a =
    g.form line a.within (subst (λ (l : CertLine). IsFaulty years width (take line lines) l) (sym a.says) (inr (inr a.earlier)))

-- ---- the claim

some_same : (a b : Outcome) → Some a ≡ Some b → a ≡ b
some_same a b e = ap (λ (o : Option Outcome). or_a o) e
  where
    or_a : Option Outcome → Outcome
    or_a None = a
    or_a (Some x) = x

-- the CHOSEN lines are as many as there are years, or some year has none
all_years : (years width : ℕ) (lines : List CertLine) (r : Reading) → AreGood years width lines → IsRead lines r → HasPlanLines years lines → 1 ≤ years → length r.chosen.items ≡ years
all_years years width lines r g h p some =
    let last = p.0 years some (omega arith) in
    let n = chosen_count lines r h in
    reached (line_chosen lines years last.0 last.1) n
  where
    bounded : (m : ℕ) → m ≡ length (chosen_of lines) → m ≤ years
    bounded zero e = omega arith
    bounded (suc m) e =
        let b : m < length (chosen_of lines) = omega (arith, e) in
        let q = get_or (chosen_of lines) m (0, []) in
        let c : Contains lines (Chosen q.0 q.1) = chosen_line lines q.0 q.1 (m, b, get_or_default (chosen_of lines) m q (0, []) b) in
        let year : q.0 ≡ m + 1 = sym (get_or-map (λ (x : ℕ × List ℕ). x.0) (chosen_of lines) m (0, [])) ∙ h.counted m b in
        omega (arith, (chosen_good years width lines g q.0 q.1 c).0, year)

    reached : {config : List ℕ} → Contains (chosen_of lines) (years, config) → length r.chosen.items ≡ length (chosen_of lines) → length r.chosen.items ≡ years
    reached {config} (k, b, e) n =
        let year : years ≡ k + 1 = sym (ap (λ (x : ℕ × List ℕ). x.0) (get_or_default (chosen_of lines) k (0, []) (years, config) b ∙ e)) ∙ (sym (get_or-map (λ (x : ℕ × List ℕ). x.0) (chosen_of lines) k (0, [])) ∙ h.counted k b) in
        omega (arith, year, b, n, bounded (length (chosen_of lines)) refl)

each_year : (years : ℕ) (lines : List CertLine) (r : Reading) → IsRead lines r → length r.chosen.items ≡ years → (year : ℕ) → 1 ≤ year → year ≤ years → (config : List ℕ) × Contains lines (Chosen year config)
each_year years lines r h n year low high =
    let k = year - 1 in
    let b : k < length (chosen_of lines) = omega (arith, low, high, n, chosen_count lines r h) in
    let q = get_or (chosen_of lines) k (0, []) in
    let is : q.0 ≡ year = sym (get_or-map (λ (x : ℕ × List ℕ). x.0) (chosen_of lines) k (0, [])) ∙ (h.counted k b ∙ omega (arith, low)) in
    (q.1, subst (λ (y : ℕ). Contains lines (Chosen y q.1)) is (chosen_line lines q.0 q.1 (k, b, get_or_default (chosen_of lines) k q (0, []) b)))

widths : (years width : ℕ) (lines : List CertLine) (r : Reading) → AreGood years width lines → IsRead lines r → All (λ (config : List ℕ). length config ≡ width) r.chosen.items
widths years width lines r g h = subst (λ (xs : List (List ℕ)). All (λ (config : List ℕ). length config ≡ width) xs) h.chosen (λ k d b.
    let bk : k < length (chosen_of lines) = omega (arith, b, length-map (chosen_of lines) (λ (p : ℕ × List ℕ). p.1)) in
    let q = get_or (chosen_of lines) k (0, []) in
    let at : get_or (map (λ (p : ℕ × List ℕ). p.1) (chosen_of lines)) k d ≡ q.1 = get_or_default (map (λ (p : ℕ × List ℕ). p.1) (chosen_of lines)) k d [] b ∙ get_or-map (λ (p : ℕ × List ℕ). p.1) (chosen_of lines) k (0, []) in
    ap length at ∙ (chosen_good years width lines g q.0 q.1 (chosen_line lines q.0 q.1 (k, bk, get_or_default (chosen_of lines) k q (0, []) bk))).1)

-- what is claimed is said, and nothing is missing
pub record Claims (years width : ℕ) (lines : List CertLine) (o : Outcome) : Type 0 where
  pub complete : IsComplete years lines
  pub claimed : IsClaimedBy lines o
  pub claim : IsClaim years width o

infeasible_claims : (years width : ℕ) (lines : List CertLine) → AreGood years width lines → (year : ℕ) → Contains lines (Infeasible year) → Claims years width lines (claims.Infeasible year)
infeasible_claims years width lines g year c =
    let l = good_line years width lines g (Infeasible year) c in
    record { complete = inl (year, c); claimed = c; claim = (l.range.0, within years year (λ f. l.good (inl f))) }

plan_claims : (years width : ℕ) (lines : List CertLine) (r : Reading) → AreGood years width lines → IsRead lines r → (total : ℕ) → Contains lines (Total total) → length r.chosen.items ≡ years → Claims years width lines (claims.Plan r.chosen.items total)
plan_claims years width lines r g h total c n =
    let l = good_line years width lines g (Total total) c in
    record { complete = inr (each_year years lines r h n, (total, c)); claimed = (sym h.chosen, c); claim = (n, widths years width lines r g h, l.range) }

test_yes : (a b : ℕ) (x : Outcome) (o : Outcome) → cond (nat_eq a b) (Some x) None ≡ Some o → (a ≡ b) × (x ≡ o)
test_yes a b x o e = ⊎_elim
    (λ same. (same, some_same x o (sym (ap (λ t. cond t (Some x) None) (alike a b same)) ∙ e)))
    (λ other. absurd (none-some o (sym (ap (λ t. cond t (Some x) None) (never a b other)) ∙ e)))
    (cases_eq a b)
  where
    alike : (a b : ℕ) → a ≡ b → nat_eq a b ≡ true
    alike a b h = grind (arith, nat_tests)

    never : (a b : ℕ) → a ≢ b → nat_eq a b ≡ false
    never a b h = grind (arith, nat_tests)

test_no : (a b : ℕ) (x : Outcome) → cond (nat_eq a b) (Some x) None ≡ None → a ≢ b
test_no a b x e same = none-some x (sym e ∙ ap (λ t. cond t (Some x) None) (alike a b same))
  where
    alike : (a b : ℕ) → a ≡ b → nat_eq a b ≡ true
    alike a b h = grind (arith, nat_tests)

claim_cases : (years width : ℕ) (lines : List CertLine) (r : Reading) → AreGood years width lines → IsRead lines r → (total infeasible : Option ℕ) → r.total ≡ total → r.infeasible ≡ infeasible → (o : Outcome) → claim_of years r.chosen.items total infeasible ≡ Some o → Claims years width lines o
claim_cases years width lines r g h None None t i o e = absurd (none-some o e)
claim_cases years width lines r g h (Some total) None t i o e =
    let y = test_yes (length r.chosen.items) years (claims.Plan r.chosen.items total) o e in
    subst (λ (x : Outcome). Claims years width lines x) y.1 (plan_claims years width lines r g h total (h.total total t) y.0)
claim_cases years width lines r g h None (Some year) t i o e = subst (λ (x : Outcome). Claims years width lines x) (some_same (claims.Infeasible year) o e) (infeasible_claims years width lines g year (h.infeasible year i))
claim_cases years width lines r g h (Some total) (Some year) t i o e = subst (λ (x : Outcome). Claims years width lines x) (some_same (claims.Infeasible year) o e) (infeasible_claims years width lines g year (h.infeasible year i))

missing_cases : (years width : ℕ) (lines : List CertLine) (r : Reading) → AreGood years width lines → IsRead lines r → 1 ≤ years → (total infeasible : Option ℕ) → r.total ≡ total → r.infeasible ≡ infeasible → claim_of years r.chosen.items total infeasible ≡ None → IsComplete years lines → ⊥
missing_cases years width lines r g h some None None t i e (inl has) = h.no_infeasible i has
missing_cases years width lines r g h some None None t i e (inr p) = h.no_total t p.1
missing_cases years width lines r g h some (Some total) None t i e (inl has) = h.no_infeasible i has
missing_cases years width lines r g h some (Some total) None t i e (inr p) = test_no (length r.chosen.items) years (claims.Plan r.chosen.items total) e (all_years years width lines r g h p some)
missing_cases years width lines r g h some None (Some year) t i e c = none-some (claims.Infeasible year) (sym e)
missing_cases years width lines r g h some (Some total) (Some year) t i e c = none-some (claims.Infeasible year) (sym e)

pub missing_is : (years width : ℕ) (lines : List CertLine) (r : Reading) → AreGood years width lines → IsRead lines r → 1 ≤ years → claim_of years r.chosen.items r.total r.infeasible ≡ None → (n : ℕ) → n ≡ length lines + 1 → IsFormFault years width lines n
missing_is years width lines r g h some e n is = inr (record { all = g.form; incomplete = missing_cases years width lines r g h some r.total r.infeasible refl refl e; past = is })

-- ---- the certificate

pub record Makes (years width : ℕ) (lines : List CertLine) (c : CertData) : Type 0 where
  pub valid : IsCertificate c
  pub said : IsSaidBy years width lines c

pub made : (years width : ℕ) (lines : List CertLine) (r : Reading) (entries : List (List Named)) (o : Outcome) → AreGood years width lines → IsRead lines r → (1 ≤ years) × (years ≤ 30) → (1 ≤ width) × (width ≤ 14) → length entries ≡ years → ((k : ℕ) → k < years → AreNamesOf lines k (get_or entries k [])) → claim_of years r.chosen.items r.total r.infeasible ≡ Some o →
    Makes years width lines (record { years = years; width = width; entries = entries; claim = o })
made years width lines r entries o g h ys ws n names e =
    let c : CertData = record { years = years; width = width; entries = entries; claim = o } in
    let claims = claim_cases years width lines r g h r.total r.infeasible refl refl o e in
    record {
      valid = record {
        years = ys;
        width = ws;
        each_year = n;
        rises = λ k d b. subst NamesRise (get_or_default entries k [] d b) ((names k (omega (arith, b, n))).rises (none_again years width lines g k));
        entries = λ k d b. subst (λ (xs : List Named). All (IsNamed width) xs) (get_or_default entries k [] d b) (λ i d' b'.
            let m = get_or (get_or entries k []) i d' in
            let says = (names k (omega (arith, b, n))).says m.config m.value in
            let good = come_good years width lines g (k + 1) m.config m.value (says.0 (i, b', get_or_default (get_or entries k []) i m d' b')) in
            record { width = good.1; value = good.2 });
        claim = claims.claim;
      };
      said = record {
        form = g.form;
        complete = claims.complete;
        same_years = refl;
        same_width = refl;
        entries = λ k config value. (λ s. to c k config value s, λ s. back k config value s);
        claim = claims.claimed;
      };
    }
  where
    to : (c : CertData) (k : ℕ) (config : List ℕ) (value : Option ℕ) → Contains (get_or entries k []) (record { config = config; value = value }) → Contains lines (Come (k + 1) config value)
    to c k config value s = ⊎_elim
        (λ below. ((names k below).says config value).0 s)
        (λ past. absurd (empty s (ap length (get_or_past entries k [] (omega (arith, past, n))))))
        (cases_lt k years)
      where
        empty : Contains (get_or entries k []) (record { config = config; value = value }) → length (get_or entries k []) ≡ 0 → ⊥
        empty (i, b, is) z = omega (arith, b, z)

    back : (k : ℕ) (config : List ℕ) (value : Option ℕ) → Contains lines (Come (k + 1) config value) → Contains (get_or entries k []) (record { config = config; value = value })
    back k config value s = ((names k (omega (arith, (come_good years width lines g (k + 1) config value s).0))).says config value).1 s
