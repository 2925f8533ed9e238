-- The first fault of a certificate's lines.
use Rattle.std.proofs.Common.{◌≡◌, ◌↔◌, ℕ, ◌+◌, ◌-◌, ◌<◌, ◌≤◌, ◌++◌, ◌∷◌, [], Bool, true, List, length, get_or, take, Result, Ok, Err, All, sym, ap, ◌∙◌, arith, refl, subst, ⊎_elim}
use Rattle.std.proofs.lemmas.Bool.{cases_eq}
use Rattle.std.proofs.lemmas.List.{take_all}
use Rattle.deck_lines.specs.Grammar.{IsCertLine}
use Rattle.deck_lines.specs.declared.line.CertLine.{CertLine}
use Rattle.deck_lines.specs.declared.line.CertLine.TheVariants.{Come, Chosen, Total, Infeasible}
use Rattle.plan_certificate.specs.Form.{Adds, IsFaultyWith, IsRead}
use Rattle.plan_certificate.specs.Gathered.{IsAgainBelow}
use Rattle.plan_certificate.specs.Reading.{AreCertLines, AreInForm, IsFaulty, IsFaultyAt, IsFirstFault, line_at, no_line}
use Rattle.plan_certificate.specs.declared.reading.CertError.{CertError}
use Rattle.plan_certificate.specs.declared.reading.CertError.TheVariants.{OutOfMemory, Form}
use Rattle.plan_certificate.specs.declared.reading.Reading.{Reading}
use Rattle.plan_certificate.proofs.Forms.{faulty_is, is_faulty, read_more}
use Rattle.plan_certificate.proofs.Lines.{take_more, year_of}

pub form_same : {R : Type 0} (n m : ℕ) → ◌≡◌ {A = Result R CertError} (Err (Form n)) (Err (Form m)) → n ≡ m
form_same {R} n m e = ap number e
  where
    number : Result R CertError → ℕ
    number (Ok r) = 0
    number (Err OutOfMemory) = 0
    number (Err (Form k)) = k

-- each line in its range has a year of at least 1
pub year_low : (lines : List CertLine) (k : ℕ) → AreCertLines lines → k < length lines → 1 ≤ year_of (line_at lines k)
year_low lines k h b = low (line_at lines k) (h k no_line b)
  where
    low : (x : CertLine) → IsCertLine x → 1 ≤ year_of x
    low (Come year config value) r = r.0
    low (Chosen year config) r = r.0
    low (Total total) r = omega arith
    low (Infeasible year) r = r.0

-- what is known before a line is looked at
pub record Looks (lines : List CertLine) (years width k : ℕ) (r : Reading) (again : Bool) (line : CertLine) : Type 0 where
  pub ranges : AreCertLines lines
  pub within : k < length lines
  pub is : line_at lines k ≡ line
  pub read : IsRead (take k lines) r
  pub form : AreInForm years width lines k
  pub marks : (again ≡ true) ↔ IsAgainBelow lines years k

pub fault_here : (lines : List CertLine) (years width k : ℕ) (r : Reading) (again : Bool) (line : CertLine) → Looks lines years width k r again line → IsFaultyWith years width r again line → (n : ℕ) → k + 1 ≡ n → IsFirstFault years width lines n
fault_here lines years width k r again line l f n e =
    let before : n - 1 ≡ k = omega (arith, e) in
    let faulty : IsFaultyAt years width lines k = subst (λ (x : CertLine). IsFaulty years width (take k lines) x) (sym l.is) (faulty_is lines k years width r again line l.is l.within l.read l.marks f) in
    record {
      some = omega (arith, e);
      within = omega (arith, e, l.within);
      faulty = subst (λ (j : ℕ). IsFaultyAt years width lines j) (sym before) faulty;
      before = subst (λ (j : ℕ). AreInForm years width lines j) (sym before) l.form;
    }

pub form_more : (lines : List CertLine) (years width k : ℕ) (r : Reading) (again : Bool) (line : CertLine) → Looks lines years width k r again line → (IsFaultyWith years width r again line → ⊥) → AreInForm years width lines (k + 1)
form_more lines years width k r again line l good j b f =
    ⊎_elim
    (λ same.
    let here : IsFaulty years width (take k lines) line = subst (λ (x : CertLine). IsFaulty years width (take k lines) x) l.is (subst (λ (i : ℕ). IsFaultyAt years width lines i) same f) in
    good (is_faulty lines k years width r again line l.is l.within (subst (λ (x : CertLine). 1 ≤ year_of x) l.is (year_low lines k l.ranges l.within)) l.read l.marks here))
    (λ other. l.form j (omega (arith, b, other)) f)
    (cases_eq j k)

pub read_next : (lines : List CertLine) (years width k : ℕ) (r s : Reading) (again : Bool) (line : CertLine) → Looks lines years width k r again line → (IsFaultyWith years width r again line → ⊥) → Adds line r s → IsRead (take (k + 1) lines) s
read_next lines years width k r s again line l good a =
    let more : take (k + 1) lines ≡ take k lines ++ line ∷ [] = take_more lines k l.within ∙ ap (λ (x : CertLine). take k lines ++ x ∷ []) l.is in
    subst (λ (xs : List CertLine). IsRead xs s) (sym more) (read_more (take k lines) line r s years width again l.read good a)
