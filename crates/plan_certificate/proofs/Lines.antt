-- What lines say, with one line more.
use Rattle.std.proofs.Common.{◌≡◌, ◌≢◌, ℕ, zero, suc, ◌+◌, ◌-◌, ◌<◌, ◌≤◌, List, [], ◌∷◌, ◌++◌, length, get_or, map, take, Contains, Option, Some, None, sym, ap, ◌∙◌, arith, refl, subst, ⊎_elim, inl, inr, ◌⊎◌}
use Rattle.std.proofs.Math.ListN.{get_or-append}
use Rattle.std.proofs.Math.Seq.{get_or-append_seam, take-suc}
use Rattle.std.proofs.lemmas.Bool.{cases_eq, cases_lt}
use Rattle.std.proofs.lemmas.Grind.{flat_map-append}
use Rattle.std.proofs.lemmas.List.{get_or_default, length-append}
use Rattle.deck_lines.specs.declared.line.CertLine.{CertLine}
use Rattle.deck_lines.specs.declared.line.CertLine.TheVariants.{Come, Chosen, Total, Infeasible}
use Rattle.wasp_fixed.proofs.Lists.{contains_tail, first_or_rest}
use Rattle.plan_certificate.specs.Reading.{chosen_by, chosen_of, line_at, no_line}
use Rattle.plan_certificate.proofs.Aligned.{contains_head, none_in_none}

pub contains_front : {X : Type 0} (xs : List X) (x z : X) → Contains xs z → Contains (xs ++ x ∷ []) z
contains_front xs x z (k, b, e) = (k, omega (arith, b, length-append xs (x ∷ [])), get_or-append xs (x ∷ []) z k b ∙ e)

pub contains_end : {X : Type 0} (xs : List X) (x : X) → Contains (xs ++ x ∷ []) x
contains_end xs x = (length xs, omega (arith, length-append xs (x ∷ [])), get_or-append_seam xs x [] x)

pub contains_cases : {X : Type 0} (xs : List X) (x z : X) → Contains (xs ++ x ∷ []) z → Contains xs z ⊎ (x ≡ z)
contains_cases xs x z (k, b, e) =
    ⊎_elim
    (λ below. inl (k, below, sym (get_or-append xs (x ∷ []) z k below) ∙ e))
    (λ above.
    let same : length xs ≡ k = omega (arith, above, b, length-append xs (x ∷ [])) in
    inr (sym (get_or-append_seam xs x [] z) ∙ (ap (λ n. get_or (xs ++ x ∷ []) n z) same ∙ e)))
    (cases_lt k (length xs))

pub take_more : (lines : List CertLine) (k : ℕ) → k < length lines → take (k + 1) lines ≡ take k lines ++ line_at lines k ∷ []
take_more lines k b = let next : k + 1 ≡ suc k = omega arith in ap (λ n. take n lines) next ∙ take-suc lines k no_line b

pub line_in : (lines : List CertLine) (k : ℕ) → k < length lines → Contains lines (line_at lines k)
line_in lines k b = (k, b, get_or_default lines k (line_at lines k) no_line b)

-- ---- kinds of lines

abbrev pub kind : CertLine → ℕ
kind (Come year config value) = 0
kind (Chosen year config) = 1
kind (Total total) = 2
kind (Infeasible year) = 3

abbrev pub year_of : CertLine → ℕ
year_of (Come year config value) = year
year_of (Chosen year config) = year
year_of (Total total) = 1
year_of (Infeasible year) = year

abbrev pub config_of : CertLine → List ℕ
config_of (Come year config value) = config
config_of (Chosen year config) = config
config_of (Total total) = []
config_of (Infeasible year) = []

abbrev pub value_of : CertLine → Option ℕ
value_of (Come year config value) = value
value_of (Chosen year config) = None
value_of (Total total) = None
value_of (Infeasible year) = None

-- ---- CHOSEN lines

pub chosen_add : (xs : List CertLine) (x : CertLine) → chosen_of (xs ++ x ∷ []) ≡ chosen_of xs ++ chosen_by x
chosen_add xs (Come year config value) = flat_map-append chosen_by xs (Come year config value ∷ [])
chosen_add xs (Chosen year config) = flat_map-append chosen_by xs (Chosen year config ∷ [])
chosen_add xs (Total total) = flat_map-append chosen_by xs (Total total ∷ [])
chosen_add xs (Infeasible year) = flat_map-append chosen_by xs (Infeasible year ∷ [])

pub chosen_line : (xs : List CertLine) (year : ℕ) (config : List ℕ) → Contains (chosen_of xs) (year, config) → Contains xs (Chosen year config)
chosen_line [] year config c = absurd (none_in_none (year, config) c)
chosen_line (Come y g v ∷ xs) year config c = contains_tail (Come y g v) xs (Chosen year config) (chosen_line xs year config c)
chosen_line (Total t ∷ xs) year config c = contains_tail (Total t) xs (Chosen year config) (chosen_line xs year config c)
chosen_line (Infeasible y ∷ xs) year config c = contains_tail (Infeasible y) xs (Chosen year config) (chosen_line xs year config c)
chosen_line (Chosen y g ∷ xs) year config c =
    ⊎_elim
    (λ (e : (y, g) ≡ (year, config)). (0, omega arith, λ i. Chosen ((e i).0) ((e i).1)))
    (λ later. contains_tail (Chosen y g) xs (Chosen year config) (chosen_line xs year config later))
    (first_or_rest (y, g) (chosen_of xs) (year, config) c)

pub line_chosen : (xs : List CertLine) (year : ℕ) (config : List ℕ) → Contains xs (Chosen year config) → Contains (chosen_of xs) (year, config)
line_chosen [] year config c = absurd (none_in_none (Chosen year config) c)
line_chosen (Come y g v ∷ xs) year config c = ⊎_elim (λ e. absurd (omega (arith, ap kind e))) (λ later. line_chosen xs year config later) (first_or_rest (Come y g v) xs (Chosen year config) c)
line_chosen (Total t ∷ xs) year config c = ⊎_elim (λ e. absurd (omega (arith, ap kind e))) (λ later. line_chosen xs year config later) (first_or_rest (Total t) xs (Chosen year config) c)
line_chosen (Infeasible y ∷ xs) year config c = ⊎_elim (λ e. absurd (omega (arith, ap kind e))) (λ later. line_chosen xs year config later) (first_or_rest (Infeasible y) xs (Chosen year config) c)
line_chosen (Chosen y g ∷ xs) year config c =
    ⊎_elim
    (λ e. (0, omega arith, λ i. (year_of (e i), config_of (e i))))
    (λ later. contains_tail (y, g) (chosen_of xs) (year, config) (line_chosen xs year config later))
    (first_or_rest (Chosen y g) xs (Chosen year config) c)
