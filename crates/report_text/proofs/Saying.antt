-- The certificate of a solution, entry by entry.
use Rattle.std.proofs.Common.{◌≡◌, ℕ, ◌+◌, ◌^◌, ◌<◌, List, [], length, get_or, map, All, Contains, Option, None, Some, IfSome, refl, sym, ap, subst, ◌∙◌, arith, ⊎_elim}
use Rattle.std.specs.List.{range_with_len}
use Rattle.std.proofs.lemmas.Bool.{cases_lt}
use Rattle.std.proofs.lemmas.List.{get_or_past}
use Rattle.std.proofs.lemmas.List.Elements.{All-from_get_or, All-map}
use Rattle.std.proofs.lemmas.List.FromFn.{get_or-map-range_with_len, get_or-range_with_len, length-map-range_with_len, length-range_with_len}
use Rattle.cost_terms.specs.CostData.{greatest}
use Rattle.cost_terms.specs.Table.{IsTable, Table}
use Rattle.plan_program.specs.CostToCome.{AreSmall, come_at}
use Rattle.plan_program.specs.Plans.{entry_at, layer_at}
use Rattle.plan_program.specs.declared.solved.Solved.{Solved}
use Rattle.plan_certificate.specs.Certificate.{CertData, IsCertificate, IsClaim, IsNamed, NamesRise, Says, named_in}
use Rattle.plan_certificate.specs.Truth.{IsOfSolution}
use Rattle.plan_certificate.specs.declared.certificate.Named.{Named}
use Rattle.plan_certificate.proofs.Aligned.{layer_rises}
use Rattle.report_text.proofs.Layers.{entry_width, layers_few, layers_some, width_few, width_some}

-- an entry of a year, with its cost-to-come
abbrev pub name_of : Table → List (List (Option ℕ)) → ℕ → ℕ → Named
name_of t come k i = record { config = (entry_at (layer_at t k) i).config; value = come_at come k i }

abbrev pub names_of : Table → List (List (Option ℕ)) → ℕ → List Named
names_of t come k = map (name_of t come k) (range_with_len 0 (length (layer_at t k)))

-- entries by the costs-to-come, and the outcome for the claim
abbrev pub said_of : Table → Solved → CertData
said_of t s = record { years = length t.layers; width = length (greatest t.economy); entries = map (names_of t s.come) (range_with_len 0 (length t.layers)); claim = s.outcome }

names_at : (t : Table) (s : Solved) (k : ℕ) → k < length t.layers → named_in (said_of t s) k ≡ names_of t s.come k
names_at t s k h = get_or-map-range_with_len (names_of t s.come) 0 (length t.layers) k k [] h (omega arith)

name_at : (t : Table) (come : List (List (Option ℕ))) (k i : ℕ) (d : Named) → i < length (layer_at t k) → get_or (names_of t come k) i d ≡ name_of t come k i
name_at t come k i d b = get_or-map-range_with_len (name_of t come k) 0 (length (layer_at t k)) i i d b (omega arith)

names_long : (t : Table) (come : List (List (Option ℕ))) (k : ℕ) → length (names_of t come k) ≡ length (layer_at t k)
names_long t come k = length-map-range_with_len (name_of t come k) 0 (length (layer_at t k))

years_long : (t : Table) (s : Solved) → length (said_of t s).entries ≡ length t.layers
years_long t s = length-map-range_with_len (names_of t s.come) 0 (length t.layers)

pub says_each : (t : Table) (s : Solved) (k i : ℕ) → k < length t.layers → i < length (layer_at t k) → Says (said_of t s) k (entry_at (layer_at t k) i).config (come_at s.come k i)
says_each t s k i h b =
    let x = name_of t s.come k i in
    subst (λ (names : List Named). Contains names x) (sym (names_at t s k h)) (i, omega (arith, b, names_long t s.come k), name_at t s.come k i x b)

-- where the certificate says something
pub says_only : (t : Table) (s : Solved) (k : ℕ) (config : List ℕ) (value : Option ℕ) → Says (said_of t s) k config value
    → (i : ℕ) × (k < length t.layers) × (i < length (layer_at t k)) × ((entry_at (layer_at t k) i).config ≡ config) × (come_at s.come k i ≡ value)
says_only t s k config value said =
    ⊎_elim
    (λ within. here within (subst (λ (names : List Named). Contains names x) (names_at t s k within) said))
    (λ past. absurd (omega (arith, said.1, ap length (get_or_past (said_of t s).entries k [] (omega (arith, past, years_long t s))))))
    (cases_lt k (length t.layers))
  where
    x : Named
    x = record { config = config; value = value }

    here : k < length t.layers → Contains (names_of t s.come k) x → (i : ℕ) × (k < length t.layers) × (i < length (layer_at t k)) × ((entry_at (layer_at t k) i).config ≡ config) × (come_at s.come k i ≡ value)
    here within (i, b, e) =
        let c : i < length (layer_at t k) = omega (arith, b, names_long t s.come k) in
        let same : name_of t s.come k i ≡ x = sym (name_at t s.come k i x c) ∙ e in
        (i, within, c, ap (λ (n : Named). n.config) same, ap (λ (n : Named). n.value) same)

pub said_solution : (t : Table) (s : Solved) → IsOfSolution t s (said_of t s)
said_solution t s = record { years = refl; each = says_each t s; only = says_only t s; claim = refl }

-- ---- its form

range_all : (P : ℕ → Type 0) (n : ℕ) → ((k : ℕ) → k < n → P k) → All P (range_with_len 0 n)
range_all P n h =
    All-from_get_or P (range_with_len 0 n) 0 (λ k b.
    let c : k < n = omega (arith, b, length-range_with_len 0 n) in
    let at : get_or (range_with_len 0 n) k 0 ≡ 0 + k = get_or-range_with_len 0 n k 0 c in
    subst P (sym at) (h (0 + k) (omega (arith, c))))

names_rise : (t : Table) → IsTable t → (come : List (List (Option ℕ))) (k : ℕ) → NamesRise (names_of t come k)
names_rise t v come k i j d less b =
    let c : j < length (layer_at t k) = omega (arith, b, names_long t come k) in
    rw (name_at t come k i d (omega (arith, less, c)), name_at t come k j d c) (layer_rises t v k i j less c)

pub small_some : (o : Option ℕ) → ((cost : ℕ) → o ≡ Some cost → cost < 10 ^ 18) → IfSome o (λ v. v < 10 ^ 18)
small_some None h = tt
small_some (Some v) h = h v refl

pub said_form : (t : Table) (s : Solved) → IsTable t → AreSmall s.come → IsClaim (length t.layers) (length (greatest t.economy)) s.outcome → IsCertificate (said_of t s)
said_form t s v small claim = record {
  years = (layers_some t v, layers_few t v);
  width = (width_some t.economy v.economy, width_few t.economy v.economy);
  each_year = years_long t s;
  rises = All-map NamesRise (names_of t s.come) (range_with_len 0 (length t.layers)) (range_all (λ k. NamesRise (names_of t s.come k)) (length t.layers) (λ k h. names_rise t v s.come k));
  entries = All-map (λ (names : List Named). All (IsNamed width) names) (names_of t s.come) (range_with_len 0 (length t.layers)) (range_all (λ k. All (IsNamed width) (names_of t s.come k)) (length t.layers) (λ k h.
      All-map (IsNamed width) (name_of t s.come k) (range_with_len 0 (length (layer_at t k))) (range_all (λ i. IsNamed width (name_of t s.come k i)) (length (layer_at t k)) (λ i b.
      record { width = entry_width t v k i h b; value = small_some (come_at s.come k i) (λ cost e. small k i cost e) }))));
  claim = claim;
}
  where
    width : ℕ
    width = length (greatest t.economy)
