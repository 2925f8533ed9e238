-- Generations one by one, and those of a year.
use Rattle.std.proofs.Common.{◌≡◌, ◌∙◌, ap, sym, ℕ, zero, suc, ◌+◌, List, [], ◌∷◌, ◌++◌, Option, length, add-one, arith}
use Rattle.std.specs.List.{filter_map, range_with_len}
use Rattle.std.proofs.lemmas.List.Elements.{filter_map-append}
use Rattle.checked_deck.specs.Systems.{system}
use Rattle.deck_check.specs.Readings.{Says}
use Rattle.report_text.specs.declared.data.Generation.{Generation}
use Rattle.sim_engine.specs.Generation.{generations}
use Rattle.sim_engine.proofs.GenerationSteps.{length-generations}
use Rattle.case_study.specs.Case.{generation_at, generations_of}
use Rattle.year_system.specs.System.{System}

range_more : (a n j : ℕ) → a + n ≡ j → range_with_len a (suc n) ≡ range_with_len a n ++ j ∷ []
range_more a zero j at =
    let same : a ≡ j = omega (arith, at) in
    ap (λ (x : ℕ). x ∷ []) same
range_more a (suc n) j at =
    let next : (a + 1) + n ≡ j = omega (arith, at) in
    ap (λ (t : List ℕ). a ∷ t) (range_more (a + 1) n j next)

-- one generation more
pub generation_step : (h : ℕ → Option Generation) (k : ℕ) (before after : List Generation) → before ≡ filter_map h (range_with_len 0 k) → after ≡ before ++ filter_map h (k ∷ [])
    → after ≡ filter_map h (range_with_len 0 (k + 1))
generation_step h k before after so_far more =
    let at : 0 + k ≡ k = omega arith in
    let next : range_with_len 0 (k + 1) ≡ range_with_len 0 k ++ k ∷ [] = ap (range_with_len 0) (add-one k) ∙ range_more 0 k k at in
    more ∙ ap (λ (gs : List Generation). gs ++ filter_map h (k ∷ [])) so_far ∙ sym (filter_map-append h (range_with_len 0 k) (k ∷ [])) ∙ ap (filter_map h) (sym next)

-- those of a year
pub generations_are : (d : Says) (t : ℕ) (counts : List ℕ) (s : System) (energies : List ℕ) (gs : List Generation) → s ≡ system d t → energies ≡ generations s counts
    → gs ≡ filter_map (generation_at d s counts energies) (range_with_len 0 (length energies)) → gs ≡ generations_of d t counts
generations_are d t counts s energies gs same are is =
    let n : length energies ≡ length s.existing + length s.thermal + length s.groups = ap length are ∙ length-generations s counts in
    is ∙ ap (λ (k : ℕ). filter_map (generation_at d s counts energies) (range_with_len 0 k)) n
    ∙ ap (λ (es : List ℕ). filter_map (generation_at d s counts es) (range_with_len 0 (length s.existing + length s.thermal + length s.groups))) are
    ∙ ap (λ (z : System). filter_map (generation_at d z counts (generations z counts)) (range_with_len 0 (length z.existing + length z.thermal + length z.groups))) same
