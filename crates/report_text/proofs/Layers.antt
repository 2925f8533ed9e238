-- What a table's layers and its solution are to a report: few years, few counts, and a configuration for each year.
use Rattle.std.proofs.Common.{◌≡◌, ℕ, ◌<◌, ◌≤◌, List, [], ◌∷◌, length, map, All, subst, arith}
use Rattle.std.proofs.lemmas.List.Elements.{All-append, All-from_get_or, All-head, All-map, All-tail, All-weaker}
use Rattle.cost_terms.specs.CostData.{Fits, IsEconomy, IsGroupCost, IsThermalCost, greatest}
use Rattle.cost_terms.specs.Table.{IsEntry, IsTable, Table}
use Rattle.cost_terms.specs.declared.entries.Scored.{Scored}
use Rattle.cost_terms.specs.declared.prices.CostData.{CostData}
use Rattle.cost_terms.specs.declared.prices.GroupCost.{GroupCost}
use Rattle.cost_terms.specs.declared.prices.ThermalCost.{ThermalCost}
use Rattle.plan_program.specs.Plans.{IsAdmissible, configs, entry_at, layer_at, no_entry}
use Rattle.plan_program.proofs.Forward.{entry_is, place_of}
use Rattle.plan_certificate.proofs.Aligned.{layer_within}
use Rattle.cost_terms.proofs.Steps.{width_is}
use Rattle.report_text.proofs.CertLines.{AreLow}
use Rattle.report_text.proofs.YearParts.{IsConfig}

-- ---- counts

pub width_some : (c : CostData) → IsEconomy c → 1 ≤ length (greatest c)
width_some c v = omega (arith, width_is c, v.candidate)

pub width_few : (c : CostData) → IsEconomy c → length (greatest c) ≤ 14
width_few c v = omega (arith, width_is c, v.thermal.0, v.groups.0)

greatest_low : (c : CostData) → IsEconomy c → All (λ n. n ≤ 128) (greatest c)
greatest_low c v =
    let low : ℕ → Type 0 = λ n. n ≤ 128 in
    All-append low (map (λ (p : ThermalCost). p.greatest) c.thermal) (map (λ (g : GroupCost). g.greatest) c.groups)
    (All-map low (λ (p : ThermalCost). p.greatest) c.thermal (All-weaker IsThermalCost (λ (p : ThermalCost). p.greatest ≤ 128) (λ p h. h.greatest) c.thermal v.thermal.1))
    (All-map low (λ (g : GroupCost). g.greatest) c.groups (All-weaker IsGroupCost (λ (g : GroupCost). g.greatest ≤ 128) (λ g h. omega (arith, h.greatest)) c.groups v.groups.1))

low_counts : (ns : List ℕ) → All (λ n. n ≤ 128) ns → AreLow ns
low_counts [] h = tt
low_counts (n ∷ ns) h = (All-head (λ (m : ℕ). m ≤ 128) n ns h, low_counts ns (All-tail (λ (m : ℕ). m ≤ 128) n ns h))

pub fits_low : (c : CostData) (counts : List ℕ) → IsEconomy c → Fits c counts → All (λ n. n ≤ 128) counts
fits_low c counts v f = All-from_get_or (λ (n : ℕ). n ≤ 128) counts 0 (λ k b. omega (arith, f.most k b, greatest_low c v k 0 (omega (arith, b, f.width))))

pub fits_config : (c : CostData) (counts : List ℕ) → IsEconomy c → Fits c counts → IsConfig counts
fits_config c counts v f = record {
  some = omega (arith, f.width, width_some c v);
  few = omega (arith, f.width, width_few c v);
  low = low_counts counts (fits_low c counts v f);
}

-- ---- entries

pub entry_config : (t : Table) → IsTable t → (k i : ℕ) → k < length t.layers → i < length (layer_at t k) → IsConfig (entry_at (layer_at t k) i).config
entry_config t v k i h b = fits_config t.economy (entry_at (layer_at t k) i).config v.economy (entry_is t v k i h b).fits

pub entry_width : (t : Table) → IsTable t → (k i : ℕ) → k < length t.layers → i < length (layer_at t k) → length (entry_at (layer_at t k) i).config ≡ length (greatest t.economy)
entry_width t v k i h b = (entry_is t v k i h b).fits.width

pub layers_few : (t : Table) → IsTable t → length t.layers ≤ 30
layers_few t v = omega (arith, v.years, v.economy.years)

pub layers_some : (t : Table) → IsTable t → 1 ≤ length t.layers
layers_some t v = omega (arith, v.years, v.economy.years)

-- ---- plans

-- each of a plan is an entry
pub plan_entries : (t : Table) → IsTable t → (plan : List Scored) → IsAdmissible t plan → All (IsEntry t.economy) plan
plan_entries t v plan a = All-from_get_or (IsEntry t.economy) plan no_entry entry
  where
    entry : (k : ℕ) → k < length plan → IsEntry t.economy (entry_at plan k)
    entry k b =
        let e = entry_at plan k in
        let c = a.accepted k b in
        let p = place_of (layer_at t k) e c in
        subst (IsEntry t.economy) p.is (entry_is t v k p.place (layer_within t k e c) p.within)

pub plan_fits : (t : Table) → IsTable t → (plan : List Scored) → IsAdmissible t plan → All (Fits t.economy) (configs plan)
plan_fits t v plan a =
    All-map (Fits t.economy) (λ (e : Scored). e.config) plan (All-weaker (IsEntry t.economy) (λ (e : Scored). Fits t.economy e.config) (λ e h. h.fits) plan (plan_entries t v plan a))
