-- The lines of a case's report, each as it is read.
use Rattle.std.proofs.Common.{◌==◌, ℕ, ◌+◌, ◌^◌, ◌<◌, ◌≤◌, Bool, true, false, cond, List, [], ◌∷◌, ◌++◌, length, map, take, All, Option, None, Some, IfSome, refl, arith}
use Rattle.std.specs.Prelude.{codes, decimal}
use Rattle.std.specs.List.{enumerate_from, flat_map}
use Rattle.std.proofs.lemmas.List.{length-append, length-take}
use Rattle.std.proofs.lemmas.List.Elements.{All-head, All-tail, All-take, All-weaker}
use Rattle.deck_lines.specs.declared.line.CertLine.{CertLine}
use Rattle.deck_lines.specs.declared.line.CertLine.TheVariants as certs
use Rattle.deck_lines.specs.declared.line_word.LineWord.TheVariants as words
use Rattle.report_text.specs.declared.data.Generation.{Generation}
use Rattle.report_text.specs.declared.data.PlanYear.{PlanYear}
use Rattle.report_text.specs.Lines.{line}
use Rattle.report_text.specs.ReadBack.{IsPrintableGeneration, IsPrintableYear}
use Rattle.report_text.specs.Marks.{marks}
use Rattle.report_text.specs.Report.{chosen_line, come_line, cost_word, edge_line, gen_line, gen_lines, id_word, risk_line, short_line, shorts, terms_line, year_text}
use Rattle.report_text.proofs.CertLines.{AreLow, chosen_read, come_read, infeasible_read, total_read}
use Rattle.report_text.proofs.Parts.{IsPart, part_append, part_cert, part_none, part_skip, part_skips}
use Rattle.report_text.proofs.Printed.{AreShown-append, IsShown, digits_shown}
use Rattle.report_text.proofs.ShownWords.{begins_case, begins_chosen, begins_come, begins_edge, begins_gen, begins_infeasible, begins_risk, begins_short, begins_terms, begins_total, counts_shown, few_numbers, id_shown, marks_shown, name_shown, numbers_shown}

-- the counts of a configuration of a report
pub record IsConfig (counts : List ℕ) : Type 0 where
  pub some : 1 ≤ length counts
  pub few : length counts ≤ 14
  pub low : AreLow counts

year_shown : (t : ℕ) → t ≤ 30 → IsShown (decimal t)
year_shown t high = digits_shown t (omega (arith, high))

chosen_part : (t : ℕ) (counts : List ℕ) → 1 ≤ t → t ≤ 30 → IsConfig counts → IsPart (chosen_line t counts) (certs.Chosen t counts ∷ [])
chosen_part t counts low high c =
    part_cert words.Chosen (codes "CHOSEN") (decimal t ∷ map decimal counts) (certs.Chosen t counts) begins_chosen (year_shown t high, counts_shown counts c.low) (omega (arith, few_numbers counts, c.few))
    (λ end column. chosen_read end column t counts low high c.low c.some c.few)

cost_shown : (value : Option ℕ) → IfSome value (λ v. v < 10 ^ 18) → IsShown (cost_word value)
cost_shown None h = record { plain = record { some = omega arith; bytes = refl }; short = omega arith }
cost_shown (Some cost) h = digits_shown cost (omega (arith, h))

pub come_part : (t : ℕ) (counts : List ℕ) (value : Option ℕ) → 1 ≤ t → t ≤ 30 → IsConfig counts → IfSome value (λ v. v < 10 ^ 18) → IsPart (come_line t counts value) (certs.Come t counts value ∷ [])
come_part t counts value low high c v =
    let last = cost_word value in
    part_cert words.Come (codes "COME") (decimal t ∷ map decimal counts ++ last ∷ []) (certs.Come t counts value) begins_come
    (year_shown t high, AreShown-append (map decimal counts) (last ∷ []) (counts_shown counts c.low) (cost_shown value v, tt))
    (omega (arith, few_numbers counts, c.few, length-append (map decimal counts) (last ∷ [])))
    (λ end column. come_read end column t counts value low high c.low c.some c.few v)

pub total_part : (total : ℕ) → total < 10 ^ 18 → IsPart (line (codes "TOTAL") (decimal total ∷ [])) (certs.Total total ∷ [])
total_part total h =
    part_cert words.Total (codes "TOTAL") (decimal total ∷ []) (certs.Total total) begins_total (digits_shown total (omega (arith, h)), tt) (omega arith) (λ end column. total_read end column total h)

pub infeasible_part : (t : ℕ) → 1 ≤ t → t ≤ 30 → IsPart (line (codes "INFEASIBLE") (decimal t ∷ [])) (certs.Infeasible t ∷ [])
infeasible_part t low high =
    part_cert words.Infeasible (codes "INFEASIBLE") (decimal t ∷ []) (certs.Infeasible t) begins_infeasible (year_shown t high, tt) (omega arith) (λ end column. infeasible_read end column t low high)

pub case_part : (c : ℕ) → c < 2 ^ 64 → IsPart (line (codes "CASE") (decimal c ∷ [])) []
case_part c h = part_skip words.Case (codes "CASE") (decimal c ∷ []) begins_case (digits_shown c h, tt) (omega arith) (λ end column. refl)

-- ---- a year

edge_part : (t : ℕ) (most : List ℕ) (y : PlanYear) → t ≤ 30 → IsConfig y.config → IsPart (edge_line t most y.tunnel y.config) []
edge_part t most y high c =
    part_skip words.Edge (codes "EDGE") (decimal t ∷ marks most y.tunnel y.config ∷ []) begins_edge (year_shown t high, (marks_shown most y.tunnel y.config c.some c.few, tt)) (omega arith) (λ end column. refl)

terms_part : (t : ℕ) (y : PlanYear) → t ≤ 30 → IsPrintableYear y → IsPart (terms_line t y.built y.ran) []
terms_part t y high p =
    let built = y.built.build ∷ y.built.salvage ∷ y.built.stock ∷ [] in
    let ran = y.ran.fuel ∷ y.ran.upkeep ∷ y.ran.unserved ∷ [] in
    part_skip words.Terms (codes "TERMS") (decimal t ∷ map decimal (built ++ ran)) begins_terms (year_shown t high, AreShown-append (map decimal built) (map decimal ran) (numbers_shown built p.built) (numbers_shown ran p.ran)) (omega arith) (λ end column. refl)

risk_part : (t : ℕ) (y : PlanYear) → t ≤ 30 → IsPrintableYear y → IsPart (risk_line t y.row) []
risk_part t y high p =
    let risk = y.row.worst ∷ y.row.average ∷ y.row.unserved ∷ [] in
    part_skip words.Risk (codes "RISK") (decimal t ∷ map decimal risk) begins_risk (year_shown t high, numbers_shown risk p.risk) (omega arith) (λ end column. refl)

short_part : (conditions t : ℕ) (y : PlanYear) → t ≤ 30 → IsPrintableYear y → IsPart (short_line conditions t y.row) []
short_part conditions t y high p = printed (conditions == 0)
  where
    some : IsPart (line (codes "SHORT") (decimal t ∷ map decimal (take conditions (shorts y.row)))) []
    some =
        let ns = take conditions (shorts y.row) in
        part_skip words.Short (codes "SHORT") (decimal t ∷ map decimal ns) begins_short (year_shown t high, numbers_shown ns (All-take (λ (n : ℕ). n < 2 ^ 64) conditions (shorts y.row) p.short))
        (omega (arith, few_numbers ns, length-take conditions (shorts y.row))) (λ end column. refl)

    printed : (none : Bool) → IsPart (cond none [] (line (codes "SHORT") (decimal t ∷ map decimal (take conditions (shorts y.row))))) []
    printed true = part_none
    printed false = some

gen_part : (t : ℕ) (g : Generation) → t ≤ 30 → IsPrintableGeneration g → IsPart (gen_line t g) []
gen_part t g high p = part_skip words.Gen (codes "GEN") (decimal t ∷ id_word g.id ∷ g.name ∷ decimal g.energy ∷ []) begins_gen (year_shown t high, (id_shown g.id p.id, (name_shown g.name p.name, (digits_shown g.energy p.energy, tt)))) (omega arith) (λ end column. refl)

gens_part : (t : ℕ) (gs : List Generation) → t ≤ 30 → All IsPrintableGeneration gs → IsPart (gen_lines t gs) []
gens_part t gs high h = part_skips (gen_line t) gs (All-weaker IsPrintableGeneration (λ (g : Generation). IsPart (gen_line t g) []) (λ g p. gen_part t g high p) gs h)

year_part : (conditions : ℕ) (most : List ℕ) (t : ℕ) (y : PlanYear) → 1 ≤ t → t ≤ 30 → IsConfig y.config → IsPrintableYear y → IsPart (year_text conditions most t y) (certs.Chosen t y.config ∷ [])
year_part conditions most t y low high c p =
    let l : List CertLine = certs.Chosen t y.config ∷ [] in
    part_append _ _ l [] (part_append _ _ l [] (part_append _ _ l [] (part_append _ _ l [] (part_append _ _ l [] (chosen_part t y.config low high c) (edge_part t most y high c)) (terms_part t y high p)) (risk_part t y high p)) (short_part conditions t y high p)) (gens_part t y.generations high p.generations)

-- ---- all years

abbrev pub chosen_lines : ℕ → List PlanYear → List CertLine
chosen_lines t [] = []
chosen_lines t (y ∷ ys) = certs.Chosen t y.config ∷ chosen_lines (t + 1) ys

pub years_part : (conditions : ℕ) (most : List ℕ) (t : ℕ) (ys : List PlanYear) → 1 ≤ t → t + length ys ≤ 31 → All (λ y. IsConfig y.config) ys → All IsPrintableYear ys
    → IsPart (flat_map (λ p. year_text conditions most p.0 p.1) (enumerate_from t ys)) (chosen_lines t ys)
years_part conditions most t [] low high c p = part_none
years_part conditions most t (y ∷ ys) low high c p =
    part_append _ _ (certs.Chosen t y.config ∷ []) (chosen_lines (t + 1) ys)
    (year_part conditions most t y low (omega (arith, high)) (All-head (λ (z : PlanYear). IsConfig z.config) y ys c) (All-head IsPrintableYear y ys p))
    (years_part conditions most (t + 1) ys (omega (arith, low)) (omega (arith, high)) (All-tail (λ (z : PlanYear). IsConfig z.config) y ys c) (All-tail IsPrintableYear y ys p))
