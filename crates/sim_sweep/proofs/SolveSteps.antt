-- Cases that wait, and what solves them.
use Rattle.std.proofs.Common.{◌≡◌, ℕ, suc, ◌<◌, List, [], ◌∷◌, length, map, get_or, ap, sym, subst, refl, ◌∙◌, arith}
use Rattle.cost_terms.specs.Table.{Table}
use Rattle.sim_sweep.specs.Cases.{Done}
use Rattle.sim_sweep.specs.Solves.{Solves}
use Rattle.sim_sweep.specs.declared.solving.Solving.{Solving}
use Rattle.sim_sweep.specs.declared.solving.Solving.TheVariants.{Solved, Waits}

abbrev Each : List Solving → List Solving → Type 0
Each olds news = (k : ℕ) (x : Solving) → k < length olds → Solves (get_or olds k x) (get_or news k x)

-- each solved case has the table that waited at its place
same_tables : (tables : List Table) (dones : List Done) → length (map (λ (d : Done). Solved d) dones) ≡ length (map (λ (t : Table). Waits t) tables)
    → Each (map (λ (t : Table). Waits t) tables) (map (λ (d : Done). Solved d) dones) → map (λ (d : Done). d.table) dones ≡ tables
same_tables [] [] len each = refl
same_tables [] (d ∷ dones) len each = absurd (omega (arith, len))
same_tables (t ∷ tables) [] len each = absurd (omega (arith, len))
same_tables (t ∷ tables) (d ∷ dones) len each =
    let first : d.table ≡ t = each 0 (Waits t) (omega arith) in
    let rest = same_tables tables dones (omega (arith, len)) (λ k x lt. each (suc k) x (omega (arith, lt))) in
    λ i. first i ∷ rest i

pub solved_tables : (tables : List Table) (dones : List Done) (olds news : List Solving) → olds ≡ map (λ (t : Table). Waits t) tables → news ≡ map (λ (d : Done). Solved d) dones → length news ≡ length olds
    → Each olds news → map (λ (d : Done). d.table) dones ≡ tables
solved_tables tables dones olds news wait done len each =
    same_tables tables dones (sym (ap length done) ∙ len ∙ ap length wait)
    (subst (λ (os : List Solving). Each os (map (λ (d : Done). Solved d) dones)) wait (subst (λ (ns : List Solving). Each olds ns) done each))
