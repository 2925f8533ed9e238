-- A case has one solution.
use Rattle.std.proofs.Common.{◌≡◌, ℕ, List, Contains, arith, subst, sym}
use Rattle.cost_terms.specs.Table.{Table}
use Rattle.deck_check.specs.Readings.{Says}
use Rattle.plan_program.specs.Chosen.{IsSolution}
use Rattle.plan_program.specs.declared.solved.Solved.{Solved}
use Rattle.plan_program.proofs.OneSolution.{one_solution}
use Rattle.sim_engine.specs.Engine.{Run}
use Rattle.tunnel_configs.specs.Listed.{ListingsAreOne}
use Rattle.case_study.specs.Case.{IsTableOf}
use Rattle.case_study.specs.Listings.{deck_tunnels}
use Rattle.wasp_session.specs.Oneness.{AreSameKeys}
use Rattle.wasp_session.specs.Solving.{AreCaseKeys, SolvedCasesAreOne}
use Rattle.wasp_session.proofs.OnenessKeys.{no_longer}
use Rattle.case_study.proofs.OnenessReports.{table_one}

solved_one : ListingsAreOne → (d : Says) (c : ℕ) (one other : Table) (s t : Solved) → IsTableOf d c (deck_tunnels d c) one → IsTableOf d c (deck_tunnels d c) other → IsSolution one s → IsSolution other t → s ≡ t
solved_one listings d c one other s t a b u v =
    let same : one ≡ other = table_one listings d c (deck_tunnels d c) one other a b in
    one_solution one s t u (subst (λ (z : Table). IsSolution z t) (sym same) v)

keys_one : (d : Says) (c : ℕ) (xs ys : List Run) → AreCaseKeys d c xs → AreCaseKeys d c ys → AreSameKeys xs ys
keys_one d c xs ys a b =
    let to : (key : Run) → Contains xs key → Contains ys key = λ key has. (b.each key).1 ((a.each key).0 has) in
    let back : (key : Run) → Contains ys key → Contains xs key = λ key has. (a.each key).1 ((b.each key).0 has) in
    record {
      many = omega (arith, no_longer xs ys a.once to, no_longer ys xs b.once back);
      each = λ key. (to key, back key);
    }

pub one_case : ListingsAreOne → SolvedCasesAreOne
one_case listings = record { solved = solved_one listings; keys = keys_one }
