-- The tables of a deck's cases, in their order.
use Rattle.std.proofs.Common.{◌≡◌, subst, ℕ, ◌+◌, ◌<◌, List, [], ◌∷◌, ◌++◌, length, map, get_or, arith}
use Rattle.std.specs.List.{remove}
use Rattle.cost_terms.specs.CostData.{greatest as candidate_counts}
use Rattle.cost_terms.specs.Table.{Table}
use Rattle.deck_check.specs.Readings.{Says, greatest}
use Rattle.deck_lines.specs.Deck.{body_of}
use Rattle.deck_lines.specs.declared.statement.Statement.{Statement}
use Rattle.sim_sweep.specs.Cases.{Done}
use Rattle.case_study.specs.Case.{IsTableOf}
use Rattle.deck_tellings.specs.Inner.{AreTablesFrom, IsOwnTable}
use Rattle.case_study.specs.Listings.{Tunnels, deck_tunnels}
use Rattle.case_study.specs.Studies.{StudyIs}

-- the table of a study under the deck's own tunnels
pub own_table : (s : StudyIs) (deck : List Statement) (c : ℕ) (t : Table) → s.deck ≡ deck → s.case ≡ c → s.tunnels ≡ deck_tunnels (body_of s.deck) s.case
    → IsTableOf (body_of s.deck) s.case s.tunnels t → candidate_counts t.economy ≡ greatest (body_of s.deck) → IsOwnTable (body_of deck) c t
own_table s deck c t of_deck of_case own is width =
    let here : IsOwnTable (body_of s.deck) s.case t = record { is = subst (λ (ts : Tunnels). IsTableOf (body_of s.deck) s.case ts t) own is; width = width } in
    subst (λ (n : ℕ). IsOwnTable (body_of deck) n t) of_case (subst (λ (d : List Statement). IsOwnTable (body_of d) s.case t) of_deck here)

-- one case more
pub tables_more : (d : Says) (c : ℕ) (ts : List Table) (t : Table) → AreTablesFrom d c ts → IsOwnTable d (length ts + c) t → AreTablesFrom d c (ts ++ t ∷ [])
tables_more d c [] t are own = let here : length {A = Table} [] + c ≡ c = omega arith in (subst (λ (n : ℕ). IsOwnTable d n t) here own, tt)
tables_more d c (u ∷ ts) t are own =
    let next : length (u ∷ ts) + c ≡ length ts + (c + 1) = omega arith in
    (are.0, tables_more d (c + 1) ts t are.1 (subst (λ (n : ℕ). IsOwnTable d n t) next own))

-- the first, and those behind it
pub first_table : (d : Says) (c : ℕ) (dones : List Done) (x : Done) → 0 < length dones → AreTablesFrom d c (map (λ (done : Done). done.table) dones) → IsOwnTable d c (get_or dones 0 x).table
first_table d c [] x some are = absurd (omega (arith, some))
first_table d c (done ∷ dones) x some are = are.0

pub other_tables : (d : Says) (c : ℕ) (dones : List Done) → 0 < length dones → AreTablesFrom d c (map (λ (done : Done). done.table) dones) → AreTablesFrom d (c + 1) (map (λ (done : Done). done.table) (remove dones 0))
other_tables d c [] some are = absurd (omega (arith, some))
other_tables d c (done ∷ dones) some are = are.1
