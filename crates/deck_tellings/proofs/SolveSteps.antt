-- A case of which no year is over a limit, from its answer to its solution.
use Rattle.std.proofs.Common.{◌≡◌, ℕ, Result, Ok, Err, IfOk, List, subst, sym}
use Rattle.std.specs.Prelude.{OnErr, OnOk}
use Rattle.std.proofs.lemmas.Result.{IfOk-weaker}
use Rattle.cost_terms.specs.Table.{Table}
use Rattle.deck_check.specs.Readings.{Says}
use Rattle.deck_lines.specs.Deck.{body_of}
use Rattle.deck_lines.specs.declared.statement.Statement.{Statement}
use Rattle.report_text.specs.declared.refusals.Refusal.{Refusal}
use Rattle.sim_engine.specs.Engine.{Work}
use Rattle.sim_sweep.specs.Cases.{Done}
use Rattle.case_study.specs.Case.{IsTableOf}
use Rattle.deck_tellings.specs.Inner.{IsAnswerUnder}
use Rattle.case_study.specs.Listings.{deck_tunnels}
use Rattle.deck_tellings.specs.Solving.{DemandsCase, IsCaseLost, IsCaseWithin, IsSolvable, LearnsCase}
use Rattle.deck_tellings.specs.Memory.{MemoryIs}
use Rattle.deck_tellings.specs.declared.answer.CaseAnswer.{CaseAnswer}
use Rattle.deck_tellings.specs.declared.answer.CaseAnswer.TheVariants as answers
use Rattle.deck_tellings.proofs.LearnSteps.{lost_of}
use Rattle.deck_tellings.proofs.WhereErr.{on_err}

pub on_ok : {T E : Type 0} (r : Result T E) (P : Type 0) → P → OnOk r P
on_ok (Ok x) P p = p
on_ok (Err e) P p = tt

-- it is not answered with a year over a limit
pub never_over : (d : Says) (c : ℕ) (answer : CaseAnswer) (r : Refusal) → IsSolvable d c → answer ≡ answers.Over r → IsAnswerUnder d c (deck_tunnels d c) answer → ⊥
never_over d c answer r solvable is under = solvable.fair r (subst (λ (a : CaseAnswer). IsAnswerUnder d c (deck_tunnels d c) a) is under)

-- the table that is answered is that of the solution
pub solved_table : {E : Type 0} (d : Says) (c : ℕ) (answer : CaseAnswer) (table : Table) (r : Result Done E) → answer ≡ answers.Table table → IsAnswerUnder d c (deck_tunnels d c) answer → IfOk r (λ done. done.table ≡ table)
    → IfOk r (λ done. IsTableOf d c (deck_tunnels d c) done.table)
solved_table d c answer table r is under same =
    let has = subst (λ (a : CaseAnswer). IsAnswerUnder d c (deck_tunnels d c) a) is under in
    IfOk-weaker r _ _ (λ done e. subst (λ (t : Table). IsTableOf d c (deck_tunnels d c) t) (sym e) has.is) same

-- memory was wanting for the solution
pub lost_behind : {X T E : Type 0} (d : Says) (c : ℕ) (r : Result T E) (m n : MemoryIs) (work : X → Work) (es fs : List X) → LearnsCase d c m n work es fs → OnErr r (IsCaseLost d c m n work es fs)
lost_behind d c r m n work es fs learns = on_err r _ (lost_of (IsCaseWithin d c) (DemandsCase d c) d m n work es fs 0 learns)

-- ---- the same of a deck that another is

pub table_on : {E : Type 0} (one other : List Statement) (c : ℕ) (r : Result Done E) → one ≡ other → IfOk r (λ done. IsTableOf (body_of one) c (deck_tunnels (body_of one) c) done.table)
    → IfOk r (λ done. IsTableOf (body_of other) c (deck_tunnels (body_of other) c) done.table)
table_on one other c r is = subst (λ (z : List Statement). IfOk r (λ done. IsTableOf (body_of z) c (deck_tunnels (body_of z) c) done.table)) is

pub learns_on : {X T E : Type 0} (one other : List Statement) (c : ℕ) (r : Result T E) (m n : MemoryIs) (work : X → Work) (es fs : List X) → one ≡ other → OnOk r (LearnsCase (body_of one) c m n work es fs)
    → OnOk r (LearnsCase (body_of other) c m n work es fs)
learns_on one other c r m n work es fs is = subst (λ (z : List Statement). OnOk r (LearnsCase (body_of z) c m n work es fs)) is

pub lost_on : {X T E : Type 0} (one other : List Statement) (c : ℕ) (r : Result T E) (m n : MemoryIs) (work : X → Work) (es fs : List X) → one ≡ other → OnErr r (IsCaseLost (body_of one) c m n work es fs)
    → OnErr r (IsCaseLost (body_of other) c m n work es fs)
lost_on one other c r m n work es fs is = subst (λ (z : List Statement). OnErr r (IsCaseLost (body_of z) c m n work es fs)) is

pub within_on : {T E : Type 0} (one other : List Statement) (c : ℕ) (r : Result T E) → one ≡ other → OnOk r (IsCaseWithin (body_of one) c) → OnOk r (IsCaseWithin (body_of other) c)
within_on one other c r is = subst (λ (z : List Statement). OnOk r (IsCaseWithin (body_of z) c)) is

-- each year of a case with a table is within the limits
pub solved_within : {T E : Type 0} (d : Says) (c : ℕ) (answer : CaseAnswer) (table : Table) (r : Result T E) → answer ≡ answers.Table table → IsAnswerUnder d c (deck_tunnels d c) answer → OnOk r (IsCaseWithin d c)
solved_within d c answer table r is under =
    let has = subst (λ (a : CaseAnswer). IsAnswerUnder d c (deck_tunnels d c) a) is under in
    on_ok r _ has.within
