use Rattle.std.proofs.Common.{◌≡◌, All, IfOk, List, sym, subst}
use Rattle.cost_terms.specs.Table.{Table}
use Rattle.row_shelf.proofs.FillSteps.{if_ok2}
use Rattle.row_shelf.proofs.TableSteps.{case_kept, job_is, table_is}
use Rattle.row_shelf.specs.Asked.{FitBook, IsAskedIn}
use Rattle.row_shelf.specs.Shelf.{Holds, ShelfIs}
use Rattle.row_shelf.specs.Tables.{IsTableBy}
use Rattle.sim_engine.specs.Engine.{Run}
use Rattle.sim_sweep.specs.Cases.{IsKept, Job}
use Rattle.sim_sweep.specs.declared.demand.Demand.{Demand}
use Rattle.row_shelf.proofs.shelf.Shelf.table.Goals as goal

pub new-requires : goal.new-requires
new-requires c =
    let fit = subst (λ (v : ShelfIs). FitBook v.book c.args.ids.now c.args.lists.now) (sym c.self.view_is) c.requires.fit in
    job_is c.self.inside.book c.args.ids.now c.args.lists.now c.args.economy c.args.limits c.in_ok-demands.demands c.in_ok-demands.ensures fit c.requires.economy

pub case_table-requires : goal.case_table-requires
case_table-requires c =
    let fit = subst (λ (v : ShelfIs). FitBook v.book c.args.ids.now c.args.lists.now) (sym c.self.view_is) c.requires.fit in
    let held = subst (λ (v : ShelfIs). (key : Run) → IsAskedIn v.book c.args.ids.now c.args.lists.now key → Holds v key) (sym c.self.view_is) c.requires.filled in
    subst (λ (j : Job). All (All (IsKept c.self.inside.kept)) j.demands) (sym c.new.ensures)
    (case_kept c.self.inside.book c.self.inside.kept c.args.ids.now c.args.lists.now c.in_ok-demands.demands c.in_ok-demands.ensures fit c.len-systems.ensures.apart c.self.invariant.due held)

pub returns-clause-layers : goal.returns-clause-layers
returns-clause-layers c =
    let fit = subst (λ (v : ShelfIs). FitBook v.book c.args.ids.now c.args.lists.now) (sym c.self.view_is) c.requires.fit in
    let held = subst (λ (v : ShelfIs). (key : Run) → IsAskedIn v.book c.args.ids.now c.args.lists.now key → Holds v key) (sym c.self.view_is) c.requires.filled in
    let is = subst (λ (ds : List (List Demand)). c.new.result ≡ record { economy = c.args.economy; limits = c.args.limits; demands = ds }) c.in_ok-demands.ensures c.new.ensures in
    subst (λ (v : ShelfIs). IfOk c.case_table.result (λ (table : Table). IsTableBy v.book c.args.ids.now c.args.lists.now c.args.limits table)) c.self.view_is
    (if_ok2 c.case_table.result _ _ _ (λ table layers simulated. table_is c.self.inside.book c.self.inside.kept c.args.ids.now c.args.lists.now c.args.economy c.args.limits c.new.result table fit c.requires.economy c.len-systems.ensures.apart held is (record { layers = layers; simulated = simulated })) c.case_table.ensures.layers c.case_table.ensures.simulated)
