use Rattle.std.proofs.Common.{◌≡◌, ◌≤◌, length, take, arith}
use Rattle.std.proofs.lemmas.Bool.Decides.{Decides-eqb}
use Rattle.std.proofs.lemmas.Slice.Eq.{slice_eq-Decides}
use Rattle.sim_fast.proofs.Cuts.{start-same}
use Rattle.sim_fast.proofs.shift.is_start.Goals as goal

pub returns : goal.returns
returns c = λ t.
    let e : c.args.start.now ≡ take (length c.args.start.now) c.args.cells.now = (slice_eq-Decides Decides-eqb c.args.start.now (take (length c.args.start.now) c.args.cells.now) c.eq.result c.eq.ensures).0 t in
    let h : c.end_of.result ≤ length c.args.start.now = omega arith in
    start-same c.args.start.now c.args.cells.now c.end_of.result e h c.end_of.ensures.zeros
