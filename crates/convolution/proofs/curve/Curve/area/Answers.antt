use Rattle.wasp_fixed.proofs.Areas.{area-clipped}
use Rattle.convolution.proofs.curve.Curve.area.Goals as goal

pub returns-clause-value : goal.returns-clause-value
returns-clause-value c =
    let e = area-clipped c.self.inside.held.items c.self.inside.used c.args.from c.args.to c.requires.order in
    rw (c.sum_cells.ensures.value, c.as_slice.ensures.value, c.min-from.ensures, c.min-to.ensures, ← c.self.view_is) e
