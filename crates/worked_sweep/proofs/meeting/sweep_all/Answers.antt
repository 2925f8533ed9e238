use Rattle.std.proofs.Common.{get_or}
use Rattle.worked_sweep.proofs.meeting.sweep_all.Goals as goal

-- each engine has room for the one system of the demands
pub keep_rows-requires-clause-can : goal.keep_rows-requires-clause-can
keep_rows-requires-clause-can g c κs within k e lt j d here = (c.requires.room k e lt).holds (get_or c.args.demands.now j d) (c.requires.demands j d here).first
