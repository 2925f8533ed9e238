use Rattle.std.proofs.Common.{◌∙◌}
use Rattle.board_core.proofs.Sets.{joins_ok, joins_err, shares_in}
use Rattle.board_core.proofs.changes.join_in.Goals as goal

pub returns-in-Ok-clause-ok : goal.returns-in-Ok-clause-ok
returns-in-Ok-clause-ok c =
    joins_ok c.args.actors.now c.args.k c.args.j c.swap.new.x c.swap.new.y c.absorb.new.actor c.index-actors-k.result c.index-actors-j.result c.requires.places.0 c.requires.places.1 c.requires.places.2
    (c.swap.ensures.x_after ∙ c.spent-theirs.ensures) c.swap.ensures.y_after c.in-Ok.ensures.ok

pub returns-in-Err-clause-err : goal.returns-in-Err-clause-err
returns-in-Err-clause-err c =
    joins_err c.args.actors.now c.args.k c.args.j c.swap.new.x c.absorb.new.actor c.swap-in-Err.new.x c.index-actors-k.result c.index-actors-j.result c.requires.places.1
    c.in-Err.ensures.err (c.swap-in-Err.ensures.x_after ∙ c.in-Err.ensures.back ∙ c.swap.ensures.y_after)

pub absorb-requires : goal.absorb-requires
absorb-requires c =
    shares_in c.args.actors.now c.args.k c.args.j c.swap.new.x c.swap.new.y c.index-actors-k.result c.index-actors-j.result c.requires.places.0 c.requires.places.1 c.requires.places.2 c.swap.ensures.y_after c.requires.shares
