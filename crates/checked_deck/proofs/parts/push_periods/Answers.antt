use Rattle.std.proofs.Common.{sym}
use Rattle.std.proofs.lemmas.List.{append-nil}
use Rattle.deck_lines.specs.Deck.{body_of}
use Rattle.checked_deck.specs.Systems.{project_water}
use Rattle.deck_check.proofs.Firsts.{first_none, put_flat}
use Rattle.checked_deck.proofs.parts.push_periods.Goals as goal

pub loop-m-init : goal.loop-m-init
loop-m-init c = rw first_none (sym (append-nil c.args.table.now.items))

pub loop-m-preserved : goal.loop-m-preserved
loop-m-preserved c =
    put_flat (project_water (body_of c.args.deck.now) c.args.g c.args.j) c.args.table.now.items c.loop-m.table.items c.push_conditions.new.table.items c.loop-m.m c.in_ok-push_conditions.ensures c.loop-m.invariant
