use Rattle.std.proofs.Common.{◌∙◌, sym, refl, true≢false}
use Rattle.deck_lines.specs.Deck.{body_of}
use Rattle.report_text.specs.declared.rounds.Found.{Found}
use Rattle.deck_tellings.proofs.RoundSteps.{found_as, goes_behind, inside_as, placed_as, settled_as, settled_last}
use Rattle.deck_tellings.proofs.rounds.tell_planned.Goals as goal

pub are_inside-inside-requires : goal.are_inside-inside-requires
are_inside-inside-requires c =
    placed_as (body_of c.args.of.now.typed.now) c.args.of.now.case (record { tunnels = c.args.round.tunnels.items; configs = c.args.configs; total = c.args.total }) _ _ _
    c.requires.greatest c.deref.ensures.value c.as_slice.ensures c.requires.tunnels c.requires.found

pub moved_tunnels-requires : goal.moved_tunnels-requires
moved_tunnels-requires c =
    placed_as (body_of c.args.of.now.typed.now) c.args.of.now.case (record { tunnels = c.args.round.tunnels.items; configs = c.args.configs; total = c.args.total }) _ _ _
    c.requires.greatest c.deref-2.ensures.value c.as_slice-2.ensures c.requires.tunnels c.requires.found

pub returns-then-inside-clause-told : goal.returns-then-inside-clause-told
returns-then-inside-clause-told c =
    let d = body_of c.args.of.now.typed.now in
    let f : Found = record { tunnels = c.new.result; configs = c.args.configs; total = c.args.total } in
    let settled = settled_as d f _ _ _ c.requires.greatest (c.deref.ensures.value ∙ sym c.new.ensures) c.as_slice.ensures (c.are_inside-inside.ensures.0 c.if-inside.true) in
    settled_last d c.args.of.now.case c.args.round f c.args.text.now c.write_round.new.text c.write_inside.new.text c.write_found.new.text c.new.ensures
    (found_as d c.args.of.now.case c.args.round.tunnels.items c.new.result c.args.configs c.args.total c.new.ensures c.requires.found) settled
    c.in_ok-write_round.ensures.appended c.in_ok-write_inside.ensures.appended c.in_ok-write_found.ensures.appended

pub returns-clause-told : goal.returns-clause-told
returns-clause-told c =
    let d = body_of c.args.of.now.typed.now in
    let f : Found = record { tunnels = c.new.result; configs = c.args.configs; total = c.args.total } in
    goes_behind d c.args.of.now.case c.args.round _ f c.args.text.now c.write_round.new.text _ _ _ c.new.ensures
    (found_as d c.args.of.now.case c.args.round.tunnels.items c.new.result c.args.configs c.args.total c.new.ensures c.requires.found)
    c.requires.greatest (c.deref-2.ensures.value ∙ sym c.new.ensures) c.as_slice-2.ensures c.requires.tunnels
    (λ settled. absurd (true≢false (sym (c.are_inside-inside.ensures.1 (inside_as d f _ _ _ c.requires.greatest (c.deref.ensures.value ∙ sym c.new.ensures) c.as_slice.ensures settled)) ∙ c.if-inside.false)))
    c.in_ok-write_round.ensures.appended refl c.in_ok-next.ensures.value c.in_ok-next.ensures.fit refl
