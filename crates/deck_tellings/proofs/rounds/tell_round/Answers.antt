use Rattle.deck_lines.specs.Deck.{body_of}
use Rattle.deck_tellings.proofs.RoundSteps.{barred_last, over_last}
use Rattle.deck_tellings.proofs.rounds.tell_round.Goals as goal

pub returns-in_ok-write_found-in-Over-clause-told : goal.returns-in_ok-write_found-in-Over-clause-told
returns-in_ok-write_found-in-Over-clause-told c =
    over_last (body_of c.args.of.now.typed.now) c.args.of.now.case c.args.round c.args.text.now c.write_refusal.new.text c.write_found.new.text c.in-Over.refusal
    (rw c.in-Over.is at c.requires.answer) c.in_ok-write_refusal-in-Over.ensures.appended c.in_ok-write_found-in-Over.ensures.appended

pub returns-in_ok-write_found-in-Barred-clause-told : goal.returns-in_ok-write_found-in-Barred-clause-told
returns-in_ok-write_found-in-Barred-clause-told c =
    barred_last (body_of c.args.of.now.typed.now) c.args.of.now.case c.args.round c.args.text.now c.write_barred.new.text c.write_found-in-Barred.new.text c.in-Barred.year
    (rw c.in-Barred.is at c.requires.answer) c.in_ok-write_barred-in-Barred.ensures.appended c.in_ok-write_found-in-Barred.ensures.appended
