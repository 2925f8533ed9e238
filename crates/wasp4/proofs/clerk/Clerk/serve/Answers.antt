use Rattle.wasp4.proofs.Faults.{read_cause}
use Rattle.wasp4.proofs.clerk.Clerk.serve.Goals as goal

pub returns-clause-serves : goal.returns-clause-serves
returns-clause-serves g c = λ command read said start number run. record {
  text = c.turn.new.text.items;
  turn = c.in_ok-turn.turn;
  took = c.in_ok-turn.ensures.turn command read said start number run;
  put = rw c.deref.ensures.value at c.put_turn.ensures.put;
}

pub returns-clause-read : goal.returns-clause-read
returns-clause-read g c = read_cause _ _ _ _ _ _ _ c.put_turn.ensures.put c.in_ok-turn.ensures.cause
