use Rattle.wasp4.proofs.Faults.{read_cause_past}
use Rattle.wasp4.proofs.clerk.Clerk.serve_past.Goals as goal

pub returns-clause-read : goal.returns-clause-read
returns-clause-read g c = read_cause_past _ _ _ _ _ _ _ (rw c.in-Some.is at c.put_turn.ensures.put) c.in_ok-turn.ensures.cause
