use Rattle.std.proofs.Common.{◌≢◌, subst}
use Rattle.std.specs.Prelude.{IfOk}
use Rattle.board_core.specs.declared.event.Answer.TheVariants.{NotEnabled}
use Rattle.board_core.specs.Machine.{Machine, machine_terms}
use Rattle.board_core.specs.Happens.{Happens, moment, number}
use Rattle.board_core.proofs.Lasting.{sound_after}
use Rattle.board_core.proofs.Happening.{stepped}
use Rattle.board_core.proofs.state.BoardState.step.Goals as goal

pub invariant_of-self : goal.invariant_of-self
invariant_of-self c = sound_after _ _ _ _ c.self.invariant c.step.ensures.state c.step.ensures.err

pub returns-clause-sound : goal.returns-clause-sound
returns-clause-sound c = sound_after _ _ _ _ c.self.invariant c.step.ensures.state c.step.ensures.err

pub returns-clause-happens : goal.returns-clause-happens
returns-clause-happens c =
    subst (λ (m : Machine). IfOk c.step.result (λ a. a ≢ NotEnabled → Happens (machine_terms m) c.args.event.now (number a) (moment m) (moment c.step.new.self))) c.self.view_is
    (stepped c.self.inside.store c.step.new.self c.args.event.now c.step.result c.self.invariant c.step.ensures.answer c.step.ensures.state)
