use Rattle.std.proofs.Common.{◌≡◌, ◌≢◌, ◌∙◌, refl, sym, ap, ◌+◌, ◌<◌, ◌≤◌, Bool, true, false, true≢false, length, subst, Some, Ok, is_some, arith}
use Rattle.deck_lines.specs.declared.line.Line.{Line}
use Rattle.deck_lines.specs.declared.line.Line.TheVariants as lines
use Rattle.wasp_session.specs.Steps.{DoesLine}
use Rattle.wasp_session.specs.declared.command.Step.{Step}
use Rattle.wasp_session.specs.declared.command.Step.TheVariants as steps
use Rattle.wasp4.specs.Going.{effort_by}
use Rattle.wasp4.specs.Script.{Malformed, stops}
use Rattle.wasp4.specs.declared.status.Ending.TheVariants as endings
use Rattle.wasp4.proofs.Refusing.{ended_here, none_said}
use Rattle.wasp4.proofs.Running.{at_end, closed, placed, run_more, run_same, taken_more}
use Rattle.wasp4.proofs.Scripts.{faulty_here, goes_on}
use Rattle.wasp4.proofs.turn.answer.Goals as goal

goes : Step → Bool
goes steps.Go = true
goes steps.Ended = false

pub line-requires-clause-place : goal.line-requires-clause-place
line-requires-clause-place g c κs outlives =
    placed c.in-Ok.line c.args.session.now c.plans-plans.ensures.valid c.requires.taken c.in-Ok.ensures.of_mode (λ is. c.in-Ok.ensures.plans (ap Ok is)) (λ n is. c.in-Ok.ensures.checks n (ap Ok is))

pub returns-in-Go : goal.returns-in-Go
unfolding goes
returns-in-Go g c =
    let told = c.in_ok-line-in-Ok.ensures in
    let E = g.E.SimEngine in
    let now = effort_by E.work c.args.engines.now c.args.session.now.memory.tally in
    record {
      taken = taken_more c.in-Ok.line c.args.session.now c.line.new.self E.work c.args.engines.now c.line.new.engines c.args.text.now c.line.new.text c.in-Ok.ensures.of_mode c.requires.taken told.does told.few;
      answer = λ command read said start number run.
          let few : length read < 100000 = omega (arith, number, c.requires.last) in
          let no_end : c.in-Ok.line ≢ lines.End = λ e. true≢false (ap goes (sym c.in-Go.is ∙ told.ended.1 e)) in (
            c.in-Ok.line,
            goes_on command read c.args.session.now said start now c.args.bytes.now c.in-Ok.line few run c.in-Ok.ensures.exact no_end,
            run_more command read c.in-Ok.line c.args.session.now c.line.new.self said start E.work c.args.engines.now c.line.new.engines c.args.text.now c.line.new.text
                c.in-Ok.ensures.of_mode run c.requires.clear told.does,
          );
    }

pub returns-in-Ended : goal.returns-in-Ended
returns-in-Ended g c =
    let told = c.in_ok-line-in-Ok.ensures in
    let E = g.E.SimEngine in
    let is_end : c.in-Ok.line ≡ lines.End = told.ended.0 c.in-Ended.is in
    let end = at_end c.args.session.now c.line.new.self E.work c.args.engines.now c.line.new.engines c.args.text.now c.line.new.text
    (subst (λ (l : Line). DoesLine l c.args.session.now c.line.new.self E.work c.args.engines.now c.line.new.engines c.args.text.now c.line.new.text) is_end told.does) in
    record {
      taken = taken_more c.in-Ok.line c.args.session.now c.line.new.self E.work c.args.engines.now c.line.new.engines c.args.text.now c.line.new.text c.in-Ok.ensures.of_mode c.requires.taken told.does told.few;
      answer = λ command read said start number run.
          let few : length read < 100000 = omega (arith, number, c.requires.last) in
          let told_no : 1 ≤ c.line.new.self.nos = c.said_no.ensures.0 c.if-said_no.true in
          let nos : 1 ≤ c.args.session.now.nos = omega (arith, told_no, end.nos) in
          ended_here command read c.args.bytes.now c.args.session.now said c.line.new.text.items start (effort_by E.work c.line.new.engines c.line.new.self.memory.tally)
          endings.CheckNo few (run_same command read c.args.session.now said start (effort_by E.work c.args.engines.now c.args.session.now.memory.tally) _ run end.spent) (c.in-Ok.ensures.exact ∙ ap Ok is_end) (rw c.requires.clear at end.wrote) (refl, nos);
    }

pub returns-in-Ended-2 : goal.returns-in-Ended-2
returns-in-Ended-2 g c =
    let told = c.in_ok-line-in-Ok.ensures in
    let E = g.E.SimEngine in
    let is_end : c.in-Ok.line ≡ lines.End = told.ended.0 c.in-Ended-2.is in
    let end = at_end c.args.session.now c.line.new.self E.work c.args.engines.now c.line.new.engines c.args.text.now c.line.new.text
    (subst (λ (l : Line). DoesLine l c.args.session.now c.line.new.self E.work c.args.engines.now c.line.new.engines c.args.text.now c.line.new.text) is_end told.does) in
    record {
      taken = taken_more c.in-Ok.line c.args.session.now c.line.new.self E.work c.args.engines.now c.line.new.engines c.args.text.now c.line.new.text c.in-Ok.ensures.of_mode c.requires.taken told.does told.few;
      answer = λ command read said start number run.
          let few : length read < 100000 = omega (arith, number, c.requires.last) in
          let nos : c.args.session.now.nos ≡ 0 = sym end.nos ∙ none_said c.said_no.result c.line.new.self.nos c.said_no.ensures c.if-said_no.false in
          ended_here command read c.args.bytes.now c.args.session.now said c.line.new.text.items start (effort_by E.work c.line.new.engines c.line.new.self.memory.tally)
          endings.Done few (run_same command read c.args.session.now said start (effort_by E.work c.args.engines.now c.args.session.now.memory.tally) _ run end.spent) (c.in-Ok.ensures.exact ∙ ap Ok is_end) (rw c.requires.clear at end.wrote) (refl, nos);
    }

pub returns-in_ok-refuse-in-Err-Fault : goal.returns-in_ok-refuse-in-Err-Fault
returns-in_ok-refuse-in-Err-Fault g c =
    let E = g.E.SimEngine in
    record {
      taken = c.requires.taken;
      answer = λ command read said start number run.
          let few : length read < 100000 = omega (arith, number, c.requires.last) in
          let at : Malformed = record { line = length read + 1; fault = c.in-Err-Fault.fault } in
          let now = effort_by E.work c.args.engines.now c.args.session.now.memory.tally in
          record {
            script = stops read c.in-Err-Fault.fault;
            is = faulty_here command read c.args.session.now said start now c.args.bytes.now c.in-Err-Fault.fault few run (rw c.in-Err-Fault.field-0-is at c.in-Err-Fault.ensures.exact);
            answered = closed command read c.args.session.now said c.refuse.new.text.items start now (Some at) run (rw (c.requires.clear, number) at c.in_ok-refuse-in-Err-Fault.ensures);
            ends = λ e. true≢false (ap is_some e);
          };
    }
