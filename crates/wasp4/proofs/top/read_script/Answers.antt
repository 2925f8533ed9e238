use Rattle.std.proofs.Common.{◌≡◌, ◌∙◌, refl, arith, ap, Ok, Option}
use Rattle.std.proofs.lemmas.Result.{err_from_is_err_and}
use Rattle.wasp4.specs.declared.status.Status.{Status}
use Rattle.wasp4.specs.declared.status.Status.TheVariants as statuses
use Rattle.wasp4.proofs.Faults.{ended_cause, goes_uncounted, kept_none}
use Rattle.wasp4.proofs.Progressing.{advanced, answered, answered_past, started, stopped_past, stops_here}
use Rattle.wasp4.proofs.Running.{taken_none}
use Rattle.wasp4.proofs.top.read_script.Goals as goal

pub loop-number-init : goal.loop-number-init
loop-number-init g c = record {
  so_far = started _ _ _ _ _ _ c.requires.reader c.requires.session;
  taken = taken_none _ c.requires.session;
  same = refl;
  source = c.requires.source;
  sink = c.requires.sink;
  read = refl;
  write = refl;
  sure = refl;
  sure_room = refl;
}

pub returns-in_err-status-clause-err : goal.returns-in_err-status-clause-err
returns-in_err-status-clause-err g c =
    let p = err_from_is_err_and c.from_residual.result c.from_residual.ensures.1 in
    rw (p.1, c.in_err-status.ensures.err) (stops_here _ _ _ _ _ _ _ _ _ c.loop-number.invariant.so_far)

pub returns-in-Some-clause-answer : goal.returns-in-Some-clause-answer
returns-in-Some-clause-answer g c =
    let so_far = c.loop-number.invariant.so_far in
    let served = rw c.in-Some.is at c.in_ok-status.ensures.serves c.args.clerk.now.session.command so_far.read so_far.said _ (omega (arith, so_far.count)) so_far.run in
    answered _ _ _ _ _ _ _ _ _ _ _ _ _ _ _ so_far served (kept_none _ _ c.in-Some.is c.in_ok-status.ensures.nothing_kept)

pub returns-in-Some-clause-read : goal.returns-in-Some-clause-read
returns-in-Some-clause-read g c = ended_cause _ _ statuses.ReadFault _ _ _ c.in-Some.is c.loop-number.invariant.read c.in_ok-status.ensures.read

pub returns-in-Some-clause-write : goal.returns-in-Some-clause-write
returns-in-Some-clause-write g c = ended_cause _ _ statuses.WriteFault _ _ _ c.in-Some.is c.loop-number.invariant.write c.in_ok-status.ensures.write

pub loop-number-preserved : goal.loop-number-preserved
loop-number-preserved g c =
    let so_far = c.loop-number.invariant.so_far in
    let served = rw c.in_default.is at c.in_ok-status.ensures.serves c.args.clerk.now.session.command so_far.read so_far.said _ (omega (arith, so_far.count)) so_far.run in
    let goes = ap (λ (x : Option Status). Ok x) c.in_default.is in
    record {
      so_far = advanced _ _ _ _ _ _ _ _ _ _ _ _ _ so_far served;
      taken = c.in_ok-status.ensures.taken;
      same = c.serve.auto.engines ∙ c.loop-number.invariant.same;
      source = c.in_ok-status.ensures.source goes;
      sink = c.in_ok-status.ensures.sink goes;
      read = goes_uncounted _ statuses.ReadFault _ _ _ c.in_default.is c.loop-number.invariant.read c.in_ok-status.ensures.read;
      write = goes_uncounted _ statuses.WriteFault _ _ _ c.in_default.is c.loop-number.invariant.write c.in_ok-status.ensures.write;
      sure = c.in_ok-status.ensures.sure ∙ c.loop-number.invariant.sure;
      sure_room = c.in_ok-status.ensures.sure_room ∙ c.loop-number.invariant.sure_room;
    }

pub returns-clause-answer : goal.returns-clause-answer
returns-clause-answer g c =
    let so_far = c.loop-number.invariant.so_far in
    let last : c.loop-number.number ≡ 100000 = omega (arith, c.loop-number-test.false, c.loop-number.auto.number-end) in
    rw c.serve_past.ensures.tally (answered_past _ _ _ _ _ _ _ _ _ _ _ _ _ _ _ so_far (c.serve_past.ensures.serves c.args.clerk.now.session.command so_far.read so_far.said _ _ (omega (arith, so_far.count, last)) so_far.run) c.serve_past.ensures.nothing_kept)

pub returns-clause-err : goal.returns-clause-err
returns-clause-err g c = stopped_past _ _ _ _ g.K.Sink.written _ _ _ _ _ _ _ c.loop-number.invariant.so_far c.serve_past.ensures.err
