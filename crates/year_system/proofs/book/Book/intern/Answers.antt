use Rattle.std.proofs.Common.{◌≡◌, ◌<◌, List, length, arith, slice_get, Some}
use Rattle.year_system.specs.System.{System}
use Rattle.year_system.proofs.BookSteps.{book_push, found_at, found_last, only_place}
use Rattle.year_system.proofs.book.Book.intern.Goals as goal

pub returns-then-same-clause-number : goal.returns-then-same-clause-number
returns-then-same-clause-number c =
    let ss : List System = c.self.inside.systems.items in
    let within : c.loop-id.id < length ss = omega (arith, c.loop-id-test.true, c.loop-id.auto.id-end, c.len-id-end.ensures, c.self.inside.systems.ok.0) in
    let held : slice_get ss c.loop-id.id ≡ Some c.args.system = found_at ss c.loop-id.id c.index.result.now c.args.system within c.index.ensures (c.same.ensures.0 c.if-same.true) in
    rw c.self.view_is at (only_place ss c.loop-id.id c.args.system c.self.invariant.1 held)

pub invariant_of-self-2 : goal.invariant_of-self-2
invariant_of-self-2 c =
    let ss : List System = c.self.inside.systems.items in
    rw c.in_ok-push.ensures.items (book_push ss c.args.system c.self.invariant (rw c.self.view_is c.requires) (λ k d h. c.loop-id.invariant k d (omega (arith, h))) c.step-step.ensures.valid)

pub returns-clause-number : goal.returns-clause-number
returns-clause-number c =
    let ss : List System = c.self.inside.systems.items in
    let n : c.len-id.result ≡ length ss = omega (arith, c.len-id.ensures, c.self.inside.systems.ok.0) in
    let b = book_push ss c.args.system c.self.invariant (rw c.self.view_is c.requires) (λ k d h. c.loop-id.invariant k d (omega (arith, h))) c.step-step.ensures.valid in
    rw (c.in_ok-push.ensures.items, n) (only_place _ (length ss) c.args.system b.1 (found_last ss c.args.system))
