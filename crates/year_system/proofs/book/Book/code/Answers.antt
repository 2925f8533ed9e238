use Rattle.std.proofs.Common.{ℕ, ◌+◌, ◌*◌, ◌^◌, ap}
use Rattle.year_system.specs.Code.{IsCode}
use Rattle.year_system.proofs.CodeParts.{one_key}
use Rattle.year_system.proofs.book.Book.code.Goals as goal

pub returns-clause-only : goal.returns-clause-only
returns-clause-only c = λ k.
    let own : IsCode c.args.self.now (c.args.id * 2 ^ 50 + c.index_of.result + 1) = record {
      id = c.args.id;
      system = c.get-system.result.now;
      counts = c.args.config.now;
      at = c.get-system.ensures.value;
      fits = rw c.get-system.ensures.value at c.requires.fits;
      is = ap (λ (n : ℕ). c.args.id * 2 ^ 50 + n + 1) c.index_of.ensures.value;
    } in
    one_key c.args.self.now _ (rw c.self.view_is at c.self.invariant.2) k own
