use Rattle.std.proofs.Common.{◌≡◌, ◌+◌, [], ◌∷◌, ◌++◌, ⊎_elim, subst, arith}
use Rattle.std.proofs.lemmas.Grind.{common_steps}
use Rattle.board_core.specs.Lists.{IsIn}
use Rattle.board_core.proofs.Lists.{is_in-append}
use Rattle.worked_store.proofs.board.numbers.Goals as goal

pub loop-code-preserved : goal.loop-code-preserved
loop-code-preserved c =
    let e : c.push.new.self.items ≡ c.loop-code.all.items ++ (c.loop-code.code + 1) ∷ [] = grind (arith, common_steps, c.in_ok-push.ensures.items) in
    record {
      count = grind (arith, common_steps, e, c.loop-code.invariant.count);
      codes = λ x i z. ⊎_elim
          (λ (old : IsIn x c.loop-code.all.items). c.loop-code.invariant.codes x old z)
          (λ (new : IsIn x ((c.loop-code.code + 1) ∷ [])). ⊎_elim (λ (s : x ≡ c.loop-code.code + 1). absurd (omega arith)) (λ y. elim y [ ]) new)
          (is_in-append x c.loop-code.all.items ((c.loop-code.code + 1) ∷ []) (subst (IsIn x) e i));
    }
