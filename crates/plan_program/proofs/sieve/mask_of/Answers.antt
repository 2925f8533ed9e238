use Rattle.std.proofs.Common.{◌≡◌, ◌∙◌, ℕ, List, [], arith, ap, get_or, subst, sym}
use Rattle.std.proofs.lemmas.List.{get_or_default}
use Rattle.std.proofs.lemmas.Nat.Bits.{bit_at_ones}
use Rattle.std.specs.Int.{bit_at}
use Rattle.plan_program.proofs.SieveBits.{and_both}
use Rattle.plan_program.proofs.sieve.mask_of.Goals as goal

pub loop-k-init : goal.loop-k-init
loop-k-init c = λ i b h. bit_at_ones 64 i b

pub loop-k-preserved : goal.loop-k-preserved
loop-k-preserved c = λ i b h.
    let k = c.loop-k.k in
    let row : c.as_slice.result.now ≡ get_or c.args.block.now k [] = c.as_slice.ensures ∙ (c.index-block-k.is ∙ get_or_default c.args.block.now k c.index-block-k.result [] c.loop-k-test.true) in
    let word : get_or c.as_slice.result.now c.get.result 0 ≡ get_or (get_or c.args.block.now k []) (get_or c.args.to.now k 0) 0 =
    ap (λ (xs : List ℕ). get_or xs c.get.result 0) row ∙ ap (λ n. get_or (get_or c.args.block.now k []) n 0) c.get.ensures.value in
    and_both c.loop-k.mask (get_or c.as_slice.result.now c.get.result 0) i
    (c.loop-k.invariant i b (λ j d s. h j (omega (arith, d)) s))
    (subst (λ n. bit_at n i ≡ 1) (sym word) (h k (omega arith) (omega (arith, c.get.ensures.value, c.get.ensures.small))))
