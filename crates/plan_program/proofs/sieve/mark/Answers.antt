use Rattle.std.proofs.Common.{◌≡◌, ◌∙◌, ◌<◌, ◌+◌, ◌*◌, ◌^◌, ◌%◌, ℕ, set, arith, ap, bit_or, get_or, slice_index, subst, sym}
use Rattle.std.proofs.lemmas.List.{length-set}
use Rattle.std.specs.Int.{bit_at}
use Rattle.plan_program.specs.Sieve.{count_at}
use Rattle.plan_program.specs.Starts.{start_at}
use Rattle.plan_program.specs.declared.come.Start.{Start}
use Rattle.plan_program.proofs.SieveBits.{marks_more}
use Rattle.plan_program.proofs.StartSteps.{start_is}
use Rattle.plan_program.proofs.sieve.mark.Goals as goal

pub loop-i-preserved : goal.loop-i-preserved
loop-i-preserved c =
    let starts = c.args.starts.now in
    let n = c.loop-i.i in
    let row = c.loop-i.row in
    let at : ℕ → ℕ = λ i. count_at starts c.args.k (c.args.base + i) in
    let start : get_or starts (c.args.base + n) c.index-starts-base.result ≡ start_at starts (c.args.base + n) = start_is starts (c.args.base + n) c.index-starts-base.result (omega (arith, c.loop-i-test.true, c.min-more.ensures, c.requires.base)) in
    let count : c.get-count.result ≡ at n = c.get-count.ensures.value ∙ ap (λ (s : Start). slice_index s.standing.config c.args.k) start in
    record {
      counts = length-set row c.get-count.result (bit_or (get_or row c.get-count.result 0) (1 * 2 ^ n % 18446744073709551616)) ∙ c.loop-i.invariant.counts;
      marked = subst (λ m. (i : ℕ) → i < n + 1 → bit_at (get_or (set row m (bit_or (get_or row m 0) (1 * 2 ^ n % 18446744073709551616))) (at i) 0) i ≡ 1) (sym count)
          (marks_more row at n (omega (arith, c.loop-i-test.true, c.min-more.ensures)) (omega (arith, count, c.get-count.ensures.small, c.loop-i.invariant.counts)) c.loop-i.invariant.marked);
    }
