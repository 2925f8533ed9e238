use Rattle.std.proofs.Common.{◌≡◌, ◌+◌, ◌*◌, ◌<◌, ◌≤◌, length, min, arith, ◌∙◌, sym, below_more}
use Rattle.wasp_fixed.specs.Curves.{cell}
use Rattle.wasp_fixed.specs.declared.numbers.TheConstants.{ONE}
use Rattle.hydro_shave.specs.Hydro.{IsClipLevel}
use Rattle.hydro_shave.proofs.Levels.{clip_level_of-is}
use Rattle.hydro_shave.proofs.Slides.{area-from_start, area-most, energy-fits, some_of, slides, Slides}
use Rattle.hydro_shave.proofs.blocks.clip_level.Goals as goal

pub loop-sum-init : goal.loop-sum-init
loop-sum-init c =
    let m : c.min.result ≡ min c.args.peak_mw (length c.args.curve.now.cells) = rw c.len.ensures.len at c.min.ensures in
    record {
      sum_is = rw m at c.area-sum.ensures.value ∙ area-from_start c.args.curve.now.cells c.args.peak_mw;
      within = omega arith;
      least = λ lower lt. absurd (omega arith);
    }

pub overflow_mul-sum : goal.overflow_mul-sum
overflow_mul-sum c =
    let most : c.loop-sum.sum ≤ length c.args.curve.now.cells * ONE = rw c.loop-sum.invariant.sum_is (area-most c.args.curve.now.cells c.loop-sum.level (c.loop-sum.level + c.args.peak_mw) c.len.ensures.at_most_one (omega arith)) in
    record { fits = energy-fits c.loop-sum.sum c.args.hours (length c.args.curve.now.cells) most (omega (arith, c.len.ensures.len, c.len.ensures.most)) c.requires.hours }

pub overflow_add-sum : goal.overflow_add-sum
overflow_add-sum c =
    let most : c.loop-sum.sum ≤ length c.args.curve.now.cells * ONE = rw c.loop-sum.invariant.sum_is (area-most c.args.curve.now.cells c.loop-sum.level (c.loop-sum.level + c.args.peak_mw) c.len.ensures.at_most_one (omega arith)) in
    record { fits = omega (arith, most, c.len.ensures.len, c.len.ensures.most) }

pub loop-sum-smaller : goal.loop-sum-smaller
loop-sum-smaller c =
    let some : 0 < c.loop-sum.sum = some_of c.loop-sum.sum c.args.hours (c.args.energy * ONE) c.loop-sum-test.true in
    let s : Slides c.args.curve.now.cells c.loop-sum.level c.args.peak_mw c.loop-sum.sum = slides c.args.curve.now.cells c.loop-sum.level c.args.peak_mw c.loop-sum.sum c.loop-sum.invariant.sum_is some in
    omega (arith, s.inside)

pub loop-sum-preserved : goal.loop-sum-preserved
loop-sum-preserved c =
    let some : 0 < c.loop-sum.sum = some_of c.loop-sum.sum c.args.hours (c.args.energy * ONE) c.loop-sum-test.true in
    let s : Slides c.args.curve.now.cells c.loop-sum.level c.args.peak_mw c.loop-sum.sum = slides c.args.curve.now.cells c.loop-sum.level c.args.peak_mw c.loop-sum.sum c.loop-sum.invariant.sum_is some in
    record {
      sum_is = rw (c.cell.ensures.value, c.cell-in-loop-sum.ensures.value) s.next;
      within = omega (arith, s.inside);
      least = below_more _ _ c.loop-sum.invariant.least (rw c.loop-sum.invariant.sum_is at c.loop-sum-test.true);
    }

pub returns-clause-value : goal.returns-clause-value
returns-clause-value c top le =
    let is : IsClipLevel (cell c.args.curve.now.cells) c.args.peak_mw c.args.energy c.args.hours c.loop-sum.level = record {
      enough = rw c.loop-sum.invariant.sum_is at c.loop-sum-test.false;
      least = c.loop-sum.invariant.least;
    } in
    sym (clip_level_of-is (cell c.args.curve.now.cells) c.args.peak_mw c.args.energy c.args.hours c.loop-sum.level top is (omega (arith, le)))
