use Rattle.std.proofs.Common.{◌≡◌, ◌∙◌, ℕ, ◌*◌, ◌/◌, length, slice_index, ap, sym, arith}
use Rattle.wasp_fixed.specs.Curves.{cell}
use Rattle.load_curves.specs.LoadCurve.{load_curve}
use Rattle.hourly_load.specs.Hours.{above, distance, gap, IsGreatest}
use Rattle.hourly_load.proofs.Counting.{area-above}
use Rattle.hourly_load.proofs.Points.{greatest-same, loads-some, loads-within, peak-some, points-faultless}
use Rattle.hourly_load.proofs.shape.shape_of.Goals as goal

pub fill_curve-requires-clause-shape : goal.fill_curve-requires-clause-shape
fill_curve-requires-clause-shape c =
    let some = loads-some c.args.loads.now c.requires.some in
    rw c.in_ok-shape.ensures (points-faultless c.args.loads.now (length c.deref.result.now) c.args.points some c.requires.least c.requires.most)

pub greatest_gap-requires-clause-peak : goal.greatest_gap-requires-clause-peak
greatest_gap-requires-clause-peak c =
    let some = peak-some c.args.loads.now c.greatest-peak.result c.greatest-peak.ensures c.requires.some in
    let len : length c.deref-2.result.now ≡ c.greatest-peak.result = rw c.deref-2.ensures.value c.in_ok-above.ensures.len in
    omega (arith, some, len)

pub returns-clause-value : goal.returns-clause-value
returns-clause-value c =
    let loads = c.args.loads.now in
    let peak = c.greatest-peak.result in
    let len : length c.deref.result.now ≡ peak = rw c.deref.ensures.value c.in_ok-above.ensures.len in
    let len_2 : length c.deref-2.result.now ≡ peak = rw c.deref-2.ensures.value c.in_ok-above.ensures.len in
    let above_is : (x : ℕ) → slice_index c.deref-2.result.now x ≡ above loads x = rw c.deref-2.ensures.value c.in_ok-above.ensures.value in
    let greatest : IsGreatest (λ x. distance (cell c.fill_curve.new.curve.cells x * length loads) (1000000000 * slice_index c.deref-2.result.now x) / length loads) peak c.greatest_gap.result = rw len_2 at c.greatest_gap.ensures in
    let same = λ (x : ℕ).
    ap (λ (n : ℕ). distance (n * length loads) (1000000000 * slice_index c.deref-2.result.now x) / length loads) (c.fill_curve.ensures.value x)
    ∙ ap (λ (n : ℕ). distance (load_curve peak 1 c.in_ok-shape.shape x * length loads) (1000000000 * n) / length loads) (above_is x) in
    record {
      peak = c.greatest-peak.ensures;
      shape = rw len at c.in_ok-shape.ensures;
      sum = c.total.ensures ∙ sym (area-above loads peak (loads-within loads peak c.greatest-peak.ensures));
      error = greatest-same _ (gap loads peak c.in_ok-shape.shape) peak c.greatest_gap.result same greatest;
    }

pub returns-clause-form : goal.returns-clause-form
returns-clause-form c =
    let some = loads-some c.args.loads.now c.requires.some in
    rw c.in_ok-shape.ensures (points-faultless c.args.loads.now (length c.deref.result.now) c.args.points some c.requires.least c.requires.most)
