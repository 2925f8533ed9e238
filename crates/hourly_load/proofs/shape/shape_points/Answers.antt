use Rattle.std.proofs.Common.{◌≡◌, ◌∙◌, ℕ, ◌*◌, ◌/◌, ◌++◌, List, [], ◌∷◌, All, length, map, ap, sym, arith}
use Rattle.std.specs.List.{range_with_len}
use Rattle.std.proofs.lemmas.List.FromFn.{map-range_with_len_more}
use Rattle.plant_data.specs.declared.shape.Point.{Point}
use Rattle.plant_data.specs.Shapes.{IsInRange}
use Rattle.hourly_load.specs.Hours.{part, point, points_of}
use Rattle.hourly_load.proofs.Points.{points-in_range, points-length}
use Rattle.hourly_load.proofs.shape.shape_points.Goals as goal

pub loop-i-preserved : goal.loop-i-preserved
loop-i-preserved c =
    let loads = c.args.loads.now in
    let peak = length c.args.above.now in
    let points = c.args.points in
    let i = c.loop-i.i in
    let here : c.point_at.result ≡ point loads peak points i =
    c.point_at.ensures ∙ ap (λ (n : ℕ). record { load = part points i; share = 10000 * n / length loads }) (c.requires.counts (part points i * peak / 10000)) in
    c.in_ok-push.ensures.items ∙ ap (λ (ps : List Point). ps ++ c.point_at.result ∷ []) c.loop-i.invariant
    ∙ ap (λ (p : Point). map (point loads peak points) (range_with_len 0 i) ++ p ∷ []) here ∙ sym (map-range_with_len_more (point loads peak points) 0 i i (omega arith))

pub new-requires-clause-low : goal.new-requires-clause-low
new-requires-clause-low c =
    let e : c.loop-i.i ≡ c.args.points = omega arith in
    let all = rw e at c.loop-i.invariant in
    omega (arith, ap length all, points-length c.args.loads.now (length c.args.above.now) c.args.points)

pub new-requires-clause-high : goal.new-requires-clause-high
new-requires-clause-high c =
    let e : c.loop-i.i ≡ c.args.points = omega arith in
    let all = rw e at c.loop-i.invariant in
    omega (arith, ap length all, points-length c.args.loads.now (length c.args.above.now) c.args.points)

pub new-requires-clause-range : goal.new-requires-clause-range
new-requires-clause-range c =
    let e : c.loop-i.i ≡ c.args.points = omega arith in
    let all : c.loop-i.list.items ≡ points_of c.args.loads.now (length c.args.above.now) c.args.points = rw e at c.loop-i.invariant in
    let range : All IsInRange c.loop-i.list.items = rw all (points-in_range c.args.loads.now (length c.args.above.now) c.args.points c.requires.least) in
    range
