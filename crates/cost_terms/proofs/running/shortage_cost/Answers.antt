use Rattle.std.proofs.Common.{◌+◌, ◌*◌, ◌≤◌, ◌^◌, arith}
use Rattle.std.proofs.Math.Nat.{mul-le-mul}
use Rattle.cost_terms.proofs.Amounts.{scaled_most}
use Rattle.cost_terms.proofs.running.shortage_cost.Goals as goal

pub overflow_mul-result-2 : goal.overflow_mul-result-2
overflow_mul-result-2 c =
    let p = c.args.price.now in
    let d = c.args.demand in
    let l = c.min-lesser.result in
    let scaled = scaled_most p.plain p.linear p.square d l c.requires.plain c.requires.linear c.requires.square (omega (arith, c.min-lesser.ensures)) in
    let demand : d ≤ 2 ^ 32 = omega (arith, c.requires.demand) in
    let square : d * d ≤ 2 ^ 32 * 2 ^ 32 = mul-le-mul demand demand in
    let most : p.plain * (d * d) + p.linear * (d * l) + p.square * (l * l) ≤ 30000000 * (2 ^ 32 * 2 ^ 32) = omega (arith, scaled, square) in
    let short : c.args.short ≤ 2 ^ 32 = omega (arith, c.requires.short) in
    let all : c.args.short * (p.plain * (d * d) + p.linear * (d * l) + p.square * (l * l)) ≤ 2 ^ 32 * (30000000 * (2 ^ 32 * 2 ^ 32)) =
    mul-le-mul short most in
    omega (arith, all)
