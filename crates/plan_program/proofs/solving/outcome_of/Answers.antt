use Rattle.std.proofs.Common.{◌≡◌, ◌+◌, ◌-◌, [], List, Option, ℕ, None, length, get_or, arith, subst}
use Rattle.plan_program.specs.Steps.{IsLeastPlace}
use Rattle.plan_program.proofs.Best.{finished, infeasible_is, some_one}
use Rattle.plan_program.proofs.solving.outcome_of.Goals as goal

pub returns-in-Some : goal.returns-in-Some
returns-in-Some c = infeasible_is c.args.table.now c.args.come.now c.in-Some.year c.requires.come c.in-Some.ensures.some

pub returns : goal.returns
returns c =
    let t = c.args.table.now in
    let come = c.args.come.now in
    let k = length come - 1 in
    let h = c.requires.come in
    let v = c.requires.valid in
    let last : k + 1 ≡ length t.layers = omega (arith, h.years, v.years, v.economy.years) in
    let least = c.least_place-place.ensures in
    let at : IsLeastPlace (get_or come k []) (length (get_or come k [])) c.least_place-place.result least.0 =
    subst (λ (xs : List (Option ℕ)). IsLeastPlace xs (length xs) c.least_place-place.result least.0) c.costs_of-costs.ensures least.1 in
    let total : least.0 ≡ c.in-Some-costs.total = some_one least.0 c.in-Some-costs.total (get_or c.costs_of-costs.result.now c.least_place-place.result None) least.1.has c.in-Some-costs.is in
    rw c.new.ensures (finished t k (get_or come k []) c.least_place-place.result c.in-Some-costs.total c.push_best.new.configs.items (record {
      last = last;
      ways = λ j b. h.each k j (omega (arith, last)) b;
      rises = v.rises k [] (omega (arith, last));
      long = h.entries k (omega (arith, last));
      least = subst (λ n. IsLeastPlace (get_or come k []) (length (get_or come k [])) c.least_place-place.result n) total at;
      best = c.in_ok-push_best.ensures;
    }))
