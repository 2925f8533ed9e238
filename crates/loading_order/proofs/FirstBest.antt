-- The period that a loop keeps as the best is the freest.
use Rattle.std.proofs.Common.{◌≡◌, ℕ, ◌+◌, ◌<◌, List, length, get_or, sym, ap, ◌∙◌, arith, true, false, not, nat_lt, ◌==◌, ◌&&◌, ◌||◌}
use Rattle.std.specs.Cmp.{IsStrictWeakOrder}
use Rattle.std.specs.List.{IsFirstBest, list_all}
use Rattle.std.proofs.lemmas.List.Sums.{position_or_len_is, list_all-from_AllPass}
use Rattle.std.proofs.lemmas.List.Folds.{list_all_at}
use Rattle.std.proofs.lemmas.List.{get_or_default}
use Rattle.std.proofs.lemmas.Bool.Decides.{nat_tests}
use Rattle.loading_order.specs.declared.periods.Period.{Period}
use Rattle.loading_order.specs.Maintenance.{is_better, most_free, no_period}

one_way_numbers : (a b c d h k : ℕ) → (h == 0 && (not (k == 0) || nat_lt (c + b) (a + d))) ≡ true → (k == 0 && (not (h == 0) || nat_lt (a + d) (c + b))) ≡ false
one_way_numbers a b c d h k e = grind (arith, nat_tests)

chain_numbers : (a b c d e f h k l : ℕ) → (h == 0 && (not (k == 0) || nat_lt (c + b) (a + d))) ≡ false → (k == 0 && (not (l == 0) || nat_lt (e + d) (c + f))) ≡ false → (h == 0 && (not (l == 0) || nat_lt (e + b) (a + f))) ≡ false
chain_numbers a b c d e f h k l p q = grind (arith, nat_tests)

pub better_ranks : IsStrictWeakOrder is_better
better_ranks = record {
  one_way = λ x y e. one_way_numbers x.supply x.need y.supply y.need x.hours y.hours e;
  chain = λ x y z p q. chain_numbers x.supply x.need y.supply y.need z.supply z.need x.hours y.hours z.hours p q;
}

pub freest_is : (ps : List Period) (n b : ℕ) → IsFirstBest is_better ps n b → n ≡ length ps → b ≡ most_free ps
freest_is ps n b first e =
    let within : b < length ps = omega (arith, first.0) in
    sym (position_or_len_is (λ p. list_all (λ q. not (is_better q p)) ps) ps b no_period (omega arith)
    (λ k h. list_all_at (λ q. not (is_better q (get_or ps k no_period))) ps b no_period within (ap not (first.2 k no_period h)))
    (λ _. list_all-from_AllPass (λ q. not (is_better q (get_or ps b no_period))) ps
    (λ k d h. ap (λ p. not (is_better (get_or ps k d) p)) (get_or_default ps b no_period d within) ∙ ap not (first.1 k d (omega arith)))))
