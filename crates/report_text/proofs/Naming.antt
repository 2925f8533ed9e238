-- Numbers without a refusal.
use Rattle.std.proofs.Common.{◌≡◌, ℕ, zero, suc, ◌≤◌, [], refl, sym, arith}
use Rattle.std.proofs.lemmas.List.{get_or_past}
use Rattle.report_text.specs.Refusals.{name_of, names}

pub name_of_none : (n : ℕ) → (1 ≤ n → 30 ≤ n) → [] ≡ name_of n
name_of_none zero past = refl
name_of_none (suc n) past = sym (get_or_past names (suc n) [] (past (omega arith)))
