-- Lemmas on taking cells out of the middle of a list.
use Rattle.std.proofs.Common.{◌≡◌, ℕ, ◌+◌, ◌-◌, ◌≤◌, List, ◌++◌, length, take, drop, arith, length-drop}
use Rattle.std.specs.List.{copy_within}
use Rattle.std.proofs.lemmas.List.{drop-take}
use Rattle.std.proofs.lemmas.List.Edits.{take-paste}

pub copy_within-closes : (cells : List ℕ) (from gap used : ℕ) → from + gap ≤ used → used ≤ length cells → take (used - gap) (copy_within cells (from + gap) used from) ≡ take from cells ++ drop (from + gap) (take used cells)
copy_within-closes cells from gap used order within =
    let n : ℕ = used - (from + gap) in
    let e : used - gap ≡ from + n = omega arith in
    let u : from + gap + n ≡ used = omega arith in
    let p = take-paste cells from (drop (from + gap) cells) n (omega arith) (omega (arith, length-drop (from + gap) cells)) in
    let d = rw u at (drop-take (from + gap) n cells) in
    rw (e, d) p
