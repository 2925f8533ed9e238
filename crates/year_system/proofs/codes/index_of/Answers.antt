use Rattle.std.proofs.Common.{◌≡◌, ℕ, ◌+◌, ◌*◌, ◌^◌, List, get_or, sym, ap, ◌∙◌, arith, drop}
use Rattle.std.specs.List.{fold, zip}
use Rattle.std.proofs.lemmas.List.{at_drop_all}
use Rattle.std.proofs.lemmas.Slice.Zip.{length-zip}
use Rattle.year_system.specs.System.{greatest, Fits, System}
use Rattle.year_system.specs.Code.{index_of}
use Rattle.year_system.proofs.Radix.{digit, AreDigits, digits_from, fold_drop, step_small, number_small, index_is}
use Rattle.year_system.proofs.codes.index_of.Goals as goal

digits : (s : System) (xs : List ℕ) → Fits s xs → AreDigits (greatest s) xs
digits s xs f = digits_from (greatest s) xs f.width f.most

pub overflow_add-index-in-loop-k : goal.overflow_add-index-in-loop-k
overflow_add-index-in-loop-k c =
    let s = c.args.system.now in let xs = c.args.config.now in
    omega (arith, step_small (greatest s) xs c.loop-k.index c.loop-k.k (2 ^ 50) (omega (arith, c.width-width.ensures.value)) c.requires.width c.loop-k.invariant (digits s xs c.requires) c.width-width.ensures.codes, c.get.ensures.value, ap (λ n. c.loop-k.index * (n + 1)) c.greatest.ensures.value)

pub overflow_mul-index : goal.overflow_mul-index
overflow_mul-index c =
    let s = c.args.system.now in let xs = c.args.config.now in
    omega (arith, step_small (greatest s) xs c.loop-k.index c.loop-k.k (2 ^ 50) (omega (arith, c.width-width.ensures.value)) c.requires.width c.loop-k.invariant (digits s xs c.requires) c.width-width.ensures.codes, ap (λ n. c.loop-k.index * (n + 1)) c.greatest.ensures.value)

pub loop-k-preserved : goal.loop-k-preserved
loop-k-preserved c =
    let s = c.args.system.now in let xs = c.args.config.now in let gs = greatest s in
    let e : c.loop-k.index * (c.greatest.result + 1) + c.get.result ≡ c.loop-k.index * (get_or gs c.loop-k.k 0 + 1) + get_or xs c.loop-k.k 0 =
    (λ i. c.loop-k.index * (c.greatest.ensures.value i + 1) + c.get.ensures.value i) in
    ap (λ n. fold digit n (drop (c.loop-k.k + 1) (zip gs xs))) e
    ∙ (sym (fold_drop gs xs c.loop-k.index c.loop-k.k (omega (arith, c.width-width.ensures.value)) c.requires.width) ∙ c.loop-k.invariant)

pub returns-clause-value : goal.returns-clause-value
returns-clause-value c =
    let s = c.args.system.now in let xs = c.args.config.now in let gs = greatest s in
    sym (at_drop_all (fold digit c.loop-k.index) (zip gs xs) c.loop-k.k (omega (arith, length-zip gs xs, c.width-width.ensures.value))) ∙ c.loop-k.invariant

pub returns-clause-small : goal.returns-clause-small
returns-clause-small c =
    let s = c.args.system.now in let xs = c.args.config.now in let gs = greatest s in
    let v : c.loop-k.index ≡ index_of gs xs = sym (at_drop_all (fold digit c.loop-k.index) (zip gs xs) c.loop-k.k (omega (arith, length-zip gs xs, c.width-width.ensures.value))) ∙ c.loop-k.invariant in
    omega (arith, v, index_is gs xs (digits s xs c.requires), number_small gs xs (digits s xs c.requires))

pub returns-clause-fits : goal.returns-clause-fits
returns-clause-fits c = omega (arith, returns-clause-small c, c.width-width.ensures.codes)
