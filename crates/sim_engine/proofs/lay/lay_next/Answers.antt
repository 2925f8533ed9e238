use Rattle.std.proofs.Common.{◌≡◌, ◌+◌, ◌/◌, ◌<◌, ◌++◌, List, [], ◌∷◌, true, false, length, map, take, set, sym, ap, subst, ◌∙◌, arith, refl}
use Rattle.std.proofs.lemmas.List.{length-map, length-set, length-take-le, map-append, take_more_set}
use Rattle.sim_fast.specs.Turns.{IsTurn}
use Rattle.sim_fast.specs.declared.turn.Turn.{Turn}
use Rattle.sim_engine.proofs.BlockSteps.{block_fits, block_sum}
use Rattle.sim_engine.specs.Laid.{IsLaid, IsNew, block_at, turn_of}
use Rattle.sim_engine.specs.declared.lay.Mark.{Mark}
use Rattle.sim_engine.specs.declared.lay.Span.{Span}
use Rattle.sim_engine.proofs.Layings.{laid-both, laid-one, mark-kept, mark-kept-two, mark-put, mark-put-first}
use Rattle.sim_engine.proofs.lay.lay_next.Goals as goal

pub returns-then-blocks-k-clause-laid : goal.returns-then-blocks-k-clause-laid
returns-then-blocks-k-clause-laid c = λ some av.
    let bs = c.args.blocks.now in
    let k = c.args.k in
    let n = c.args.count in
    let step = c.args.step in
    let ms : List Mark = c.args.marks.now in
    let ss : List Span = c.args.spans.now in
    let ts : List Turn = map (turn_of av) (take n ss) in
    let h : k + 1 < length bs = c.if-k-blocks.true in
    let s : Span = record { unit = (block_at bs k).unit; least = (block_at bs k).capacity / step; full = (block_at bs k).capacity / step + (block_at bs (k + 1)).capacity / step } in
    let t : Turn = turn_of av s in
    let new : IsNew (block_at bs k).unit (take k bs) = c.is_new.ensures c.if-not-is_new.false in
    let within : n < length ss = omega (arith, c.requires.few, c.requires.within, c.requires.spans) in
    let len : length ts ≡ n = length-map (take n ss) (turn_of av) ∙ length-take-le n ss (omega (arith, within)) in
    let put : map (turn_of av) (take (n + 1) (set ss n s)) ≡ ts ++ t ∷ [] = ap (map (turn_of av)) (take_more_set ss n s within) ∙ map-append (turn_of av) (take n ss) (s ∷ []) in
    let sound : IsTurn t = record { order = omega arith; cells = omega (arith, block_fits step bs (k + 1) h, block_sum step bs k c.requires.within, c.requires.cells); rate = omega arith } in
    let room : k + 1 < length ms = omega (arith, h, c.requires.marks) in
    subst (λ xs. IsLaid step av bs (k + 2) xs (set (set ms k (record { turn = n; upper = false })) (k + 1) (record { turn = n; upper = true }))) (sym put) (laid-both step av bs k ts ms t _ (c.requires.laid av) h new (c.if-blocks-k.true) refl refl refl sound (mark-kept-two ms k (record { turn = n; upper = false }) (record { turn = n; upper = true })) (mark-put-first ms k n (length ts) (record { turn = n; upper = true }) (sym len) (omega (arith, room))) (mark-put (set ms k (record { turn = n; upper = false })) (k + 1) n (length ts) true (sym len) (omega (arith, room, length-set ms k (record { turn = n; upper = false })))))

pub returns-else-k-blocks-clause-laid : goal.returns-else-k-blocks-clause-laid
returns-else-k-blocks-clause-laid c = λ some av.
    let bs = c.args.blocks.now in
    let k = c.args.k in
    let n = c.args.count in
    let step = c.args.step in
    let ms : List Mark = c.args.marks.now in
    let ss : List Span = c.args.spans.now in
    let ts : List Turn = map (turn_of av) (take n ss) in
    let s : Span = record { unit = (block_at bs k).unit; least = (block_at bs k).capacity / step; full = (block_at bs k).capacity / step } in
    let t : Turn = turn_of av s in
    let new : IsNew (block_at bs k).unit (take k bs) = c.is_new.ensures c.if-not-is_new.false in
    let within : n < length ss = omega (arith, c.requires.few, c.requires.within, c.requires.spans) in
    let len : length ts ≡ n = length-map (take n ss) (turn_of av) ∙ length-take-le n ss (omega (arith, within)) in
    let put : map (turn_of av) (take (n + 1) (set ss n s)) ≡ ts ++ t ∷ [] = ap (map (turn_of av)) (take_more_set ss n s within) ∙ map-append (turn_of av) (take n ss) (s ∷ []) in
    let sound : IsTurn t = record { order = omega arith; cells = omega (arith, block_fits step bs k c.requires.within, c.requires.cells); rate = omega arith } in
    subst (λ xs. IsLaid step av bs (k + 1) xs (set ms k (record { turn = n; upper = false }))) (sym put) (laid-one step av bs k ts ms t _ (c.requires.laid av) c.requires.within new refl refl refl sound (mark-kept ms k (record { turn = n; upper = false })) (mark-put ms k n (length ts) false (sym len) (omega (arith, c.requires.within, c.requires.marks))))
