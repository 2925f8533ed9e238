-- One unit more of blocks whose units are loaded one after the other.
use Rattle.std.proofs.Common.{◌≡◌, ℕ, Bool, set, suc, ◌+◌, ◌-◌, ◌/◌, ◌<◌, ◌++◌, ◌==◌, cond, true, false, List, [], ◌∷◌, length, get_or, map, take, sym, ap, subst, ◌∙◌, arith, refl, inl, inr, length-append, eq-eqb}
use Rattle.std.specs.List.{AllByRecursion}
use Rattle.std.proofs.lemmas.Bool.{cases_lt, ne_eqb}
use Rattle.std.proofs.lemmas.Grind.{common_steps}
use Rattle.std.proofs.lemmas.List.{map-append, take-append-le, take_more, take_all}
use Rattle.std.proofs.lemmas.List.Elements.{All-push}
use Rattle.std.proofs.lemmas.List.Sums.{sum_by_push}
use Rattle.wasp_fixed.specs.declared.numbers.TheConstants.{M}
use Rattle.convolution.specs.EquivalentLoad.{Part}
use Rattle.loading_order.specs.declared.blocks.Block.{Block}
use Rattle.sim_engine.specs.Loading.{cells_in, loaded, no_block, others, units_in}
use Rattle.sim_engine.specs.Stack.{grown, place_of, parts_of}
use Rattle.sim_engine.specs.Stack as Stacks
use Rattle.sim_engine.specs.declared.stack.Loaded.{Loaded}
use Rattle.sim_engine.proofs.BlockParts.{all_units, loaded-parts, new_of, others_other, others_same, part, parts_of-more}
use Rattle.sim_engine.proofs.BlockSteps.{block_sum}
use Rattle.sim_engine.proofs.StackSteps.{grown-last, more}
use Rattle.sim_fast.specs.Behind.{cells_of}
use Rattle.sim_fast.specs.Turns.{IsTurn, part_of, turn_at}
use Rattle.sim_fast.specs.declared.turn.Turn.{Turn}
use Rattle.sim_engine.specs.Laid.{IsLaid, IsNew, IsPlaced, below, block_at, mark_at, up_to}
use Rattle.sim_engine.specs.declared.lay.Mark.{Mark}

-- the others of a new unit are all
pub others-new : (u : ℕ) (bs : List Block) → IsNew u bs → others u bs ≡ bs
others-new u [] h = refl
others-new u (b ∷ bs) h = others_other u b bs h.0 ∙ ap (λ cs. b ∷ cs) (others-new u bs h.1)

-- and those before one block of it
pub others-one : (u : ℕ) (bs : List Block) (a : Block) → IsNew u bs → a.unit ≡ u → others u (bs ++ a ∷ []) ≡ bs
others-one u [] a h e = others_same u a [] e
others-one u (b ∷ bs) a h e = others_other u b (bs ++ a ∷ []) h.0 ∙ ap (λ cs. b ∷ cs) (others-one u bs a h.1 e)

-- no part is of a new unit
parts-new : (u : ℕ) (f : ℕ → Loaded) → ((v : ℕ) → (f v).unit ≡ v) → (us : List ℕ) → AllByRecursion (λ v. v ≡ u → ⊥) us → place_of u (map f us) ≡ length (map f us)
parts-new u f unit [] h = refl
parts-new u f unit (v ∷ us) h =
    ap (λ t. cond t 0 (suc (place_of u (map f us)))) (ne_eqb (f v).unit u (λ e. h.0 (sym (unit v) ∙ e))) ∙ ap suc (parts-new u f unit us h.1)

place-new : (step : ℕ) (av : List ℕ) (u : ℕ) (bs : List Block) → IsNew u bs → place_of u (parts_of step av bs) ≡ length (parts_of step av bs)
place-new step av u bs h = parts-new u (part step av bs) (λ v. refl) (units_in bs) (all_units (λ v. v ≡ u → ⊥) bs h)

-- the part that one block more of a new unit adds
parts-first : (step : ℕ) (av : List ℕ) (bs : List Block) (b : Block) → IsNew b.unit bs → parts_of step av (bs ++ b ∷ []) ≡ parts_of step av bs ++ new_of step av b ∷ []
parts-first step av bs b h =
    parts_of-more step av bs b ∙ grown-last (new_of step av b) (parts_of step av bs) (omega (arith, place-new step av b.unit bs h))

grown-end : (new : Loaded) (ps : List Loaded) (p : Loaded) → place_of new.unit ps ≡ length ps → p.unit ≡ new.unit → grown new (ps ++ p ∷ []) ≡ ps ++ more new p ∷ []
grown-end new [] p h e = ap (λ t. cond t (more new p ∷ []) (p ∷ new ∷ [])) (eq-eqb p.unit new.unit e)
grown-end new (q ∷ ps) p h e =
    elim (q.unit == new.unit) as (λ t. cond t 0 (suc (place_of new.unit ps)) ≡ suc (length ps) → cond t (more new q ∷ (ps ++ p ∷ [])) (q ∷ grown new (ps ++ p ∷ [])) ≡ q ∷ (ps ++ more new p ∷ [])) [
      | true ↦ λ l. absurd (omega (arith, l))
      | false ↦ λ l. ap (λ qs. q ∷ qs) (grown-end new ps p (omega (arith, l)) e)
    ] h

parts-second : (step : ℕ) (av : List ℕ) (bs : List Block) (a b : Block) → IsNew b.unit bs → a.unit ≡ b.unit → parts_of step av ((bs ++ a ∷ []) ++ b ∷ []) ≡ parts_of step av bs ++ more (new_of step av b) (new_of step av a) ∷ []
parts-second step av bs a b h e =
    let n : IsNew a.unit bs = subst (λ u. IsNew u bs) (sym e) h in
    parts_of-more step av (bs ++ a ∷ []) b
    ∙ (ap (grown (new_of step av b)) (parts-first step av bs a n)
    ∙ grown-end (new_of step av b) (parts_of step av bs) (new_of step av a) (place-new step av b.unit bs h) e)

-- the lists of the definition
pub loaded-first : (step : ℕ) (av : List ℕ) (bs : List Block) (b : Block) → IsNew b.unit bs → loaded step av (bs ++ b ∷ []) ≡ loaded step av bs ++ record { capacity = b.capacity / step; rate = M - get_or av b.unit 0 } ∷ []
loaded-first step av bs b h =
    let f : Loaded → Part = Stacks.part_of in
    sym (loaded-parts step av (bs ++ b ∷ []))
    ∙ (ap (map f) (parts-first step av bs b h)
    ∙ (map-append f (parts_of step av bs) (new_of step av b ∷ []) ∙ ap (λ ps. ps ++ f (new_of step av b) ∷ []) (loaded-parts step av bs)))

pub loaded-second : (step : ℕ) (av : List ℕ) (bs : List Block) (a b : Block) → IsNew b.unit bs → a.unit ≡ b.unit → loaded step av ((bs ++ a ∷ []) ++ b ∷ []) ≡ loaded step av bs ++ record { capacity = a.capacity / step + b.capacity / step; rate = M - get_or av a.unit 0 } ∷ []
loaded-second step av bs a b h e =
    let f : Loaded → Part = Stacks.part_of in
    sym (loaded-parts step av ((bs ++ a ∷ []) ++ b ∷ []))
    ∙ (ap (map f) (parts-second step av bs a b h e)
    ∙ (map-append f (parts_of step av bs) (more (new_of step av b) (new_of step av a) ∷ []) ∙ ap (λ ps. ps ++ f (more (new_of step av b) (new_of step av a)) ∷ []) (loaded-parts step av bs)))

-- ---- turns, one more

take-snoc : (ts : List Turn) (t : Turn) → take (length ts) (ts ++ t ∷ []) ≡ ts
take-snoc ts t = take-append-le (length ts) ts (t ∷ []) (omega arith) ∙ take_all (length ts) ts (omega arith)

turn-last : (ts : List Turn) (t : Turn) → turn_at (ts ++ t ∷ []) (length ts) ≡ t
turn-last ts t = grind (arith, common_steps)

turn-before : (ts : List Turn) (t : Turn) (j : ℕ) → j < length ts → turn_at (ts ++ t ∷ []) j ≡ turn_at ts j
turn-before ts t j h = grind (arith, common_steps, h)

length-more : (ts : List Turn) (t : Turn) → length (ts ++ t ∷ []) ≡ length ts + 1
length-more ts t = omega (arith, length-append ts (t ∷ []))

parts-snoc : (ts : List Turn) (t : Turn) → map part_of (ts ++ t ∷ []) ≡ map part_of ts ++ part_of t ∷ []
parts-snoc ts t = map-append part_of ts (t ∷ [])

cells-snoc : (ts : List Turn) (t : Turn) → cells_of (map part_of (ts ++ t ∷ [])) ≡ cells_of (map part_of ts) + t.full
cells-snoc ts t = ap cells_of (parts-snoc ts t) ∙ sum_by_push (λ (p : Part). p.capacity) (map part_of ts) (part_of t)

-- a block that is placed stays so
placed-more : (step : ℕ) (av : List ℕ) (bs : List Block) (ts : List Turn) (t : Turn) (i : ℕ) (m : Mark) → IsPlaced step av bs ts i m → IsPlaced step av bs (ts ++ t ∷ []) i m
placed-more step av bs ts t i m p =
    let e : take m.turn (ts ++ t ∷ []) ≡ take m.turn ts = take-append-le m.turn ts (t ∷ []) (omega (arith, p.within)) in
    let f : turn_at (ts ++ t ∷ []) m.turn ≡ turn_at ts m.turn = turn-before ts t m.turn p.within in
    record {
      within = omega (arith, p.within, length-more ts t);
      others_are = p.others_are ∙ ap (map part_of) (sym e);
      from_is = p.from_is ∙ sym (λ x. cells_of (map part_of (e x)) + below m (f x));
      to_is = (λ x. below m (f x) + (block_at bs i).capacity / step) ∙ (p.to_is ∙ sym (ap (up_to m) f));
    }

-- the first block of a new unit
placed-first : (step : ℕ) (av : List ℕ) (bs : List Block) (k : ℕ) (ts : List Turn) (t : Turn) (m : Mark) → IsNew (block_at bs k).unit (take k bs) → t.least ≡ (block_at bs k).capacity / step → m ≡ record { turn = length ts; upper = false } → loaded step av (take k bs) ≡ map part_of ts → cells_in step (take k bs) ≡ cells_of (map part_of ts) → IsPlaced step av bs (ts ++ t ∷ []) k m
placed-first step av bs k ts t m new least is whole cells =
    let at : IsPlaced step av bs (ts ++ t ∷ []) k (record { turn = length ts; upper = false }) = record {
      within = omega (arith, length-more ts t);
      others_are = ap (loaded step av) (others-new (block_at bs k).unit (take k bs) new) ∙ (whole ∙ ap (map part_of) (sym (take-snoc ts t)));
      from_is = omega (arith, cells, ap (λ xs. cells_of (map part_of xs)) (take-snoc ts t));
      to_is = omega (arith, least, ap (λ (x : Turn). x.least) (turn-last ts t));
    } in
    subst (IsPlaced step av bs (ts ++ t ∷ []) k) (sym is) at

-- its second block
placed-second : (step : ℕ) (av : List ℕ) (bs : List Block) (k : ℕ) (ts : List Turn) (t : Turn) (m : Mark) → k + 1 < length bs → IsNew (block_at bs (k + 1)).unit (take k bs) → (block_at bs k).unit ≡ (block_at bs (k + 1)).unit → t.least ≡ (block_at bs k).capacity / step → t.full ≡ (block_at bs k).capacity / step + (block_at bs (k + 1)).capacity / step → m ≡ record { turn = length ts; upper = true } → loaded step av (take k bs) ≡ map part_of ts → cells_in step (take k bs) ≡ cells_of (map part_of ts) → IsPlaced step av bs (ts ++ t ∷ []) (k + 1) m
placed-second step av bs k ts t m h new same least full is whole cells =
    let u = (block_at bs (k + 1)).unit in
    let e : take (k + 1) bs ≡ take k bs ++ block_at bs k ∷ [] = take_more bs k no_block (omega (arith, h)) in
    let o : others u (take (k + 1) bs) ≡ take k bs = ap (others u) e ∙ others-one u (take k bs) (block_at bs k) new same in
    let at : IsPlaced step av bs (ts ++ t ∷ []) (k + 1) (record { turn = length ts; upper = true }) = record {
      within = omega (arith, length-more ts t);
      others_are = ap (loaded step av) o ∙ (whole ∙ ap (map part_of) (sym (take-snoc ts t)));
      from_is = omega (arith, block_sum step bs k (omega (arith, h)), cells, least, ap (λ xs. cells_of (map part_of xs)) (take-snoc ts t), ap (λ (x : Turn). x.least) (turn-last ts t));
      to_is = omega (arith, least, full, ap (λ (x : Turn). x.least) (turn-last ts t), ap (λ (x : Turn). x.full) (turn-last ts t));
    } in
    subst (IsPlaced step av bs (ts ++ t ∷ []) (k + 1)) (sym is) at

-- ---- blocks, a unit more

pub laid-one : (step : ℕ) (av : List ℕ) (bs : List Block) (k : ℕ) (ts : List Turn) (ms : List Mark) (t : Turn) (ms' : List Mark) → IsLaid step av bs k ts ms → k < length bs → IsNew (block_at bs k).unit (take k bs) → t.least ≡ (block_at bs k).capacity / step → t.full ≡ (block_at bs k).capacity / step → t.rate ≡ M - get_or av (block_at bs k).unit 0 → IsTurn t → ((i : ℕ) → i < k → mark_at ms' i ≡ mark_at ms i) → mark_at ms' k ≡ record { turn = length ts; upper = false } → IsLaid step av bs (k + 1) (ts ++ t ∷ []) ms'
laid-one step av bs k ts ms t ms' s h new least full rate sound kept is =
    let b = block_at bs k in
    let p : Part = record { capacity = b.capacity / step; rate = M - get_or av b.unit 0 } in
    let q : p ≡ part_of t = sym (λ i. record { capacity = full i; rate = rate i }) in
    record {
      whole = ap (loaded step av) (take_more bs k no_block h) ∙ (loaded-first step av (take k bs) b new ∙ ((λ i. s.whole i ++ q i ∷ []) ∙ sym (parts-snoc ts t)));
      cells = omega (arith, block_sum step bs k h, s.cells, cells-snoc ts t, full);
      places = λ i lt. elim (cases_lt i k) [
        | inl before ↦ subst (IsPlaced step av bs (ts ++ t ∷ []) i) (sym (kept i before)) (placed-more step av bs ts t i (mark_at ms i) (s.places i before))
        | inr after ↦
            let e : i ≡ k = omega (arith, lt, after) in
            subst (λ j. IsPlaced step av bs (ts ++ t ∷ []) j (mark_at ms' j)) (sym e) (placed-first step av bs k ts t (mark_at ms' k) new least is s.whole s.cells)
      ];
      sound = All-push IsTurn ts t s.sound sound;
    }

pub laid-both : (step : ℕ) (av : List ℕ) (bs : List Block) (k : ℕ) (ts : List Turn) (ms : List Mark) (t : Turn) (ms' : List Mark) → IsLaid step av bs k ts ms → k + 1 < length bs → IsNew (block_at bs k).unit (take k bs) → (block_at bs (k + 1)).unit ≡ (block_at bs k).unit → t.least ≡ (block_at bs k).capacity / step → t.full ≡ (block_at bs k).capacity / step + (block_at bs (k + 1)).capacity / step → t.rate ≡ M - get_or av (block_at bs k).unit 0 → IsTurn t → ((i : ℕ) → i < k → mark_at ms' i ≡ mark_at ms i) → mark_at ms' k ≡ record { turn = length ts; upper = false } → mark_at ms' (k + 1) ≡ record { turn = length ts; upper = true } → IsLaid step av bs (k + 2) (ts ++ t ∷ []) ms'
laid-both step av bs k ts ms t ms' s h new same least full rate sound kept is is' =
    let a = block_at bs k in
    let b = block_at bs (k + 1) in
    let new' : IsNew b.unit (take k bs) = subst (λ u. IsNew u (take k bs)) (sym same) new in
    let two : k + 1 + 1 ≡ k + 2 = omega arith in
    let e : take (k + 2) bs ≡ (take k bs ++ a ∷ []) ++ b ∷ [] = ap (λ n. take n bs) (sym two) ∙ (take_more bs (k + 1) no_block h ∙ ap (λ xs. xs ++ b ∷ []) (take_more bs k no_block (omega (arith, h)))) in
    let p : Part = record { capacity = a.capacity / step + b.capacity / step; rate = M - get_or av a.unit 0 } in
    let q : p ≡ part_of t = sym (λ i. record { capacity = full i; rate = rate i }) in
    let c : cells_in step (take (k + 2) bs) ≡ cells_in step (take (k + 1) bs) + b.capacity / step = ap (λ n. cells_in step (take n bs)) (sym two) ∙ block_sum step bs (k + 1) h in
    record {
      whole = ap (loaded step av) e ∙ (loaded-second step av (take k bs) a b new' (sym same) ∙ ((λ i. s.whole i ++ q i ∷ []) ∙ sym (parts-snoc ts t)));
      cells = omega (arith, c, block_sum step bs k (omega (arith, h)), s.cells, cells-snoc ts t, full);
      places = λ i lt. elim (cases_lt i k) [
        | inl before ↦ subst (IsPlaced step av bs (ts ++ t ∷ []) i) (sym (kept i before)) (placed-more step av bs ts t i (mark_at ms i) (s.places i before))
        | inr after ↦ elim (cases_lt i (k + 1)) [
          | inl low ↦
              let e : i ≡ k = omega (arith, low, after) in
              subst (λ j. IsPlaced step av bs (ts ++ t ∷ []) j (mark_at ms' j)) (sym e) (placed-first step av bs k ts t (mark_at ms' k) new least is s.whole s.cells)
          | inr high ↦
              let e : i ≡ k + 1 = omega (arith, lt, high) in
              subst (λ j. IsPlaced step av bs (ts ++ t ∷ []) j (mark_at ms' j)) (sym e) (placed-second step av bs k ts t (mark_at ms' (k + 1)) h new' (sym same) least full is' s.whole s.cells)
        ]
      ];
      sound = All-push IsTurn ts t s.sound sound;
    }

-- ---- marks that are written

pub mark-put : (ms : List Mark) (k n j : ℕ) (u : Bool) → n ≡ j → k < length ms → mark_at (set ms k (record { turn = n; upper = u })) k ≡ record { turn = j; upper = u }
mark-put ms k n j u e h = let s : mark_at (set ms k (record { turn = n; upper = u })) k ≡ record { turn = n; upper = u } = grind (arith, common_steps, h) in s ∙ ap (λ m. record { turn = m; upper = u }) e

pub mark-kept : (ms : List Mark) (k : ℕ) (m : Mark) (i : ℕ) → i < k → mark_at (set ms k m) i ≡ mark_at ms i
mark-kept ms k m i h = grind (arith, common_steps, h)

pub mark-kept-two : (ms : List Mark) (k : ℕ) (m m' : Mark) (i : ℕ) → i < k → mark_at (set (set ms k m) (k + 1) m') i ≡ mark_at ms i
mark-kept-two ms k m m' i h = mark-kept (set ms k m) (k + 1) m' i (omega (arith, h)) ∙ mark-kept ms k m i h

pub mark-put-first : (ms : List Mark) (k n j : ℕ) (m' : Mark) → n ≡ j → k < length ms → mark_at (set (set ms k (record { turn = n; upper = false })) (k + 1) m') k ≡ record { turn = j; upper = false }
mark-put-first ms k n j m' e h = mark-kept (set ms k (record { turn = n; upper = false })) (k + 1) m' k (omega arith) ∙ mark-put ms k n j false e h
