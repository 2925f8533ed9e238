-- What engines did that only detailed years, over calls one after the other.
use Rattle.std.proofs.Common.{◌≡◌, ◌∙◌, sym, subst, ap, ℕ, ◌+◌, List, [], ◌∷◌, add-one, append-nil}
use Rattle.std.specs.List.Sorted.{IsPermutation}
use Rattle.std.proofs.lemmas.List.Sorted.{IsPermutation-trans}
use Rattle.sim_engine.specs.Engine.{Run, Work, counted, raised, with_detail}
use Rattle.sim_sweep.specs.Works.{EachWorked, HasWorked, HaveWorked, all_runs}
use Rattle.sim_sweep.proofs.TogetherSteps.{first_worked, together_none, together_then}
use Rattle.sim_sweep.proofs.WorkSteps.{worked_none}
use Rattle.case_study.specs.Inner.{HaveDetailed, OnlyDetails}

-- ---- one engine

pub details_then : (a b c : Work) → OnlyDetails a b → OnlyDetails b c → OnlyDetails a c
details_then a b c one other = other ∙ ap (λ (w : Work). record w { detailed = c.detailed }) one

-- a count and one more
pub raised_more : (k start before now : ℕ) → before ≡ raised k start → now ≡ counted before → now ≡ raised (k + 1) start
raised_more k start before now so_far one = one ∙ ap counted so_far ∙ ap (λ (n : ℕ). raised n start) (sym (add-one k))

-- so many years, one after the other
pub details_worked : (n : ℕ) (w v : Work) → v.detailed ≡ raised n w.detailed → OnlyDetails w v → HaveWorked [] n (w ∷ []) (v ∷ [])
details_worked n w v count is =
    let idle = worked_none w in
    let rose : HasWorked [] n w (record w { detailed = v.detailed }) = record { simulated = idle.simulated; detailed = count; tape = idle.tape; gains = idle.gains } in
    first_worked [] n w v [] (subst (HasWorked [] n w) (sym is) rose)

-- ---- some engines

pub detailed_none : (ws : List Work) → HaveDetailed ws ws
detailed_none ws = record { years = 0; worked = together_none ws }

-- an engine that stayed as it was
pub detailed_still : (w v : Work) → v ≡ w → HaveDetailed (w ∷ []) (v ∷ [])
detailed_still w v same = subst (λ (z : Work). HaveDetailed (w ∷ []) (z ∷ [])) (sym same) (detailed_none (w ∷ []))

-- an engine that detailed a year behind a call that left its work as it was
pub detailed_one : (w u v : Work) → u ≡ w → v ≡ with_detail u → HaveDetailed (w ∷ []) (v ∷ [])
detailed_one w u v same is =
    let on : v ≡ with_detail w = is ∙ ap with_detail same in
    let details : OnlyDetails w v = on ∙ ap (λ (n : ℕ). record w { detailed = n }) (sym (ap (λ (z : Work). z.detailed) on)) in
    record { years = 1; worked = details_worked 1 w v (ap (λ (z : Work). z.detailed) on) details }

pub detailed_then : (a b c : List Work) → HaveDetailed a b → HaveDetailed b c → HaveDetailed a c
detailed_then a b c one other = record { years = one.years + other.years; worked = together_then [] [] one.years other.years a b c one.worked other.worked }

-- ---- the first of some engines, and the others nothing

share_of : (shares : List (List Run)) (n : ℕ) (w v : Work) → EachWorked shares n (w ∷ []) (v ∷ []) → (share : List Run) × HasWorked share n w v × (all_runs shares ≡ share)
share_of [] n w v h = elim h [ ]
share_of (share ∷ []) n w v h = (share, h.0, append-nil share)
share_of (share ∷ other ∷ shares) n w v h = elim h.1 [ ]

pub with_idle : (n : ℕ) (w v : Work) (ws : List Work) → HaveWorked [] n (w ∷ []) (v ∷ []) → HaveWorked [] n (w ∷ ws) (v ∷ ws)
with_idle n w v ws h =
    let one = share_of h.shares n w v h.each in
    let all = first_worked one.0 n w v ws one.1 in
    record {
      shares = all.shares;
      each = all.each;
      whole = IsPermutation-trans [] one.0 (all_runs all.shares) (subst (IsPermutation []) one.2 h.whole) all.whole;
    }

pub detailed_first : (w v : Work) (ws : List Work) → HaveDetailed (w ∷ []) (v ∷ []) → HaveDetailed (w ∷ ws) (v ∷ ws)
detailed_first w v ws h = record { years = h.years; worked = with_idle h.years w v ws h.worked }
