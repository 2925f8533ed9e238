-- What the rows that a sweep leaves are to a shelf.
use Rattle.std.proofs.Common.{◌≡◌, ◌≢◌, ◌∙◌, sym, subst, ℕ, ◌+◌, ◌⊎◌, inl, inr, ⊎_elim, List, All, Contains, IsSome, IsTrue, IfOk, OnOk, Result, Ok, Err, Some, length, map, arith}
use Rattle.std.specs.List.{AllPairs}
use Rattle.std.proofs.lemmas.Bool.{cases_lt}
use Rattle.std.proofs.lemmas.List.Elements.{All-contains}
use Rattle.std.proofs.lemmas.Option.{get_or_from_slice_get, slice_get_within}
use Rattle.board_core.specs.declared.row.KeptRow.{KeptRow}
use Rattle.board_core.specs.declared.row.Words.{Words}
use Rattle.sim_engine.specs.Engine.{Run, Work}
use Rattle.sim_sweep.specs.Demands.{IsDemand, IsFilled, NewCodesComeOnce, is_demanded, new_demands, run_in, runs_of}
use Rattle.sim_sweep.specs.Kept.{AreDue, words_in}
use Rattle.sim_sweep.specs.Works.{HaveWorked}
use Rattle.sim_sweep.specs.declared.demand.Demand.{Demand}
use Rattle.row_shelf.proofs.AskSteps.{all_asked, are_demands, are_keys}
use Rattle.row_shelf.proofs.KeySteps.{adds_keys}
use Rattle.row_shelf.proofs.WantedSteps.{kept_held, wanted_all, wanted_in, wanted_or_kept}
use Rattle.row_shelf.specs.Adds.{FillsCases}
use Rattle.row_shelf.specs.Asked.{FitBook, IsAsked}
use Rattle.row_shelf.specs.Demands.{AreOnes, AreWanted, all_demands}
use Rattle.row_shelf.specs.Shelf.{Holds}
use Rattle.year_system.specs.System.{IsSystem, System}

pub ones : (book : List System) → AllPairs (λ s t. s ≢ t) book → AreOnes book
ones book apart i j s a b = ⊎_elim
    (λ before. absurd (apart i j s before (slice_get_within book j s b) (get_or_from_slice_get book i s s a ∙ sym (get_or_from_slice_get book j s s b))))
    (λ from. ⊎_elim
    (λ before. absurd (apart j i s before (slice_get_within book i s a) (get_or_from_slice_get book j s s b ∙ sym (get_or_from_slice_get book i s s a))))
    (λ other. omega (arith, from, other))
    (cases_lt j i))
    (cases_lt i j)

-- what keeping rows says of some demands
pub record HasKept (book : List System) (kept now : List KeptRow) (ds : List Demand) : Type 0 where
  pub filled : All (IsFilled book now) ds
  pub stays : (code : ℕ) (words : Words) → words_in kept code ≡ Some words → words_in now code ≡ Some words
  pub only : (code : ℕ) → IsSome (words_in now code) → IsSome (words_in kept code) ⊎ IsTrue (is_demanded ds code)
  pub many : length now ≡ length kept + length (new_demands kept ds)

-- an asked key was held before, or is that of a wanted demand
held_or_wanted : (book : List System) (kept : List KeptRow) (ids : List ℕ) (cases : List (List (List (List ℕ)))) (ds : List Demand) (key : Run)
    → All IsSystem book → AreDue book kept → All (FitBook book ids) cases → AreWanted kept (all_demands book ids cases) ds → IsAsked book ids cases key
    → Holds (record { book = book; kept = kept }) key ⊎ ((d : Demand) × Contains ds d × (run_in book d ≡ Some key))
held_or_wanted book kept ids cases ds key systems due fit wants asked =
    let all = all_demands book ids cases in
    let d = all_asked book ids cases key asked in
    ⊎_elim (λ has. inr (d.0, has, d.2))
    (λ w. inl (kept_held book kept d.0 w.0 key systems due (All-contains (IsDemand book) all d.0 (are_demands book ids cases fit) d.1) w.1 d.2))
    (wanted_or_kept kept all ds d.0 wants d.1)

pub fills : {X : Type 0} (work : X → Work) → NewCodesComeOnce → (book : List System) (kept now : List KeptRow) (ids : List ℕ) (cases : List (List (List (List ℕ)))) (ds : List Demand) (es ms fs : List X)
    → AllPairs (λ s t. s ≢ t) book → All IsSystem book → AreDue book kept → All (FitBook book ids) cases → AreWanted kept (all_demands book ids cases) ds → map work ms ≡ map work es
    → HasKept book kept now ds → HaveWorked (runs_of book (new_demands kept ds)) 0 (map work ms) (map work fs)
    → FillsCases ids cases (record { book = book; kept = kept }) (record { book = book; kept = now }) work es fs
fills {X} work come_once book kept now ids cases ds es ms fs apart systems due fit wants same has worked =
    let all = all_demands book ids cases in
    record {
      new = runs_of book (new_demands kept ds);
      adds = adds_keys come_once (IsAsked book ids cases) book kept now ds (ones book apart) systems (wanted_all (IsDemand book) kept all ds wants (are_demands book ids cases fit)) has.filled has.stays has.only has.many
          (λ e key in_them run. All-contains (λ (z : Demand). (k : Run) → run_in book z ≡ Some k → IsAsked book ids cases k) all e (are_keys book ids cases fit) (wanted_in kept all ds e wants in_them) key run)
          (λ key asked. held_or_wanted book kept ids cases ds key systems due fit wants asked);
      worked = subst (λ (ws : List Work). HaveWorked (runs_of book (new_demands kept ds)) 0 ws (map work fs)) same worked;
    }

pub on_ok5 : {V E : Type 0} (r : Result V E) (P Q R S T U : Type 0) → OnOk r P → OnOk r Q → OnOk r R → OnOk r S → OnOk r T → (P → Q → R → S → T → U) → OnOk r U
on_ok5 (Ok v) P Q R S T U p q r s t f = f p q r s t
on_ok5 (Err e) P Q R S T U p q r s t f = tt

pub if_ok : {V E : Type 0} (r : Result V E) (P Q : V → Type 0) → ((v : V) → P v → Q v) → IfOk r P → IfOk r Q
if_ok (Ok v) P Q h p = h v p
if_ok (Err e) P Q h p = tt

pub if_ok2 : {V E : Type 0} (r : Result V E) (P Q R : V → Type 0) → ((v : V) → P v → Q v → R v) → IfOk r P → IfOk r Q → IfOk r R
if_ok2 (Ok v) P Q R h p q = h v p q
if_ok2 (Err e) P Q R h p q = tt

pub on_ok2 : {V E : Type 0} (r : Result V E) (P Q R : Type 0) → OnOk r P → OnOk r Q → (P → Q → R) → OnOk r R
on_ok2 (Ok v) P Q R p q f = f p q
on_ok2 (Err e) P Q R p q f = tt
