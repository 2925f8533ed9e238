-- What an engine did over calls one after the other.
use Rattle.std.proofs.Common.{◌≡◌, ℕ, ◌+◌, ◌<◌, List, [], ◌∷◌, ◌++◌, length, get_or, take, Option, Some, Contains, IsSome, refl, sym, ap, ◌∙◌, subst, arith}
use Rattle.std.proofs.lemmas.List.{append-nil, append_assoc, length-append}
use Rattle.std.proofs.lemmas.List.Elements.{All-head, filter_map-append}
use Rattle.std.proofs.lemmas.Option.{same_Some}
use Rattle.board_core.specs.declared.row.KeptRow.{KeptRow}
use Rattle.sim_engine.specs.Engine.{Run, Tape, Tells, TellsToo, Work, raised, with_run}
use Rattle.sim_engine.proofs.CountSteps.{raised_then}
use Rattle.wasp_fixed.proofs.Lists.{all_split}
use Rattle.sim_sweep.specs.Demands.{new_demands, run_in, runs_of}
use Rattle.sim_sweep.specs.Filling.{Fills, Gains}
use Rattle.sim_sweep.specs.Told.{CanTell}
use Rattle.sim_sweep.specs.Works.{HasWorked}
use Rattle.sim_sweep.specs.declared.demand.Demand.{Demand}
use Rattle.sim_sweep.proofs.FillSteps.{new_more}
use Rattle.year_system.specs.System.{System}

-- an engine that ran nothing gained nothing
gains_none : (tape : Option Tape) (runs : Option (List Run)) → Gains tape runs runs []
gains_none tape runs = record {
  told = λ t. rw (append-nil t.before) t.runs_are;
  only = λ now told. record { was = now; told = told; is = sym (append-nil now) };
}

gains_then : (tape : Option Tape) (a b c : Option (List Run)) (xs ys : List Run) → Gains tape a b xs → Gains tape b c ys → Gains tape a c (xs ++ ys)
gains_then tape a b c xs ys one other = record {
  told = λ t.
      let has = all_split (λ (r : Run). Contains t.on.systems r.0) xs ys t.has in
      let first : CanTell tape a xs = record { on = t.on; before = t.before; tape_is = t.tape_is; runs_are = t.runs_are; has = has.0; free = let e = length-append xs ys in let f = t.free in omega (arith, e, f) } in
      let then : CanTell tape b ys = record { on = t.on; before = t.before ++ xs; tape_is = t.tape_is; runs_are = one.told first; has = has.1; free = let e = length-append xs ys in let f = t.free in let g = length-append t.before xs in omega (arith, e, f, g) } in
      other.told then ∙ ap Some (append_assoc t.before xs ys);
  only = λ now told.
      let later = other.only now told in
      let first = one.only later.was later.told in
      record { was = first.was; told = first.told; is = later.is ∙ (ap (λ zs. zs ++ ys) first.is ∙ append_assoc first.was xs ys) };
}

-- what an engine tells that ran one system with a configuration
gains_one : (w : Work) (after : Option (List Run)) (s : System) (counts : List ℕ) → ((t : Tells w s) → after ≡ Some (t.before ++ (s, counts) ∷ [])) → (IsSome after → Tells w s) → Gains w.tape w.runs after ((s, counts) ∷ [])
gains_one w after s counts told only = record {
  told = λ t.
      let f = t.free in
      let one : Tells w s = record { on = t.on; before = t.before; tape_is = t.tape_is; runs_are = t.runs_are; has = All-head (λ (r : Run). Contains t.on.systems r.0) (s, counts) [] t.has; free = omega (arith, f) } in
      told one;
  only = λ now is.
      let t = only (rw is refl) in
      record { was = t.before; told = t.runs_are; is = same_Some _ _ (sym is ∙ told t) };
}

-- nothing was done
pub worked_none : (w : Work) → HasWorked [] 0 w w
worked_none w = record { simulated = refl; detailed = refl; tape = refl; gains = gains_none w.tape w.runs }

-- two calls one after the other
pub worked_then : (xs ys : List Run) (m n : ℕ) (a b c : Work) → HasWorked xs m a b → HasWorked ys n b c → HasWorked (xs ++ ys) (m + n) a c
worked_then xs ys m n a b c one other = record {
  simulated = other.simulated ∙ (ap (raised (length ys)) one.simulated ∙ (raised_then (length xs) (length ys) a.simulated ∙ ap (λ (k : ℕ). raised k a.simulated) (sym (length-append xs ys))));
  detailed = other.detailed ∙ (ap (raised n) one.detailed ∙ raised_then m n a.detailed);
  tape = other.tape ∙ one.tape;
  gains = gains_then a.tape a.runs b.runs c.runs xs ys one.gains (subst (λ (t : Option Tape). Gains t b.runs c.runs ys) one.tape other.gains);
}

-- one run
pub run_worked : (w v : Work) (s : System) (counts : List ℕ) → v ≡ with_run w v.runs → TellsToo (s, counts) w v → (IsSome v.runs → Tells w s) → HasWorked ((s, counts) ∷ []) 0 w v
run_worked w v s counts is told only = record {
  simulated = ap (λ (x : Work). x.simulated) is;
  detailed = ap (λ (x : Work). x.detailed) is;
  tape = ap (λ (x : Work). x.tape) is;
  gains = gains_one w v.runs s counts told only;
}

-- one demand more of a list
pub worked_more : (book : List System) (a b : List KeptRow) (ds : List Demand) (i : ℕ) (d : Demand) (u v w : Work) → i < length ds → d ≡ get_or ds i d → Fills book a b (take i ds) → HasWorked (runs_of book (new_demands a (take i ds))) 0 u v → HasWorked (runs_of book (new_demands b (d ∷ []))) 0 v w → HasWorked (runs_of book (new_demands a (take (i + 1) ds))) 0 u w
worked_more book a b ds i d u v w within read one first other =
    rw (new_more book a b ds i d within read one, filter_map-append (run_in book) (new_demands a (take i ds)) (new_demands b (d ∷ [])))
    (worked_then _ _ 0 0 u v w first other)
