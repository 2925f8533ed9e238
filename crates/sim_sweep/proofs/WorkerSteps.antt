-- A worker over demands, one after the other.
use Rattle.std.proofs.Common.{◌≡◌, ℕ, ◌+◌, ◌<◌, List, [], ◌∷◌, ◌++◌, length, take, drop, get_or, Some, IsSome, slice_get, sym, refl, ap, ◌∙◌, subst, inl, ⊎_elim, arith, append_assoc, append-nil, length-append}
use Rattle.std.proofs.lemmas.List.{map-append, take-append-drop, take_more}
use Rattle.std.proofs.lemmas.List.Elements.{filter_map-append}
use Rattle.std.proofs.lemmas.Option.{same_Some}
use Rattle.board_core.specs.Lists.{IsIn}
use Rattle.board_core.specs.Events.{publishes}
use Rattle.board_core.proofs.Lists.{is_in-append, is_in-left, is_in-right}
use Rattle.sim_board.specs.Answers.{view_of}
use Rattle.sim_board.specs.Seats.{BoardIs, SeatIs, with_actor}
use Rattle.sim_board.specs.Told.{Grew, Took}
use Rattle.plant_data.specs.Rows.{IsRow}
use Rattle.sim_engine.specs.Row.{row_of}
use Rattle.sim_engine.specs.Engine.{Run, Tells, TellsToo, with_run}
use Rattle.sim_sweep.specs.Demands.{run_in, runs_of}
use Rattle.sim_sweep.specs.Works.{HasWorked}
use Rattle.sim_sweep.specs.Workers.{EngineIs, HasSwept, IsReady, Simulated, demands_got, made_of, slots_got}
use Rattle.sim_sweep.specs.declared.demand.Demand.{Demand}
use Rattle.sim_sweep.proofs.FillSteps.{run_of_one}
use Rattle.sim_sweep.proofs.WorkSteps.{run_worked, worked_none, worked_then}
use Rattle.year_system.specs.System.{System}

module _ {X : Type 0} (of : EngineIs X) (book : List System) where
  pub simulated_none : (e : X) → Simulated of book [] e e
  simulated_none e = record { worked = worked_none (of.work e); room = refl; bounds = λ d s i. elim i [ ] }

  pub simulated_then : (xs ys : List Demand) (e f g : X) → Simulated of book xs e f → Simulated of book ys f g → Simulated of book (xs ++ ys) e g
  simulated_then xs ys e f g a b = record {
    worked = subst (λ (l : List Run). HasWorked l 0 (of.work e) (of.work g)) (sym (filter_map-append (run_in book) xs ys)) (worked_then (runs_of book xs) (runs_of book ys) 0 0 (of.work e) (of.work f) (of.work g) a.worked b.worked);
    room = b.room ∙ a.room;
    bounds = λ d s i. ⊎_elim (λ (l : IsIn d xs). a.bounds d s l) (λ (r : IsIn d ys). b.bounds d s r) (is_in-append d xs ys i);
  }

  -- one run more
  pub ran_one : (d : Demand) (y : System) (e f : X) → slice_get book d.id ≡ Some y → of.work f ≡ with_run (of.work e) (of.work f).runs → TellsToo (y, d.config) (of.work e) (of.work f) → (IsSome (of.work f).runs → Tells (of.work e) y)
      → of.room f ≡ of.room e → IsRow (row_of y d.config) → Simulated of book (d ∷ []) e f
  ran_one d y e f at more told only room bounds = record {
    worked = subst (λ (l : List Run). HasWorked l 0 (of.work e) (of.work f)) (sym (run_of_one book d y at)) (run_worked (of.work e) (of.work f) y d.config more told only);
    room = room;
    bounds = λ z s i at_z. ⊎_elim
        (λ (same : z ≡ d). let system : y ≡ s = same_Some y s (sym at ∙ (ap (λ (q : Demand). slice_get book q.id) (sym same) ∙ at_z)) in subst IsRow (λ k. row_of (system k) (sym same k).config) bounds)
        (λ n. elim n [ ])
        i;
  }

  pub swept_none : (s : SeatIs) (e : X) → HasSwept of book [] s s e e
  swept_none s e = record {
    got = [];
    made = sym (append-nil s.actor.made);
    saw = λ slot d i. elim i [ ];
    few = omega arith;
    simulated = simulated_none e;
    share = refl;
    seen = λ slot x i. i;
    all = λ d i. elim i [ ];
  }

  pub swept_then : (xs ys : List Demand) (s t u : SeatIs) (e f g : X) → HasSwept of book xs s t e f → HasSwept of book ys t u f g → HasSwept of book (xs ++ ys) s u e g
  swept_then xs ys s t u e f g a b = record {
    got = a.got ++ b.got;
    made = b.made ∙ (ap (λ (l : List ℕ). l ++ slots_got b.got) a.made ∙ (append_assoc s.actor.made (slots_got a.got) (slots_got b.got) ∙ ap (λ (l : List ℕ). s.actor.made ++ l) (sym (map-append (λ (p : ℕ × Demand). p.0) a.got b.got))));
    saw = λ slot d i. ⊎_elim
        (λ (l : IsIn (slot, d) a.got). let o = a.saw slot d l in (b.seen slot d.code o.0, is_in-left d xs ys o.1))
        (λ (r : IsIn (slot, d) b.got). let o = b.saw slot d r in (o.0, is_in-right d xs ys o.1))
        (is_in-append (slot, d) a.got b.got i);
    few = omega (arith, length-append a.got b.got, length-append xs ys, a.few, b.few);
    simulated = subst (λ (l : List Demand). Simulated of book l e g) (sym (map-append (λ (p : ℕ × Demand). p.1) a.got b.got)) (simulated_then (demands_got a.got) (demands_got b.got) e f g a.simulated b.simulated);
    share = b.share ∙ a.share;
    seen = λ slot x i. b.seen slot x (a.seen slot x i);
    all = λ d i. ⊎_elim
        (λ (l : IsIn d xs). let o = a.all d l in (o.0, b.seen o.0 d.code o.1))
        (λ (r : IsIn d ys). b.all d r)
        (is_in-append d xs ys i);
  }

  -- one demand more of a list
  pub swept_more : (ds : List Demand) (i : ℕ) (d : Demand) (s t u : SeatIs) (e f g : X) → i < length ds → d ≡ get_or ds i d → HasSwept of book (take i ds) s t e f → HasSwept of book (d ∷ []) t u f g → HasSwept of book (take (i + 1) ds) s u e g
  swept_more ds i d s t u e f g within read a b =
      rw (take_more ds i d within, ← read) (swept_then (take i ds) (d ∷ []) s t u e f g a b)

  -- the demands in another order
  pub swept_as : (xs ys : List Demand) (s t : SeatIs) (e f : X) → ((d : Demand) → IsIn d xs → IsIn d ys) → ((d : Demand) → IsIn d ys → IsIn d xs) → length xs ≡ length ys → HasSwept of book xs s t e f → HasSwept of book ys s t e f
  swept_as xs ys s t e f there back len a = record {
    got = a.got;
    made = a.made;
    saw = λ slot d i. let o = a.saw slot d i in (o.0, there d o.1);
    few = omega (arith, a.few, len);
    simulated = a.simulated;
    share = a.share;
    seen = a.seen;
    all = λ d i. a.all d (back d i);
  }

  -- a list from a place on and round its end
  pub swept_round : (ds front back : List Demand) (from : ℕ) (s t u : SeatIs) (e f g : X) → front ≡ take from ds → back ≡ drop from ds → HasSwept of book back s t e f → HasSwept of book front t u f g → HasSwept of book ds s u e g
  swept_round ds front back from s t u e f g is_front is_back a b =
      let whole : front ++ back ≡ ds = (λ i. is_front i ++ is_back i) ∙ take-append-drop from ds in
      let n = length-append front back in
      let m = length-append back front in
      let len : length (back ++ front) ≡ length ds = omega (arith, n, m, ap length whole) in
      swept_as (back ++ front) ds s u e g
      (λ d i. subst (IsIn d) whole (⊎_elim (λ (l : IsIn d back). is_in-right d front back l) (λ (r : IsIn d front). is_in-left d front back r) (is_in-append d back front i)))
      (λ d i. ⊎_elim (λ (l : IsIn d front). is_in-right d back front l) (λ (r : IsIn d back). is_in-left d back front r) (is_in-append d front back (subst (IsIn d) (sym whole) i)))
      len (swept_then back front s t u e f g a b)

  -- the code stood there already
  pub swept_there : (s t : SeatIs) (slot : ℕ) (d : Demand) (e : X) → Grew (view_of s) (view_of t) → IsIn (slot, d.code) t.actor.seen → HasSwept of book (d ∷ []) s t e e
  swept_there s t slot d e h saw = record {
    got = [];
    made = h.made ∙ sym (append-nil s.actor.made);
    saw = λ slot d i. elim i [ ];
    few = omega arith;
    simulated = simulated_none e;
    share = h.share;
    seen = h.seen;
    all = λ y i. ⊎_elim (λ (same : y ≡ d). (slot, subst (λ (z : Demand). IsIn (slot, z.code) t.actor.seen) (sym same) saw)) (λ n. elim n [ ]) i;
  }

  -- it was got, and simulated
  pub swept_mine : (s t u : SeatIs) (slot : ℕ) (d : Demand) (e f : X) → Took (view_of s) (view_of t) slot d.code → u ≡ with_actor t (publishes t.actor slot) → Simulated of book (d ∷ []) e f → HasSwept of book (d ∷ []) s u e f
  swept_mine s t u slot d e f h p ran = subst (λ (w : SeatIs). HasSwept of book (d ∷ []) s w e f) (sym p) (record {
    got = (slot, d) ∷ [];
    made = h.made;
    saw = λ y z i. ⊎_elim
        (λ (same : (y, z) ≡ (slot, d)). (subst (λ (q : ℕ × Demand). IsIn (q.0, q.1.code) t.actor.seen) (sym same) h.saw, inl (ap (λ (q : ℕ × Demand). q.1) same)))
        (λ n. elim n [ ])
        i;
    few = omega arith;
    simulated = ran;
    share = h.share;
    seen = h.seen;
    all = λ y i. ⊎_elim (λ (same : y ≡ d). (slot, subst (λ (z : Demand). IsIn (slot, z.code) t.actor.seen) (sym same) h.saw)) (λ n. elim n [ ]) i;
  })

pub ready_took : (b : BoardIs) (s t u : SeatIs) (slot x : ℕ) → IsReady b s → t.table_id ≡ s.table_id → Took (view_of s) (view_of t) slot x → u ≡ with_actor t (publishes t.actor slot) → IsReady b u
ready_took b s t u slot x h e a p = subst (IsReady b) (sym p) (record { seat_of = record { table = e ∙ h.seat_of.table; size = a.bits ∙ h.seat_of.size; for_rows = a.rows ∙ h.seat_of.for_rows; from = a.start ∙ h.seat_of.from }; hand = refl })

pub ready_grew : (b : BoardIs) (s t : SeatIs) → IsReady b s → t.table_id ≡ s.table_id → Grew (view_of s) (view_of t) → IsReady b t
ready_grew b s t h e a = record { seat_of = record { table = e ∙ h.seat_of.table; size = a.bits ∙ h.seat_of.size; for_rows = a.rows ∙ h.seat_of.for_rows; from = a.start ∙ h.seat_of.from }; hand = a.hand ∙ h.hand }

-- how many codes the seat got
pub got_mine : (s t u : SeatIs) (slot x : ℕ) → Took (view_of s) (view_of t) slot x → u ≡ with_actor t (publishes t.actor slot) → 1 + made_of s ≡ made_of u
got_mine s t u slot x a p = let e = ap length a.made in let n = length-append s.actor.made (slot ∷ []) in ap (λ (w : SeatIs). 1 + made_of s) p ∙ (omega (arith, e, n) ∙ sym (ap made_of p))
