-- What all workers did, when their seats are one again.
use Rattle.std.proofs.Common.{◌≡◌, ◌≢◌, ℕ, suc, ◌+◌, ◌<◌, ◌≤◌, List, [], ◌∷◌, ◌++◌, length, take, drop, refl, sym, ap, ◌∙◌, subst, inl, inr, ⊎_elim, arith, eq-eqb, ne_eqb, Bool, if◌then◌else◌, length-append}
use Rattle.std.proofs.lemmas.Bool.{cases_eq}
use Rattle.std.proofs.lemmas.List.{map-append, length-map}
use Rattle.std.proofs.Math.Seq.{take-append_seam}
use Rattle.board_core.specs.Lists.{IsIn, times, total}
use Rattle.board_core.proofs.Lists.{is_in-append, times-append, times-in, times-none, times-some}
use Rattle.sim_board.specs.Seats.{SeatIs, SeatKnows}
use Rattle.sim_engine.specs.Engine.{raised}
use Rattle.sim_sweep.specs.Demands.{codes_of}
use Rattle.sim_sweep.specs.Workers.{AreUnplaced, EachOf, EngineIs, HasSeenAll, HasSwept, HaveSimulated, SeesAll, SweepsAll, demands_got, made_of, share_of, slots_got, times_made, together}
use Rattle.sim_sweep.specs.declared.demand.Demand.{Demand}
use Rattle.year_system.specs.System.{System}

-- all that the workers got
record Gathers {X : Type 0} (of : EngineIs X) (book : List System) (demands : List Demand) (olds news : List SeatIs) (es fs : List X) : Type 0 where
  pub shares : List (List Demand)
  pub each : HaveSimulated of book shares es fs
  pub got : List (ℕ × Demand)
  pub same : demands_got got ≡ together shares
  pub made : (slot : ℕ) → times slot (slots_got got) ≡ total (times_made slot) news
  pub saw : (slot : ℕ) (d : Demand) → IsIn (slot, d) got → IsIn d demands × ((s : SeatIs) × IsIn s news × IsIn (slot, d.code) s.actor.seen)
  pub share : total share_of news ≡ total share_of olds
  pub many : total made_of news ≡ total made_of olds + length got

made_fresh : {X : Type 0} (of : EngineIs X) (book : List System) (demands : List Demand) (s t : SeatIs) (e f : X) (slot : ℕ) → (h : HasSwept of book demands s t e f) → s.actor.made ≡ [] → times slot (slots_got h.got) ≡ times_made slot t
made_fresh of book demands s t e f slot h none = ap (times slot) (sym (h.made ∙ ap (λ (l : List ℕ). l ++ slots_got h.got) none))

gathers : {X : Type 0} (of : EngineIs X) (book : List System) (demands : List Demand) (olds news : List SeatIs) (es fs : List X) → EachOf (HasSwept of book demands) olds news es fs → ((s : SeatIs) → IsIn s olds → s.actor.made ≡ []) → Gathers of book demands olds news es fs
gathers of book demands [] [] [] [] h fresh = record { shares = []; each = tt; got = []; same = refl; made = λ slot. refl; saw = λ slot d i. elim i [ ]; share = refl; many = omega arith }
gathers of book demands (s ∷ olds) (t ∷ news) (e ∷ es) (f ∷ fs) h fresh =
    let one = h.0 in
    let rest = gathers of book demands olds news es fs h.1 (λ y i. fresh y (inr i)) in
    record {
      shares = demands_got one.got ∷ rest.shares;
      each = (one.simulated, rest.each);
      got = one.got ++ rest.got;
      same = map-append (λ (p : ℕ × Demand). p.1) one.got rest.got ∙ ap (λ (l : List Demand). demands_got one.got ++ l) rest.same;
      made = λ slot. ap (times slot) (map-append (λ (p : ℕ × Demand). p.0) one.got rest.got) ∙ (times-append slot (slots_got one.got) (slots_got rest.got) ∙ (let a = made_fresh of book demands s t e f slot one (fresh s (inl refl)) in let b = rest.made slot in omega (arith, a, b)));
      saw = λ slot d i. ⊎_elim
          (λ (l : IsIn (slot, d) one.got). let o = one.saw slot d l in (o.1, (t, inl refl, o.0)))
          (λ (r : IsIn (slot, d) rest.got). let o = rest.saw slot d r in (o.0, (o.1.0, inr o.1.1, o.1.2)))
          (is_in-append (slot, d) one.got rest.got i);
      share = let a = one.share in let b = rest.share in omega (arith, a, b);
      many =
          let made : made_of t ≡ made_of s + length (slots_got one.got) = ap length one.made ∙ length-append s.actor.made (slots_got one.got) in
          let slots : length (slots_got one.got) ≡ length one.got = length-map one.got (λ (p : ℕ × Demand). p.0) in
          let r = rest.many in
          let n = length-append one.got rest.got in
          omega (arith, made, slots, r, n);
    }
gathers of book demands [] [] [] (f ∷ fs) h fresh = elim h [ ]
gathers of book demands [] [] (e ∷ es) fs h fresh = elim h [ ]
gathers of book demands [] (t ∷ news) es fs h fresh = elim h [ ]
gathers of book demands (s ∷ olds) [] es fs h fresh = elim h [ ]
gathers of book demands (s ∷ olds) (t ∷ news) [] fs h fresh = elim h [ ]
gathers of book demands (s ∷ olds) (t ∷ news) (e ∷ es) [] h fresh = elim h [ ]

-- pairs of slots and demands
slot_of : (got : List (ℕ × Demand)) (x : ℕ) → IsIn x (codes_of (demands_got got)) → (slot : ℕ) × (d : Demand) × IsIn (slot, d) got × (d.code ≡ x)
slot_of [] x i = elim i [ ]
slot_of (p ∷ got) x i = ⊎_elim
    (λ (e : x ≡ p.1.code). (p.0, p.1, inl refl, sym e))
    (λ (j : IsIn x (codes_of (demands_got got))). let o = slot_of got x j in (o.0, o.1, inr o.2, o.3))
    i

slot_for : (got : List (ℕ × Demand)) (d : Demand) → IsIn d (demands_got got) → (slot : ℕ) × IsIn (slot, d) got
slot_for [] d i = elim i [ ]
slot_for (p ∷ got) d i = ⊎_elim
    (λ (e : d ≡ p.1). (p.0, inl (λ k. (p.0, e k))))
    (λ (j : IsIn d (demands_got got)). let o = slot_for got d j in (o.0, inr o.1))
    i

demand_of : (got : List (ℕ × Demand)) (slot : ℕ) → IsIn slot (slots_got got) → (d : Demand) × IsIn (slot, d) got
demand_of [] slot i = elim i [ ]
demand_of (p ∷ got) slot i = ⊎_elim
    (λ (e : slot ≡ p.0). (p.1, inl (λ k. (e k, p.1))))
    (λ (j : IsIn slot (slots_got got)). let o = demand_of got slot j in (o.0, inr o.1))
    i

slot_in : (got : List (ℕ × Demand)) (slot : ℕ) (d : Demand) → IsIn (slot, d) got → IsIn slot (slots_got got)
slot_in [] slot d i = elim i [ ]
slot_in (p ∷ got) slot d i = ⊎_elim (λ (e : (slot, d) ≡ p). inl (ap (λ (q : ℕ × Demand). q.0) e)) (λ (j : IsIn (slot, d) got). inr (slot_in got slot d j)) i

code_in : (got : List (ℕ × Demand)) (slot : ℕ) (d : Demand) → IsIn (slot, d) got → IsIn d.code (codes_of (demands_got got))
code_in [] slot d i = elim i [ ]
code_in (p ∷ got) slot d i = ⊎_elim (λ (e : (slot, d) ≡ p). inl (ap (λ (q : ℕ × Demand). q.1.code) e)) (λ (j : IsIn (slot, d) got). inr (code_in got slot d j)) i

-- where slots differ and a code is seen in one slot, codes differ
codes_once : (z : SeatIs) (got : List (ℕ × Demand)) → ((s u x : ℕ) → IsIn (s, x) z.actor.seen → IsIn (u, x) z.actor.seen → s ≡ u) → ((slot : ℕ) (d : Demand) → IsIn (slot, d) got → IsIn (slot, d.code) z.actor.seen) → ((slot : ℕ) → times slot (slots_got got) ≤ 1) → (x : ℕ) → times x (codes_of (demands_got got)) ≤ 1
codes_once z [] one saw few x = omega arith
codes_once z (p ∷ got) one saw few x =
    let less : (slot : ℕ) → times slot (slots_got got) ≤ 1 = λ slot. let f = few slot in omega (arith, f) in
    let rest = codes_once z got one (λ slot d i. saw slot d (inr i)) less x in
    ⊎_elim
    (λ (e : x ≡ p.1.code).
    let none : times x (codes_of (demands_got got)) ≡ 0 = times-none x (codes_of (demands_got got)) (λ i.
    let o = slot_of got x i in
    let same : o.0 ≡ p.0 = one o.0 p.0 x (subst (λ (c : ℕ). IsIn (o.0, c) z.actor.seen) o.3 (saw o.0 o.1 (inr o.2))) (subst (λ (c : ℕ). IsIn (p.0, c) z.actor.seen) (sym e) (saw p.0 p.1 (inl refl))) in
    let again : 0 < times p.0 (slots_got got) = times-in p.0 (slots_got got) (subst (λ (s : ℕ). IsIn s (slots_got got)) same (slot_in got o.0 o.1 o.2)) in
    let most : times p.0 (slots_got (p ∷ got)) ≤ 1 = few p.0 in
    let first : times p.0 (slots_got (p ∷ got)) ≡ 1 + times p.0 (slots_got got) = ap (λ (b : Bool). (if b then 1 else 0) + times p.0 (slots_got got)) (eq-eqb p.0 p.0 refl) in
    omega (arith, again, most, first)) in
    let first : times x (codes_of (demands_got (p ∷ got))) ≡ 1 + times x (codes_of (demands_got got)) = ap (λ (b : Bool). (if b then 1 else 0) + times x (codes_of (demands_got got))) (eq-eqb x p.1.code e) in
    omega (arith, none, first))
    (λ (n : x ≢ p.1.code).
    let first : times x (codes_of (demands_got (p ∷ got))) ≡ 0 + times x (codes_of (demands_got got)) = ap (λ (b : Bool). (if b then 1 else 0) + times x (codes_of (demands_got got))) (ne_eqb x p.1.code n) in
    omega (arith, rest, first))
    (cases_eq x p.1.code)

-- what is known when the seats are one again
pub swept_all : {X : Type 0} (of : EngineIs X) (book : List System) (demands : List Demand) (olds news : List SeatIs) (es fs : List X) (z : SeatIs) → EachOf (HasSwept of book demands) olds news es fs → ((s : SeatIs) → IsIn s olds → s.actor.made ≡ [])
    → SeatKnows z → share_of z ≡ 64 → ((slot : ℕ) → times_made slot z ≡ total (times_made slot) news) → ((s : SeatIs) → IsIn s news → SeesAll s z) → HasSeenAll z demands → (filled tally tally_now : ℕ) → filled + total made_of olds ≡ total made_of news → tally_now ≡ raised filled tally → SweepsAll of book z.start demands tally tally_now es fs
swept_all of book demands olds news es fs z h fresh knows whole made sees all filled tally tally_now count is =
    let g = gathers of book demands olds news es fs h fresh in
    let own = knows.own in
    let saw : (slot : ℕ) (d : Demand) → IsIn (slot, d) g.got → IsIn (slot, d.code) z.actor.seen = λ slot d i. let o = g.saw slot d i in sees o.1.0 o.1.1 slot d.code o.1.2 in
    let counts : (slot : ℕ) → times slot (slots_got g.got) ≡ times slot z.actor.made = λ slot. g.made slot ∙ sym (made slot) in
    let got_made : (slot : ℕ) (d : Demand) → IsIn (slot, d) g.got → IsIn slot z.actor.made = λ slot d i. times-some slot z.actor.made (λ none. let p = times-in slot (slots_got g.got) (slot_in g.got slot d i) in let c = counts slot in omega (arith, none, p, c)) in
    let made_got : (slot : ℕ) → IsIn slot z.actor.made → IsIn slot (slots_got g.got) = λ slot i. times-some slot (slots_got g.got) (λ none. let p = times-in slot z.actor.made i in let c = counts slot in omega (arith, none, p, c)) in
    let unplaced : AreUnplaced z.start demands (demands_got g.got) = record {
      once = codes_once z g.got own.one_slot saw (λ slot. let a = own.made_once slot in let c = counts slot in omega (arith, a, c));
      among = λ d i.
          let o = slot_for g.got d i in
          ((g.saw o.0 d o.1).0, own.made_new o.0 d.code (got_made o.0 d o.1) (saw o.0 d o.1));
      all = λ d i none.
          let o = all d i in
          ⊎_elim
          (λ (old : IsIn d.code z.start). let p = times-in d.code z.start old in absurd (omega (arith, none, p)))
          (λ (new : IsIn o.0 z.actor.made).
          let q = demand_of g.got o.0 (made_got o.0 new) in
          let same : q.0.code ≡ d.code = own.one_code o.0 q.0.code d.code (saw o.0 q.0 q.1) o.1 in
          subst (λ (x : ℕ). IsIn x (codes_of (demands_got g.got))) same (code_in g.got o.0 q.0 q.1))
          (own.whole whole o.0 d.code o.1);
    } in
    record {
      shares = g.shares;
      each = g.each;
      unplaced = subst (AreUnplaced z.start demands) g.same unplaced;
      rose = is ∙ ap (λ (n : ℕ). raised n tally) (let m = g.many in let len : length (demands_got g.got) ≡ length g.got = length-map g.got (λ (p : ℕ × Demand). p.1) in let all : length (demands_got g.got) ≡ length (together g.shares) = ap length g.same in omega (arith, count, m, len, all));
    }

pub shares_stay : {X : Type 0} (of : EngineIs X) (book : List System) (demands : List Demand) (olds news : List SeatIs) (es fs : List X) → EachOf (HasSwept of book demands) olds news es fs → total share_of news ≡ total share_of olds
shares_stay of book demands [] [] [] [] h = refl
shares_stay of book demands (s ∷ olds) (t ∷ news) (e ∷ es) (f ∷ fs) h = let a = h.0.share in let b = shares_stay of book demands olds news es fs h.1 in omega (arith, a, b)
shares_stay of book demands [] [] [] (f ∷ fs) h = elim h [ ]
shares_stay of book demands [] [] (e ∷ es) fs h = elim h [ ]
shares_stay of book demands [] (t ∷ news) es fs h = elim h [ ]
shares_stay of book demands (s ∷ olds) [] es fs h = elim h [ ]
shares_stay of book demands (s ∷ olds) (t ∷ news) [] fs h = elim h [ ]
shares_stay of book demands (s ∷ olds) (t ∷ news) (e ∷ es) [] h = elim h [ ]

pub first_all : {X : Type 0} (of : EngineIs X) (book : List System) (demands : List Demand) (s t : SeatIs) (olds news : List SeatIs) (es fs : List X) → EachOf (HasSwept of book demands) (s ∷ olds) (t ∷ news) es fs → HasSeenAll t demands
first_all of book demands s t olds news (e ∷ es) (f ∷ fs) h = h.0.all
first_all of book demands s t olds news [] fs h = elim h [ ]
first_all of book demands s t olds news (e ∷ es) [] h = elim h [ ]

pub fresh_cons : (s : SeatIs) (olds : List SeatIs) → s.actor.made ≡ [] → ((t : SeatIs) → IsIn t olds → t.actor.made ≡ []) → (t : SeatIs) → IsIn t (s ∷ olds) → t.actor.made ≡ []
fresh_cons s olds none all t i = ⊎_elim (λ (e : t ≡ s). ap (λ (y : SeatIs). y.actor.made) e ∙ none) (λ (j : IsIn t olds). all t j) i

pub sees_cons : (s z : SeatIs) (olds : List SeatIs) → SeesAll s z → ((t : SeatIs) → IsIn t olds → SeesAll t z) → (t : SeatIs) → IsIn t (s ∷ olds) → SeesAll t z
sees_cons s z olds one all t i = ⊎_elim (λ (e : t ≡ s). subst (λ (y : SeatIs). SeesAll y z) (sym e) one) (λ (j : IsIn t olds). all t j) i

pub each_length : {X : Type 0} (R : SeatIs → SeatIs → X → X → Type 0) (l m : List SeatIs) (p q : List X) → EachOf R l m p q → length l ≡ length m
each_length R [] [] [] [] h = refl
each_length R (a ∷ l) (b ∷ m) (c ∷ p) (d ∷ q) h = ap suc (each_length R l m p q h.1)
each_length R [] [] [] (d ∷ q) h = elim h [ ]
each_length R [] [] (c ∷ p) q h = elim h [ ]
each_length R [] (b ∷ m) p q h = elim h [ ]
each_length R (a ∷ l) [] p q h = elim h [ ]
each_length R (a ∷ l) (b ∷ m) [] q h = elim h [ ]
each_length R (a ∷ l) (b ∷ m) (c ∷ p) [] h = elim h [ ]

-- a whole slice that was lent and written
pub written : {A : Type 0} (n : ℕ) (xs ys : List A) → length ys ≡ n → take n (ys ++ drop (length ys) xs) ≡ ys
written n xs ys e = subst (λ (k : ℕ). take k (ys ++ drop (length ys) xs) ≡ ys) e (take-append_seam ys (drop (length ys) xs))
