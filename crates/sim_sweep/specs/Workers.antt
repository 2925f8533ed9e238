-- What workers do, each with a seat and an engine of its own: each code that a worker got is simulated by its engine,
-- and nothing else. This program's own.
use Rattle.std.specs.Prelude.{◌≡◌, ℕ, ◌≤◌, All, List, [], ◌∷◌, ◌++◌, length, map, None, Some, slice_get}
use Rattle.board_core.specs.Lists.{IsIn, times}
use Rattle.sim_board.specs.Seats.{BoardIs, SeatIs, SeatOf}
use Rattle.plant_data.specs.Rows.{IsRow}
use Rattle.sim_engine.specs.Engine.{Room, Work, raised}
use Rattle.sim_engine.specs.Row.{row_of}
use Rattle.sim_sweep.specs.Demands.{HasRoomFor, codes_of, runs_of}
use Rattle.sim_sweep.specs.Works.{HasWorked}
use Rattle.sim_sweep.specs.declared.demand.Demand.{Demand}
use Rattle.year_system.specs.System.{System}

abbrev pub share_of : SeatIs → ℕ
share_of s = s.actor.share

-- how many codes the seat got
abbrev pub made_of : SeatIs → ℕ
made_of s = length s.actor.made

-- a seat of this board, with nothing in hand
pub record IsReady (b : BoardIs) (s : SeatIs) : Type 0 where
  pub seat_of : SeatOf b s
  pub hand : s.actor.hand ≡ None

-- the seat has seen the code in some slot
abbrev pub HasSeen : SeatIs → ℕ → Type 0
HasSeen s x = (slot : ℕ) × IsIn (slot, x) s.actor.seen

abbrev pub HasSeenAll : SeatIs → List Demand → Type 0
HasSeenAll s demands = (d : Demand) → IsIn d demands → HasSeen s d.code

-- what one seat has seen another has too
abbrev pub SeesAll : SeatIs → SeatIs → Type 0
SeesAll s t = (slot x : ℕ) → IsIn (slot, x) s.actor.seen → IsIn (slot, x) t.actor.seen

-- how often the seat got the slot
abbrev pub times_made : ℕ → SeatIs → ℕ
times_made slot s = times slot s.actor.made

-- the slots that were got, and the demands that were got them for
abbrev pub slots_got : List (ℕ × Demand) → List ℕ
slots_got got = map (λ (p : ℕ × Demand). p.0) got

abbrev pub demands_got : List (ℕ × Demand) → List Demand
demands_got got = map (λ (p : ℕ × Demand). p.1) got

-- the engines of a type, as clauses see them
pub record EngineIs (X : Type 0) : Type 0 where
  pub room : X → Room
  pub work : X → Work

-- an engine has room for the systems of these demands
abbrev pub CanSweep : {X : Type 0} → (X → Room) → List System → List Demand → X → Type 0
CanSweep room book demands e = All (HasRoomFor (room e) book) demands

-- an engine before and after it simulated these demands, in this order, and did nothing else; the rows are within their
-- bounds
pub record Simulated {X : Type 0} (of : EngineIs X) (book : List System) (gained : List Demand) (e f : X) : Type 0 where
  pub worked : HasWorked (runs_of book gained) 0 (of.work e) (of.work f)
  pub room : of.room f ≡ of.room e
  pub bounds : (d : Demand) (s : System) → IsIn d gained → slice_get book d.id ≡ Some s → IsRow (row_of s d.config)

-- a worker's seat and engine before and after these demands
pub record HasSwept {X : Type 0} (of : EngineIs X) (book : List System) (demands : List Demand) (s t : SeatIs) (e f : X) : Type 0 where
  pub got : List (ℕ × Demand)
  pub made : t.actor.made ≡ s.actor.made ++ slots_got got
  pub saw : (slot : ℕ) (d : Demand) → IsIn (slot, d) got → IsIn (slot, d.code) t.actor.seen × IsIn d demands
  pub few : length got ≤ length demands
  pub simulated : Simulated of book (demands_got got) e f
  pub share : share_of t ≡ share_of s
  pub seen : (slot x : ℕ) → IsIn (slot, x) s.actor.seen → IsIn (slot, x) t.actor.seen
  pub all : HasSeenAll t demands

-- the relation holds of each seat, before and after, with its engine, before and after
abbrev pub EachOf : {A B : Type 0} → (A → A → B → B → Type 0) → List A → List A → List B → List B → Type 0
EachOf R [] [] [] [] = Unit {0}
EachOf R (a ∷ l) (b ∷ m) (c ∷ p) (d ∷ q) = R a b c d × EachOf R l m p q
EachOf R _ _ _ _ = ⊥

-- ---- all workers

-- each engine simulated its share, and nothing else
abbrev pub HaveSimulated : {X : Type 0} → EngineIs X → List System → List (List Demand) → List X → List X → Type 0
HaveSimulated of book [] [] [] = Unit {0}
HaveSimulated of book (share ∷ shares) (e ∷ es) (f ∷ fs) = Simulated of book share e f × HaveSimulated of book shares es fs
HaveSimulated of book _ _ _ = ⊥

abbrev pub together : List (List Demand) → List Demand
together [] = []
together (share ∷ shares) = share ++ together shares

-- these are of the demands those whose codes do not stand among these, each code once
pub record AreUnplaced (placed : List ℕ) (demands ds : List Demand) : Type 0 where
  pub once : (x : ℕ) → times x (codes_of ds) ≤ 1
  pub among : (d : Demand) → IsIn d ds → IsIn d demands × (times d.code placed ≡ 0)
  pub all : (d : Demand) → IsIn d demands → times d.code placed ≡ 0 → IsIn d.code (codes_of ds)

-- the engines simulated together each demanded code that was not placed, once, and nothing else, and a tally rose by as
-- many
pub record SweepsAll {X : Type 0} (of : EngineIs X) (book : List System) (placed : List ℕ) (demands : List Demand) (tally tally_now : ℕ) (es fs : List X) : Type 0 where
  pub shares : List (List Demand)
  pub each : HaveSimulated of book shares es fs
  pub unplaced : AreUnplaced placed demands (together shares)
  pub rose : tally_now ≡ raised (length (together shares)) tally
