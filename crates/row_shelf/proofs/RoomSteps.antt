-- Room for the systems with some numbers, and engines that can sweep.
use Rattle.std.proofs.Common.{◌≡◌, ◌∙◌, sym, refl, ap, inl, ℕ, zero, suc, ◌+◌, ◌<◌, ◌≤◌, List, [], ◌∷◌, All, Option, Some, length, drop, max, get_or, slice_get, arith}
use Rattle.std.proofs.lemmas.List.Elements.{All-cons, All-nil, All-weaker}
use Rattle.sim_engine.specs.Engine.{Room}
use Rattle.board_core.specs.declared.row.KeptRow.{KeptRow}
use Rattle.sim_sweep.specs.Demands.{HasRoomFor}
use Rattle.sim_sweep.specs.Workers.{CanSweep}
use Rattle.sim_sweep.specs.declared.demand.Demand.{Demand}
use Rattle.row_shelf.proofs.AskSteps.{have_room}
use Rattle.row_shelf.proofs.WantedSteps.{wanted_all}
use Rattle.row_shelf.specs.Asked.{FitBook}
use Rattle.row_shelf.specs.Demands.{AreWanted, all_demands}
use Rattle.row_shelf.specs.Rooms.{AreWidened, HasRoomAt, IsRoomy, greatest_of, size_of}
use Rattle.year_system.specs.System.{System, cells, unit_limit}

drop_at : (ids : List ℕ) (k m : ℕ) → k < length ids → m ≡ suc k → drop k ids ≡ get_or ids k 0 ∷ drop m ids
drop_at [] k m within is = absurd (omega (arith, within))
drop_at (id ∷ ids) zero m within is = ap (λ (n : ℕ). id ∷ drop n (id ∷ ids)) (sym is)
drop_at (id ∷ ids) (suc k) zero within is = absurd (omega (arith, is))
drop_at (id ∷ ids) (suc k) (suc m) within is = drop_at ids k m (omega (arith, within)) (omega (arith, is))

-- one number more
pub greatest_more : (size : System → ℕ) (book : List System) (ids : List ℕ) (k before now : ℕ) (s : System) → k < length ids → slice_get book (get_or ids k 0) ≡ Some s → now ≡ max before (size s) → greatest_of size book now (drop (k + 1) ids) ≡ greatest_of size book before (drop k ids)
greatest_more size book ids k before now s within at is =
    ap (λ (n : ℕ). greatest_of size book n (drop (k + 1) ids)) (is ∙ ap (λ (o : Option System). max before (size_of size o)) (sym at))
    ∙ ap (greatest_of size book before) (sym (drop_at ids k (k + 1) within (omega arith)))

pub greatest_all : (size : System → ℕ) (book : List System) (ids : List ℕ) (k n : ℕ) → length ids ≤ k → greatest_of size book n (drop k ids) ≡ n
greatest_all size book [] zero n end = refl
greatest_all size book [] (suc k) n end = refl
greatest_all size book (id ∷ ids) zero n end = absurd (omega (arith, end))
greatest_all size book (id ∷ ids) (suc k) n end = greatest_all size book ids k n (omega (arith, end))

-- the greatest is as great as each
greatest_least : (size : System → ℕ) (book : List System) (other : ℕ) (ids : List ℕ) → other ≤ greatest_of size book other ids
greatest_least size book other [] = omega arith
greatest_least size book other (id ∷ ids) = let rest = greatest_least size book (max other (size_of size (slice_get book id))) ids in omega (arith, rest)

greatest_first : (size : System → ℕ) (book : List System) (other id : ℕ) (ids : List ℕ) (s : System) → slice_get book id ≡ Some s → size s ≤ greatest_of size book other (id ∷ ids)
greatest_first size book other id ids s at =
    let is : size_of size (slice_get book id) ≡ size s = ap (size_of size) at in
    let rest = greatest_least size book (max other (size_of size (slice_get book id))) ids in
    omega (arith, is, rest)

pub room_all : (book : List System) (n m : ℕ) (ids : List ℕ) → All (HasRoomAt (greatest_of cells book n ids) (greatest_of unit_limit book m ids) book) ids
room_all book n m [] = All-nil (HasRoomAt n m book)
room_all book n m (id ∷ ids) =
    let P = HasRoomAt (greatest_of cells book n (id ∷ ids)) (greatest_of unit_limit book m (id ∷ ids)) book in
    All-cons P id ids
    (λ s at. record { cells = greatest_first cells book n id ids s at; units = greatest_first unit_limit book m id ids s at })
    (room_all book (max n (size_of cells (slice_get book id))) (max m (size_of unit_limit (slice_get book id))) ids)

pub sweep_these : {X : Type 0} (room : X → Room) (book : List System) (kept : List KeptRow) (ids : List ℕ) (cases : List (List (List (List ℕ)))) (ds : List Demand) (n m : ℕ) (fs : List X)
    → AreWanted kept (all_demands book ids cases) ds → All (FitBook book ids) cases → n ≡ greatest_of cells book 0 ids → m ≡ greatest_of unit_limit book 0 ids
    → All (λ e. IsRoomy n m (room e)) fs → All (CanSweep room book ds) fs
sweep_these {X} room book kept ids cases ds n m fs wants fit is_n is_m roomy =
    let enough : All (HasRoomAt n m book) ids = rw (is_n, is_m) (room_all book 0 0 ids) in
    All-weaker (λ (e : X). IsRoomy n m (room e)) (CanSweep room book ds) (λ f one. wanted_all (HasRoomFor (room f) book) kept (all_demands book ids cases) ds wants (have_room book ids cases n m (room f) fit enough one)) fs roomy

-- rooms that are as before
pub are_same : (c u : ℕ) (rooms : List Room) → AreWidened c u rooms rooms
are_same c u [] = tt
are_same c u (r ∷ rs) = (inl refl, are_same c u rs)
