-- What each event is, over cells and actors: the same for the machine and for the running store.
use Rattle.std.specs.Prelude.{◌≡◌, ◌≢◌, ℕ, ◌<◌, true, List, [], ◌∷◌, ◌++◌, ◌==◌, if◌then◌else◌, slice_set, Some, None}
use mathlib.Core.Option.{some}
use lib.ListN.{get_elem?}
use Rattle.board_core.specs.declared.actor.Actor.{Actor}
use Rattle.board_core.specs.declared.actor.Hand.{Hand}
use Rattle.board_core.specs.declared.event.Event.{Event}
use Rattle.board_core.specs.declared.event.Event.TheVariants.{LookCode, PlaceCode, WriteWord, Publish, LookState, ReadWord, Split, Join}
use Rattle.board_core.specs.declared.event.Answer.{Answer}
use Rattle.board_core.specs.declared.event.Answer.TheVariants.{NotEnabled, Seen, Moved}
use Rattle.board_core.specs.Lists.{IsIn}
use Rattle.board_core.specs.Sound.{Terms, Cells, Saw, Reaches}
use Rattle.board_core.specs.Events.{sees, takes, writes, publishes, learns, keeps_share, copy_of, joined, spent, placed, written, published, SawOther}
use Rattle.board_core.specs.Machine.{Machine, machine_cells}

-- a store at one moment
pub record Moment : Type 0 where
  pub cells : Cells
  pub actors : List Actor

abbrev pub moment : Machine → Moment
moment m = record { cells = machine_cells m; actors = m.actors }

abbrev pub IsActor : Moment → ℕ → Actor → Type 0
IsActor m k a = get_elem? m.actors k ≡ some a

-- the next moment has the same cells, and actor k is now this one
abbrev pub Only : Moment → ℕ → Actor → Moment → Type 0
Only m k a n = (n.cells ≡ m.cells) × (n.actors ≡ slice_set m.actors k a)

-- the event is enabled at m, finds this number, and makes n
abbrev pub Happens : Terms → Event → ℕ → Moment → Moment → Type 0
Happens t (LookCode k s) found m n =
    (a : Actor) × IsActor m k a × (a.living ≡ true) × (found ≡ m.cells.code s) × Only m k (if found == 0 then a else sees a s found) n
Happens t (PlaceCode k s x) found m n =
    (a : Actor) × IsActor m k a × (0 < a.share) × (a.hand ≡ None) × IsIn x t.codes × Reaches t (SawOther a x) x s × (found ≡ m.cells.code s)
    × (found ≡ 0 → (n.cells ≡ placed m.cells s x) × (n.actors ≡ slice_set m.actors k (takes a s x))) × (found ≢ 0 → Only m k (sees a s found) n)
Happens t (WriteWord k s at) found m n =
    (a : Actor) × (h : Hand) × IsActor m k a × (a.hand ≡ Some h) × (h.slot ≡ s) × (at < 11)
    × (n.cells ≡ written m.cells s at (t.due (m.cells.code s) at)) × (n.actors ≡ slice_set m.actors k (writes a s h.written at))
Happens t (Publish k s) found m n =
    (a : Actor) × (h : Hand) × IsActor m k a × (a.hand ≡ Some h) × (h.slot ≡ s) × ((at : ℕ) → at < 11 → IsIn at h.written)
    × (n.cells ≡ published m.cells s) × (n.actors ≡ slice_set m.actors k (publishes a s))
Happens t (LookState k s) found m n =
    (a : Actor) × IsActor m k a × (a.living ≡ true) × Saw a s × (found ≡ m.cells.state s) × Only m k (if found == 0 then a else learns a s) n
Happens t (ReadWord k s at) found m n = (a : Actor) × IsActor m k a × IsIn s a.known × (at < 11) × (found ≡ m.cells.row s at) × Only m k a n
Happens t (Split k part) found m n =
    (a : Actor) × IsActor m k a × (a.living ≡ true) × (0 < part) × (part < a.share)
    × (n.cells ≡ m.cells) × (n.actors ≡ slice_set m.actors k (keeps_share a part) ++ copy_of a part ∷ [])
Happens t (Join k j) found m n =
    (a b : Actor) × IsActor m k a × IsActor m j b × (j ≢ k) × (a.living ≡ true) × (b.living ≡ true) × (b.hand ≡ None)
    × (n.cells ≡ m.cells) × (n.actors ≡ slice_set (slice_set m.actors k (joined a b)) j spent)

-- the number that an answer tells
abbrev pub number : Answer → ℕ
number (Seen n) = n
number NotEnabled = 0
number Moved = 0
