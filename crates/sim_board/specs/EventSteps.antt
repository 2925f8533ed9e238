-- Each atomic step of the table is one event of the machine, over the same cells and actors.
use Rattle.std.specs.Prelude.{◌≡◌, ◌≢◌, ℕ, ◌+◌, ◌^◌, ◌<◌, true, List, [], ◌∷◌, ◌++◌, ◌==◌, if◌then◌else◌, map, slice_index, slice_set, Some, None}
use mathlib.Core.Option.{some}
use lib.ListN.{get_elem?}
use Rattle.board_core.specs.declared.actor.Hand.{Hand}
use Rattle.board_core.specs.declared.row.KeptRow.{KeptRow}
use Rattle.board_core.specs.declared.event.Event.{Event}
use Rattle.board_core.specs.declared.event.Event.TheVariants.{LookCode, PlaceCode, WriteWord, Publish, LookState, ReadWord, Split, Join}
use Rattle.board_core.specs.Lists.{IsIn}
use Rattle.board_core.specs.Sound.{Saw, Reaches}
use Rattle.board_core.specs.Events.{SawOther, keeps_share, copy_of, joined}
use Rattle.board_core.specs.Rows.{terms, codes_of, due_word}
use Rattle.board_core.specs.Happens.{Moment, Happens}
use Rattle.atomic_table.specs.Table.{Step}
use Rattle.sim_board.specs.declared.view.View.{View}
use Rattle.sim_board.specs.Standing.{base, cells_of, actor_of, IsStanding, view_with, spent_view, Looks, Places, Writes, Publishes, LooksState, ReadsWord, Tells}

-- a board while it runs: what it was started for, its words, and the views of all seats
pub record Running : Type 0 where
  pub bits : ℕ
  pub rows : List KeptRow
  pub start : List ℕ
  pub words : List ℕ
  pub views : List View

abbrev pub seen_as : List ℕ → List View → Moment
seen_as words views = record { cells = cells_of words; actors = map actor_of views }

-- from r the event makes these words and views
abbrev pub IsEvent : Running → Event → ℕ → List ℕ → List View → Type 0
IsEvent r e found words views = Happens (terms r.bits r.rows r.start) e found (seen_as r.words r.views) (seen_as words views)

-- a living seat of a board that stands
pub record HasSeat (r : Running) (id : ℕ) (v : View) : Type 0 where
  pub stands : IsStanding r.bits r.rows r.start r.words r.views
  pub at : get_elem? r.views id ≡ some v
  pub living : v.actor.living ≡ true

-- the steps of a seat with number id and view v, whose view becomes w: what each finds and leaves is what the event does
pub record StepsAreEvents : Type 0 where
  pub looks : (r : Running) (id : ℕ) (v w : View) (c d : List (ℕ × Unit)) (st : Step Unit) (s : ℕ) → HasSeat r id v → st.word ≡ base s
      → Looks st (v, c) (slice_index r.words (base s)) (w, d)
      → IsEvent r (LookCode id s) (slice_index r.words (base s)) r.words (slice_set r.views id w)
  pub places : (r : Running) (id : ℕ) (v w : View) (c d : List (ℕ × Unit)) (st : Step Unit) (s x : ℕ) → HasSeat r id v → st.word ≡ base s → st.second ≡ x
      → v.actor.hand ≡ None → IsIn x (codes_of v.rows) → s < 2 ^ r.bits → Reaches (terms r.bits v.rows v.start) (SawOther v.actor x) x s
      → Places st (v, c) (slice_index r.words (base s)) (w, d)
      → IsEvent r (PlaceCode id s x) (slice_index r.words (base s)) (slice_set r.words (base s) (if slice_index r.words (base s) == 0 then x else slice_index r.words (base s))) (slice_set r.views id w)
  pub writes : (r : Running) (id : ℕ) (v w : View) (c d : List (ℕ × Unit)) (st : Step Unit) (h : Hand) (x at : ℕ) → HasSeat r id v → st.word ≡ base h.slot + 2 + at
      → v.actor.hand ≡ Some h → IsIn (h.slot, x) v.actor.seen → at < 11 → Writes st (v, c) (due_word v.rows x at) (w, d)
      → IsEvent r (WriteWord id h.slot at) 0 (slice_set r.words (base h.slot + 2 + at) (due_word v.rows x at)) (slice_set r.views id w)
  pub publishes : (r : Running) (id : ℕ) (v w : View) (c d : List (ℕ × Unit)) (st : Step Unit) (h : Hand) → HasSeat r id v → st.word ≡ base h.slot + 1
      → v.actor.hand ≡ Some h → ((at : ℕ) → at < 11 → IsIn at h.written) → Publishes st (v, c) 1 (w, d)
      → IsEvent r (Publish id h.slot) 0 (slice_set r.words (base h.slot + 1) 1) (slice_set r.views id w)
  pub looks_state : (r : Running) (id : ℕ) (v w : View) (c d : List (ℕ × Unit)) (st : Step Unit) (s : ℕ) → HasSeat r id v → st.word ≡ base s + 1 → Saw v.actor s
      → LooksState st (v, c) (slice_index r.words (base s + 1)) (w, d)
      → IsEvent r (LookState id s) (slice_index r.words (base s + 1)) r.words (slice_set r.views id w)
  pub reads : (r : Running) (id : ℕ) (v w : View) (c d : List (ℕ × Unit)) (st : Step Unit) (s at : ℕ) → HasSeat r id v → st.word ≡ base s + 2 + at → IsIn s v.actor.known → at < 11
      → ReadsWord st (v, c) (slice_index r.words (base s + 2 + at)) (w, d)
      → IsEvent r (ReadWord id s at) (slice_index r.words (base s + 2 + at)) r.words (slice_set r.views id w)
  pub splits : (r : Running) (id : ℕ) (v : View) (part : ℕ) → HasSeat r id v → 0 < part → part < v.actor.share
      → IsEvent r (Split id part) 0 r.words (slice_set r.views id (view_with v (keeps_share v.actor part)) ++ view_with v (copy_of v.actor part) ∷ [])
  pub joins : (r : Running) (id other : ℕ) (v w : View) → HasSeat r id v → HasSeat r other w → other ≢ id → w.actor.hand ≡ None
      → IsEvent r (Join id other) 0 r.words (slice_set (slice_set r.views id (view_with v (joined v.actor w.actor))) other spent_view)
  -- the ninth kind is no event: nothing changes
  pub tells : (v w : View) (c d : List (ℕ × Unit)) (st : Step Unit) (found : ℕ) → Tells st (v, c) found (w, d) → w ≡ v
