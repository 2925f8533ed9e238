-- The store as a machine: when each event is enabled, what it answers, and what it changes.
use Rattle.std.specs.Prelude.{◌≡◌, ℕ, zero, suc, ◌+◌, ◌-◌, ◌%◌, ◌^◌, ◌<◌, ◌≤◌, Bool, true, false, not, ◌&&◌, List, [], ◌∷◌, ◌++◌, ◌==◌, nat_lt, if◌then◌else◌, length, slice_index, slice_index_or, slice_set, Option, Some, None}
use Rattle.std.specs.List.{list_any}
use Rattle.board_core.specs.declared.actor.Actor.{Actor}
use Rattle.board_core.specs.declared.actor.Hand.{Hand}
use Rattle.board_core.specs.declared.slot.Slot.{Slot}
use Rattle.board_core.specs.declared.row.KeptRow.{KeptRow}
use Rattle.board_core.specs.declared.event.Event.{Event}
use Rattle.board_core.specs.declared.event.Event.TheVariants.{LookCode, PlaceCode, WriteWord, Publish, LookState, ReadWord, Split, Join}
use Rattle.board_core.specs.declared.event.Answer.{Answer}
use Rattle.board_core.specs.declared.event.Answer.TheVariants.{NotEnabled, Seen, Moved}
use Rattle.board_core.specs.Sound.{Terms, Cells, IsSound}
use Rattle.board_core.specs.Rows.{terms, home_slot, due_word, codes_of}
use Rattle.board_core.specs.Lists.{times}
use Rattle.board_core.specs.Events.{sees, takes, writes, publishes, learns, keeps_share, copy_of, joined, spent}

-- 2 ^ bits slots, the actors, the due rows, and the codes of the start
pub record Machine : Type 0 where
  pub bits : ℕ
  pub slots : List Slot
  pub actors : List Actor
  pub rows : List KeptRow
  pub start : List ℕ

abbrev pub free_slot : Slot
free_slot = record { code = 0; filled = false; words = [] }

-- a slot that does not exist is free
abbrev pub slot_of : List Slot → ℕ → Slot
slot_of slots s = slice_index_or slots s free_slot

abbrev pub slot_at : Machine → ℕ → Slot
slot_at m s = slot_of m.slots s

-- an actor that does not exist is as one that is not living
abbrev pub actor_at : Machine → ℕ → Actor
actor_at m k = slice_index_or m.actors k spent

abbrev pub state_of : Slot → ℕ
state_of s = if s.filled then 1 else 0

-- the slots as cells
abbrev pub cells_in : List Slot → Cells
cells_in slots = record { code = λ s. (slot_of slots s).code; state = λ s. state_of (slot_of slots s); row = λ s at. slice_index (slot_of slots s).words at }

abbrev pub machine_cells : Machine → Cells
machine_cells m = cells_in m.slots

abbrev pub machine_terms : Machine → Terms
machine_terms m = terms m.bits m.rows m.start

-- some code was seen in the slot
abbrev pub has_seen : ℕ → List (ℕ × ℕ) → Bool
has_seen s seen = list_any (λ (p : ℕ × ℕ). p.0 == s) seen

-- a code other than x was seen in the slot
abbrev pub has_seen_other : ℕ → ℕ → List (ℕ × ℕ) → Bool
has_seen_other x s seen = list_any (λ (p : ℕ × ℕ). (p.0 == s) && not (p.1 == x)) seen

-- the n slots from the home of x on were seen with other codes
abbrev pub path_seen : ℕ → ℕ → List (ℕ × ℕ) → ℕ → Bool
path_seen bits x seen zero = true
path_seen bits x seen (suc n) = has_seen_other x ((home_slot bits x + n) % 2 ^ bits) seen && path_seen bits x seen n

-- how far the slot lies above the home, round the end
abbrev pub distance : ℕ → ℕ → ℕ → ℕ
distance bits x s = (s + (2 ^ bits - home_slot bits x)) % 2 ^ bits

abbrev pub has : ℕ → List ℕ → Bool
has x l = list_any (λ (y : ℕ). y == x) l

abbrev pub has_code : ℕ → List KeptRow → Bool
has_code x rows = list_any (λ (r : KeptRow). r.code == x) rows

abbrev pub is_empty_hand : Option Hand → Bool
is_empty_hand None = true
is_empty_hand (Some h) = false

abbrev pub is_slot_in : ℕ → Option Hand → Bool
is_slot_in s None = false
is_slot_in s (Some h) = h.slot == s

abbrev pub all_written : ℕ → List ℕ → Bool
all_written zero l = true
all_written (suc n) l = has n l && all_written n l

abbrev pub written_of : Option Hand → List ℕ
written_of None = []
written_of (Some h) = h.written

-- the actor is living and the slot exists
abbrev pub may_look : Machine → ℕ → ℕ → Bool
may_look m k s = (actor_at m k).living && nat_lt s (length m.slots)

-- a share, nothing in hand, a slot that exists, a code of the store, and its path to the slot seen with other codes
abbrev pub may_place : Machine → ℕ → ℕ → ℕ → Bool
may_place m k s x =
    let a = actor_at m k in
    ((nat_lt 0 a.share && is_empty_hand a.hand) && (nat_lt s (length m.slots) && has_code x m.rows)) && path_seen m.bits x a.seen (distance m.bits x s)

-- where each event is enabled
abbrev pub enabled : Machine → Event → Bool
enabled m (LookCode k s) = may_look m k s
enabled m (PlaceCode k s x) = may_place m k s x
enabled m (WriteWord k s at) = nat_lt s (length m.slots) && (is_slot_in s (actor_at m k).hand && nat_lt at 11)
enabled m (Publish k s) = nat_lt s (length m.slots) && (is_slot_in s (actor_at m k).hand && all_written 11 (written_of (actor_at m k).hand))
enabled m (LookState k s) = (nat_lt s (length m.slots) && (actor_at m k).living) && has_seen s (actor_at m k).seen
enabled m (ReadWord k s at) = nat_lt s (length m.slots) && (has s (actor_at m k).known && nat_lt at 11)
enabled m (Split k part) = (actor_at m k).living && (nat_lt 0 part && nat_lt part (actor_at m k).share)
enabled m (Join k j) = ((actor_at m k).living && (actor_at m j).living) && (not (k == j) && is_empty_hand (actor_at m j).hand)

abbrev pub with_actor_at : Machine → ℕ → Actor → Machine
with_actor_at m k a = record { bits = m.bits; slots = m.slots; actors = slice_set m.actors k a; rows = m.rows; start = m.start }

abbrev pub with_slot_at : Machine → ℕ → Slot → Machine
with_slot_at m s v = record { bits = m.bits; slots = slice_set m.slots s v; actors = m.actors; rows = m.rows; start = m.start }

abbrev pub looked_at : Machine → ℕ → ℕ → ℕ → Machine
looked_at m k s x = if x == 0 then m else with_actor_at m k (sees (actor_at m k) s x)

abbrev pub placed_in : Machine → ℕ → ℕ → ℕ → Machine
placed_in m k s x =
    if (slot_at m s).code == 0
    then with_actor_at (with_slot_at m s (record { code = x; filled = (slot_at m s).filled; words = (slot_at m s).words })) k (takes (actor_at m k) s x)
    else with_actor_at m k (sees (actor_at m k) s (slot_at m s).code)

-- what each event makes of the machine where it is enabled
abbrev pub moved : Machine → Event → Machine
moved m (LookCode k s) = looked_at m k s (slot_at m s).code
moved m (PlaceCode k s x) = placed_in m k s x
moved m (WriteWord k s at) =
    with_actor_at (with_slot_at m s (record { code = (slot_at m s).code; filled = (slot_at m s).filled; words = slice_set (slot_at m s).words at (due_word m.rows (slot_at m s).code at) })) k
    (writes (actor_at m k) s (written_of (actor_at m k).hand) at)
moved m (Publish k s) = with_actor_at (with_slot_at m s (record { code = (slot_at m s).code; filled = true; words = (slot_at m s).words })) k (publishes (actor_at m k) s)
moved m (LookState k s) = if (slot_at m s).filled then with_actor_at m k (learns (actor_at m k) s) else m
moved m (ReadWord k s at) = m
moved m (Split k part) =
    record { bits = m.bits; slots = m.slots; actors = slice_set m.actors k (keeps_share (actor_at m k) part) ++ copy_of (actor_at m k) part ∷ []; rows = m.rows; start = m.start }
moved m (Join k j) = with_actor_at (with_actor_at m k (joined (actor_at m k) (actor_at m j))) j spent

-- what each event answers where it is enabled
abbrev pub told : Machine → Event → Answer
told m (LookCode k s) = Seen (slot_at m s).code
told m (PlaceCode k s x) = Seen (slot_at m s).code
told m (WriteWord k s at) = Moved
told m (Publish k s) = Moved
told m (LookState k s) = Seen (state_of (slot_at m s))
told m (ReadWord k s at) = Seen (slice_index (slot_at m s).words at)
told m (Split k part) = Moved
told m (Join k j) = Moved

abbrev pub after : Machine → Event → Machine
after m e = if enabled m e then moved m e else m

abbrev pub answer : Machine → Event → Answer
answer m e = if enabled m e then told m e else NotEnabled

-- the machine after a list of events
abbrev pub run : Machine → List Event → Machine
run m [] = m
run m (e ∷ es) = run (after m e) es

-- the lists have their lengths, and no due row has the code 0
pub record IsShaped (m : Machine) : Type 0 where
  pub slots : length m.slots ≡ 2 ^ m.bits
  pub few : (1 ≤ m.bits) × (m.bits ≤ 24)
  pub words : (s : ℕ) → s < length m.slots → length (slot_at m s).words ≡ 11
  pub coded : times 0 (codes_of m.rows) ≡ 0

-- the slots and actors are a sound store
pub record IsSoundMachine (m : Machine) : Type 0 where
  pub shaped : IsShaped m
  pub sound : IsSound (machine_terms m) (machine_cells m) m.actors
