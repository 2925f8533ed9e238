-- When the slots and actors of a store are sound. The store is this program's own.
use Rattle.std.specs.Prelude.{◌≡◌, ◌≢◌, ℕ, ◌+◌, ◌%◌, ◌<◌, true, false, List, [], ◌==◌, if◌then◌else◌, Option, Some, None}
use mathlib.Core.Option.{some}
use lib.ListN.{get_elem?}
use Rattle.board_core.specs.declared.actor.Actor.{Actor}
use Rattle.board_core.specs.declared.actor.Hand.{Hand}
use Rattle.board_core.specs.Lists.{IsIn, times, total}

-- what never changes: how many slots, the home of a code, the row word due for a code, the codes of the store and those of its start
pub record Terms : Type 0 where
  pub slots : ℕ
  pub home : ℕ → ℕ
  pub due : ℕ → ℕ → ℕ
  pub codes : List ℕ
  pub start : List ℕ

-- what the slots hold, by number: the code, 0 for free, the state, 0 for not filled, and the row words
pub record Cells : Type 0 where
  pub code : ℕ → ℕ
  pub state : ℕ → ℕ
  pub row : ℕ → ℕ → ℕ

-- the slot at this distance from the home, upwards and round the end
abbrev pub spot : Terms → ℕ → ℕ → ℕ
spot t x i = (t.home x + i) % t.slots

-- slot s lies at some distance from the home of x, and each slot on the path to it has P
abbrev pub Reaches : Terms → (ℕ → Type 0) → ℕ → ℕ → Type 0
Reaches t P x s = (i : ℕ) × (i < t.slots) × (s ≡ spot t x i) × ((j : ℕ) → j < i → P (spot t x j))

-- the actor has seen some code in the slot
abbrev pub Saw : Actor → ℕ → Type 0
Saw a s = (x : ℕ) × IsIn (s, x) a.seen

-- 1 where the slot is in hand
abbrev pub holding : ℕ → Option Hand → ℕ
holding s None = 0
holding s (Some h) = if s == h.slot then 1 else 0

-- 1 where the slot has a code and is not filled
abbrev pub waiting : ℕ → ℕ → ℕ
waiting code state = if code == 0 then 0 else (if state == 0 then 1 else 0)

-- 1 where the slot has a code and is none of the start's
abbrev pub fresh : List ℕ → ℕ → ℕ
fresh start code = if code == 0 then 0 else (if times code start == 0 then 1 else 0)

-- the slot in hand has a code that was seen, is not filled, and its words marked written are the due words
abbrev pub HandIsDue : Terms → Cells → Actor → Option Hand → Type 0
HandIsDue t c a None = Unit {0}
HandIsDue t c a (Some h) = (c.state h.slot ≡ 0) × Saw a h.slot × ((at : ℕ) → IsIn at h.written → c.row h.slot at ≡ t.due (c.code h.slot) at)

-- a living actor has a share, and one that is not living has nothing
abbrev pub HasShare : Actor → Type 0
HasShare a = (a.living ≡ true → 0 < a.share) × (a.living ≡ false → (a.share ≡ 0) × (a.seen ≡ []) × (a.known ≡ []) × (a.made ≡ []) × (a.hand ≡ None))

-- P holds of each actor
abbrev pub Each : (Actor → Type 0) → List Actor → Type 0
Each P actors = (k : ℕ) (a : Actor) → get_elem? actors k ≡ some a → P a

pub record IsSound (t : Terms) (c : Cells) (actors : List Actor) : Type 0 where
  -- each code in a slot is one of the store's, and none stands in two slots
  pub codes_once : ((s : ℕ) → c.code s ≢ 0 → (s < t.slots) × IsIn (c.code s) t.codes) × ((s u : ℕ) → c.code s ≢ 0 → c.code s ≡ c.code u → s ≡ u)
  -- each slot on the path of a placed code holds a code
  pub paths_full : (s : ℕ) → c.code s ≢ 0 → Reaches t (λ u. c.code u ≢ 0) (c.code s) s
  -- each code that an actor has seen in a slot stands there
  pub seen_stands : Each (λ a. (s x : ℕ) → IsIn (s, x) a.seen → (x ≢ 0) × (c.code s ≡ x)) actors
  -- a filled slot holds a code and its due words
  pub filled_is_due : (s : ℕ) → c.state s ≢ 0 → (c.state s ≡ 1) × (c.code s ≢ 0) × ((at : ℕ) → at < 11 → c.row s at ≡ t.due (c.code s) at)
  -- each slot that an actor knows filled is filled, and the actor has seen its code
  pub known_is_filled : Each (λ a. (s : ℕ) → IsIn s a.known → (c.state s ≢ 0) × Saw a s) actors
  pub hand_is_due : Each (λ a. HandIsDue t c a a.hand) actors
  -- each placed slot that is not filled is in one hand, and no other slot is in a hand
  pub unfilled_in_one_hand : (s : ℕ) → total (λ (a : Actor). holding s a.hand) actors ≡ waiting (c.code s) (c.state s)
  pub shares_add_up : Each HasShare actors × (total (λ (a : Actor). a.share) actors ≡ 64)
  -- each placed slot that is none of the start's stands once in one list `made`, and no other slot stands in one
  pub made_once : (s : ℕ) → total (λ (a : Actor). times s a.made) actors ≡ fresh t.start (c.code s)
  -- each code of the start stands in a slot
  pub start_stands : (x : ℕ) → IsIn x t.start → (s : ℕ) × (c.code s ≡ x) × (x ≢ 0)
