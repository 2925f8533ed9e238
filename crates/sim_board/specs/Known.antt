-- What a seat can know of its own actor.
use Rattle.std.specs.Prelude.{◌≡◌, ◌≢◌, ◌⊎◌, ℕ, ◌^◌, ◌<◌, ◌≤◌, List}
use Rattle.board_core.specs.declared.actor.Actor.{Actor}
use Rattle.board_core.specs.declared.row.KeptRow.{KeptRow}
use Rattle.board_core.specs.Lists.{IsIn, times}
use Rattle.board_core.specs.Rows.{codes_of}

-- what a sound store of 2 ^ bits slots, over these due rows and codes of the start, says of one actor
pub record KnowsOwn (bits : ℕ) (rows : List KeptRow) (start : List ℕ) (a : Actor) : Type 0 where
  pub one_code : (s x y : ℕ) → IsIn (s, x) a.seen → IsIn (s, y) a.seen → x ≡ y
  pub one_slot : (s u x : ℕ) → IsIn (s, x) a.seen → IsIn (u, x) a.seen → s ≡ u
  pub coded : (s x : ℕ) → IsIn (s, x) a.seen → (x ≢ 0) × IsIn x (codes_of rows)
  pub inside : (s x : ℕ) → IsIn (s, x) a.seen → s < 2 ^ bits
  -- no slot stands twice in `made`, and none there has a code of the start
  pub made_once : (s : ℕ) → times s a.made ≤ 1
  pub made_new : (s x : ℕ) → IsIn s a.made → IsIn (s, x) a.seen → times x start ≡ 0
  -- with the whole share, each code seen is one of the start or was placed by the actor
  pub whole : a.share ≡ 64 → (s x : ℕ) → IsIn (s, x) a.seen → IsIn x start ⊎ IsIn s a.made
  pub share : a.share ≤ 64
