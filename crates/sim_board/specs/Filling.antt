-- A seat while it puts the words of its slot one after another, for the callers that do so.
use Rattle.std.specs.Prelude.{◌≡◌, ℕ, zero, suc, ◌<◌, List, [], ◌∷◌, slice_index, Option, Some, None}
use Rattle.board_core.specs.declared.actor.Hand.{Hand}
use Rattle.board_core.specs.Lists.{IsIn}
use Rattle.board_core.specs.Rows.{due_word}
use Rattle.sim_board.specs.Seats.{SeatIs, with_actor}

-- the numbers below n, from the last
abbrev pub countdown : ℕ → List ℕ
countdown zero = []
countdown (suc n) = n ∷ countdown n

abbrev pub hand_filling : Option Hand → ℕ → Option Hand
hand_filling None n = None
hand_filling (Some h) n = Some (record { slot = h.slot; written = countdown n })

-- the seat after the first n words were put
abbrev pub filling : SeatIs → ℕ → SeatIs
filling s n = with_actor s (record { living = s.actor.living; share = s.actor.share; seen = s.actor.seen; known = s.actor.known; made = s.actor.made; hand = hand_filling s.actor.hand n })

-- a slot just taken is in hand, and these words are due for its code
pub record Holds (s : SeatIs) (words : List ℕ) (h : Hand) : Type 0 where
  pub code : ℕ
  pub hand : s.actor.hand ≡ Some h
  pub none : h.written ≡ []
  pub saw : IsIn (h.slot, code) s.actor.seen
  pub due : (at : ℕ) → at < 11 → slice_index words at ≡ due_word s.rows code at
