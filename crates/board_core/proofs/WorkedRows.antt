-- Worked rows: a store of 8 slots over the codes 1 and 2.
use Rattle.std.proofs.Common.{◌≡◌, List, [], ◌∷◌, refl}
use Rattle.board_core.specs.declared.event.Event.{Event}
use Rattle.board_core.specs.declared.event.Event.TheVariants.{LookCode, PlaceCode, WriteWord, Publish, LookState, ReadWord, Split}
use Rattle.board_core.specs.declared.event.Answer.TheVariants.{NotEnabled, Seen, Moved}
use Rattle.board_core.specs.Rows.{home_slot}
use Rattle.board_core.specs.Events.{newcomer}
use Rattle.board_core.specs.Start.{free_slots}
use Rattle.board_core.specs.Machine.{Machine, run, answer}
use Rattle.board_core.specs.Trial.{same_row}

home_of_code_1 : home_slot 3 1 ≡ 4
unfolding home_slot
home_of_code_1 = refl

home_of_code_2 : home_slot 3 2 ≡ 1
unfolding home_slot
home_of_code_2 = refl

at_start : Machine
at_start = record { bits = 3; slots = free_slots 3; actors = newcomer ∷ []; rows = same_row 1 ∷ same_row 2 ∷ []; start = [] }

-- code 1 is placed at its home, and ten of its words are written
ten_words : List Event
ten_words =
    PlaceCode 0 4 1 ∷ WriteWord 0 4 0 ∷ WriteWord 0 4 1 ∷ WriteWord 0 4 2 ∷ WriteWord 0 4 3 ∷ WriteWord 0 4 4 ∷ WriteWord 0 4 5 ∷ WriteWord 0 4 6 ∷ WriteWord 0 4 7 ∷ WriteWord 0 4 8 ∷ WriteWord 0 4 9 ∷ []

publish_after_ten_words_is_not_enabled : answer (run at_start ten_words) (Publish 0 4) ≡ NotEnabled
unfolding at_start ten_words home_slot
publish_after_ten_words_is_not_enabled = refl

publish_after_eleven_words_moves : answer (run (run at_start ten_words) (WriteWord 0 4 10 ∷ [])) (Publish 0 4) ≡ Moved
unfolding at_start ten_words home_slot
publish_after_eleven_words_moves = refl

a_filled_slot_is_read : answer (run (run at_start ten_words) (WriteWord 0 4 10 ∷ Publish 0 4 ∷ [])) (ReadWord 0 4 7) ≡ Seen 1
unfolding at_start ten_words home_slot
a_filled_slot_is_read = refl

-- the second actor cannot read what it does not know filled
another_has_to_look : answer (run at_start (PlaceCode 0 4 1 ∷ Split 0 1 ∷ LookCode 1 4 ∷ LookState 1 4 ∷ [])) (ReadWord 1 4 0) ≡ NotEnabled
unfolding at_start home_slot
another_has_to_look = refl
