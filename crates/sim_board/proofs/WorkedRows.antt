-- Worked rows: a board over two codes, and a table of two slots, of which the second is filled.
use Rattle.std.proofs.Common.{◌≡◌, ℕ, zero, suc, ◌^◌, ◌<◌, List, [], ◌∷◌, ◌++◌, replicate, refl, arith}
use Rattle.board_core.specs.Trial.{same_row}
use Rattle.sim_board.specs.Standing.{base, slot_of, at_of, cells_of}
use Rattle.sim_board.specs.Start.{IsLeastRoom}
use Rattle.sim_board.specs.Collected.{rows_below}

two_codes_have_eight_slots : IsLeastRoom 2 3
two_codes_have_eight_slots = record { enough = omega arith; least = below }
  where
    below : (b : ℕ) → b < 3 → 2 ^ b < 6
    below zero lt = omega arith
    below (suc zero) lt = omega arith
    below (suc (suc zero)) lt = omega arith
    below (suc (suc (suc b))) lt = absurd (omega arith)

slot_4_begins_at_word_53 : base 4 ≡ 53
slot_4_begins_at_word_53 = refl

word_53_is_of_slot_4 : slot_of 53 ≡ 4
word_53_is_of_slot_4 = refl

word_57_is_row_word_2_of_its_slot : at_of 57 ≡ 2
word_57_is_row_word_2_of_its_slot = refl

two_slots : List ℕ
two_slots = replicate 14 0 ++ 7 ∷ 1 ∷ replicate 11 7

its_second_slot_is_filled : (cells_of two_slots).state 1 ≡ 1
unfolding two_slots
its_second_slot_is_filled = refl

its_rows : rows_below two_slots 2 ≡ same_row 7 ∷ []
unfolding two_slots
its_rows = refl
