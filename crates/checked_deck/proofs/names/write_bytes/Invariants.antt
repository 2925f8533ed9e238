use Rattle.std.proofs.Common.{◌≡◌, take, drop, length}
use Rattle.checked_deck.proofs.names.write_bytes.Given as goal

abbrev pub invariant-loop-i : goal.invariant-loop-i
invariant-loop-i l = (take l.i l.bytes ≡ take l.i l.text) × (drop (length l.text) l.bytes ≡ drop (length l.text) l.initial.bytes)
