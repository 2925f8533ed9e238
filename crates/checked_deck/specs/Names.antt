-- A name lies in a fixed row of eight places, with zeros behind its bytes, so that equal names lie in
-- equal rows. This program's own.
use Rattle.std.specs.Prelude.{◌≡◌, ℕ, ◌-◌, ◌≤◌, ◌++◌, List, length, take, drop, replicate, IsTrue}
use Rattle.std.proofs.lemmas.List.{take-append-drop, length-take-le}
use Rattle.deck_lines.specs.Statements.{is_name}
use Rattle.checked_deck.specs.declared.names.Name.TheInside.{Inside}

-- at most eight bytes, and zeros behind the first `len`
pub record IsPadded (bytes : List ℕ) (len : ℕ) : Type 0 where
  pub places : length bytes ≡ 8
  pub high : len ≤ 8
  pub name : IsTrue (is_name (take len bytes))
  pub zeros : drop len bytes ≡ replicate (8 - len) 0

-- the row of a name
abbrev pub padded : List ℕ → Inside
padded v = record { bytes = v ++ replicate (8 - length v) 0; len = length v }

pub padded_back : (n : Inside) → IsPadded n.bytes n.len → padded (take n.len n.bytes) ≡ n
padded_back n h =
    let len : length (take n.len n.bytes) ≡ n.len = length-take-le n.len n.bytes (rw h.places h.high) in
    let whole : take n.len n.bytes ++ replicate (8 - length (take n.len n.bytes)) 0 ≡ n.bytes =
    rw len (rw (← h.zeros) (take-append-drop n.len n.bytes)) in
    λ i. record { bytes = whole i; len = len i }
