-- A sieve of starts: for each 64 of them, each candidate and each count a word whose bits say which of the 64
-- have at most so many of the candidate. No start that is at most a configuration lacks a bit in the words of
-- the configuration's counts.
use Rattle.std.specs.Prelude.{◌≡◌, ℕ, ◌+◌, ◌*◌, ◌<◌, ◌≤◌, List, [], length, slice_index, slice_index_or}
use Rattle.std.specs.Int.{bit_at}
use Rattle.plan_program.specs.Starts.{start_at}
use Rattle.plan_program.specs.declared.come.Start.{Start}

-- the count of a candidate that stands at a place of the starts
abbrev pub count_at : List Start → ℕ → ℕ → ℕ
count_at starts k i = slice_index (start_at starts i).standing.config k

-- the words of a candidate, one for each count
pub record IsRow (starts : List Start) (base k : ℕ) (row : List ℕ) : Type 0 where
  pub counts : length row ≡ 129
  pub each : (i v : ℕ) → i < 64 → base + i < length starts → count_at starts k (base + i) ≤ v → v < 129 → bit_at (slice_index row v) i ≡ 1

-- a row for each candidate
pub record IsBlock (starts : List Start) (base width : ℕ) (block : List (List ℕ)) : Type 0 where
  pub rows : length block ≡ width
  pub each : (k : ℕ) → k < width → IsRow starts base k (slice_index_or block k [])

-- blocks for the first starts
pub record IsSieve (starts : List Start) (width : ℕ) (sieve : List (List (List ℕ))) : Type 0 where
  pub few : 64 * length sieve ≤ length starts + 64
  pub each : (w : ℕ) → w < length sieve → IsBlock starts (64 * w) width (slice_index_or sieve w [])

-- a configuration's words have the bit of a place
abbrev pub HasBit : List (List ℕ) → List ℕ → ℕ → ℕ → Type 0
HasBit block counts i k = bit_at (slice_index (slice_index_or block k []) (slice_index counts k)) i ≡ 1
