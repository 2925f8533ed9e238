-- What is so of every trial deck. This program's own.
use Rattle.std.specs.Prelude.{◌≡◌, ℕ, ◌+◌, ◌*◌, ◌/◌, ◌≤◌, List, true, length, map, slice_index}
use Rattle.std.specs.List.{range_with_len}
use Rattle.deck_lines.specs.declared.head.Head.TheVariants as heads
use Rattle.deck_lines.specs.Deck.{body_of}
use Rattle.deck_check.specs.DeckFault.{HasNoFault}
use Rattle.deck_check.specs.Readings.{Says, cases, is_there, number, numbers, width, years}
use Rattle.year_system.specs.System.{size}
use Rattle.deck_maker.specs.TrialDeck.{trial}

-- it meets no row of the fault table
abbrev pub TrialsHaveNoFault : Type 0
TrialsHaveNoFault = (seed years candidates : ℕ) → 1 ≤ years → years ≤ 30 → 1 ≤ candidates → candidates ≤ 6 → HasNoFault (body_of (trial seed years candidates))

-- the widths of a TUNNEL statement, one for each candidate
abbrev pub widths : List ℕ → List ℕ
widths ns = map (λ k. slice_index ns (2 * k + 1)) (range_with_len 0 (length ns / 2))

-- the tunnel of each year has at most 64 configurations
abbrev pub TrialsAreNarrow : Type 0
TrialsAreNarrow =
    (seed years candidates t : ℕ) → candidates ≤ 6 → 1 ≤ t → t ≤ years → size (widths (numbers (body_of (trial seed years candidates)) (heads.Tunnel 1 t))) ≤ 64

-- the widths that a year's statement says of the candidates of a deck
abbrev pub said_widths : Says → ℕ → List ℕ
said_widths d t = map (λ k. number d (heads.Tunnel 1 t) (2 * k + 1)) (range_with_len 0 (width d))

-- it has so many years and one case, and each year has a tunnel of its own, with at most 64 configurations
pub record IsOneCase (d : Says) (many : ℕ) : Type 0 where
  pub years : years d ≡ many
  pub cases : cases d ≡ 1
  pub there : (t : ℕ) → 1 ≤ t → t ≤ many → is_there d (heads.Tunnel 1 t) ≡ true
  pub narrow : (t : ℕ) → 1 ≤ t → t ≤ many → size (said_widths d t) ≤ 64

abbrev pub TrialsHaveOneCase : Type 0
TrialsHaveOneCase = (seed many candidates : ℕ) → candidates ≤ 6 → IsOneCase (body_of (trial seed many candidates)) many
