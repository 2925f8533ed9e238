-- The names of a year, gathered from lines and put in order, so that a configuration that is named twice stands
-- beside itself.
use Rattle.std.specs.Prelude.{◌≡◌, ◌≢◌, ◌↔◌, ◌⊎◌, ◌++◌, ◌∷◌, Bool, true, false, slice_set, ℕ, ◌+◌, ◌<◌, ◌≤◌, List, [], length, take, All, Contains, Option, Some, None, slice_index_or}
use Rattle.std.specs.Cmp.Lexicographic.{slice_cmp}
use Rattle.std.specs.Ordering.{nat_cmp, ordering_then}
use Rattle.std.specs.declared.cmp.Ordering.{Ordering}
use Rattle.deck_lines.specs.declared.line.CertLine.{CertLine}
use Rattle.deck_lines.specs.declared.line.CertLine.TheVariants.{Come}
use Rattle.plan_certificate.specs.Certificate.{NamesRise}
use Rattle.plan_certificate.specs.Reading.{IsNamedBy, line_at}
use Rattle.plan_certificate.specs.Steps.{no_name}
use Rattle.plan_certificate.specs.declared.certificate.Named.{Named}
use Rattle.plan_certificate.specs.declared.gathered.Numbered.{Numbered}

abbrev pub no_numbered : Numbered
no_numbered = record { named = no_name; line = 0 }

abbrev pub numbered_at : List Numbered → ℕ → Numbered
numbered_at names i = slice_index_or names i no_numbered

-- one of the first n lines says this name of a year, counted from 0
pub record IsNumbered (lines : List CertLine) (year n : ℕ) (m : Numbered) : Type 0 where
  pub within : m.line < n
  pub says : line_at lines m.line ≡ Come (year + 1) m.named.config m.named.value

-- the names that the first n lines say of a year, each line once
pub record AreNumbered (lines : List CertLine) (year n : ℕ) (names : List Numbered) : Type 0 where
  pub each : All (IsNumbered lines year n) names
  pub all : (j : ℕ) (config : List ℕ) (value : Option ℕ) → j < n → line_at lines j ≡ Come (year + 1) config value → Contains names (record { named = record { config = config; value = value }; line = j })
  pub apart : (i j : ℕ) → i < j → j < length names → (numbered_at names i).line ≢ (numbered_at names j).line

-- by configuration, and then by line
abbrev pub key : Numbered → List ℕ × ℕ
key m = (m.named.config, m.line)

abbrev pub key_cmp : (List ℕ × ℕ) → (List ℕ × ℕ) → Ordering
key_cmp a b = ordering_then (slice_cmp nat_cmp a.0 b.0) (nat_cmp a.1 b.1)

-- among the first n names one stands beside another of its configuration, and comes from this line
pub record RepeatsAt (names : List Numbered) (n line : ℕ) : Type 0 where
  pub place : ℕ
  pub within : place + 1 < n
  pub same : (numbered_at names place).named.config ≡ (numbered_at names (place + 1)).named.config
  pub at : (numbered_at names (place + 1)).line ≡ line

-- a line names a configuration of a year that an earlier line named
pub record IsAgain (lines : List CertLine) (year line : ℕ) : Type 0 where
  pub config : List ℕ
  pub value : Option ℕ
  pub within : line < length lines
  pub says : line_at lines line ≡ Come (year + 1) config value
  pub earlier : IsNamedBy (take line lines) (year + 1) config

-- the same of one of the first n years
abbrev pub IsAgainBelow : List CertLine → ℕ → ℕ → Type 0
IsAgainBelow lines n line = (year : ℕ) × (year < n) × IsAgain lines year line

-- what lines name in a year, in rising order where no line names a configuration again
pub record AreNamesOf (lines : List CertLine) (year : ℕ) (names : List Named) : Type 0 where
  pub says : (config : List ℕ) (value : Option ℕ) → Contains names (record { config = config; value = value }) ↔ Contains lines (Come (year + 1) config value)
  pub rises : ((line : ℕ) → IsAgain lines year line → ⊥) → NamesRise names

-- ---- steps

-- a line's name of a year is added, where it says one
abbrev pub IsAdded : CertLine → ℕ → ℕ → List Numbered → List Numbered → Type 0
IsAdded line place year old new =
    ((n : Named) × (line ≡ Come (year + 1) n.config n.value) × (new ≡ old ++ record { named = n; line = place } ∷ []))
    ⊎ (((config : List ℕ) (value : Option ℕ) → line ≢ Come (year + 1) config value) × (new ≡ old))

-- the line of a name is marked, where it stands behind another of its configuration
abbrev pub IsMarked : Numbered → Numbered → List Bool → List Bool → Type 0
IsMarked before name old new =
    ((before.named.config ≡ name.named.config) × (new ≡ slice_set old name.line true))
    ⊎ ((before.named.config ≢ name.named.config) × (new ≡ old))

abbrev pub HasMark : List Bool → ℕ → Type 0
HasMark marks line = slice_index_or marks line false ≡ true

abbrev pub AreMarked : List Numbered → ℕ → List Bool → List Bool → Type 0
AreMarked names n old new = (line : ℕ) → HasMark new line ↔ (HasMark old line ⊎ RepeatsAt names n line)

-- the lines that name a configuration of the year again are marked
abbrev pub MarksAgain : List CertLine → ℕ → List Bool → List Bool → Type 0
MarksAgain lines year old new = (line : ℕ) → HasMark new line ↔ (HasMark old line ⊎ IsAgain lines year line)
