-- The hourly loads that the lines of a source are, up to END. This program's own.
use Rattle.std.specs.Prelude.{◌≡◌, ◌==◌, ◌++◌, ◌+◌, ◌≤◌, ℕ, List, [], ◌∷◌, All, length, Option, None, Some, IfSome, Result, Ok, Err, nat_lt, if◌then◌else◌}
use Rattle.std.specs.List.{AllByRecursion}
use Rattle.std.specs.Io.KnownBytes.{Appends, Consumes, Keeps}
use Rattle.deck_lines.specs.LineFault.{◌>>=◌, fault}
use Rattle.deck_lines.specs.declared.fault.LineFault.{LineFault}
use Rattle.deck_lines.specs.declared.fault.LineKind.TheVariants as kinds
use Rattle.line_reader.specs.Lines.{lines_of, unlines, IsUnbroken}
use Rattle.hourly_load.specs.Hours.{IsHourly, above}
use Rattle.hourly_load.specs.Lines.{load_line_of}
use Rattle.hourly_load.specs.declared.line.LoadLine.{LoadLine}
use Rattle.hourly_load.specs.Texts.{hourly_text}
use Rattle.hourly_load.specs.declared.line.LoadLine.TheVariants as lines
use Rattle.hourly_load.specs.declared.shape.Hourly.{Hourly}
use Rattle.report_text.specs.Refusals.{malformed_line}
use Rattle.wasp4.specs.declared.status.Ending.{Ending}
use Rattle.wasp4.specs.declared.status.Ending.TheVariants as endings
use Rattle.wasp4.specs.declared.status.Status.{Status}
use Rattle.wasp4.specs.declared.status.Status.TheVariants as statuses
use Rattle.wasp4.specs.Progress.{IsCutShort}
use Rattle.wasp4.specs.Script.{Malformed}
use Rattle.wasp4.specs.declared.hours.LoadTurn.{LoadTurn}
use Rattle.wasp4.specs.declared.hours.LoadTurn.TheVariants as turns
use Rattle.wasp4.specs.declared.hours.Hours.{Hours}
use Rattle.wasp4.specs.declared.hours.Hours.TheVariants as results

-- ---- one line

-- a load behind 8,784 others is a fault, and an END before any load above 0
abbrev pub within_hours : List ℕ → LoadLine → Result LoadLine LineFault
within_hours loads lines.Blank = Ok lines.Blank
within_hours loads (lines.Load n) = if nat_lt (length loads) 8784 then Ok (lines.Load n) else Err (fault kinds.Many 1)
within_hours loads lines.End = if above loads 0 == 0 then Err (fault kinds.Count 1) else Ok lines.End

-- what the bytes of a line are behind these loads
abbrev pub stated_behind : List ℕ → List ℕ → Result LoadLine LineFault
stated_behind loads bytes = load_line_of bytes >>= within_hours loads

-- behind so many other lines: there are at most 100,000
abbrev pub load_behind : ℕ → List ℕ → List ℕ → Result LoadLine LineFault
load_behind n loads bytes = if nat_lt n 100000 then stated_behind loads bytes else Err (fault kinds.ManyLines 1)

-- ---- all lines

-- a line, and those behind it
abbrev pub load_then : ℕ → List ℕ → (List ℕ → Result (List ℕ) Malformed) → Result LoadLine LineFault → Result (List ℕ) Malformed
load_then n loads rest (Err f) = Err (record { line = n + 1; fault = f })
load_then n loads rest (Ok lines.End) = Ok loads
load_then n loads rest (Ok lines.Blank) = rest loads
load_then n loads rest (Ok (lines.Load load)) = rest (loads ++ load ∷ [])

-- the loads before the END, behind so many lines that gave these, or the first line with a fault
unfoldable pub loads_behind : ℕ → List ℕ → List (List ℕ) → Result (List ℕ) Malformed
loads_behind n loads [] = Err (record { line = n + 1; fault = fault kinds.NoEnd 1 })
loads_behind n loads (bytes ∷ texts) = load_then n loads (λ more. loads_behind (n + 1) more texts) (load_behind n loads bytes)

abbrev pub loads_of : List ℕ → Result (List ℕ) Malformed
loads_of text = loads_behind 0 [] (lines_of text)

-- ---- one turn

-- the loads before an END have a shape
pub record AreLoads (loads : List ℕ) : Type 0 where
  pub few : length loads ≤ 8784
  pub small : All (λ load. load ≤ 65535) loads

-- what comes of the bytes of a line behind so many lines that gave these loads
abbrev pub LineTurn : ℕ → List ℕ → List ℕ → List ℕ → LoadTurn → Type 0
LineTurn n bytes loads loads' turns.Goes = (more : List (List ℕ)) → loads_behind n loads (bytes ∷ more) ≡ loads_behind (n + 1) loads' more
LineTurn n bytes loads loads' turns.Ended = (more : List (List ℕ)) → loads_behind n loads (bytes ∷ more) ≡ Ok loads'
LineTurn n bytes loads loads' (turns.Malformed number f) = (more : List (List ℕ)) → loads_behind n loads (bytes ∷ more) ≡ Err (record { line = number; fault = f })
LineTurn n bytes loads loads' turns.Failed = ⊥

-- one line was taken, and others are to come
pub record TakesLoad (n : ℕ) (before now : Option (List ℕ)) (loads loads' : List ℕ) : Type 0 where
  pub bytes : List ℕ
  pub whole : IsUnbroken bytes
  pub taken : Consumes before now (bytes ++ 10 ∷ [])
  pub leads : (more : List (List ℕ)) → loads_behind n loads (bytes ∷ more) ≡ loads_behind (n + 1) loads' more

-- a part of a line was taken, and nothing behind the last line that there may be
pub record TakesPart (n : ℕ) (before now : Option (List ℕ)) : Type 0 where
  pub part : List ℕ
  pub unended : IsUnbroken part
  pub short : length part ≤ 4096
  pub taken : Consumes before now part
  pub few : (n ≡ 100000) → part ≡ []

-- what one turn did behind so many lines that gave these loads
abbrev pub LoadsFrom : ℕ → Option (List ℕ) → Option (List ℕ) → List ℕ → List ℕ → LoadTurn → Type 0
LoadsFrom n before now loads loads' turns.Goes = TakesLoad n before now loads loads'
LoadsFrom n before now loads loads' turns.Ended = IfSome before (λ text. loads_behind n loads (lines_of text) ≡ Ok loads')
LoadsFrom n before now loads loads' (turns.Malformed number f) = IfSome before (λ text. loads_behind n loads (lines_of text) ≡ Err (record { line = number; fault = f }))
LoadsFrom n before now loads loads' turns.Failed = (loads' ≡ loads) × TakesPart n before now

-- ---- many turns

-- so many lines were taken, which gave these loads
pub record TakesLoads (n : ℕ) (before now : Option (List ℕ)) (loads : List ℕ) : Type 0 where
  pub texts : List (List ℕ)
  pub whole : AllByRecursion IsUnbroken texts
  pub taken : Consumes before now (unlines texts)
  pub leads : (more : List (List ℕ)) → loads_behind 0 [] (texts ++ more) ≡ loads_behind n loads more

-- The bytes that were taken are whole lines and a part of one, and neither END nor a fault stands in them: reading goes
-- on with whatever lines come.
pub record StopsBetweenLoads (before now : Option (List ℕ)) : Type 0 where
  pub n : ℕ
  pub loads : List ℕ
  pub texts : List (List ℕ)
  pub whole : AllByRecursion IsUnbroken texts
  pub part : List ℕ
  pub unended : IsUnbroken part
  pub short : length part ≤ 4096
  pub taken : Consumes before now (unlines texts ++ part)
  pub leads : (more : List (List ℕ)) → loads_behind 0 [] (texts ++ more) ≡ loads_behind n loads more
  pub few : (n ≡ 100000) → part ≡ []

-- what was read of all lines
abbrev pub HoursFrom : Option (List ℕ) → Option (List ℕ) → Hours → Type 0
HoursFrom before now (results.Loads loads) = IfSome before (λ text. loads_of text ≡ Ok loads.items)
HoursFrom before now (results.Malformed number f) = IfSome before (λ text. loads_of text ≡ Err (record { line = number; fault = f }))
HoursFrom before now results.Failed = StopsBetweenLoads before now

-- the loads have a shape
abbrev pub HaveShape : Hours → Type 0
HaveShape (results.Loads loads) = AreLoads loads.items × (1 ≤ above loads.items 0)
HaveShape (results.Malformed number f) = Unit {0}
HaveShape results.Failed = Unit {0}

-- ---- what is written

-- the shape of the loads before END, or the first line with a fault
abbrev pub IsHoursText : ℕ → Result (List ℕ) Malformed → List ℕ → Type 0
IsHoursText points (Ok loads) said = (h : Hourly) × IsHourly loads points h × (said ≡ hourly_text h)
IsHoursText points (Err m) said = said ≡ malformed_line m.line m.fault

-- the lines end so: by END, or at a malformed line
abbrev pub EndsHours : Ending → Result (List ℕ) Malformed → Type 0
EndsHours endings.Done hours = (loads : List ℕ) × (hours ≡ Ok loads)
EndsHours endings.CheckNo hours = ⊥
EndsHours endings.Malformed hours = (m : Malformed) × (hours ≡ Err m)

-- what the lines of a source are answered with
pub record SaysHours (points : ℕ) (before : Option (List ℕ)) (said : List ℕ) (ending : Ending) : Type 0 where
  pub hours : Result (List ℕ) Malformed
  pub is : IfSome before (λ text. loads_of text ≡ hours)
  pub text : IsHoursText points hours said
  pub ends : EndsHours ending hours

-- the same, or that the source failed before the lines were over
abbrev pub HoursSaid : ℕ → Option (List ℕ) → Option (List ℕ) → List ℕ → Option Ending → Type 0
HoursSaid points before now said None = StopsBetweenLoads before now
HoursSaid points before now said (Some ending) = SaysHours points before said ending

-- the whole text was written
pub record ClosesHours (points : ℕ) (before written written' : Option (List ℕ)) (ending : Ending) : Type 0 where
  pub said : List ℕ
  pub says : SaysHours points before said ending
  pub wrote : Appends written written' said

-- a front of it was written, and more of it was to come
pub record CutsHours (points : ℕ) (before written written' : Option (List ℕ)) : Type 0 where
  pub said : List ℕ
  pub ending : Ending
  pub says : SaysHours points before said ending
  pub cut : IsCutShort written written' said

-- what was taken and written, by the status: nothing is written before reading has ended
abbrev pub AnswersHours : ℕ → Option (List ℕ) → Option (List ℕ) → Option (List ℕ) → Option (List ℕ) → Status → Type 0
AnswersHours points before now written written' statuses.Done = ClosesHours points before written written' endings.Done
AnswersHours points before now written written' statuses.CheckNo = ⊥
AnswersHours points before now written written' statuses.Malformed = ClosesHours points before written written' endings.Malformed
AnswersHours points before now written written' statuses.ReadFault = StopsBetweenLoads before now × Keeps written written'
AnswersHours points before now written written' statuses.WriteFault = CutsHours points before written written'
AnswersHours points before now written written' statuses.OutOfMemory = Keeps written written'
AnswersHours points before now written written' statuses.BadWords = ⊥

-- the sink's sure room holds what was written before and the whole text
pub record HasRoomForHours (points : ℕ) (left written : Option (List ℕ)) (room : Option ℕ) : Type 0 where
  pub bytes : List ℕ
  pub before : List ℕ
  pub most : ℕ
  pub told : left ≡ Some bytes
  pub wrote : written ≡ Some before
  pub sure : room ≡ Some most
  pub fits : (said : List ℕ) (ending : Ending) → SaysHours points left said ending → length before + length said ≤ most
