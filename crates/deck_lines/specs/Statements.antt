-- The statements of a deck: one table of their words, index numbers, names and fields, with the ranges,
-- and what a list of words states by it. The line format is this program's own; what the statements
-- say of plants, loads and margins is what LOADSY, FIXSYS, VARSYS, CONGEN and DYNPRO read (IAEA
-- Computer Manual Series No. 16).
use Rattle.std.specs.Prelude.{◌==◌, ◌&&◌, ◌||◌, ℕ, zero, suc, ◌-◌, Bool, true, false, List, [], ◌∷◌, ◌++◌, length, take, drop, Option, Some, None, Result, Ok, Err, IsTrue, nat_le, codes, slice_index, find, if◌then◌else◌}
use Rattle.std.specs.List.{list_all}
use Rattle.std.specs.Str.{bytes_eq}
use Rattle.deck_lines.specs.declared.fault.LineFault.{LineFault}
use Rattle.deck_lines.specs.declared.fault.LineKind.TheVariants as faults
use Rattle.deck_lines.specs.declared.form.Kind.{Kind}
use Rattle.deck_lines.specs.declared.form.Kind.TheVariants as kinds
use Rattle.deck_lines.specs.declared.form.Naming.{Naming}
use Rattle.deck_lines.specs.declared.form.Naming.TheVariants as naming
use Rattle.deck_lines.specs.declared.form.Form.{Form}
use Rattle.deck_lines.specs.declared.head_word.HeadWord.{HeadWord}
use Rattle.deck_lines.specs.declared.head_word.HeadWord.TheVariants as words
use Rattle.deck_lines.specs.declared.head.Head.{Head}
use Rattle.deck_lines.specs.declared.head.Key.{Key as KeyFields}
use Rattle.deck_lines.specs.declared.head.Head.TheVariants as heads
use Rattle.deck_lines.specs.declared.statement.Statement.{Statement}
use Rattle.deck_lines.specs.Words.{Piece, number_of}
use Rattle.deck_lines.specs.LineFault.{◌>>=◌, fault}

-- ---- the table

-- what stands behind a head word: index numbers, a name, and from least to most groups of fields
pub record Layout : Type 0 where
  pub index : List Kind
  pub naming : Naming
  pub group : List Kind
  pub least : ℕ
  pub most : ℕ

abbrev pub laid_out : Form → Layout
laid_out f = record { index = f.index.now; naming = f.naming; group = f.group.now; least = f.least; most = f.most }

abbrev pub from_to : ℕ → ℕ → Kind
from_to low high = kinds.Number low high

-- the ranges of the index numbers
abbrev pub year : Kind
year = from_to 1 30

abbrev pub case : Kind
case = from_to 1 8

abbrev pub plant : Kind
plant = from_to 1 40

abbrev pub candidate : Kind
candidate = from_to 1 12

abbrev pub group : Kind
group = from_to 1 2

abbrev pub project : Kind
project = from_to 1 30

abbrev pub period : Kind
period = from_to 1 12

abbrev pub fuel : Kind
fuel = from_to 1 20

abbrev pub shape : Kind
shape = from_to 1 100

-- units, least and full MW, heat and inc, fuel, fixed, variable, outage, repair
abbrev pub plant_fields : List Kind
plant_fields = from_to 0 128 ∷ from_to 1 20_000 ∷ from_to 1 20_000 ∷ from_to 0 50_000 ∷ from_to 0 50_000 ∷ fuel ∷ from_to 0 10_000 ∷ from_to 0 100_000 ∷ from_to 0 10_000 ∷ from_to 0 8760 ∷ []

-- those of a plant, its greatest count in the place of the units, and capdom, capfor, stock, life
abbrev pub thermal_fields : List Kind
thermal_fields = plant_fields ++ from_to 0 50_000 ∷ from_to 0 50_000 ∷ from_to 0 10_000 ∷ from_to 1 100 ∷ []

abbrev pub repeated : List Kind → List Kind → ℕ → ℕ → Layout
repeated index group least most = record { index = index; naming = naming.Unnamed; group = group; least = least; most = most }

abbrev pub once : List Kind → List Kind → Layout
once index group = repeated index group 1 1

abbrev pub named : List Kind → List Kind → Layout
named index group = record { index = index; naming = naming.Named; group = group; least = 1; most = 1 }

-- one word, `MERIT` or `BASE`
abbrev pub ruled : Layout
ruled = record { index = []; naming = naming.Rule; group = []; least = 0; most = 0 }

abbrev pub layout_of : HeadWord → Layout
layout_of words.Years = once [] (from_to 1 30 ∷ [])
layout_of words.Periods = once [] (kinds.Periods ∷ [])
layout_of words.Rate = once [] (from_to 0 10_000 ∷ from_to 0 10_000 ∷ [])
layout_of words.Ens = once [] (from_to 0 10_000_000 ∷ [])
layout_of words.Rule = ruled
layout_of words.Cases = once [] (case ∷ [])
layout_of words.Conditions = repeated [] (from_to 0 10_000 ∷ []) 1 5
layout_of words.Shape = repeated (shape ∷ []) (from_to 0 10_000 ∷ from_to 0 10_000 ∷ []) 2 64
layout_of words.Fuel = once (fuel ∷ []) (from_to 0 50_000 ∷ from_to 0 50_000 ∷ [])
layout_of words.Load = repeated (year ∷ []) (from_to 1 400_000 ∷ shape ∷ []) 1 12
layout_of words.Plant = named (plant ∷ []) plant_fields
layout_of words.Add = once (plant ∷ year ∷ []) (from_to 0 128 ∷ [])
layout_of words.Retire = once (plant ∷ year ∷ []) (from_to 0 128 ∷ [])
layout_of words.Thermal = named (candidate ∷ []) thermal_fields
layout_of words.Hydro = named (group ∷ []) (from_to 0 15 ∷ from_to 0 15 ∷ from_to 0 10_000 ∷ [])
layout_of words.Project = once (group ∷ project ∷ []) (from_to 0 20_000 ∷ from_to 0 50_000 ∷ from_to 0 50_000 ∷ from_to 1 100 ∷ [])
layout_of words.Water = repeated (group ∷ project ∷ period ∷ []) (from_to 0 20_000 ∷ from_to 0 20_000 ∷ from_to 0 200_000_000 ∷ []) 1 5
layout_of words.Tunnel = repeated (case ∷ year ∷ []) (from_to 0 128 ∷ from_to 0 128 ∷ []) 1 14
layout_of words.Margin = once (case ∷ year ∷ []) (from_to 0 100_000 ∷ from_to 0 100_000 ∷ [])
layout_of words.Lolp = once (case ∷ year ∷ []) (from_to 0 1_000_000_000 ∷ from_to 0 1_000_000_000 ∷ [])
layout_of words.Version = once [] (from_to 1 2 ∷ [])
layout_of words.EnsMore = once [] (from_to 0 10_000_000 ∷ from_to 0 10_000_000 ∷ [])
layout_of words.Escalate = once [] (from_to 0 1_000 ∷ from_to 0 1_000 ∷ [])
layout_of words.Grid = once [] (from_to 1 20 ∷ [])

abbrev pub spelling_of : HeadWord → List ℕ
spelling_of words.Years = codes "YEARS"
spelling_of words.Periods = codes "PERIODS"
spelling_of words.Rate = codes "RATE"
spelling_of words.Ens = codes "ENS"
spelling_of words.Rule = codes "RULE"
spelling_of words.Cases = codes "CASES"
spelling_of words.Conditions = codes "CONDITIONS"
spelling_of words.Shape = codes "SHAPE"
spelling_of words.Fuel = codes "FUEL"
spelling_of words.Load = codes "LOAD"
spelling_of words.Plant = codes "PLANT"
spelling_of words.Add = codes "ADD"
spelling_of words.Retire = codes "RETIRE"
spelling_of words.Thermal = codes "THERMAL"
spelling_of words.Hydro = codes "HYDRO"
spelling_of words.Project = codes "PROJECT"
spelling_of words.Water = codes "WATER"
spelling_of words.Tunnel = codes "TUNNEL"
spelling_of words.Margin = codes "MARGIN"
spelling_of words.Lolp = codes "LOLP"
spelling_of words.Version = codes "VERSION"
spelling_of words.EnsMore = codes "ENSMORE"
spelling_of words.Escalate = codes "ESCALATE"
spelling_of words.Grid = codes "GRID"

abbrev pub head_words : List HeadWord
head_words = words.Years ∷ words.Periods ∷ words.Rate ∷ words.Ens ∷ words.Rule ∷ words.Cases ∷ words.Conditions ∷ words.Shape ∷ words.Fuel ∷ words.Load ∷ words.Plant ∷ words.Add ∷ words.Retire ∷ words.Thermal ∷ words.Hydro ∷ words.Project ∷ words.Water ∷ words.Tunnel ∷ words.Margin ∷ words.Lolp ∷ words.Version ∷ words.EnsMore ∷ words.Escalate ∷ words.Grid ∷ []

-- the head word that a text spells
abbrev pub head_word_of : List ℕ → Option HeadWord
head_word_of text = find (λ word. bytes_eq text (spelling_of word)) head_words

-- the head of a word and its index numbers
abbrev pub head_of : HeadWord → List ℕ → Head
head_of words.Years index = heads.Years
head_of words.Periods index = heads.Periods
head_of words.Rate index = heads.Rate
head_of words.Ens index = heads.Ens
head_of words.Rule index = heads.Rule
head_of words.Cases index = heads.Cases
head_of words.Conditions index = heads.Conditions
head_of words.Shape index = heads.Shape (slice_index index 0)
head_of words.Fuel index = heads.Fuel (slice_index index 0)
head_of words.Load index = heads.Load (slice_index index 0)
head_of words.Plant index = heads.Plant (slice_index index 0)
head_of words.Add index = heads.Add (slice_index index 0) (slice_index index 1)
head_of words.Retire index = heads.Retire (slice_index index 0) (slice_index index 1)
head_of words.Thermal index = heads.Thermal (slice_index index 0)
head_of words.Hydro index = heads.Hydro (slice_index index 0)
head_of words.Project index = heads.Project (slice_index index 0) (slice_index index 1)
head_of words.Water index = heads.Water (slice_index index 0) (slice_index index 1) (slice_index index 2)
head_of words.Tunnel index = heads.Tunnel (slice_index index 0) (slice_index index 1)
head_of words.Margin index = heads.Margin (slice_index index 0) (slice_index index 1)
head_of words.Lolp index = heads.Lolp (slice_index index 0) (slice_index index 1)
head_of words.Version index = heads.Version
head_of words.EnsMore index = heads.EnsMore
head_of words.Escalate index = heads.Escalate
head_of words.Grid index = heads.Grid

-- ---- equal heads

-- the place of the word in the table, and the index numbers, 0 where there are fewer
pub record Key : Type 0 where
  pub place : ℕ
  pub i : ℕ
  pub j : ℕ
  pub k : ℕ

abbrev pub key_of : Head → Key
key_of heads.Years = record { place = 0; i = 0; j = 0; k = 0 }
key_of heads.Periods = record { place = 1; i = 0; j = 0; k = 0 }
key_of heads.Rate = record { place = 2; i = 0; j = 0; k = 0 }
key_of heads.Ens = record { place = 3; i = 0; j = 0; k = 0 }
key_of heads.Rule = record { place = 4; i = 0; j = 0; k = 0 }
key_of heads.Cases = record { place = 5; i = 0; j = 0; k = 0 }
key_of heads.Conditions = record { place = 6; i = 0; j = 0; k = 0 }
key_of (heads.Shape i) = record { place = 7; i = i; j = 0; k = 0 }
key_of (heads.Fuel i) = record { place = 8; i = i; j = 0; k = 0 }
key_of (heads.Load i) = record { place = 9; i = i; j = 0; k = 0 }
key_of (heads.Plant i) = record { place = 10; i = i; j = 0; k = 0 }
key_of (heads.Add i j) = record { place = 11; i = i; j = j; k = 0 }
key_of (heads.Retire i j) = record { place = 12; i = i; j = j; k = 0 }
key_of (heads.Thermal i) = record { place = 13; i = i; j = 0; k = 0 }
key_of (heads.Hydro i) = record { place = 14; i = i; j = 0; k = 0 }
key_of (heads.Project i j) = record { place = 15; i = i; j = j; k = 0 }
key_of (heads.Water i j k) = record { place = 16; i = i; j = j; k = k }
key_of (heads.Tunnel i j) = record { place = 17; i = i; j = j; k = 0 }
key_of (heads.Margin i j) = record { place = 18; i = i; j = j; k = 0 }
key_of (heads.Lolp i j) = record { place = 19; i = i; j = j; k = 0 }
key_of heads.Version = record { place = 20; i = 0; j = 0; k = 0 }
key_of heads.EnsMore = record { place = 21; i = 0; j = 0; k = 0 }
key_of heads.Escalate = record { place = 22; i = 0; j = 0; k = 0 }
key_of heads.Grid = record { place = 23; i = 0; j = 0; k = 0 }

abbrev pub shown_key : KeyFields → Key
shown_key k = record { place = k.place; i = k.i; j = k.j; k = k.k }

abbrev pub same_key : Key → Key → Bool
same_key a b = (a.place == b.place) && (a.i == b.i) && (a.j == b.j) && (a.k == b.k)

-- whether two heads have the same word and the same index numbers
abbrev pub same_head : Head → Head → Bool
same_head a b = same_key (key_of a) (key_of b)

-- ---- fields

abbrev pub allows : Kind → ℕ → Bool
allows (kinds.Number low high) n = nat_le low n && nat_le n high
allows kinds.Periods n = (n == 1) || (n == 2) || (n == 3) || (n == 4) || (n == 6) || (n == 12)

abbrev pub number_in : Kind → ℕ → Option ℕ → Result ℕ LineFault
number_in kind column None = Err (fault faults.Number column)
number_in kind column (Some n) = if allows kind n then Ok n else Err (fault faults.Range column)

-- the number that a word spells, within its range
abbrev pub number_at : Kind → Piece → Result ℕ LineFault
number_at kind w = number_in kind w.column (number_of w.text)

-- A word for each kind, and the words behind them. The numbers go behind those from before. `end` is
-- where a missing word is looked for.
unfoldable pub fields_onto : List ℕ → ℕ → List Kind → List Piece → Result (List ℕ × List Piece) LineFault
fields_onto before end [] ws = Ok (before, ws)
fields_onto before end (kind ∷ kinds) [] = Err (fault faults.Count end)
fields_onto before end (kind ∷ kinds) (w ∷ ws) = do
  n ← number_at kind w
  fields_onto (before ++ n ∷ []) end kinds ws

-- Groups of fields to the end of the line: at least so many, and at most so many.
unfoldable pub groups_onto : List ℕ → ℕ → List Kind → ℕ → ℕ → List Piece → Result (List ℕ) LineFault
groups_onto before end kinds least zero [] = Ok before
groups_onto before end kinds least zero (w ∷ ws) = Err (fault faults.Count w.column)
groups_onto before end kinds least (suc more) [] = if least == 0 then Ok before else Err (fault faults.Count end)
groups_onto before end kinds least (suc more) (w ∷ ws) = do
  one ← fields_onto before end kinds (w ∷ ws)
  groups_onto one.0 end kinds (least - 1) more one.1

-- a letter, a digit, `_` or `-`
abbrev pub is_name_byte : ℕ → Bool
is_name_byte b = (nat_le 65 b && nat_le b 90) || (nat_le 97 b && nat_le b 122) || (nat_le 48 b && nat_le b 57) || (b == 95) || (b == 45)

abbrev pub is_name : List ℕ → Bool
is_name text = nat_le 1 (length text) && nat_le (length text) 8 && list_all is_name_byte text

abbrev pub is_rule : List ℕ → Bool
is_rule text = bytes_eq text (codes "MERIT") || bytes_eq text (codes "BASE")

unfoldable pub name_at : Naming → ℕ → List Piece → Result (List ℕ × List Piece) LineFault
name_at naming.Unnamed end ws = Ok ([], ws)
name_at naming.Rule end [] = Err (fault faults.Count end)
name_at naming.Rule end (w ∷ ws) = if is_rule w.text then Ok (w.text, ws) else Err (fault faults.Number w.column)
name_at naming.Named end [] = Err (fault faults.Count end)
name_at naming.Named end (w ∷ ws) = if is_name w.text then Ok (w.text, ws) else Err (fault faults.Number w.column)

-- ---- statements

-- what the words behind a head word state
unfoldable pub statement_of : HeadWord → ℕ → List Piece → Result Statement LineFault
statement_of word end ws = do
  index ← fields_onto [] end (layout_of word).index ws
  name ← name_at (layout_of word).naming end index.1
  numbers ← groups_onto [] end (layout_of word).group (layout_of word).least (layout_of word).most name.1
  Ok (record { head = head_of word index.0; body = record { name = name.0; numbers = numbers } })

-- what the words of a line of the deck state
abbrev pub headed : Option HeadWord → ℕ → ℕ → List Piece → Result Statement LineFault
headed None column end ws = Err (fault faults.Word column)
headed (Some word) column end ws = statement_of word end ws

-- ---- a statement in its form and its ranges

abbrev pub word_of : Head → HeadWord
word_of heads.Years = words.Years
word_of heads.Periods = words.Periods
word_of heads.Rate = words.Rate
word_of heads.Ens = words.Ens
word_of heads.Rule = words.Rule
word_of heads.Cases = words.Cases
word_of heads.Conditions = words.Conditions
word_of (heads.Shape i) = words.Shape
word_of (heads.Fuel i) = words.Fuel
word_of (heads.Load i) = words.Load
word_of (heads.Plant i) = words.Plant
word_of (heads.Add i j) = words.Add
word_of (heads.Retire i j) = words.Retire
word_of (heads.Thermal i) = words.Thermal
word_of (heads.Hydro i) = words.Hydro
word_of (heads.Project i j) = words.Project
word_of (heads.Water i j k) = words.Water
word_of (heads.Tunnel i j) = words.Tunnel
word_of (heads.Margin i j) = words.Margin
word_of (heads.Lolp i j) = words.Lolp
word_of heads.Version = words.Version
word_of heads.EnsMore = words.EnsMore
word_of heads.Escalate = words.Escalate
word_of heads.Grid = words.Grid

abbrev pub index_of : Head → List ℕ
index_of heads.Years = []
index_of heads.Periods = []
index_of heads.Rate = []
index_of heads.Ens = []
index_of heads.Rule = []
index_of heads.Cases = []
index_of heads.Conditions = []
index_of (heads.Shape i) = i ∷ []
index_of (heads.Fuel i) = i ∷ []
index_of (heads.Load i) = i ∷ []
index_of (heads.Plant i) = i ∷ []
index_of (heads.Add i j) = i ∷ j ∷ []
index_of (heads.Retire i j) = i ∷ j ∷ []
index_of (heads.Thermal i) = i ∷ []
index_of (heads.Hydro i) = i ∷ []
index_of (heads.Project i j) = i ∷ j ∷ []
index_of (heads.Water i j k) = i ∷ j ∷ k ∷ []
index_of (heads.Tunnel i j) = i ∷ j ∷ []
index_of (heads.Margin i j) = i ∷ j ∷ []
index_of (heads.Lolp i j) = i ∷ j ∷ []
index_of heads.Version = []
index_of heads.EnsMore = []
index_of heads.Escalate = []
index_of heads.Grid = []

-- one number for each kind, in its range
abbrev pub allows_each : List Kind → List ℕ → Bool
allows_each [] [] = true
allows_each [] (n ∷ ns) = false
allows_each (kind ∷ kinds) [] = false
allows_each (kind ∷ kinds) (n ∷ ns) = allows kind n && allows_each kinds ns

-- from least to most groups of numbers
abbrev pub are_groups : List Kind → ℕ → ℕ → List ℕ → Bool
are_groups kinds least zero [] = least == 0
are_groups kinds least zero (n ∷ ns) = false
are_groups kinds least (suc more) [] = least == 0
are_groups kinds least (suc more) (n ∷ ns) = allows_each kinds (take (length kinds) (n ∷ ns)) && are_groups kinds (least - 1) more (drop (length kinds) (n ∷ ns))

abbrev pub is_named : Naming → List ℕ → Bool
is_named naming.Unnamed text = length text == 0
is_named naming.Rule text = is_rule text
is_named naming.Named text = is_name text

abbrev pub is_within : Layout → Statement → Bool
is_within layout s = allows_each layout.index (index_of s.head) && is_named layout.naming s.body.name && are_groups layout.group layout.least layout.most s.body.numbers

-- the statement has the index numbers, the name and the numbers of its head, each in its range
unfoldable pub is_statement : Statement → Bool
is_statement s = is_within (layout_of (word_of s.head)) s

abbrev pub IsStatement : Statement → Type 0
IsStatement s = IsTrue (is_statement s)
