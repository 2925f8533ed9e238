-- A deck that meets no row of the fault table, and what it says of cases: their tunnels, margins and limits
-- hold from their year on, up to the next such statement of the case. After CONGEN and DYNPRO of the IAEA's
-- Computer Manual Series No. 16; that a statement holds on is this program's own.
use Rattle.std.specs.Prelude.{◌≡◌, ℕ, zero, suc, ◌+◌, ◌*◌, ◌≤◌, List, length, map, slice_index, Option, if◌then◌else◌}
use Rattle.std.specs.List.{range_with_len}
use Rattle.std.specs.Option.{option_map}
use Rattle.deck_lines.specs.Deck.{IsDeck, body_of}
use Rattle.deck_lines.specs.declared.head.Head.{Head}
use Rattle.deck_lines.specs.declared.head.Head.TheVariants as heads
use Rattle.deck_lines.specs.declared.statement.Statement.{Statement}
use Rattle.plant_data.specs.declared.row.Limit.{Limit}
use Rattle.plant_data.specs.declared.row.Margin.{Margin}
use Rattle.plant_data.specs.declared.row.Tunnel.{Tunnel}
use Rattle.deck_check.specs.DeckFault.{HasNoFault}
use Rattle.deck_check.specs.Readings.{Says, is_there, number, width}
use Rattle.checked_deck.specs.declared.cases.CaseWord.{CaseWord}
use Rattle.checked_deck.specs.declared.cases.CaseWord.TheVariants as words
use Rattle.checked_deck.specs.declared.names.PlantId.{PlantId}
use Rattle.checked_deck.specs.declared.names.PlantId.TheVariants as ids

-- its statements are in their form, each head once, and no row of the table is met
pub record IsTyped (deck : List Statement) : Type 0 where
  pub in_form : IsDeck deck
  pub faultless : HasNoFault (body_of deck)

-- the year whose statement holds in year t: t, or where it has none that of the year before; 0 where there is none
abbrev pub year_of : Says → (ℕ → Head) → ℕ → ℕ
year_of d head zero = 0
year_of d head (suc t) = if is_there d (head (suc t)) then suc t else year_of d head t

-- the statement of a case and a year
abbrev pub head_at : CaseWord → ℕ → ℕ → Head
head_at words.Tunnel c t = heads.Tunnel c t
head_at words.Margin c t = heads.Margin c t
head_at words.Lolp c t = heads.Lolp c t

-- the head that holds
abbrev pub head_in : Says → (ℕ → Head) → ℕ → Head
head_in d head t = head (year_of d head t)

-- the numbers of the pairs of a TUNNEL statement: the first ones, which are the least counts, or the second ones
abbrev pub counts_in : Says → Head → ℕ → List ℕ
counts_in d h i = map (λ k. number d h (2 * k + i)) (range_with_len 0 (width d))

abbrev pub tunnel : Says → ℕ → ℕ → Tunnel
tunnel d c t = record { least = counts_in d (head_in d (heads.Tunnel c) t) 0; width = counts_in d (head_in d (heads.Tunnel c) t) 1 }

abbrev pub margin : Says → ℕ → ℕ → Margin
margin d c t = record { low = number d (head_in d (heads.Margin c) t) 0; high = number d (head_in d (heads.Margin c) t) 1 }

abbrev pub limit : Says → ℕ → ℕ → Limit
limit d c t = record { worst = number d (head_in d (heads.Lolp c) t) 0; average = number d (head_in d (heads.Lolp c) t) 1 }

-- the statement that names a plant, a candidate or a group
abbrev pub head_of_id : PlantId → Head
head_of_id (ids.Existing p) = heads.Plant p
head_of_id (ids.Thermal k) = heads.Thermal k
head_of_id (ids.Hydro g) = heads.Hydro g

-- its name, none where there is no such statement
abbrev pub name_of : Says → PlantId → Option (List ℕ)
name_of d id = option_map (λ body. body.name) (d (head_of_id id))
