-- Statements of trial decks are in their form and their ranges.
use Rattle.std.proofs.Common.{◌≡◌, ℕ, zero, suc, ◌+◌, ◌-◌, ◌/◌, ◌≤◌, true, [], ◌∷◌, ◌++◌, refl, arith}
use Rattle.std.proofs.lemmas.Bool.{le-leb}
use Rattle.deck_lines.specs.declared.head.Head.TheVariants as heads
use Rattle.deck_lines.specs.declared.statement.Statement.{Statement}
use Rattle.deck_lines.specs.Statements.{layout_of, word_of, index_of, allows_each, are_groups, is_name, is_named, is_statement, IsStatement}
use Rattle.deck_check.specs.Readings.{first}
use Rattle.deck_maker.specs.declared.stream.Machine.{Machine}
use Rattle.deck_maker.specs.Ranges.{IsDrawn}
use Rattle.deck_maker.specs.TrialDeck.{named, unnamed, machine_numbers, pairs}

formed : (s : Statement) → allows_each (layout_of (word_of s.head)).index (index_of s.head) ≡ true → is_named (layout_of (word_of s.head)).naming s.body.name ≡ true
    → are_groups (layout_of (word_of s.head)).group (layout_of (word_of s.head)).least (layout_of (word_of s.head)).most s.body.numbers ≡ true → IsStatement s
unfolding is_statement
formed s i n g = rw (i, n, g) refl

pub years_form : (years : ℕ) → 1 ≤ years → years ≤ 30 → IsStatement (unnamed heads.Years (years ∷ []))
unfolding is_statement
years_form years low high = rw (le-leb 1 years low, le-leb years 30 high) refl

pub fuel_1_form : (price : ℕ) → price ≤ 50_000 → IsStatement (unnamed (heads.Fuel 1) (price ∷ 0 ∷ []))
unfolding is_statement
fuel_1_form price high = rw (le-leb 0 price (omega arith), le-leb price 50_000 high) refl

pub fuel_2_form : (price : ℕ) → price ≤ 50_000 → IsStatement (unnamed (heads.Fuel 2) (0 ∷ price ∷ []))
unfolding is_statement
fuel_2_form price high = rw (le-leb 0 price (omega arith), le-leb price 50_000 high) refl

-- names of a letter and a digit
digit_name_p : (p : ℕ) → 1 ≤ p → p ≤ 6 → is_name (80 ∷ (48 + p) ∷ []) ≡ true
digit_name_p zero low high = absurd (omega (arith, low))
digit_name_p (suc zero) low high = refl
digit_name_p (suc (suc zero)) low high = refl
digit_name_p (suc (suc (suc zero))) low high = refl
digit_name_p (suc (suc (suc (suc zero)))) low high = refl
digit_name_p (suc (suc (suc (suc (suc zero))))) low high = refl
digit_name_p (suc (suc (suc (suc (suc (suc zero)))))) low high = refl
digit_name_p (suc (suc (suc (suc (suc (suc (suc p))))))) low high = absurd (omega (arith, high))

digit_name_t : (p : ℕ) → 1 ≤ p → p ≤ 6 → is_name (84 ∷ (48 + p) ∷ []) ≡ true
digit_name_t zero low high = absurd (omega (arith, low))
digit_name_t (suc zero) low high = refl
digit_name_t (suc (suc zero)) low high = refl
digit_name_t (suc (suc (suc zero))) low high = refl
digit_name_t (suc (suc (suc (suc zero)))) low high = refl
digit_name_t (suc (suc (suc (suc (suc zero))))) low high = refl
digit_name_t (suc (suc (suc (suc (suc (suc zero)))))) low high = refl
digit_name_t (suc (suc (suc (suc (suc (suc (suc p))))))) low high = absurd (omega (arith, high))

pub plant_form : (p : ℕ) (m : Machine) → 1 ≤ p → p ≤ 6 → IsDrawn m → IsStatement (named (heads.Plant p) (80 ∷ (48 + p) ∷ []) (machine_numbers 1 m))
plant_form p m low high d =
    formed (named (heads.Plant p) (80 ∷ (48 + p) ∷ []) (machine_numbers 1 m))
    (rw (le-leb 1 p low, le-leb p 40 (omega (arith, high))) refl)
    (digit_name_p p low high)
    (rw (
      le-leb 1 (m.full / 2) (omega (arith, d.small)),
      le-leb (m.full / 2) 20_000 (omega (arith, d.large)),
      le-leb 1 m.full (omega (arith, d.small)),
      le-leb m.full 20_000 (omega (arith, d.large)),
      le-leb 0 m.heat (omega arith),
      le-leb m.heat 50_000 (omega (arith, d.most_heat)),
      le-leb 0 (m.heat - 200) (omega arith),
      le-leb (m.heat - 200) 50_000 (omega (arith, d.most_heat)),
      le-leb 1 m.fuel d.least_fuel,
      le-leb m.fuel 20 (omega (arith, d.most_fuel)),
      le-leb 0 m.outage (omega arith),
      le-leb m.outage 10_000 (omega (arith, d.outage)),
      le-leb 0 m.repair (omega arith),
      le-leb m.repair 8760 (omega (arith, d.repair)),
    ) refl)

pub thermal_form : (k : ℕ) (m : Machine) (price : ℕ) → 1 ≤ k → k ≤ 6 → IsDrawn m → price ≤ 50_000
    → IsStatement (named (heads.Thermal k) (84 ∷ (48 + k) ∷ []) (machine_numbers 4 m ++ price ∷ price ∷ 10 ∷ 25 ∷ []))
thermal_form k m price low high d most =
    formed (named (heads.Thermal k) (84 ∷ (48 + k) ∷ []) (machine_numbers 4 m ++ price ∷ price ∷ 10 ∷ 25 ∷ []))
    (rw (le-leb 1 k low, le-leb k 12 (omega (arith, high))) refl)
    (digit_name_t k low high)
    (rw (
      le-leb 1 (m.full / 2) (omega (arith, d.small)),
      le-leb (m.full / 2) 20_000 (omega (arith, d.large)),
      le-leb 1 m.full (omega (arith, d.small)),
      le-leb m.full 20_000 (omega (arith, d.large)),
      le-leb 0 m.heat (omega arith),
      le-leb m.heat 50_000 (omega (arith, d.most_heat)),
      le-leb 0 (m.heat - 200) (omega arith),
      le-leb (m.heat - 200) 50_000 (omega (arith, d.most_heat)),
      le-leb 1 m.fuel d.least_fuel,
      le-leb m.fuel 20 (omega (arith, d.most_fuel)),
      le-leb 0 m.outage (omega arith),
      le-leb m.outage 10_000 (omega (arith, d.outage)),
      le-leb 0 m.repair (omega arith),
      le-leb m.repair 8760 (omega (arith, d.repair)),
      le-leb 0 price (omega arith),
      le-leb price 50_000 most,
    ) refl)

pub water_form : (m wet dry : ℕ) → 1 ≤ m → m ≤ 12 → wet ≤ 200_000_000 → dry ≤ 200_000_000 → IsStatement (unnamed (heads.Water 1 1 m) (10 ∷ 20 ∷ wet ∷ 8 ∷ 20 ∷ dry ∷ []))
unfolding is_statement
water_form m wet dry low high w d =
    rw (le-leb 1 m low, le-leb m 12 high, le-leb 0 wet (omega arith), le-leb wet 200_000_000 w, le-leb 0 dry (omega arith), le-leb dry 200_000_000 d) refl

pub load_form : (t one two : ℕ) → 1 ≤ t → t ≤ 30 → 1 ≤ one → one ≤ 400_000 → 1 ≤ two → two ≤ 400_000 → IsStatement (unnamed (heads.Load t) (one ∷ 1 ∷ two ∷ 1 ∷ []))
unfolding is_statement
load_form t one two low high a b c d =
    rw (le-leb 1 t low, le-leb t 30 high, le-leb 1 one a, le-leb one 400_000 b, le-leb 1 two c, le-leb two 400_000 d) refl

pub tunnel_form : (candidates t least : ℕ) → 1 ≤ t → t ≤ 30 → least ≤ 128 → candidates ≤ 6 → IsStatement (unnamed (heads.Tunnel 1 t) (pairs least candidates ++ 0 ∷ 0 ∷ []))
unfolding is_statement first
tunnel_form zero t least low high l c = rw (le-leb 1 t low, le-leb t 30 high) refl
tunnel_form (suc zero) t least low high l c = rw (le-leb 1 t low, le-leb t 30 high, le-leb 0 least (omega arith), le-leb least 128 l) refl
tunnel_form (suc (suc zero)) t least low high l c = rw (le-leb 1 t low, le-leb t 30 high, le-leb 0 least (omega arith), le-leb least 128 l) refl
tunnel_form (suc (suc (suc zero))) t least low high l c = rw (le-leb 1 t low, le-leb t 30 high, le-leb 0 least (omega arith), le-leb least 128 l) refl
tunnel_form (suc (suc (suc (suc zero)))) t least low high l c = rw (le-leb 1 t low, le-leb t 30 high, le-leb 0 least (omega arith), le-leb least 128 l) refl
tunnel_form (suc (suc (suc (suc (suc zero))))) t least low high l c = rw (le-leb 1 t low, le-leb t 30 high, le-leb 0 least (omega arith), le-leb least 128 l) refl
tunnel_form (suc (suc (suc (suc (suc (suc zero)))))) t least low high l c = rw (le-leb 1 t low, le-leb t 30 high, le-leb 0 least (omega arith), le-leb least 128 l) refl
tunnel_form (suc (suc (suc (suc (suc (suc (suc more))))))) t least low high l c = absurd (omega (arith, c))
