-- The energy under a load duration curve, and the demand of a year.
use Rattle.std.proofs.Common.{◌≡◌, ℕ, ◌+◌, ◌-◌, ◌*◌, ◌/◌, ◌<◌, ◌≤◌, List, map, refl, arith}
use Rattle.std.specs.Prelude.{sum}
use Rattle.std.specs.List.{range_with_len}
use Rattle.std.proofs.lemmas.List.Sums.{sum_by_push}
use Rattle.std.proofs.Math.Nat.{div-le_of_le-mul, div-lt_iff_lt-mul, div-mul-le_self, mul-le-mul_left, mul-le-mul_right}
use Rattle.deck_lines.specs.Deck.{body_of}
use Rattle.deck_lines.specs.declared.statement.Statement.{Statement}
use Rattle.load_curves.specs.LoadCurve.{load_curve}
use Rattle.plant_data.specs.declared.shape.Load.{Load}
use Rattle.wasp_fixed.specs.Curves.{area, cell}
use Rattle.wasp_fixed.specs.declared.numbers.TheConstants.{ONE}
use Rattle.checked_deck.specs.Economy.{energy}
use Rattle.deck_check.specs.Readings.{load_in, peak, periods, step, years}
use Rattle.checked_deck.specs.TypedDeck.{IsTyped}
use Rattle.deck_check.proofs.Firsts.{from_0_more}
use Rattle.checked_deck.proofs.LoadFacts.{peak_within}
use Rattle.checked_deck.proofs.PlantFacts.{step_low, strong}
use Rattle.checked_deck.proofs.Sound.{sound_is}

pub energy_is : (step hours : ℕ) (l : Load) (cells : List ℕ) (n total : ℕ) → ((x : ℕ) → cell cells x ≡ load_curve l.peak step l.shape x) → n ≡ (l.peak + step - 1) / step → total ≡ area (cell cells) 0 n → total * step * hours / ONE ≡ energy step hours l
energy_is step hours l cells n total same e is =
    let curve : cell cells ≡ load_curve l.peak step l.shape = λ i x. same x i in
    rw (is, e, curve) refl

pub energy_small : (step hours peak n total : ℕ) → 1 ≤ step → step ≤ 20 → peak ≤ 400000 → n ≡ (peak + step - 1) / step → total ≤ (n - 0) * ONE → total * step * hours / ONE ≤ 400019 * hours
energy_small step hours peak n total low high few e small =
    let cells : n * step ≤ 400019 = let h : (peak + step - 1) / step * step ≤ peak + step - 1 = div-mul-le_self (peak + step - 1) step in rw e (omega (arith, h, high, few)) in
    let one : total * step * hours ≤ n * ONE * step * hours = mul-le-mul_right hours (mul-le-mul_right step (let z : total ≤ n * ONE = omega (arith, small) in z)) in
    let two : n * ONE * step * hours ≡ ONE * (n * step * hours) = omega arith in
    let three : n * step * hours ≤ 400019 * hours = mul-le-mul_right hours cells in
    let whole : total * step * hours ≤ ONE * (400019 * hours) = omega (arith, one, two, mul-le-mul_left ONE three) in
    div-le_of_le-mul ONE whole

pub cells_few : (step peak : ℕ) → 1 ≤ step → peak ≤ 65535 * step → (peak + step - 1) / step ≤ 65535
cells_few step peak low h =
    let below : peak + step - 1 < 65536 * step = omega (arith, h, low) in
    omega (arith, (div-lt_iff_lt-mul {k = step} {x = peak + step - 1} {y = 65536} low).1 below)

pub load_cells : (deck : List Statement) (t i : ℕ) → IsTyped deck → 1 ≤ t → t ≤ years (body_of deck) → i < periods (body_of deck) → ((load_in (body_of deck) t i).peak + step (body_of deck) - 1) / step (body_of deck) ≤ 65535
load_cells deck t i typed low high lt =
    let d = body_of deck in
    let s = sound_is deck typed in
    cells_few (step d) (load_in d t i).peak (step_low d s) (omega (arith, peak_within d t i lt, (strong d s t low high).0))

pub demand_more : (f : ℕ → ℕ) (most total n x : ℕ) → (total ≡ sum (map f (range_with_len 0 n))) × (total ≤ most * n) → x ≡ f n → x ≤ most → (total + x ≡ sum (map f (range_with_len 0 (n + 1)))) × (total + x ≤ most * (n + 1))
demand_more f most total n x h same few = (
  rw (from_0_more f n, sum_by_push (λ (y : ℕ). y) (map f (range_with_len 0 n)) (f n), same, h.0) refl,
  let e : most * (n + 1) ≡ most * n + most = omega arith in rw e (omega (arith, h.1, few)),
)
