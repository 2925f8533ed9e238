-- What a shelf has that took in the systems of a deck's years and then the rows of listed keys.
use Rattle.std.proofs.Common.{◌≡◌, ◌≢◌, ◌∙◌, ap, sym, refl, subst, ℕ, suc, ◌+◌, ◌*◌, AllPairs, ◌≤◌, ◌<◌, inl, inr, ⊎_elim, List, [], ◌∷◌, ◌++◌, All, Contains, Some, length, map, slice_get, arith}
use Rattle.std.proofs.lemmas.List.{length-append}
use Rattle.std.proofs.lemmas.List.Elements.{All-contains, All-contains_itself, All-head, All-tail, All-weaker}
use Rattle.std.proofs.lemmas.Option.{same_Some, slice_get_within}
use Rattle.board_core.specs.Lists.{total}
use Rattle.board_core.specs.declared.row.KeptRow.{KeptRow}
use Rattle.checked_deck.specs.Systems.{system}
use Rattle.deck_check.specs.Readings as says
use Rattle.deck_check.specs.Readings.{Says, years}
use Rattle.row_shelf.proofs.AskSteps.{in_place}
use Rattle.row_shelf.proofs.EachSteps.{at_place}
use Rattle.row_shelf.specs.Adds.{Adds, FillsCases}
use Rattle.row_shelf.specs.Asked.{AreNumbers, FitBook, IsAsked, asked_count}
use Rattle.row_shelf.specs.Shelf.{Grows, Holds, IsShelf, ShelfIs}
use Rattle.sim_engine.specs.Engine.{Run, Work, raised}
use Rattle.sim_engine.specs.Row.{row_of}
use Rattle.sim_sweep.specs.Kept.{row_words, words_in}
use Rattle.sim_sweep.specs.Works.{HaveRun}
use Rattle.wasp_fixed.proofs.Lists.{slice_get_front}
use Rattle.deck_tellings.proofs.ApartSteps.{apart_behind, no_longer}
use Rattle.case_study.proofs.ListSteps.{its_place}
use Rattle.case_study.specs.Inner.{FitYears, IsOfLists}
use Rattle.deck_tellings.specs.Memory.{MemoryIs}
use Rattle.deck_tellings.specs.Learning.{GainsFew, IsLost, Learns}
use Rattle.case_study.specs.Studies.{AreSystems, HasYears, IsSystemOf}
use Rattle.year_system.proofs.CodeParts.{one_key, same_system}
use Rattle.year_system.specs.Code.{IsCode, code_of}
use Rattle.year_system.specs.System.{System, greatest}
use Rattle.case_study.proofs.SettleSteps.{fit_book}

-- ---- the systems of a deck's years

of_systems : (d : Says) (systems : List System) → AreSystems d systems → (s : System) → Contains systems s → IsSystemOf d s
of_systems d systems are s has =
    let many = are.many in
    record { year = has.0 + 1; within = (omega arith, omega (arith, has.1, many)); is = (are.each has.0 s (its_place systems s has)).is }

grows_by : (d : Says) (systems before now : List System) → AreSystems d systems → Grows (Contains systems) before now → Grows (IsSystemOf d) before now
grows_by d systems before now are grown =
    record { more = grown.more; is = grown.is; each = All-weaker (Contains systems) (IsSystemOf d) (of_systems d systems are) grown.more grown.each }

pub has_years : (d : Says) (book systems : List System) (ids : List ℕ) → AreSystems d systems → AreNumbers book systems ids → HasYears d book ids
has_years d book systems ids are numbers = record {
  many = numbers.many ∙ are.many;
  each = λ k id at.
      let w = slice_get_within ids k id at in
      let s = at_place systems k (omega (arith, w, numbers.many)) in
      numbers.each k id at ∙ s.1 ∙ ap Some (are.each k s.0 s.1).is;
  width = λ k within.
      let s = at_place systems k (omega (arith, within, are.many)) in
      let year = are.each k s.0 s.1 in
      subst (λ (z : System). greatest z ≡ says.greatest d) year.is year.width;
}

-- the new ones are distinct, and so no more than the years
few_systems : (systems before : List System) (now : ShelfIs) → IsShelf now → Grows (Contains systems) before now.book → length now.book ≤ length before + length systems
few_systems systems before now is grown =
    let apart = apart_behind before grown.more (subst (λ (b : List System). AllPairs (λ one other. one ≢ other) b) grown.is is.apart) in
    let few = no_longer grown.more systems apart (λ z has. All-contains (Contains systems) grown.more z grown.each has) in
    let long = ap length grown.is ∙ length-append before grown.more in
    omega (arith, few, long)

-- ---- a shelf with a longer book and the same rows has the same keys

up : (before now : ShelfIs) (more : List System) → now.book ≡ before.book ++ more → now.kept ≡ before.kept → (key : Run) → Holds before key → Holds now key
up before now more grown rows key has = record {
  id = has.id;
  at = ap (λ (b : List System). slice_get b has.id) grown ∙ slice_get_front before.book more has.id key.0 has.at;
  fits = has.fits;
  row = ap (λ (r : List KeptRow). words_in r (code_of has.id key.0 key.1)) rows ∙ has.row;
}

-- the row lies under its key's code, which is that of one system
down : (before now : ShelfIs) (more : List System) → IsShelf before → IsShelf now → now.book ≡ before.book ++ more → now.kept ≡ before.kept → (key : Run) → Holds now key → Holds before key
down before now more was is grown rows key has =
    let code = code_of has.id key.0 key.1 in
    let row : words_in before.kept code ≡ Some (row_words (row_of key.0 key.1)) = ap (λ (r : List KeptRow). words_in r code) (sym rows) ∙ has.row in
    let due = was.due code (row_words (row_of key.0 key.1)) row in
    let at : slice_get now.book due.key.id ≡ Some due.key.system = ap (λ (b : List System). slice_get b due.key.id) grown ∙ slice_get_front before.book more due.key.id due.key.system due.key.at in
    let its : IsCode now.book code = record { id = due.key.id; system = due.key.system; counts = due.key.counts; at = at; fits = due.key.fits; is = due.key.is } in
    let own : IsCode now.book code = record { id = has.id; system = key.0; counts = key.1; at = has.at; fits = has.fits; is = refl } in
    let one = one_key now.book code is.systems its own in
    let same : due.key.system ≡ key.0 = same_system now.book due.key.id has.id due.key.system key.0 at has.at one.0 in
    record { id = has.id; at = ap (slice_get before.book) (sym one.0) ∙ due.key.at ∙ ap Some same; fits = has.fits; row = row }

-- ---- the keys of lists

to_lists : (d : Says) (book : List System) (ids : List ℕ) (cases : List (List (List (List ℕ)))) (key : Run) → HasYears d book ids → IsAsked book ids cases key → IsOfLists d cases key
to_lists d book ids cases key numbers is =
    let a = is.asked in
    record { case = is.case; year = a.year; lists = is.lists; configs = a.configs; at = is.at; list = a.list; of_year = same_Some _ _ (sym a.system ∙ numbers.each a.year a.id a.number); listed = a.listed }

from_lists : (d : Says) (book : List System) (ids : List ℕ) (cases : List (List (List (List ℕ)))) (key : Run) → HasYears d book ids → All (FitYears d) cases → IsOfLists d cases key → IsAsked book ids cases key
from_lists d book ids cases key numbers fit is =
    let years = All-contains (FitYears d) cases is.lists fit (in_place cases is.case is.lists is.at) in
    let within = slice_get_within is.lists is.year is.configs is.list in
    let id = at_place ids is.year (omega (arith, within, years.many, numbers.many)) in
    record {
      case = is.case;
      lists = is.lists;
      at = is.at;
      asked = record { year = is.year; id = id.0; configs = is.configs; number = id.1; system = numbers.each is.year id.0 id.1 ∙ ap Some (sym is.of_year); list = is.list; listed = is.listed };
    }

-- ---- what filling them asks for

pub numbers_within : (d : Says) (book : List System) (ids : List ℕ) → HasYears d book ids → All (λ id. id < length book) ids
numbers_within d book ids numbers =
    All-weaker (Contains ids) (λ id. id < length book)
    (λ id has. slice_get_within book id (system d (has.0 + 1)) (numbers.each has.0 id (its_place ids id has)))
    ids (All-contains_itself ids)

pub fit_books : (d : Says) (book : List System) (ids : List ℕ) (cases : List (List (List (List ℕ)))) → HasYears d book ids → All (FitYears d) cases → All (FitBook book ids) cases
fit_books d book ids cases numbers fit = All-weaker (FitYears d) (FitBook book ids) (λ lists one. fit_book d book ids lists numbers one) cases fit

total_most : {X : Type 0} (f : X → ℕ) (most : ℕ) (xs : List X) → All (λ x. f x ≤ most) xs → total f xs ≤ most * length xs
total_most f most [] all = omega arith
total_most f most (x ∷ xs) all =
    let one = All-head (λ z. f z ≤ most) x xs all in
    let rest = total_most f most xs (All-tail (λ z. f z ≤ most) x xs all) in
    let more : most * suc (length xs) ≡ most + most * length xs = omega arith in
    omega (arith, one, rest, more)

pub few_asked : (d : Says) (cases : List (List (List (List ℕ)))) → years d ≤ 30 → All (FitYears d) cases → asked_count cases ≤ 15000 * length cases
few_asked d cases few_years fit =
    let each = All-weaker (FitYears d) (λ lists. total (λ (configs : List (List ℕ)). length configs) lists ≤ 15000)
    (λ lists one.
    let few = total_most (λ (configs : List (List ℕ)). length configs) 500 lists one.few in
    let many = one.many in
    omega (arith, few, many, few_years)) cases fit in
    total_most (λ (lists : List (List (List ℕ))). total (λ (configs : List (List ℕ)). length configs) lists) 15000 cases each

-- ---- both together

adds_back : (A B : Run → Type 0) (before mid now : ShelfIs) (more : List System) (new : List Run) → IsShelf before → IsShelf mid → mid.book ≡ before.book ++ more → mid.kept ≡ before.kept
    → ((key : Run) → A key → B key) → ((key : Run) → B key → A key) → Adds A mid now new → Adds B before now new
adds_back A B before mid now more new was is grown rows to back adds =
    let lift = up before mid more grown rows in
    let lower = down before mid more was is grown rows in
    record {
      once = adds.once;
      fresh = λ key has held. adds.fresh key has (lift key held);
      asked = λ key has. to key (adds.asked key has);
      all = λ key asked. ⊎_elim (λ held. inl (lower key held)) (λ has. inr has) (adds.all key (back key asked));
      stays = λ key held. adds.stays key (lift key held);
      stand = adds.stand;
      only = λ key held. ⊎_elim (λ old. inl (lower key old)) (λ has. inr has) (adds.only key held);
      many = adds.many ∙ ap (λ (r : List KeptRow). length r + length new) rows;
    }

pub learnt : {X : Type 0} (d : Says) (systems : List System) (ids : List ℕ) (cases : List (List (List (List ℕ)))) (before : MemoryIs) (mid now : ShelfIs) (tally : ℕ) (work : X → Work) (es fs : List X)
    → All (FitYears d) cases → AreSystems d systems → IsShelf before.shelf → IsShelf mid
    → AreNumbers mid.book systems ids → Grows (Contains systems) before.shelf.book mid.book → mid.kept ≡ before.shelf.kept
    → now.book ≡ mid.book → FillsCases ids cases mid now work es fs
    → ((new : ℕ) → length now.kept ≡ length mid.kept + new → tally ≡ raised new before.tally)
    → Learns (Unit {0}) (IsOfLists d cases) d before (record { shelf = now; tally = tally }) work es fs 0
learnt d systems ids cases before mid now tally work es fs fit are was is found grown rows same fills rose =
    let numbers = has_years d mid.book systems ids are found in
    let adds = adds_back (IsAsked mid.book ids cases) (IsOfLists d cases) before.shelf mid now grown.more fills.new was is grown.is rows
    (λ key asked. to_lists d mid.book ids cases key numbers asked) (λ key asked. from_lists d mid.book ids cases key numbers fit asked) fills.adds in
    let gone = grows_by d systems before.shelf.book mid.book are grown in
    let many = fills.adds.many in
    record {
      gains = record {
        grown = record { more = gone.more; is = same ∙ gone.is; each = gone.each };
        stays = adds.stays;
        only = λ key held. ⊎_elim (λ old. inl old) (λ has. inr (adds.asked key has)) (adds.only key held);
        still = λ none. absurd (none tt);
      };
      new = fills.new;
      adds = adds;
      worked = fills.worked;
      tally = rose (length fills.new) many;
    }

-- and the shelf has few more
pub gained : (d : Says) (systems : List System) (cases : List (List (List (List ℕ)))) (before now : MemoryIs) (mid : ShelfIs)
    → years d ≤ 30 → All (FitYears d) cases → AreSystems d systems → IsShelf mid
    → Grows (Contains systems) before.shelf.book mid.book → mid.kept ≡ before.shelf.kept
    → now.shelf.book ≡ mid.book → length now.shelf.kept ≤ length mid.kept + asked_count cases → GainsFew (15000 * length cases) before now
gained d systems cases before now mid few_years fit are is grown rows same few =
    let asked = few_asked d cases few_years fit in
    let taken = few_systems systems before.shelf.book mid is grown in
    let long = ap length same in
    let as_old = ap length rows in
    let of_years = are.many in
    record {
      systems = omega (arith, taken, long, of_years, few_years);
      rows = omega (arith, few, asked, as_old);
    }

-- where memory was wanting, no rows came
pub lost : {X : Type 0} (d : Says) (systems : List System) (A : Run → Type 0) (before : MemoryIs) (now : ShelfIs) (tally : ℕ) (work : X → Work) (es fs : List X)
    → AreSystems d systems → IsShelf before.shelf → IsShelf now → Grows (Contains systems) before.shelf.book now.book → now.kept ≡ before.shelf.kept
    → HaveRun before.tally tally (map work es) (map work fs) → IsLost (Unit {0}) A d before (record { shelf = now; tally = tally }) work es fs
lost d systems A before now tally work es fs are was is grown rows ran = record {
  gains = record {
    grown = grows_by d systems before.shelf.book now.book are grown;
    stays = up before.shelf now grown.more grown.is rows;
    only = λ key held. inl (down before.shelf now grown.more was is grown.is rows key held);
    still = λ none. absurd (none tt);
  };
  gone = record { keys = ran.keys; years = 0; worked = ran.worked; rose = ran.rose };
}
