-- The wanted ones of some demands: what is true of all is true of these, and each other is kept.
use Rattle.std.proofs.Common.{◌≡◌, ◌∙◌, ap, sym, refl, subst, ℕ, ◌≤◌, ◌⊎◌, inl, inr, ⊎_elim, Bool, true, false, List, [], ◌∷◌, All, Contains, Option, None, Some, filter, length, is_none, arith}
use mathlib.Core.Bool.{false≢true}
use Rattle.std.proofs.lemmas.List.Elements.{All-contains, All-contains_itself, All-filter}
use Rattle.std.proofs.lemmas.List.Sorted.{All-permutation, Contains-permutation, length_permutation}
use Rattle.std.proofs.lemmas.Option.{same_Some}
use Rattle.board_core.specs.declared.row.KeptRow.{KeptRow}
use Rattle.board_core.specs.declared.row.Words.{Words}
use Rattle.sim_engine.specs.Engine.{Run}
use Rattle.sim_engine.specs.Row.{row_of}
use Rattle.sim_sweep.specs.Demands.{IsDemand, run_in}
use Rattle.sim_sweep.specs.Kept.{AreDue, row_words, words_in}
use Rattle.sim_sweep.specs.declared.demand.Demand.{Demand}
use Rattle.row_shelf.proofs.AskSteps.{short_filter}
use Rattle.row_shelf.proofs.KeySteps.{in_cases, in_none, in_rest, run_is}
use Rattle.row_shelf.specs.Demands.{AreWanted, wanted}
use Rattle.row_shelf.specs.Shelf.{Holds}
use Rattle.year_system.specs.Code.{IsCode}
use Rattle.year_system.specs.System.{IsSystem, System}
use Rattle.year_system.proofs.CodeParts.{one_key, same_system}

pub wanted_all : (P : Demand → Type 0) (kept : List KeptRow) (all ds : List Demand) → AreWanted kept all ds → All P all → All P ds
wanted_all P kept all ds wants each = All-permutation P (wanted kept all) ds wants (All-filter (λ (d : Demand). is_none (words_in kept d.code)) P all each)

pub wanted_few : (kept : List KeptRow) (all ds : List Demand) → AreWanted kept all ds → length ds ≤ length all
wanted_few kept all ds wants = omega (arith, length_permutation (wanted kept all) ds wants, short_filter (λ (d : Demand). is_none (words_in kept d.code)) all)

pub wanted_in : (kept : List KeptRow) (all ds : List Demand) (d : Demand) → AreWanted kept all ds → Contains ds d → Contains all d
wanted_in kept all ds d wants has = All-contains (Contains all) ds d (wanted_all (Contains all) kept all ds wants (All-contains_itself all)) has

-- what passes is filtered in
pass_in : (p : Demand → Bool) (d e : Demand) (ds : List Demand) (b : Bool) → p d ≡ b → p e ≡ true → (d ≡ e) ⊎ Contains (filter p ds) e → Contains (filter p (d ∷ ds)) e
pass_in p d e ds true h is (inl here) = rw h (0, omega arith, here)
pass_in p d e ds true h is (inr rest) = rw h (in_rest d (filter p ds) e rest)
pass_in p d e ds false h is (inl here) = absurd (false≢true (sym h ∙ ap p here ∙ is))
pass_in p d e ds false h is (inr rest) = rw h rest

filter_in : (p : Demand → Bool) (ds : List Demand) (e : Demand) → p e ≡ true → Contains ds e → Contains (filter p ds) e
filter_in p [] e is has = absurd (in_none e has)
filter_in p (d ∷ ds) e is has = pass_in p d e ds (p d) refl is (⊎_elim (λ here. inl here) (λ rest. inr (filter_in p ds e is rest)) (in_cases d ds e has))

-- a demand is wanted, or words are kept under its code
pub wanted_or_kept : (kept : List KeptRow) (all ds : List Demand) (d : Demand) → AreWanted kept all ds → Contains all d
    → Contains ds d ⊎ ((words : Words) × (words_in kept d.code ≡ Some words))
wanted_or_kept kept all ds d wants has = by_words (words_in kept d.code) refl
  where
    by_words : (o : Option Words) → words_in kept d.code ≡ o → Contains ds d ⊎ ((words : Words) × (words_in kept d.code ≡ Some words))
    by_words (Some words) at = inr (words, at)
    by_words None at = inl (Contains-permutation (wanted kept all) ds d wants (filter_in (λ (e : Demand). is_none (words_in kept e.code)) all d (ap is_none at) has))

-- and then its key is held
pub kept_held : (book : List System) (kept : List KeptRow) (d : Demand) (words : Words) (key : Run) → All IsSystem book → AreDue book kept → IsDemand book d
    → words_in kept d.code ≡ Some words → run_in book d ≡ Some key → Holds (record { book = book; kept = kept }) key
kept_held book kept d words key systems due h at run =
    let is = due d.code words at in
    let own : IsCode book d.code = record { id = d.id; system = h.system; counts = d.config; at = h.at; fits = h.fits; is = h.is } in
    let one = one_key book d.code systems is.key own in
    let system : is.key.system ≡ h.system = same_system book is.key.id d.id is.key.system h.system is.key.at h.at one.0 in
    let row : words ≡ row_words (row_of h.system d.config) = is.is ∙ ap (λ (s : System). row_words (row_of s is.key.counts)) system ∙ ap (λ (x : List ℕ). row_words (row_of h.system x)) one.1 in
    subst (Holds (record { book = book; kept = kept })) (same_Some _ _ (sym (run_is book d h) ∙ run)) (record { id = d.id; at = h.at; fits = h.fits; row = ap (words_in kept) (sym h.is) ∙ at ∙ ap Some row })
