-- What is written of a trial, and the words that ask for it.
use Rattle.std.proofs.Common.{◌≡◌, ◌∙◌, refl, sym, ap, subst, ℕ, zero, suc, ◌<◌, ◌≤◌, List, [], ◌∷◌, ◌++◌, length, Option, None, Some, arith, ⊎_elim, Bool, true}
use Rattle.std.specs.Prelude.{nat_le, if◌then◌else◌}
use Rattle.std.proofs.lemmas.Bool.{le-leb}
use Rattle.std.specs.Io.KnownBytes.{Appends}
use Rattle.std.proofs.lemmas.List.{length-append, length-map}
use Rattle.cost_terms.specs.Table.{Table}
use Rattle.deck_maker.specs.Laws.{TrialsHaveOneCase}
use Rattle.plan_program.specs.Chosen.{IsOutcome, IsSolution}
use Rattle.plan_program.specs.declared.solved.Outcome.{Outcome}
use Rattle.plan_program.specs.declared.solved.Outcome.TheVariants.{Plan, Infeasible}
use Rattle.plan_program.specs.declared.solved.Solved.{Solved}
use Rattle.report_text.specs.Lines.{keys_line}
use Rattle.report_text.specs.Trial.{HasYear, trial_text}
use Rattle.row_shelf.specs.Adds.{Adds}
use Rattle.row_shelf.specs.Shelf.{Holds, ShelfIs, no_rows}
use Rattle.sim_engine.specs.Engine.{Run, Work, raised}
use Rattle.case_study.specs.Case.{IsTableOf}
use Rattle.case_study.specs.Listings.{deck_tunnels}
use Rattle.wasp_session.specs.Solving.{AreCaseKeys, SolvedCasesAreOne}
use Rattle.deck_tellings.specs.Solving.{DemandsCase, IsCaseWithin, LearnsCase}
use Rattle.deck_tellings.specs.Memory.{MemoryIs, no_memory}
use Rattle.wasp_session.specs.State.{State}
use Rattle.deck_lines.specs.Deck.{body_of}
use Rattle.wasp4.proofs.TrialDecks.{begins_with}
use Rattle.wasp4.proofs.Counts.{spent_on}
use Rattle.wasp4.proofs.HourTexts.{of_told, wrote_is}
use Rattle.wasp_io.specs.Causes.{Rose}
use Rattle.wasp_io.specs.Known.{IsSureWithin}
use Rattle.wasp4.specs.Progress.{IsCutShort}
use Rattle.wasp4.specs.Going.{Effort, effort_by}
use Rattle.wasp4.specs.Trial.{ClosesTrial, CutsTrial, HasRoomForTrial, IsTrial, IsTrialAnswered, TrialsAreOne, trial_accepted, trial_asked, trial_says, with_engine}
use Rattle.wasp4.specs.Out.{accepted, asked_by, hours_points, with_engines}
use Rattle.wasp4.specs.declared.asked.Asked.{Asked}
use Rattle.wasp4.specs.declared.trial.TrialNumbers.{TrialNumbers}

-- ---- a plan has a year

outcome_has : (table : Table) (o : Outcome) → 1 ≤ length table.layers → IsOutcome table o → HasYear o
outcome_has table (Plan chosen total) some is =
    omega (arith, some, ap length is.shown, length-map is.plan (λ e. e.config), is.is_chosen.whole)
outcome_has table (Infeasible t) some is = tt

pub plan_has_year : TrialsHaveOneCase → (t : TrialNumbers) (table : Table) (s : Solved) → IsTrial t → IsTableOf (trial_says t) 1 (deck_tunnels (trial_says t) 1) table → IsSolution table s → HasYear s.outcome
plan_has_year one_case t table s is of_case solution =
    let one = one_case t.seed t.years t.candidates is.candidates.1 in
    outcome_has table s.outcome (omega (arith, of_case.many, one.years, is.years.0)) solution.outcome

-- ---- the keys

none_before : (key : Run) → Holds no_rows key → ⊥
none_before key holds = absurd (let at = holds.at in cc)

case_keys : (t : TrialNumbers) (now : ShelfIs) (new : List Run) → IsCaseWithin (trial_says t) 1 → Adds (DemandsCase (trial_says t) 1) no_rows now new → AreCaseKeys (trial_says t) 1 new
case_keys t now new within adds = record {
  once = adds.once;
  each = λ key. (
    λ has. (adds.asked key has).1,
    λ is. ⊎_elim (λ old. absurd (none_before key old)) (λ has. has) (adds.all key (within, is)),
  );
}

-- ---- what is said

pub said_is : {X : Type 0} (t : TrialNumbers) (table : Table) (s : Solved) (now : MemoryIs) (work : X → Work) (es fs : List X) (clear first whole : List ℕ) (keys : ℕ)
    → IsTableOf (trial_says t) 1 (deck_tunnels (trial_says t) 1) table → IsSolution table s → IsCaseWithin (trial_says t) 1
    → LearnsCase (trial_says t) 1 no_memory now work es fs
    → clear ≡ [] → first ≡ clear ++ trial_text t.seed t.years t.candidates s.outcome → keys ≡ length now.shelf.kept → whole ≡ first ++ keys_line keys
    → IsTrialAnswered t whole (effort_by work es 0) (effort_by work fs now.tally)
said_is t table s now work es fs clear first whole keys of_case solution within learns empty summed many closed =
    let count : keys ≡ length learns.new = omega (arith, many, learns.adds.many) in
    let front : first ≡ trial_text t.seed t.years t.candidates s.outcome = summed ∙ ap (λ (z : List ℕ). z ++ trial_text t.seed t.years t.candidates s.outcome) empty in
    record {
      table = table;
      is_table = of_case;
      solved = s;
      is_solution = solution;
      keys = learns.new;
      are_keys = case_keys t now.shelf learns.new within learns.adds;
      text = closed ∙ (ap (λ (z : List ℕ). z ++ keys_line keys) front ∙ ap (λ (k : ℕ). trial_text t.seed t.years t.candidates s.outcome ++ keys_line k) count);
      spent = record { worked = learns.worked; tally = learns.tally };
    }

-- with what a caller's count was before
trial_on : (t : TrialNumbers) (said : List ℕ) (n m : ℕ) (before now : Effort) → before.tally ≡ 0 → m ≡ raised now.tally n → IsTrialAnswered t said before now
    → IsTrialAnswered t said (record before { tally = n }) (record now { tally = m })
trial_on t said n m before now none is a = record {
  table = a.table;
  is_table = a.is_table;
  solved = a.solved;
  is_solution = a.is_solution;
  keys = a.keys;
  are_keys = a.are_keys;
  text = a.text;
  spent = spent_on a.keys 0 n m before now none is a.spent;
}

-- the whole text was put, or a front of it
pub closes : (t : TrialNumbers) (written written' : Option (List ℕ)) (said put : List ℕ) (n m : ℕ) (before now : Effort) → before.tally ≡ 0 → m ≡ raised now.tally n → put ≡ said
    → IsTrialAnswered t said before now → Appends written written' put → ClosesTrial t written written' (record before { tally = n }) (record now { tally = m })
closes t written written' said put n m before now none is same a wrote =
    record { said = said; answered = trial_on t said n m before now none is a; wrote = subst (λ (x : List ℕ). Appends written written' x) same wrote }

pub cuts : (t : TrialNumbers) (written written' : Option (List ℕ)) (said put : List ℕ) (n m : ℕ) (before now : Effort) → before.tally ≡ 0 → m ≡ raised now.tally n → put ≡ said
    → IsTrialAnswered t said before now → IsCutShort written written' put → CutsTrial t written written' (record before { tally = n }) (record now { tally = m })
cuts t written written' said put n m before now none is same a cut =
    record { said = said; answered = trial_on t said n m before now none is a; cut = subst (λ (x : List ℕ). IsCutShort written written' x) same cut }

-- into a sink with room for the whole text
pub never_short : (t : TrialNumbers) (a b : Option (List ℕ)) (room : Option ℕ) (f g : ℕ) (start now : Effort) → HasRoomForTrial t a room → ((r : ℕ) → room ≡ Some r → IsSureWithin r b g) → CutsTrial t a b start now → Rose f g → ⊥
never_short t a b room f g start now has sure short rose =
    let within = sure has.most has.sure in
    let cut = short.cut in
    let put : List ℕ = has.before ++ cut.done in
    let wrote : b ≡ Some put = wrote_is a b has.before cut.done has.wrote within.told cut.wrote in
    let fits = has.fits short.said start now short.answered in
    let fewer : length put < has.most = omega (arith, fits, ap length cut.is, length-append cut.done (cut.next ∷ cut.rest), length-append has.before cut.done) in
    let none : g ≡ 0 = of_told b put (λ bytes. length bytes < has.most → g ≡ 0) wrote within.no_fault fewer in
    absurd (omega (arith, none, rose))

-- ---- it is one

pub trial_one : SolvedCasesAreOne → TrialsAreOne
trial_one one t said other start now start' now' a b =
    let solved : a.solved ≡ b.solved = one.solved (trial_says t) 1 a.table b.table a.solved b.solved a.is_table b.is_table a.is_solution b.is_solution in
    let keys = one.keys (trial_says t) 1 a.keys b.keys a.are_keys b.are_keys in
    a.text
    ∙ (ap (λ (s : Solved). trial_text t.seed t.years t.candidates s.outcome ++ keys_line (length a.keys)) solved
    ∙ (ap (λ (k : ℕ). trial_text t.seed t.years t.candidates b.solved.outcome ++ keys_line k) keys.many ∙ sym b.text))

-- ---- the words

no_asked : (words : List (List ℕ)) (t : TrialNumbers) → trial_asked words ≡ Some t → (asked_by words ≡ None) × (hours_points words ≡ None)
no_asked [] t e = absurd cc
no_asked (word ∷ []) t e = absurd cc
no_asked (word ∷ a ∷ []) t e = absurd cc
no_asked (word ∷ a ∷ b ∷ []) t e = absurd cc
no_asked (word ∷ a ∷ b ∷ d ∷ []) t e = (refl, refl)
no_asked (word ∷ a ∷ b ∷ d ∷ other ∷ words) t e = absurd cc

-- they ask for nothing else
pub no_script : (words : List (List ℕ)) (engines : ℕ) (t : TrialNumbers) → trial_asked words ≡ Some t → accepted words engines ≡ None
no_script words engines t e = ap (with_engines engines) (no_asked words t e).0

pub no_hours : (words : List (List ℕ)) (t : TrialNumbers) → trial_asked words ≡ Some t → hours_points words ≡ None
no_hours words t e = (no_asked words t e).1

pub no_command : {P : Type 0} (words : List (List ℕ)) (engines : ℕ) (t : TrialNumbers) (asked : Asked) → trial_asked words ≡ Some t → accepted words engines ≡ Some asked → P
no_command {P} words engines t asked e taken = absurd (let none = no_script words engines t e in cc)

pub no_points : {P : Type 0} (words : List (List ℕ)) (t : TrialNumbers) (points : ℕ) → trial_asked words ≡ Some t → hours_points words ≡ Some points → P
no_points {P} words t points e taken = absurd (let none = no_hours words t e in cc)

-- the numbers are those that were read
pub same_numbers : (words : List (List ℕ)) (engines : ℕ) (result : Option TrialNumbers) (t u : TrialNumbers) → result ≡ Some t → result ≡ trial_asked words → trial_accepted words engines ≡ Some u → t ≡ u
same_numbers words engines result t u is by has = with_one (trial_asked words) engines t u (sym by ∙ is) has
  where
    with_one : (asked : Option TrialNumbers) (engines : ℕ) (t u : TrialNumbers) → asked ≡ Some t → with_engine engines asked ≡ Some u → t ≡ u
    with_one asked zero t u e has = absurd cc
    with_one asked (suc n) t u e has =
        let on : nat_le 1 (suc n) ≡ true = le-leb 1 (suc n) (omega arith) in
        let same : asked ≡ Some u = sym (ap (λ (b : Bool). if b then asked else None) on) ∙ has in
        cc

-- ---- of a session that begins with the deck

-- what its case was solved with
record Solves {X : Type 0} (s : State) (table : Table) (now : MemoryIs) (work : X → Work) (es fs : List X) : Type 0 where
  is_table : IsTableOf (body_of s.deck) 1 (deck_tunnels (body_of s.deck) 1) table
  within : IsCaseWithin (body_of s.deck) 1
  learns : LearnsCase (body_of s.deck) 1 s.memory now work es fs

pub begun_has_year : TrialsHaveOneCase → (t : TrialNumbers) (s : State) (table : Table) (solved : Solved) → IsTrial t → s ≡ begins_with t → IsTableOf (body_of s.deck) 1 (deck_tunnels (body_of s.deck) 1) table → IsSolution table solved → HasYear solved.outcome
begun_has_year one_case t s table solved is begins of_case solution =
    plan_has_year one_case t table solved is (subst (λ (z : State). IsTableOf (body_of z.deck) 1 (deck_tunnels (body_of z.deck) 1) table) begins of_case) solution

pub begun_said : {X : Type 0} (t : TrialNumbers) (s : State) (table : Table) (solved : Solved) (now : MemoryIs) (work : X → Work) (es fs : List X) (clear first whole : List ℕ) (keys : ℕ)
    → s ≡ begins_with t
    → IsTableOf (body_of s.deck) 1 (deck_tunnels (body_of s.deck) 1) table → IsSolution table solved → IsCaseWithin (body_of s.deck) 1
    → LearnsCase (body_of s.deck) 1 s.memory now work es fs
    → clear ≡ [] → first ≡ clear ++ trial_text t.seed t.years t.candidates solved.outcome → keys ≡ length now.shelf.kept → whole ≡ first ++ keys_line keys
    → IsTrialAnswered t whole (effort_by work es 0) (effort_by work fs now.tally)
begun_said {X} t s table solved now work es fs clear first whole keys begins of_case solution within learns empty summed many closed =
    let all : Solves s table now work es fs = record { is_table = of_case; within = within; learns = learns } in
    let here : Solves (begins_with t) table now work es fs = subst (λ (z : State). Solves z table now work es fs) begins all in
    said_is t table solved now work es fs clear first whole keys here.is_table solution here.within here.learns empty summed many closed
