-- A trial: the words that ask for one, and the summary of the one case of its deck. This program's own.
use Rattle.std.specs.Prelude.{◌≡◌, ◌&&◌, ℕ, ◌+◌, ◌≤◌, List, [], ◌∷◌, ◌++◌, length, take, Option, None, Some, codes, nat_le, if◌then◌else◌}
use Rattle.std.specs.Str.{bytes_eq}
use Rattle.std.specs.Io.KnownBytes.{Appends, Keeps}
use Rattle.cost_terms.specs.Table.{Table}
use Rattle.deck_check.specs.Readings.{Says}
use Rattle.deck_lines.specs.Deck.{body_of}
use Rattle.deck_lines.specs.Words.{number_of}
use Rattle.deck_maker.specs.TrialDeck.{trial}
use Rattle.plan_program.specs.Chosen.{IsSolution}
use Rattle.plan_program.specs.declared.solved.Solved.{Solved}
use Rattle.report_text.specs.Lines.{keys_line}
use Rattle.report_text.specs.Trial.{trial_text}
use Rattle.sim_engine.specs.Engine.{Run, Work}
use Rattle.case_study.specs.Case.{IsTableOf}
use Rattle.case_study.specs.Listings.{deck_tunnels}
use Rattle.wasp_session.specs.Solving.{AreCaseKeys}
use Rattle.wasp4.specs.Going.{Effort, IsSpent, effort_by}
use Rattle.wasp4.specs.Progress.{IsCutShort}
use Rattle.wasp4.specs.declared.status.Status.{Status}
use Rattle.wasp4.specs.declared.status.Status.TheVariants as statuses
use Rattle.wasp4.specs.declared.trial.TrialNumbers.{TrialNumbers}

-- ---- the words

-- a number in a range
abbrev pub number_within : ℕ → ℕ → Option ℕ → Option ℕ
number_within least most None = None
number_within least most (Some n) = if nat_le least n && nat_le n most then Some n else None

-- three numbers, where each is one
abbrev pub trial_of : Option ℕ → Option ℕ → Option ℕ → Option TrialNumbers
trial_of None years candidates = None
trial_of (Some seed) None candidates = None
trial_of (Some seed) (Some years) None = None
trial_of (Some seed) (Some years) (Some candidates) = Some (record { seed = seed; years = years; candidates = candidates })

-- what four words ask for: `trial SEED YEARS CANDIDATES`, with 1 to 30 years and 1 to 6 candidates
abbrev pub trial_behind : List ℕ → List ℕ → List ℕ → List ℕ → Option TrialNumbers
trial_behind word seed years candidates =
    if bytes_eq word (codes "trial") then trial_of (number_of seed) (number_within 1 30 (number_of years)) (number_within 1 6 (number_of candidates)) else None

abbrev pub trial_asked : List (List ℕ) → Option TrialNumbers
trial_asked [] = None
trial_asked (word ∷ []) = None
trial_asked (word ∷ seed ∷ []) = None
trial_asked (word ∷ seed ∷ years ∷ []) = None
trial_asked (word ∷ seed ∷ years ∷ candidates ∷ []) = trial_behind word seed years candidates
trial_asked (word ∷ seed ∷ years ∷ candidates ∷ other ∷ words) = None

-- the same where there is an engine
abbrev pub with_engine : ℕ → Option TrialNumbers → Option TrialNumbers
with_engine engines asked = if nat_le 1 engines then asked else None

abbrev pub trial_accepted : List (List ℕ) → ℕ → Option TrialNumbers
trial_accepted words engines = with_engine engines (trial_asked words)

-- the numbers are in their ranges
pub record IsTrial (t : TrialNumbers) : Type 0 where
  pub years : (1 ≤ t.years) × (t.years ≤ 30)
  pub candidates : (1 ≤ t.candidates) × (t.candidates ≤ 6)

-- ---- what is written

-- the deck of the three numbers, as a map from heads to bodies
abbrev pub trial_says : TrialNumbers → Says
trial_says t = body_of (trial t.seed t.years t.candidates)

-- The summary of the plan over the one case of the deck, and the number of its keys. Each key was simulated once by one
-- of the engines, and nothing was detailed.
pub record IsTrialAnswered (t : TrialNumbers) (said : List ℕ) (start now : Effort) : Type 0 where
  pub table : Table
  pub is_table : IsTableOf (trial_says t) 1 (deck_tunnels (trial_says t) 1) table
  pub solved : Solved
  pub is_solution : IsSolution table solved
  pub keys : List Run
  pub are_keys : AreCaseKeys (trial_says t) 1 keys
  pub text : said ≡ trial_text t.seed t.years t.candidates solved.outcome ++ keys_line (length keys)
  pub spent : IsSpent keys 0 start now

-- the whole text was written
pub record ClosesTrial (t : TrialNumbers) (written written' : Option (List ℕ)) (start now : Effort) : Type 0 where
  pub said : List ℕ
  pub answered : IsTrialAnswered t said start now
  pub wrote : Appends written written' said

-- a front of it was written, and more of it was to come
pub record CutsTrial (t : TrialNumbers) (written written' : Option (List ℕ)) (start now : Effort) : Type 0 where
  pub said : List ℕ
  pub answered : IsTrialAnswered t said start now
  pub cut : IsCutShort written written' said

-- what was written, by the status: nothing is written before the plan is known, and nothing is read
abbrev pub AnswersTrial : TrialNumbers → Option (List ℕ) → Option (List ℕ) → Effort → Effort → Status → Type 0
AnswersTrial t written written' start now statuses.Done = ClosesTrial t written written' start now
AnswersTrial t written written' start now statuses.CheckNo = ⊥
AnswersTrial t written written' start now statuses.Malformed = ⊥
AnswersTrial t written written' start now statuses.ReadFault = ⊥
AnswersTrial t written written' start now statuses.WriteFault = CutsTrial t written written' start now
AnswersTrial t written written' start now statuses.OutOfMemory = Keeps written written'
AnswersTrial t written written' start now statuses.BadWords = ⊥

-- the same by the first engine
abbrev pub AnswersTrialBy : {X : Type 0} → TrialNumbers → Option (List ℕ) → Option (List ℕ) → (X → Work) → List X → List X → ℕ → ℕ → Status → Type 0
AnswersTrialBy t written written' work es fs tally tally_now status =
    AnswersTrial t written written' (effort_by work (take 1 es) tally) (effort_by work (take 1 fs) tally_now) status

-- the sink's sure room holds what was written before and the whole text
pub record HasRoomForTrial (t : TrialNumbers) (written : Option (List ℕ)) (room : Option ℕ) : Type 0 where
  pub before : List ℕ
  pub most : ℕ
  pub wrote : written ≡ Some before
  pub sure : room ≡ Some most
  pub fits : (said : List ℕ) (start now : Effort) → IsTrialAnswered t said start now → length before + length said ≤ most

-- ---- the text of three numbers is one

abbrev pub TrialsAreOne : Type 0
TrialsAreOne = (t : TrialNumbers) (said other : List ℕ) (start now start' now' : Effort)
    → IsTrialAnswered t said start now → IsTrialAnswered t other start' now' → said ≡ other
