-- The text of a script is one, whatever engines answered it and however many, and what stands of it where memory is
-- wanting or the sink fails is a front of it. This program's own.
use Rattle.std.specs.Prelude.{◌≡◌, ℕ, ◌⊎◌, List, [], ◌++◌, Some}
use Rattle.wasp_session.specs.Oneness.{AreSameKeys}
use Rattle.wasp_session.specs.declared.command.Command.{Command}
use Rattle.wasp4.specs.Going.{Effort}
use Rattle.wasp4.specs.Out.{IsAnswered, IsFront}
use Rattle.wasp4.specs.Progress.{Closes}
use Rattle.wasp4.specs.Script.{Script}
use Rattle.wasp4.specs.declared.status.Ending.{Ending}

-- two answers to a script say the same, with one count of NOs, and demand the same keys, as many
pub record AreAlike (command : Command) (script : Script) (said other : List ℕ) (start now start' now' : Effort) (one : IsAnswered command script said start now) (two : IsAnswered command script other start' now') : Type 0 where
  pub text : said ≡ other
  pub nos : one.told.nos ≡ two.told.nos
  pub keys : AreSameKeys one.keys two.keys

-- whatever engines gave them
abbrev pub TextsAreOne : Type 0
TextsAreOne = (command : Command) (script : Script) (said other : List ℕ) (start now start' now' : Effort)
    → (one : IsAnswered command script said start now) (two : IsAnswered command script other start' now')
    → AreAlike command script said other start now start' now' one two

-- two runs that close over the same bytes, by whatever engines and however many, write the same and end the same
pub record EndAlike (said other : List ℕ) (one_ending other_ending : Ending) : Type 0 where
  pub text : said ≡ other
  pub ending : one_ending ≡ other_ending

abbrev pub WorkersWriteOneText : Type 0
WorkersWriteOneText = (command : Command) (bytes said other : List ℕ) (start now start' now' : Effort) (ending ending' : Ending)
    → Closes command (Some bytes) (Some []) (Some said) start now ending
    → Closes command (Some bytes) (Some []) (Some other) start' now' ending' → EndAlike said other ending ending'

-- a text begins with another
abbrev pub Begins : List ℕ → List ℕ → Type 0
Begins text said = (more : List ℕ) × (text ≡ said ++ more)

-- what was said of a script where it stopped is a front of its text, and of two fronts one begins with the other
pub record TextsGoOn : Type 0 where
  pub whole : (command : Command) (script : Script) (said text : List ℕ) (start now : Effort)
      → IsFront command script said → IsAnswered command script text start now → Begins text said
  pub each : (command : Command) (script : Script) (one other : List ℕ)
      → IsFront command script one → IsFront command script other → Begins one other ⊎ Begins other one
