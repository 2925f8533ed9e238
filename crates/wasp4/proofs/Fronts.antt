-- Fronts of the text of a script.
use Rattle.std.proofs.Common.{◌≡◌, ◌∙◌, sym, ℕ, inl, inr, List, ◌++◌}
use Rattle.deck_lines.specs.declared.line.Line.{Line}
use Rattle.wasp_session.specs.State.{State}
use Rattle.wasp_session.specs.declared.command.Command.{Command}
use Rattle.wasp4.specs.Out.{IsAnswered, IsFront}
use Rattle.wasp4.specs.Script.{Script, script_behind}
use Rattle.wasp4.specs.Going.{Effort, HasRun}
use Rattle.wasp4.proofs.Scripts.{keeps_lines}

-- of lines that were read
pub told_front : (command : Command) (read : List Line) (s : State) (said done rest : List ℕ) (w v : Effort) (more : List (List ℕ)) → HasRun command read s said w v → said ≡ done ++ rest → IsFront command (script_behind command read more) done
told_front command read s said done rest w v more r e =
    let behind = keeps_lines command more read in
    inl (record {
      read = read;
      rest = behind.0;
      lines = behind.1;
      told = r.told;
      is_told = r.is_told;
      more = rest;
      front = sym r.text ∙ e;
    })

-- of the whole
pub whole_front : (command : Command) (script : Script) (said done rest : List ℕ) (w v : Effort) → IsAnswered command script said w v → said ≡ done ++ rest → IsFront command script done
whole_front command script said done rest w v a e =
    inr (record {
      told = a.told;
      is_told = a.is_told;
      keys = a.keys;
      are_keys = a.are_keys;
      more = rest;
      front = sym a.text ∙ e;
    })
