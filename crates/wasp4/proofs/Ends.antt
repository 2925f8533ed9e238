-- A sink's room for what the script of one END is answered with.
use Rattle.std.proofs.Common.{◌≡◌, ◌∙◌, refl, sym, ap, subst, ⊎_elim, ℕ, ◌≤◌, List, [], ◌∷◌, ◌++◌, length, Option, Some, codes, arith}
use Rattle.std.proofs.lemmas.Fmt.{decimal_digit}
use Rattle.std.proofs.lemmas.List.{length-append}
use Rattle.deck_lines.specs.Grammar.{line_of}
use Rattle.deck_lines.specs.declared.line.Line.{Line}
use Rattle.report_text.specs.Lines.{keys_line}
use Rattle.wasp_session.specs.Tasks.{AreTold, plan_task}
use Rattle.deck_tellings.specs.Told.{Told}
use Rattle.wasp_session.specs.declared.command.Command.TheVariants as commands
use Rattle.wasp4.specs.Out.{IsFront, IsToldFront, IsWholeFront}
use Rattle.wasp4.specs.Progress.{HasRoomFor}
use Rattle.wasp4.specs.Script.{Script, ends, script_behind, script_of}
use Rattle.wasp4.proofs.Running.{none_of}

is_end : script_of commands.Plan (codes "END\n") ≡ ends []
unfolding script_behind line_of
is_end = refl

front_none : {X : Type 0} (xs ys : List X) → [] ≡ xs ++ ys → xs ≡ []
front_none {X} [] ys e = refl
front_none {X} (x ∷ xs) ys e = cc

within : (text said more : List ℕ) (n : ℕ) → length text ≤ n → text ≡ said ++ more → length said ≤ n
within text said more n fits e = omega (arith, fits, ap length e, length-append said more)

told_within : (said : List ℕ) → IsToldFront commands.Plan (ends []) said → length said ≤ 7
told_within said f =
    let told : AreTold plan_task [] f.told = subst (λ (read : List Line). AreTold plan_task read f.told) (front_none f.read f.rest f.lines) f.is_told in
    within f.told.text said f.more 7 (rw told (omega arith)) f.front

seven : length (keys_line 0) ≡ 7
seven = rw (decimal_digit 0 (omega arith)) refl

whole_within : (said : List ℕ) → IsWholeFront commands.Plan (ends []) said → length said ≤ 7
whole_within said f =
    let told : f.told.text ≡ [] = ap (λ (t : Told). t.text) f.is_told in
    let keys : f.keys ≡ [] = none_of commands.Plan f.keys f.are_keys in
    let whole : keys_line 0 ≡ said ++ f.more = sym (rw (told, keys) refl) ∙ f.front in
    within (keys_line 0) said f.more 7 (omega (arith, seven)) whole

pub room_for_end : (left written : Option (List ℕ)) (room : Option ℕ) → left ≡ Some (codes "END\n") → written ≡ Some [] → room ≡ Some 7 → HasRoomFor commands.Plan left written room
room_for_end left written room told wrote sure = record {
  bytes = codes "END\n";
  before = [];
  most = 7;
  told = told;
  wrote = wrote;
  sure = sure;
  fits = λ said front.
      let fits : length said ≤ 7 = ⊎_elim (λ f. told_within said f) (λ f. whole_within said f) (subst (λ (s : Script). IsFront commands.Plan s said) is_end front) in
      omega (arith, fits);
}
