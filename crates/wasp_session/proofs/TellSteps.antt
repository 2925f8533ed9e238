-- Tellings, one behind the other.
use Rattle.std.proofs.Common.{◌≡◌, ◌∙◌, ap, sym, refl, List, [], ◌∷◌, ◌++◌, append_assoc, arith}
use Rattle.std.proofs.lemmas.List.{append-nil}
use Rattle.deck_lines.specs.declared.line.Line.{Line}
use Rattle.wasp_session.specs.Oneness.{TellingsGoOn}
use Rattle.wasp_session.specs.Tasks.{AreToldAfter, IsLineTold, Task, TellingGoesOn, task_of}
use Rattle.deck_tellings.specs.Told.{AreJoined, Told, joined, nothing}

pub same_told : (x y : Told) → x.text ≡ y.text → x.details ≡ y.details → x.nos ≡ y.nos → x ≡ y
same_told x y e f g = λ i. record { text = e i; details = f i; nos = g i }

pub joined_assoc : (a b c : Told) → joined (joined a b) c ≡ joined a (joined b c)
joined_assoc a b c = same_told _ _ (append_assoc a.text b.text c.text) (omega arith) (omega arith)

pub joined_nothing : (a : Told) → joined a nothing ≡ a
joined_nothing a = same_told _ _ (append-nil a.text) (omega arith) (omega arith)

pub nothing_joined : (a : Told) → joined nothing a ≡ a
nothing_joined a = same_told _ _ refl (omega arith) (omega arith)

-- two tellings that are each one are one together
pub joined_one : (One Other : Told → Type 0) (a b : Told) → ((x y : Told) → One x → One y → x ≡ y) → ((x y : Told) → Other x → Other y → x ≡ y) → AreJoined One Other a → AreJoined One Other b → a ≡ b
joined_one One Other a b first second x y =
    let p : x.one ≡ y.one = first x.one y.one x.is_one y.is_one in
    let q : x.other ≡ y.other = second x.other y.other x.is_other y.is_other in
    let both : joined x.one x.other ≡ joined y.one y.other = λ i. joined (p i) (q i) in
    x.is ∙ (both ∙ sym y.is)

pub both_are : (told a b : Told) → a ≡ told → b ≡ told → a ≡ b
both_are told a b x y = x ∙ sym y

goes_on : (task : Task) (before ls : List Line) (line : Line) (told more : Told)
    → AreToldAfter task before ls told → IsLineTold task (before ++ ls) line more → AreToldAfter task before (ls ++ line ∷ []) (joined told more)
goes_on task before [] line told more t m = record {
  one = more;
  other = nothing;
  is_one = rw (← append-nil before) m;
  is_other = refl;
  is = ap (λ (s : Told). joined s more) t ∙ nothing_joined more ∙ sym (joined_nothing more);
}
goes_on task before (l ∷ ls) line told more t m = record {
  one = t.one;
  other = joined t.other more;
  is_one = t.is_one;
  is_other = goes_on task (before ++ l ∷ []) ls line t.other more t.is_other (rw (append_assoc before (l ∷ []) ls) m);
  is = ap (λ (s : Told). joined s more) t.is ∙ joined_assoc t.one t.other more;
}

-- what is told of a line comes behind what was told of the lines before it
pub told_more : (task : Task) → TellingGoesOn task
told_more task ls line told more t m = goes_on task [] ls line told more t m

pub all_go_on : TellingsGoOn
all_go_on command = told_more (task_of command)
