-- The text of a script is one, and goes on behind each of its fronts.
use Rattle.std.proofs.Common.{◌≡◌, ℕ, ◌⊎◌, List, [], ◌∷◌, ◌++◌, append_assoc, length, Option, arith, sym, ap, ◌∙◌, refl, subst, inl, inr}
use Rattle.std.proofs.lemmas.List.{append-nil}
use Rattle.deck_lines.specs.declared.line.Line.{Line}
use Rattle.wasp_session.specs.Oneness.{KeyListsAreOne, TellingOfAFront, TellingsAreOne}
use Rattle.wasp_session.specs.Tasks.{AreTold, task_of}
use Rattle.deck_tellings.specs.Told.{Told}
use Rattle.wasp_session.specs.declared.command.Command.{Command}
use Rattle.wasp4.specs.Going.{Effort}
use Rattle.wasp4.specs.Oneness.{Begins, EndAlike, TextsAreOne, TextsGoOn, WorkersWriteOneText}
use Rattle.wasp4.specs.Out.{IsAnswered, IsFront, IsToldFront, IsWholeFront, closing}
use Rattle.wasp4.specs.Progress.{EndsAs}
use Rattle.wasp4.specs.Script.{Malformed, Script}
use Rattle.wasp4.specs.declared.status.Ending.{Ending}
use Rattle.wasp4.specs.declared.status.Ending.TheVariants as endings

pub one_text : TellingsAreOne → KeyListsAreOne → TextsAreOne
one_text tellings key_lists command script said other start now start' now' one two =
    let told : one.told ≡ two.told = tellings command script.lines one.told two.told one.is_told two.is_told in
    let keys = key_lists command script.lines one.keys two.keys one.are_keys two.are_keys in
    let whole : one.told.text ++ closing script.malformed (length one.keys) ≡ two.told.text ++ closing script.malformed (length two.keys) = λ i. (told i).text ++ closing script.malformed (keys.many i) in
    record {
      text = one.text ∙ (whole ∙ sym two.text);
      nos = ap (λ (t : Told). t.nos) told;
      keys = keys;
    }

-- ---- two runs over the same bytes

-- with one count of NOs a script ends one way
one_ending : (a b : Ending) (malformed : Option Malformed) (n m : ℕ) → n ≡ m → EndsAs a malformed n → EndsAs b malformed m → a ≡ b
one_ending endings.Done endings.Done malformed n m e x y = refl
one_ending endings.Done endings.CheckNo malformed n m e x y = absurd (omega (arith, e, x.1, y.1))
one_ending endings.Done endings.Malformed malformed n m e x y = absurd (y x.0)
one_ending endings.CheckNo endings.Done malformed n m e x y = absurd (omega (arith, e, x.1, y.1))
one_ending endings.CheckNo endings.CheckNo malformed n m e x y = refl
one_ending endings.CheckNo endings.Malformed malformed n m e x y = absurd (y x.0)
one_ending endings.Malformed endings.Done malformed n m e x y = absurd (x y.0)
one_ending endings.Malformed endings.CheckNo malformed n m e x y = absurd (x y.0)
one_ending endings.Malformed endings.Malformed malformed n m e x y = refl

-- an answer to a script, with its ending
record Ended (command : Command) (script : Script) (said : List ℕ) (start now : Effort) (ending : Ending) : Type 0 where
  answered : IsAnswered command script said start now
  ends : EndsAs ending script.malformed answered.told.nos

end_alike : TellingsAreOne → KeyListsAreOne → (command : Command) (script : Script) (said other : List ℕ) (start now start' now' : Effort) (ending ending' : Ending)
    → Ended command script said start now ending → Ended command script other start' now' ending' → EndAlike said other ending ending'
end_alike tellings key_lists command script said other start now start' now' ending ending' one two =
    let both = one_text tellings key_lists command script said other start now start' now' one.answered two.answered in
    record {
      text = both.text;
      ending = one_ending ending ending' script.malformed one.answered.told.nos two.answered.told.nos both.nos one.ends two.ends;
    }

pub workers_one : TellingsAreOne → KeyListsAreOne → WorkersWriteOneText
workers_one tellings key_lists command bytes said other start now start' now' ending ending' one two =
    let scripts : one.script ≡ two.script = sym one.is ∙ two.is in
    let moved : Ended command one.script two.said start' now' ending' = subst (λ (s : Script). Ended command s two.said start' now' ending') (sym scripts) (record { answered = two.answered; ends = two.ends }) in
    let both = end_alike tellings key_lists command one.script one.said two.said start now start' now' ending ending' (record { answered = one.answered; ends = one.ends }) moved in
    record { text = one.wrote ∙ both.text ∙ sym two.wrote; ending = both.ending }

-- ---- beginnings

begins_then : (a b c : List ℕ) → Begins a b → Begins b c → Begins a c
begins_then a b c x y = (y.0 ++ x.0, x.1 ∙ (ap (λ (t : List ℕ). t ++ x.0) y.1 ∙ append_assoc c y.0 x.0))

-- of two lists that both begin a third one begins the other
record Front {X : Type 0} (xs ys : List X) : Type 0 where
  more : List X
  is : ys ≡ xs ++ more

fronts : {X : Type 0} (xs ys zs ws : List X) → xs ++ zs ≡ ys ++ ws → Front xs ys ⊎ Front ys xs
fronts [] ys zs ws e = inl (record { more = ys; is = refl })
fronts (x ∷ xs) [] zs ws e = inr (record { more = x ∷ xs; is = refl })
fronts {X} (x ∷ xs) (y ∷ ys) zs ws e = longer (fronts xs ys zs ws (ap rest e))
  where
    first : List X → X
    first [] = x
    first (z ∷ more) = z

    rest : List X → List X
    rest [] = []
    rest (z ∷ more) = more

    head : x ≡ y
    head = ap first e

    longer : Front xs ys ⊎ Front ys xs → Front (x ∷ xs) (y ∷ ys) ⊎ Front (y ∷ ys) (x ∷ xs)
    longer (inl f) = let same = f.is in inl (record { more = f.more; is = λ i. sym head i ∷ same i })
    longer (inr f) = let same = f.is in inr (record { more = f.more; is = λ i. head i ∷ same i })

both_begin : (text one other : List ℕ) → Begins text one → Begins text other → Begins one other ⊎ Begins other one
both_begin text one other a b = turned (fronts one other a.0 b.0 (sym a.1 ∙ b.1))
  where
    turned : Front one other ⊎ Front other one → Begins one other ⊎ Begins other one
    turned (inl f) = inr (f.more, f.is)
    turned (inr f) = inl (f.more, f.is)

-- ---- fronts of a script

-- what is told of more lines begins with what is told of the first
told_on : TellingsAreOne → TellingOfAFront → (command : Command) (first behind : List Line) (a b : Told) → AreTold (task_of command) first a → AreTold (task_of command) (first ++ behind) b → Begins b.text a.text
told_on tellings front command first behind a b x y =
    let s = front command first behind b y in
    let same : s.front ≡ a = tellings command first s.front a s.is_front x in
    (s.rest.text, ap (λ (t : Told). t.text) s.is ∙ ap (λ (t : Told). t.text ++ s.rest.text) same)

told_whole : TellingsAreOne → TellingOfAFront → (command : Command) (script : Script) (said : List ℕ) (told : Told) → IsToldFront command script said → AreTold (task_of command) script.lines told → Begins told.text said
told_whole tellings front command script said told f is =
    begins_then told.text f.told.text said (told_on tellings front command f.read f.rest f.told told f.is_told (subst (λ (ls : List Line). AreTold (task_of command) ls told) f.lines is)) (f.more, f.front)

-- a front of the text that is told of a script's lines and its closing
whole_text : TellingsAreOne → TellingOfAFront → KeyListsAreOne → (command : Command) (script : Script) (said other : List ℕ) (w : IsWholeFront command script other) → IsFront command script said → Begins (w.told.text ++ closing script.malformed (length w.keys)) said
whole_text tellings front key_lists command script said other w (inl f) =
    begins_then _ w.told.text said (closing script.malformed (length w.keys), refl) (told_whole tellings front command script said w.told f w.is_told)
whole_text tellings front key_lists command script said other w (inr f) =
    let told : f.told ≡ w.told = tellings command script.lines f.told w.told f.is_told w.is_told in
    let keys = (key_lists command script.lines f.keys w.keys f.are_keys w.are_keys).many in
    let same : f.told.text ++ closing script.malformed (length f.keys) ≡ w.told.text ++ closing script.malformed (length w.keys) = λ i. (told i).text ++ closing script.malformed (keys i) in
    (f.more, sym same ∙ f.front)

-- fronts of what is told of the first lines
told_fronts : TellingsAreOne → TellingOfAFront → (command : Command) (script : Script) (one other : List ℕ) → IsToldFront command script one → IsToldFront command script other → Begins one other ⊎ Begins other one
told_fronts tellings front command script one other a b = by_lines (fronts a.read b.read a.rest b.rest (sym a.lines ∙ b.lines))
  where
    by_lines : Front a.read b.read ⊎ Front b.read a.read → Begins one other ⊎ Begins other one
    by_lines (inl f) =
        let on = told_on tellings front command a.read f.more a.told b.told a.is_told (subst (λ (ls : List Line). AreTold (task_of command) ls b.told) f.is b.is_told) in
        both_begin b.told.text one other (begins_then b.told.text a.told.text one on (a.more, a.front)) (b.more, b.front)
    by_lines (inr f) =
        let on = told_on tellings front command b.read f.more b.told a.told b.is_told (subst (λ (ls : List Line). AreTold (task_of command) ls a.told) f.is a.is_told) in
        both_begin a.told.text one other (a.more, a.front) (begins_then a.told.text b.told.text other on (b.more, b.front))

each_front : TellingsAreOne → TellingOfAFront → KeyListsAreOne → (command : Command) (script : Script) (one other : List ℕ) → IsFront command script one → IsFront command script other → Begins one other ⊎ Begins other one
each_front tellings front key_lists command script one other (inl a) (inl b) = told_fronts tellings front command script one other a b
each_front tellings front key_lists command script one other (inl a) (inr w) =
    both_begin _ one other (whole_text tellings front key_lists command script one other w (inl a)) (w.more, w.front)
each_front tellings front key_lists command script one other (inr w) b =
    both_begin _ one other (w.more, w.front) (whole_text tellings front key_lists command script other one w b)

pub goes_on : TellingsAreOne → TellingOfAFront → KeyListsAreOne → TextsGoOn
goes_on tellings front key_lists = record {
  whole = λ command script said text start now f a.
      let w : IsWholeFront command script text = record { told = a.told; is_told = a.is_told; keys = a.keys; are_keys = a.are_keys; more = []; front = sym a.text ∙ sym (append-nil text) } in
      let b = whole_text tellings front key_lists command script said text w f in
      (b.0, a.text ∙ b.1);
  each = each_front tellings front key_lists;
}
