-- The deck as edited so far: the statements that stand, each head once. This program's own.
use Rattle.std.specs.Prelude.{◌≡◌, ◌&&◌, ℕ, Bool, true, not, List, [], ◌∷◌, ◌++◌, Option, None, Some, IsTrue, slice_set, filter, fold, reverse, if◌then◌else◌}
use Rattle.std.specs.List.{list_any}
use Rattle.deck_lines.specs.declared.head.Head.{Head}
use Rattle.deck_lines.specs.declared.line.Line.{Line}
use Rattle.deck_lines.specs.declared.line.Line.TheVariants as lines
use Rattle.deck_lines.specs.declared.statement.Statement.{Statement}
use Rattle.deck_lines.specs.Body.{BodyParts}
use Rattle.deck_lines.specs.Statements.{same_head, is_statement}

-- ---- what the script says

-- The body of a head, looking back over the lines, the last line first: that of the last statement with
-- that head, and none where a DROP of that head stands behind it.
abbrev pub looking_back : Head → List Line → Option BodyParts
looking_back h [] = None
looking_back h (lines.Set s ∷ earlier) = if same_head s.head h then Some s.body else looking_back h earlier
looking_back h (lines.Drop g ∷ earlier) = if same_head g h then None else looking_back h earlier
looking_back h (_ ∷ earlier) = looking_back h earlier

-- the deck at the end of these lines, as a map from heads to bodies
abbrev pub deck_at : List Line → Head → Option BodyParts
deck_at before h = looking_back h (reverse before)

-- ---- the list that the edits make

abbrev pub has_head : Head → List Statement → Bool
has_head h deck = list_any (λ s. same_head s.head h) deck

abbrev pub is_deck : List Statement → Bool
is_deck [] = true
is_deck (s ∷ deck) = is_statement s && not (has_head s.head deck) && is_deck deck

-- distinct heads, and each statement in its form and its ranges
abbrev pub IsDeck : List Statement → Type 0
IsDeck deck = IsTrue (is_deck deck)

-- the statement stands in the place of that with its head, or behind the last
abbrev pub put : List Statement → Statement → List Statement
put [] s = s ∷ []
put (t ∷ deck) s = if same_head t.head s.head then s ∷ deck else t ∷ put deck s

-- where that is: in the place of a statement, or behind the last
abbrev pub put_at : Option ℕ → List Statement → Statement → List Statement
put_at None deck s = deck ++ s ∷ []
put_at (Some i) deck s = slice_set deck i s

-- the statement of a head is taken away
abbrev pub without : List Statement → Head → List Statement
without deck h = filter (λ s. not (same_head s.head h)) deck

-- the body of a head
abbrev pub body_of : List Statement → Head → Option BodyParts
body_of [] h = None
body_of (s ∷ deck) h = if same_head s.head h then Some s.body else body_of deck h

-- what a line does to the deck
abbrev pub changed : List Statement → Line → List Statement
changed deck (lines.Set s) = put deck s
changed deck (lines.Drop h) = without deck h
changed deck _ = deck

-- whatever the lines are, the list that they make is the deck that the script says
abbrev pub DecksFollowScripts : Type 0
DecksFollowScripts = (before : List Line) (h : Head) → body_of (fold changed [] before) h ≡ deck_at before h
