-- What edits make of a deck.
use Rattle.std.proofs.Common.{◌≡◌, ℕ, ◌+◌, ◌<◌, Bool, true, false, not, cond, ◌&&◌, ◌||◌, List, [], ◌∷◌, ◌++◌, length, take, drop, set, get_or, reverse, Bor, Result, Ok, Err, OnOk, OnErr, Option, None, Some, IfSome, refl, sym, ap, subst, ◌∙◌, add-one}
use Rattle.std.specs.Prelude.{filter, fold}
use Rattle.std.specs.Option.{option_copied}
use Rattle.std.proofs.lemmas.List.{drop_more, set_split, reverse-append, reverse-reverse}
use Rattle.std.proofs.lemmas.List.Sums.{fold-append}
use Rattle.std.proofs.lemmas.Bool.{and_parts}
use Rattle.deck_lines.specs.declared.head.Head.{Head}
use Rattle.deck_lines.specs.declared.line.Line.{Line}
use Rattle.deck_lines.specs.declared.line.Line.TheVariants as lines
use Rattle.deck_lines.specs.declared.statement.Statement.{Statement}
use Rattle.deck_lines.specs.Body.{BodyParts}
use Rattle.deck_lines.specs.Statements.{same_head, is_statement}
use Rattle.deck_lines.specs.Deck.{looking_back, has_head, is_deck, put, without, body_of, changed, DecksFollowScripts}
use Rattle.deck_lines.proofs.EqualHeads.{same_head-true, same_head-self}

-- ---- where a statement is put

pub put_here : (deck : List Statement) (s : Statement) (i : ℕ) (t : Statement) → i < length deck → get_or deck i t ≡ t → same_head t.head s.head ≡ true
    → put deck s ≡ take i deck ++ put (drop i deck) s → put deck s ≡ set deck i s
put_here deck s i t lt at same so_far =
    let here : put (drop i deck) s ≡ s ∷ drop (i + 1) deck = rw (drop_more deck i t lt, at, same) refl in
    so_far ∙ ap (λ (rest : List Statement). take i deck ++ rest) here ∙ sym (set_split deck i s lt ∙ ap (λ (k : ℕ). take i deck ++ s ∷ drop k deck) (sym (add-one i)))

-- ---- a deck stays a deck

or_false : (a b : Bool) → a ≡ false → b ≡ false → (a || b) ≡ false
or_false a b h k = rw (h, k) refl

-- the parts of a test that is false
neither : (a b : Bool) → (a || b) ≡ false → (a ≡ false) × (b ≡ false)
neither true b h = absurd cc
neither false b h = (refl, h)

was_false : (a : Bool) → not a ≡ true → a ≡ false
was_false true h = absurd cc
was_false false h = refl

has_head-put : (deck : List Statement) (s : Statement) (h : Head) → has_head h deck ≡ false → same_head s.head h ≡ false → has_head h (put deck s) ≡ false
has_head-put [] s h none other = rw other refl
has_head-put (t ∷ deck) s h none other =
    let n = neither (same_head t.head h) (has_head h deck) none in
    elim (same_head t.head s.head) as (λ b. has_head h (cond b (s ∷ deck) (t ∷ put deck s)) ≡ false) [
      | true ↦ or_false (same_head s.head h) (has_head h deck) other n.1
      | false ↦ or_false (same_head t.head h) (has_head h (put deck s)) n.0 (has_head-put deck s h n.1 other)
    ]

deck_parts : (s : Statement) (deck : List Statement) → is_deck (s ∷ deck) ≡ true → (is_statement s ≡ true) × (has_head s.head deck ≡ false) × (is_deck deck ≡ true)
deck_parts s deck h =
    let a = and_parts (is_statement s && not (has_head s.head deck)) (is_deck deck) h in
    let b = and_parts (is_statement s) (not (has_head s.head deck)) a.0 in
    (b.0, was_false (has_head s.head deck) b.1, a.1)

deck_whole : (s : Statement) (deck : List Statement) → is_statement s ≡ true → has_head s.head deck ≡ false → is_deck deck ≡ true → is_deck (s ∷ deck) ≡ true
deck_whole s deck a b d = rw (a, b, d) refl

not_true : (x : Bool) → (x ≡ true → ⊥) → x ≡ false
not_true true h = absurd (h refl)
not_true false h = refl

flipped : (a b : Head) → same_head b a ≡ false → same_head a b ≡ false
flipped a b h = not_true (same_head a b) (λ e. let other : same_head b a ≡ true = same_head-self b a (sym (same_head-true a b e)) in absurd cc)

put_over : (t s : Statement) (deck : List Statement) (b : Bool) → same_head t.head s.head ≡ b → is_deck (t ∷ deck) ≡ true → is_statement s ≡ true → is_deck (put deck s) ≡ true → is_deck (cond b (s ∷ deck) (t ∷ put deck s)) ≡ true
put_over t s deck true e whole stated rest =
    let p = deck_parts t deck whole in
    let heads : t.head ≡ s.head = same_head-true t.head s.head e in
    deck_whole s deck stated (subst (λ (h : Head). has_head h deck ≡ false) heads p.1) p.2
put_over t s deck false e whole stated rest =
    let p = deck_parts t deck whole in
    deck_whole t (put deck s) p.0 (has_head-put deck s t.head p.1 (flipped s.head t.head e)) rest

pub is_deck-put : (deck : List Statement) (s : Statement) → is_deck deck ≡ true → is_statement s ≡ true → is_deck (put deck s) ≡ true
is_deck-put [] s whole stated = rw stated refl
is_deck-put (t ∷ deck) s whole stated = put_over t s deck (same_head t.head s.head) refl whole stated (is_deck-put deck s ((deck_parts t deck whole).2) stated)

-- ---- and without a head

has_head-filter : (p : Statement → Bool) (h : Head) (deck : List Statement) → has_head h deck ≡ false → has_head h (filter p deck) ≡ false
has_head-filter p h [] none = refl
has_head-filter p h (s ∷ deck) none =
    let n = neither (same_head s.head h) (has_head h deck) none in
    elim (p s) as (λ b. has_head h (cond b (s ∷ filter p deck) (filter p deck)) ≡ false) [
      | true ↦ or_false (same_head s.head h) (has_head h (filter p deck)) n.0 (has_head-filter p h deck n.1)
      | false ↦ has_head-filter p h deck n.1
    ]

is_deck-filter : (p : Statement → Bool) (deck : List Statement) → is_deck deck ≡ true → is_deck (filter p deck) ≡ true
is_deck-filter p [] whole = refl
is_deck-filter p (s ∷ deck) whole =
    let d = deck_parts s deck whole in
    elim (p s) as (λ b. is_deck (cond b (s ∷ filter p deck) (filter p deck)) ≡ true) [
      | true ↦ deck_whole s (filter p deck) d.0 (has_head-filter p s.head deck d.1) (is_deck-filter p deck d.2)
      | false ↦ is_deck-filter p deck d.2
    ]

pub is_deck-without : (deck : List Statement) (h : Head) → is_deck deck ≡ true → is_deck (without deck h) ≡ true
is_deck-without deck h whole = is_deck-filter (λ s. not (same_head s.head h)) deck whole

-- ---- what a head has

-- where a is h, b is h exactly if it is a
alike : (a b h : Head) → a ≡ b → same_head a h ≡ same_head b h
alike a b h e = ap (λ (x : Head). same_head x h) e

-- two heads that are one third are equal
apart : (a b h : Head) → same_head a b ≡ false → same_head a h ≡ true → same_head b h ≡ true → ⊥
apart a b h other one two =
    let e : a ≡ b = same_head-true a h one ∙ sym (same_head-true b h two) in
    let same : same_head a b ≡ true = same_head-self a b e in
    absurd cc

-- the two tests in the other order
swapped : (a b : Bool) (x y z : Option BodyParts) → (a ≡ true → b ≡ true → ⊥) → cond a x (cond b y z) ≡ cond b y (cond a x z)
swapped true true x y z h = absurd (h refl refl)
swapped true false x y z h = refl
swapped false true x y z h = refl
swapped false false x y z h = refl

-- a second test of the same is not asked
asked_once : (a b : Bool) (x y z : Option BodyParts) → a ≡ b → cond a x z ≡ cond a x (cond b y z)
asked_once true b x y z e = refl
asked_once false true x y z e = absurd cc
asked_once false false x y z e = refl

put_body : (t s : Statement) (deck : List Statement) (h : Head) (b : Bool) → same_head t.head s.head ≡ b → body_of (put deck s) h ≡ cond (same_head s.head h) (Some s.body) (body_of deck h)
    → body_of (cond b (s ∷ deck) (t ∷ put deck s)) h ≡ cond (same_head s.head h) (Some s.body) (body_of (t ∷ deck) h)
put_body t s deck h true e rest = asked_once (same_head s.head h) (same_head t.head h) (Some s.body) (Some t.body) (body_of deck h) (alike s.head t.head h (sym (same_head-true t.head s.head e)))
put_body t s deck h false e rest = ap (λ (o : Option BodyParts). cond (same_head t.head h) (Some t.body) o) rest ∙ swapped (same_head t.head h) (same_head s.head h) (Some t.body) (Some s.body) (body_of deck h) (apart t.head s.head h e)

body_of-put : (deck : List Statement) (s : Statement) (h : Head) → body_of (put deck s) h ≡ cond (same_head s.head h) (Some s.body) (body_of deck h)
body_of-put [] s h = refl
body_of-put (t ∷ deck) s h = put_body t s deck h (same_head t.head s.head) refl (body_of-put deck s h)

abbrev nothing : Option BodyParts
nothing = None

no_body : (b : Bool) → nothing ≡ cond b nothing nothing
no_body true = refl
no_body false = refl

without_body : (s : Statement) (deck : List Statement) (g h : Head) (b : Bool) → same_head s.head g ≡ b → body_of (without deck g) h ≡ cond (same_head g h) None (body_of deck h)
    → body_of (cond (not b) (s ∷ without deck g) (without deck g)) h ≡ cond (same_head g h) None (body_of (s ∷ deck) h)
without_body s deck g h true e rest = rest ∙ asked_once (same_head g h) (same_head s.head h) None (Some s.body) (body_of deck h) (alike g s.head h (sym (same_head-true s.head g e)))
without_body s deck g h false e rest = ap (λ (o : Option BodyParts). cond (same_head s.head h) (Some s.body) o) rest ∙ swapped (same_head s.head h) (same_head g h) (Some s.body) None (body_of deck h) (apart s.head g h e)

body_of-without : (deck : List Statement) (g h : Head) → body_of (without deck g) h ≡ cond (same_head g h) None (body_of deck h)
body_of-without [] g h = no_body (same_head g h)
body_of-without (s ∷ deck) g h = without_body s deck g h (same_head s.head g) refl (body_of-without deck g h)

-- ---- any edits

-- the deck after these lines, the last line first
after : List Line → List Statement
after [] = []
after (l ∷ earlier) = changed (after earlier) l

after-back : (earlier : List Line) (h : Head) → body_of (after earlier) h ≡ looking_back h earlier
unfolding after
after-back [] h = refl
after-back (lines.Set s ∷ earlier) h = body_of-put (after earlier) s h ∙ ap (λ (o : Option BodyParts). cond (same_head s.head h) (Some s.body) o) (after-back earlier h)
after-back (lines.Drop g ∷ earlier) h = body_of-without (after earlier) g h ∙ ap (λ (o : Option BodyParts). cond (same_head g h) None o) (after-back earlier h)
after-back (lines.Blank ∷ earlier) h = after-back earlier h
after-back (lines.Plan ∷ earlier) h = after-back earlier h
after-back (lines.Check c ∷ earlier) h = after-back earlier h
after-back (lines.Cert l ∷ earlier) h = after-back earlier h
after-back (lines.Skip ∷ earlier) h = after-back earlier h
after-back (lines.EndCheck ∷ earlier) h = after-back earlier h
after-back (lines.End ∷ earlier) h = after-back earlier h

after-fold : (earlier : List Line) → fold changed [] (reverse earlier) ≡ after earlier
unfolding after
after-fold [] = refl
after-fold (l ∷ earlier) = ap (fold changed []) (reverse-append (l ∷ []) earlier) ∙ fold-append changed [] (reverse earlier) (l ∷ []) ∙ ap (λ (deck : List Statement). changed deck l) (after-fold earlier)

pub decks_follow : DecksFollowScripts
decks_follow before h = ap (λ (ls : List Line). body_of (fold changed [] ls) h) (sym (reverse-reverse before)) ∙ ap (λ (deck : List Statement). body_of deck h) (after-fold (reverse before)) ∙ after-back (reverse before) h

-- ---- what is kept

pub set_keeps : {E : Type 0} (r : Result (Unit {0}) E) (old new : List Statement) (s : Statement) → OnOk r (new ≡ put old s) → OnErr r (new ≡ old) → is_deck old ≡ true → is_statement s ≡ true → is_deck new ≡ true
set_keeps (Ok x) old new s ok err whole stated = subst (λ (d : List Statement). is_deck d ≡ true) (sym ok) (is_deck-put old s whole stated)
set_keeps (Err e) old new s ok err whole stated = subst (λ (d : List Statement). is_deck d ≡ true) (sym err) whole

pub place_here : (deck : List Statement) (h : Head) (s : Statement) (i : ℕ) (t : Statement) (b : Bool) → i < length deck → t ≡ get_or deck i t → b ≡ same_head t.head h → b ≡ true → s.head ≡ h
    → put deck s ≡ take i deck ++ put (drop i deck) s → put deck s ≡ set deck i s
place_here deck h s i t b lt at is here e so_far = put_here deck s i t lt (sym at) (rw e (sym is ∙ here)) so_far

pub drop_keeps : (old new : List Statement) (h : Head) → new ≡ without old h → is_deck old ≡ true → is_deck new ≡ true
drop_keeps old new h e whole = subst (λ (d : List Statement). is_deck d ≡ true) (sym e) (is_deck-without old h whole)

-- ---- what is found

found : (s : Statement) (deck : List Statement) (h : Head) (b : Bool) → same_head s.head h ≡ b → is_statement s ≡ true → IfSome (body_of deck h) (λ b. is_statement (record { head = h; body = b }) ≡ true)
    → IfSome (cond b (Some s.body) (body_of deck h)) (λ b. is_statement (record { head = h; body = b }) ≡ true)
found s deck h true e stated rest = subst (λ (x : Head). is_statement (record { head = x; body = s.body }) ≡ true) (same_head-true s.head h e) stated
found s deck h false e stated rest = rest

pub found_fits : (deck : List Statement) (h : Head) → is_deck deck ≡ true → IfSome (body_of deck h) (λ b. is_statement (record { head = h; body = b }) ≡ true)
found_fits [] h whole = tt
found_fits (s ∷ deck) h whole = let d = deck_parts s deck whole in found s deck h (same_head s.head h) refl d.0 (found_fits deck h d.2)

pub get_fits : (deck : List Statement) (h : Head) (r : Option (Bor BodyParts)) → is_deck deck ≡ true → option_copied r ≡ body_of deck h → IfSome r (λ b. is_statement (record { head = h; body = b.now }) ≡ true)
get_fits deck h None whole e = tt
get_fits deck h (Some b) whole e = rw (sym e) at (found_fits deck h whole)
