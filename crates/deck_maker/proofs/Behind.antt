-- A statement whose head comes behind all others is put behind them.
use Rattle.std.proofs.Common.{◌≡◌, ◌+◌, ◌≤◌, ◌<◌, Bool, true, false, List, [], ◌∷◌, ◌++◌, refl, ap, arith}
use Rattle.deck_lines.specs.declared.head.Head.{Head}
use Rattle.deck_lines.specs.declared.statement.Statement.{Statement}
use Rattle.deck_lines.specs.Statements.{same_head}
use Rattle.deck_lines.specs.Deck.{put}
use Rattle.deck_lines.proofs.EqualHeads.{same_head-true}
use Rattle.deck_maker.specs.Order.{rank, reach}

not_true : (b : Bool) → (b ≡ true → ⊥) → b ≡ false
not_true true h = absurd (h refl)
not_true false h = refl

unlike : (g h : Head) → rank g < rank h → same_head g h ≡ false
unlike g h lt = not_true (same_head g h) (λ e. let r : rank g ≡ rank h = ap rank (same_head-true g h e) in omega (arith, r, lt))

pub put_behind : (deck : List Statement) (s : Statement) → reach deck ≤ rank s.head → put deck s ≡ deck ++ s ∷ []
put_behind [] s h = refl
put_behind (t ∷ deck) s h = rw (unlike t.head s.head (omega (arith, h))) (ap (λ (rest : List Statement). t ∷ rest) (put_behind deck s (omega (arith, h))))

pub reach_more : (deck : List Statement) (s : Statement) → reach deck ≤ rank s.head → reach (deck ++ s ∷ []) ≡ rank s.head + 1
reach_more [] s h = omega arith
reach_more (t ∷ deck) s h = omega (arith, h, reach_more deck s (omega (arith, h)))
