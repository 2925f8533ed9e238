use Rattle.std.proofs.Common.{◌≡◌, ℕ, [], ◌∷◌, ◌++◌, ap, subst}
use Rattle.deck_lines.specs.declared.head.Head.TheVariants as heads
use Rattle.deck_maker.specs.Stream.{Place}
use Rattle.deck_maker.specs.TrialDeck.{named, unnamed, water}
use Rattle.deck_maker.proofs.Growing.{four_more}
use Rattle.deck_maker.proofs.making.add_river.Goals as goal

pub returns-clause-added : goal.returns-clause-added
returns-clause-added c =
    let last = subst (λ (x : ℕ). c.add_water-2.new.deck ≡ c.add_water.new.deck ++ water x c.args.candidates 2 ∷ []) (ap (λ (p : Place). p.seed) c.add_water.ensures.stream) c.in_ok-add_water-2.ensures.added in
    four_more
    (named (heads.Hydro 1) (72 ∷ 89 ∷ 68 ∷ []) (1 ∷ 0 ∷ 50 ∷ []))
    (unnamed (heads.Project 1 1) (40 ∷ 0 ∷ 0 ∷ 50 ∷ []))
    (water c.args.stream.now.seed c.args.candidates 1)
    (water c.args.stream.now.seed c.args.candidates 2)
    c.args.deck.now c.add_named.new.deck c.add.new.deck c.add_water.new.deck c.add_water-2.new.deck
    c.in_ok-add_named.ensures.added c.in_ok-add.ensures.added c.in_ok-add_water.ensures.added last
