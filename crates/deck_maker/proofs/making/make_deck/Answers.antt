use Rattle.std.proofs.Common.{ap, ◌∙◌}
use Rattle.deck_maker.specs.Stream.{Place}
use Rattle.deck_maker.proofs.Growing.{whole}
use Rattle.deck_maker.proofs.making.make_deck.Goals as goal

pub returns : goal.returns
returns c =
    let s1 = ap (λ (p : Place). p.seed) c.new-stream.ensures in
    let s2 = ap (λ (p : Place). p.seed) c.add_fuels.ensures.stream ∙ s1 in
    let s3 = ap (λ (p : Place). p.seed) c.in_ok-add_plants.ensures.stream ∙ s2 in
    let s4 = ap (λ (p : Place). p.seed) c.in_ok-add_candidates.ensures.stream ∙ s3 in
    let s5 = ap (λ (p : Place). p.seed) c.in_ok-add_river.ensures.stream ∙ s4 in
    whole c.args.seed c.args.years c.args.candidates _ _ _ _ _ _ _ _ _ _ _ _ _ s1 s2 s3 s4 s5
    c.in_ok-deck.ensures.value c.in_ok-add_fuels.ensures.added c.in_ok-add_plants.ensures.added c.in_ok-add_candidates.ensures.added c.in_ok-add_river.ensures.added
    c.in_ok-add_loads.ensures.added c.in_ok-add_limits.ensures.added c.in_ok-add_tunnels.ensures.added
