use Rattle.std.proofs.Common.{◌≡◌, ◌<◌, List, ℕ, length, get_or, arith, ◌∙◌, sym, ap, Option, None}
use Rattle.std.proofs.lemmas.List.{get_or_default}
use Rattle.cost_terms.specs.declared.entries.Scored.{Scored}
use Rattle.plan_program.specs.Plans.{entry_at, layer_at, no_entry}
use Rattle.plan_program.proofs.Best.{Reads, before_there, lead_there}
use Rattle.plan_program.proofs.trace.find_before.Goals.{After-economy}
use Rattle.plan_program.proofs.trace.find_before.Goals as goal

reads : (c : After-economy) → Reads c.args.table.now c.args.come.now c.args.year c.args.place c.economy.result.now c.index-layer_of-place.result c.layer_of-layer.result.now c.costs_of-before.result.now c.in-Some.cost
reads c =
    let layer : c.layer_of.result.now ≡ layer_at c.args.table.now c.args.year = c.layer_of.ensures.value in
    let within : c.args.place < length c.layer_of.result.now = omega (arith, c.requires.place, ap length layer) in
    record {
      some_year = c.requires.some_year;
      year = c.requires.year;
      place = c.requires.place;
      economy = c.economy.ensures.value;
      layer = c.layer_of-layer.ensures.value;
      before = c.costs_of-before.ensures;
      entry = c.index-layer_of-place.is ∙ (get_or_default c.layer_of.result.now c.args.place c.index-layer_of-place.result no_entry within ∙ ap (λ (xs : List Scored). entry_at xs c.args.place) layer);
      has = sym (ap (λ (xs : List (Option ℕ)). get_or xs c.args.place None) c.costs_of.ensures) ∙ c.in-Some.is;
    }

pub predecessor-requires-clause-some : goal.predecessor-requires-clause-some
predecessor-requires-clause-some c =
    lead_there c.args.table.now c.args.come.now c.args.year c.args.place c.economy.result.now c.index-layer_of-place.result c.layer_of-layer.result.now c.costs_of-before.result.now c.in-Some.cost c.requires.come (reads c)

pub returns : goal.returns
returns c =
    before_there c.args.table.now c.args.come.now c.args.year c.args.place c.economy.result.now c.index-layer_of-place.result c.layer_of-layer.result.now c.costs_of-before.result.now c.in-Some.cost c.predecessor.result
    (reads c.before) c.predecessor.ensures.within c.predecessor.ensures.leads c.predecessor.ensures.first
