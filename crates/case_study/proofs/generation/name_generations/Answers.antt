use Rattle.std.proofs.Common.{◌≡◌, ◌∙◌, ap, ◌++◌, [], ◌∷◌, ℕ, Option, get_or}
use Rattle.std.specs.List.{filter_map}
use Rattle.checked_deck.specs.declared.names.PlantId.{PlantId}
use Rattle.deck_lines.specs.Deck.{body_of}
use Rattle.report_text.specs.declared.data.Generation.{Generation}
use Rattle.case_study.specs.Case.{generation_at, generation_of, generator_at}
use Rattle.case_study.proofs.GenerationSteps.{generation_step}
use Rattle.case_study.proofs.generation.name_generations.Goals as goal

pub loop-k-preserved : goal.loop-k-preserved
loop-k-preserved c =
    let d = body_of c.args.typed.now in
    let s = c.args.system.now in
    let k = c.loop-k.k in
    let energy = get_or c.args.energies.now k 0 in
    let same : generation_of d c.generator-id.result.0 c.generator-id.result.1 energy ≡ generation_at d s c.args.config.now c.args.energies.now k =
    ap (λ (id : PlantId). generation_of d id c.generator-id.result.1 energy) c.generator-id.ensures.id ∙ ap (λ (n : ℕ). generation_of d (generator_at s k) n energy) c.generator-id.ensures.standing in
    record {
      value = generation_step (generation_at d s c.args.config.now c.args.energies.now) k c.loop-k.generations.items c.push_generation.new.generations.items c.loop-k.invariant.value
          (c.in_ok-push_generation.ensures.pushed ∙ ap (λ (o : Option Generation). c.loop-k.generations.items ++ filter_map (λ (n : ℕ). o) (0 ∷ [])) same);
      printable = c.in_ok-push_generation.ensures.printable c.loop-k.invariant.printable;
    }
