use Rattle.std.proofs.Common.{◌≡◌, ◌<◌, ◌++◌, [], ◌∷◌, List, length, arith, ◌∙◌, ap}
use Rattle.std.proofs.lemmas.List.{get_or_default}
use Rattle.cost_terms.specs.declared.entries.Scored.{Scored}
use Rattle.plan_program.specs.Plans.{entry_at, layer_at, no_entry}
use Rattle.plan_program.proofs.Best.{told_more}
use Rattle.plan_program.proofs.trace.+push_best.Goals as goal

pub returns : goal.returns
returns n c =
    let t = c.args.table.now in
    let y = c.args.year in
    let p = c.args.place in
    let layer : c.layer_of.result.now ≡ layer_at t y = c.layer_of.ensures.value in
    let within : p < length c.layer_of.result.now = omega (arith, c.requires.place, ap length layer) in
    let entry : c.index-layer_of-place.result ≡ entry_at (layer_at t y) p =
    c.index-layer_of-place.is ∙ (get_or_default c.layer_of.result.now p c.index-layer_of-place.result no_entry within ∙ ap (λ (xs : List Scored). entry_at xs p) layer) in
    let pushed : c.push-2.new.self.items ≡ c.push_best.new.configs.items ++ (entry_at (layer_at t y) p).config ∷ [] =
    c.in_ok-push-2.ensures.items ∙ ap (λ (e : Scored). c.push_best.new.configs.items ++ e.config ∷ []) entry in
    told_more t c.args.come.now y p c.find_before-before.result c.push_best.new.configs.items c.push-2.new.self.items c.layer_of.ensures.valid c.requires.come (omega (arith, c.if-year-eq0.false)) c.requires.year c.requires.place
    c.find_before-before.ensures c.in_ok-push_best.ensures pushed
