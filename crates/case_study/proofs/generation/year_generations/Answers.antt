use Rattle.std.proofs.Common.{◌≡◌, ◌∙◌, ◌+◌, ap, sym, subst, [], ◌∷◌, List, length}
use Rattle.std.specs.List.{filter_map, range_with_len}
use Rattle.std.proofs.lemmas.Result.{IfOk-weaker}
use Rattle.checked_deck.specs.Systems.{system}
use Rattle.deck_lines.specs.Deck.{body_of}
use Rattle.deck_lines.specs.declared.statement.Statement.{Statement}
use Rattle.report_text.specs.declared.data.Generation.{Generation}
use Rattle.sim_engine.specs.Generation.{generations}
use Rattle.wasp_fixed.proofs.Lists.{written}
use Rattle.case_study.specs.Case.{generation_at, generations_of}
use Rattle.case_study.proofs.DetailSteps.{detailed_none, detailed_one, detailed_still}
use Rattle.case_study.proofs.GenerationSteps.{generations_are}
use Rattle.case_study.proofs.YearSteps.{number_within, year_fits, year_system_is}
use Rattle.case_study.proofs.generation.year_generations.Goals as goal

pub system-system-requires : goal.system-system-requires
system-system-requires g c =
    let s = c.args.study.now in
    record { within = number_within (body_of s.deck) c.args.shelf.now.book s.ids c.ids.result.now c.args.place c.requires.on.numbers c.requires.place c.ids.ensures.value }

pub returns-in_err-energies-clause-gone : goal.returns-in_err-energies-clause-gone
returns-in_err-energies-clause-gone g c = detailed_none (g.E.SimEngine.work c.args.engine.now ∷ [])

pub returns-in_err-ready-clause-gone : goal.returns-in_err-ready-clause-gone
returns-in_err-ready-clause-gone g c = detailed_still _ _ c.ready.ensures.work

pub detail-requires-clause-fits : goal.detail-requires-clause-fits
detail-requires-clause-fits g c =
    let s = c.args.study.now in
    year_fits (body_of s.deck) c.args.shelf.now.book s.ids c.ids.result.now c.args.place c.system-system.result.now c.args.config.now
    c.requires.on.numbers c.requires.place c.ids.ensures.value c.system-system.ensures.value c.requires.fits

pub name_generations-requires-clause-fits : goal.name_generations-requires-clause-fits
name_generations-requires-clause-fits g c =
    let s = c.args.study.now in
    year_fits (body_of s.deck) c.args.shelf.now.book s.ids c.ids.result.now c.args.place c.system-system.result.now c.args.config.now
    c.requires.on.numbers c.requires.place c.ids.ensures.value c.system-system.ensures.value c.requires.fits

pub returns-clause-value : goal.returns-clause-value
returns-clause-value g c =
    let s = c.args.study.now in
    let typed = c.typed.result.now in
    let y = c.system-system.result.now in
    let k = c.args.place in
    let counts = c.args.config.now in
    let items = c.in_ok-energies.energies.items in
    let same : length c.detail.new.energies ≡ length items = c.detail.auto.energies ∙ ap length c.as_mut_slice.ensures.value in
    let all : c.in_ok-energies.energies.len ≡ length items = sym c.as_mut_slice.ensures.len ∙ ap length c.as_mut_slice.ensures.value in
    let energies : c.deref.result.now ≡ generations y counts =
    c.deref.ensures.value ∙ written c.detail.new.energies items c.in_ok-energies.energies.len same all ∙ c.detail.ensures.generations in
    let year = year_system_is (body_of s.deck) c.args.shelf.now.book s.ids c.ids.result.now k y c.requires.on.numbers c.requires.place c.ids.ensures.value c.system-system.ensures.value in
    let of_typed : y ≡ system (body_of typed) (k + 1) = subst (λ (deck : List Statement). y ≡ system (body_of deck) (k + 1)) (sym c.typed.ensures.value) year.is in
    IfOk-weaker c.name_generations.result
    (λ (gs : List Generation). gs ≡ filter_map (generation_at (body_of typed) y counts c.deref.result.now) (range_with_len 0 (length c.deref.result.now)))
    (λ (gs : List Generation). gs ≡ generations_of (body_of s.deck) (k + 1) counts)
    (λ gs is. subst (λ (deck : List Statement). gs ≡ generations_of (body_of deck) (k + 1) counts) c.typed.ensures.value
    (generations_are (body_of typed) (k + 1) counts y c.deref.result.now gs of_typed energies is))
    c.name_generations.ensures.value

pub returns-clause-gone : goal.returns-clause-gone
returns-clause-gone g c = detailed_one _ _ _ c.ready.ensures.work c.detail.ensures.work
