use Rattle.deck_lines.specs.Deck.{body_of}
use Rattle.case_study.proofs.ListSteps.{year_list}
use Rattle.case_study.proofs.listing.list_year.Goals as goal

pub returns-in-Ok-clause-list : goal.returns-in-Ok-clause-list
returns-in-Ok-clause-list c =
    rw c.new.ensures
    (year_list (body_of c.args.typed.now) c.args.case c.args.year c.args.system.now c.args.tunnel.now c.margin-margin.result c.in-Ok.configs.items
    c.requires.system c.margin-margin.ensures.value c.requires.tunnel c.in-Ok.ensures.narrow c.in-Ok.ensures.value c.in-Ok.ensures.few)
