use Rattle.deck_check.proofs.Searches.{table_at}
use Rattle.deck_check.proofs.search.row_at.Goals as goal

pub returns : goal.returns
returns c = λ d. table_at d c.args.place _ c.requires
