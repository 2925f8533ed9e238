use Rattle.deck_lines.proofs.Placed.{decks_follow}
use Rattle.deck_lines.proofs.deck.decks_follow_scripts.Goals as goal

pub returns : goal.returns
returns c = decks_follow
