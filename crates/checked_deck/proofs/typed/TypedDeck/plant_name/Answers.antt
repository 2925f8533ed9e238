use Rattle.std.proofs.Common.{subst}
use Rattle.deck_lines.specs.declared.head.Head.{Head}
use Rattle.deck_lines.specs.Statements.{IsStatement}
use Rattle.checked_deck.proofs.Sound.{name_is}
use Rattle.checked_deck.proofs.typed.TypedDeck.plant_name.Goals as goal

pub new-requires : goal.new-requires
new-requires c =
    let body = c.in-Some.body.now in
    let P : Head → Type 0 = λ h. IsStatement (record { head = h; body = body }) in
    rw c.name.ensures.name (name_is c.args.id body (subst P c.head.ensures c.in-Some.ensures.in_form))
