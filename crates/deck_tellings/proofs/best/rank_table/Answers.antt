use Rattle.std.proofs.Common.{◌≡◌, ◌≤◌, length, arith}
use Rattle.std.proofs.lemmas.Result.{on_ok_weaker}
use Rattle.deck_lines.specs.Deck.{body_of}
use Rattle.deck_tellings.proofs.RankSteps.{no_plan_told, plans_told}
use Rattle.deck_tellings.proofs.best.rank_table.Goals as goal

pub returns-then-len-eq0-clause-told : goal.returns-then-len-eq0-clause-told
returns-then-len-eq0-clause-told c =
    let one = c.args.asked.now in
    let none : length c.in_ok-ranking.ranking.items ≡ 0 = omega (arith, c.if-len-eq0.true, c.len.ensures) in
    on_ok_weaker c.write_no_plan.result
    (λ text. no_plan_told (body_of one.typed.now) one.plans one.case c.args.table.now c.in_ok-solved.solved.outcome c.in_ok-ranking.ranking.items c.args.text.now c.write_no_plan.new.text
    c.requires.table c.in_ok-ranking.ensures.ranking c.in_ok-solved.ensures.outcome none text)
    c.write_no_plan.ensures.appended

pub returns-clause-told : goal.returns-clause-told
returns-clause-told c =
    let one = c.args.asked.now in
    let some : 1 ≤ length c.in_ok-ranking.ranking.items = omega (arith, c.if-len-eq0.false, c.len.ensures) in
    on_ok_weaker c.write_ranking.result
    (λ text. plans_told (body_of one.typed.now) one.plans one.case c.args.table.now c.in_ok-ranking.ranking.items c.args.text.now c.write_ranking.new.text
    c.requires.table c.in_ok-ranking.ensures.ranking c.in_ok-ranking.ensures.first some text)
    (rw c.deref.ensures.value at c.write_ranking.ensures.appended)
