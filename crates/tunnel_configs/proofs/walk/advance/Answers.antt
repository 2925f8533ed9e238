use Rattle.std.proofs.Common.{ℕ, List, ◌+◌, ◌<◌, length, get_or, arith, ◌∙◌, ap}
use Rattle.std.proofs.lemmas.List.{get_or-set_same, get_or-set_other, length-set}
use Rattle.tunnel_configs.proofs.Boxes.{Grown, advanced, last_is}
use Rattle.tunnel_configs.proofs.walk.advance.Goals.{After-reset_from}
use Rattle.tunnel_configs.proofs.walk.advance.Goals as goal

pub returns-in_default-clause-last : goal.returns-in_default-clause-last
returns-in_default-clause-last c t = last_is c.args.tunnel.now c.args.config.now c.requires.width c.requires.within (c.last_open.ensures.none c.in_default.is)

grown : (c : After-reset_from) → Grown c.args.tunnel.now.least c.args.tunnel.now.width c.args.config.now c.reset_from.new.config c.in-Some.k
grown c =
    let xs = c.args.config.now in
    let k = c.in-Some.k in
    let ys = c.set.new.self in
    let within : k < length xs = c.in-Some.ensures.room.0 in
    record {
      long = c.reset_from.ensures.width ∙ (ap length c.set.ensures ∙ length-set xs k (c.get.result + 1));
      within = within;
      room = c.in-Some.ensures.room.1;
      full = c.in-Some.ensures.full;
      before = λ i b. c.reset_from.ensures.before i (omega (arith, b)) ∙ (ap (λ (zs : List ℕ). get_or zs i 0) c.set.ensures ∙ get_or-set_other xs k i (c.get.result + 1) 0 (omega (arith, b)));
      one = c.reset_from.ensures.before k (omega arith) ∙ (ap (λ (zs : List ℕ). get_or zs k 0) c.set.ensures ∙ (get_or-set_same xs k (c.get.result + 1) 0 within ∙ ap (λ n. n + 1) c.get.ensures.value));
      anew = λ i b. c.reset_from.ensures.after i (omega (arith, b));
    }

pub returns-clause-next : goal.returns-clause-next
returns-clause-next c t = (advanced c.args.tunnel.now c.args.config.now c.reset_from.new.config c.in-Some.k c.requires.width c.requires.within (grown c)).next

pub returns-clause-left : goal.returns-clause-left
returns-clause-left c t = (advanced c.args.tunnel.now c.args.config.now c.reset_from.new.config c.in-Some.k c.requires.width c.requires.within (grown c)).fewer
