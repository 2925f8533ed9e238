use Rattle.std.proofs.Common.{◌++◌, [], ◌∷◌, arith, ◌∙◌, sym}
use Rattle.std.proofs.lemmas.List.{take_all, length-append}
use Rattle.tunnel_configs.proofs.Risings.{take_whole}
use Rattle.tunnel_configs.proofs.listing.keep.Goals as goal

pub returns-then-len-eq-MAX_LISTED : goal.returns-then-len-eq-MAX_LISTED
returns-then-len-eq-MAX_LISTED c =
    take_whole 500 c.args.configs.now.items (c.args.config ∷ []) (omega (arith, c.if-len-eq-MAX_LISTED.true, c.len.ensures))

pub returns : goal.returns
returns c =
    c.in_ok-push.ensures.items ∙ sym (take_all 500 (c.args.configs.now.items ++ c.args.config ∷ [])
    (omega (arith, length-append c.args.configs.now.items (c.args.config ∷ []), c.if-len-eq-MAX_LISTED.false, c.len.ensures, c.requires)))
