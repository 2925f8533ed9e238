use Rattle.std.proofs.Common.{◌≡◌, map, take}
use Rattle.plan_certificate.specs.declared.gathered.Numbered.{Numbered}
use Rattle.plan_certificate.proofs.gathered.without_lines.Given as goal

abbrev pub invariant-loop-name : goal.invariant-loop-name
invariant-loop-name l = l.plain.items ≡ map (λ (m : Numbered). m.named) (take l.name-index l.names)
