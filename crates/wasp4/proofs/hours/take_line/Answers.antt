use Rattle.std.proofs.Common.{◌≡◌, ◌∙◌, sym, ap, List, ℕ, ◌+◌, Ok, Err}
use Rattle.hourly_load.specs.declared.line.LoadLine.TheVariants as lines
use Rattle.wasp4.specs.Hours.{loads_behind, stated_behind}
use Rattle.wasp4.proofs.HourSteps.{line_here}
use Rattle.wasp4.proofs.hours.take_line.Goals as goal

pub returns-in-Blank-clause-turn : goal.returns-in-Blank-clause-turn
returns-in-Blank-clause-turn c =
    let is : stated_behind c.args.loads.now.items c.args.bytes.now ≡ Ok lines.Blank = rw (c.in-Blank.is, c.deref.ensures.value) at c.in-Ok.ensures.exact in
    line_here c.args.before c.args.loads.now.items c.args.bytes.now (Ok lines.Blank) c.requires.last is

pub returns-in_ok-push-in-Load-clause-turn : goal.returns-in_ok-push-in-Load-clause-turn
returns-in_ok-push-in-Load-clause-turn c =
    let is : stated_behind c.args.loads.now.items c.args.bytes.now ≡ Ok (lines.Load c.in-Load.load) = rw (c.in-Load.is, c.deref.ensures.value) at c.in-Ok.ensures.exact in
    λ more. line_here c.args.before c.args.loads.now.items c.args.bytes.now (Ok (lines.Load c.in-Load.load)) c.requires.last is more
    ∙ ap (λ (ls : List ℕ). loads_behind (c.args.before + 1) ls more) (sym c.in_ok-push-in-Load.ensures.items)

pub returns-in-End-clause-turn : goal.returns-in-End-clause-turn
returns-in-End-clause-turn c =
    let is : stated_behind c.args.loads.now.items c.args.bytes.now ≡ Ok lines.End = rw (c.in-End.is, c.deref.ensures.value) at c.in-Ok.ensures.exact in
    line_here c.args.before c.args.loads.now.items c.args.bytes.now (Ok lines.End) c.requires.last is

pub returns-in-Err-Fault-clause-turn : goal.returns-in-Err-Fault-clause-turn
returns-in-Err-Fault-clause-turn c =
    let is : stated_behind c.args.loads.now.items c.args.bytes.now ≡ Err c.in-Err-Fault.fault = rw (c.in-Err-Fault.field-0-is, c.deref.ensures.value) at c.in-Err-Fault.ensures.exact in
    line_here c.args.before c.args.loads.now.items c.args.bytes.now (Err c.in-Err-Fault.fault) c.requires.last is
