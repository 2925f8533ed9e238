use Rattle.std.proofs.Common.{◌≡◌, ◌∙◌, sym}
use Rattle.wasp4.proofs.HourTexts.{never_cut, no_command, same_points}
use Rattle.wasp4.proofs.top.run_lines.Goals as goal

pub returns-in-Some-clause-never_cut : goal.returns-in-Some-clause-never_cut
returns-in-Some-clause-never_cut g c = λ points asked has fault.
    let same : c.in-Some.points ≡ points = same_points c.points.result _ c.in-Some.points points c.in-Some.is c.points.ensures.value asked in
    never_cut points _ _ _ _ _ _ has (λ r told. g.met.K.Sink.within_room c.run_hours.new.sink r (c.run_hours.ensures.sure_room ∙ told)) (rw (fault, same) at c.run_hours.ensures.hours) (c.run_hours.ensures.write.rose fault)

pub returns-in-Some-clause-never_write_fault : goal.returns-in-Some-clause-never_write_fault
returns-in-Some-clause-never_write_fault g c = λ asked taken has fault.
    no_command c.args.words.now _ c.in-Some.points asked (sym c.points.ensures.value ∙ c.in-Some.is) taken
