use Rattle.wasp4.proofs.HourTexts.{says_fault, says_shape}
use Rattle.wasp4.proofs.hours.answer_loads.Goals as goal

pub returns-in_ok-write_hourly-in-Loads-clause-said : goal.returns-in_ok-write_hourly-in-Loads-clause-said
returns-in_ok-write_hourly-in-Loads-clause-said g c =
    let is = rw c.in-Loads.is at c.in_ok-loads.ensures.hours in
    let hourly = rw c.as_slice.ensures.value at c.in_ok-hourly-in-Loads.ensures.value in
    says_shape c.args.points _ c.in-Loads.loads.items c.args.text.now.items _ c.in_ok-hourly-in-Loads.hourly is hourly c.requires.clear c.in_ok-write_hourly-in-Loads.ensures.appended

pub returns-in_ok-write_malformed-in-Malformed-clause-said : goal.returns-in_ok-write_malformed-in-Malformed-clause-said
returns-in_ok-write_malformed-in-Malformed-clause-said g c =
    let is = rw c.in-Malformed.is at c.in_ok-loads.ensures.hours in
    says_fault c.args.points _ c.in-Malformed.number c.in-Malformed.fault c.args.text.now.items _ is c.requires.clear c.in_ok-write_malformed-in-Malformed.ensures.appended
