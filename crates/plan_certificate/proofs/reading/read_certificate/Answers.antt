use Rattle.std.proofs.Common.{◌+◌, length, subst, sym}
use Rattle.plan_certificate.specs.Certificate.{CertData}
use Rattle.plan_certificate.specs.Reading.{IsSaidBy}
use Rattle.plan_certificate.proofs.Claims.{made, missing_is}
use Rattle.plan_certificate.proofs.Faults.{form_same}
use Rattle.plan_certificate.proofs.reading.read_certificate.Goals as goal

pub returns-in_default-clause-form : goal.returns-in_default-clause-form
returns-in_default-clause-form c = λ n e.
    let lines = c.args.lines.now in
    missing_is c.args.years c.args.width lines c.in_ok-reading.reading (record { form = c.in_ok-reading.ensures.form; ranges = c.requires.ranges }) c.in_ok-reading.ensures.read c.requires.first_year (sym c.in_default.ensures) n
    (sym (form_same (length lines + 1) n e))

pub new-requires : goal.new-requires
new-requires c =
    (made c.args.years c.args.width c.args.lines.now c.in_ok-reading.reading c.in_ok-gathered.gathered.years.items c.in-Some.claim (record { form = c.in_ok-reading.ensures.form; ranges = c.requires.ranges }) c.in_ok-reading.ensures.read
    (c.requires.first_year, c.requires.last_year) (c.requires.narrow, c.requires.wide) c.in_ok-gathered.ensures.years c.in_ok-gathered.ensures.names (sym c.in-Some.ensures)).valid

pub returns-clause-ok : goal.returns-clause-ok
returns-clause-ok c =
    let m = made c.args.years c.args.width c.args.lines.now c.in_ok-reading.reading c.in_ok-gathered.gathered.years.items c.in-Some.claim (record { form = c.in_ok-reading.ensures.form; ranges = c.requires.ranges }) c.in_ok-reading.ensures.read
    (c.requires.first_year, c.requires.last_year) (c.requires.narrow, c.requires.wide) c.in_ok-gathered.ensures.years c.in_ok-gathered.ensures.names (sym c.in-Some.ensures) in
    subst (λ (d : CertData). IsSaidBy c.args.years c.args.width c.args.lines.now d) (sym c.new.ensures) m.said

pub returns-clause-complete : goal.returns-clause-complete
returns-clause-complete c =
    let m = made c.args.years c.args.width c.args.lines.now c.in_ok-reading.reading c.in_ok-gathered.gathered.years.items c.in-Some.claim (record { form = c.in_ok-reading.ensures.form; ranges = c.requires.ranges }) c.in_ok-reading.ensures.read
    (c.requires.first_year, c.requires.last_year) (c.requires.narrow, c.requires.wide) c.in_ok-gathered.ensures.years c.in_ok-gathered.ensures.names (sym c.in-Some.ensures) in
    (m.said.form, m.said.complete)
