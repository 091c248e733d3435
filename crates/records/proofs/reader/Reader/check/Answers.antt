use Rattle.std.proofs.Common.{rules, subst, Option}
use Rattle.semantics.specs.Bytes.{first_record}
use Rattle.records.specs.declared.first.First.{First}
use Rattle.records.specs.Firsts.{first_of, FirstIs}
use Rattle.records.proofs.Reading.{next_formed}
use Rattle.records.proofs.reader.Reader.check.Goals as goal

pub returns-in-Some : goal.returns-in-Some
returns-in-Some c =
    let n = c.args.self.now.place in
    let said = c.in-Some.ensures n in
    let whole = subst (λ (r : Option First). FirstIs r (first_record c.args.self.now.rest.now)) c.in_ok-first.ensures.ok_part c.first_record.ensures in
    (_, next_formed n c.args.self.now.rest.now (first_of c.in_ok-first.first) c.in_ok-kind.kind said.0 whole (search rules) said.1)
