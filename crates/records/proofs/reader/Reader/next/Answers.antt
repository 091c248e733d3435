use Rattle.std.proofs.Common.{refl}
use Rattle.semantics.specs.declared.refusal.Refusal.TheVariants.{BrokenRecord, UnknownRecord, WrongForm}
use Rattle.records.specs.Firsts.{first_of}
use Rattle.records.proofs.Reading.{next_cut, next_unknown, next_unformed, next_formed, kind_got}
use Rattle.records.proofs.reader.Reader.next.Goals as goal

pub returns-in_err-first : goal.returns-in_err-first
returns-in_err-first c = rw c.from_residual.ensures (BrokenRecord c.args.self.place, next_cut c.args.self.place c.args.self.rest.now c.in_err-first.ensures)

pub returns-in_err-kind : goal.returns-in_err-kind
returns-in_err-kind c =
    rw c.from_residual-in_err-kind.ensures
    (UnknownRecord c.args.self.place, next_unknown c.args.self.place c.args.self.rest.now (first_of c.in_ok-first.first) c.try_from.result c.in_ok-first.ensures c.try_from.ensures c.in_err-kind.ensures.value)

pub returns-in_err-record : goal.returns-in_err-record
returns-in_err-record c =
    let kind = kind_got c.in_ok-first.first.kind c.try_from.result c.in_ok-kind.kind c.try_from.ensures c.in_ok-kind.ensures.value in
    rw c.from_residual-in_err-record.ensures
    (WrongForm c.args.self.place, next_unformed c.args.self.place c.args.self.rest.now (first_of c.in_ok-first.first) c.in_ok-kind.kind c.in_ok-first.ensures kind (c.in_err-record.ensures c.args.self.place))

pub returns : goal.returns
returns c =
    let n = c.args.self.place in
    let said = c.in_ok-record.ensures n in
    let kind = kind_got c.in_ok-first.first.kind c.try_from.result c.in_ok-kind.kind c.try_from.ensures c.in_ok-kind.ensures.value in
    (_, next_formed n c.args.self.rest.now (first_of c.in_ok-first.first) c.in_ok-kind.kind said.0 c.in_ok-first.ensures kind said.1, (said.2, refl))
