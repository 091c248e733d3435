use Rattle.std.proofs.Common.{sym, ap, ◌∙◌}
use Rattle.reader_ffi.specs.Reader.{kind_in}
use Rattle.reader_ffi.proofs.kind.Goals as goal

pub returns-in-Ok : goal.returns-in-Ok
returns-in-Ok c =
    let h = c.in-Ok.ensures in
    c.column_kind.ensures c.args.query.now h.0 h.2 ∙ ap (λ o. kind_in o c.args.column) (sym h.1)
