use Rattle.std.proofs.Common.{◌≡◌, ◌++◌, map}
use Rattle.std.specs.List.{flat_map}
use Rattle.semantics.specs.Replies.{row_bytes}
use Rattle.workspace.specs.Rows.{lent_row, rows_left}
use Rattle.reply.specs.Kinds.{kind_number}
use Rattle.reply.proofs.record.put_rows.Given as goal

-- the rows so far are put
abbrev pub invariant-loop-row : goal.invariant-loop-row
invariant-loop-row g l = record {
  put : g.S.Sink.takes l.initial.to (flat_map (row_bytes (kind_number l.kind)) (map lent_row l.yielded)) l.to;
  left : map lent_row l.yielded ++ rows_left l.row-iterator ≡ rows_left l.fn.rows;
}
