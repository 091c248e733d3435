use Rattle.std.proofs.Common.{map, take}
use Rattle.std.specs.List.{flat_map}
use Rattle.semantics.specs.Replies.{cell_bytes}
use Rattle.view.specs.Views.{masked_of}
use Rattle.reply.proofs.row.put_cells.Given as goal

-- the cells so far are put
abbrev pub invariant-loop-cell : goal.invariant-loop-cell
invariant-loop-cell g l = g.S.Sink.takes l.initial.to (flat_map cell_bytes (map masked_of (take l.cell-index l.row))) l.to
