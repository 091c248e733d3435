use Rattle.std.proofs.Common.{◌≡◌, map, take}
use Rattle.std.specs.List.{flat_map}
use Rattle.semantics.specs.Conditions.{term_bytes}
use Rattle.records.specs.Terms.{term_of}
use Rattle.writing.proofs.builder.Query.select.Given as goal

abbrev pub invariant-loop-term : goal.invariant-loop-term
invariant-loop-term l = l.body.items ≡ flat_map term_bytes (map term_of (take l.term-index l.conditions))
