-- The value of a cell as it is kept.
use Rattle.cells.specs.declared.cell.Cell.{Cell}
use Rattle.cells.specs.declared.cell.Cell.TheVariants.{Number, Prefix}
use Rattle.cells.specs.Prefixes.{digits_of}
use Rattle.semantics.specs.Values.{Value, number, prefix}

abbrev pub cell_value : Cell → Value
cell_value (Number n) = number n
cell_value (Prefix p) = prefix (digits_of p)
