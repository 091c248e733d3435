-- How long the parts of a reply are.
use Rattle.std.proofs.Common.{◌≡◌, ℕ, ◌+◌, ◌*◌, ◌<◌, ◌≤◌, List, [], ◌∷◌, map, length, get_or, take, drop, ap, arith, length-append}
use Rattle.std.specs.List.{flat_map, range_with_len}
use Rattle.std.proofs.lemmas.List.{length-take}
use Rattle.std.proofs.lemmas.List.Folds.{flat_map-map, length-flat_map-take}
use Rattle.semantics.proofs.Drawing.{length_joined_counting}
use Rattle.semantics.specs.Replies.{cell_bytes, row_bytes}
use Rattle.cells.specs.declared.cell.Cell.TheVariants.{Number, Prefix}
use Rattle.view.specs.declared.masked.Masked.{Masked}
use Rattle.view.specs.declared.masked.Masked.TheVariants.{Value, Variable, Pseudonym}
use Rattle.view.specs.Views.{masked_of}
use Rattle.workspace.specs.declared.block.Block.{Block}
use Rattle.workspace.specs.Blocks.{row_at, block_rows}

-- the cells so far and one more are no longer than all
pub cells_fit : (row : List Masked) (i : ℕ) (x : Masked) → i < length row → x ≡ get_or row i x
    → length (flat_map cell_bytes (map masked_of (take i row))) + length (cell_bytes (masked_of x)) ≤ length (flat_map cell_bytes (map masked_of row))
cells_fit row i x h e =
    let f : Masked → List ℕ = λ c. cell_bytes (masked_of c) in
    let a = ap length (flat_map-map cell_bytes masked_of (take i row)) in
    let b = ap length (flat_map-map cell_bytes masked_of row) in
    let n = ap (λ c. length (f c)) e in
    omega (arith, length-flat_map-take f row i x h)

-- a cell takes at most 10 bytes, a row 84
cell_low : (c : Masked) → length (cell_bytes (masked_of c)) ≤ 10
cell_low (Value (Number n)) = omega arith
cell_low (Value (Prefix p)) = let t = length-take p.count p.places in omega (arith, p.short)
cell_low (Variable t r c) = omega arith
cell_low (Pseudonym d n) = omega arith

pub cells_low : (row : List Masked) → length (flat_map cell_bytes (map masked_of row)) ≤ 10 * length row
cells_low [] = omega arith
cells_low (c ∷ row) =
    let a = length-append (cell_bytes (masked_of c)) (flat_map cell_bytes (map masked_of row)) in
    omega (arith, cell_low c, cells_low row)

pub row_low : (kind : ℕ) (row : List Masked) → length row ≤ 8 → length (row_bytes kind (map masked_of row)) ≤ 84
row_low kind row h = omega (arith, cells_low row)

pub rows_low : (kind : ℕ) (work : List Masked) (b : Block) → length (flat_map (row_bytes kind) (block_rows work b)) ≤ 84 * b.count
unfolding block_rows
rows_low kind work b =
    let cells : ℕ → List Masked = λ r. take b.width (drop (8 * (b.first + r)) work) in
    let e = flat_map-map (row_bytes kind) (λ r. row_at work b.width (b.first + r)) (range_with_len 0 b.count) in
    rw e (length_joined_counting (λ r. row_bytes kind (row_at work b.width (b.first + r))) 84 0 b.count
    (λ r. row_low kind (cells r) (let t = length-take b.width (drop (8 * (b.first + r)) work) in omega (arith, b.narrow))))
