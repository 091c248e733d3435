-- The cell of a book, where it stands in its row.
use Rattle.std.proofs.Common.{◌≡◌, List, [], map, Some, None, Option, get_or, Bor, sym, refl, ap, ◌∙◌}
use Rattle.std.proofs.Math.ListN.{get_or-map}
use Rattle.std.proofs.lemmas.List.{get_or_past}
use Rattle.std.specs.Option.{unwrap_or, option_map}
use Rattle.semantics.specs.Books.{Model, rows_of}
use Rattle.semantics.specs.Views.{Place, content, row_of}
use Rattle.cells.specs.declared.cell.Cell.{Cell}
use Rattle.cells.specs.declared.cell.Cell.TheVariants.{Number}
use Rattle.cells.specs.Cells.{cell_value}
use Rattle.book.specs.Books.{RowAt}

-- a row as it is lent, or no cells where there is none
row_here : (m : Model) (p : Place) (o : Option (Bor (List Cell))) (e : Bor (List Cell)) → e.now ≡ [] → RowAt m p.table p.row o → map cell_value (unwrap_or o e).now ≡ row_of m p
row_here m p (Some cells) e n h = h.1
row_here m p None e n h = ap (map cell_value) n ∙ sym (get_or_past (rows_of m p.table) p.row [] h)

now_or : (r : Option (Bor Cell)) (z : Bor Cell) → (unwrap_or r z).now ≡ unwrap_or (option_map (λ (x : Bor Cell). x.now) r) z.now
now_or (Some x) z = refl
now_or None z = refl

-- a cell of it as it is lent, or the number 0 where there is none
pub content_here : (m : Model) (p : Place) (o : Option (Bor (List Cell))) (e row : Bor (List Cell)) (r : Option (Bor Cell)) (z cell : Bor Cell) →
    e.now ≡ [] → z.now ≡ Number 0 → RowAt m p.table p.row o → row ≡ unwrap_or o e → cell ≡ unwrap_or r z →
    ((d : Cell) → unwrap_or (option_map (λ (x : Bor Cell). x.now) r) d ≡ get_or row.now p.column d) → cell_value cell.now ≡ content m p
content_here m p o e row r z cell n k h u v found =
    ap (λ (x : Bor Cell). cell_value x.now) v
    ∙ ap cell_value (now_or r z ∙ ap (unwrap_or (option_map (λ (x : Bor Cell). x.now) r)) k ∙ found (Number 0))
    ∙ sym (get_or-map cell_value row.now p.column (Number 0))
    ∙ ap (λ cells. get_or cells p.column (cell_value (Number 0))) (ap (λ (x : Bor (List Cell)). map cell_value x.now) u ∙ row_here m p o e n h)
