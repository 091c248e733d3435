-- The columns that a structure stands for, table by table.
use Rattle.std.proofs.Common.{◌≡◌, ℕ, zero, suc, ◌<◌, ◌≤◌, List, [], ◌∷◌, ◌++◌, length, get_or, set, sym, ap, ◌∙◌, arith}
use Rattle.std.proofs.lemmas.List.{get_or-map, length-take, map-set}
use Rattle.semantics.specs.declared.kind.Column.{Column}
use Rattle.semantics.specs.Drafts.{added}
use Rattle.bounded.specs.declared.bounded.Bounded.{Bounded}
use Rattle.bounded.specs.Bounded.{items}
use Rattle.book.specs.Columns.{columns_in}

-- no table is wider than 8
pub width-le : (ts : List (Bounded Column 8)) (t : ℕ) → length (get_or (columns_in ts) t []) ≤ 8
width-le [] t = omega arith
width-le (c ∷ cs) zero = let s = c.within in simp length-take (omega arith)
width-le (c ∷ cs) (suc t) = width-le cs t

-- a table that there is; `z` is any default
pub columns-at : (ts : List (Bounded Column 8)) (t : ℕ) (z : Bounded Column 8) → t < length ts → get_or (columns_in ts) t [] ≡ items (get_or ts t z)
columns-at ts t z in' = get_or-map items ts t z [] in'

-- the columns after a declaration
pub declared-is : (ts : List (Bounded Column 8)) (t : ℕ) (z new : Bounded Column 8) (n : Column) → t < length ts → items new ≡ items (get_or ts t z) ++ n ∷ [] → columns_in (set ts t new) ≡ added (columns_in ts) t n
declared-is ts t z new n in' is = map-set items ts t new ∙ ap (set (columns_in ts) t) (is ∙ ap (λ cs. cs ++ n ∷ []) (sym (columns-at ts t z in')))
