-- A search among the cells of a view.
use Rattle.std.proofs.Common.{◌≡◌, ℕ, ◌+◌, ◌<◌, ◌≤◌, Option, Some, None, MatchOption, IsTrue, IfSome, IsSomeAnd, List, length, sym, refl, ap, ◌∙◌, subst, ⊎_elim, arith}
use Rattle.std.proofs.lemmas.List.{get_or_past}
use Rattle.std.proofs.lemmas.Bool.{cases_lt}
use Rattle.std.proofs.lemmas.Bool.Decides.{nat_tests}
use Rattle.std.specs.Option.{option_map}
use Rattle.std.specs.Fn.{Called}
use Rattle.std.specs.Iterator.Runs.{Run, ItemsCountUp, CallKeepsClosure, AllItemsGive, IsFirstToGive}
use denote.Param.Members.{Mut}
use Rattle.semantics.specs.declared.kind.Column.{Column}
use Rattle.semantics.specs.Books.{Model, columns_of, rows_of, column_at}
use Rattle.semantics.specs.Views.{Place, place_of}
use Rattle.book.specs.Books.{book_model}
use Rattle.drawing.specs.declared.find.Search.{Search}
use Rattle.drawing.specs.Drawing.{rows_before}
use Rattle.view.specs.Positions.{place_at}
use Rattle.drawing.specs.Searching.{Finds, InColumn, InTable, OneCell, Searched}
use Rattle.drawing.proofs.Books.{count-le, width-le, no-columns}

-- an item of a run
item : (o : Option ℕ) (x : ℕ) (P : ℕ → Type 0) → option_map (λ y. y) o ≡ Some x → IfSome o P → P x
item None x P e h = cc
item (Some y) x P e h = let s : y ≡ x = cc in subst P s h

some_item : (o : Option ℕ) (P : ℕ → Type 0) → IsSomeAnd o P → IfSome o P
some_item None P h = tt
some_item (Some y) P h = h

-- What `find_map` over the numbers from 0 to below n comes to, where `Says k` is what a call says of the number k.
abbrev pub Each : ℕ → (ℕ → Option ℕ → Type 0) → Option ℕ → Type 0
Each n Says r = MatchOption r ((k : ℕ) → k < n → Says k None) (λ y. (k : ℕ) × (k < n) × Says k (Some y))

module _ {S F : Type 0} {steps : S → Option ℕ → S → Type 0} (n : ℕ) (p : Run steps) (up : ItemsCountUp p 0 n) (g : Mut F (ℕ × Unit {0}) (Option ℕ)) (f : F) (keeps : CallKeepsClosure g f) (Says : ℕ → Option ℕ → Type 0) (says : (k : ℕ) (o : Option ℕ) → Called g f (k, tt) o f → Says k o) where
  number : (k : ℕ) → k < p.len → option_map (λ y. y) (p.at k) ≡ Some k
  number k l = up.3 k l ∙ ap Some (omega arith)

  pub each_call : (r : Option ℕ) → MatchOption r (IsTrue p.whole × AllItemsGive p g f None) (λ y. (i : ℕ) × (i < p.len) × (p.len ≡ i + 1) × IsFirstToGive p g f (Some y) None i) → Each n Says r
  each_call None h = λ k l. let e = up.1 h.0 in says k None (item (p.at k) k (λ x. Called g f (x, tt) None f) (number k (omega arith)) (h.1 keeps k))
  each_call (Some y) h =
      let e = up.0 in
      let a : h.0 < n = omega arith in
      (h.0, a, says h.0 (Some y) (item (p.at h.0) h.0 (λ x. Called g f (x, tt) (Some y) f) (number h.0 h.1) (some_item (p.at h.0) _ (h.3 keeps).0)))

-- a place is known by its table, row and column
pub same_place : (q : Place) (t r c : ℕ) → q.table ≡ t → q.row ≡ r → q.column ≡ c → place_of t r c ≡ q
same_place q t r c a b d =
    subst (λ x. place_of x r c ≡ q) a (subst (λ x. place_of q.table x c ≡ q) b (subst (λ x. place_of q.table q.row x ≡ q) d refl))

pub rows-before-le : (m : Model) (p : Place) (t c : ℕ) → length (rows_of m t) ≤ 256 → p.row < 256 → rows_before m p t c ≤ 256
rows-before-le m p t c few low = grind (arith, nat_tests)

-- a column that is of a domain is there
column-known : (cs : List Column) (c d : ℕ) → (column_at cs c).domain ≡ d → 1 ≤ d → c < length cs
column-known cs c d same some =
    ⊎_elim
    (λ (l : c < length cs). l)
    (λ (l : length cs ≤ c). let e : (column_at cs c).domain ≡ 0 = ap (λ (k : Column). k.domain) (get_or_past cs c _ l) in absurd (omega arith))
    (cases_lt c (length cs))

module _ (s : Search) where
  abbrev m : Model
  m = book_model s.book.now

  table-known : (t c : ℕ) → c < length (columns_of m t) → t < 4
  table-known t c h = ⊎_elim (λ (l : t < 4). l) (λ (l : 4 ≤ t). let e = ap length (no-columns s.book.now t l) in absurd (omega arith)) (cases_lt t 4)

  -- a column, cell by cell
  pub column-searched : (t c n : ℕ) → n ≡ rows_before m (place_at s.at) t c → (column_at (columns_of m t) c).domain ≡ s.domain → (r : Option ℕ) → Each n (λ k. Finds s (OneCell t k c)) r → Finds s (InColumn s t c) r
  column-searched t c n is same None each = λ q h.
      let w = width-le s.book.now t in
      let few = rows-before-le m (place_at s.at) t c (count-le s.book.now t) s.at.slot.low in
      let t4 = table-known t q.column h.0.1 in
      let low : q.row < n = subst (λ k. q.row < k) (sym is) (subst (λ k. q.row < rows_before m (place_at s.at) t k) h.1 h.0.2) in
      let c8 : c < 8 = (let l = h.0.1 in let e = h.1 in omega arith) in
      each q.row low q (sym (same_place q t q.row c h.0.0 refl h.1), t4, omega arith, c8)
  column-searched t c n is same (Some y) each =
      let found = each.2 in
      let low : each.0 < rows_before m (place_at s.at) t c = subst (λ k. each.0 < k) is each.1 in (
        found.0,
        subst (InColumn s t c) (sym found.1.0) ((refl, column-known (columns_of m t) c s.domain same s.some, low, same), refl),
        found.2,
        found.3,
      )

  -- a table, column by column
  pub table-searched : (t : ℕ) (r : Option ℕ) → Each (length (columns_of m t)) (λ k. Finds s (InColumn s t k)) r → Finds s (InTable s t) r
  table-searched t None each = λ q h. each q.column h.1 q (h, refl)
  table-searched t (Some y) each = (each.2.0, each.2.1.0, each.2.2, each.2.3)

  -- the tables up to that of the position, one by one
  pub all-searched : (r : Option ℕ) → Each (s.at.slot.table + 1) (λ k. Finds s (InTable s k)) r → Finds s (Searched s) r
  all-searched None each = λ q h. each q.table (let a = h.0.0 in omega arith) q (refl, h.0.1, h.0.2, h.1)
  all-searched (Some y) each =
      let found = each.2 in
      let q = found.0 in
      let in' : InTable s q.table q = subst (λ k. InTable s k q) (sym found.1.0) found.1 in
      let low : q.table ≤ s.at.slot.table = (let e = found.1.0 in let l = each.1 in omega arith) in
      (q, ((low, in'.1, in'.2), in'.3), found.2, found.3)
