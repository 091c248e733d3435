-- A book without the contents of its values: the calls treat it as they treat the book.
use Rattle.std.proofs.Common.{◌≡◌, ℕ, suc, ◌+◌, ◌&&◌, eqb, ltb, leb, List, [], ◌∷◌, ◌++◌, map, length, get_or, take, drop, set, sym, refl, ap, ◌∙◌, ap₂}
use lib.ListN.{get_or-map}
use Rattle.std.specs.List.{remove}
use Rattle.std.proofs.lemmas.List.{length-map, map-append, map_push, map-set, take-map, drop-map}
use Rattle.semantics.specs.declared.kind.Column.{Column}
use Rattle.semantics.specs.declared.refusal.Refusal.TheVariants.{NoTable, NoRow, NoColumn, WrongWidth, WrongKind, TableFull}
use Rattle.semantics.specs.Books.{Model, columns_of, rows_of, with_rows, column_at, fitting, may_store, may_strike, may_amend}
use Rattle.semantics.specs.Drafts.{is_table}
use Rattle.semantics.specs.Kinds.{same_kind}
use Rattle.semantics.specs.Outcomes.{Outcome, done, refused, question, and_then}
use Rattle.semantics.specs.Runs.{Call, storing, striking, amending, asking, carried_out, left, after, without_content, without_secrets}
use Rattle.semantics.specs.Values.{Value, number, prefix, kind_of}

abbrev pub bare_rows : List (List Value) → List (List Value)
bare_rows rows = map (map without_content) rows

abbrev pub bare : Model → Model
bare m = record { columns = m.columns; tables = map bare_rows m.tables; limit = m.limit }

-- the kinds stay
bare-kind : (v : Value) → kind_of (without_content v) ≡ kind_of v
bare-kind (number n) = refl
bare-kind (prefix ds) = refl

bare-fitting : (i : ℕ) (cs : List Column) (row : List Value) → fitting i cs (map without_content row) ≡ fitting i cs row
bare-fitting i [] row = refl
bare-fitting i (c ∷ cs) [] = refl
bare-fitting i (c ∷ cs) (v ∷ row) = λ x. question (same_kind c.kind (bare-kind v x)) (WrongKind i) (bare-fitting (i + 1) cs row x)

map_removed : {X Y : Type 0} (f : X → Y) (xs : List X) (i : ℕ) → remove (map f xs) i ≡ map f (remove xs i)
map_removed f xs i =
    ap₂ (λ front back. front ++ back) (take-map f i xs) (drop-map f (suc i) xs)
    ∙ sym (map-append f (take i xs) (drop (suc i) xs))

-- an outcome with the book it makes changed
abbrev pub on_done : {X Y : Type 0} → (X → Y) → Outcome X → Outcome Y
on_done f (refused n p) = refused n p
on_done f (done x) = done (f x)

on_then : {X Y : Type 0} (f : X → Y) (o : Outcome (Unit {0})) (x : X) → on_done f (and_then o (λ _. done x)) ≡ and_then o (λ _. done (f x))
on_then f (refused n p) x = refl
on_then f (done u) x = refl

module _ (m : Model) (t : ℕ) where
  bare_rows_lem : rows_of (bare m) t ≡ bare_rows (rows_of m t)
  bare_rows_lem = get_or-map bare_rows m.tables t []

  bare-count : length (rows_of (bare m) t) ≡ length (rows_of m t)
  bare-count = ap length bare_rows_lem ∙ length-map (rows_of m t) (map without_content)

  bare_with : (rows : List (List Value)) → bare (with_rows m t rows) ≡ with_rows (bare m) t (bare_rows rows)
  bare_with rows = λ x. record { columns = m.columns; tables = map-set bare_rows m.tables t rows x; limit = m.limit }

  -- the same questions, and rows that are the same but for contents
  bare-change : (o u : Outcome (Unit {0})) (rows new : List (List Value)) → o ≡ u → rows ≡ bare_rows new
      → and_then o (λ _. done (with_rows (bare m) t rows)) ≡ on_done bare (and_then u (λ _. done (with_rows m t new)))
  bare-change o u rows new e f =
      ap₂ (λ w l. and_then w (λ _. done (with_rows (bare m) t l))) e f
      ∙ ap (λ n. and_then u (λ _. done n)) (sym (bare_with new))
      ∙ sym (on_then bare u (with_rows m t new))

  may_store_lem : (row : List Value) → may_store (bare m) t (map without_content row) ≡ may_store m t row
  may_store_lem row = λ x.
      question (is_table t) NoTable
      (question (eqb (length-map row without_content x) (length (columns_of m t)) && leb 1 (length-map row without_content x)) WrongWidth
      (and_then (bare-fitting 0 (columns_of m t) row x) (λ _.
      (question (ltb (bare-count x) m.limit) TableFull
      (done tt)))))

  may_strike_lem : (r : ℕ) → may_strike (bare m) t r ≡ may_strike m t r
  may_strike_lem r = λ x. question (is_table t) NoTable (question (ltb r (bare-count x)) NoRow (done tt))

  may_amend_lem : (r c : ℕ) (v : Value) → may_amend (bare m) t r c (without_content v) ≡ may_amend m t r c v
  may_amend_lem r c v = λ x.
      question (is_table t) NoTable
      (question (ltb r (bare-count x)) NoRow
      (question (ltb c (length (columns_of m t))) NoColumn
      (question (same_kind (column_at (columns_of m t) c).kind (bare-kind v x)) (WrongKind 0)
      (done tt))))

  rows-stored : (row : List Value) → rows_of (bare m) t ++ map without_content row ∷ [] ≡ bare_rows (rows_of m t ++ row ∷ [])
  rows-stored row = ap (λ rows. rows ++ map without_content row ∷ []) bare_rows_lem ∙ sym (map_push (map without_content) (rows_of m t) row)

  rows-struck : (r : ℕ) → remove (rows_of (bare m) t) r ≡ bare_rows (remove (rows_of m t) r)
  rows-struck r = ap (λ rows. remove rows r) bare_rows_lem ∙ map_removed (map without_content) (rows_of m t) r

  rows-amended : (r c : ℕ) (v : Value)
      → set (rows_of (bare m) t) r (set (get_or (rows_of (bare m) t) r []) c (without_content v)) ≡ bare_rows (set (rows_of m t) r (set (get_or (rows_of m t) r []) c v))
  rows-amended r c v =
      ap (λ rows. set rows r (set (get_or rows r []) c (without_content v))) bare_rows_lem
      ∙ ap (λ row. set (bare_rows (rows_of m t)) r (set row c (without_content v))) (get_or-map (map without_content) (rows_of m t) r [])
      ∙ ap (set (bare_rows (rows_of m t)) r) (sym (map-set without_content (get_or (rows_of m t) r []) c v))
      ∙ sym (map-set (map without_content) (rows_of m t) r (set (get_or (rows_of m t) r []) c v))

-- A call without contents makes of the bare book what the call makes of the book, without contents.
pub bare-call : (m : Model) (call : Call) → carried_out (bare m) (without_secrets call) ≡ on_done bare (carried_out m call)
bare-call m (storing t row) =
    bare-change m t (may_store (bare m) t (map without_content row)) (may_store m t row) (rows_of (bare m) t ++ map without_content row ∷ []) (rows_of m t ++ row ∷ [])
    (may_store_lem m t row) (rows-stored m t row)
bare-call m (striking t r) =
    bare-change m t (may_strike (bare m) t r) (may_strike m t r) (remove (rows_of (bare m) t) r) (remove (rows_of m t) r)
    (may_strike_lem m t r) (rows-struck m t r)
bare-call m (amending t r c v) =
    bare-change m t (may_amend (bare m) t r c (without_content v)) (may_amend m t r c v)
    (set (rows_of (bare m) t) r (set (get_or (rows_of (bare m) t) r []) c (without_content v))) (set (rows_of m t) r (set (get_or (rows_of m t) r []) c v))
    (may_amend_lem m t r c v) (rows-amended m t r c v)
bare-call m (asking broker query work_length reply_length) = refl

bare-left : (m : Model) (o : Outcome Model) → bare (left m o) ≡ left (bare m) (on_done bare o)
bare-left m (refused n p) = refl
bare-left m (done new) = refl

pub bare-after : (m : Model) (call : Call) → bare (after m call) ≡ after (bare m) (without_secrets call)
bare-after m call = bare-left m (carried_out m call) ∙ ap (left (bare m)) (sym (bare-call m call))
