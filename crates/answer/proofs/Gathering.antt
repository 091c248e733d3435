-- The loop that goes over some rows and puts each into an output, unless it is there.
use Rattle.std.proofs.Common.{◌≡◌, ℕ, ◌+◌, ◌<◌, ◌≤◌, List, [], ◌∷◌, ◌++◌, map, length, get_or, take, drop, Some, None, Option, sym, ap, ◌∙◌, subst, arith}
use Rattle.std.specs.Borrow.{Bor}
use Rattle.std.specs.Option.{unwrap_or}
use Rattle.std.proofs.lemmas.List.{append_assoc, take_all, length-map, get_or-map}
use Rattle.book.proofs.Tabled.{length_tabled, slice_index_or_tabled}
use Rattle.semantics.specs.Answers.{without_repeats, picked}
use Rattle.semantics.specs.Views as semantics
use Rattle.view.specs.declared.masked.Masked.{Masked}
use Rattle.view.specs.declared.view.View.{View}
use Rattle.view.specs.Views.{masked_of, masked_at, row_in, table_in, view_tables, count_in, width_in, RowSeen}
use Rattle.view.proofs.Memory.{row-known, width-le}
use Rattle.workspace.specs.declared.block.Block.{Block}
use Rattle.workspace.specs.Blocks.{block_rows}
use Rattle.workspace.proofs.Reading.{length_rows, rows_none}
use Rattle.answer.specs.declared.row.Row.{Row}
use Rattle.answer.specs.declared.output.Output.{Output}
use Rattle.answer.specs.Regions.{Untouched, Wrote, Makes, InRegion, inserted}
use Rattle.answer.specs.Rows.{carried}
use Rattle.answer.specs.Outputs.{Same, Beside, Fills, Lists, output_rows}
use Rattle.answer.proofs.Filtering.{rows_still}
use Rattle.answer.proofs.Loops.{wrote-after, untouched-after, without-longer, inserts_more, inserts_full, seen_more, seen-rest}

abbrev Rows : Type 0
Rows = List (List semantics.Masked)

-- a row of a view is as wide as its table
pub row_of_table : (v : View) (t r : ℕ) (xs : List Masked) → r < length (get_or (view_tables v) t []) → map masked_of xs ≡ get_or (get_or (view_tables v) t []) r [] → length xs ≡ width_in v t
row_of_table v t r xs h is =
    let w = width_in v t in
    let n = count_in v t in
    let k = row-known v.cells v.sizes t r h in
    let e = slice_index_or_tabled (λ t. table_in v.cells t (width_in v t) (count_in v t)) 4 t [] k.0 in
    let f = slice_index_or_tabled (row_in v.cells t w) n r [] k.1 in
    let l = ap length (is ∙ ap (λ rows. get_or rows r []) e ∙ f) in
    sym (length-map xs masked_of) ∙ l ∙ length_tabled (λ c. masked_of (masked_at v.cells t r c)) w

-- what is copied of it
pub seen_or : (v : View) (t r : ℕ) (seen : Option (Bor (List Masked))) (none x : Bor (List Masked)) → none.now ≡ [] → x ≡ unwrap_or seen none → RowSeen (view_tables v) t r seen
    → (length x.now ≤ 8) × (r < length (get_or (view_tables v) t []) → (map masked_of x.now ≡ get_or (get_or (view_tables v) t []) r []) × (length x.now ≡ width_in v t))
seen_or v t r None none x e is s = let l = ap length (ap (λ (y : Bor (List Masked)). y.now) is ∙ e) in (omega arith, λ h. absurd (omega (arith, s)))
seen_or v t r (Some cells) none x e is s =
    let m = ap (λ (y : Bor (List Masked)). map masked_of y.now) is ∙ s.1 in
    let w = row_of_table v t r x.now s.0 m in
    (omega (arith, width-le v t), λ h. (m, w))

module _ (limit first width : ℕ) (old mid : List Masked) (to : Block) (given src : Rows) where
  module _ (i : ℕ) (before : Makes limit first width (without_repeats (given ++ take i src)) old mid (Some to)) where
    pub gathered-all : length src ≤ i → Makes limit first width (without_repeats (given ++ src)) old mid (Some to)
    gathered-all h = (before.0, before.1 ∙ ap (λ rows. without_repeats (given ++ rows)) (take_all i src h))

    -- one row more, or too many
    module _ (new : List Masked) (x : List semantics.Masked) (h : i < length src) (is : x ≡ get_or src i []) where
      pub gathered-more : (b : Block) → Makes limit to.first to.width (inserted (block_rows mid to) x) mid new (Some b) → Makes limit first width (without_repeats (given ++ take (i + 1) src)) old new (Some b)
      gathered-more b m =
          let n = inserts_more limit first width old mid new to (given ++ take i src) x before b m in
          (n.0, n.1 ∙ ap without_repeats (append_assoc given (take i src) (x ∷ []) ∙ ap (λ rows. given ++ rows) (sym (seen_more src i x h is))))

      pub gathered-full : Makes limit to.first to.width (inserted (block_rows mid to) x) mid new None → Makes limit first width (without_repeats (given ++ src)) old new None
      gathered-full m =
          let e = append_assoc given (take i src) (x ∷ []) in
          let f = append_assoc given (take i src ++ x ∷ []) (drop (i + 1) src) in
          let g = seen-rest src i x h is in
          inserts_full limit first width old mid new to (given ++ take i src) x before (drop (i + 1) src) (given ++ src) (cc) m

-- The loop of an output.
module _ (finds : Bor (List Masked) → ℕ → Row → Type 0) (start : Output) (count : ℕ) where
  -- The rows before number `i` stand in the output, without repeats.
  pub record Gathering (output : Output) (i : ℕ) : Type 0 where
    pub same : Same start output
    pub wrote : Wrote start.limit start.rows.first start.rows.width start.work.now output.work.now output.rows
    pub holds : (given src : Rows) → output_rows start ≡ without_repeats given → length src ≡ count → Lists finds start src → output_rows output ≡ without_repeats (given ++ take i src)

  module _ (output : Output) (i : ℕ) (inv : Gathering output i) where
    pub gathering_all : count ≤ i → (given src : Rows) → output_rows start ≡ without_repeats given → length src ≡ count → Lists finds start src → Fills (without_repeats (given ++ src)) start output (Some tt)
    gathering_all h given src e l lists =
        gathered-all start.limit start.rows.first start.rows.width start.work.now output.work.now output.rows given src i (inv.wrote, inv.holds given src e l lists) (omega arith)

    module _ (h : i < count) (cells : Bor (List Masked)) (here : cells.now ≡ output.work.now) (row : Row) (found : finds cells i row) (x : List semantics.Masked) (is : x ≡ carried row) (new : Output) where
      beyond : Untouched start.rows.first start.limit start.work.now cells.now
      beyond = subst (λ w. Untouched start.rows.first start.limit start.work.now w) (sym here) inv.wrote.untouched

      pub gathering_more : (done : Unit {0}) → Same output new → Fills (inserted (output_rows output) x) output new (Some done) → Gathering new (i + 1)
      gathering_more done same fills =
          let m : Makes start.limit output.rows.first output.rows.width (inserted (output_rows output) x) output.work.now new.work.now (Some new.rows)
          = subst (λ n. Makes n output.rows.first output.rows.width (inserted (output_rows output) x) output.work.now new.work.now (Some new.rows)) inv.same.limit_kept fills in
          record {
            same = record { limit_kept = same.limit_kept ∙ inv.same.limit_kept; long = same.long ∙ inv.same.long };
            wrote = wrote-after start.limit start.rows.first start.rows.width start.work.now output.work.now new.work.now output.rows inv.wrote new.rows m.0;
            holds = λ given src e l lists.
                (gathered-more start.limit start.rows.first start.rows.width start.work.now output.work.now output.rows given src i (inv.wrote, inv.holds given src e l lists) new.work.now x (omega arith)
                (is ∙ lists cells i row beyond (omega arith) found) new.rows m).1;
          }

      pub gathering_full : Fills (inserted (output_rows output) x) output new None → (given src : Rows) → output_rows start ≡ without_repeats given → length src ≡ count → Lists finds start src
          → Fills (without_repeats (given ++ src)) start new None
      gathering_full fills given src e l lists =
          let m : Makes start.limit output.rows.first output.rows.width (inserted (output_rows output) x) output.work.now new.work.now None
          = subst (λ n. Makes n output.rows.first output.rows.width (inserted (output_rows output) x) output.work.now new.work.now None) inv.same.limit_kept fills in
          gathered-full start.limit start.rows.first start.rows.width start.work.now output.work.now output.rows given src i (inv.wrote, inv.holds given src e l lists) new.work.now x (omega arith)
          (is ∙ lists cells i row beyond (omega arith) found) m

-- Two sources, one after the other.
pub gathered_early : (limit first width : ℕ) (old new : List Masked) (xs ys : Rows) → Makes limit first width (without_repeats xs) old new None → Makes limit first width (without_repeats (xs ++ ys)) old new None
gathered_early limit first width old new xs ys m = let l = without-longer xs ys in (omega (arith, m.0), m.1)

-- What an output is filled with once it has begun anew, or was filled with before.
pub makes_after : {start mid : Output} {w : ℕ} → Same start mid → Wrote start.limit start.rows.first w start.work.now mid.work.now mid.rows → (new : List Masked) (rows : Rows) (r : Option Block)
    → Makes mid.limit mid.rows.first mid.rows.width rows mid.work.now new r → Makes start.limit start.rows.first w rows start.work.now new r
makes_after {start} {mid} {w} same wrote new rows (Some b) m =
    let p = subst (λ n. Makes n mid.rows.first mid.rows.width rows mid.work.now new (Some b)) same.limit_kept m in
    (wrote-after start.limit start.rows.first w start.work.now mid.work.now new mid.rows wrote b p.0, p.1)
makes_after {start} {mid} {w} same wrote new rows None m =
    let p = subst (λ n. Makes n mid.rows.first mid.rows.width rows mid.work.now new None) same.limit_kept m in
    (p.0, untouched-after start.limit start.rows.first w start.work.now mid.work.now new mid.rows wrote p.1)

pub same_after : {start mid new : Output} → Same start mid → Same mid new → Same start new
same_after same more = record { limit_kept = more.limit_kept ∙ same.limit_kept; long = more.long ∙ same.long }

-- some columns of a row of a block
pub picked_at : {rows there : Rows} → there ≡ rows → (columns : List ℕ) (i : ℕ) → i < length (map (picked columns) rows) → picked columns (get_or there i []) ≡ get_or (map (picked columns) rows) i []
picked_at {rows} {there} e columns i h =
    let m = length-map rows (picked columns) in
    ap (λ l. picked columns (get_or l i [])) e ∙ sym (get_or-map (picked columns) rows i [] [] (omega arith))

-- what is made stands in its region
pub makes_within : (limit first w : ℕ) (rows : Rows) (old new : List Masked) (r : Option Block) → Makes limit first w rows old new r → InRegion limit first r
makes_within limit first w rows old new (Some b) m = (m.0.begins, m.0.few)
makes_within limit first w rows old new None m = tt

-- the rows of a block, gathered into an output that has begun anew
pub gathered_first : (finds : Bor (List Masked) → ℕ → Row → Type 0) (start output filled : Output) {w : ℕ} (b : Block) {found : Block} → found ≡ filled.rows
    → ((given rows : Rows) → output_rows output ≡ without_repeats given → length rows ≡ b.count → Lists finds output rows → Makes output.limit output.rows.first output.rows.width (without_repeats (given ++ rows)) output.work.now filled.work.now (Some found))
    → Same start output → Wrote start.limit start.rows.first w start.work.now output.work.now output.rows → output.rows.count ≡ 0 → Beside start b
    → ((cells : Bor (List Masked)) (i : ℕ) (row : Row) → finds cells i row → carried row ≡ get_or (block_rows cells.now b) i [])
    → Makes start.limit start.rows.first w (without_repeats (block_rows start.work.now b)) start.work.now filled.work.now (Some filled.rows)
gathered_first finds start output filled {w} b {found} stands fills same wrote none beside copies =
    subst (λ block. Makes start.limit start.rows.first w (without_repeats (block_rows start.work.now b)) start.work.now filled.work.now (Some block)) stands
    (makes_after same wrote filled.work.now (without_repeats (block_rows start.work.now b)) (Some found)
    (fills [] (block_rows start.work.now b) (rows_none output.work.now output.rows none) (length_rows start.work.now b)
    (λ cells i row u h post. copies cells i row post ∙ ap (λ rows. get_or rows i []) (rows_still same wrote beside cells.now u))))
