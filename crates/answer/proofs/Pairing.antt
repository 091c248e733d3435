-- Loops that put each row of one block before each row of another.
use Rattle.std.proofs.Common.{◌≡◌, ℕ, ◌+◌, ◌*◌, ◌<◌, ◌≤◌, List, [], ◌∷◌, ◌++◌, map, length, get_or, take, ap, ◌∙◌, subst, suc-mul, arith}
use Rattle.std.specs.List.{flat_map}
use Rattle.std.proofs.lemmas.List.{append_assoc, append-nil, length-append, length-map, map_more, take_all}
use Rattle.semantics.specs.Answers.{paired}
use Rattle.semantics.specs.Views as semantics
use Rattle.semantics.proofs.Pieces.{joined_append}
use Rattle.workspace.specs.declared.block.Block.{Block}
use Rattle.workspace.specs.Blocks.{block_rows}
use Rattle.workspace.proofs.Reading.{length_rows}
use Rattle.answer.specs.declared.output.Output.{Output}
use Rattle.answer.specs.Regions.{Untouched, Wrote, Pushed}
use Rattle.answer.specs.Outputs.{Same, Beside, output_rows}
use Rattle.answer.proofs.Writes.{untouched-same, block_apart}
use Rattle.answer.proofs.Loops.{wrote-after, seen_more}
use Rattle.answer.proofs.Filtering.{row_apart}

module _ (start : Output) (right : Block) (row : List semantics.Masked) where
  -- The row, followed by each of the `i` first rows of the right block, stands behind the rows that the output had at first.
  pub record Following (output : Output) (i : ℕ) : Type 0 where
    pub same : Same start output
    pub wrote : Wrote start.limit start.rows.first start.rows.width start.work.now output.work.now output.rows
    pub more : output.rows.count ≡ start.rows.count + i
    pub holds : output_rows output ≡ output_rows start ++ map (λ s. row ++ s) (take i (block_rows start.work.now right))

  module _ (output : Output) (i : ℕ) (inv : Following output i) where
    pub following_more : Beside start right → i < right.count → (s : List semantics.Masked) → s ≡ get_or (block_rows output.work.now right) i []
        → (new : Output) (y : List semantics.Masked) → Same output new → Pushed output.limit output.rows y output.work.now new.work.now new.rows → y ≡ row ++ s → Following new (i + 1)
    following_more beside h s is new y same pushed e =
        let q : Pushed start.limit output.rows y output.work.now new.work.now new.rows
        = subst (λ n. Pushed n output.rows y output.work.now new.work.now new.rows) inv.same.limit_kept pushed in
        record {
          same = record { limit_kept = same.limit_kept ∙ inv.same.limit_kept; long = same.long ∙ inv.same.long };
          wrote = wrote-after start.limit start.rows.first start.rows.width start.work.now output.work.now new.work.now output.rows inv.wrote new.rows q.wrote;
          more = omega (arith, q.more, inv.more);
          holds =
              let src = block_rows start.work.now right in
              let l = length_rows start.work.now right in
              let f : List semantics.Masked → List semantics.Masked = λ s. row ++ s in
              let here = ap f (row_apart start.limit start.rows.first start.work.now output.work.now right i s inv.wrote.untouched beside.apart is) in
              let e1 = q.holds in
              let e2 = inv.holds in
              let e3 = map_more f src i [] (omega arith) in
              let e4 = append_assoc (output_rows start) (map f (take i src)) (y ∷ []) in
              cc;
        }

    pub following_all : right.count ≤ i → output_rows output ≡ output_rows start ++ map (λ s. row ++ s) (block_rows start.work.now right)
    following_all h =
        let l = length_rows start.work.now right in
        inv.holds ∙ ap (λ l. output_rows start ++ map (λ s. row ++ s) l) (take_all i (block_rows start.work.now right) (omega arith))

-- How many pairs there are.
pub length_paired : (rs ss : List (List semantics.Masked)) → length (paired rs ss) ≡ length rs * length ss
length_paired [] ss = omega arith
length_paired (r ∷ rs) ss =
    let e = length-append (map (λ s. r ++ s) ss) (paired rs ss) in
    let m = length-map ss (λ s. r ++ s) in
    let ih = length_paired rs ss in
    let p = suc-mul (length rs) (length ss) in
    omega arith

module _ (start : Output) (left right : Block) where
  -- Each of the `i` first rows of the left block, followed by each row of the right one, stands in the output.
  pub record Pairing (output : Output) (i : ℕ) : Type 0 where
    pub same : Same start output
    pub wrote : Wrote start.limit start.rows.first (left.width + right.width) start.work.now output.work.now output.rows
    pub many : output.rows.count ≡ i * right.count
    pub holds : output_rows output ≡ paired (take i (block_rows start.work.now left)) (block_rows start.work.now right)

  pub too_many_lem : start.limit < left.count * right.count → (start.limit < length (paired (block_rows start.work.now left) (block_rows start.work.now right))) × Untouched start.rows.first start.limit start.work.now start.work.now
  too_many_lem h =
      let e = length_paired (block_rows start.work.now left) (block_rows start.work.now right) in
      let f : length (block_rows start.work.now left) * length (block_rows start.work.now right) ≡ left.count * right.count = rw (length_rows start.work.now left, length_rows start.work.now right) in
      (omega arith, untouched-same start.rows.first start.limit start.work.now)

  module _ (output : Output) (i : ℕ) (inv : Pairing output i) where
    pub pairing_more : Beside start left → Beside start right → i < left.count → (x : List semantics.Masked) → x ≡ get_or (block_rows output.work.now left) i []
        → (new : Output) → Same output new → Wrote output.limit output.rows.first output.rows.width output.work.now new.work.now new.rows → new.rows.count ≡ output.rows.count + right.count
        → output_rows new ≡ output_rows output ++ map (λ s. x ++ s) (block_rows output.work.now right) → Pairing new (i + 1)
    pairing_more al ar h x is new same p more holds = record {
      same = record { limit_kept = same.limit_kept ∙ inv.same.limit_kept; long = same.long ∙ inv.same.long };
      wrote = wrote-after start.limit start.rows.first (left.width + right.width) start.work.now output.work.now new.work.now output.rows inv.wrote new.rows
          (subst (λ n. Wrote n output.rows.first output.rows.width output.work.now new.work.now new.rows) inv.same.limit_kept p);
      many = omega (arith, suc-mul i right.count, more, inv.many);
      holds =
          let l = length_rows start.work.now left in
          let src = block_rows start.work.now left in
          let ss = block_rows start.work.now right in
          let f : List semantics.Masked → List (List semantics.Masked) = λ r. map (λ s. r ++ s) ss in
          let here = row_apart start.limit start.rows.first start.work.now output.work.now left i x inv.wrote.untouched al.apart is in
          let e2 = inv.holds in
          let e3 : map (λ s. x ++ s) (block_rows output.work.now right) ≡ f x = ap (map (λ s. x ++ s)) (block_apart start.rows.first start.limit start.work.now output.work.now right inv.wrote.untouched ar.apart) in
          let e4 : flat_map f (take (i + 1) src) ≡ flat_map f (take i src ++ x ∷ []) = ap (flat_map f) (seen_more src i x (omega arith) here) in
          let e5 = joined_append f (take i src) (x ∷ []) in
          let e6 = append-nil (f x) in
          cc;
    }

    pub pairing_all : left.count ≤ i → output_rows output ≡ paired (block_rows start.work.now left) (block_rows start.work.now right)
    pairing_all h =
        let l = length_rows start.work.now left in
        inv.holds ∙ ap (λ l. paired l (block_rows start.work.now right)) (take_all i (block_rows start.work.now left) (omega arith))
