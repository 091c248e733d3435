-- A reply is its counts, its certain rows and its possible rows.
use Rattle.std.proofs.Common.{◌≡◌, ◌+◌, ◌≤◌, List, ◌++◌, length, refl, ap, arith}
use Rattle.std.specs.List.{flat_map}
use Rattle.std.proofs.lemmas.List.{length-append}
use Rattle.semantics.specs.Bytes.{two_bytes, record_bytes}
use Rattle.semantics.specs.Replies.{row_bytes, reply_bytes}
use Rattle.semantics.specs.Views as semantics
use Rattle.view.specs.declared.masked.Masked.{Masked}
use Rattle.workspace.specs.declared.block.Block.{Block}
use Rattle.workspace.specs.Blocks.{block_rows}
use Rattle.reply.proofs.Sizes.{rows_low}

module _ (certain possible : List (List semantics.Masked)) where
  pub reply_parts : reply_bytes certain possible
      ≡ record_bytes 0x20 (two_bytes (length certain) ++ two_bytes (length possible)) ++ flat_map (row_bytes 0x21) certain ++ flat_map (row_bytes 0x22) possible
  unfolding reply_bytes
  reply_parts = refl

  pub reply_length_lem : length (reply_bytes certain possible) ≡ 8 + length (flat_map (row_bytes 0x21) certain) + length (flat_map (row_bytes 0x22) possible)
  reply_length_lem =
      let e = ap length reply_parts in
      let counts = record_bytes 0x20 (two_bytes (length certain) ++ two_bytes (length possible)) in
      let sure = flat_map (row_bytes 0x21) certain in
      let maybe = flat_map (row_bytes 0x22) possible in
      let a = length-append counts sure in
      let b = length-append (counts ++ sure) maybe in
      omega arith

pub reply_low : (work : List Masked) (certain possible : Block) → length (reply_bytes (block_rows work certain) (block_rows work possible)) ≤ 2580488
reply_low work certain possible =
    let c = rows_low 0x21 work certain in
    let p = rows_low 0x22 work possible in
    omega (arith, reply_length_lem (block_rows work certain) (block_rows work possible), certain.low, possible.low)
