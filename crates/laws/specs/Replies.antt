-- Bytes of replies and refusals, worked by hand.
use Rattle.std.specs.Prelude.{◌≡◌, [], ◌∷◌}
use Rattle.semantics.specs.Asks.{capacity}
use Rattle.semantics.specs.Replies.{cell_bytes, reply_bytes, refusal_bytes}
use Rattle.semantics.specs.Values.{number, prefix}
use Rattle.semantics.specs.Views.{value, variable, pseudonym}

-- Were the high byte of a number to come first, or the counts of a reply to have one byte each, this would fail.
pub record ReplyExamples : Type 0 where
  pub a_number : cell_bytes (value (number 3100)) ≡ 0x01 ∷ 0x1C ∷ 0x0C ∷ 0 ∷ 0 ∷ []
  pub a_prefix : cell_bytes (value (prefix (0x34 ∷ 0x37 ∷ []))) ≡ 0x02 ∷ 0x02 ∷ 0x34 ∷ 0x37 ∷ []
  pub the_empty_prefix : cell_bytes (value (prefix [])) ≡ 0x02 ∷ 0 ∷ []
  pub a_variable : cell_bytes (variable 0 1 0) ≡ 0x03 ∷ 0 ∷ 0x01 ∷ 0 ∷ []
  pub a_pseudonym : cell_bytes (pseudonym 2 300) ≡ 0x04 ∷ 0x02 ∷ 0x2C ∷ 0x01 ∷ []
  pub a_reply : reply_bytes ((variable 0 1 0 ∷ []) ∷ []) ((value (prefix []) ∷ []) ∷ []) ≡
      0x04 ∷ 0 ∷ 0x20 ∷ 0 ∷ 0x01 ∷ 0 ∷ 0x01 ∷ 0
      ∷ 0x04 ∷ 0 ∷ 0x21 ∷ 0 ∷ 0x03 ∷ 0 ∷ 0x01 ∷ 0
      ∷ 0x02 ∷ 0 ∷ 0x22 ∷ 0 ∷ 0x02 ∷ 0 ∷ []
  pub a_refusal : refusal_bytes 21 6 ≡ 0x02 ∷ 0 ∷ 0x23 ∷ 0 ∷ 0x15 ∷ 0x06 ∷ []
  pub full_workspace : capacity 122880 ≡ 512
  pub small_workspace : capacity 239 ≡ 0
