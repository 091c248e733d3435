-- Queries over the small book of tariffs and the bytes of their replies, worked by hand.
use Rattle.std.specs.Prelude.{◌≡◌, ℕ, List, [], ◌∷◌, length}
use Rattle.semantics.specs.Asks.{answered}
use Rattle.semantics.specs.Outcomes.{refused, done}
use Rattle.semantics.specs.Queries.{Tree, table, project}
use Rattle.semantics.specs.Records.{encode}
use Rattle.laws.specs.Sample.{tariffs, seen_by7, longest}

-- The carrier and the price of every tariff.
abbrev prices : Tree
prices = project (1 ∷ 2 ∷ []) (table 0)

-- The reply for the tariffs of the longest prefix: no certain row, two possible ones.
abbrev longest_reply : List ℕ
longest_reply =
    0x04 ∷ 0 ∷ 0x20 ∷ 0 ∷ 0 ∷ 0 ∷ 0x02 ∷ 0
    ∷ 0x0E ∷ 0 ∷ 0x22 ∷ 0 ∷ 0x02 ∷ 0x02 ∷ 0x34 ∷ 0x37 ∷ 0x01 ∷ 0x01 ∷ 0 ∷ 0 ∷ 0 ∷ 0x01 ∷ 0x1C ∷ 0x0C ∷ 0 ∷ 0
    ∷ 0x0E ∷ 0 ∷ 0x22 ∷ 0 ∷ 0x03 ∷ 0 ∷ 0x01 ∷ 0 ∷ 0x01 ∷ 0x02 ∷ 0 ∷ 0 ∷ 0 ∷ 0x01 ∷ 0xBE ∷ 0x0A ∷ 0 ∷ 0 ∷ []

-- The reply for the prices: three certain rows.
abbrev prices_reply : List ℕ
prices_reply =
    0x04 ∷ 0 ∷ 0x20 ∷ 0 ∷ 0x03 ∷ 0 ∷ 0 ∷ 0
    ∷ 0x0A ∷ 0 ∷ 0x21 ∷ 0 ∷ 0x01 ∷ 0x01 ∷ 0 ∷ 0 ∷ 0 ∷ 0x01 ∷ 0x1C ∷ 0x0C ∷ 0 ∷ 0
    ∷ 0x0A ∷ 0 ∷ 0x21 ∷ 0 ∷ 0x01 ∷ 0x02 ∷ 0 ∷ 0 ∷ 0 ∷ 0x01 ∷ 0xBE ∷ 0x0A ∷ 0 ∷ 0
    ∷ 0x0A ∷ 0 ∷ 0x21 ∷ 0 ∷ 0x01 ∷ 0x01 ∷ 0 ∷ 0 ∷ 0 ∷ 0x01 ∷ 0x54 ∷ 0x0B ∷ 0 ∷ 0 ∷ []

-- What broker 7 is answered, with a workspace of so many cells and a reply buffer of so many bytes.
-- Were the length of a record to count its head, or the reply written before it is known to fit, this would fail.
pub record SampleReplies : Type 0 where
  pub longest_query : length (encode longest) ≡ 86
  pub longest_answered : answered tariffs.columns seen_by7 (encode longest) 1920 44 ≡ done longest_reply
  pub one_byte_short : answered tariffs.columns seen_by7 (encode longest) 1920 43 ≡ refused 22 10
  pub prices_answered : answered tariffs.columns seen_by7 (encode prices) 720 4096 ≡ done prices_reply
  pub one_cell_short : answered tariffs.columns seen_by7 (encode prices) 719 4096 ≡ refused 21 0
