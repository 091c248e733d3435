-- The worked examples as one list.
use Rattle.laws.specs.Compatible.{CompatibleExamples}
use Rattle.laws.specs.Replies.{ReplyExamples}
use Rattle.laws.specs.Sample.{SampleAnswers, SampleComparisons}
use Rattle.laws.specs.SampleReplies.{SampleReplies}

-- Rows that may be the same and rows that may not, comparisons, and over the book of the three tariffs the answers to queries,
-- their bytes, and what is refused.
pub record WorkedExamples : Type 0 where
  pub compatible : CompatibleExamples
  pub comparisons : SampleComparisons
  pub answers : SampleAnswers
  pub replies : SampleReplies
  pub bytes : ReplyExamples
