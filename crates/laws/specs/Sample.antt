-- A small book of three tariffs, what two brokers see of it, and answers to queries, worked by hand.
use Rattle.std.specs.Prelude.{◌≡◌, ℕ, true, false, List, [], ◌∷◌, Some, None}
use Rattle.semantics.specs.declared.kind.Kind.TheVariants.{Number, Prefix}
use Rattle.semantics.specs.declared.operator.Operator.TheVariants.{Equal, Unequal, Covers, Shorter}
use Rattle.semantics.specs.declared.rule.Sign.TheVariants.{Allow, Prohibit}
use Rattle.semantics.specs.declared.rule.Test.TheVariants.{Always, Holds}
use Rattle.semantics.specs.Answers.{certain, possible, overflow}
use Rattle.semantics.specs.Books.{Model}
use Rattle.semantics.specs.Conditions.{by_column, by_prefix, compared}
use Rattle.semantics.specs.Policies.{Meaning, filters_mean}
use Rattle.semantics.specs.Queries.{Tree, table, select, project, product, difference}
use Rattle.semantics.specs.Truths.{holds, unknown, plainly, compare}
use Rattle.semantics.specs.Values.{number, prefix}
use Rattle.semantics.specs.Views.{Masked, value, variable, pseudonym, view}

-- The digits of some prefixes, as the codes of their characters.
abbrev d47 : List ℕ
d47 = 0x34 ∷ 0x37 ∷ []

abbrev d48 : List ℕ
d48 = 0x34 ∷ 0x38 ∷ []

abbrev d4711 : List ℕ
d4711 = 0x34 ∷ 0x37 ∷ 0x31 ∷ 0x31 ∷ []

abbrev d47110 : List ℕ
d47110 = 0x34 ∷ 0x37 ∷ 0x31 ∷ 0x31 ∷ 0x30 ∷ []

-- Table 0 has a prefix, a carrier and a price.
abbrev pub tariffs : Model
tariffs = record {
  columns = (record { kind = Prefix; domain = 1 } ∷ record { kind = Number; domain = 0 } ∷ record { kind = Number; domain = 0 } ∷ []) ∷ [] ∷ [] ∷ [] ∷ [];
  tables =
      ((prefix d47 ∷ number 1 ∷ number 3100 ∷ [])
      ∷ (prefix d4711 ∷ number 2 ∷ number 2750 ∷ [])
      ∷ (prefix d48 ∷ number 1 ∷ number 2900 ∷ [])
      ∷ []) ∷ [] ∷ [] ∷ [] ∷ [];
  limit = 3;
}

-- Broker 7 may see the three columns, except the prefixes of carrier 2.
abbrev pub filters : Meaning
filters =
    filters_mean
    (record { broker = 7; table = 0; column = 0; sign = Allow; test = Always }
    ∷ record { broker = 7; table = 0; column = 1; sign = Allow; test = Always }
    ∷ record { broker = 7; table = 0; column = 2; sign = Allow; test = Always }
    ∷ record { broker = 7; table = 0; column = 0; sign = Prohibit; test = Holds 1 2 }
    ∷ [])

abbrev pub seen_by7 : List (List (List Masked))
seen_by7 = view filters 7 tariffs

abbrev pub seen_by8 : List (List (List Masked))
seen_by8 = view filters 8 tariffs

-- The rows as broker 7 sees them. The second has a variable for its prefix.
abbrev row_a : List Masked
row_a = value (prefix d47) ∷ value (number 1) ∷ value (number 3100) ∷ []

abbrev row_b : List Masked
row_b = variable 0 1 0 ∷ value (number 2) ∷ value (number 2750) ∷ []

abbrev row_c : List Masked
row_c = value (prefix d48) ∷ value (number 1) ∷ value (number 2900) ∷ []

-- The tariffs whose prefix covers 47110.
abbrev pub matching : Tree
matching = select (compared (by_prefix Covers 0 d47110)) (table 0)

-- Those of them that no other has a longer prefix than: all, less the ones that are shorter than another.
abbrev pub longest : Tree
longest = difference matching (project (0 ∷ 1 ∷ 2 ∷ []) (select (compared (by_column Shorter 0 3)) (product matching matching)))

-- Were the low answer of a difference to use the right low answer, row A would be certain in `longest`;
-- were a variable against itself unknown, row B would not be certain in `equal_to_itself`. Either way this would fail.
pub record SampleAnswers : Type 0 where
  pub view7 : seen_by7 ≡ ((row_a ∷ row_b ∷ row_c ∷ []) ∷ [] ∷ [] ∷ [] ∷ [])
  pub projected : certain seen_by7 (project (1 ∷ 2 ∷ []) (table 0)) ≡
      ((value (number 1) ∷ value (number 3100) ∷ [])
      ∷ (value (number 2) ∷ value (number 2750) ∷ [])
      ∷ (value (number 1) ∷ value (number 2900) ∷ [])
      ∷ [])
  pub projected_possible : possible seen_by7 (project (1 ∷ 2 ∷ []) (table 0)) ≡ []
  pub matching_certain : certain seen_by7 matching ≡ row_a ∷ []
  pub matching_possible : possible seen_by7 matching ≡ row_b ∷ []
  pub longest_certain : certain seen_by7 longest ≡ []
  pub longest_possible : possible seen_by7 longest ≡ row_a ∷ row_b ∷ []
  pub equal_to_itself : certain seen_by7 (select (compared (by_column Equal 0 0)) (table 0)) ≡ row_a ∷ row_b ∷ row_c ∷ []
  pub another_broker : certain seen_by8 (project (2 ∷ []) (table 0)) ≡
      ((variable 0 0 2 ∷ []) ∷ (variable 0 1 2 ∷ []) ∷ (variable 0 2 2 ∷ []) ∷ [])
  pub four_rows_are_enough : overflow 4 seen_by7 longest ≡ None
  pub three_rows_are_not : overflow 3 seen_by7 longest ≡ Some 6
  pub two_rows_are_not : overflow 2 seen_by7 (project (1 ∷ 2 ∷ []) (table 0)) ≡ Some 0

-- Comparisons.
-- Were covering to ask whether the left begins with the right, or different variables known to differ, this would fail.
pub record SampleComparisons : Type 0 where
  pub empty_covers : plainly Covers (prefix []) (prefix d4711) ≡ true
  pub longer_covers_not : plainly Covers (prefix d4711) (prefix d47) ≡ false
  pub covers_itself : plainly Covers (prefix d47) (prefix d47) ≡ true
  pub variables_may_be_equal : compare Unequal (variable 0 0 0) (variable 0 1 0) ≡ unknown
  pub pseudonyms_are_not : compare Unequal (pseudonym 1 0) (pseudonym 1 1) ≡ holds
