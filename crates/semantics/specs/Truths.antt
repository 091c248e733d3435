-- Comparing cells, and the truth of a condition on a row.
use Rattle.std.specs.Prelude.{ℕ, Bool, true, false, cond, not, ◌&&◌, ◌||◌, List, [], ◌∷◌, length, ◌==◌, nat_lt, slice_index_or}
use Rattle.semantics.specs.declared.operator.Operator.{Operator}
use Rattle.semantics.specs.declared.operator.Operator.TheVariants.{Equal, Unequal, Less, AtMost, Covers, Shorter}
use Rattle.semantics.specs.Conditions.{Comparison, by_column, by_number, by_prefix, Condition, compared, conjunction, disjunction, negation}
use Rattle.semantics.specs.Values.{Value, number, prefix, same_value}
use Rattle.semantics.specs.Views.{Masked, value, variable, pseudonym}

-- True, false or unknown.
pub data Truth : Type 0 where
  holds : Truth
  fails : Truth
  unknown : Truth

-- "And", "or" and "not" of Kleene's strong logic.
abbrev pub both : Truth → Truth → Truth
both holds u = u
both fails u = fails
both unknown holds = unknown
both unknown fails = fails
both unknown unknown = unknown

abbrev pub either : Truth → Truth → Truth
either holds u = holds
either fails u = u
either unknown holds = holds
either unknown fails = unknown
either unknown unknown = unknown

abbrev pub opposite : Truth → Truth
opposite holds = fails
opposite fails = holds
opposite unknown = unknown

-- The truth of a test.
abbrev pub known : Bool → Truth
known true = holds
known false = fails

-- Does the second list of digits begin with the first?
abbrev pub begins : List ℕ → List ℕ → Bool
begins [] es = true
begins (d ∷ ds) [] = false
begins (d ∷ ds) (e ∷ es) = d == e && begins ds es

-- Is the first value a number below the second?
abbrev pub below : Value → Value → Bool
below (number m) (number n) = nat_lt m n
below (number m) (prefix es) = false
below (prefix ds) (number n) = false
below (prefix ds) (prefix es) = false

-- Does the second prefix begin with the first? A number covers itself; no query asks it.
abbrev pub covers : Value → Value → Bool
covers (number m) (number n) = m == n
covers (number m) (prefix es) = false
covers (prefix ds) (number n) = false
covers (prefix ds) (prefix es) = begins ds es

-- Has the first prefix fewer digits than the second?
abbrev pub shorter : Value → Value → Bool
shorter (number m) (number n) = false
shorter (number m) (prefix es) = false
shorter (prefix ds) (number n) = false
shorter (prefix ds) (prefix es) = nat_lt (length ds) (length es)

-- The operators on two values.
abbrev pub plainly : Operator → Value → Value → Bool
plainly Equal v w = same_value v w
plainly Unequal v w = not (same_value v w)
plainly Less v w = below v w
plainly AtMost v w = below v w || same_value v w
plainly Covers v w = covers v w
plainly Shorter v w = shorter v w

-- A variable or pseudonym against itself.
abbrev pub itself : Operator → Truth
itself Equal = holds
itself Unequal = fails
itself Less = fails
itself AtMost = holds
itself Covers = holds
itself Shorter = fails

-- Different pseudonyms of one domain.
abbrev pub apart : Operator → Truth
apart Equal = fails
apart Unequal = holds
apart Less = unknown
apart AtMost = unknown
apart Covers = unknown
apart Shorter = unknown

-- The operators on two cells.
abbrev pub compare : Operator → Masked → Masked → Truth
compare op (value v) (value w) = known (plainly op v w)
compare op (value v) (variable t r c) = unknown
compare op (value v) (pseudonym d n) = unknown
compare op (variable t r c) (value w) = unknown
compare op (variable t r c) (variable u s e) = cond (t == u && (r == s && c == e)) (itself op) unknown
compare op (variable t r c) (pseudonym d n) = unknown
compare op (pseudonym d n) (value w) = unknown
compare op (pseudonym d n) (variable t r c) = unknown
compare op (pseudonym d n) (pseudonym e k) = cond (d == e) (cond (n == k) (itself op) (apart op)) unknown

-- The cell of a row in a column. Past the end of the row it is the number 0; no well-formed query asks for that.
abbrev pub cell_at : List Masked → ℕ → Masked
cell_at row c = slice_index_or row c (value (number 0))

-- The truth of a comparison and of a condition on a row.
abbrev pub comparison_truth : Comparison → List Masked → Truth
comparison_truth (by_column op l r) row = compare op (cell_at row l) (cell_at row r)
comparison_truth (by_number op l n) row = compare op (cell_at row l) (value (number n))
comparison_truth (by_prefix op l ds) row = compare op (cell_at row l) (value (prefix ds))

abbrev pub truth : Condition → List Masked → Truth
truth (compared k) row = comparison_truth k row
truth (conjunction c d) row = both (truth c row) (truth d row)
truth (disjunction c d) row = either (truth c row) (truth d row)
truth (negation c) row = opposite (truth c row)

-- Is it true? Is it true or unknown?
abbrev pub is_true : Truth → Bool
is_true holds = true
is_true fails = false
is_true unknown = false

abbrev pub may_be_true : Truth → Bool
may_be_true holds = true
may_be_true fails = false
may_be_true unknown = true
