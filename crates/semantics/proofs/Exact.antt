-- Over values alone the low and the high answer are one.
use Rattle.std.proofs.Common.{◌≡◌, ℕ, Bool, true, false, not, List, ◌++◌, map, filter, sym, refl, ap, ◌∙◌, ap₂}
use mathlib.Core.List.{Memᴰ}
use Rattle.semantics.specs.declared.operator.Operator.{Operator}
use Rattle.semantics.specs.Answers.{same_row, without_repeats, picked, paired, low, high}
use Rattle.semantics.specs.Compatible.{compatible}
use Rattle.semantics.specs.Conditions.{Comparison, by_column, by_number, by_prefix, Condition, compared, conjunction, disjunction, negation}
use Rattle.semantics.specs.Lists.{some}
use Rattle.semantics.specs.Queries.{Tree, table, select, project, product, union, difference}
use Rattle.semantics.specs.Standing.{StandsIn}
use Rattle.semantics.specs.Truths.{Truth, both, either, opposite, known, plainly, compare, cell_at, comparison_truth, truth, is_true, may_be_true}
use Rattle.semantics.specs.Views.{Masked}
use Rattle.semantics.proofs.Compatible.{IsValue, is-value, compatible-values}
use Rattle.semantics.proofs.LowHigh.{cell-has, high-has}
use Rattle.semantics.proofs.Member.{kept-agree}
use Rattle.semantics.proofs.Rows.{some-agree}

abbrev pub OfValues : List Masked → Type 0
OfValues r = (a : Masked) → Memᴰ a r → IsValue a

-- a truth that is known
abbrev Known : Truth → Type 0
Known t = (b : Bool) × (t ≡ known b)

known-compare : (op : Operator) {a b : Masked} → IsValue a → IsValue b → Known (compare op a b)
known-compare op (is-value {v = v}) (is-value {v = w}) = (plainly op v w, refl)

known_both : (a b : Bool) → Known (both (known a) (known b))
known_both true b = (b, refl)
known_both false b = (false, refl)

known-either : (a b : Bool) → Known (either (known a) (known b))
known-either true b = (true, refl)
known-either false b = (b, refl)

known-opposite : (a : Bool) → Known (opposite (known a))
known-opposite true = (false, refl)
known-opposite false = (true, refl)

cell-value : (r : List Masked) (c : ℕ) → OfValues r → IsValue (cell_at r c)
cell-value = cell-has IsValue (λ v. is-value)

known_comparison : (k : Comparison) (r : List Masked) → OfValues r → Known (comparison_truth k r)
known_comparison (by_column op i j) r h = known-compare op (cell-value r i h) (cell-value r j h)
known_comparison (by_number op i n) r h = known-compare op (cell-value r i h) is-value
known_comparison (by_prefix op i ds) r h = known-compare op (cell-value r i h) is-value

known-truth : (c : Condition) (r : List Masked) → OfValues r → Known (truth c r)
known-truth (compared k) r h = known_comparison k r h
known-truth (conjunction c d) r h = let x = known-truth c r h in let y = known-truth d r h in rw (x.1, y.1) (known_both x.0 y.0)
known-truth (disjunction c d) r h = let x = known-truth c r h in let y = known-truth d r h in rw (x.1, y.1) (known-either x.0 y.0)
known-truth (negation c) r h = let x = known-truth c r h in rw x.1 (known-opposite x.0)

true_is_may : (b : Bool) → is_true (known b) ≡ may_be_true (known b)
true_is_may true = refl
true_is_may false = refl

module _ (tables : List (List (List Masked))) (all : (a : Masked) → StandsIn tables a → IsValue a) where
  row-values : (q : Tree) (r : List Masked) → Memᴰ r (high tables q) → OfValues r
  row-values = high-has IsValue (λ v. is-value) tables all

  pub exact : (q : Tree) → low tables q ≡ high tables q
  exact (table t) = refl
  exact (select c q) =
      ap (filter (λ r. is_true (truth c r))) (exact q)
      ∙ kept-agree (λ r. is_true (truth c r)) (λ r. may_be_true (truth c r)) (high tables q)
      (λ r m. let k = known-truth c r (row-values q r m) in rw k.1 (true_is_may k.0))
  exact (project cs q) = ap (λ x. without_repeats (map (picked cs) x)) (exact q)
  exact (product p q) = ap₂ paired (exact p) (exact q)
  exact (union p q) = ap₂ (λ x y. without_repeats (x ++ y)) (exact p) (exact q)
  exact (difference p q) =
      ap (filter (λ r. not (some (compatible r) (high tables q)))) (exact p)
      ∙ kept-agree (λ r. not (some (compatible r) (high tables q))) (λ r. not (some (same_row r) (low tables q))) (high tables p)
      (λ r m. ap not
      (some-agree (compatible r) (same_row r) (high tables q) (λ s k. compatible-values r s (row-values p r m) (row-values q s k))
      ∙ ap (some (same_row r)) (sym (exact q))))
