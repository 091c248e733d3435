-- What each policy means: the mark of a cell, for a broker, a table, the row's values and a column.
use Rattle.std.specs.Prelude.{◌≡◌, ℕ, zero, suc, Bool, true, false, cond, not, ◌&&◌, List, [], ◌∷◌, ◌++◌, length, Some, None, Ok, Err, Option, Result, ◌==◌, nat_lt, slice_index_or}
use Rattle.semantics.specs.declared.mark.Mark.{Mark}
use Rattle.semantics.specs.declared.mark.Mark.TheVariants.{Hidden, Linked, Shown}
use Rattle.semantics.specs.declared.refusal.Refusal.{Refusal}
use Rattle.semantics.specs.declared.refusal.Refusal.TheVariants.{NoTable, NoColumn, TooManyRules, RegisterFull}
use Rattle.semantics.specs.declared.rule.Sign.{Sign}
use Rattle.semantics.specs.declared.rule.Sign.TheVariants.{Allow, Prohibit}
use Rattle.semantics.specs.declared.rule.Test.{Test}
use Rattle.semantics.specs.declared.rule.Test.TheVariants.{Always, Holds}
use Rattle.semantics.specs.declared.rule.Rule.{Rule}
use Rattle.semantics.specs.declared.rule.Consent.{Consent}
use Rattle.semantics.specs.Drafts.{is_table}
use Rattle.semantics.specs.Lists.{some}
use Rattle.semantics.specs.Marks.{narrower_mark, wider_mark}
use Rattle.semantics.specs.Outcomes.{Outcome, done, question, and_then}
use Rattle.semantics.specs.Values.{Value, number, prefix}

-- Broker, table, the values of the row, column.
abbrev pub Meaning : Type 0
Meaning = ℕ → ℕ → List Value → ℕ → Mark

-- The number that a value is, if it is one.
abbrev pub number_in : Value → Option ℕ
number_in (number n) = Some n
number_in (prefix ds) = None

-- The number in a column of a row; none where the row has no such column or it holds a prefix.
abbrev pub number_at : List Value → ℕ → Option ℕ
number_at [] c = None
number_at (v ∷ vs) zero = number_in v
number_at (v ∷ vs) (suc c) = number_at vs c

abbrev pub is_number : ℕ → Option ℕ → Bool
is_number n None = false
is_number n (Some k) = k == n

-- Filters. Does the test hold for the row?
abbrev pub holds : Test → List Value → Bool
holds Always row = true
holds (Holds c n) row = is_number n (number_at row c)

-- Is the rule about this broker, table and column, and does its test hold for the row?
abbrev pub applies : ℕ → ℕ → List Value → ℕ → Rule → Bool
applies broker t row c rule = rule.broker == broker && (rule.table == t && (rule.column == c && holds rule.test row))

-- Are the two signs one?
abbrev pub same_sign : Sign → Sign → Bool
same_sign Allow Allow = true
same_sign Allow Prohibit = false
same_sign Prohibit Allow = false
same_sign Prohibit Prohibit = true

-- Has the rule this sign, and does it apply?
abbrev pub counts : Sign → ℕ → ℕ → List Value → ℕ → Rule → Bool
counts sign broker t row c rule = same_sign rule.sign sign && applies broker t row c rule

-- Does some rule of this sign apply?
abbrev pub some_rule : Sign → List Rule → ℕ → ℕ → List Value → ℕ → Bool
some_rule sign rules broker t row c = some (counts sign broker t row c) rules

-- A cell is shown if some allowing rule applies and no prohibiting one does, else hidden.
abbrev pub filters_mean : List Rule → Meaning
filters_mean rules broker t row c = cond (some_rule Allow rules broker t row c && not (some_rule Prohibit rules broker t row c)) Shown Hidden

-- The column that a test names, 0 where it names none.
abbrev pub test_column : Test → ℕ
test_column Always = 0
test_column (Holds c n) = c

-- The questions of a new rule.
abbrev pub may_rule : List Rule → Rule → Outcome (Unit {0})
may_rule rules rule =
    question (is_table rule.table) NoTable
    (question (nat_lt rule.column 8 && nat_lt (test_column rule.test) 8) NoColumn
    (question (nat_lt (length rules) 16) TooManyRules
    (done tt)))

-- Adding a rule: the rules with the new one.
abbrev pub ruled : List Rule → Rule → Outcome (List Rule)
ruled rules rule = and_then (may_rule rules rule) (λ _. done (rules ++ rule ∷ []))

-- What filters mean once a rule is added: where it applies, a prohibiting rule hides the cell, and an allowing one
-- shows it unless a rule prohibits it. All else is as before.
abbrev pub ruled_mean : List Rule → Rule → Meaning
ruled_mean rules rule broker t row c =
    cond (applies broker t row c rule)
    (cond (same_sign rule.sign Allow && not (some_rule Prohibit rules broker t row c)) Shown Hidden)
    (filters_mean rules broker t row c)

-- Consents. The entry of a key, if it has one.
abbrev pub consent_of : List Consent → ℕ → Option Consent
consent_of [] key = None
consent_of (e ∷ es) key = cond (e.key == key) (Some e) (consent_of es key)

-- The mark that an entry gives a column; without an entry all is hidden.
abbrev pub consent_mark : Option Consent → ℕ → Mark
consent_mark None c = Hidden
consent_mark (Some e) c = cond (slice_index_or e.shown c false) Shown (cond (slice_index_or e.linked c false) Linked Hidden)

-- The mark for a row with this key; a row without a key number is hidden.
abbrev pub key_mark : List Consent → Option ℕ → ℕ → Mark
key_mark entries None c = Hidden
key_mark entries (Some key) c = consent_mark (consent_of entries key) c

-- The cells of table 3 have the mark of their row's key, its first cell; those of other tables are shown.
abbrev pub consents_mean : List Consent → Meaning
consents_mean entries broker t row c = cond (t == 3) (key_mark entries (number_at row 0) c) Shown

-- The entries with this one in the place of the entry of the same key.
abbrev pub replaced : List Consent → Consent → List Consent
replaced [] e = []
replaced (x ∷ xs) e = cond (x.key == e.key) (e ∷ xs) (x ∷ replaced xs e)

abbrev pub is_known : Option Consent → Bool
is_known None = false
is_known (Some e) = true

-- Have no two entries the same key? This holds of all entries that settings make.
abbrev pub keys_apart : List Consent → Bool
keys_apart [] = true
keys_apart (e ∷ es) = not (is_known (consent_of es e.key)) && keys_apart es

-- Setting an entry: a known key's entry is replaced, a new one is added at the end.
abbrev pub consented : List Consent → Consent → Outcome (List Consent)
consented entries e =
    cond (is_known (consent_of entries e.key))
    (done (replaced entries e))
    (question (nat_lt (length entries) 64) RegisterFull
    (done (entries ++ e ∷ [])))

-- What consents mean once an entry is set: rows of table 3 with its key have its marks. All else is as before.
abbrev pub consented_mean : List Consent → Consent → Meaning
consented_mean entries e broker t row c =
    cond (t == 3 && is_number e.key (number_at row 0)) (consent_mark (Some e) c) (consents_mean entries broker t row c)

-- Both of two policies: the narrower mark. Either: the wider.
abbrev pub both_mean : Meaning → Meaning → Meaning
both_mean p q broker t row c = narrower_mark (p broker t row c) (q broker t row c)

abbrev pub either_mean : Meaning → Meaning → Meaning
either_mean p q broker t row c = wider_mark (p broker t row c) (q broker t row c)

-- The two give every question the same mark.
abbrev pub SameMeaning : Meaning → Meaning → Type 0
SameMeaning p q = (broker t : ℕ) (row : List Value) (c : ℕ) → p broker t row c ≡ q broker t row c

-- The code answers `r` and alters a policy: it then means the new, or on refusal what it meant before.
abbrev pub Means : {T : Type 0} → Result T Refusal → Meaning → Meaning → Meaning → Type 0
Means (Ok u) before new after = SameMeaning after new
Means (Err e) before new after = SameMeaning after before
