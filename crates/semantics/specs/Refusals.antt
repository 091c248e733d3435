-- The refusals: the number, the place and the meaning of each.
use Rattle.std.specs.Prelude.{ℕ, List, codes}
use Rattle.semantics.specs.declared.refusal.Refusal.{Refusal}
use Rattle.semantics.specs.declared.refusal.Refusal.TheVariants.{NoTable, TooManyColumns, UnknownKind, WrongDomain, NotPrefix, NoRow, NoColumn, WrongWidth, WrongKind, TableFull, QueryLength, TooManyRecords, BrokenRecord, UnknownRecord, WrongForm, StackShort, NoSuchName, Unfit, ProductTooWide, NotOneRelation, TooManyRows, ReplyTooLong, TooManyRules, RegisterFull}

-- The number of each refusal.
abbrev pub refusal_number : Refusal → ℕ
refusal_number NoTable = 1
refusal_number TooManyColumns = 2
refusal_number UnknownKind = 3
refusal_number WrongDomain = 4
refusal_number NotPrefix = 5
refusal_number NoRow = 6
refusal_number NoColumn = 7
refusal_number WrongWidth = 8
refusal_number (WrongKind cell) = 9
refusal_number TableFull = 10
refusal_number QueryLength = 11
refusal_number (TooManyRecords rec) = 12
refusal_number (BrokenRecord rec) = 13
refusal_number (UnknownRecord rec) = 14
refusal_number (WrongForm rec) = 15
refusal_number (StackShort rec) = 16
refusal_number (NoSuchName rec) = 17
refusal_number (Unfit rec) = 18
refusal_number (ProductTooWide rec) = 19
refusal_number (NotOneRelation count) = 20
refusal_number (TooManyRows rec) = 21
refusal_number (ReplyTooLong count) = 22
refusal_number TooManyRules = 23
refusal_number RegisterFull = 24

-- Its place: the cell, the record or the count of records at fault, else 0.
abbrev pub refusal_place : Refusal → ℕ
refusal_place NoTable = 0
refusal_place TooManyColumns = 0
refusal_place UnknownKind = 0
refusal_place WrongDomain = 0
refusal_place NotPrefix = 0
refusal_place NoRow = 0
refusal_place NoColumn = 0
refusal_place WrongWidth = 0
refusal_place (WrongKind cell) = cell
refusal_place TableFull = 0
refusal_place QueryLength = 0
refusal_place (TooManyRecords rec) = rec
refusal_place (BrokenRecord rec) = rec
refusal_place (UnknownRecord rec) = rec
refusal_place (WrongForm rec) = rec
refusal_place (StackShort rec) = rec
refusal_place (NoSuchName rec) = rec
refusal_place (Unfit rec) = rec
refusal_place (ProductTooWide rec) = rec
refusal_place (NotOneRelation count) = count
refusal_place (TooManyRows rec) = rec
refusal_place (ReplyTooLong count) = count
refusal_place TooManyRules = 0
refusal_place RegisterFull = 0

-- Its meaning in words: the characters of a text.
abbrev pub refusal_meaning : Refusal → List ℕ
refusal_meaning NoTable = codes "there is no such table"
refusal_meaning TooManyColumns = codes "the table has 8 columns already"
refusal_meaning UnknownKind = codes "there is no such kind of column"
refusal_meaning WrongDomain = codes "the domain does not take this column"
refusal_meaning NotPrefix = codes "not a prefix of at most 8 decimal digits"
refusal_meaning NoRow = codes "the table has no such row"
refusal_meaning NoColumn = codes "the table has no such column"
refusal_meaning WrongWidth = codes "not as many cells as columns, or none"
refusal_meaning (WrongKind cell) = codes "the cell is not of its column's kind"
refusal_meaning TableFull = codes "the table is full"
refusal_meaning QueryLength = codes "the query is empty or too long"
refusal_meaning (TooManyRecords rec) = codes "more than 15 records"
refusal_meaning (BrokenRecord rec) = codes "the record is cut short"
refusal_meaning (UnknownRecord rec) = codes "there is no such kind of record"
refusal_meaning (WrongForm rec) = codes "the record's body has a wrong form"
refusal_meaning (StackShort rec) = codes "too few relations for the record"
refusal_meaning (NoSuchName rec) = codes "no such table or column"
refusal_meaning (Unfit rec) = codes "the kinds do not fit"
refusal_meaning (ProductTooWide rec) = codes "the product is wider than 8 columns"
refusal_meaning (NotOneRelation count) = codes "not exactly one relation is left"
refusal_meaning (TooManyRows rec) = codes "too many rows for the workspace"
refusal_meaning (ReplyTooLong count) = codes "the reply does not fit its buffer"
refusal_meaning TooManyRules = codes "the policy has 16 rules already"
refusal_meaning RegisterFull = codes "the register has 64 entries already"
