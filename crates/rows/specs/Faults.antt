-- What a refusal of a table's text says: the first fault, and that everything before it is in order. Assumes nothing.
use Rattle.std.specs.Prelude.{◌≡◌, ℕ, ◌+◌, ◌<◌, ◌≤◌, ◌⊎◌, List, [], ◌++◌, length, slice_index_or}
use Rattle.std.specs.List.{AllByRecursion}
use Rattle.plant.specs.declared.refusal.Reason.{Reason}
use Rattle.plant.specs.declared.refusal.Reason.TheVariants.{TextTooLong, MemoryTooShort, TableGrammar, FieldCount, FieldForm, RowNumber, RowCount, LineEnds, TreeGrammar, TooDeep, LeafNumber, HalvesApart, NotThePlant, Blank, NoSuchRecord, OutOfRange, NothingFits, NotOpen}
use Rattle.tables.specs.Laws.{Refused, Follows}
use Rattle.tables.specs.Numerals.{spelled}
use Rattle.tables.specs.Written as W
use Rattle.rows.specs.Written.{Form, Lists, meant}

-- ---- the rules of a row by what its fields mean

-- it has as many fields as the header
abbrev pub Counted : {A : Type 0} → Form A → List (List ℕ) → Type 0
Counted F cs = length cs ≡ length F.head

-- its fields are written as those of some row, with values in range, at whatever number
abbrev pub Formed : {A : Type 0} → Form A → List (List ℕ) → Type 0
Formed {A} F cs = (i : ℕ) × (a : A) × F.InRange a × (cs ≡ F.cells i a)

-- its first field is its number
abbrev pub Numbered : ℕ → List (List ℕ) → Type 0
Numbered k cs = slice_index_or cs 0 [] ≡ spelled k

-- its ends, if it is a line, are two different stations
abbrev pub Ended : {A : Type 0} → Form A → List (List ℕ) → Type 0
Ended {A} F cs = (i : ℕ) × (a : A) × F.InRange a × F.Between a × (cs ≡ F.cells i a)

-- The k-th row, counted from 0, breaks the rule of this reason and none of those before it: one too many, the count of fields, their form,
-- the row's number, a line's ends. There is no other rule.
abbrev pub Breaks : {A : Type 0} → Form A → ℕ → List (List ℕ) → Reason → Type 0
Breaks F k cs RowCount = F.most ≤ k
Breaks F k cs FieldCount = (k < F.most) × (Counted F cs → ⊥)
Breaks F k cs FieldForm = (k < F.most) × Counted F cs × (Formed F cs → ⊥)
Breaks F k cs RowNumber = (k < F.most) × Counted F cs × Formed F cs × (Numbered k cs → ⊥)
Breaks F k cs LineEnds = (k < F.most) × Counted F cs × Formed F cs × Numbered k cs × (Ended F cs → ⊥)
Breaks F k cs TextTooLong = ⊥
Breaks F k cs MemoryTooShort = ⊥
Breaks F k cs TableGrammar = ⊥
Breaks F k cs TreeGrammar = ⊥
Breaks F k cs TooDeep = ⊥
Breaks F k cs LeafNumber = ⊥
Breaks F k cs HalvesApart = ⊥
Breaks F k cs NotThePlant = ⊥
Breaks F k cs Blank = ⊥
Breaks F k cs NoSuchRecord = ⊥
Breaks F k cs OutOfRange = ⊥
Breaks F k cs NothingFits = ⊥
Breaks F k cs NotOpen = ⊥

-- ---- the faults of a text

-- The text is these records, each with its CRLF, and then the rest.
pub record After (s : List ℕ) (before : List W.Row) (rest : List ℕ) : Type 0 where
  pub proper : AllByRecursion W.Proper before
  pub split : s ≡ W.lines before ++ rest

-- The rest of a text begins with this record, which ends with its CRLF or where the text ends.
pub record Next (rest : List ℕ) (this : W.Row) : Type 0 where
  pub proper : W.Proper this
  pub there : Follows rest [] this

-- A byte, or the end, is not allowed: after the header and rows that are in order, or within the header, and before the next record ends.
pub record GrammarAtFault {A : Type 0} (F : Form A) (s : List ℕ) (place : ℕ) : Type 0 where
  pub before : List W.Row
  pub rest : List ℕ
  pub after : After s before rest
  pub order : (before ≡ []) ⊎ ((rows : List A) × Lists F before rows)
  pub unended : (this : W.Row) → Next rest this → ⊥
  pub fault : Refused s place

-- The first record is not the header.
pub record HeaderAtFault {A : Type 0} (F : Form A) (s : List ℕ) (place : ℕ) : Type 0 where
  pub this : W.Row
  pub next : Next s this
  pub first : place ≡ 0
  pub fault : meant this ≡ F.head → ⊥

-- A record is read whole after the header and rows that are in order, and breaks a rule.
pub record RowAtFault {A : Type 0} (F : Form A) (s : List ℕ) (place : ℕ) (r : Reason) : Type 0 where
  pub before : List W.Row
  pub rest : List ℕ
  pub after : After s before rest
  pub rows : List A
  pub order : Lists F before rows
  pub more : 0 < length rest
  pub this : W.Row
  pub next : Next rest this
  pub number : place ≡ length rows + 1
  pub fault : Breaks F (length rows) (meant this) r

-- The whole text is a table in order, with too few rows.
pub record TooFew {A : Type 0} (F : Form A) (s : List ℕ) (place : ℕ) : Type 0 where
  pub table : W.Table
  pub whole : W.Whole table
  pub text : s ≡ W.text table
  pub rows : List A
  pub order : Lists F (W.rows table) rows
  pub number : place ≡ length rows
  pub fault : length rows < F.least

-- what each reason says of a text and a place, which is a byte's for the grammar, the count of rows for too few, and else the record's; no
-- other reason is given
abbrev pub FirstFault : {A : Type 0} → Form A → List ℕ → ℕ → Reason → Type 0
FirstFault F s place TableGrammar = GrammarAtFault F s place
FirstFault F s place FieldCount = HeaderAtFault F s place ⊎ RowAtFault F s place FieldCount
FirstFault F s place FieldForm = RowAtFault F s place FieldForm
FirstFault F s place RowNumber = RowAtFault F s place RowNumber
FirstFault F s place RowCount = RowAtFault F s place RowCount ⊎ TooFew F s place
FirstFault F s place LineEnds = RowAtFault F s place LineEnds
FirstFault F s place TextTooLong = ⊥
FirstFault F s place MemoryTooShort = ⊥
FirstFault F s place TreeGrammar = ⊥
FirstFault F s place TooDeep = ⊥
FirstFault F s place LeafNumber = ⊥
FirstFault F s place HalvesApart = ⊥
FirstFault F s place NotThePlant = ⊥
FirstFault F s place Blank = ⊥
FirstFault F s place NoSuchRecord = ⊥
FirstFault F s place OutOfRange = ⊥
FirstFault F s place NothingFits = ⊥
FirstFault F s place NotOpen = ⊥
