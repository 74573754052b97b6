-- Document 01, "Why a record was declined": the number of each refusal; the number, and the number and place, that a result comes to.
-- Assumes nothing.
use Rattle.std.specs.Prelude.{ℕ, Result, Ok, Err}
use Rattle.refusals.specs.declared.Refusal.{Refusal}
use Rattle.refusals.specs.declared.Refusal.TheVariants.{FewMatrixBytes, MatrixLengthField, MatrixKind, MatrixSize, MatrixLength, ShortBuffer, ShortRecord, UnexpectedRecord, FieldOutOfRange, WrongWidth, WrongTotals, BytesLeftOver, SizesDiffer, RowDiffers, SampleCount, OutputCount, FileForm, EntryCount, EntryForm, SampleWidthOutside, SampleOutside}
use Rattle.refusals.specs.declared.Refused.{Refused}

abbrev pub number : Refusal → ℕ
number FewMatrixBytes = 1
number MatrixLengthField = 2
number MatrixKind = 3
number MatrixSize = 4
number MatrixLength = 5
number ShortBuffer = 6
number ShortRecord = 7
number UnexpectedRecord = 8
number FieldOutOfRange = 9
number WrongWidth = 10
number WrongTotals = 11
number BytesLeftOver = 12
number SizesDiffer = 13
number RowDiffers = 14
number SampleCount = 15
number OutputCount = 16
number FileForm = 17
number EntryCount = 18
number EntryForm = 19
number SampleWidthOutside = 20
number SampleOutside = 21

abbrev pub refused_at : Refusal → ℕ → Refused
refused_at refusal place = record { refusal = refusal; place = place }

-- 0 where nothing is refused
abbrev pub number_of : {A : Type 0} → Result A Refusal → ℕ
number_of (Ok x) = 0
number_of (Err refusal) = number refusal

-- the number and the place, both 0 where nothing is refused
abbrev pub refusal_in : {A : Type 0} → Result A Refused → ℕ
refusal_in (Ok x) = 0
refusal_in (Err refused) = number refused.refusal

abbrev pub place_in : {A : Type 0} → Result A Refused → ℕ
place_in (Ok x) = 0
place_in (Err refused) = refused.place
