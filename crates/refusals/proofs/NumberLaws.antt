-- No refusal has the number 0, so that 0 can stand for none. Assumes nothing.
use Rattle.std.specs.Prelude.{◌<◌}
use Rattle.std.proofs.Common.{arith}
use Rattle.refusals.specs.declared.Refusal.{Refusal}
use Rattle.refusals.specs.declared.Refusal.TheVariants.{FewMatrixBytes, MatrixLengthField, MatrixKind, MatrixSize, MatrixLength, ShortBuffer, ShortRecord, UnexpectedRecord, FieldOutOfRange, WrongWidth, WrongTotals, BytesLeftOver, SizesDiffer, RowDiffers, SampleCount, OutputCount, FileForm, EntryCount, EntryForm, SampleWidthOutside, SampleOutside}
use Rattle.refusals.specs.Numbers.{number}

pub number-positive : (r : Refusal) → 0 < number r
number-positive FewMatrixBytes = omega arith
number-positive MatrixLengthField = omega arith
number-positive MatrixKind = omega arith
number-positive MatrixSize = omega arith
number-positive MatrixLength = omega arith
number-positive ShortBuffer = omega arith
number-positive ShortRecord = omega arith
number-positive UnexpectedRecord = omega arith
number-positive FieldOutOfRange = omega arith
number-positive WrongWidth = omega arith
number-positive WrongTotals = omega arith
number-positive BytesLeftOver = omega arith
number-positive SizesDiffer = omega arith
number-positive RowDiffers = omega arith
number-positive SampleCount = omega arith
number-positive OutputCount = omega arith
number-positive FileForm = omega arith
number-positive EntryCount = omega arith
number-positive EntryForm = omega arith
number-positive SampleWidthOutside = omega arith
number-positive SampleOutside = omega arith
