-- The number of each refusal.
-- Assumes nothing.
use Rattle.std.specs.Prelude.{ℕ}
use Rattle.verdict.specs.declared.Reason.{Reason}
use Rattle.verdict.specs.declared.Reason.TheVariants.{NothingWanted, TooManyKinds, UnevenColumns, OutOfRange, WrongCounts, WrongRuns, WrongEntry, NamedTwice, WrongBox, WrongKit, NoGroup, TooWide, NoRoom, NoLine, NotInForm, BytesLeft, TooShort, TooLong}

abbrev pub number : Reason → ℕ
number NothingWanted = 1
number TooManyKinds = 2
number UnevenColumns = 11
number OutOfRange = 12
number WrongCounts = 21
number WrongRuns = 22
number WrongEntry = 23
number NamedTwice = 24
number WrongBox = 25
number WrongKit = 26
number NoGroup = 31
number TooWide = 33
number NoRoom = 41
number NoLine = 51
number NotInForm = 52
number BytesLeft = 53
number TooShort = 54
number TooLong = 55
