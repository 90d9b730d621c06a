-- The number of each refusal. It stands here alone; contracts and programs take it from here.
use Rattle.std.specs.Prelude.{ℕ}
use Rattle.refusals.specs.declared.Refusal.{Refusal}
use Rattle.refusals.specs.declared.Refusal.TheVariants.{NotASheet, UnknownIssue, OtherKind, Truncated, TrailingBytes, Full, NotACode, CodeTaken, NoSuchUnit, SelfLink, NoWeight, OverLimit, NoSuchLink, BadMark, NoDivision, LongCode, ShortMemory, AlreadyWaiting, NotWaiting}

abbrev pub number_of : Refusal → ℕ
number_of NotASheet = 1
number_of UnknownIssue = 2
number_of OtherKind = 3
number_of Truncated = 4
number_of TrailingBytes = 5
number_of Full = 6
number_of NotACode = 7
number_of CodeTaken = 8
number_of NoSuchUnit = 9
number_of SelfLink = 10
number_of NoWeight = 11
number_of OverLimit = 12
number_of NoSuchLink = 13
number_of BadMark = 14
number_of NoDivision = 15
number_of LongCode = 16
number_of ShortMemory = 17
number_of AlreadyWaiting = 18
number_of NotWaiting = 19
