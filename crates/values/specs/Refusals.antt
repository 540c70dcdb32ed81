-- R14.1: the number of each refusal of an assembly; 0 is none.
use Rattle.std.specs.Prelude.{ℕ, Result, Ok, Err}
use Rattle.values.specs.declared.refusals.Refusal.{Refusal}
use Rattle.values.specs.declared.refusals.Refusal.TheVariants.{BrokenCard, TooManyCards, SmallWorkArea, MisplacedEnd, BadByte, BadName, UnknownOperation, MisplacedStart, MisplacedName, Malformed, DefinedBefore, TooManyNames, Undefined, WrongKind, OutOfRange, BadSize, NoBase, OutOfReach, NoRoom, SmallOutput}

abbrev pub number_of : Refusal → ℕ
number_of BrokenCard = 1
number_of TooManyCards = 2
number_of SmallWorkArea = 3
number_of MisplacedEnd = 9
number_of BadByte = 10
number_of BadName = 11
number_of UnknownOperation = 12
number_of MisplacedStart = 13
number_of MisplacedName = 14
number_of Malformed = 15
number_of DefinedBefore = 16
number_of TooManyNames = 17
number_of Undefined = 18
number_of WrongKind = 19
number_of OutOfRange = 20
number_of BadSize = 21
number_of NoBase = 22
number_of OutOfReach = 23
number_of NoRoom = 24
number_of SmallOutput = 30

-- the number of a refusal, or 0 where there is none
abbrev pub number_in : {X : Type 0} → Result X Refusal → ℕ
number_in (Ok x) = 0
number_in (Err r) = number_of r
