-- The numbers of answers: documents 01's and 02's of the refusals, and the header's of Absent.
use Rattle.std.specs.Prelude.{ℕ, Result, Ok, Err, Option, Some, None}
use Rattle.refusals.specs.declared.Refusal.{Refusal}
use Rattle.refusals.specs.declared.Refusal.TheVariants.{Setting, Lengths, BadRow, OffLattice, BadReading, NoPlace, TooLarge, NoWaitingPlace, OutOfRange, BadVertex, BadLength}

-- the number of a refusal
abbrev pub number_of : Refusal → ℕ
number_of Setting = 1
number_of Lengths = 2
number_of BadRow = 3
number_of OffLattice = 4
number_of BadReading = 5
number_of NoPlace = 6
number_of TooLarge = 7
number_of NoWaitingPlace = 8
number_of OutOfRange = 9
number_of BadVertex = 10
number_of BadLength = 11

-- the number of Absent, which is no refusal: a key that is not stored, no gradient, no box
abbrev pub absent_number : ℕ
absent_number = 101

-- the number of an answer: 0, or that of its refusal
abbrev pub answer_number : {A : Type 0} → Result A Refusal → ℕ
answer_number (Ok _) = 0
answer_number (Err why) = number_of why

-- the number of an answer that may be Absent
abbrev pub found_number : {A : Type 0} → Result (Option A) Refusal → ℕ
found_number (Ok (Some _)) = 0
found_number (Ok None) = absent_number
found_number (Err why) = number_of why
