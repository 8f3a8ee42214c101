-- The numbers that calls return, as tags.h names them; negsuc n is -(n + 1).
use Rattle.tag_c.specs.Uses.{BadCount, Bool, CallerCount, Err, false, Found, LifeTooLong, Memory, negsuc, None, NoReserved, NoSuchTag, NotHeld, NotPosted, Ok, Option, pos, ReservedTooLarge, Result, OpenFault, ShiftTooLarge, Some, Spent, TagFault, TooShallow, TotalTooLarge}
use Rattle.tag_c.specs.Uses.{true, ℕ, ℤ, ⊤}
use Rattle.tag_c.specs.Left.{answer_of}
use Rattle.tag_c.specs.declared.status.Status.{Status}
use Rattle.tag_c.specs.declared.status.Status.TheVariants.{Done, Refused, NoTag, BadHandle, NotEmpty, NoHand, HandsOut, BadKind, TooSmall, BadFlag, NotOpened, NoBerth, HandLost, InUse, HandsWait, CacheTooLarge}

-- the number is negative, so it is a refusal
abbrev pub IsRefusal : ℤ → Type 0
IsRefusal (pos n) = ⊥
IsRefusal (negsuc n) = ⊤

-- the number of a refusal by `tag_pool`
abbrev pub code_of_fault : TagFault → ℤ
code_of_fault NoSuchTag = negsuc 0
code_of_fault NoReserved = negsuc 1
code_of_fault NotHeld = negsuc 2
code_of_fault NotPosted = negsuc 3
code_of_fault BadCount = negsuc 4
code_of_fault TooShallow = negsuc 5
code_of_fault Spent = negsuc 6

-- the number of the reason why the tags could not be opened
abbrev pub code_of_open_fault : OpenFault → ℤ
code_of_open_fault Memory = negsuc 20
code_of_open_fault TotalTooLarge = negsuc 21
code_of_open_fault ReservedTooLarge = negsuc 22
code_of_open_fault ShiftTooLarge = negsuc 23
code_of_open_fault CallerCount = negsuc 24
code_of_open_fault LifeTooLong = negsuc 25

-- the number of a status
abbrev pub code_of : Status → ℤ
code_of Done = pos 0
code_of (Refused fault) = code_of_fault fault
code_of NoTag = negsuc 9
code_of BadHandle = negsuc 11
code_of NotEmpty = negsuc 12
code_of NoHand = negsuc 13
code_of HandsOut = negsuc 14
code_of BadKind = negsuc 15
code_of TooSmall = negsuc 16
code_of BadFlag = negsuc 17
code_of (NotOpened fault) = code_of_open_fault fault
code_of NoBerth = negsuc 18
code_of HandLost = negsuc 19
code_of InUse = negsuc 28
code_of HandsWait = negsuc 29
code_of CacheTooLarge = negsuc 34

-- the tag, or the reason why there is none
abbrev pub code_of_get : Result (Option ℕ) TagFault → ℤ
code_of_get (Ok (Some tag)) = pos tag
code_of_get (Ok None) = code_of NoTag
code_of_get (Err fault) = code_of_fault fault

-- the same of a get that also tells how many tags it left free
abbrev pub code_of_found : Result (Found ℕ) TagFault → ℤ
code_of_found found = code_of_get (answer_of found)

-- the first tag of a batch, or why there is none
abbrev pub code_of_batch : Result (Option (ℕ × ℕ)) TagFault → ℤ
code_of_batch (Ok (Some won)) = pos won.0
code_of_batch (Ok None) = code_of NoTag
code_of_batch (Err fault) = code_of_fault fault

-- the same of a get that also tells how many tags it left free
abbrev pub code_of_found_batch : Result (Found (ℕ × ℕ)) TagFault → ℤ
code_of_found_batch found = code_of_batch (answer_of found)

-- 0 if all of several tags were taken, or that there is no tag
abbrev pub code_of_all : Bool → ℤ
code_of_all true = pos 0
code_of_all false = code_of NoTag

-- the same of a get of several tags, or the reason for the refusal
abbrev pub code_of_many : Result (Bool × ℕ) TagFault → ℤ
code_of_many (Ok found) = code_of_all found.0
code_of_many (Err fault) = code_of_fault fault

-- 0 on success, or the reason for the refusal
abbrev pub code_of_done : {A : Type 0} → Result A TagFault → ℤ
code_of_done (Ok done) = pos 0
code_of_done (Err fault) = code_of_fault fault

-- the same answer with this number
abbrev pub counted : {A : Type 0} → ℕ → Result A TagFault → Result ℕ TagFault
counted n (Ok done) = Ok n
counted n (Err fault) = Err fault
