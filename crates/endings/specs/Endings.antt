-- The paper's number and values of each ending.
-- Assumes nothing.
use Rattle.std.specs.Prelude.{ℕ, Bool, false, Option, None, eqb}
use Rattle.choices.specs.Choice.{pick}
use Rattle.answers.specs.Answers.{success, bad_header, no_room, attempts_used_up, withdrawn, nothing, broke_its_word, out_of_reach}
use Rattle.header.specs.declared.Fault.{Fault}
use Rattle.endings.specs.declared.Ending.{Ending}
use Rattle.endings.specs.declared.Ending.TheVariants.{Success, BadHeader, OutOfReach, NoRoom, UsedUp, Withdrawn, Nothing, BrokeItsWord}

-- its number
abbrev pub number_of : Ending → ℕ
number_of (Success unread) = success
number_of (BadHeader fault) = bad_header
number_of OutOfReach = out_of_reach
number_of NoRoom = no_room
number_of UsedUp = attempts_used_up
number_of Withdrawn = withdrawn
number_of Nothing = nothing
number_of BrokeItsWord = broke_its_word

-- a newer capture was acknowledged unread
abbrev pub newer_of : Ending → Bool
newer_of (Success unread) = unread
newer_of (BadHeader fault) = false
newer_of OutOfReach = false
newer_of NoRoom = false
newer_of UsedUp = false
newer_of Withdrawn = false
newer_of Nothing = false
newer_of BrokeItsWord = false

-- what is at fault in the header that it came by; nothing with any ending but a bad header's
abbrev pub fault_in : Ending → Option Fault
fault_in (Success unread) = None
fault_in (BadHeader fault) = fault
fault_in OutOfReach = None
fault_in NoRoom = None
fault_in UsedUp = None
fault_in Withdrawn = None
fault_in Nothing = None
fault_in BrokeItsWord = None

-- the ending by what speaks against an area that cannot be collected
abbrev pub short_by : ℕ → Ending
short_by answer = pick (eqb answer out_of_reach) OutOfReach NoRoom
