-- Document 01, "Numbers of refusal": each number, named once; the number of a refusal, and of an answer that may be one.
use Rattle.std.specs.Prelude.{ℕ, Result, Ok, Err}
use Rattle.refusal.specs.declared.Refusal.{Refusal}
use Rattle.refusal.specs.declared.Refusal.TheVariants.{ShortFile, WrongKind, WrongLength, WrongCount, WrongCloser, WrongStatement, WrongName, WrongTarget, ExtraBytes, WrongThread, Unfit, NotReady, PastHorizon, HazardStands, LogFull, ShortTable, WrongPort, LackedPort, OutOfTurn}

-- 0 is no refusal
abbrev pub accepted : ℕ
accepted = 0

-- "bytes end before a record's head or length, or length below 4"
abbrev pub short_file : ℕ
short_file = 1

-- "kind not 1 to 4, or out of order"; "2 and 7 now let kind 5 and the port numbers through"
abbrev pub wrong_kind : ℕ
wrong_kind = 2

-- "length not that kind's"
abbrev pub wrong_length : ℕ
wrong_length = 3

-- "H, V or E out of range; 65th segment; 33rd thread"
abbrev pub wrong_count : ℕ
wrong_count = 4

-- "closer breaks its rules"
abbrev pub wrong_closer : ℕ
wrong_closer = 5

-- "operation not 1 to 6, or b not 0 in a notify"
abbrev pub wrong_statement : ℕ
wrong_statement = 6

-- "variable or event number not below V or E"
abbrev pub wrong_name : ℕ
wrong_name = 7

-- "next or first segment not below N"
abbrev pub wrong_target : ℕ
wrong_target = 8

-- "bytes after the end record"
abbrev pub extra_bytes : ℕ
extra_bytes = 9

-- "thread number not below T, the thread count"
abbrev pub wrong_thread : ℕ
wrong_thread = 10

-- "held model against the file rules; lent slice too short; .."
abbrev pub unfit : ℕ
unfit = 11

-- "thread not ready"
abbrev pub not_ready : ℕ
not_ready = 12

-- "13 applies to a time later than H"
abbrev pub past_horizon : ℕ
past_horizon = 13

-- "a hazard"
abbrev pub hazard_stands : ℕ
hazard_stands = 14

-- "cycle later than the floor and log plus new pairs above 96; or above 128 for any thread"
abbrev pub log_full : ℕ
log_full = 15

-- "table buffer below N × N words"
abbrev pub short_table : ℕ
short_table = 16

-- "all eight are 255 or a mapped number is neither 255 nor below V"
abbrev pub wrong_port : ℕ
wrong_port = 17

-- "a thread can reach a segment naming a port it leaves unused"
abbrev pub lacked_port : ℕ
lacked_port = 18

-- "a thread already running is granted or one not running is finished"
abbrev pub out_of_turn : ℕ
out_of_turn = 19

abbrev pub number_of : Refusal → ℕ
number_of ShortFile = short_file
number_of WrongKind = wrong_kind
number_of WrongLength = wrong_length
number_of WrongCount = wrong_count
number_of WrongCloser = wrong_closer
number_of WrongStatement = wrong_statement
number_of WrongName = wrong_name
number_of WrongTarget = wrong_target
number_of ExtraBytes = extra_bytes
number_of WrongThread = wrong_thread
number_of Unfit = unfit
number_of NotReady = not_ready
number_of PastHorizon = past_horizon
number_of HazardStands = hazard_stands
number_of LogFull = log_full
number_of ShortTable = short_table
number_of WrongPort = wrong_port
number_of LackedPort = lacked_port
number_of OutOfTurn = out_of_turn

-- 0 where nothing is refused
abbrev pub number_told : {A : Type 0} → Result A Refusal → ℕ
number_told (Ok _) = accepted
number_told (Err r) = number_of r
