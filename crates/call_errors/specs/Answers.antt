-- The numbers of the calls' answers, as the rule book has them.
use Rattle.std.specs.Prelude.{ℕ, Result, Ok, Err}
use Rattle.rules.specs.Numbers.{done, other_memory, no_register, nothing_waits, no_record, in_work, too_short, bad_file, not_in_form, too_much, bad_feed}
use Rattle.call_errors.specs.declared.CallError.{CallError}
use Rattle.call_errors.specs.declared.CallError.TheVariants.{OtherMemory, NoRegister, NothingWaits, NoRecord, InWork, TooShort, BadFile, NotInForm, TooMuch, BadFeed}

abbrev pub number_of : CallError → ℕ
number_of OtherMemory = other_memory
number_of NoRegister = no_register
number_of NothingWaits = nothing_waits
number_of NoRecord = no_record
number_of InWork = in_work
number_of TooShort = too_short
number_of BadFile = bad_file
number_of NotInForm = not_in_form
number_of TooMuch = too_much
number_of BadFeed = bad_feed

-- done, or why not
abbrev pub answer_of : {A : Type 0} → Result A CallError → ℕ
answer_of (Ok x) = done
answer_of (Err e) = number_of e
