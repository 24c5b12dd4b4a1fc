-- What the writers of a dump's text say: the rule book's text, in a lent buffer.
use Rattle.std.specs.Prelude.{◌≡◌, Bool, List, ℕ, ◌≤◌, ◌<◌, ◌^◌, ltb, length, take, Result}
use Rattle.std.specs.Result.{result_unwrap_or}
use Rattle.machine.specs.Machine.{pick}
use Rattle.rules.specs.Numbers.{done, too_short}
use Rattle.rules.specs.Lists.{over}
use Rattle.rules.specs.Dump.{text_of, dump_of, listing}
use Rattle.text_numbers.specs.Writing.{Puts}
use Rattle.call_errors.specs.Answers.{answer_of}
use Rattle.call_errors.specs.declared.CallError.{CallError}

-- ---- put_dump

-- the text is at the buffer's front; its length is less than 2^36, since the size of a stream is a word
pub record PutsDump (strict : Bool) (s b : List ℕ) (end : ℕ) (m : List ℕ) : Type 0 where
  pub puts : Puts 0 (text_of (dump_of strict s)) b end m
  pub small : end < 2 ^ 36

-- ---- the call of a host

-- an answer, a length, and the buffer as the call leaves it
pub record Dumped : Type 0 where
  pub answer : ℕ
  pub length : ℕ
  pub buffer : List ℕ

abbrev pub too_short_for : List ℕ → Dumped
too_short_for buffer = record { answer = too_short; length = 0; buffer = buffer }

-- "The text for a packet is exact": the buffer begins with the text of the dump and keeps its later bytes. One that is shorter than the text answers 6,
-- with length 0, and stays as it was.
unfoldable pub call_dump : Bool → List ℕ → List ℕ → Dumped
call_dump strict s buffer =
    pick (ltb (length buffer) (length (text_of (dump_of strict s)))) (too_short_for buffer)
    (record {
      answer = done;
      length = length (text_of (dump_of strict s));
      buffer = over 0 (text_of (dump_of strict s)) buffer;
    })

-- beside a refusal stands length 0
abbrev pub dumped_of : Result ℕ CallError → List ℕ → Dumped
dumped_of x buffer = record { answer = answer_of x; length = result_unwrap_or x 0; buffer = buffer }

pub record Dumps (strict : Bool) (s buffer : List ℕ) (x : Result ℕ CallError) (buffer' : List ℕ) : Type 0 where
  pub dumps : dumped_of x buffer' ≡ call_dump strict s buffer
  pub small : result_unwrap_or x 0 < 2 ^ 36

-- ---- list

-- room for the listing of every input
abbrev pub longest_listing : ℕ
longest_listing = 655450

-- the first n bytes of a buffer are the listing
pub record Listing (input : List ℕ) (n : ℕ) (m : List ℕ) : Type 0 where
  pub text : take n m ≡ listing input
  pub within : n ≤ length m
  pub count : n ≡ length (take n m)
