-- What contracts see of a `Tally`, and what reads through it took from the bytes that its reader
-- has left.
use Rattle.std.specs.Prelude.{◌≡◌, ℕ, ◌+◌, ◌-◌, ◌^◌, ◌<◌, ◌≤◌, Bool, ◌&&◌, ◌==◌, false, not, min}
use Rattle.std.specs.Prelude.{List, ◌++◌, length, Option, Result, Ok, Err}
use Rattle.std.specs.Io.KnownBytes.{Consumes, IsAtEnd}

-- a reader or a writer, whether a call to it has failed, how many bytes it moved, and whether its
-- last call was a good flush
pub record Tallied (T : Type 0) : Type 0 where
  pub inner : T
  pub faulted : Bool
  pub moved : ℕ
  pub flushed : Bool

-- the count of moved bytes after a call that answered so: it stays at the largest 64-bit number,
-- and an error moves nothing
abbrev pub moved_by : {E : Type 0} → ℕ → Result ℕ E → ℕ
moved_by moved (Ok count) = min (moved + count) (2 ^ 64 - 1)
moved_by moved (Err error) = moved

-- a write of these bytes answered that it took none of them, though there were some
abbrev pub takes_nothing : {E : Type 0} → Result ℕ E → List ℕ → Bool
takes_nothing (Ok count) bytes = (count == 0) && not (length bytes == 0)
takes_nothing (Err error) bytes = false

-- reads took the bytes `read` from the front of the bytes left, and counted them
pub record Reads (left left' : Option (List ℕ)) (moved moved' : ℕ) (read : List ℕ) : Type 0 where
  pub bytes : Consumes left left' read
  pub count : moved + length read < 2 ^ 64 → moved' ≡ moved + length read

-- one read put its bytes after those held; it gave none only at the end
pub record AppendsRead (held held' : List ℕ) (left left' : Option (List ℕ))
    (moved moved' room count : ℕ) : Type 0 where
  pub read : List ℕ
  pub reads : Reads left left' moved moved' read
  pub joined : held' ≡ held ++ read
  pub counted : length read ≡ count
  pub within : count ≤ room
  pub end : count ≡ 0 → IsAtEnd left'
