-- What the parts of a step to the next record do.
use Rattle.std.specs.Prelude.{◌≡◌, ◌≢◌, ℕ, ◌+◌, ◌<◌, ◌≤◌, Bool, true, false, List, [], ◌++◌, length}
use Rattle.std.specs.Prelude.{take, drop, Option, Result, Ok, Err}
use Rattle.std.specs.Int.{w32, from_be_bytes}
use Rattle.std.specs.Io.KnownBytes.{Consumes, IsAtEnd}
use Rattle.pgn_text.specs.Public.Limits.{largest_offset}
use Rattle.pgn_game.specs.Public.PackedGames.{largest_body}
use Rattle.pgn_game.specs.Public.PackReading.{RawRecord, body_at}
use Rattle.pgn_game.specs.declared.pack.records.RecordsError.{RecordsError}
use Rattle.pgn_game.specs.declared.pack.records.RecordsError.TheVariants.{Read, OutOfMemory}
use Rattle.pgn_game.specs.declared.pack.records.RecordsError.TheVariants.{BadPack, InputTooLong}

-- the bytes are those of a record after its size, so many of them those of its plies
abbrev pub HasBody : List ℕ → ℕ → Type 0
HasBody bytes plies =
    (raw : RawRecord) × (body_at bytes ≡ Ok raw) × (length raw.plies ≡ plies)

-- the record lies within the bytes, so many of its own are those of its plies, and it ends within
-- the largest offset
pub record LiesWithin (held : List ℕ) (size plies place : ℕ) : Type 0 where
  pub within : size ≤ length held
  pub body : 0 < size → HasBody (drop 4 (take size held)) plies
  pub room : place + size ≤ largest_offset

-- bytes are read after those that there are
pub record ReadsOn (old new : List ℕ) (left left' : Option (List ℕ)) : Type 0 where
  pub read : List ℕ
  pub bytes : Consumes left left' read
  pub joined : new ≡ old ++ read

-- how many bytes follow in the record in front, as its first four bytes say
abbrev pub size_in : List ℕ → ℕ
size_in bytes = from_be_bytes w32 (take 4 bytes)

-- the first four bytes are there, and all that they speak of; or they speak of too many
pub record IsWhole (bytes : List ℕ) : Type 0 where
  pub sized : 4 ≤ length bytes
  pub filled : size_in bytes ≤ largest_body → size_in bytes + 4 ≤ length bytes

-- they are not there, or something that they speak of is not
pub record IsPart (bytes : List ℕ) : Type 0 where
  pub short : 4 ≤ length bytes → length bytes < size_in bytes + 4
  pub small : 4 ≤ length bytes → size_in bytes ≤ largest_body

-- a read failed before the bytes showed whether a record stands in front of them
pub record ReadsPart (old : List ℕ) (left left' : Option (List ℕ)) : Type 0 where
  pub read : List ℕ
  pub bytes : Consumes left left' read
  pub part : IsPart (old ++ read)

-- what reading up to the whole of a record does, by its answer: the bytes show whether there is
-- one; or there are none
abbrev pub HoldsWhole : List ℕ → List ℕ → Option (List ℕ) → Option (List ℕ)
    → Result Bool RecordsError → Type 0
HoldsWhole old new left left' (Ok true) = ReadsOn old new left left' × IsWhole new
HoldsWhole old new left left' (Ok false) = ReadsOn old new left left' × (new ≡ []) × IsAtEnd left'
HoldsWhole old new left left' (Err BadPack) =
    ReadsOn old new left left' × (new ≢ []) × IsPart new × IsAtEnd left'
HoldsWhole old new left left' (Err InputTooLong) = ⊥
HoldsWhole old new left left' (Err Read) = ReadsPart old left left'
HoldsWhole old new left left' (Err OutOfMemory) = Unit {0}
