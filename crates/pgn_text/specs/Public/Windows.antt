-- What contracts see of a `Blocks`, and what one call of `next` does to it.
use Rattle.std.specs.Prelude.{◌≡◌, ◌≢◌, ℕ, ◌+◌, ◌-◌, ◌<◌, ◌≤◌, Bool, true, false, List, [], ◌∷◌}
use Rattle.std.specs.Prelude.{◌++◌, length, drop, Option, Some, None, Result, Ok, Err}
use Rattle.std.specs.Io.KnownBytes.{IsAtEnd}
use Rattle.pgn_text.specs.Public.Limits.{largest_offset}
use Rattle.pgn_text.specs.Public.Blocks.{IsFirstBlock}
use Rattle.pgn_text.specs.declared.io.blocks.Block.{Block}
use Rattle.pgn_text.specs.declared.io.blocks.Body.{Body}
use Rattle.pgn_text.specs.declared.io.blocks.Body.TheVariants.{Bytes, TooLong}
use Rattle.pgn_text.specs.declared.io.blocks.ReadError.{ReadError}
use Rattle.pgn_text.specs.declared.io.blocks.ReadError.TheVariants.{Read, OutOfMemory, InputTooLong}
use Rattle.pgn_text.specs.declared.io.blocks.ReadError.TheVariants.{Failed}

-- the bytes held: those done with, which end with the block answered last, and those ahead, the
-- first of which has the offset `place`; and whether an error, the last block and the end have been
-- answered
pub record Window : Type 0 where
  pub done : List ℕ
  pub ahead : List ℕ
  pub place : ℕ
  pub failed : Bool
  pub ended : Bool
  pub over : Bool

-- the window before the first byte of a text that begins at an offset
abbrev pub fresh_window : ℕ → Window
fresh_window offset =
    record { done = []; ahead = []; place = offset; failed = false; ended = false; over = false }

-- the bytes of the next block, cut off from those held ahead and those read in the call, so a
-- stretch of what was held as the call began and what it read: they are the first block whatever
-- follows, and the last one where the reader is at its end
pub record IsCutOff (old new : Window) (left' : Option (List ℕ)) (read bytes : List ℕ) : Type 0
  where
    pub going : old.ended ≡ false
    pub parted : old.ahead ++ read ≡ bytes ++ new.ahead
    pub first : (rest : List ℕ) → (new.ended ≡ true → rest ≡ [])
        → IsFirstBlock bytes (new.ahead ++ rest)
    pub place : new.place ≡ old.place + length bytes
    pub within : new.place + length new.ahead ≤ largest_offset
    pub last : new.ended ≡ true → (new.ahead ≡ []) × IsAtEnd left'
    pub more : new.ended ≡ false → new.ahead ≢ []
    pub sound : (new.failed ≡ false) × (new.over ≡ false)

-- of the bytes held as the call began and those read in it the first were given up, and the others
-- are held, done with or ahead
pub record HoldsTheRest (old new : Window) (read : List ℕ) : Type 0 where
  pub given_up : List ℕ
  pub held : (old.done ++ old.ahead) ++ read ≡ given_up ++ (new.done ++ new.ahead)

-- what was read of the block holds no event line, up to where reading failed
pub record IsCutShort (place : ℕ) (bytes : List ℕ) : Type 0 where
  pub uncut : IsFirstBlock bytes []
  pub within : place + length bytes ≤ largest_offset

-- the block reaches the largest offset, and one more byte was there
pub record IsPastEnd (place : ℕ) (ahead read : List ℕ) : Type 0 where
  pub kept : List ℕ
  pub byte : ℕ
  pub parted : read ≡ kept ++ byte ∷ []
  pub uncut : IsFirstBlock (ahead ++ kept) []
  pub full : place + length (ahead ++ kept) ≡ largest_offset

-- what holds of the bytes ahead and those read where a call ends with the error
abbrev pub FailsAfter : ℕ → List ℕ → List ℕ → ReadError → Type 0
FailsAfter place ahead read Read = IsCutShort place (ahead ++ read)
FailsAfter place ahead read OutOfMemory = place + length (ahead ++ read) ≤ largest_offset
FailsAfter place ahead read InputTooLong = IsPastEnd place ahead read
FailsAfter place ahead read Failed = read ≡ []

-- the body shows the bytes of the block, or how many they are where they are more than the limit
abbrev pub Shows : ℕ → Body → List ℕ → Type 0
Shows limit (Bytes shown) bytes = (shown.now ≡ bytes) × (length bytes ≤ limit)
Shows limit (TooLong size) bytes = (limit < length bytes) × (size ≡ length bytes)

-- the bytes are the last of these, so many
abbrev pub EndsIn : List ℕ → ℕ → List ℕ → Type 0
EndsIn done size bytes = (size ≤ length done) × (drop (length done - size) done ≡ bytes)

-- the block has these bytes, which end where the window now begins; those of a block within the
-- limit are the last of those done with
abbrev pub IsBlock : ℕ → Window → List ℕ → Block → Type 0
IsBlock limit window bytes block =
    Shows limit block.body bytes × (block.offset + length bytes ≡ window.place)
    × (length bytes ≤ limit → EndsIn window.done (length bytes) bytes)

-- what a call of `next` that took the bytes `read` did, by its answer
abbrev pub Gives : ℕ → Window → Window → Option (List ℕ) → List ℕ → Result (Option Block) ReadError
    → Type 0
Gives limit old new left' read (Ok (Some block)) =
    (bytes : List ℕ) × IsCutOff old new left' read bytes × IsBlock limit new bytes block
Gives limit old new left' read (Ok None) =
    (old.ended ≡ true) × (read ≡ []) × (new.over ≡ true) × (new.ended ≡ true) × (new.failed ≡ false)
Gives limit old new left' read (Err error) =
    (new.failed ≡ true) × (old.ended ≡ true → error ≡ Failed)
    × FailsAfter old.place old.ahead read error
