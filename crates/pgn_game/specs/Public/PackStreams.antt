-- The records of a pack, one after another, as a reader gives them.
use Rattle.std.specs.Prelude.{◌≡◌, ◌≢◌, ℕ, ◌+◌, ◌<◌, Bool, true, false, List, [], ◌++◌, length}
use Rattle.std.specs.Prelude.{Option, IfSome, Result, Ok, Err}
use Rattle.std.specs.Io.KnownBytes.{Consumes, IsAtEnd}
use Rattle.pgn_text.specs.Public.Limits.{largest_offset}
use Rattle.pgn_game.specs.Public.PackedGames.{PackedGame, FitsRecord, record_bytes}
use Rattle.pgn_game.specs.declared.pack.records.RecordsError.{RecordsError}
use Rattle.pgn_game.specs.declared.pack.records.RecordsError.TheVariants.{Read, OutOfMemory}
use Rattle.pgn_game.specs.declared.pack.records.RecordsError.TheVariants.{BadPack, InputTooLong}

-- what is held of a pack: the record that was stepped to, which is none at first, the bytes after
-- it, and how many bytes stand before it
pub record Window : Type 0 where
  pub current : List ℕ
  pub ahead : List ℕ
  pub place : ℕ

-- what is held before the first record
abbrev pub fresh_window : Window
fresh_window = record { current = []; ahead = []; place = 0 }

-- the bytes are the spelling of a packed game
abbrev pub IsRecord : List ℕ → Type 0
IsRecord bytes = (game : PackedGame) × FitsRecord game × (bytes ≡ record_bytes game)

-- in front of the bytes stands no spelling of a packed game
abbrev pub HasNoRecord : List ℕ → Type 0
HasNoRecord bytes = (game : PackedGame) (rest : List ℕ) → FitsRecord game
    → bytes ≡ record_bytes game ++ rest → ⊥

-- a step gave up the record that was held, and read so many bytes that what is held now begins
-- after it
pub record PassesOn (old new : Window) (left left' : Option (List ℕ)) : Type 0 where
  pub read : List ℕ
  pub bytes : Consumes left left' read
  pub parted : old.ahead ++ read ≡ new.current ++ new.ahead

-- a read failed: in front of the bytes after the record that was held, as far as they are read, no
-- record stands
pub record BreaksOff (old : Window) (left left' : Option (List ℕ)) : Type 0 where
  pub read : List ℕ
  pub bytes : Consumes left left' read
  pub none : HasNoRecord (old.ahead ++ read)

-- the record in front goes past the largest offset
abbrev pub IsPastEnd : Window → Type 0
IsPastEnd new = (record_in_front : List ℕ) × (rest : List ℕ) × IsRecord record_in_front
    × (new.ahead ≡ record_in_front ++ rest) × (largest_offset < new.place + length record_in_front)

-- what a step does, by its answer: a record is held; or nothing is left; or what is left is
-- something, and no record stands in front of it
abbrev pub StepGives : Window → Window → Option (List ℕ) → Option (List ℕ)
    → Result Bool RecordsError → Type 0
StepGives old new left left' (Ok true) = PassesOn old new left left' × IsRecord new.current
StepGives old new left left' (Ok false) =
    PassesOn old new left left' × (new.current ≡ []) × (new.ahead ≡ []) × IsAtEnd left'
StepGives old new left left' (Err BadPack) =
    PassesOn old new left left' × (new.current ≡ [])
    × IfSome left' (λ rest. (new.ahead ++ rest ≢ []) × HasNoRecord (new.ahead ++ rest))
StepGives old new left left' (Err InputTooLong) =
    PassesOn old new left left' × (new.current ≡ []) × IsPastEnd new
StepGives old new left left' (Err Read) = BreaksOff old left left'
StepGives old new left left' (Err OutOfMemory) = Unit {0}
