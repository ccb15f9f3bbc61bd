-- What the parts of a call of `Blocks::next` find: the words between the code and the words of
-- `Windows`.
use Rattle.std.specs.Prelude.{◌≡◌, ◌≢◌, ℕ, ◌+◌, ◌-◌, ◌<◌, ◌≤◌, Bool, true, false, List, [], ◌++◌}
use Rattle.std.specs.Prelude.{length, take, drop, Option, Result, Ok, Err, MatchOption}
use Rattle.std.specs.Io.KnownBytes.{IsAtEnd}
use Rattle.pgn_text.specs.Public.Blocks.{IsFirstBlock}
use Rattle.pgn_text.specs.Public.Limits.{block_limit, largest_offset, window_limit}
use Rattle.pgn_text.specs.Private.Cuts.{is_cut, NoCutBefore}
use Rattle.pgn_text.specs.Public.Tallies.{Reads}
use Rattle.pgn_text.specs.Public.Windows.{Window, IsCutOff, FailsAfter, EndsIn}
use Rattle.pgn_text.specs.declared.io.blocks.BlockEnd.{BlockEnd}
use Rattle.pgn_text.specs.declared.io.blocks.ReadError.{ReadError}
use Rattle.pgn_text.specs.declared.io.blocks.ReadError.TheVariants.{Failed}

-- the first place from `from` on where an event line begins, with all of its eight bytes
pub record IsNextCut (text : List ℕ) (from cut : ℕ) : Type 0 where
  pub low : from ≤ cut
  pub seen : cut + 8 ≤ length text
  pub here : is_cut text cut ≡ true
  pub before : NoCutBefore text from cut

-- the first event line from a place on, or none
abbrev pub FindsCut : List ℕ → ℕ → Option ℕ → Type 0
FindsCut text from found =
    MatchOption found (NoCutBefore text from (length text)) (λ cut. IsNextCut text from cut)

-- one more byte was read, or none at the end
pub record FindsMore (left left' : Option (List ℕ)) (moved moved' : ℕ) (found : Bool) : Type 0 where
  pub read : List ℕ
  pub reads : Reads left left' moved moved' read
  pub one : found ≡ true → length read ≡ 1
  pub end : found ≡ false → (read ≡ []) × IsAtEnd left'

-- before the next read the first bytes held are given up, so many: those done with, and those
-- searched of a block over the limit, of which eight are kept, since an event line may begin among
-- them. `lost` of the block's bytes were given up earlier
pub record GivesUp (held begin lost front : ℕ) : Type 0 where
  pub low : begin ≤ front
  pub within : front ≤ held
  pub few : held - front < block_limit + 8
  pub long : 0 < lost + (front - begin) → (block_limit ≤ lost + (front - begin))
      × (front + 8 ≤ held)

-- a search read on to the block's end, and gave up what it did not need: these are the block's
-- bytes, and those of a block within the limit are still held. The first of all bytes held and read
-- were given up
pub record FindsEnd (done ahead held : List ℕ) (place : ℕ) (left left' : Option (List ℕ))
    (moved moved' : ℕ) (end : BlockEnd) : Type 0 where
  pub read : List ℕ
  pub bytes : List ℕ
  pub reads : Reads left left' moved moved' read
  pub parted : ahead ++ read ≡ bytes ++ drop end.at held
  pub sized : length bytes ≡ end.size
  pub kept : end.size ≤ block_limit → EndsIn (take end.at held) end.size bytes
  pub inside : end.at ≤ length held
  pub first : (rest : List ℕ) → (end.is_last ≡ true → rest ≡ [])
      → IsFirstBlock bytes (drop end.at held ++ rest)
  pub room : place + (end.size + (length held - end.at)) ≤ largest_offset
  pub bound : length held ≤ window_limit
  pub last : end.is_last ≡ true → (end.at ≡ length held) × IsAtEnd left'
  pub more : end.is_last ≡ false → end.at < length held
  pub given_up : List ℕ
  pub rest : (done ++ ahead) ++ read ≡ given_up ++ held

-- a call failed after it had read some bytes
pub record FailsFrom (place : ℕ) (ahead : List ℕ) (left left' : Option (List ℕ)) (moved moved' : ℕ)
    (error : ReadError) : Type 0 where
  pub read : List ℕ
  pub reads : Reads left left' moved moved' read
  pub fails : FailsAfter place ahead read error
  pub other : error ≢ Failed

-- a step cut off the bytes of a block of this size, and those of a block within the limit end the
-- bytes done with; or it failed
abbrev pub StepGives : Window → Window → Option (List ℕ) → List ℕ → Result ℕ ReadError → Type 0
StepGives old new left' read (Ok size) =
    ((bytes : List ℕ) × IsCutOff old new left' read bytes × (length bytes ≡ size)
    × (size ≤ block_limit → EndsIn new.done size bytes))
StepGives old new left' read (Err error) =
    (new.failed ≡ true) × (error ≢ Failed) × FailsAfter old.place old.ahead read error
