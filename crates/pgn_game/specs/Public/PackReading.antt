-- A record read from left to right, with the first fault that is met. No memory is taken: what is
-- read shows stretches of the bytes.
use Rattle.std.specs.Prelude.{◌≡◌, zero, Bool, false, length, Option, Result, nat_lt, if◌then◌else◌}
use Rattle.std.specs.Prelude.{ℕ, suc, ◌/◌, ◌%◌, true, List, take, drop, Some, None, Ok, Err, ◌==◌}
use Rattle.std.specs.Cmp.Lexicographic.{slice_cmp}
use Rattle.std.specs.Ordering.{is_lt, nat_cmp}
use Rattle.std.specs.List.{flat_map}
use Rattle.std.specs.Int.{Width, w32, w64, byte_len, from_be_bytes}
use Rattle.pgn_game.specs.declared.pack.error.RecordError.{RecordError}
use Rattle.pgn_game.specs.declared.pack.error.RecordError.TheVariants.{CutShort, TooLarge, TagOrder}
use Rattle.pgn_game.specs.declared.pack.error.RecordError.TheVariants.{PartOfPly, NoOrigin}
use Rattle.pgn_game.specs.Public.PlyCodes.{code_bytes}
use Rattle.pgn_game.specs.Public.PackedGames.{PackedGame, FitsRecord, head_of, is_origin}
use Rattle.pgn_game.specs.Public.PackedGames.{tail_bytes, largest_body}

-- what a step reads, handed to the next one; the fault that it meets, else
abbrev pub and_then : {A B : Type 0} → Result A RecordError → (A → Result B RecordError)
    → Result B RecordError
and_then (Ok x) next = next x
and_then (Err e) next = Err e

-- what a function answered, with what is seen of a value, is what reading gives
abbrev pub Gives : {X Y : Type 0} → (X → Y) → Result X RecordError → Result Y RecordError → Type 0
Gives view (Ok x) read = read ≡ Ok (view x)
Gives view (Err e) read = read ≡ Err e

-- a record as it lies in its bytes
pub record RawRecord : Type 0 where
  pub number : ℕ
  pub offset : ℕ
  pub head : ℕ
  pub name : Option (List ℕ)
  -- the bytes of its tags and plies, and those of its plies alone
  pub tail : List ℕ
  pub plies : List ℕ

-- a packed game as its record shows it
abbrev pub raw_of : PackedGame → RawRecord
raw_of game =
    record {
      number = game.number;
      offset = game.offset;
      head = head_of game;
      name = game.name;
      tail = tail_bytes game;
      plies = flat_map code_bytes game.plies;
    }

-- it is the record of some game
abbrev pub IsRawOfGame : RawRecord → Type 0
IsRawOfGame raw = (packed : PackedGame) × FitsRecord packed × (raw ≡ raw_of packed)

-- a number of so many bytes in front, and what stands after it
abbrev pub number_at : Width → List ℕ → Result (ℕ × List ℕ) RecordError
number_at w bytes = if nat_lt (length bytes) (byte_len w) then Err CutShort
    else Ok (from_be_bytes w (take (byte_len w) bytes), drop (byte_len w) bytes)

-- a length in front and so many bytes, and what stands after them
unfoldable pub text_at : List ℕ → Result (List ℕ × List ℕ) RecordError
text_at bytes =
    and_then (number_at w32 bytes) (λ n. if nat_lt (length n.1) n.0 then Err CutShort
    else Ok (take n.0 n.1, drop n.0 n.1))

-- the name in front, where there is one, and what stands after it
abbrev pub name_at : Bool → List ℕ → Result (Option (List ℕ) × List ℕ) RecordError
name_at false bytes = Ok (None, bytes)
name_at true bytes = and_then (text_at bytes) (λ name. Ok (Some name.0, name.1))

-- the name and the contents of the tag in front, and what stands after it
abbrev pub tag_at : List ℕ → Result ((List ℕ × List ℕ) × List ℕ) RecordError
tag_at bytes =
    and_then (text_at bytes) (λ name.
    and_then (text_at name.1) (λ contents. Ok ((name.0, contents.0), contents.1)))

-- a tag with the name may stand after one with the last name: it is larger, byte by byte
abbrev pub follows : Option (List ℕ) → List ℕ → Bool
follows None name = true
follows (Some last) name = is_lt (slice_cmp nat_cmp last name)

-- the name of the tag in front, which follows the last one, and what stands after the tag
abbrev pub next_tag : Option (List ℕ) → List ℕ → Result (List ℕ × List ℕ) RecordError
next_tag last bytes =
    and_then (tag_at bytes) (λ tag. if follows last tag.0.0 then Ok (tag.0.0, tag.1)
    else Err TagOrder)

-- what stands after so many tags
unfoldable pub after_tags : ℕ → Option (List ℕ) → List ℕ → Result (List ℕ) RecordError
after_tags zero last bytes = Ok bytes
after_tags (suc n) last bytes =
    and_then (next_tag last bytes) (λ tag. after_tags n (Some tag.0) tag.1)

-- the record whose bytes after its size are these
unfoldable pub body_at : List ℕ → Result RawRecord RecordError
body_at bytes =
    and_then (number_at w64 bytes) (λ number.
    and_then (number_at w64 number.1) (λ offset.
    and_then (number_at w32 offset.1) (λ head.
    and_then (name_at (head.0 / 16 % 2 == 1) head.1) (λ name.
    and_then (after_tags (head.0 / 32) None name.1) (λ plies.
    if length plies % 3 == 0
    then (if is_origin number.0 offset.0 name.0 then Ok (record {
      number = number.0;
      offset = offset.0;
      head = head.0;
      name = name.0;
      tail = name.1;
      plies = plies;
    }) else Err NoOrigin)
    else Err PartOfPly)))))

-- the size in front; one that is too large is refused before its bytes are asked for
abbrev pub size_at : List ℕ → Result (ℕ × List ℕ) RecordError
size_at bytes =
    and_then (number_at w32 bytes) (λ size. if nat_lt largest_body size.0 then Err TooLarge
    else Ok size)

-- the record in front, and what stands after it
unfoldable pub record_at : List ℕ → Result (RawRecord × List ℕ) RecordError
record_at bytes =
    and_then (size_at bytes) (λ size.
    if nat_lt (length size.1) size.0
    then Err CutShort
    else and_then (body_at (take size.0 size.1)) (λ raw. Ok (raw, drop size.0 size.1)))
