-- A segment of a pack, its one spelling, and how it is read. Numbers are big-endian.
use Rattle.std.specs.Prelude.{◌≡◌, ◌≢◌, ℕ, ◌+◌, ◌-◌, ◌*◌, ◌%◌, ◌^◌, ◌<◌, ◌≤◌, ◌==◌, if◌then◌else◌}
use Rattle.std.specs.Prelude.{List, ◌++◌, length, take, drop, codes, bytes_eq, nat_lt, Result, Ok}
use Rattle.std.specs.Prelude.{Err}
use Rattle.std.specs.List.{flat_map}
use Rattle.std.specs.Int.{w32, w64, to_be_bytes, from_be_bytes}
use Rattle.pgn_game.specs.declared.pack.error.SegmentError.{SegmentError}
use Rattle.pgn_game.specs.declared.pack.error.SegmentError.TheVariants.{CutShort, OtherLayout}
use Rattle.pgn_game.specs.declared.pack.error.SegmentError.TheVariants.{DamagedFront, TooLarge}
use Rattle.pgn_game.specs.declared.pack.error.SegmentError.TheVariants.{DamagedBody}
use Rattle.pgn_game.specs.Public.Residues.{modulus, number_of, AreBytes, IsNear}

-- ---- the seal

-- what makes the number of all a multiple of the modulus, where it follows the bytes as eight more
abbrev pub check_of : List ℕ → ℕ
check_of bytes = modulus - number_of bytes * 2 ^ 64 % modulus

-- the bytes, and eight more that make the number of all a multiple of the modulus
abbrev pub sealed : List ℕ → List ℕ
sealed bytes = bytes ++ to_be_bytes w64 (check_of bytes)

-- ---- segments

-- how many bytes of a body are records, and the body: records, and what later layouts put after
-- them
pub record Segment : Type 0 where
  pub records : ℕ
  pub body : List ℕ

-- the records of a segment
abbrev pub records_in : Segment → List ℕ
records_in segment = take segment.records segment.body

-- what each segment of this layout begins with
abbrev pub magic : List ℕ
magic = codes "PGNPACK2"

-- the most bytes of a body: 34 MiB, a mebibyte and the largest record
abbrev pub largest_body : ℕ
largest_body = 35651584

-- sixteen bytes: the magic, how many bytes of records, and how many bytes of the body
unfoldable pub front_bytes : ℕ → ℕ → List ℕ
front_bytes records size = magic ++ (to_be_bytes w32 records ++ to_be_bytes w32 size)

-- a segment: its front and its body, each sealed
abbrev pub segment_text : Segment → List ℕ
segment_text segment = sealed (front_bytes segment.records
    (length segment.body)) ++ sealed segment.body

-- a pack: segments one after another
abbrev pub pack_text : List Segment → List ℕ
pack_text segments = flat_map segment_text segments

-- the segment has a spelling
pub record FitsSegment (segment : Segment) : Type 0 where
  pub records : segment.records < 2 ^ 32
  pub body : AreBytes segment.body
  pub size : length segment.body ≤ largest_body

-- in front of the bytes stands no segment
abbrev pub HasNoSegment : List ℕ → Type 0
HasNoSegment bytes = (segment : Segment) (rest : List ℕ) → FitsSegment segment
    → bytes ≡ segment_text segment ++ rest → ⊥

-- ---- reading

-- what a step reads, handed to the next one; the fault that it meets, else
abbrev pub and_then : {A B : Type 0} → Result A SegmentError → (A → Result B SegmentError)
    → Result B SegmentError
and_then (Ok x) next = next x
and_then (Err e) next = Err e

-- so many bytes in front that are sealed, and what stands after their seal; the fault, where the
-- seal is broken
unfoldable pub unsealed_at : SegmentError → ℕ → List ℕ → Result (List ℕ × List ℕ) SegmentError
unsealed_at fault size bytes =
    if nat_lt (length bytes) (size + 8)
    then Err CutShort
    else if from_be_bytes w64 (take 8 (drop size bytes)) == check_of (take size bytes)
    then Ok (take size bytes, drop 8 (drop size bytes))
    else Err fault

-- how many records and how many bytes of their body a front of this layout names
abbrev pub numbers_of : List ℕ → Result (ℕ × ℕ) SegmentError
numbers_of front =
    if bytes_eq (take 8 front) magic
    then if nat_lt largest_body (from_be_bytes w32 (drop 12 front)) then Err TooLarge else Ok
    (from_be_bytes w32 (take 4 (drop 8 front)), from_be_bytes w32 (drop 12 front))
    else Err OtherLayout

-- the front that the bytes begin with, and what stands after it
unfoldable pub front_at : List ℕ → Result ((ℕ × ℕ) × List ℕ) SegmentError
front_at bytes = and_then (unsealed_at DamagedFront 16 bytes) (λ front. and_then
    (numbers_of front.0) (λ numbers. Ok (numbers, front.1)))

-- the segment that the bytes begin with, and what stands after it
unfoldable pub segment_at : List ℕ → Result (Segment × List ℕ) SegmentError
segment_at bytes =
    and_then (front_at bytes) (λ front. and_then (unsealed_at DamagedBody front.0.1 front.1)
    (λ body. Ok (record { records = front.0.0; body = body.0 }, body.1)))

-- ---- laws

-- what was written is read, and what follows it is left
abbrev pub SegmentIsRead : Type 0
SegmentIsRead = (segment : Segment) (rest : List ℕ) → FitsSegment segment
    → segment_at (segment_text segment ++ rest) ≡ Ok (segment, rest)

-- what is read was written: nothing but the text of a segment is read as one
abbrev pub ReadIsASegment : Type 0
ReadIsASegment =
    (bytes : List ℕ) (segment : Segment) (rest : List ℕ) → AreBytes bytes
    → segment_at bytes ≡ Ok (segment, rest)
    → FitsSegment segment × (bytes ≡ segment_text segment ++ rest)

-- packs that are joined are the pack of their lists, joined
abbrev pub PacksJoin : Type 0
PacksJoin = (segments others : List Segment) → pack_text segments ++ pack_text others ≡ pack_text
    (segments ++ others)

-- a segment that is changed in seven bytes in a row at most is no segment any more, whatever
-- follows it
abbrev pub DamageIsNoticed : Type 0
DamageIsNoticed =
    (segment : Segment) (text rest : List ℕ) → FitsSegment segment
    → IsNear (segment_text segment) text → segment_text segment ≢ text
    → HasNoSegment (text ++ rest)
