-- The records that stand in the segments of a pack, and a writer that makes segments of them.
use Rattle.std.specs.Prelude.{◌≡◌, ℕ, zero, suc, List, [], ◌∷◌, ◌++◌, length, Option, None, Some}
use Rattle.std.specs.Prelude.{Result}
use Rattle.std.specs.Prelude.{Ok, Err, option_map, option_and_then}
use Rattle.std.specs.Io.KnownBytes.{append_known}
use Rattle.std.specs.List.{flat_map, AllByRecursion}
use Rattle.pgn_game.specs.Public.Residues.{AreBytes}
use Rattle.pgn_game.specs.Public.Segments.{Segment, FitsSegment, pack_text, records_in, segment_at}
use Rattle.pgn_game.specs.declared.pack.error.SegmentError.{SegmentError}

-- the bytes are the pack of these segments
pub record ArePackOf (segments : List Segment) (bytes : List ℕ) : Type 0 where
  pub fit : AllByRecursion FitsSegment segments
  pub spelled : bytes ≡ pack_text segments

-- the records of segments
abbrev pub all_records : List Segment → List ℕ
all_records segments = flat_map records_in segments

-- the records of the segment that was read, and those of what stands after it
abbrev pub records_from : Result (Segment × List ℕ) SegmentError → (List ℕ → Option (List ℕ))
    → Option (List ℕ)
records_from (Ok x) more = option_map (λ records. records_in x.0 ++ records) (more x.1)
records_from (Err e) more = None

-- the records in bytes that are at most so many segments, and nothing else
unfoldable pub records_within : ℕ → List ℕ → Option (List ℕ)
records_within n [] = Some []
records_within zero (b ∷ rest) = None
records_within (suc n) (b ∷ rest) = records_from (segment_at (b ∷ rest)) (records_within n)

-- the records in bytes that are segments, and nothing else
abbrev pub records_of : List ℕ → Option (List ℕ)
records_of bytes = records_within (length bytes) bytes

-- a writer, and the bytes of a segment that it does not have yet
pub record Sending (W : Type 0) : Type 0 where
  pub inner : W
  pub unsent : List ℕ

-- the bytes of segments, those that the inner writer holds and those that it does not have yet
abbrev pub segment_bytes : {W : Type 0} → (W → Option (List ℕ)) → Sending W → Option (List ℕ)
segment_bytes contents w = append_known (contents w.inner) w.unsent

-- the records in them, where they are known and are a pack
abbrev pub segment_records : {W : Type 0} → (W → Option (List ℕ)) → Sending W → Option (List ℕ)
segment_records contents w = option_and_then records_of (segment_bytes contents w)

-- ---- laws

-- the records of a pack are those of its segments
abbrev pub RecordsOfAPack : Type 0
RecordsOfAPack = (segments : List Segment) (bytes : List ℕ) → ArePackOf segments bytes
    → records_of bytes ≡ Some (all_records segments)

-- and bytes that have records are a pack, with these records
abbrev pub RecordsAreOfAPack : Type 0
RecordsAreOfAPack = (bytes records : List ℕ) → AreBytes bytes → records_of bytes ≡ Some records
    → (segments : List Segment) × ArePackOf segments bytes × (records ≡ all_records segments)
