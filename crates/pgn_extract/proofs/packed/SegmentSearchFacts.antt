-- How far a search has come in the segments of a pack, and what stands where it ends.
use Rattle.std.proofs.KnownBytes.{Appends-nil, Appends-trans, Consumes-nil, Consumes-trans}
use Rattle.std.proofs.KnownBytes.{Consumes-whole}
use Rattle.std.proofs.lemmas.List.{length-take}
use Rattle.std.proofs.lemmas.List.Concat.{flat_map-cons}
use Rattle.pgn_extract.proofs.Common.{◌≡◌, ◌≢◌, ℕ, ◌+◌, ◌≤◌, List, [], ◌∷◌, ◌++◌, length, Option}
use Rattle.pgn_extract.proofs.Common.{Some, Ok, Err, refl, sym, ap, ◌∙◌, subst, append_assoc}
use Rattle.pgn_extract.proofs.Common.{append-nil, length-append, arith, IfSome, Appends, Consumes}
use Rattle.pgn_extract.proofs.Common.{IsAtEnd, AllByRecursion, flat_map-append, largest_offset}
use Rattle.pgn_extract.proofs.Common.{PackedGame, FitsRecord, record_bytes, pack_bytes, Aim}
use Rattle.pgn_extract.proofs.Common.{Searches}
use Rattle.pgn_extract.proofs.Common.{StopsSearch, SearchError}
use Rattle.pgn_game.specs.Public.Segments.{Segment, FitsSegment, pack_text, records_in, segment_at}
use Rattle.pgn_game.specs.Public.Segments.{segment_text}
use Rattle.pgn_game.specs.Public.SegmentStreams.{SegmentStep, SegmentWindow, ReadsSegment}
use Rattle.pgn_game.specs.Public.SegmentStreams.{no_segment_yet}
use Rattle.pgn_game.specs.Public.SegmentWriting.{all_records}
use Rattle.pgn_game.specs.declared.pack.segments.SegmentsError.{SegmentsError}
use Rattle.pgn_game.specs.declared.pack.segments.SegmentsError.TheVariants as unread
use Rattle.pgn_game.proofs.SegmentFacts.{segment_long}
use Rattle.pgn_extract.specs.Private.SegmentsSearched.{HasSearchedSegments}
use Rattle.pgn_extract.specs.Public.Searching.{ArePackLines}
use Rattle.pgn_extract.specs.Private.SegmentSearching.{IsPackSearch, StopsByCause, StopsUnread}
use Rattle.pgn_extract.specs.declared.packed.pack_search.PackCause.{PackCause}
use Rattle.pgn_extract.specs.declared.packed.pack_search.PackCause.TheVariants.{Records, Segments}
use Rattle.pgn_extract.specs.declared.packed.pack_search.PackStop.{PackStop}
use Rattle.pgn_extract.proofs.packed.PackListed.{packed_listing, packed_index}
use Rattle.pgn_extract.proofs.packed.SearchFacts.{few, of_whole}

-- ---- two searches in a row are one

both_fit : (first second : List PackedGame) → AllByRecursion FitsRecord first
    → AllByRecursion FitsRecord second → AllByRecursion FitsRecord (first ++ second)
both_fit [] second fit own = own
both_fit (game ∷ first) second fit own = (fit.0, both_fit first second fit.1 own)

both_lines : (aim : Aim) (first second : List PackedGame) (text own : List ℕ)
    → ArePackLines aim first text → ArePackLines aim second own
    → ArePackLines aim (first ++ second) (text ++ own)
both_lines aim [] second text own none of =
    subst (ArePackLines aim second) (ap (λ (t : List ℕ). t ++ own) (sym none)) of
both_lines aim (game ∷ first) second text own (lines, others, parted, here, listed) of = (
  lines,
  others ++ own,
  ap (λ (t : List ℕ). t ++ own) parted ∙ append_assoc lines others own,
  here,
  both_lines aim first second others own listed of,
)

joined : (aim : Aim) (bytes own : List ℕ) (out there out' : Option (List ℕ)) (m n : ℕ)
    → Searches aim bytes out there (record { records = m })
    → Searches aim own there out' (record { records = n })
    → Searches aim (bytes ++ own) out out' (record { records = m + n })
joined aim bytes own out there out' m n one two =
    let first : bytes ≡ pack_bytes one.records =
    one.read.parted ∙ append-nil (pack_bytes one.records) in
    let second : own ≡ pack_bytes two.records =
    two.read.parted ∙ append-nil (pack_bytes two.records) in
    let whole : bytes ++ own ≡ pack_bytes (one.records ++ two.records) ++ [] =
    (λ i. first i ++ second i) ∙ sym (flat_map-append record_bytes one.records two.records)
    ∙ sym (append-nil (pack_bytes (one.records ++ two.records))) in
    record {
      records = one.records ++ two.records;
      text = one.text ++ two.text;
      read = record {
        fit = both_fit one.records two.records one.read.fit two.read.fit;
        parted = whole;
        lines = both_lines aim one.records two.records one.text two.text one.read.lines
            two.read.lines;
      };
      counted = omega (arith, one.counted, two.counted, length-append one.records two.records);
      written = Appends-trans out there out' one.text two.text one.written two.written;
    }

-- so many records are no more than their bytes
few_searched : (aim : Aim) (bytes : List ℕ) (out out' : Option (List ℕ)) (n : ℕ)
    → Searches aim bytes out out' (record { records = n }) → n ≤ length bytes
few_searched aim bytes out out' n found =
    let own = ap length (found.read.parted ∙ append-nil (pack_bytes found.records)) in
    omega (arith, few found.records, found.counted, own)

-- ---- one segment more

all_fit : (before : List Segment) (segment : Segment) → AllByRecursion FitsSegment before
    → FitsSegment segment → AllByRecursion FitsSegment (before ++ segment ∷ [])
all_fit [] segment fit own = (own, tt)
all_fit (first ∷ before) segment fit own = (fit.0, all_fit before segment fit.1 own)

text_more : (before : List Segment) (segment : Segment)
    → pack_text (before ++ segment ∷ []) ≡ pack_text before ++ segment_text segment
text_more before segment = flat_map-append segment_text before (segment ∷ [])
    ∙ ap (λ (t : List ℕ). pack_text before ++ t) (flat_map-cons segment_text segment []
    ∙ append-nil (segment_text segment))

records_more : (before : List Segment) (segment : Segment)
    → all_records (before ++ segment ∷ []) ≡ all_records before ++ records_in segment
records_more before segment = flat_map-append records_in before (segment ∷ [])
    ∙ ap (λ (t : List ℕ). all_records before ++ t) (flat_map-cons records_in segment []
    ∙ append-nil (records_in segment))

pub searched_nothing : (aim : Aim) (left out : Option (List ℕ))
    → HasSearchedSegments aim no_segment_yet left left out out 0
searched_nothing aim left out = record {
  before = [];
  fit = tt;
  bytes = Consumes-nil left;
  found = record {
    records = [];
    text = [];
    read = record { fit = tt; parted = refl; lines = refl };
    counted = refl;
    written = Appends-nil out;
  };
  place = refl;
  small = omega arith;
  few = omega arith;
}

module _ {aim : Aim} {old : SegmentWindow} {left left' out out' : Option (List ℕ)} {count : ℕ}
    (on : HasSearchedSegments aim old left left' out out' count) where
  pub segment_searched : (new : SegmentWindow) (left'' out'' : Option (List ℕ))
      (segment : Segment) (n : ℕ) → ReadsSegment segment left' left''
      → new.size ≡ length (segment_text segment) → new.place ≡ old.place + old.size
      → new.place + new.size ≤ largest_offset
      → Searches aim (records_in segment) out' out'' (record { records = n })
      → HasSearchedSegments aim new left left'' out out'' (count + n)
  segment_searched new left'' out'' segment n reads size place small found =
      let text = text_more on.before segment in
      let here = on.place in
      let long = ap length text
      ∙ length-append (pack_text on.before) (segment_text segment) in
      record {
        before = on.before ++ segment ∷ [];
        fit = all_fit on.before segment on.fit reads.fits;
        bytes = subst (Consumes left left'') (sym text)
            (Consumes-trans left left' left'' (pack_text on.before) (segment_text segment) on.bytes
            reads.bytes);
        found = subst (λ (b : List ℕ). Searches aim b out out'' (record { records = count + n }))
            (sym (records_more on.before segment))
            (joined aim (all_records on.before) (records_in segment) out out' out'' count n on.found
            found);
        place = omega (arith, long, here, place, size);
        small = small;
        few = (let own = few_searched aim (records_in segment) out' out'' n found in
            let some = on.few in
            omega (
              arith,
              own,
              some,
              place,
              size,
              segment_long segment,
              length-take segment.records segment.body,
            ));
      }

  pub ends_there : (left'' : Option (List ℕ)) → Consumes left' left'' [] → IsAtEnd left''
      → IsPackSearch aim left out out' (Ok (record { records = count }))
  ends_there left'' none end =
      let taken : Consumes left left'' (pack_text on.before) =
      subst (Consumes left left'') (append-nil (pack_text on.before))
      (Consumes-trans left left' left'' (pack_text on.before) [] on.bytes none) in
      let found = on.found in
      let whole = all_records on.before in
      record {
        done = Consumes-whole left left'' (pack_text on.before) _ taken end (record {
          segments = on.before;
          are = record { fit = on.fit; spelled = refl };
          found = found;
          lists = λ list name number pieces pack entries are.
              subst (Appends out out') (packed_listing aim list whole found.records found.text
              found.read name number pieces pack entries are) found.written;
          indexes = λ index name number pieces pack. (
            found.text,
            packed_index aim index whole found.records found.text found.read name number pieces
                pack,
            found.written,
          );
        });
        stopped = tt;
      }

  fault_there : (new : SegmentWindow) (left'' : Option (List ℕ)) (error : SegmentsError)
      (rest : List ℕ) → left' ≡ Some rest → SegmentStep new left' left'' (Err error)
      → StopsUnread error rest
  fault_there new left'' (unread.Bad fault) rest is gives =
      subst (λ (l : Option (List ℕ)). IfSome l (λ whole. (whole ≢ [])
      × (segment_at whole ≡ Err fault))) is gives
  fault_there new left'' unread.Read rest is gives = tt
  fault_there new left'' unread.OutOfMemory rest is gives = tt
  fault_there new left'' unread.InputTooLong rest is gives = tt

  pub stops_between : (new : SegmentWindow) (left'' : Option (List ℕ)) (error : SegmentsError)
      (stop : PackStop) → SegmentStep new left' left'' (Err error)
      → new.place ≡ old.place + old.size → stop.cause ≡ Segments error → stop.place ≡ new.place
      → IsPackSearch aim left out out' (Err stop)
  stops_between new left'' error stop gives place cause at =
      record {
        done = tt;
        stopped = of_whole left left' (pack_text on.before) (λ whole.
            StopsByCause stop.cause aim whole stop out out') on.bytes (λ rest is.
            subst (λ (c : PackCause).
            StopsByCause c aim (pack_text on.before ++ rest) stop out out') (sym cause)
            (record {
              before = on.before;
              rest = rest;
              read = record {
                fit = on.fit;
                parted = refl;
                searched = record { records = count };
                found = on.found;
              };
              place = at ∙ place ∙ on.place;
              fault = fault_there new left'' error rest is gives;
            }));
      }

  pub stops_inside : (new : SegmentWindow) (left'' out'' : Option (List ℕ)) (error : SearchError)
      (stop : PackStop) (segment : Segment) (inner : Option (List ℕ))
      → ReadsSegment segment left' left'' → new.place ≡ old.place + old.size
      → stop.cause ≡ Records error → stop.place ≡ new.place
      → StopsSearch error aim (records_in segment) inner out' out''
      → IsPackSearch aim left out out'' (Err stop)
  stops_inside new left'' out'' error stop segment inner reads place cause at stopped =
      let taken = Consumes-trans left left' left'' (pack_text on.before) (segment_text segment)
      on.bytes reads.bytes in
      let text = pack_text on.before ++ segment_text segment in
      record {
        done = tt;
        stopped = of_whole left left'' text (λ whole.
            StopsByCause stop.cause aim whole stop out out'') taken (λ rest is.
            subst (λ (c : PackCause). StopsByCause c aim (text ++ rest) stop out out'')
            (sym cause) (record {
              before = on.before;
              segment = segment;
              rest = rest;
              there = out';
              read = record {
                fit = on.fit;
                parted = append_assoc (pack_text on.before) (segment_text segment) rest;
                searched = record { records = count };
                found = on.found;
              };
              place = at ∙ place ∙ on.place;
              left = inner;
              stopped = stopped;
            }));
      }
