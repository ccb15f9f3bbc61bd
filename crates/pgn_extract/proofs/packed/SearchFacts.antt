-- How far a search of a pack has come, and what stands where it ends.
use Rattle.std.proofs.KnownBytes.{Appends-nil, Appends-trans, Consumes-nil, Consumes-trans}
use Rattle.std.proofs.KnownBytes.{Consumes-whole}
use Rattle.std.proofs.lemmas.List.Concat.{flat_map-cons}
use Rattle.pgn_extract.proofs.Common.{◌≡◌, ◌≢◌, ℕ, ◌+◌, ◌≤◌, Bool, inl, inr, List, [], ◌∷◌, ◌++◌}
use Rattle.pgn_extract.proofs.Common.{length, take, Option, Some, None, Ok, Err, refl, sym, ap, ◌∙◌}
use Rattle.pgn_extract.proofs.Common.{subst, append_assoc, append-nil, length-append, arith, IfSome}
use Rattle.pgn_extract.proofs.Common.{Appends, Consumes, IsAtEnd, AllByRecursion, flat_map-append}
use Rattle.pgn_extract.proofs.Common.{take-append-add, take-length, largest_offset, HasNoRecord}
use Rattle.pgn_extract.proofs.Common.{PackedGame, FitsRecord, record_bytes, pack_bytes, record_size}
use Rattle.pgn_extract.proofs.Common.{Aim, AppendsFront, AreRecordLines, IsOfNoGame, HasNoGame}
use Rattle.pgn_extract.proofs.Common.{BeginsWithRecords, Searches, ListsWhatWasPacked}
use Rattle.pgn_extract.proofs.Common.{IndexesWhatWasPacked, StopsAtBytes, StopsAtLimit, StopsAtRead}
use Rattle.pgn_extract.proofs.Common.{StopsWithin, StopsSearch, HasSearched, SearchError}
use Rattle.pgn_game.specs.Public.PackStreams.{Window, fresh_window, BreaksOff, IsPastEnd, PassesOn}
use Rattle.pgn_game.specs.Public.PackStreams.{StepGives}
use Rattle.pgn_game.specs.declared.pack.records.RecordsError.{RecordsError}
use Rattle.pgn_game.proofs.PackOnce.{one_record}
use Rattle.pgn_extract.specs.Public.Searching.{IsSearch}
use Rattle.pgn_extract.specs.Private.SearchSteps.{PutsRest, PutsSome, search_error_of}
use Rattle.pgn_extract.proofs.packed.PackListed.{one_more_record, packed_listing, packed_index}
use Rattle.pgn_game.specs.declared.pack.records.RecordsError.TheVariants as cause

-- what holds of the bytes that are read and those that are left holds of the whole
pub of_whole : (left left' : Option (List ℕ)) (read : List ℕ) (Q : List ℕ → Type 0)
    → Consumes left left' read
    → ((rest : List ℕ) → left' ≡ Some rest → Q (read ++ rest)) → IfSome left Q
of_whole None left' read Q taken found = tt
of_whole (Some whole) None read Q taken found = absurd taken
of_whole (Some whole) (Some rest) read Q taken found = subst Q (sym taken) (found rest refl)

-- the pack of some games, and of one more
one_more : (before : List PackedGame) (game : PackedGame)
    → pack_bytes (before ++ game ∷ []) ≡ pack_bytes before ++ record_bytes game
one_more before game = flat_map-append record_bytes before (game ∷ [])
    ∙ ap (λ b. pack_bytes before ++ b) (flat_map-cons record_bytes game []
    ∙ append-nil (record_bytes game))

-- each record takes a byte
pub few : (before : List PackedGame) → length before ≤ length (pack_bytes before)
few [] = omega arith
few (game ∷ before) =
    let whole = ap length (flat_map-cons record_bytes game before)
    ∙ length-append (record_bytes game) (pack_bytes before) in
    omega (arith, whole, record_size game, few before)

all_fit : (before : List PackedGame) (game : PackedGame) → AllByRecursion FitsRecord before
    → FitsRecord game → AllByRecursion FitsRecord (before ++ game ∷ [])
all_fit [] game fit own = (own, tt)
all_fit (first ∷ before) game fit own = (fit.0, all_fit before game fit.1 own)

-- ---- on the way

pub searched_none : (aim : Aim) (left out : Option (List ℕ))
    → HasSearched aim fresh_window left left out out [] 0
searched_none aim left out = record {
  before = [];
  fit = tt;
  counted = refl;
  bytes = Consumes-nil left;
  place = refl;
  small = omega arith;
  all = [];
  lines = refl;
  put = [];
  written = Appends-nil out;
  gathered = refl;
}

module _ {aim : Aim} {old : Window} {left left' out out' : Option (List ℕ)} {text : List ℕ}
    {count : ℕ} (on : HasSearched aim old left left' out out' text count) where
  -- what is read with a step
  read_on : (new : Window) (left'' : Option (List ℕ)) → PassesOn old new left' left''
      → Consumes left left'' (pack_bytes on.before ++ (new.current ++ new.ahead))
  read_on new left'' passes =
      subst (Consumes left left'') (append_assoc (pack_bytes on.before) old.ahead passes.read
      ∙ ap (λ b. pack_bytes on.before ++ b) passes.parted)
      (Consumes-trans left left' left'' (pack_bytes on.before
      ++ old.ahead) passes.read on.bytes passes.bytes)

  -- one record more is read, and its lines are gathered
  pub searched_more : (new : Window) (left'' : Option (List ℕ)) (game : PackedGame)
      (gathered own : List ℕ) → PassesOn old new left' left'' → FitsRecord game
      → new.current ≡ record_bytes game
      → new.place ≡ old.place + length old.current → new.place + length new.current ≤ largest_offset
      → gathered ≡ text ++ own → AreRecordLines aim.mode aim game own
      → HasSearched aim new left left'' out out' gathered (count + 1)
  searched_more new left'' game gathered own passes fits current place small added of =
      let whole : pack_bytes (on.before ++ game ∷ []) ≡ pack_bytes on.before ++ new.current =
      one_more on.before game ∙ ap (λ b. pack_bytes on.before ++ b) (sym current) in
      let size : length (pack_bytes (on.before ++ game ∷ []))
      ≡ length (pack_bytes on.before) + length new.current =
      ap length whole ∙ length-append (pack_bytes on.before) new.current in
      record {
        before = on.before ++ game ∷ [];
        fit = all_fit on.before game on.fit fits;
        counted = (let n = on.counted in omega (arith, length-append on.before (game ∷ [])));
        bytes = subst (Consumes left left'')
            (sym (append_assoc (pack_bytes on.before) new.current new.ahead)
            ∙ ap (λ b. b ++ new.ahead) (sym whole)) (read_on new left'' passes);
        place = (let p = on.place in omega (arith, size, place));
        small = small;
        all = on.all ++ own;
        lines = one_more_record aim on.before game on.all own on.lines of;
        put = on.put;
        written = on.written;
        gathered = ap (λ t. t ++ own) on.gathered ∙ append_assoc on.put text own
            ∙ ap (λ t. on.put ++ t) (sym added);
      }

  -- some of the lines are written
  pub searched_put : (out'' : Option (List ℕ)) (rest : List ℕ) → PutsSome out' out'' text rest
      → HasSearched aim old left left' out out'' rest count
  searched_put out'' rest (put, written, parted) = record {
    before = on.before;
    fit = on.fit;
    counted = on.counted;
    bytes = on.bytes;
    place = on.place;
    small = on.small;
    all = on.all;
    lines = on.lines;
    put = on.put ++ put;
    written = Appends-trans out out' out'' on.put put on.written written;
    gathered = on.gathered ∙ ap (λ t. on.put ++ t) parted ∙ sym (append_assoc on.put put rest);
  }

  -- the records are no more than their bytes
  pub few_records : count ≤ largest_offset
  few_records = let n = on.counted in let p = on.place in let small = on.small in
      omega (arith, few on.before)

  -- ---- at the end

  -- all lines are written
  all_written : (out'' : Option (List ℕ)) → Appends out' out'' text → Appends out out'' on.all
  all_written out'' last =
      subst (Appends out out'') (sym on.gathered)
      (Appends-trans out out' out'' on.put text on.written last)

  pub ends_well : (new : Window) (left'' out'' : Option (List ℕ)) → PassesOn old new left' left''
      → new.current ≡ [] → new.ahead ≡ [] → IsAtEnd left'' → Appends out' out'' text
      → IsSearch aim left left'' out out'' (Ok (record { records = count }))
  ends_well new left'' out'' passes no_current no_ahead end last =
      let empty : pack_bytes on.before ++ (new.current ++ new.ahead) ≡ pack_bytes on.before ++ [] =
      ap (λ b. pack_bytes on.before ++ b) (ap (λ c. c ++ new.ahead) no_current ∙ no_ahead) in
      let taken : Consumes left left'' (pack_bytes on.before ++ []) =
      subst (Consumes left left'') empty (read_on new left'' passes) in
      let read : BeginsWithRecords aim (pack_bytes on.before ++ []) on.before [] on.all =
      record { fit = on.fit; parted = refl; lines = on.lines } in
      let all = all_written out'' last in
      record {
        done = Consumes-whole left left'' (pack_bytes on.before ++ []) (λ whole.
            Searches aim whole out out'' (record { records = count })) taken end
            (record {
              records = on.before;
              text = on.all;
              read = read;
              counted = on.counted;
              written = all;
            });
        lists = Consumes-whole left left'' (pack_bytes on.before ++ []) (λ whole.
            ListsWhatWasPacked aim whole out out'') taken end
            (λ list name number pieces pack entries are.
            subst (Appends out out'')
            (packed_listing aim list (pack_bytes on.before
            ++ []) on.before on.all read name number pieces pack entries are) all);
        indexes =
            Consumes-whole left left'' (pack_bytes on.before ++ []) (λ whole.
            IndexesWhatWasPacked aim whole out out'') taken end
            (λ index name number pieces pack. (
              on.all,
              packed_index aim index (pack_bytes on.before
                  ++ []) on.before on.all read name number pieces pack,
              all,
            ));
        stopped = tt;
      }

  stops_at_read : (left'' out'' : Option (List ℕ)) → BreaksOff old left' left''
      → Appends out' out'' text → IfSome left (λ whole. StopsAtRead aim whole left'' out out'')
  stops_at_read left'' out'' off last =
      let taken : List ℕ = pack_bytes on.before ++ (old.ahead ++ off.read) in
      of_whole left left'' taken (λ whole. StopsAtRead aim whole left'' out out'')
      (subst (Consumes left left'') (append_assoc (pack_bytes on.before) old.ahead off.read)
      (Consumes-trans left left' left'' (pack_bytes on.before
      ++ old.ahead) off.read on.bytes off.bytes))
      (λ rest is. record {
        taken = taken;
        bytes = subst (λ (l : Option (List ℕ)).
            Consumes (Some (taken ++ rest)) l taken) (sym is) refl;
        before = on.before;
        rest = old.ahead ++ off.read;
        text = on.all;
        read = record { fit = on.fit; parted = refl; lines = on.lines };
        none = off.none;
        written = all_written out'' last;
      })

  pub stops_within : (out'' : Option (List ℕ)) → AppendsFront out' out'' text
      → IfSome left (λ whole. StopsWithin aim whole out out'')
  stops_within out'' (size, last) =
      of_whole left left' (pack_bytes on.before ++ old.ahead) (λ whole.
      StopsWithin aim whole out out'') on.bytes (λ rest is. record {
        before = on.before;
        rest = old.ahead ++ rest;
        text = on.all;
        read = record {
          fit = on.fit;
          parted = append_assoc (pack_bytes on.before) old.ahead rest;
          lines = on.lines;
        };
        written = (
          length on.put + size,
          subst (Appends out out'')
              (sym (ap (take (length on.put + size)) on.gathered
              ∙ take-append-add on.put text size))
              (Appends-trans out out' out'' on.put (take size text) on.written last),
        );
      })

  within : (out'' : Option (List ℕ)) → Appends out' out'' text
      → IfSome left (λ whole. StopsWithin aim whole out out'')
  within out'' last =
      stops_within out'' (length text, subst (Appends out' out'') (sym (take-length text)) last)

  -- what stands where the records after these are no record of a game
  stops_at : (new : Window) (left'' out'' : Option (List ℕ)) → PassesOn old new left' left''
      → new.place ≡ old.place + length old.current → Appends out' out'' text
      → ((rest : List ℕ) → left'' ≡ Some rest → ((new.current ++ new.ahead) ++ rest ≢ [])
      × HasNoGame ((new.current ++ new.ahead) ++ rest))
      → IfSome left (λ whole. StopsAtBytes aim whole new.place out out'')
  stops_at new left'' out'' passes place last bad =
      of_whole left left'' (pack_bytes on.before ++ (new.current ++ new.ahead)) (λ whole.
      StopsAtBytes aim whole new.place out out'') (read_on new left'' passes)
      (λ rest is. record {
        before = on.before;
        rest = (new.current ++ new.ahead) ++ rest;
        text = on.all;
        read = record {
          fit = on.fit;
          parted = append_assoc (pack_bytes on.before) (new.current ++ new.ahead) rest;
          lines = on.lines;
        };
        place = place ∙ on.place;
        some = (bad rest is).0;
        bad = (bad rest is).1;
        written = all_written out'' last;
      })

  -- the record that is held is of no game
  pub stops_at_game : (new : Window) (left'' out'' : Option (List ℕ)) (game : PackedGame)
      → PassesOn old new left' left'' → new.place ≡ old.place + length old.current
      → Appends out' out'' text → FitsRecord game → new.current ≡ record_bytes game
      → IsOfNoGame game → IfSome left (λ whole. StopsAtBytes aim whole new.place out out'')
  stops_at_game new left'' out'' game passes place last fits current none =
      stops_at new left'' out'' passes place last (λ rest is.
      let front : (new.current ++ new.ahead) ++ rest ≡ record_bytes game ++ (new.ahead ++ rest) =
      append_assoc new.current new.ahead rest ∙ ap (λ c. c ++ (new.ahead ++ rest)) current in (
        λ empty. omega (
          arith,
          record_size game,
          ap length (sym front ∙ empty),
          length-append (record_bytes game) (new.ahead ++ rest),
        ),
        λ packed more own e. subst IsOfNoGame
            (one_record game packed (new.ahead ++ rest) more fits own (sym front ∙ e)).0 none,
      ))

  -- the record in front of what is held ends past the largest offset
  stops_at_limit : (new : Window) (left'' out'' : Option (List ℕ)) → PassesOn old new left' left''
      → new.current ≡ [] → IsPastEnd new → new.place ≡ old.place + length old.current
      → Appends out' out'' text → IfSome left (λ whole. StopsAtLimit aim whole out out'')
  stops_at_limit new left'' out'' passes none (
    front,
    rest,
    (next, fits, spelled),
    parted,
    far,
  ) place last =
      let p = on.place in
      let ahead : new.current ++ new.ahead ≡ record_bytes next ++ rest =
      ap (λ c. c ++ new.ahead) none ∙ parted ∙ ap (λ f. f ++ rest) spelled in
      of_whole left left'' (pack_bytes on.before ++ (new.current ++ new.ahead)) (λ whole.
      StopsAtLimit aim whole out out'') (read_on new left'' passes) (λ more is. record {
        before = on.before;
        next = next;
        rest = rest ++ more;
        text = on.all;
        read = record {
          fit = on.fit;
          parted = append_assoc (pack_bytes on.before) (new.current ++ new.ahead) more
              ∙ ap (λ b. pack_bytes on.before ++ b) (ap (λ a. a ++ more) ahead
              ∙ append_assoc (record_bytes next) rest more);
          lines = on.lines;
        };
        fits = fits;
        far = omega (arith, far, place, p, ap length spelled);
        written = all_written out'' last;
      })

  -- what stands where a step fails
  pub stops_at_step : (new : Window) (left'' out'' : Option (List ℕ)) (error : RecordsError)
      → StepGives old new left' left'' (Err error) → new.place ≡ old.place + length old.current
      → Appends out' out'' text
      → IfSome left (λ whole.
      StopsSearch (search_error_of error new.place) aim whole left'' out out'')
  stops_at_step new left'' out'' cause.Read off place last = stops_at_read left'' out'' off last
  stops_at_step new left'' out'' cause.OutOfMemory gives place last = within out'' last
  stops_at_step new left'' out'' cause.InputTooLong (passes, none, past) place last =
      stops_at_limit new left'' out'' passes none past place last
  stops_at_step new left'' out'' cause.BadPack (passes, none, bad) place last =
      stops_at new left'' out'' passes place last (λ rest is.
      let same : (new.current ++ new.ahead) ++ rest ≡ new.ahead ++ rest =
      ap (λ c. (c ++ new.ahead) ++ rest) none in
      let here = subst (λ (l : Option (List ℕ)).
      IfSome l (λ rest. (new.ahead ++ rest ≢ []) × HasNoRecord (new.ahead ++ rest))) is bad in (
        λ empty. here.0 (sym same ∙ empty),
        λ packed more own e.
            absurd (here.1 packed more own (sym same ∙ e)),
      ))

  -- nothing more is written
  pub stops_here : IfSome left (λ whole. StopsWithin aim whole out out')
  stops_here = stops_within out' (0, Appends-nil out')

-- a search that stops
pub stopped : {aim : Aim} {left left' out out' : Option (List ℕ)} (error : SearchError)
    → IfSome left (λ whole. StopsSearch error aim whole left' out out')
    → IsSearch aim left left' out out' (Err error)
stopped error stands = record { done = tt; lists = tt; indexes = tt; stopped = stands }

-- a search that stops writes the rest of the lines first
pub stopped_after : {aim : Aim} {old : Window} {left left' out out' : Option (List ℕ)}
    {text : List ℕ} {count : ℕ} (on : HasSearched aim old left left' out out' text count)
    (left'' : Option (List ℕ)) (error result : SearchError) (out'' : Option (List ℕ))
    (faulted : Bool) (gathered : List ℕ) → gathered ≡ text
    → PutsRest error out' out'' faulted gathered result
    → (Appends out' out'' text
    → IfSome left (λ whole. StopsSearch error aim whole left'' out out''))
    → IsSearch aim left left'' out out'' (Err result)
stopped_after {aim} {old} {left} {left'} {out} {out'} on left'' error result out'' faulted gathered
    same (inl (is, sound, put)) stands =
    stopped result (subst (λ (e : SearchError).
    IfSome left (λ whole. StopsSearch e aim whole left'' out out'')) (sym is)
    (stands (subst (Appends out' out'') same put)))
stopped_after {aim} {old} {left} {left'} {out} {out'} on left'' error result out'' faulted gathered
    same (inr (is, failed, front)) stands = stopped result
    (subst (λ (e : SearchError). IfSome left (λ whole. StopsSearch e aim whole left'' out out''))
    (sym is) (stops_within on out'' (subst (AppendsFront out' out'') same front)))
