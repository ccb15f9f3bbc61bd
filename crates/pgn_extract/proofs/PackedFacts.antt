-- What is known of the games that have a record.
use Rattle.std.specs.Prelude.{◌==◌, ◌/◌, ◌%◌}
use Rattle.pgn_extract.proofs.Common.{◌≡◌, ◌⊎◌, ℕ, ◌+◌, ◌*◌, inl, inr, List, [], ◌∷◌}
use Rattle.pgn_extract.proofs.Common.{◌++◌, length, false, IsTrue, or_some, false≢true, decimal}
use Rattle.pgn_extract.proofs.Common.{GameId, Option, AreChosen, plies_of, none}
use Rattle.pgn_extract.proofs.Common.{keep, leave, Bool, not, ◌&&◌, refl, aim_of}
use Rattle.pgn_extract.proofs.Common.{Some, sym, ap, ◌∙◌, subst, append-nil, arith, slice_get}
use Rattle.pgn_extract.proofs.Common.{same_Some, State, Move, GameText, tag_in, main_words}
use Rattle.pgn_extract.proofs.Common.{IsMainLine, RawRecord, raw_of, PackedGame, FitsRecord}
use Rattle.pgn_extract.proofs.Common.{AreMarks, Replay, fen_tag, IsStart, Main, head_shows}
use Rattle.pgn_extract.proofs.Common.{one_start, one_replay, line_length, same_rest, heading_of}
use Rattle.pgn_extract.proofs.Common.{Sight, IsSightOf, Aim, IsEntry, AreListed, Entry}
use Rattle.pgn_extract.proofs.Common.{listing, named_mark, HandsOn, marked_lines, raw_id}
use Rattle.pgn_extract.proofs.Common.{IsOfRecord, HasNoText, EachOfRecord, NoneInRecord, record_aim}
use Rattle.pgn_extract.proofs.Common.{true, AreRecordLines, IsOfNoGame, IsRecordListing, Mode}
use Rattle.pgn_game.proofs.RecordFacts.{plies_size}
use Rattle.pgn_game.proofs.RecordWriting.{codes_count}
use Rattle.pgn_extract.specs.Private.Packed.{PutsRecord, HasItsMarks, Grows, ListsCounted}
use Rattle.pgn_extract.specs.Private.Packed.{ListsRecord}
use Rattle.pgn_extract.specs.Private.Packed.{HasNoEntry, bare_aim}
use Rattle.pgn_extract.specs.Public.Listing.{IsShownOf, IsShownBy, Shown, AfterPly, AsRow}
use Rattle.pgn_extract.specs.Private.Lines.{is_bare}
use Rattle.pgn_extract.specs.Public.Rows.{RowPlace, place_of}
use Rattle.pgn_extract.specs.declared.settings.EntryLine.{EntryLine}
use Rattle.pgn_extract.specs.declared.settings.EntryLine.TheVariants.{Marked, InColumns}
use Rattle.pgn_extract.specs.declared.settings.Fields.{Fields}
use Rattle.pgn_extract.specs.declared.settings.Settings.{Settings}
use Rattle.pgn_extract.proofs.Finds.{adds_lines, some_chosen}
use Rattle.pgn_extract.proofs.Picks.{leaves_all}
use Rattle.pgn_extract.proofs.Common.{IsOfGame}
use Rattle.pgn_extract.proofs.OneMain.{one_main}
use Rattle.pgn_extract.specs.declared.settings.Mode.TheVariants as modes

-- ---- the start

-- a main line begins where it is played from
pub line_begins : (P : State) (words : List (List ℕ)) (positions : List State) (played : List Move)
    → IsMainLine P words positions played → (later : List State) × (positions ≡ P ∷ later)
line_begins P [] positions played line = ([], line.0)
line_begins P (word ∷ words) positions played line = (line.1, line.3)

module _ {raw : RawRecord} {game : GameText} {replay : Replay} {packed : PackedGame}
    (own : IsOfRecord raw game replay packed) where
  -- the start of the replay
  pub begins : (later : List State) × (replay.positions ≡ own.is_replay.start ∷ later)
  begins =
      line_begins own.is_replay.start (main_words game.elements 0) replay.positions replay.played
      own.is_replay.line

  pub first_is : slice_get replay.positions 0 ≡ Some own.is_replay.start
  first_is = ap (λ (ps : List State). slice_get ps 0) begins.1

  pub kept_start : own.kept.start ≡ own.is_replay.start
  kept_start = same_Some own.kept.start own.is_replay.start (sym own.kept.first ∙ first_is)

  -- what is seen with the men and the side of the start, and the record's marks, is seen of the
  -- start
  pub sight_at_start : (P : State) → IsStart (tag_in fen_tag game.tags) P → (s : Sight)
      → s.men ≡ P.men → s.turn ≡ P.turn → HasItsMarks raw s
      → (Q : State) × (slice_get replay.positions 0 ≡ Some Q) × IsSightOf Q s
  sight_at_start P is s men turn marks =
      let shows = head_shows packed own.fits in
      let start : own.is_replay.start ≡ P =
      one_start (tag_in fen_tag game.tags) own.is_replay.start P own.is_replay.is_start is in
      let head : packed_head ≡ raw.head = ap (λ (r : RawRecord). r.head) own.shows in
      let check : s.check ≡ packed.check = marks.check ∙ ap (λ n. n % 2 == 1) (sym head)
      ∙ shows.check in
      let stuck : s.stuck ≡ packed.stuck = marks.stuck ∙ ap (λ n. n / 2 % 2 == 1) (sym head)
      ∙ shows.stuck in
      let its : AreMarks P packed.check packed.stuck =
      subst (λ (Q : State). AreMarks Q packed.check packed.stuck) (kept_start
      ∙ start) own.kept.marks in (
        P,
        first_is ∙ ap Some start,
        record {
          men = men;
          turn = turn;
          check = (λ t. its.check.0 (sym check ∙ t), λ h. check ∙ its.check.1 h);
          stuck = (λ t. its.stuck.0 (sym stuck ∙ t), λ h. stuck ∙ its.stuck.1 h);
        },
      )
    where
      packed_head : ℕ
      packed_head = (raw_of packed).head

-- ---- of whatever game

-- the entries that are handed on as lines are those of the record
pub lists_record : (aim : Aim) (raw : RawRecord) (mark old new : List ℕ)
    → mark ≡ named_mark raw.name (raw_id raw) → Grows old new
    → EachOfRecord raw (λ game replay packed. HandsOn (record_aim aim raw) (raw_id raw) game
    (λ got. new ≡ old ++ marked_lines mark got)) → ListsRecord aim raw old new
lists_record aim raw mark old new marked grows hands = (
  grows,
  λ game replay packed own.
      let (other, is, entries, listed, added) =
      adds_lines (record_aim aim raw) (raw_id raw) game mark old new marked
      (hands game replay packed own) in
      let same : other ≡ replay =
      one_replay Main (tag_in fen_tag game.tags) game.elements other replay is own.is_replay in (
        entries,
        subst (λ r. AreListed (record_aim aim raw) (raw_id raw) game r entries) same listed,
        added,
      ),
)

-- the text of an entry after a mark and a ply is never empty
abbrev IsMarkedText : Shown → Type 0
IsMarkedText (AfterPly text) = Unit {0}
IsMarkedText (AsRow text) = ⊥

is_marked : (line : EntryLine) (fields : Fields) → line ≡ Marked fields → (place : RowPlace)
    (shown : Shown) → IsShownBy line place shown → IsMarkedText shown
is_marked line fields is place shown shows =
    let (text, are, after) = subst (λ (l : EntryLine). IsShownBy l place shown) is shows in
    subst IsMarkedText (sym after) tt

some_line : (own ply text rest : List ℕ) → own ++ 32 ∷ ply ++ text ++ rest ≡ [] → ⊥
some_line [] ply text rest empty = cc
some_line (b ∷ own) ply text rest empty = cc

no_line : (name : Option (List ℕ)) (id : GameId) (ply : ℕ) (shown : Shown) (more : List Entry)
    → IsMarkedText shown
    → listing name (record { id = id; ply = ply; shown = shown } ∷ more) ≡ [] → ⊥
no_line name id ply (AfterPly text) more marked empty =
    some_line (named_mark name id) (decimal ply) (text ++ 10 ∷ []) (listing name more) empty
no_line name id ply (AsRow text) more marked empty = absurd marked

-- so lines that are empty are those of no entry
no_lines : (name : Option (List ℕ)) (id : GameId) (P : ℕ → Type 0) (S : ℕ → Shown → Type 0)
    → ((ply : ℕ) (shown : Shown) → S ply shown → IsMarkedText shown)
    → (plies : List ℕ) (entries : List Entry) → AreChosen id P S plies entries
    → listing name entries ≡ [] → IsTrue (or_some false entries) → ⊥
no_lines name id P S marked plies entries none empty some = absurd (false≢true some)
no_lines name id P S marked plies entries (keep ply shown all chosen is shows more) empty some =
    no_line name id ply shown chosen (marked ply shown shows) empty
no_lines name id P S marked plies entries (leave ply all chosen fails more) empty some =
    no_lines name id P S marked all chosen more empty some

-- where there is no entry nothing is added
pub lists_no_entry : (aim : Aim) (raw : RawRecord) (text : List ℕ) → HasNoEntry aim raw
    → ListsRecord aim raw text text
lists_no_entry aim raw text absent = (
  ([], sym (append-nil text)),
  λ game replay packed own. (
    [],
    leaves_all (raw_id raw) (IsEntry aim (heading_of game) replay)
        (IsShownOf (record_aim aim raw) (raw_id raw) game replay) 0
        replay.positions
        (λ n low high entry. absent game replay packed own n (omega (arith, high)) entry),
    sym (append-nil text),
  ),
)

-- and where nothing was added there is none
pub none_listed : (aim : Aim) (raw : RawRecord) → (fields : Fields) → aim.line ≡ Marked fields
    → ListsRecord aim raw [] [] → HasNoEntry aim raw
none_listed aim raw fields line lists game replay packed own n within entry =
    let (entries, listed, text) = lists.1 game replay packed own in
    let some = some_chosen (raw_id raw) (IsEntry aim (heading_of game) replay)
    (IsShownOf (record_aim aim raw) (raw_id raw) game replay) 0 replay.positions entries listed in
    no_lines raw.name (raw_id raw) (IsEntry aim (heading_of game) replay)
    (IsShownOf (record_aim aim raw) (raw_id raw) game replay)
    (λ ply shown is. is_marked aim.line fields line
    (place_of raw.name aim.openings (raw_id raw) aim.of_line game replay ply) shown is)
    (plies_of 0 replay.positions) entries listed (sym text)
    (some.1 (n, omega arith, omega (arith, within), entry))

-- where no ply is wanted nothing is added
pub lists_none : (aim : Aim) (raw : RawRecord) (text : List ℕ) → NoneInRecord aim raw
    → ListsRecord aim raw text text
lists_none aim raw text absent =
    lists_no_entry aim raw text (λ game replay packed own n within entry.
    absent game replay packed own n within entry.0)

-- a line that is the mark and the ply alone is that without fields
no_field : (fen next : Bool) → not fen && not next ≡ true
    → Marked (record { fen = fen; next = next }) ≡ Marked (record { fen = false; next = false })
no_field false false bare = refl
no_field false true bare = absurd (cc)
no_field true next bare = absurd (cc)

bare_line : (line : EntryLine) → is_bare line ≡ true
    → line ≡ Marked (record { fen = false; next = false })
bare_line (Marked fields) bare = no_field fields.fen fields.next bare
bare_line (InColumns row) bare = absurd (cc)

-- so marks and plies are listed where no more is asked for
pub lists_bare : (settings : Settings) (raw : RawRecord) (old new : List ℕ)
    → is_bare settings.line ≡ true → ListsRecord (bare_aim settings) raw old new
    → ListsRecord (aim_of settings) raw old new
lists_bare settings raw old new bare lists =
    subst (λ (line : EntryLine). ListsRecord (record (aim_of settings) { line = line }) raw old new)
    (sym (bare_line settings.line bare)) lists

appended_same : (old own other : List ℕ) → old ++ own ≡ old ++ other → own ≡ other
appended_same [] own other is = is
appended_same (b ∷ old) own other is =
    appended_same old own other (same_rest b b (old ++ own) (old ++ other) is)

-- outside the index the listing of a record is its lines
listed_lines : (aim : Aim) (packed : PackedGame) (text : List ℕ)
    → (aim.mode ≡ modes.List) ⊎ ((aim.mode ≡ modes.EachLine) ⊎ (aim.mode ≡ modes.Export))
    → IsRecordListing aim packed text → AreRecordLines aim.mode aim packed text
listed_lines aim packed text (inl list) listed =
    subst (λ (m : Mode). AreRecordLines m aim packed text) (sym list) listed
listed_lines aim packed text (inr (inl lines)) listed =
    subst (λ (m : Mode). AreRecordLines m aim packed text) (sym lines) listed
listed_lines aim packed text (inr (inr export)) listed =
    subst (λ (m : Mode). AreRecordLines m aim packed text) (sym export) listed

-- the lines of each game that has the record, as it counts, are the lines of the record
pub puts_record : (aim : Aim) (raw : RawRecord) (old new : List ℕ)
    → (aim.mode ≡ modes.List) ⊎ ((aim.mode ≡ modes.EachLine) ⊎ (aim.mode ≡ modes.Export))
    → ListsCounted aim raw old new → PutsRecord aim raw old new
puts_record aim raw old new mode lists = (
  lists.0.0,
  lists.0.1,
  λ packed fits shows. listed_lines aim packed lists.0.0 mode (λ game replay text is_replay kept.
      let own : IsOfRecord raw game replay packed =
      record { fits = fits; shows = shows; text = text; is_replay = is_replay; kept = kept } in
      let of = lists.1 game replay packed own in
      let there : (entries : List Entry)
      × AreListed (record_aim aim (raw_of packed)) (raw_id (raw_of packed)) of.0 replay entries
      × (new ≡ old ++ listing (raw_of packed).name entries) =
      subst (λ (r : RawRecord). (entries : List Entry)
      × AreListed (record_aim aim r) (raw_id r) of.0 replay entries
      × (new ≡ old ++ listing r.name entries)) (sym shows) (of.2, of.3, of.4) in (
        of.0,
        of.1,
        there.0,
        there.1,
        appended_same old lists.0.0 (listing packed.name there.0) (sym lists.0.1 ∙ there.2),
      )),
)

-- and where there is no such game, the record is that of none
pub leaves_record : (raw : RawRecord) → HasNoText raw → (packed : PackedGame) → FitsRecord packed
    → raw_of packed ≡ raw → IsOfNoGame packed
leaves_record raw absent packed fits shows game replay text is_replay kept =
    absent game replay packed
    (record { fits = fits; shows = shows; text = text; is_replay = is_replay; kept = kept })

-- ---- how many plies

-- the bytes of the plies are three for each
pub plies_counted : {raw : RawRecord} {game : GameText} {replay : Replay} {packed : PackedGame}
    → IsOfRecord raw game replay packed → length replay.positions ≡ length raw.plies / 3 + 1
plies_counted {raw} {game} {replay} {packed} own =
    let size =
    line_length own.is_replay.start (main_words game.elements 0) replay.positions replay.played
    own.is_replay.line in
    let codes = codes_count own.kept.start replay.played packed.plies own.kept.plies in
    let bytes : length raw.plies ≡ 3 * length packed.plies =
    ap (λ (r : RawRecord). length r.plies) (sym own.shows) ∙ plies_size packed.plies in
    omega (arith, size, codes, bytes)

-- and so many moves has each replay of the game
pub moves_counted : {raw : RawRecord} {game : GameText} {replay : Replay} {packed : PackedGame}
    → IsOfRecord raw game replay packed → (other : Replay) → IsOfGame game other
    → length other.played ≡ length raw.plies / 3
moves_counted {raw} {game} {replay} {packed} own other is =
    let codes = codes_count own.kept.start replay.played packed.plies own.kept.plies in
    let bytes : length raw.plies ≡ 3 * length packed.plies =
    ap (λ (r : RawRecord). length r.plies) (sym own.shows) ∙ plies_size packed.plies in
    let same : length replay.played ≡ length other.played =
    ap length (one_main game replay other (Main, own.is_replay) is).1 in
    omega (arith, codes, bytes, same)
