-- A piece is reported in one way in a mode, but for its note: its game has one replay or one fault,
-- and one export.
use Rattle.pgn_extract.proofs.Common.{◌≡◌, ℕ, ◌+◌, false, List, [], ◌∷◌, map, sym, ap, ◌∙◌, subst}
use Rattle.pgn_extract.proofs.Common.{refl, codes, GameText, tag_in, PieceKind, ReadableGame}
use Rattle.pgn_extract.proofs.Common.{UnreadableRest, TooLongBlock, MarkedPiece, Part, Fault}
use Rattle.pgn_extract.proofs.Common.{Replay, fen_tag, heading_of, Form, Standard, AsItStands, Line}
use Rattle.pgn_extract.proofs.Common.{Record, line_with, IsTextOf, IsWritten, selected, unselected}
use Rattle.pgn_extract.proofs.Common.{faulty_text, fault_text, listing, plies_of}
use Rattle.pgn_extract.proofs.Common.{cause_text, IsNote, Verdict, SoundGame, FaultyGame}
use Rattle.pgn_extract.proofs.Common.{AreEntryLines, IsOutput, IsGameReported, IsGameVerdict}
use Rattle.pgn_extract.proofs.Common.{Bool, true, IsReplayed}
use Rattle.pgn_extract.specs.Public.Verdicts.IsPlayedOrNot.{played, unplayed}
use Rattle.pgn_extract.proofs.Common.{replayed_lines, IsVerdictIn, IsReportedBy, IsPieceVerdict}
use Rattle.pgn_extract.proofs.Common.{AreVerdicts, without_note, IsUnreadableVerdict, Aim, GameId}
use Rattle.pgn_extract.proofs.Common.{IsEntry, id_of, is_chosen, Mode}
use Rattle.pgn_game.proofs.OneReplay.{one_replay, one_fault, no_fault}
use Rattle.pgn_game.proofs.GameLineFacts.{one_game_line}
use Rattle.pgn_game.proofs.SomeRecord.{one_spelling}
use Rattle.pgn_extract.proofs.ChoiceFacts.{by_both, by_choice}
use Rattle.pgn_extract.proofs.Chosen.{one_chosen}
use Rattle.pgn_extract.specs.Public.Listing.{IsShownOf}
use Rattle.pgn_extract.specs.Public.GameReports.{AreListed}
use Rattle.pgn_extract.specs.Public.LineListing.{AreLineListings, ListsEachLine, aim_in}
use Rattle.pgn_extract.specs.Public.LineListing.{listed_game}
use Rattle.pgn_game.specs.Public.LineGames.{LineGame, lines_of}
use Rattle.pgn_game.proofs.Spelling.{one_tree}
use Rattle.std.specs.Prelude.{◌++◌}
use Rattle.pgn_extract.specs.Public.Rows.{place_of}
use Rattle.pgn_extract.proofs.ShownTexts.{one_shown}
use Rattle.pgn_extract.proofs.Counting.{one_counted}
use Rattle.pgn_game.proofs.OneEdited.{one_edited_line}
use Rattle.pgn_game.proofs.laws.LinesOnce.{one_text_of_lines}
use Rattle.pgn_extract.proofs.LaterGames.{one_first, one_from}
use Rattle.pgn_extract.proofs.Common.{EachLine, FromEntry, LineOfEach, Main}
use Rattle.pgn_extract.specs.Public.Exports.{line_begin}
use Rattle.pgn_game.specs.Public.LineGames.{AsExports, OnLines}
use Rattle.pgn_extract.specs.Public.Exports.{IsFirstOrNone, IsFromEntry}
use Rattle.pgn_game.specs.Public.Edits.{IsEditedExport}
use Rattle.pgn_extract.specs.declared.settings.Mode.TheVariants as modes

-- the text of a game
one_text : (form : Form) (aim : Aim) (id : GameId) (game : GameText) (x y : List ℕ)
    → IsTextOf form aim id game x → IsTextOf form aim id game y → x ≡ y
one_text Standard aim id game x y first second =
    one_edited_line false aim.edits aim.style game x y first second
one_text FromEntry aim id game x y (replay, first, own, is, least, begins, export)
    (other, second, later, also, less, starts, exports) =
    let same : other ≡ replay =
    one_replay Main (tag_in fen_tag game.tags) game.elements other replay also is in
    let ply =
    one_first aim (heading_of game) replay first second least
    (subst (λ r. IsFirstOrNone aim (heading_of game) r second) same less) in
    let games =
    one_from first game own later begins
    (subst (λ f. IsFromEntry f game later) (sym ply) starts) in
    one_edited_line false aim.edits aim.style own x y export
    (subst (λ g. IsEditedExport aim.edits aim.style g y) (sym games) exports)
one_text EachLine aim id game x y first second =
    one_text_of_lines (AsExports aim.edits aim.style) game x y first second
one_text (LineOfEach notation) aim id game x y first second =
    one_text_of_lines (OnLines notation (line_begin aim.name id)) game x y first second
one_text AsItStands aim id game x y first second = first ∙ sym second
one_text (Line notation) aim id game x y (own, is, first) (other, also, second) =
    first ∙ ap (line_with aim.name id)
    (one_game_line notation (tag_in fen_tag game.tags) game.elements own other is also) ∙ sym second
one_text Record aim id game x y first second =
    one_spelling aim.name id.number id.offset game x y first second

-- what is written of a game
pub one_written : (aim : Aim) (id : GameId) (game : GameText) (replay : Replay) (x y : List ℕ)
    → IsWritten aim id game replay x → IsWritten aim id game replay y → x ≡ y
one_written aim id game replay x y (selected is first) (selected also second) =
    one_text aim.form aim id game x y first second
one_written aim id game replay x y (selected is first) (unselected none second) = absurd (none is)
one_written aim id game replay x y (unselected none first) (selected is second) = absurd (none is)
one_written aim id game replay x y (unselected none first) (unselected also second) =
    first ∙ sym second

-- the lines of its entries
one_lines : (aim : Aim) (id : GameId) (game : GameText) (replay : Replay) (x y : List ℕ)
    → AreEntryLines aim id game replay x → AreEntryLines aim id game replay y → x ≡ y
one_lines aim id game replay x y (xs, these, first) (ys, those, second) =
    first ∙ ap (listing aim.name)
    (one_chosen id (IsEntry aim (heading_of game) replay) (IsShownOf aim id game replay)
    (λ ply. one_shown aim.line (place_of aim.name aim.openings id aim.of_line game replay ply))
    (plies_of 0 replay.positions)
    xs ys these those) ∙ sym second

-- those of the entries of its lines
one_own : (aim : Aim) (id : GameId) (game : GameText) (number : ℕ) (lines : List LineGame)
    (x y : List ℕ) → AreLineListings aim id game number lines x
    → AreLineListings aim id game number lines y → x ≡ y
one_own aim id game number [] x y is also = is ∙ sym also
one_own aim id game number (line ∷ more) x y
    (own, rest, parted, (replay, is, entries, these, text), later)
    (own2, rest2, split, (other, also, entries2, those, text2), others) =
    let own_aim = aim_in aim number line in
    let listed = listed_game game number line in
    let same : other ≡ replay =
    one_replay Main (tag_in fen_tag game.tags) listed.elements other replay also is in
    let one = one_chosen id (IsEntry own_aim (heading_of game) replay)
    (IsShownOf own_aim id listed replay)
    (λ ply. one_shown aim.line
    (place_of aim.name aim.openings id own_aim.of_line listed replay ply))
    (plies_of 0 replay.positions) entries entries2 these
    (subst (λ (r : Replay). AreListed own_aim id listed r entries2) same those) in
    parted ∙ ap (λ t. t ++ rest) (text ∙ ap (listing aim.name) one ∙ sym text2)
    ∙ ap (λ t. own2 ++ t) (one_own aim id game (number + 1) more rest rest2 later others)
    ∙ sym split

one_each : (aim : Aim) (id : GameId) (game : GameText) (x y : List ℕ)
    → ListsEachLine aim id game x → ListsEachLine aim id game y → x ≡ y
one_each aim id game x y (line, spells, is) (line2, spells2, also) =
    one_own aim id game 0 (lines_of line) x y is
    (subst (λ l. AreLineListings aim id game 0 (lines_of l) y)
    (one_tree line2 line (sym spells2 ∙ spells)) also)

-- what goes to the output of it
one_output : (mode : Mode) (aim : Aim) (id : GameId) (game : GameText) (replay : Replay)
    (x y : List ℕ) → IsOutput mode aim id game replay x → IsOutput mode aim id game replay y → x ≡ y
one_output modes.Index aim id game replay x y first second =
    one_lines aim id game replay x y first second
one_output modes.List aim id game replay x y first second =
    one_lines aim id game replay x y first second
one_output modes.EachLine aim id game replay x y first second =
    one_each aim id game x y first second
one_output modes.Export aim id game replay x y first second =
    one_written aim id game replay x y first second

-- a piece that one line reports
one_line : (aim : Aim) (text line : List ℕ) (a b : Verdict) → IsReportedBy aim text line a
    → IsReportedBy aim text line b → without_note a ≡ without_note b
one_line aim text line a b (first, is, x) (second, also, y) =
    ap without_note x ∙ sym (ap without_note y)

-- bytes that are no game are reported by themselves, their line and a note
reported_by : (aim : Aim) (offset : ℕ) (bytes line : List ℕ) (v : Verdict)
    → IsUnreadableVerdict aim offset bytes line v
    → IsReportedBy aim (faulty_text aim.mode aim.select bytes) line v
reported_by aim offset bytes line v (note, noted, names, is) = (note, noted, is)

-- a game by its replay
pub one_replayed : (mode : Mode) (aim : Aim) (id : GameId) (game : GameText) (a b : Verdict)
    → IsReplayed mode aim id game a → IsReplayed mode aim id game b
    → without_note a ≡ without_note b
one_replayed mode aim id game (SoundGame x) (SoundGame y) (first, is, text) (second, also, other) =
    let of : second ≡ first =
    one_replay (replayed_lines mode aim) (tag_in fen_tag game.tags) game.elements second first
    also is in
    ap SoundGame
    (one_output mode aim id game first x y text
    (subst (λ (r : Replay). IsOutput mode aim id game r y) of other))
one_replayed mode aim id game (SoundGame x) (FaultyGame z y v) (first, is, text)
    (second, also, other, noted, written) =
    absurd (no_fault (replayed_lines mode aim) (tag_in fen_tag game.tags) game.elements second
    (first, is) also)
one_replayed mode aim id game (FaultyGame w x u) (SoundGame y)
    (first, is, text, note, out) (second, also, other) =
    absurd (no_fault (replayed_lines mode aim) (tag_in fen_tag game.tags) game.elements first
    (second, also) is)
one_replayed mode aim id game (FaultyGame w x u) (FaultyGame z y v)
    (first, is, text, note, out) (second, also, other, noted, written) =
    ap (λ (t : List ℕ). FaultyGame t x []) (out ∙ sym written)
    ∙ ap (λ (l : List ℕ). FaultyGame z l [])
    (text ∙ ap (λ (f : Fault). fault_text aim.name id (cause_text f))
    (one_fault (replayed_lines mode aim) (tag_in fen_tag game.tags) game.elements first second
    is also) ∙ sym other)

-- and where tags may come first
one_of_game : (tags_first : Bool) (mode : Mode) (aim : Aim) (id : GameId) (game : GameText)
    (a b : Verdict) → IsGameVerdict tags_first mode aim id game a
    → IsGameVerdict tags_first mode aim id game b → without_note a ≡ without_note b
one_of_game false mode aim id game a b x y = one_replayed mode aim id game a b x y
one_of_game true mode aim id game a b (unplayed out x) (unplayed also y) =
    ap without_note (x ∙ sym y)
one_of_game true mode aim id game a b (unplayed out x) (played none y) = absurd (none out)
one_of_game true mode aim id game a b (played none x) (unplayed out y) = absurd (none out)
one_of_game true mode aim id game a b (played none x) (played also y) =
    one_replayed mode aim id game a b x y

one_of_parts : (mode : Mode) (aim : Aim) (id : GameId) (parts : List Part) (a b : Verdict)
    → IsGameReported mode aim id parts a → IsGameReported mode aim id parts b
    → without_note a ≡ without_note b
one_of_parts mode aim id parts a b (game, is, x) (other, also, y) =
    one_of_game aim.tags_first mode aim id game a b x
    (subst (λ g. IsGameVerdict aim.tags_first mode aim id g b)
    (one_counted aim.openings parts other game also is)
    y)

-- a game in a mode
one_in : (mode : Mode) (aim : Aim) (id : GameId) (parts : List Part) (a b : Verdict)
    → IsVerdictIn mode aim id parts a → IsVerdictIn mode aim id parts b
    → without_note a ≡ without_note b
one_in modes.Index aim id parts a b x y = ap without_note (x ∙ sym y)
one_in modes.List aim id parts a b x y = one_of_parts modes.List aim id parts a b x y
one_in modes.EachLine aim id parts a b x y = one_of_parts modes.EachLine aim id parts a b x y
one_in modes.Export aim id parts a b x y = one_of_parts modes.Export aim id parts a b x y

-- a piece
one_verdict : (kind : PieceKind) (aim : Aim) (id : GameId) (a b : Verdict)
    → IsPieceVerdict kind aim id a → IsPieceVerdict kind aim id b → without_note a ≡ without_note b
one_verdict (ReadableGame parts) aim id a b x y = one_in aim.mode aim id parts a b x y
one_verdict (UnreadableRest bytes) aim id a b x y =
    one_line aim (faulty_text aim.mode aim.select bytes)
    (fault_text aim.name id (codes "unreadable")) a b (reported_by aim id.offset bytes _ a x)
    (reported_by aim id.offset bytes _ b y)
one_verdict TooLongBlock aim id a b x y =
    one_line aim [] (fault_text aim.name id (codes "too long")) a b x y

-- pieces in a row
pub all_one_verdict : (aim : Aim) (number : ℕ) (pieces : List MarkedPiece) (xs ys : List Verdict)
    → AreVerdicts aim number pieces xs → AreVerdicts aim number pieces ys
    → map without_note xs ≡ map without_note ys
all_one_verdict aim number [] xs ys x y = ap (map without_note) (x ∙ sym y)
all_one_verdict aim number (piece ∷ more) xs ys (a, rest, parted, is, others)
    (b, last, split, also, later) =
    let one = by_both (is_chosen aim.chosen (id_of number piece))
    (one_verdict piece.kind aim (id_of number piece) a b) (λ none also_none.
    ap without_note (none ∙ sym also_none)) is also in
    ap (map without_note) parted ∙ ap (λ t. t ∷ map without_note rest) one
    ∙ ap (λ t. without_note b ∷ t) (all_one_verdict aim (number + 1) more rest last others later)
    ∙ ap (map without_note) (sym split)

-- where no explanations are asked for, no verdict has a note
module _ (aim : Aim) (plain : aim.explain ≡ false) where
  no_note : (note : List ℕ) → IsNote aim.explain note → note ≡ []
  no_note note is = subst (λ e. IsNote e note) plain is

  bare_replayed : (mode : Mode) (id : GameId) (game : GameText) (v : Verdict)
      → IsReplayed mode aim id game v → without_note v ≡ v
  bare_replayed mode id game (SoundGame text) is = refl
  bare_replayed mode id game (FaultyGame text line note) (fault, is, here, noted, out) =
      ap (FaultyGame text line) (sym (no_note note noted))

  bare_game : (tags_first : Bool) (mode : Mode) (id : GameId) (game : GameText) (v : Verdict)
      → IsGameVerdict tags_first mode aim id game v → without_note v ≡ v
  bare_game false mode id game v is = bare_replayed mode id game v is
  bare_game true mode id game v (unplayed out none) = ap without_note none ∙ sym none
  bare_game true mode id game v (played none is) = bare_replayed mode id game v is

  bare_line : (v : Verdict) (text line : List ℕ) → IsReportedBy aim text line v → without_note v ≡ v
  bare_line v text line (note, noted, is) =
      ap without_note is ∙ ap (FaultyGame text line) (sym (no_note note noted)) ∙ sym is

  bare_in : (mode : Mode) (id : GameId) (parts : List Part) (v : Verdict)
      → IsVerdictIn mode aim id parts v → without_note v ≡ v
  bare_in modes.Index id parts v is = ap without_note is ∙ sym is
  bare_in modes.List id parts v is = bare_game aim.tags_first modes.List id is.0 v is.2
  bare_in modes.EachLine id parts v is = bare_game aim.tags_first modes.EachLine id is.0 v is.2
  bare_in modes.Export id parts v is = bare_game aim.tags_first modes.Export id is.0 v is.2

  bare_piece : (kind : PieceKind) (id : GameId) (v : Verdict) → IsPieceVerdict kind aim id v
      → without_note v ≡ v
  bare_piece (ReadableGame parts) id v is = bare_in aim.mode id parts v is
  bare_piece (UnreadableRest bytes) id v is =
      bare_line v (faulty_text aim.mode aim.select bytes)
      (fault_text aim.name id (codes "unreadable")) (reported_by aim id.offset bytes _ v is)
  bare_piece TooLongBlock id v is = bare_line v [] (fault_text aim.name id (codes "too long")) is

  pub bare_verdicts : (number : ℕ) (pieces : List MarkedPiece) (verdicts : List Verdict)
      → AreVerdicts aim number pieces verdicts → map without_note verdicts ≡ verdicts
  bare_verdicts number [] verdicts none = ap (map without_note) none ∙ sym none
  bare_verdicts number (piece ∷ more) verdicts (own, rest, parted, is, others) =
      let one = by_choice (is_chosen aim.chosen (id_of number piece)) (λ _.
      bare_piece piece.kind (id_of number piece) own) (λ _ none. ap without_note none
      ∙ sym none) is in
      ap (map without_note) parted ∙ ap (λ t. t ∷ map without_note rest) one
      ∙ ap (λ t. own ∷ t) (bare_verdicts (number + 1) more rest others) ∙ sym parted
