-- The line that the codes of a record tell is the main line of each game that has the record.
use Rattle.pgn_extract.proofs.Common.{◌≡◌, List, sym, ap, ◌∙◌, subst, same_Some, State, Move}
use Rattle.pgn_extract.proofs.Common.{GameText, tag_in, positions_from, IsCodedLine, IsCodedReplay}
use Rattle.pgn_extract.proofs.Common.{main_words, IsMainLine, RawRecord, PackedGame, AreCodes}
use Rattle.pgn_extract.proofs.Common.{Replay, fen_tag, IsStart, line_legal, line_positions}
use Rattle.pgn_extract.proofs.Common.{one_start, IsOfRecord, HasNoText}
use Rattle.pgn_extract.proofs.Common.{IsOfGame, Main, Option, Some, ℕ, EachOfRecord}
use Rattle.pgn_game.specs.Public.Openings.{NamedLine, IsOpeningIn, ends_of}
use Rattle.pgn_game.specs.declared.openings.Opening.{Opening}
use Rattle.pgn_extract.specs.Public.Rows.{IsOpeningBy}
use Rattle.pgn_game.specs.Public.CodeLines.{AreLegalMoves, IsLegalLine}
use Rattle.pgn_game.proofs.OneReplay.{line_head}
use Rattle.pgn_extract.specs.Private.KeptPacked.{IsStartOf}
use Rattle.pgn_extract.proofs.Common.{slice_get, IsReplay}
use Rattle.pgn_extract.specs.Private.KeptLines.{replay_of}
use Rattle.pgn_extract.proofs.MoveCells.{first_position}
use Rattle.pgn_extract.proofs.OneMain.{one_main}
use Rattle.pgn_extract.proofs.PackedFacts.{line_begins}
use Rattle.pgn_extract.proofs.entries.KeptMoves.{replayed_moves}

module _ {raw : RawRecord} {game : GameText} {replay : Replay} {packed : PackedGame}
    (own : IsOfRecord raw game replay packed) (start : State)
    (is : IsStart (tag_in fen_tag game.tags) start) where
  starts : own.is_replay.start ≡ start
  starts = one_start (tag_in fen_tag game.tags) own.is_replay.start start own.is_replay.is_start is

  kept_start : own.kept.start ≡ start
  kept_start =
      same_Some own.kept.start own.is_replay.start
      (sym own.kept.first
      ∙ line_head own.is_replay.start (main_words game.elements 0) replay.positions
      replay.played own.is_replay.line) ∙ starts

  line_there : IsMainLine start (main_words game.elements 0) replay.positions replay.played
  line_there =
      subst (λ (P : State).
      IsMainLine P (main_words game.elements 0) replay.positions replay.played) starts
      own.is_replay.line

  -- the bytes of the record spell the main line of the game
  coded_line : IsCodedLine start raw.plies replay.played
  coded_line = record {
    legal = line_legal start (main_words game.elements 0) replay.positions replay.played line_there;
    codes = packed.plies;
    are = subst (λ (P : State). AreCodes P replay.played packed.plies) kept_start own.kept.plies;
    spell = ap (λ (r : RawRecord). r.plies) (sym own.shows);
  }

  -- and each replay of the game has it
  pub each_line : (other : Replay) → IsOfGame game other
      → IsLegalLine start other × IsCodedLine start raw.plies other.played
  each_line other is =
      let words = main_words game.elements 0 in
      let same = one_main game replay other (Main, own.is_replay) is in (
        record {
          legal = subst (AreLegalMoves start) same.1
              (line_legal start words replay.positions replay.played line_there);
          positions = sym same.0
              ∙ line_positions start words replay.positions replay.played line_there
              ∙ ap (positions_from start) same.1;
        },
        subst (IsCodedLine start raw.plies) same.1 coded_line,
      )

  -- so a replay of the bytes is that of the game
  pub same_replay : (kept : Replay) → IsCodedReplay start raw.plies kept → replay ≡ kept
  same_replay kept coded =
      let played : replay.played ≡ kept.played = coded.only replay.played coded_line in
      let positions : replay.positions ≡ kept.positions =
      line_positions start (main_words game.elements 0) replay.positions replay.played line_there
      ∙ ap (positions_from start) played ∙ sym coded.line.positions in
      let turns : replay.turns ≡ kept.turns = own.is_replay.turns ∙ sym coded.turns in
      λ i. record { positions = positions i; played = played i; turns = turns i }

-- where the bytes spell no line, no game has the record
pub none_of : (raw : RawRecord) (start : State) → IsStartOf raw start
    → ((moves : List Move) → IsCodedLine start raw.plies moves → ⊥) → HasNoText raw
none_of raw start is none game replay packed own =
    none replay.played (coded_line own start (is game replay packed own))

-- the opening of the line that the bytes spell is that of each game that has the record
pub opening_of : (raw : RawRecord) (start : State) (lines : List NamedLine)
    (opening : Option Opening) (bytes : List ℕ) → bytes ≡ raw.plies → IsStartOf raw start
    → ((moves : List Move) → IsCodedLine start bytes moves
    → IsOpeningIn (ends_of lines) (positions_from start moves) opening)
    → EachOfRecord raw (λ game replay packed. IsOpeningBy (Some lines) replay.positions opening)
opening_of raw start lines opening bytes same is found game replay packed own =
    let line = each_line own start (is game replay packed own) replay (Main, own.is_replay) in
    subst (λ ps. IsOpeningIn (ends_of lines) ps opening) (sym line.0.positions)
    (found replay.played (subst (λ b. IsCodedLine start b replay.played) (sym same) line.1))

-- a line that is kept by these moves, which are its own
pub line_moves : (kept : Replay) (begun : State) → IsLegalLine begun kept → (start : State)
    → slice_get kept.positions 0 ≡ Some start → (moves : List Move) → moves ≡ kept.played
    → AreLegalMoves start moves × (kept.positions ≡ positions_from start moves)
line_moves kept begun line start here moves same =
    let first : begun ≡ start =
    same_Some begun start
    (sym (ap (λ ps. slice_get ps 0) line.positions ∙ first_position begun kept.played)
    ∙ here) in (
      subst (λ P. AreLegalMoves P moves) first
          (subst (AreLegalMoves begun) (sym same) line.legal),
      line.positions ∙ ap (λ P. positions_from P kept.played) first
          ∙ ap (positions_from start) (sym same),
    )

pub legal_line : (game : GameText) (kept : Replay)
    → IsReplay Main (tag_in fen_tag game.tags) game.elements kept
    → (start : State) × IsLegalLine start kept
legal_line game kept is =
    let words = main_words game.elements 0 in (
      is.start,
      record {
        legal = line_legal is.start words kept.positions kept.played is.line;
        positions = line_positions is.start words kept.positions kept.played is.line;
      },
    )

pub kept_is : (game : GameText) (kept : Replay)
    → IsReplay Main (tag_in fen_tag game.tags) game.elements kept → (start : State)
    → slice_get kept.positions 0 ≡ Some start → (moves : List Move) → moves ≡ kept.played
    → kept ≡ replay_of start moves
kept_is game kept is start here moves same =
    let (rest, begins) =
    line_begins is.start (main_words game.elements 0) kept.positions kept.played is.line in
    let first : is.start ≡ start =
    same_Some is.start start (sym (ap (λ ps. slice_get ps 0) begins) ∙ here) in
    replayed_moves game kept is ∙ ap (λ P. replay_of P kept.played) first
    ∙ ap (replay_of start) (sym same)
