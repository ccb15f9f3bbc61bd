-- A game whose main line is sound has a record, and one alone.
use Rattle.pgn_game.proofs.Common.{◌≡◌, ◌↔◌, ℕ, Bool, true, false, List, [], ◌∷◌, Option, Some}
use Rattle.pgn_game.proofs.Common.{None, refl, sym, ap, subst, ◌∙◌, inl, inr, Place, IsOnBoard}
use Rattle.pgn_game.proofs.Common.{AreOnBoard, State, after, arriving, HasMove, IsPseudoLegal, Man}
use Rattle.pgn_game.proofs.Common.{Kind, Move, settled_check, men_stay_on_board, tag_in, IsMainLine}
use Rattle.pgn_game.proofs.Common.{main_words, PackedGame, IsPacked, record_bytes, PlyCode}
use Rattle.pgn_game.proofs.Common.{AreMarks, IsCode, AreCodes, Replay, fen_tag, Main}
use Rattle.chess.specs.Public.Moves.{capture_square, CanGo}
use Rattle.chess.proofs.MateSettled.{settled_can_go}
use Rattle.chess.proofs.Searches.{search_square}
use Rattle.chess.proofs.Settled.{Settled, settled_like, settled_not}
use Rattle.pgn_game.specs.Public.Laws.{SoundGameHasARecord, GameHasOneSpelling}
use Rattle.pgn_game.proofs.AnAnswer.{start_on_board}
use Rattle.pgn_game.proofs.OneReplay.{line_head, one_replay}
use Rattle.pgn_game.proofs.PlyCodeFacts.{one_record_of_a_game}
use Rattle.pgn_game.proofs.RecordWriting.{record_with, is_record_with}

-- ---- marks

mark_of : {A : Type 0} → Settled A → (b : Bool) × ((b ≡ true) ↔ A)
mark_of (inl so) = (true, (λ e. so, λ a. refl))
mark_of (inr not) = (false, (λ e. absurd cc, λ a. absurd (not a)))

settled_has_move : (P : State) → AreOnBoard P.men → Settled (HasMove P)
settled_has_move P on_board =
    settled_like (λ h. (h.0, h.2.0, h.2.2)) (λ h.
    (h.0, h.2.2.pseudo_legal.from, (h.1, h.2.2.pseudo_legal.to, h.2)))
    (search_square (λ s. (t : Place) × IsOnBoard t
    × CanGo P s t) (λ s. search_square (λ t. CanGo P s t) (λ t. settled_can_go P s t on_board)))

-- each position has marks
some_marks : (P : State) → AreOnBoard P.men
    → (check : Bool) × (stuck : Bool) × AreMarks P check stuck
some_marks P on_board =
    let check = mark_of (settled_check P.men P.turn on_board) in
    let stuck = mark_of (settled_not (settled_has_move P on_board)) in
    (check.0, stuck.0, record { check = check.1; stuck = stuck.1 })

-- ---- codes

some_arriving : (P : State) (m : Move) (promote : Option Kind) → IsPseudoLegal P m
    → (man : Man) × (arriving P promote m.from ≡ Some man)
some_arriving P m None legal = (legal.man, legal.here)
some_arriving P m (Some kind) legal = (record { side = P.turn; kind = kind }, refl)

some_code : (P : State) (m : Move) → IsPseudoLegal P m → AreOnBoard (after P m).men
    → (c : PlyCode) × IsCode P m c
some_code P m legal on_board =
    let man = some_arriving P m m.promote legal in
    let marks = some_marks (after P m) on_board in
    let code : PlyCode =
    record {
      from = m.from;
      to = m.to;
      taken = capture_square P m;
      man = man.0;
      castle = m.castle;
      check = marks.0;
      stuck = marks.1;
    } in (
      code,
      record {
        from = refl;
        to = refl;
        taken = refl;
        man = man.1;
        castle = refl;
        marks = marks.2;
      },
    )

some_codes : (P : State) (words : List (List ℕ)) (positions : List State) (played : List Move)
    → AreOnBoard P.men → IsMainLine P words positions played
    → (codes : List PlyCode) × AreCodes P played codes
some_codes P [] positions played on_board line =
    ([], subst (λ moves. AreCodes P moves []) (sym line.1) refl)
some_codes P (word ∷ words) positions played on_board (
  m,
  later,
  more,
  positions_is,
  played_is,
  named,
  rest,
) =
    let legal = named.named.legal in
    let stay = men_stay_on_board P m on_board legal in
    let own = some_code P m legal.pseudo_legal stay in
    let others = some_codes (after P m) words later more stay rest in (
      own.0 ∷ others.0,
      rw played_is (own.0, others.0, refl, own.1, others.1),
    )

-- ---- the record

pub a_record : SoundGameHasARecord
a_record name number offset game (replay, is) =
    let words = main_words game.elements 0 in
    let on_board = start_on_board (tag_in fen_tag game.tags) is.start is.is_start in
    let marks = some_marks is.start on_board in
    let codes = some_codes is.start words replay.positions replay.played on_board is.line in
    let packed : PackedGame = record_with name number offset game marks.0 marks.1 codes.0 in
    let first = line_head is.start words replay.positions replay.played is.line in
    let is_packed =
    is_record_with name number offset game replay is.start marks.0 marks.1 codes.0 first marks.2
    codes.1 in (
      record_bytes packed,
      record {
        replay = replay;
        is_replay = is;
        packed = packed;
        is_packed = is_packed;
        spells = refl;
      },
    )

pub one_spelling : GameHasOneSpelling
one_spelling name number offset game bytes other own also =
    let replay : also.replay ≡ own.replay =
    one_replay Main (tag_in fen_tag game.tags) game.elements also.replay own.replay
    also.is_replay own.is_replay in
    let is_packed =
    subst (λ (r : Replay). IsPacked name number offset game r also.packed) replay also.is_packed
    in
    let same =
    one_record_of_a_game name number offset game own.replay own.packed also.packed own.is_packed
    is_packed in
    own.spells ∙ ap record_bytes same ∙ sym also.spells
