-- A packed game is played from position to position by the codes of its plies, and each ply is
-- asked.
use Rattle.std.specs.List.{slice_get}
use Rattle.pgn_extract.proofs.Common.{◌≡◌, ◌↔◌, ℕ, ◌+◌, Bool, true, false, List}
use Rattle.pgn_extract.proofs.Common.{[], ◌∷◌, ◌++◌, length, Option, Some, None, IsTrue, refl, sym}
use Rattle.pgn_extract.proofs.Common.{ap, ◌∙◌, subst, append_assoc, length-append, arith, after}
use Rattle.pgn_extract.proofs.Common.{State, Move, GameText, tag_in, positions_from}
use Rattle.pgn_extract.proofs.Common.{RawRecord, PackedGame, Replay, fen_tag, IsStart, Main}
use Rattle.pgn_extract.proofs.Common.{heading_of, Aim, IsOfGame, AsksFor, Conditions}
use Rattle.pgn_extract.proofs.Common.{GoesTo, MeetsHere, IsOfRecord, EachOfRecord, record_aim}
use Rattle.pgn_extract.proofs.Common.{drop, append-nil, Heading}
use Rattle.std.proofs.lemmas.Option.{slice_get_past}
use Rattle.pgn_game.specs.Public.CodeLines.{IsNextCoded}
use Rattle.pgn_criteria.specs.Public.Meeting.{Meets}
use Rattle.pgn_criteria.specs.Public.Turns.{HasLed, IsTurn}
use Rattle.pgn_extract.specs.Private.KeptPacked.{IsStartOf}
use Rattle.pgn_extract.specs.Private.Lines.{Stands, is_bare}
use Rattle.pgn_extract.specs.Private.Packed.{ListsRecord, StandsInRecord}
use Rattle.pgn_extract.specs.Private.TurnedLines.{IsTurnedTo, IsTurnedWith, Turning}
use Rattle.pgn_extract.proofs.Finds.{at_seam, seam_within, none_yet}
use Rattle.pgn_extract.proofs.OneMain.{one_main, stands_main}
use Rattle.pgn_extract.proofs.packed.KeptPackedFacts.{each_line}

-- ---- where it stands

-- the positions from here on, but this one
abbrev pub later_from : State → List Move → List State
later_from P [] = []
later_from P (m ∷ moves) = positions_from (after P m) moves

pub begins_here : (P : State) (moves : List Move) → positions_from P moves ≡ P ∷ later_from P moves
begins_here P [] = refl
begins_here P (m ∷ moves) = refl

led_alike : (kept other : Replay) → kept.positions ≡ other.positions
    → kept.played ≡ other.played → (ply : ℕ) (from : State) (last : Option Move)
    → HasLed kept ply from last → HasLed other ply from last
led_alike kept other positions played ply from None first = first
led_alike kept other positions played ply from (Some m) (n, is, here, goes) = (
  n,
  is,
  ap (λ ps. slice_get ps n) (sym positions) ∙ here,
  ap (λ ms. slice_get ms n) (sym played) ∙ goes,
)

module _ {from : State} {last : Option Move} {left : List ℕ} {game : GameText} {before : List State}
    {P : State} (to : IsTurnedTo from last left game before P) where
  parts : to.replay.positions ≡ before ++ P ∷ later_from P to.moves
  parts = to.positions ∙ ap (λ ps. before ++ ps) (begins_here P to.moves)

  pub turned_stands : Stands game before P
  turned_stands = stands_main game to.replay to.is_replay before P (later_from P to.moves) parts

  here : slice_get to.replay.positions (length before) ≡ Some P
  here = ap (λ ps. slice_get ps (length before)) parts
      ∙ at_seam before P (later_from P to.moves)

  -- the move that is played from here
  next_there : (next : Option Move) → IsNextCoded P left next
      → slice_get to.replay.played (length before) ≡ next
  next_there None ends =
      let none = to.played ∙ ap (λ ms. to.gone ++ ms) (ends to.moves to.coded)
      ∙ append-nil to.gone in
      let even = to.even in
      ap (λ ms. slice_get ms (length before)) none
      ∙ slice_get_past to.gone (length before) (omega (arith, even))
  next_there (Some m) goes =
      let (more, moves, coded) = goes.2 to.moves to.coded in
      ap (λ ms. slice_get ms (length before)) (to.played ∙ ap (λ ms. to.gone ++ ms) moves)
      ∙ subst (λ n. slice_get (to.gone ++ m ∷ more) n ≡ Some m) to.even (at_seam to.gone m more)

  -- one ply further
  pub turned_on : (m : Move) → IsNextCoded P left (Some m)
      → IsTurnedTo P (Some m) (drop 3 left) game (before ++ P ∷ []) (after P m)
  turned_on m goes =
      let (more, moves, coded) = goes.2 to.moves to.coded in
      let grown = length-append before (P ∷ []) in
      record {
        replay = to.replay;
        is_replay = to.is_replay;
        gone = to.gone ++ m ∷ [];
        moves = more;
        positions = to.positions ∙ ap (λ ms. before ++ positions_from P ms) moves
            ∙ sym (append_assoc before (P ∷ []) (positions_from (after P m) more));
        played = to.played ∙ ap (λ ms. to.gone ++ ms) moves
            ∙ sym (append_assoc to.gone (m ∷ []) more);
        even = length-append to.gone (m ∷ []) ∙ ap (λ n. n + 1) to.even ∙ sym grown;
        coded = coded;
        led = (length before, grown, here, next_there (Some m) goes);
      }

  -- at the end no ply follows
  pub turned_all : IsNextCoded P left None → (replay : Replay) → IsOfGame game replay
      → length replay.positions ≡ length before + 1
  turned_all ends replay own =
      ap length (sym (one_main game to.replay replay (Main, to.is_replay) own).0 ∙ to.positions
      ∙ ap (λ ms. before ++ positions_from P ms) (ends to.moves to.coded))
      ∙ length-append before (P ∷ [])

  -- and each ply is asked
  pub turned_met : (aim : Aim) (asked : List Conditions) → AsksFor aim game asked
      → (next : Option Move) → IsNextCoded P left next → (r : Bool)
      → ((heading : Heading) (replay : Replay) (ply : ℕ) → IsTurn replay ply from last P next
      → IsTrue r ↔ Meets heading replay ply asked) → MeetsHere r aim game before P
  turned_met aim asked asks next coded r says replay own rest is =
      let n = length before in
      let same = one_main game to.replay replay (Main, to.is_replay) own in
      let turn : IsTurn replay n from last P next = record {
        led = led_alike to.replay replay same.0 same.1 n from last to.led;
        here = ap (λ ps. slice_get ps n) (sym same.0) ∙ here;
        goes = ap (λ ms. slice_get ms n) (sym same.1) ∙ next_there next coded;
      } in
      let met = says (heading_of game) replay n turn in
      let for_aim = asks replay own n (seam_within replay.positions before P rest is) in
      (λ t. for_aim.0 (met.0 t), λ is_met. met.1 (for_aim.1 is_met))

-- ---- the start

pub turned_none : {raw : RawRecord} {game : GameText} {replay : Replay} {packed : PackedGame}
    (own : IsOfRecord raw game replay packed) (start from : State)
    → IsStart (tag_in fen_tag game.tags) start → IsTurnedTo from None raw.plies game [] start
turned_none {raw} {game} {replay} {packed} own start from is =
    let line = each_line own start is replay (Main, own.is_replay) in
    record {
      replay = replay;
      is_replay = own.is_replay;
      gone = [];
      moves = replay.played;
      positions = line.0.positions;
      played = refl;
      even = refl;
      coded = line.1;
      led = refl;
    }

-- ---- a line that goes on

module _ (line : Turning) (aim : Aim) (game : GameText) (before : List State) (P : State)
    (at : IsTurnedWith line aim game before P) where
  pub turns_on : (new : Turning) (m : Move) → line.next ≡ Some m → new.search ≡ line.search
      → new.ply ≡ line.ply + 1 → new.here ≡ after line.here m → new.from ≡ line.here
      → new.last ≡ Some m → new.left ≡ drop 3 line.left
      → IsNextCoded new.here new.left new.next → (on : Bool)
      → GoesTo (λ aim game before P. IsTurnedWith new aim game before P) on true aim game before P
  turns_on new m next search ply here from last left coded on =
      let goes : IsNextCoded P line.left (Some m) =
      subst (IsNextCoded P line.left) next at.next in
      let there : new.here ≡ after P m = here ∙ ap (λ Q. after Q m) at.here in
      let to : IsTurnedTo new.from new.last new.left game (before ++ P ∷ []) (after P m) =
      rw (from ∙ at.here, last, left) (turned_on at.to m goes) in (
        [],
        after P m,
        record {
          plain = at.plain;
          asks = subst (AsksFor aim game) (sym search) at.asks;
          count = length-append before (P ∷ []) ∙ ap (λ n. n + 1) at.count ∙ sym ply;
          here = there;
          next = subst (λ Q. IsNextCoded Q new.left new.next) there coded;
          to = to;
          stands = turned_stands to;
        },
        λ replay own rest is n low high. absurd (omega (arith, low, high)),
      )

  pub turns_end : (on : Bool) → (on ≡ true → line.next ≡ None)
      → GoesTo (λ aim game before P. IsTurnedWith line aim game before P) on false aim game before P
  turns_end on ended = (
    (at.to.replay, at.to.is_replay),
    λ is_on replay own rest is n low within wanted.
        let size = turned_all at.to
        (subst (IsNextCoded P line.left) (ended is_on) at.next) replay own in
        absurd (omega (arith, size, low, within)),
  )

-- the line of a record that is asked
pub turns_record : (raw : RawRecord) (aim : Aim) (start : State) (line : Turning)
    → is_bare aim.line ≡ true → IsStartOf raw start
    → EachOfRecord raw (λ game replay packed. AsksFor aim game line.search)
    → line.here ≡ start → line.last ≡ None → line.ply ≡ 0 → line.left ≡ raw.plies
    → IsNextCoded start line.left line.next
    → StandsInRecord (λ aim game before P. IsTurnedWith line aim game before P) aim raw
turns_record raw aim start line plain is asks here last ply left next game replay packed own =
    let to : IsTurnedTo line.from line.last line.left game [] start =
    rw (last, left) (turned_none own start line.from (is game replay packed own)) in (
      [],
      start,
      record {
        plain = plain;
        asks = asks game replay packed own;
        count = sym ply;
        here = here;
        next = next;
        to = to;
        stands = turned_stands to;
      },
      none_yet (record_aim aim raw) game,
    )

-- what is found of a record apart is added
pub lists_added : (aim : Aim) (raw : RawRecord) (old found new : List ℕ) → new ≡ old ++ found
    → ListsRecord aim raw [] found → ListsRecord aim raw old new
lists_added aim raw old found new is lists = (
  (found, is),
  λ game replay packed own.
      let (entries, listed, text) = lists.1 game replay packed own in
      (entries, listed, is ∙ ap (λ t. old ++ t) text),
)
