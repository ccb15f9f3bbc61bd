-- The pieces of a block read again from one of them on, as a block by itself that is not at the
-- file's start.
use Rattle.pgn_text.proofs.Common.{◌≢◌, ℕ, ◌-◌, Bool, false, List, [], ◌∷◌, ◌++◌, map, length, refl}
use Rattle.pgn_text.proofs.Common.{arith, append_assoc, length-append, Part, spelled, IsGame}
use Rattle.pgn_text.proofs.Common.{IsLongestGap, NoGame, Piece, Game, Unreadable, ArePieces}
use Rattle.pgn_text.proofs.laws.ShorterText.{game_elsewhere}
use Rattle.pgn_text.proofs.OneList.{game_has_byte}
use Rattle.pgn_text.proofs.laws.ReadAgain.{IsClear, some_bytes, stand_there, stand_back}
use Rattle.pgn_text.proofs.laws.ReadAgain.{game_there}
use Rattle.pgn_text.proofs.laws.ReadAgain.{game_back, no_gap_there, gap_there}

-- a piece as a block sees it that begins n bytes further on
abbrev pub moved_back : ℕ → Piece → Piece
moved_back n (Game at parts) = Game (at - n) parts
moved_back n (Unreadable at bytes) = Unreadable (at - n) bytes

pub pieces_there : (max_depth : ℕ) (file_start : Bool) (before z : List ℕ) (pieces : List Piece)
    (text : List ℕ)
    → IsClear file_start before → z ≢ [] → ArePieces max_depth file_start (before ++ z) pieces text
    → ArePieces max_depth false z (map (moved_back (length before)) pieces) text
pieces_there max_depth file_start before z [] text clear some h =
    (h.0, h.1, gap_there file_start before z h.0 [] clear some h.2)
pieces_there max_depth file_start before z (Game at parts ∷ more) text clear some h =
    let place = append_assoc before z (spelled h.0) in
    let some_here = some_bytes z (spelled h.0) some in (
      h.0,
      h.1,
      h.2,
      gap_there file_start before z h.0 (spelled parts ++ h.1) clear some h.3,
      omega (
        arith,
        h.4,
        length-append (before ++ z) (spelled h.0),
        length-append before z,
        length-append z
            (spelled h.0),
      ),
      game_elsewhere max_depth file_start false ((before ++ z) ++ spelled h.0) (z
          ++ spelled h.0) parts h.1 h.1 h.5
          (stand_there file_start before (z
          ++ spelled h.0) parts h.1 clear some_here (rw place at h.5.stand)),
      pieces_there max_depth file_start before ((z ++ spelled h.0) ++ spelled parts) more h.1 clear
          (some_bytes (z ++ spelled h.0) (spelled parts) some_here)
          (rw (place, append_assoc before (z ++ spelled h.0) (spelled parts)) at h.6),
    )
pieces_there max_depth file_start before z (Unreadable at bytes ∷ more) text clear some h =
    let place = append_assoc before z (spelled h.0) in
    let some_here = some_bytes z (spelled h.0) some in (
      h.0,
      h.1,
      gap_there file_start before z h.0 bytes clear some h.2,
      omega (
        arith,
        h.3,
        length-append (before ++ z) (spelled h.0),
        length-append before z,
        length-append z
            (spelled h.0),
      ),
      h.4,
      λ parts after e g. h.5 parts after e
          (game_elsewhere max_depth false file_start (z ++ spelled h.0)
          ((before ++ z) ++ spelled h.0) parts after after g
          (rw place (stand_back file_start before (z
          ++ spelled h.0) parts after clear some_here g.stand))),
      rw h.6 refl,
    )

-- ---- the block from one of its pieces on

pub resumed_at_game : (max_depth : ℕ) (file_start : Bool) (before : List ℕ) (parts : List Part)
    (more : List Piece)
    (after : List ℕ)
    → IsClear file_start before → IsLongestGap file_start before [] (spelled parts ++ after)
    → IsGame max_depth file_start before parts after
    → ArePieces max_depth file_start (before ++ spelled parts) more after
    → ArePieces max_depth false [] (Game 0 parts
    ∷ map (moved_back (length before)) more) (spelled parts ++ after)
resumed_at_game max_depth file_start before parts more after clear l g h = (
  [],
  after,
  refl,
  no_gap_there file_start before (spelled parts ++ after) l,
  refl,
  game_there max_depth file_start before parts after clear g,
  pieces_there max_depth file_start before (spelled parts) more after clear
      (game_has_byte max_depth file_start before
      parts after g) h,
)

pub resumed_at_unreadable : (max_depth : ℕ) (file_start : Bool) (before text : List ℕ)
    → IsClear file_start before
    → IsLongestGap file_start before [] text → text ≢ [] → NoGame max_depth file_start before text
    → ArePieces max_depth false [] (Unreadable 0 text ∷ []) text
resumed_at_unreadable max_depth file_start before text clear l some none = (
  [],
  refl,
  no_gap_there file_start before text l,
  refl,
  some,
  λ parts after e g. none parts after e (game_back max_depth file_start before parts after clear g),
  refl,
)
