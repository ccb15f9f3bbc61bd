-- A line that is kept by its moves: where it stands, and what its moves show.
use Rattle.std.specs.Prelude.{◌⊎◌, Option, None, Some, IfSome, zero, suc, drop, get_or}
use Rattle.std.proofs.Common.{drop-cons}
use Rattle.pgn_extract.proofs.Common.{◌≡◌, ◌+◌, ◌<◌, ℕ, List, [], ◌∷◌, ◌++◌, length, refl, sym, ap}
use Rattle.pgn_extract.proofs.Common.{◌∙◌, subst, arith, append_assoc, append-nil, MatchOption}
use Rattle.pgn_extract.proofs.Common.{slice_get, same_Some, State, Move, after, IsLegal}
use Rattle.pgn_extract.proofs.Common.{positions_from, main_words, Replay, IsReplay}
use Rattle.pgn_extract.proofs.Common.{GameText, tag_in, fen_tag, Main, line_legal, line_positions}
use Rattle.pgn_game.specs.Public.CodeLines.{AreLegalMoves}
use Rattle.pgn_game.specs.Public.GameLines.{AreMoveTexts, IsMoveText, uci_text}
use Rattle.pgn_game.specs.declared.exports.notation.Notation.{Notation}
use Rattle.pgn_extract.specs.Private.KeptLines.{AreFirst, replay_of}
use Rattle.pgn_extract.specs.Public.Rows.{IsAt, AreMovesCell, uci_cell}
use Rattle.pgn_extract.proofs.Common.{◌↔◌, Bool, IsTrue, Conditions, IsMet, IsOfGame, heading_of}
use Rattle.pgn_extract.proofs.Common.{inl, inr, one_start, IsStart}
use Rattle.pgn_game.specs.Public.PlayedLines.{PlayedLine, PlaysWord}
use Rattle.pgn_criteria.specs.Shared.PlayedTo.{IsPlayedTo}
use Rattle.pgn_criteria.proofs.PlayedFacts.{played_all, played_on}
use Rattle.pgn_extract.specs.Private.PlayedLines.{TellsAt}
use Rattle.pgn_extract.proofs.Finds.{at_seam}
use Rattle.pgn_extract.proofs.MoveCells.{first_position}
use Rattle.pgn_extract.proofs.entries.PlayedFacts.{stands_there}

-- Where it stands.

-- the position after one more move
position_after : (start : State) (moves : List Move) (n : ℕ) (P : State) (m : Move)
    → slice_get (positions_from start moves) n ≡ Some P → slice_get moves n ≡ Some m
    → slice_get (positions_from start moves) (suc n) ≡ Some (after P m)
position_after start [] n P m here is = absurd (cc)
position_after start (k ∷ moves) zero P m here is =
    first_position (after start k) moves
    ∙ ap (λ Q. Some (after Q k)) (same_Some start P here)
    ∙ ap (λ j. Some (after P j)) (same_Some k m is)
position_after start (k ∷ moves) (suc n) P m here is =
    position_after (after start k) moves n P m here is

pub next_position : (start : State) (moves : List Move) (n next : ℕ) (P : State) (m : Move)
    → next ≡ n + 1 → slice_get (positions_from start moves) n ≡ Some P
    → slice_get moves n ≡ Some m
    → slice_get (positions_from start moves) next ≡ Some (after P m)
next_position start moves n zero P m step here is = absurd (omega (arith, step))
next_position start moves n (suc k) P m step here is =
    let same : n ≡ k = omega (arith, step) in
    subst (λ j. slice_get (positions_from start moves) (suc j) ≡ Some (after P m)) same
    (position_after start moves n P m here is)

-- each move is legal where it is played
pub legal_of : (start : State) (moves : List Move) (n : ℕ) (P : State) → AreLegalMoves start moves
    → slice_get (positions_from start moves) n ≡ Some P
    → IfSome (slice_get moves n) (IsLegal P)
legal_of start [] n P legal here = tt
legal_of start (k ∷ moves) zero P legal here =
    subst (λ Q. IsLegal Q k) (same_Some start P here) legal.0
legal_of start (k ∷ moves) (suc n) P legal here = legal_of (after start k) moves n P legal.1 here

-- What its moves show.

-- the move that is played from a position of the line
pub moved_there : (notation : Notation) (start : State) (moves : List Move) (n : ℕ) (P : State)
    (value : List ℕ) → slice_get (positions_from start moves) n ≡ Some P → (o : Option Move)
    → MatchOption o (value ≡ []) (λ m. IsMoveText notation P m value)
    → MatchOption o (value ≡ [])
    (λ m. IsAt (replay_of start moves) n (λ Q. IsMoveText notation Q m value))
moved_there notation start moves n P value here None is = is
moved_there notation start moves n P value here (Some m) is = (P, here, is)

pub squares_there : (value : List ℕ) (o : Option Move)
    → MatchOption o (value ≡ []) (λ m. value ≡ uci_text m) → value ≡ uci_cell o
squares_there value None is = is
squares_there value (Some m) is = is

-- the text is that of all moves, once the texts of those that are left follow
abbrev pub Completes : Notation → State → List Move → State → List Move → List ℕ → Type 0
Completes notation start moves here left value =
    (tail : List ℕ) → AreMoveTexts notation here left tail
    → AreMoveTexts notation start moves (32 ∷ (value ++ tail))

pub completes_first : (notation : Notation) (start : State) (m : Move) (left all : List Move)
    (own : List ℕ) → all ≡ m ∷ left → IsMoveText notation start m own
    → Completes notation start all (after start m) left own
completes_first notation start m left all own is of tail are =
    subst (λ ms. AreMoveTexts notation start ms (32 ∷ (own ++ tail))) (sym is)
    (own, tail, refl, of, are)

pub completes_more : (notation : Notation) (start : State) (moves : List Move) (here : State)
    (m : Move) (left all : List Move) (value own : List ℕ) → all ≡ m ∷ left
    → Completes notation start moves here all value → IsMoveText notation here m own
    → Completes notation start moves (after here m) left (value ++ 32 ∷ own)
completes_more notation start moves here m left all value own is so_far of tail are =
    let more : AreMoveTexts notation here all (32 ∷ (own ++ tail)) =
    subst (λ ms. AreMoveTexts notation here ms (32 ∷ (own ++ tail))) (sym is)
    (own, tail, refl, of, are) in
    subst (λ t. AreMoveTexts notation start moves (32 ∷ t))
    (sym (append_assoc value (32 ∷ own) tail)) (so_far (32 ∷ (own ++ tail)) more)

pub completes_all : (notation : Notation) (start : State) (moves : List Move) (here : State)
    (left : List Move) (value : List ℕ) → left ≡ []
    → Completes notation start moves here left value
    → AreMovesCell notation (replay_of start moves) value
completes_all notation start moves here left value none so_far = (
  start,
  first_position start moves,
  (
    32 ∷ value,
    subst (λ t. AreMoveTexts notation start moves (32 ∷ t)) (append-nil value)
        (so_far [] (subst (λ ms. AreMoveTexts notation here ms []) (sym none) refl)),
    refl,
  ),
)

pub completes_none : (notation : Notation) (start : State) (moves : List Move)
    → length moves ≡ 0 → AreMovesCell notation (replay_of start moves) []
completes_none notation start [] none = (start, refl, ([], refl, refl))
completes_none notation start (m ∷ moves) none = absurd (omega (arith, none))

-- one more of the moves, and those after it
pub cut_at : (moves : List Move) (i next : ℕ) (m : Move) → next ≡ i + 1 → i < length moves
    → m ≡ get_or moves i m → drop i moves ≡ m ∷ drop next moves
cut_at moves i zero m step within is = absurd (omega (arith, step))
cut_at moves i (suc k) m step within is =
    let same : i ≡ k = omega (arith, step) in
    drop-cons moves i m within
    ∙ ap (λ n. n ∷ drop (suc i) moves) (sym is)
    ∙ ap (λ j. m ∷ drop (suc j) moves) same

-- the move at a place of the rest is legal there, and the others after it
pub cut_legal : (here : State) (moves left : List Move) (m : Move) → moves ≡ m ∷ left
    → AreLegalMoves here moves → IsLegal here m × AreLegalMoves (after here m) left
cut_legal here moves left m is legal = subst (AreLegalMoves here) is legal

-- A game that is played.

-- the replay of the game is that of its moves
pub replayed_moves : (game : GameText) (replay : Replay)
    → (is : IsReplay Main (tag_in fen_tag game.tags) game.elements replay)
    → replay ≡ replay_of is.start replay.played
replayed_moves game replay is =
    let positions : replay.positions ≡ positions_from is.start replay.played =
    line_positions is.start (main_words game.elements 0) replay.positions replay.played is.line in
    let turns : replay.turns ≡ [] = is.turns in
    λ i. record { positions = positions i; played = replay.played; turns = turns i }

in_front : {A : Type 0} (xs ys : List A) (n : ℕ) (x : A) → slice_get xs n ≡ Some x
    → slice_get (xs ++ ys) n ≡ Some x
in_front [] ys n x here = absurd (cc)
in_front (k ∷ xs) ys zero x here = here
in_front (k ∷ xs) ys (suc n) x here = in_front xs ys n x here

-- one of the elements, or the last
last_or : {A : Type 0} (xs : List A) (x : A) (n : ℕ) (y : A)
    → slice_get (xs ++ x ∷ []) n ≡ Some y
    → (slice_get xs n ≡ Some y) ⊎ ((n ≡ length xs) × (y ≡ x))
last_or [] x zero y is = inr (refl, sym (same_Some x y is))
last_or [] x (suc n) y is = absurd (cc)
last_or (k ∷ xs) x zero y is = inl is
last_or (k ∷ xs) x (suc n) y is = elim (last_or xs x n y is) [
  | inl old ↦ inl old
  | inr (at, same) ↦ inr (ap suc at, same)
]

-- one more of the first positions, or none
pub first_more : (first new before : List State) (ply : ℕ) (P : State) → length before ≡ ply
    → AreFirst first before
    → ((n : ℕ) (Q : State) → slice_get new n ≡ Some Q
    → (slice_get first n ≡ Some Q) ⊎ ((n ≡ ply) × (Q ≡ P)))
    → AreFirst new (before ++ P ∷ [])
first_more first new before ply P count are kept n Q here = elim (kept n Q here) [
  | inl old ↦ in_front before (P ∷ []) n Q (are n Q old)
  | inr (at, same) ↦
      subst (λ k. slice_get (before ++ P ∷ []) k ≡ Some Q) (count ∙ sym at)
      (at_seam before P [] ∙ ap Some (sym same))
]

-- this tells of so many positions of the game whether what is asked of it is so
abbrev pub TellsFirst : (Option (List Conditions) → GameText → Type 0) → GameText → List Bool
    → Type 0
TellsFirst Asks game met =
    (n : ℕ) (r : Bool) → slice_get met n ≡ Some r → (criteria : Option (List Conditions))
    → Asks criteria game → (replay : Replay) → IsOfGame game replay
    → IsTrue r ↔ IsMet criteria (heading_of game) replay n

pub tells_none : (Asks : Option (List Conditions) → GameText → Type 0) (game : GameText)
    (met : List Bool) → met ≡ [] → TellsFirst Asks game met
tells_none Asks game [] none n r here = absurd (cc)
tells_none Asks game (one ∷ met) none n r here = absurd (cc)

-- and of one more
pub tells_next : (Asks : Option (List Conditions) → GameText → Type 0) (game : GameText) (ply : ℕ)
    (P : State)
    → ((replay : Replay) → IsOfGame game replay → slice_get replay.positions ply ≡ Some P)
    → (met : List Bool) (r : Bool) → length met ≡ ply → TellsFirst Asks game met
    → ((criteria : Option (List Conditions)) → Asks criteria game → TellsAt r ply P criteria game)
    → TellsFirst Asks game (met ++ r ∷ [])
tells_next Asks game ply P there met r size told tells n s here criteria asks replay own =
    elim (last_or met r n s here) [
      | inl old ↦ told n s old criteria asks replay own
      | inr (at, same) ↦
          subst (λ (b : Bool). IsTrue b ↔ IsMet criteria (heading_of game) replay n) (sym same)
          (subst (λ k. IsTrue r ↔ IsMet criteria (heading_of game) replay k) (sym (at ∙ size))
          (tells criteria asks replay own (there replay own)))
    ]

pub tells_more : (Asks : Option (List Conditions) → GameText → Type 0) (game : GameText)
    (line : PlayedLine) (before : List State) (played : List Move)
    → IsPlayedTo (tag_in fen_tag game.tags) game.elements line before played
    → (met : List Bool) (r : Bool) → length met ≡ length before → TellsFirst Asks game met
    → ((criteria : Option (List Conditions)) (other : GameText) → Asks criteria other
    → TellsAt r line.plies line.position criteria other)
    → TellsFirst Asks game (met ++ r ∷ [])
tells_more Asks game line before played to met r size told tells =
    tells_next Asks game line.plies line.position
    (λ replay own.
    let (rest, parts) = stands_there game line before played to replay own in
    subst (λ k. slice_get replay.positions k ≡ Some line.position) to.count
    (ap (λ ps. slice_get ps (length before)) parts ∙ at_seam before line.position rest))
    met r (size ∙ to.count) told (λ criteria asks. tells criteria game asks)

-- the line at its end, from where it starts
module _ (game : GameText) (line : PlayedLine) (before : List State) (played : List Move)
    (to : IsPlayedTo (tag_in fen_tag game.tags) game.elements line before played)
    (ended : line.words ≡ []) where
  abbrev pub whole : Replay
  whole = record { positions = before ++ line.position ∷ []; played = played; turns = [] }

  pub is_whole : IsReplay Main (tag_in fen_tag game.tags) game.elements whole
  is_whole = played_all to ended

  -- it starts there
  whole_start : (start : State) → IsStart (tag_in fen_tag game.tags) start
      → start ≡ is_whole.start
  whole_start start is =
      one_start (tag_in fen_tag game.tags) start is_whole.start is is_whole.is_start

  pub whole_is : (start : State) → IsStart (tag_in fen_tag game.tags) start
      → whole ≡ replay_of start played
  whole_is start is =
      replayed_moves game whole is_whole
      ∙ ap (λ P. replay_of P played) (sym (whole_start start is))

  pub whole_legal : (start : State) → IsStart (tag_in fen_tag game.tags) start
      → AreLegalMoves start played
  whole_legal start is =
      subst (λ P. AreLegalMoves P played) (sym (whole_start start is))
      (line_legal is_whole.start (main_words game.elements 0) whole.positions played is_whole.line)

-- the line after one more move
pub gone_to : (game : GameText) (old new : PlayedLine) (before : List State)
    (played all : List Move) (m : Move)
    → IsPlayedTo (tag_in fen_tag game.tags) game.elements old before played
    → (word : PlaysWord old new) × (word.m ≡ m) → all ≡ played ++ m ∷ []
    → IsPlayedTo (tag_in fen_tag game.tags) game.elements new (before ++ old.position ∷ []) all
gone_to game old new before played all m to (word, same) is =
    subst (λ ms. IsPlayedTo (tag_in fen_tag game.tags) game.elements new
    (before ++ old.position ∷ []) ms)
    (ap (λ k. played ++ k ∷ []) same ∙ sym is) (played_on to word)
