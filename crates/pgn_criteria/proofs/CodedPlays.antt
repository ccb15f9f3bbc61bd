-- A line is played by the codes of its plies.
use Rattle.pgn_criteria.proofs.Common.{◌≡◌, ◌+◌, ◌*◌, ◌/◌, ℕ, List, [], ◌∷◌, ◌++◌, length}
use Rattle.pgn_criteria.proofs.Common.{Some, None, refl}
use Rattle.pgn_criteria.proofs.Common.{sym, ap, ◌∙◌, subst, append_assoc, append-nil}
use Rattle.pgn_criteria.proofs.Common.{length-append, drop, State, Replay, PlyCode, flat_map, arith}
use Rattle.chess.specs.Public.Moves.{after}
use Rattle.chess.specs.declared.moves.Move.{Move}
use Rattle.pgn_game.specs.Public.CodeLines.{AreLegalMoves, IsCodedLine, IsCodedReplay}
use Rattle.pgn_game.specs.Public.CodeLines.{IsLegalLine, IsNextCoded, positions_from}
use Rattle.pgn_game.specs.Public.PlyCodes.{code_bytes}
use Rattle.pgn_game.proofs.RecordWriting.{codes_count}
use Rattle.pgn_criteria.proofs.SeenPlyFacts.{line_size}

-- so far the line from the position by these bytes is played: the positions that are passed, the
-- moves, the position that is reached, and the bytes that are left
pub record IsCodedTo (start : State) (bytes : List ℕ) (passed : List State) (played : List Move)
    (here : State) (left : List ℕ) : Type 0 where
  pub even : length passed ≡ length played
  pub legal : (more : List Move) → AreLegalMoves here more
      → AreLegalMoves start (played ++ more)
  pub positions : (more : List Move)
      → positions_from start (played ++ more) ≡ passed ++ positions_from here more
  pub coded : (moves : List Move) → IsCodedLine start bytes moves
      → (more : List Move) × (moves ≡ played ++ more) × IsCodedLine here left more

pub coded_none : (start : State) (bytes : List ℕ) → IsCodedTo start bytes [] [] start bytes
coded_none start bytes = record {
  even = refl;
  legal = λ more legal. legal;
  positions = λ more. refl;
  coded = λ moves is. (moves, refl, is);
}

module _ {start : State} {bytes : List ℕ} {passed : List State} {played : List Move} {here : State}
    {left : List ℕ} (to : IsCodedTo start bytes passed played here left) where
  gone_on : (m : Move) → IsNextCoded here left (Some m)
      → IsCodedTo start bytes (passed ++ here ∷ []) (played ++ m ∷ []) (after here m) (drop 3 left)
  gone_on m goes = record {
    even = length-append passed (here ∷ []) ∙ ap (λ n. n + 1) to.even
        ∙ sym (length-append played (m ∷ []));
    legal = λ more legal.
        subst (AreLegalMoves start) (sym (append_assoc played (m ∷ []) more))
        (to.legal (m ∷ more) (goes.0, legal));
    positions = λ more.
        ap (positions_from start) (append_assoc played (m ∷ []) more) ∙ to.positions (m ∷ more)
        ∙ sym (append_assoc passed (here ∷ []) (positions_from (after here m) more));
    coded = λ moves is.
        let (own, parts, coded) = to.coded moves is in
        let (more, begins, next) = goes.2 own coded in (
          more,
          parts ∙ ap (λ ms. played ++ ms) begins ∙ sym (append_assoc played (m ∷ []) more),
          next,
        );
  }

  pub coded_on : (m : Move) → IsNextCoded here left (Some m) → (all : List Move) (next : State)
      (rest : List ℕ) → all ≡ played ++ m ∷ [] → next ≡ after here m → rest ≡ drop 3 left
      → IsCodedTo start bytes (passed ++ here ∷ []) all next rest
  coded_on m goes all next rest moves is cut =
      subst (λ ms. IsCodedTo start bytes (passed ++ here ∷ []) ms next rest) (sym moves)
      (subst (λ P. IsCodedTo start bytes (passed ++ here ∷ []) (played ++ m ∷ []) P rest) (sym is)
      (subst (IsCodedTo start bytes (passed ++ here ∷ []) (played ++ m ∷ []) (after here m))
      (sym cut) (gone_on m goes)))

  -- the positions so far
  pub coded_positions : positions_from start played ≡ passed ++ here ∷ []
  coded_positions = ap (positions_from start) (sym (append-nil played)) ∙ to.positions []

  pub coded_legal : AreLegalMoves start played
  coded_legal = subst (AreLegalMoves start) (append-nil played) (to.legal [] tt)

  -- where the codes tell no more, it is whole
  pub coded_all : IsNextCoded here left None → IsCodedReplay start bytes (record {
    positions = positions_from start played;
    played = played;
    turns = [];
  })
  coded_all ends = record {
    line = record { legal = coded_legal; positions = refl };
    turns = refl;
    only = λ moves is.
        let (more, parts, coded) = to.coded moves is in
        parts ∙ ap (λ ms. played ++ ms) (ends more coded) ∙ append-nil played;
  }

  -- where they tell no line, there is none
  pub coded_stuck : ((moves : List Move) → IsCodedLine here left moves → ⊥)
      → (moves : List Move) → IsCodedLine start bytes moves → ⊥
  coded_stuck none moves is = let (more, parts, coded) = to.coded moves is in none more coded

  -- where the codes tell no more, it is the whole of each line that they spell
  pub coded_line : IsNextCoded here left None → (line : Replay) → IsLegalLine start line
      → IsCodedLine start bytes line.played
      → (line.positions ≡ passed ++ here ∷ []) × (line.played ≡ played)
  coded_line ends line is spelled =
      let (more, parts, coded) = to.coded line.played spelled in
      let moves : line.played ≡ played =
      parts ∙ ap (λ ms. played ++ ms) (ends more coded) ∙ append-nil played in
      (is.positions ∙ ap (positions_from start) moves ∙ coded_positions, moves)

-- the codes of a line tell how long it is
bytes_size : (codes : List PlyCode) → length (flat_map code_bytes codes) ≡ 3 * length codes
bytes_size [] = refl
bytes_size (c ∷ codes) = let more = bytes_size codes in omega (arith, more)

pub coded_count : (start : State) (bytes : List ℕ) (line : Replay)
    → IsCodedLine start bytes line.played → length line.played ≡ length bytes / 3
coded_count start bytes line coded =
    let moves = codes_count start line.played coded.codes coded.are in
    let size = ap length coded.spell ∙ bytes_size coded.codes in
    omega (arith, moves, size)

pub coded_size : (start : State) (bytes : List ℕ) (line : Replay) → IsLegalLine start line
    → IsCodedLine start bytes line.played → length line.positions ≡ length bytes / 3 + 1
coded_size start bytes line legal coded =
    ap length legal.positions ∙ line_size start line.played
    ∙ ap (λ n. n + 1) (coded_count start bytes line coded)
