-- A line that is played by moves of which the codes are told.
use Rattle.pgn_criteria.proofs.Common.{◌≡◌, ◌/◌, ℕ, zero, suc, List, [], ◌∷◌, length, Some}
use Rattle.pgn_criteria.proofs.Common.{IsTrue, refl, sym, ap, ◌∙◌, subst, arith, same_Some}
use Rattle.pgn_criteria.proofs.Common.{slice_get, AllByRecursion, Placement, opposite, State, Side}
use Rattle.pgn_criteria.proofs.Common.{IsLegal}
use Rattle.pgn_criteria.proofs.Common.{PlyCode, moved, Replay, codes_in, NowhereSeen, IsSeenOf}
use Rattle.pgn_criteria.proofs.Common.{FitsSeen, PositionsHold, PositionCondition}
use Rattle.chess.specs.Public.Moves.{after}
use Rattle.chess.specs.declared.moves.Move.{Move}
use Rattle.pgn_game.specs.Public.CodeLines.{AreLegalMoves, positions_from}
use Rattle.pgn_game.specs.Public.PlyCodes.{AreCodes, IsCode}
use Rattle.pgn_game.proofs.PlyCodeFacts.{moved_after}
use Rattle.pgn_game.proofs.RecordWriting as writing
use Rattle.pgn_criteria.specs.Public.Prefilters.{IsPlayedBy}

-- how many codes bytes spell
pub codes_count : (bytes : List ℕ) → length (codes_in bytes) ≡ length bytes / 3
codes_count [] = refl
codes_count (a ∷ []) = refl
codes_count (a ∷ b ∷ []) = refl
codes_count (a ∷ b ∷ d ∷ rest) = let more = codes_count rest in omega (arith, more)

-- so many plies are played
pub played_count : (P : State) (bytes : List ℕ) (replay : Replay)
    → IsPlayedBy P (codes_in bytes) replay → length replay.played ≡ length bytes / 3
played_count P bytes replay by =
    sym (writing.codes_count P replay.played (codes_in bytes) by.told) ∙ codes_count bytes

-- the code of each move is among those that are told
code_there : (fact : PlyCode → Type 0) (P : State) (moves : List Move) (codes : List PlyCode)
    (ply : ℕ) (Q : State) (m : Move) → AreLegalMoves P moves → AreCodes P moves codes
    → slice_get (positions_from P moves) ply ≡ Some Q → slice_get moves ply ≡ Some m
    → AllByRecursion fact codes → (code : PlyCode) × fact code × IsCode Q m code × IsLegal Q m
code_there fact P [] codes zero Q m legal are here played all = absurd (cc (played))
code_there fact P [] codes (suc ply) Q m legal are here played all = absurd (cc (played))
code_there fact P (n ∷ moves) codes zero Q m legal (c, more, is, code, are) here played all =
    let same : P ≡ Q = same_Some P Q here in
    let move : n ≡ m = same_Some n m played in
    let both : IsCode Q m c × IsLegal Q m =
    subst (λ R. IsCode R m c × IsLegal R m) same
    (subst (λ k. IsCode P k c × IsLegal P k) move (code, legal.0)) in
    (c, (subst (AllByRecursion fact) is all).0, both.0, both.1)
code_there fact P (n ∷ moves) codes (suc ply) Q m legal (c, more, is, code, are) here played all =
    code_there fact (after P n) moves more ply Q m legal.1 are here played
    (subst (AllByRecursion fact) is all).1

pub code_of_move : (fact : PlyCode → Type 0) (P : State) (codes : List PlyCode) (replay : Replay)
    (ply : ℕ) (Q : State) (m : Move) → IsPlayedBy P codes replay
    → slice_get replay.positions ply ≡ Some Q → slice_get replay.played ply ≡ Some m
    → AllByRecursion fact codes → (code : PlyCode) × fact code × IsCode Q m code × IsLegal Q m
code_of_move fact P codes replay ply Q m by here played all =
    code_there fact P replay.played codes ply Q m by.line.legal by.told
    (ap (λ ps. slice_get ps ply) (sym by.line.positions) ∙ here) played all

-- where conditions hold nowhere along the codes, they hold at no position of the line
module _ (conditions : List (PositionCondition (List ℕ))) where
  none_there : (P : State) (moves : List Move) (codes : List PlyCode) (men : Placement)
      (turn : Side) (Checked Stuck : Type 0) → IsSeenOf P men turn Checked Stuck
      → AreLegalMoves P moves → AreCodes P moves codes
      → NowhereSeen (FitsSeen conditions) men turn Checked Stuck codes
      → (ply : ℕ) (Q : State) → slice_get (positions_from P moves) ply ≡ Some Q
      → PositionsHold Q conditions → ⊥
  none_there P [] codes men turn Checked Stuck seen legal are none zero Q here hold =
      let same : P ≡ Q = same_Some P Q here in
      (subst (NowhereSeen (FitsSeen conditions) men turn Checked Stuck) are none)
      (P, seen, subst (λ R. PositionsHold R conditions) (sym same) hold)
  none_there P [] codes men turn Checked Stuck seen legal are none (suc ply) Q here hold =
      absurd (cc (here))
  none_there P (m ∷ moves) codes men turn Checked Stuck seen legal (c, more, is, code, are) none
      zero Q here hold =
      let same : P ≡ Q = same_Some P Q here in
      (subst (NowhereSeen (FitsSeen conditions) men turn Checked Stuck) is none).0
      (P, seen, subst (λ R. PositionsHold R conditions) (sym same) hold)
  none_there P (m ∷ moves) codes men turn Checked Stuck seen legal (c, more, is, code, are) none
      (suc ply) Q here hold =
      none_there (after P m) moves more (moved men c) (opposite turn) (IsTrue c.check)
      (IsTrue c.stuck)
      (record {
        men = ap (λ placed. moved placed c) seen.men ∙ moved_after P m c legal.0.pseudo_legal code;
        turn = ap opposite seen.turn;
        check = code.marks.check;
        stuck = code.marks.stuck;
      })
      legal.1 are (subst (NowhereSeen (FitsSeen conditions) men turn Checked Stuck) is none).1 ply Q
      here hold

  pub none_in_line : (P : State) (codes : List PlyCode) (replay : Replay) (men : Placement)
      (turn : Side) (Checked Stuck : Type 0) → IsSeenOf P men turn Checked Stuck
      → IsPlayedBy P codes replay → NowhereSeen (FitsSeen conditions) men turn Checked Stuck codes
      → (ply : ℕ) (Q : State) → slice_get replay.positions ply ≡ Some Q
      → PositionsHold Q conditions → ⊥
  none_in_line P codes replay men turn Checked Stuck seen by none ply Q here =
      none_there P replay.played codes men turn Checked Stuck seen by.line.legal by.told none ply Q
      (ap (λ ps. slice_get ps ply) (sym by.line.positions) ∙ here)
