-- A line of which the first moves are replayed by their codes.
use Rattle.pgn_criteria.proofs.Common.{◌≡◌, ◌*◌, ◌<◌, ◌++◌, ℕ, zero, suc, List, [], ◌∷◌, take, refl}
use Rattle.pgn_criteria.proofs.Common.{sym, ap, ◌∙◌, arith, slice_get, flat_map, State, Replay}
use Rattle.pgn_criteria.proofs.Common.{PlyCode}
use Rattle.chess.specs.Public.Moves.{after}
use Rattle.chess.specs.declared.moves.Move.{Move}
use Rattle.pgn_game.specs.Public.CodeLines.{AreLegalMoves, IsCodedLine, IsCodedReplay}
use Rattle.pgn_game.specs.Public.CodeLines.{IsLegalLine, positions_from}
use Rattle.pgn_game.specs.Public.PlyCodes.{AreCodes, code_bytes}
use Rattle.pgn_criteria.specs.Private.Stages.{FitTheSame}
use Rattle.pgn_criteria.proofs.BeginningFacts.{agreed_fits}

-- ---- the first moves, codes and bytes

legal_front : (k : ℕ) (P : State) (moves : List Move) → AreLegalMoves P moves
    → AreLegalMoves P (take k moves)
legal_front zero P moves legal = tt
legal_front (suc k) P [] legal = tt
legal_front (suc k) P (m ∷ moves) legal = (legal.0, legal_front k (after P m) moves legal.1)

codes_front : (k : ℕ) (P : State) (moves : List Move) (codes : List PlyCode)
    → AreCodes P moves codes → AreCodes P (take k moves) (take k codes)
codes_front zero P moves codes are = refl
codes_front (suc k) P [] codes are = ap (take (suc k)) are
codes_front (suc k) P (m ∷ moves) codes (c, more, is, code, are) =
    (c, take k more, ap (take (suc k)) is, code, codes_front k (after P m) moves more are)

no_bytes : (n : ℕ) → ◌≡◌ {A = List ℕ} (take n []) []
no_bytes zero = refl
no_bytes (suc n) = refl

bytes_front : (k : ℕ) (codes : List PlyCode)
    → flat_map code_bytes (take k codes) ≡ take (3 * k) (flat_map code_bytes codes)
bytes_front zero codes = refl
bytes_front (suc k) [] = sym (no_bytes (3 * suc k))
bytes_front (suc k) (c ∷ codes) =
    let size : suc (suc (suc (3 * k))) ≡ 3 * suc k = omega arith in
    ap (λ bytes. code_bytes c ++ bytes) (bytes_front k codes)
    ∙ ap (λ n. take n (flat_map code_bytes (c ∷ codes))) size

coded_front : (k : ℕ) (P : State) (bytes : List ℕ) (moves : List Move)
    → IsCodedLine P bytes moves → IsCodedLine P (take (3 * k) bytes) (take k moves)
coded_front k P bytes moves line = record {
  legal = legal_front k P moves line.legal;
  codes = take k line.codes;
  are = codes_front k P moves line.codes line.are;
  spell = ap (take (3 * k)) line.spell ∙ sym (bytes_front k line.codes);
}

-- ---- they agree with the whole

moves_agree : (k i : ℕ) (moves : List Move) → i < k
    → slice_get (take k moves) i ≡ slice_get moves i
moves_agree zero i moves less = absurd (omega (arith, less))
moves_agree (suc k) i [] less = refl
moves_agree (suc k) zero (m ∷ moves) less = refl
moves_agree (suc k) (suc i) (m ∷ moves) less = moves_agree k i moves (omega (arith, less))

positions_agree : (k i : ℕ) (P : State) (moves : List Move) → i < k
    → slice_get (positions_from P (take k moves)) i ≡ slice_get (positions_from P moves) i
positions_agree zero i P moves less = absurd (omega (arith, less))
positions_agree (suc k) i P [] less = refl
positions_agree (suc k) zero P (m ∷ moves) less = refl
positions_agree (suc k) (suc i) P (m ∷ moves) less =
    positions_agree k i (after P m) moves (omega (arith, less))

-- what asks for no more first moves is so of the beginning where it is so of the line
pub begun_fits : (most : ℕ) (P : State) (bytes : List ℕ) (beginning replay : Replay)
    → IsCodedReplay P (take (3 * most) bytes) beginning → IsLegalLine P replay
    → IsCodedLine P bytes replay.played → FitTheSame most beginning replay
begun_fits most P bytes beginning replay begun whole line =
    let played : take most replay.played ≡ beginning.played =
    begun.only (take most replay.played) (coded_front most P bytes replay.played line) in
    agreed_fits most beginning replay (λ i less. (
      ap (λ ps. slice_get ps i) (begun.line.positions ∙ ap (positions_from P) (sym played))
          ∙ positions_agree most i P replay.played less
          ∙ ap (λ ps. slice_get ps i) (sym whole.positions),
      ap (λ ms. slice_get ms i) (sym played) ∙ moves_agree most i replay.played less,
    ))

-- where the first bytes spell no line, all of them do not
pub none_begun : (most : ℕ) (P : State) (bytes : List ℕ)
    → ((moves : List Move) → IsCodedLine P (take (3 * most) bytes) moves → ⊥)
    → (moves : List Move) → IsCodedLine P bytes moves → ⊥
none_begun most P bytes none moves line =
    none (take most moves) (coded_front most P bytes moves line)
