-- The first and the last byte of a text: what the text of a move may begin and end with is known
-- before it is written.
use Rattle.std.specs.Prelude.{◌≡◌, ◌++◌, ℕ, Bool, false, List, [], ◌∷◌, Option, None, Some, IsTrue}
use Rattle.std.specs.Prelude.{◌==◌}
use Rattle.std.specs.List.{list_any}
use Rattle.chess.specs.Public.Positions.{State}
use Rattle.chess.specs.Public.San.{IsSan}
use Rattle.chess.specs.declared.moves.Move.{Move}
use Rattle.pgn_criteria.specs.Public.MoveTexts.{IsLike, without_check_signs}

-- the byte is the first of the text
abbrev pub BeginsWith : ℕ → List ℕ → Type 0
BeginsWith b text = (rest : List ℕ) × (text ≡ b ∷ rest)

-- the byte is the last of the text
abbrev pub EndsWith : ℕ → List ℕ → Type 0
EndsWith b text = (front : List ℕ) × (text ≡ front ++ b ∷ [])

-- the byte stands in the text
abbrev pub HasByte : ℕ → List ℕ → Type 0
HasByte b text = IsTrue (list_any (λ y. y == b) text)

-- the standard text of the move without its check sign is like the word
abbrev pub IsMoveLike : State → Move → List ℕ → Type 0
IsMoveLike P m word = (text : List ℕ) × IsSan P m text × IsLike word (without_check_signs text)

-- there is a move, and it is such a one
abbrev pub IsSomeLike : State → Option Move → List ℕ → Type 0
IsSomeLike P None word = ⊥
IsSomeLike P (Some m) word = IsMoveLike P m word

-- an answer no: the standard text of the move without its check sign does not have the fact
abbrev pub RulesOut : Bool → State → Move → (List ℕ → Type 0) → Type 0
RulesOut answer P m Fact = answer ≡ false → (text : List ℕ) → IsSan P m text
    → Fact (without_check_signs text) → ⊥
