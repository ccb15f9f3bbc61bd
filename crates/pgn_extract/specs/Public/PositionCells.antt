-- What columns show of a position: the men on the board, the sign of a check, the material.
use Rattle.std.specs.Prelude.{◌≡◌, ◌⊎◌, ◌==◌, ℕ, List, [], ◌∷◌, ◌++◌, codes, decimal, flat_map}
use Rattle.std.specs.Prelude.{if◌then◌else◌}
use Rattle.chess.specs.Public.Fen.{IsFen, parted_at}
use Rattle.chess.specs.Public.Letters.{kind_letter}
use Rattle.chess.specs.Public.Moves.{IsStalemate}
use Rattle.chess.specs.Public.Placements.{Placement}
use Rattle.chess.specs.Public.Positions.{State}
use Rattle.chess.specs.Public.San.{IsCheckSign}
use Rattle.chess.specs.declared.board.man.Kind.{Kind}
use Rattle.chess.specs.declared.board.man.Kind.TheVariants.{King, Queen, Rook, Bishop, Knight, Pawn}
use Rattle.chess.specs.declared.board.man.Side.{Side}
use Rattle.chess.specs.declared.board.man.Side.TheVariants.{White, Black}
use Rattle.pgn_criteria.specs.Public.Materials.{count_of}

-- the men on the board: what stands before the first blank of the position's text in FEN
abbrev pub IsMenText : State → List ℕ → Type 0
IsMenText P text =
    (fen : List ℕ) × (more : List (List ℕ)) × IsFen P fen × (parted_at 32 fen ≡ text ∷ more)

-- the mark that a move to the position has in SAN, as # for mate and + for check; and = for
-- stalemate, for which SAN has none
abbrev pub IsCheckText : State → List ℕ → Type 0
IsCheckText P text = (IsStalemate P × (text ≡ codes "="))
    ⊎ ((¬ IsStalemate P) × IsCheckSign P text)

-- the letter of so many men of a kind, with their number after it where there are two or more
abbrev pub counted_letter : ℕ → ℕ → List ℕ
counted_letter letter count = if count == 0 then []
    else letter ∷ (if count == 1 then [] else decimal count)

-- the men of a kind that a side has
abbrev pub kind_text : Placement → Side → Kind → List ℕ
kind_text men side kind =
    counted_letter (kind_letter kind) (count_of men (record { side = side; kind = kind }))

-- the men that a side has, from its king to its pawns
abbrev pub side_men_text : Placement → Side → List ℕ
side_men_text men side =
    flat_map (kind_text men side) (King ∷ Queen ∷ Rook ∷ Bishop ∷ Knight ∷ Pawn ∷ [])

-- White's men and Black's
abbrev pub material_text : Placement → List ℕ
material_text men = side_men_text men White ++ codes " v " ++ side_men_text men Black
