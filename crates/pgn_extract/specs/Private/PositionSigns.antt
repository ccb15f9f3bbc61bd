-- The sign of a position by whether its side is in check, and has a move.
use Rattle.std.specs.Prelude.{ℕ, Bool, List, [], ◌∷◌, if◌then◌else◌}

abbrev pub sign_text : Bool → Bool → List ℕ
sign_text is_check has_move =
    if has_move then (if is_check then 43 ∷ [] else []) else (if is_check then 35 ∷ [] else 61 ∷ [])
