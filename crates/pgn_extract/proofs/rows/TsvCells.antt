-- A cell of which no byte is special is its own text.
use Rattle.std.proofs.Common.{◌≡◌, ℕ, false, List, [], ◌∷◌, refl}
use Rattle.std.specs.Prelude.{flat_map, ◌==◌, ◌||◌}
use Rattle.std.specs.List.{list_any}
use Rattle.std.proofs.lemmas.Bool.{or_parts}
use Rattle.pgn_extract.specs.Public.Tsv.{is_special, escaped}

-- bytes that stand for themselves are their own text
plain_byte : (b : ℕ) → is_special b ≡ false → escaped b ≡ b ∷ []
plain_byte b none =
    let third : ((b == 9 || b == 10 || b == 13) ≡ false)
    × ((b == 92) ≡ false) = or_parts _ _ none in
    let second : ((b == 9 || b == 10) ≡ false) × ((b == 13) ≡ false) = or_parts _ _ third.0 in
    let first : ((b == 9) ≡ false) × ((b == 10) ≡ false) = or_parts _ _ second.0 in
    rw (first.0, first.1, second.1, third.1) refl

pub plain : (cell : List ℕ) → list_any is_special cell ≡ false → flat_map escaped cell ≡ cell
plain [] none = refl
plain (b ∷ cell) none =
    let parts : (is_special b ≡ false) × (list_any is_special cell ≡ false) = or_parts _ _ none in
    let own : escaped b ≡ b ∷ [] = plain_byte b parts.0 in
    let more : flat_map escaped cell ≡ cell = plain cell parts.1 in cc
