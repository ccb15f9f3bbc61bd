-- A text of which no byte is special stands between its quotes as it is.
use Rattle.std.proofs.Common.{◌≡◌, ℕ, false, List, [], ◌∷◌, refl}
use Rattle.std.specs.Prelude.{flat_map, nat_lt, ◌==◌, ◌||◌}
use Rattle.std.specs.List.{list_any}
use Rattle.std.proofs.lemmas.Bool.{or_parts}
use Rattle.pgn_extract.specs.Public.Json.{is_special, escaped}

-- bytes that stand for themselves are their own text
plain_byte : (b : ℕ) → is_special b ≡ false → escaped b ≡ b ∷ []
plain_byte b none =
    let second : ((nat_lt b 32 || b == 34) ≡ false) × ((b == 92) ≡ false) = or_parts _ _ none in
    let first : (nat_lt b 32 ≡ false) × ((b == 34) ≡ false) = or_parts _ _ second.0 in
    rw (first.0, first.1, second.1) refl

pub plain : (text : List ℕ) → list_any is_special text ≡ false → flat_map escaped text ≡ text
plain [] none = refl
plain (b ∷ text) none =
    let parts : (is_special b ≡ false) × (list_any is_special text ≡ false) = or_parts _ _ none in
    let own : escaped b ≡ b ∷ [] = plain_byte b parts.0 in
    let more : flat_map escaped text ≡ text = plain text parts.1 in cc
