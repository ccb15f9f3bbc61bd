-- A cell without a quote stands between its quotes as it is.
use Rattle.std.proofs.Common.{◌≡◌, ℕ, false, List, [], ◌∷◌, refl, ap}
use Rattle.std.specs.Prelude.{flat_map, ◌==◌}
use Rattle.std.specs.List.{list_any}
use Rattle.std.proofs.lemmas.Bool.{or_parts}
use Rattle.pgn_extract.specs.Public.Csv.{doubled}

pub unquoted : (cell : List ℕ) → list_any (λ b. b == 34) cell ≡ false → flat_map doubled cell ≡ cell
unquoted [] none = refl
unquoted (b ∷ cell) none =
    let parts : ((b == 34) ≡ false) × (list_any (λ b. b == 34) cell ≡ false) = or_parts _ _ none in
    rw parts.0 (ap (λ (xs : List ℕ). b ∷ xs) (unquoted cell parts.1))
