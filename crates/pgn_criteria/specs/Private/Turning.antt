-- How patterns are tried with the files turned, and the text of a mirrored pattern.
use Rattle.std.specs.Prelude.{ℕ, ◌+◌, ◌-◌, ◌&&◌, nat_le, if◌then◌else◌, List, [], ◌∷◌, ◌++◌, map}
use Rattle.chess.specs.Public.Placements.{Placement}
use Rattle.pgn_criteria.specs.Public.Mirrors.{flipped_men}
use Rattle.pgn_criteria.specs.declared.pattern.Files.{Files}
use Rattle.pgn_criteria.specs.declared.pattern.Files.TheVariants.{FromA, FromH}

-- the men whose ranks are taken so
abbrev pub men_from : Files → Placement → Placement
men_from FromA men = men
men_from FromH men = flipped_men men

-- a letter in the other case; any other byte is itself
abbrev pub other_letter : ℕ → ℕ
other_letter b = if (nat_le 65 b && nat_le b 90) then b + 32 else if (nat_le 97 b && nat_le b 122)
    then b - 32 else b

-- texts of ranks in the other order, each with the letters of the other side
abbrev pub turned_ranks : List (List ℕ) → List (List ℕ)
turned_ranks [] = []
turned_ranks (rank ∷ more) = turned_ranks more ++ (map other_letter rank ∷ [])

-- and with / between
abbrev pub turned : List (List ℕ) → List ℕ
turned [] = []
turned (rank ∷ []) = map other_letter rank
turned (rank ∷ next ∷ more) = turned (next ∷ more) ++ (47 ∷ map other_letter rank)
