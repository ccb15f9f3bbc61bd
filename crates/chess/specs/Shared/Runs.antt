-- The bytes of a text up to a separator, and those from it on.
use Rattle.std.specs.Prelude.{ℕ, ◌==◌, if◌then◌else◌, List, [], ◌∷◌}

abbrev pub run_of : ℕ → List ℕ → List ℕ
run_of separator [] = []
run_of separator (b ∷ x) = if b == separator then [] else b ∷ run_of separator x

abbrev pub after_run : ℕ → List ℕ → List ℕ
after_run separator [] = []
after_run separator (b ∷ x) = if b == separator then b ∷ x else after_run separator x

-- the bytes after the separators that a text begins with
abbrev pub after_all : ℕ → List ℕ → List ℕ
after_all separator [] = []
after_all separator (b ∷ x) = if b == separator then after_all separator x else b ∷ x
