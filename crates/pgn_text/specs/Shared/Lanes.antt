-- Words of 64 bits that say which of 64 bytes pass a test.
use Rattle.std.specs.Prelude.{◌≡◌, ℕ, Bool, ◌==◌, ◌<◌, List, get_or}
use Rattle.std.specs.Int.{bit_at}

-- bit i of the word is set
unfoldable pub has_bit : ℕ → ℕ → Bool
has_bit word i = bit_at word i == 1

-- the bits of the word are set where the `count` bytes of the vector pass the test
abbrev pub AreLanes : ℕ → (ℕ → Bool) → List ℕ → ℕ → Type 0
AreLanes count test vector word = (i : ℕ) → i < count → has_bit word i ≡ test (get_or vector i 0)
