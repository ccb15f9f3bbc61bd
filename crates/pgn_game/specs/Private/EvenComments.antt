-- Comments that are written as they are, but for where lines end, told byte by byte. Past its end a
-- text reads as percent signs here. Nothing but the proof of their writer cites these.
use Rattle.std.specs.Prelude.{◌≡◌, ℕ, ◌+◌, ◌<◌, ◌≤◌, Bool, true, false, not, ◌&&◌, ◌||◌, ◌==◌}
use Rattle.std.specs.Prelude.{List, [], ◌∷◌, get_or, Option, Some, None}
use Rattle.pgn_text.specs.Public.Bytes.{is_white}
use Rattle.pgn_text.specs.Shared.Lanes.{has_bit}

-- a closing brace, or white space other than a blank
abbrev pub is_odd : ℕ → Bool
is_odd b = b == 125 || (is_white b && not (b == 32))

-- a byte after the byte `p`: a word begins with no percent sign, one blank alone parts two words,
-- and no `E` stands after an opening bracket
abbrev pub follows : ℕ → ℕ → Bool
follows p b = not (is_odd b) && (not (p == 32 && (b == 32 || b == 37)) && not (p == 91 && b == 69))

-- each byte of the text may stand after the one before it, the first after `p`; the last is no
-- blank
abbrev pub reads_on : ℕ → List ℕ → Bool
reads_on p [] = not (p == 32)
reads_on p (b ∷ text) = follows p b && reads_on b text

-- words that are written as they are, with one blank between each two
abbrev pub is_even : List ℕ → Bool
is_even text = reads_on 32 text

-- the bits of the word are set where blanks stand in the text
abbrev pub AreBlanks : List ℕ → ℕ → Type 0
AreBlanks text word = (i : ℕ) → i < 64 → has_bit word i ≡ (get_or text i 37 == 32)

-- no blank stands in the text from the one place up to the other
abbrev pub HasNoBlank : List ℕ → ℕ → ℕ → Type 0
HasNoBlank text from end = (i : ℕ) → from ≤ i → i < end → (get_or text i 37 == 32) ≡ false

-- the last blank of the text before the place, if there is one
abbrev pub IsLastBlank : List ℕ → ℕ → Option ℕ → Type 0
IsLastBlank text end None = HasNoBlank text 0 end
IsLastBlank text end (Some place) = (place < end) × ((get_or text place 37 == 32) ≡ true)
    × HasNoBlank text (place + 1) end

-- the last bit of the word that is set before the place, if there is one
abbrev pub IsLastBit : ℕ → ℕ → Option ℕ → Type 0
IsLastBit word end None = (i : ℕ) → i < end → i < 64 → has_bit word i ≡ false
IsLastBit word end (Some place) = (place < 64) × (place < end) × (has_bit word place ≡ true)
    × ((i : ℕ) → place < i → i < end → i < 64 → has_bit word i ≡ false)
