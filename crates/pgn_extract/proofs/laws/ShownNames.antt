-- A name as lines show it has no control character, byte by byte.
use Rattle.std.proofs.Common.{◌≡◌, ◌⊎◌, ℕ, ◌+◌, ◌/◌, ◌%◌, ◌<◌, ◌≤◌, ◌∙◌, Bool, true, false, cond}
use Rattle.std.proofs.Common.{ltb, List, [], ◌∷◌, ◌++◌, map, refl, arith, inl, inr}
use Rattle.std.specs.Prelude.{◌||◌, ◌&&◌, ◌==◌, nat_lt, IsTrue, chars}
use Rattle.std.specs.Str.{encode_utf8_all}
use Rattle.std.specs.Char.{encode_utf8}
use Rattle.pgn_extract.proofs.Common.{nat_le, if◌then◌else◌, cases_lt, nat_tests, shown_char}
use Rattle.pgn_game.specs.Public.PackedGames.{is_shown}
use Rattle.pgn_extract.specs.Public.Laws.{NamesAreShown}

-- no control character
abbrev IsGraphic : ℕ → Type 0
IsGraphic c = (32 ≤ c) × ((c < 127) ⊎ (160 ≤ c))

graphic : (c : ℕ) → IsGraphic (shown_char c)
graphic c = by (nat_lt c 32) (nat_lt 126 c) (nat_lt c 160) refl refl refl
  where
    by : (low above below : Bool) → nat_lt c 32 ≡ low → nat_lt 126 c ≡ above → nat_lt c 160 ≡ below
        → IsGraphic (if low || (above && below) then 63 else c)
    by true above below a b d = (omega arith, inl (omega arith))
    by false true true a b d = (omega arith, inl (omega arith))
    by false true false a b d = (grind (arith, nat_tests), inr (grind (arith, nat_tests)))
    by false false below a b d = (grind (arith, nat_tests), inl (grind (arith, nat_tests)))

-- a byte that begins no control character, whatever follows
one_byte : (b : ℕ) (rest : List ℕ) → 32 ≤ b → (b < 127) ⊎ ((128 ≤ b) × ((b < 194) ⊎ (194 < b)))
    → is_shown (b ∷ rest) ≡ is_shown rest
one_byte b rest low (inl ascii) =
    let first : nat_le b 31 ≡ false = grind (arith, nat_tests) in
    let delete : (b == 127) ≡ false = grind (arith, nat_tests) in
    let lead : (b == 194) ≡ false = grind (arith, nat_tests) in
    rw (first, delete, lead) refl
one_byte b rest low (inr (high, other)) =
    let first : nat_le b 31 ≡ false = grind (arith, nat_tests) in
    let delete : (b == 127) ≡ false = grind (arith, nat_tests) in
    let lead : (b == 194) ≡ false = elim other [
      | inl less ↦ grind (arith, nat_tests)
      | inr more ↦ grind (arith, nat_tests)
    ] in
    rw (first, delete, lead) refl

after_lead : (next : ℕ) (rest : List ℕ) → 160 ≤ next
    → is_shown (194 ∷ next ∷ rest) ≡ is_shown (next ∷ rest)
after_lead next rest high = let none : nat_le next 159 ≡ false = grind (arith, nat_tests) in
    rw none refl

two_bytes : (c : ℕ) (rest : List ℕ) → 160 ≤ c → c < 2048
    → is_shown ((192 + c / 64) ∷ (128 + c % 64) ∷ rest) ≡ is_shown rest
two_bytes c rest high low =
    let second : is_shown ((128 + c % 64) ∷ rest) ≡ is_shown rest =
    one_byte (128 + c % 64) rest (omega arith) (inr (omega arith, inl (omega arith))) in
    elim (cases_lt c 192) [
      | inl less ↦ (let two : 192 + c / 64 ≡ 194 = omega arith in
          rw two (after_lead (128 + c % 64) rest (omega arith)) ∙ second)
      | inr more ↦ one_byte (192 + c / 64) ((128 + c % 64)
          ∷ rest) (omega arith) (inr (omega arith, inr (omega arith))) ∙ second
    ]

later : (bits : ℕ) (rest : List ℕ) → is_shown ((128 + bits % 64) ∷ rest) ≡ is_shown rest
later bits rest =
    one_byte (128 + bits % 64) rest (omega arith) (inr (omega arith, inl (omega arith)))

three_bytes : (c : ℕ) (rest : List ℕ)
    → is_shown ((224 + c / 4096) ∷ (128 + c / 64 % 64) ∷ (128 + c % 64) ∷ rest) ≡ is_shown rest
three_bytes c rest =
    one_byte (224 + c / 4096) ((128 + c / 64 % 64) ∷ (128 + c % 64) ∷ rest) (omega arith)
    (inr (omega arith, inr (omega arith))) ∙ later (c / 64) ((128 + c % 64) ∷ rest) ∙ later c rest

four_bytes : (c : ℕ) (rest : List ℕ)
    → is_shown ((240 + c / 262144) ∷ (128 + c / 4096 % 64) ∷ (128 + c / 64 % 64) ∷ (128 + c % 64)
    ∷ rest) ≡ is_shown rest
four_bytes c rest =
    one_byte (240 + c / 262144) ((128 + c / 4096 % 64) ∷ (128 + c / 64 % 64) ∷ (128 + c % 64)
    ∷ rest)
    (omega arith) (inr (omega arith, inr (omega arith)))
    ∙ later (c / 4096) ((128 + c / 64 % 64) ∷ (128 + c % 64) ∷ rest)
    ∙ later (c / 64) ((128 + c % 64) ∷ rest) ∙ later c rest

encoded : (c : ℕ) (rest : List ℕ) → IsGraphic c → is_shown (encode_utf8 c ++ rest) ≡ is_shown rest
unfolding encode_utf8
encoded c rest (low, apart) = by (ltb c 128) (ltb c 2048) (ltb c 65536) refl refl
  where
    by : (one two three : Bool) → ltb c 128 ≡ one → ltb c 2048 ≡ two
        → is_shown (cond one (c ∷ []) (cond two ((192 + c / 64) ∷ (128 + c % 64) ∷ [])
        (cond three ((224 + c / 4096) ∷ (128 + c / 64 % 64) ∷ (128 + c % 64) ∷ [])
        ((240 + c / 262144) ∷ (128 + c / 4096 % 64) ∷ (128 + c / 64 % 64) ∷ (128 + c % 64) ∷ [])))
        ++ rest) ≡ is_shown rest
    by true two three a b = one_byte c rest low (inl (grind (arith, nat_tests)))
    by false true three a b = two_bytes c rest (grind (arith, nat_tests)) (grind (arith, nat_tests))
    by false false true a b = three_bytes c rest
    by false false false a b = four_bytes c rest

all_shown : (cs : List ℕ) → IsTrue (is_shown (encode_utf8_all (map shown_char cs)))
all_shown [] = refl
all_shown (c ∷ cs) = encoded (shown_char c) (encode_utf8_all (map shown_char cs)) (graphic c)
    ∙ all_shown cs

pub names_are_shown : NamesAreShown
names_are_shown path = all_shown (chars path)
