-- Patterns of positions: eight ranks of items, from rank 8 down to rank 1, with / between. An item
-- is one byte, or a set of men between brackets. It takes some squares that stand side by side, and
-- a rank matches where its eight squares, from the a-file on, can be parted among its items in
-- their order. A text of FEN's first field is a pattern that one placement matches.
use Rattle.std.specs.Prelude.{◌≡◌, ◌≢◌, ◌≤◌, ◌-◌, ◌++◌, ◌==◌, if◌then◌else◌, ℕ, Bool, true, false}
use Rattle.std.specs.Prelude.{List, [], ◌∷◌, Option, Some, codes, IsTrue}
use Rattle.std.specs.List.{list_all}
use Rattle.chess.specs.Public.Placements.{Placement}
use Rattle.chess.specs.Public.Letters.{man_letter}
use Rattle.chess.specs.Public.Fen.{IsSquares, parted_at, before_first, has_byte, row}
use Rattle.chess.specs.declared.board.man.Man.{Man}
use Rattle.chess.specs.declared.board.man.Side.TheVariants.{White, Black}

-- the letters of one or more men, KQRBNP of White and kqrbnp of Black; one may stand twice
abbrev pub AreMen : List ℕ → Type 0
AreMen letters = (letters ≢ []) × IsTrue (list_all (λ b. has_byte b (codes "KQRBNPkqrbnp")) letters)

-- the text is an item that takes these squares, which stand side by side
pub data IsStretch : List ℕ → List (Option Man) → Type 0 where
  -- what it spells in FEN: a letter of KQRBNPkqrbnp that man, a digit from 1 to 8 that many empty
  -- squares
  spelled : (b : ℕ) (own : List (Option Man)) → IsSquares b own → IsStretch (b ∷ []) own
  -- ? one square, with a man or without
  any : (square : Option Man) → IsStretch (63 ∷ []) (square ∷ [])
  -- ! one square with a man, A one with a man of White, a one with a man of Black
  occupied : (man : Man) → IsStretch (33 ∷ []) (Some man ∷ [])
  white : (man : Man) → man.side ≡ White → IsStretch (65 ∷ []) (Some man ∷ [])
  black : (man : Man) → man.side ≡ Black → IsStretch (97 ∷ []) (Some man ∷ [])
  -- * any number of squares, also none
  many : (own : List (Option Man)) → IsStretch (42 ∷ []) own
  -- [KQp] one square with one of the men named; [^KQp] one square, with a man or without, that has
  -- none of them
  among : (letters : List ℕ) (man : Man) → AreMen letters
      → IsTrue (has_byte (man_letter man) letters)
      → IsStretch (91 ∷ (letters ++ 93 ∷ [])) (Some man ∷ [])
  other : (letters : List ℕ) (square : Option Man) → AreMen letters
      → ((man : Man) → square ≡ Some man → has_byte (man_letter man) letters ≡ false)
      → IsStretch (91 ∷ 94 ∷ (letters ++ 93 ∷ [])) (square ∷ [])

-- the items of a text, where it stands in a set or not: what stands from [ through the next ] is
-- one item, and so is each other byte
abbrev pub items_where : Bool → List ℕ → List (List ℕ)
items_where in_set [] = []
items_where true (b ∷ x) = if b == 93 then (b ∷ []) ∷ items_where false x
    else before_first b (items_where true x)
items_where false (b ∷ x) = if b == 91 then before_first b (items_where true x)
    else (b ∷ []) ∷ items_where false x

-- the squares can be split into stretches that the items take, one each and in their order
abbrev pub CanBeSplit : List (List ℕ) → List (Option Man) → Type 0
CanBeSplit [] squares = squares ≡ []
CanBeSplit (item ∷ items) squares = (own more : List (Option Man)) × (squares ≡ own ++ more)
    × IsStretch item own × CanBeSplit items more

-- each rank from rank n down to rank 1 matches its items
abbrev pub FitRanks : Placement → ℕ → List (List ℕ) → Type 0
FitRanks men n [] = n ≡ 0
FitRanks men n (rank ∷ more) = (1 ≤ n) × CanBeSplit (items_where false rank) (row men n)
    × FitRanks men (n - 1) more

-- the men stand as the pattern says
abbrev pub FitsPattern : Placement → List ℕ → Type 0
FitsPattern men pattern = FitRanks men 8 (parted_at 47 pattern)

-- that many ranks, each of one or more items that take some squares
abbrev pub AreRanks : ℕ → List (List ℕ) → Type 0
AreRanks n [] = n ≡ 0
AreRanks n (rank ∷ more) = (1 ≤ n)
    × ((rank ≢ []) × (squares : List (Option Man)) × CanBeSplit (items_where false rank) squares)
    × AreRanks (n - 1) more

-- a pattern: eight ranks with / between
abbrev pub IsPattern : List ℕ → Type 0
IsPattern text = AreRanks 8 (parted_at 47 text)
