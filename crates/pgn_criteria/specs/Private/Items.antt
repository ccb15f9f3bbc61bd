-- The items of a rank, as the matcher reads them.
use Rattle.std.specs.Prelude.{◌≡◌, ◌↔◌, ℕ, ◌+◌, ◌<◌, ◌≤◌, ◌++◌, Bool, List, ◌∷◌, drop, Some, None}
use Rattle.std.specs.Prelude.{◌==◌, if◌then◌else◌, false, codes, IsTrue, [], length, get_or, Option}
use Rattle.std.specs.Int.{bit_at}
use Rattle.chess.specs.Public.Fen.{has_byte}
use Rattle.pgn_criteria.specs.Public.Patterns.{IsStretch, CanBeSplit, items_where}
use Rattle.chess.specs.declared.board.man.Man.{Man}
use Rattle.chess.specs.declared.board.man.Kind.{Kind}
use Rattle.chess.specs.declared.board.man.Kind.TheVariants.{King, Queen, Rook, Bishop, Knight, Pawn}
use Rattle.chess.specs.declared.board.man.Side.TheVariants.{White, Black}
use Rattle.pgn_criteria.specs.declared.rank.SquareTest.{SquareTest}
use Rattle.pgn_criteria.specs.declared.rank.SquareTest.TheVariants.{Empty, This, Not, Any, Occupied}
use Rattle.pgn_criteria.specs.declared.rank.SquareTest.TheVariants.{Of, Among, Other}
use Rattle.pgn_criteria.specs.declared.rank.Item.{Item}
use Rattle.pgn_criteria.specs.declared.rank.Item.TheVariants.{Run, Many}
use Rattle.pgn_criteria.specs.declared.rank.Kinds.{Kinds}
use Rattle.pgn_criteria.specs.declared.rank.Men.{Men}

-- the letter of a man
abbrev pub is_letter : ℕ → Bool
is_letter b = has_byte b (codes "KQRBNPkqrbnp")

-- the items of a rank
abbrev pub items_of : List ℕ → List (List ℕ)
items_of = items_where false

-- an item takes some squares
abbrev pub IsItem : List ℕ → Type 0
IsItem item = (own : List (Option Man)) × IsStretch item own

-- each item does
abbrev pub AreItems : List (List ℕ) → Type 0
AreItems [] = Unit {0}
AreItems (item ∷ items) = IsItem item × AreItems items

-- the kind is among the kinds, and the man among the men
abbrev pub has_kind : Kinds → Kind → Bool
has_kind kinds King = kinds.king
has_kind kinds Queen = kinds.queen
has_kind kinds Rook = kinds.rook
has_kind kinds Bishop = kinds.bishop
has_kind kinds Knight = kinds.knight
has_kind kinds Pawn = kinds.pawn

abbrev pub has_man : Men → Man → Bool
has_man men man =
    elim man.side [ White ↦ has_kind men.white man.kind | Black ↦ has_kind men.black man.kind ]

-- the men whose letters stand in a text
abbrev pub men_in : List ℕ → Men
men_in x = record {
  white = record {
    king = has_byte 75 x;
    queen = has_byte 81 x;
    rook = has_byte 82 x;
    bishop =
        has_byte 66 x;
    knight = has_byte 78 x;
    pawn = has_byte 80 x;
  };
  black = record {
    king = has_byte 107 x;
    queen = has_byte 113 x;
    rook = has_byte 114 x;
    bishop =
        has_byte 98 x;
    knight = has_byte 110 x;
    pawn = has_byte 112 x;
  };
}

-- a square is of the class
abbrev pub IsOf : SquareTest → Option Man → Type 0
IsOf Empty square = square ≡ None
IsOf (This man) square = square ≡ Some man
IsOf (Not man) square = square ≡ Some man → ⊥
IsOf Any square = Unit {0}
IsOf Occupied square = (man : Man) × (square ≡ Some man)
IsOf (Of side) square = (man : Man) × (square ≡ Some man) × (man.side ≡ side)
IsOf (Among men) square = (man : Man) × (square ≡ Some man) × IsTrue (has_man men man)
IsOf (Other men) square = (man : Man) → IsTrue (has_man men man) → square ≡ Some man → ⊥

-- each square is
abbrev pub EachOf : SquareTest → List (Option Man) → Type 0
EachOf class [] = Unit {0}
EachOf class (square ∷ more) = IsOf class square × EachOf class more

-- the item takes the squares
abbrev pub Fits : Item → List (Option Man) → Type 0
Fits (Run class count) own = (length own ≡ count) × EachOf class own
Fits Many own = Unit {0}

-- the text is an item, which takes what the item that is read takes
abbrev pub Reads : List ℕ → Item → Type 0
Reads text item = IsItem text × ((own : List (Option Man)) → IsStretch text own ↔ Fits item own)

-- the first item of the items, as it is read, and those after it
pub record IsNextItem (items : List ℕ) (item : Item) (after : List ℕ) : Type 0 where
  pub text : List ℕ
  pub cut : items_of items ≡ text ∷ items_of after
  pub reads : Reads text item

-- what stands first is no item
abbrev pub HasNoItem : List ℕ → Type 0
HasNoItem items = (text : List ℕ) (more : List (List ℕ)) → items_of items ≡ text ∷ more
    → IsItem text → ⊥

-- a table's item for a byte
abbrev pub look_up : List (ℕ × Item) → ℕ → Option Item
look_up [] b = None
look_up (entry ∷ more) b = if b == entry.0 then Some entry.1 else look_up more b

-- the items
abbrev pub items : List (ℕ × Item)
items = (63, Run Any 1)
    ∷ (33, Run Occupied 1)
    ∷ (65, Run (Of White) 1)
    ∷ (97, Run (Of Black) 1)
    ∷ (42, Many)
    ∷ (75, Run (This (record { side = White; kind = King })) 1)
    ∷ (81, Run (This (record { side = White; kind = Queen })) 1)
    ∷ (82, Run (This (record { side = White; kind = Rook })) 1)
    ∷ (66, Run (This (record { side = White; kind = Bishop })) 1)
    ∷ (78, Run (This (record { side = White; kind = Knight })) 1)
    ∷ (80, Run (This (record { side = White; kind = Pawn })) 1)
    ∷ (107, Run (This (record { side = Black; kind = King })) 1)
    ∷ (113, Run (This (record { side = Black; kind = Queen })) 1)
    ∷ (114, Run (This (record { side = Black; kind = Rook })) 1)
    ∷ (98, Run (This (record { side = Black; kind = Bishop })) 1)
    ∷ (110, Run (This (record { side = Black; kind = Knight })) 1)
    ∷ (112, Run (This (record { side = Black; kind = Pawn })) 1)
    ∷ (49, Run Empty 1)
    ∷ (50, Run Empty 2)
    ∷ (51, Run Empty 3)
    ∷ (52, Run Empty 4)
    ∷ (53, Run Empty 5)
    ∷ (54, Run Empty 6)
    ∷ (55, Run Empty 7)
    ∷ (56, Run Empty 8) ∷ []

-- the item that a byte is
abbrev pub item_of : ℕ → Option Item
item_of b = look_up items b

-- a place before, between or after the squares is among those of a number's bits
abbrev pub Has : ℕ → ℕ → Type 0
Has reached place = bit_at reached place ≡ 1

-- a reached place below the end stands before a square of the class, and this one after it
abbrev pub IsAfter : SquareTest → List (Option Man) → ℕ → ℕ → ℕ → Type 0
IsAfter class squares reached end place =
    (before : ℕ) × (place ≡ before + 1) × (before < end) × Has reached before
    × IsOf class (get_or squares before None)

-- the items take the squares from some reached place on
abbrev pub Ends : List (Option Man) → ℕ → List (List ℕ) → Type 0
Ends squares reached items = (place : ℕ) × (place ≤ 8) × Has reached place
    × CanBeSplit items (drop place squares)

-- the item and those after it do
abbrev pub Goes : List (Option Man) → ℕ → Item → List (List ℕ) → Type 0
Goes squares reached item items =
    (place : ℕ) × (place ≤ 8) × Has reached place
    × ((own more : List (Option Man)) × (drop place squares ≡ own ++ more) × Fits item own
    × CanBeSplit items more)
