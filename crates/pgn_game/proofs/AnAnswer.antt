-- A game has a replay or a fault, where its FEN tag has the contents of a string.
use Rattle.std.proofs.Common.{IfSome, flat_map}
use Rattle.pgn_game.proofs.Common.{◌≡◌, ◌⊎◌, ℕ, ◌+◌, ◌-◌, Bool, true, false, ◌&&◌, List, [], ◌∷◌}
use Rattle.pgn_game.proofs.Common.{◌++◌, Option, Some, None, refl, sym, ap, ◌∙◌, subst, inl, inr}
use Rattle.pgn_game.proofs.Common.{AreOnBoard, State, initial, after, Move, initial_kept}
use Rattle.pgn_game.proofs.Common.{settled_check, IsPaired, Item, IsContents, value_of_sign}
use Rattle.pgn_game.proofs.Common.{main_words, IsMainLine, IsValueOf, IsStart, IsBadStart, Line}
use Rattle.pgn_game.proofs.Common.{LineEnd, ThenMove, ThenGlyph, ThenComment, ThenVariation}
use Rattle.pgn_game.proofs.Common.{is_pass, SaysTurn, after_turn, IsPlayed, ArePlayed, own_words}
use Rattle.pgn_game.proofs.Common.{Fault, BadStart, IllegalMove, AmbiguousMove, IsMoveFault}
use Rattle.pgn_game.proofs.Common.{RefusesTurn, IsLineFault, HasLineFault, AreTurns, IsSoundGame}
use Rattle.pgn_game.proofs.Common.{Lines, Main, All, LineMove, Played, Passed}
use Rattle.chess.proofs.FenSettled.{fen_answer}
use Rattle.chess.proofs.NamedSettled.{each_text_names}
use Rattle.chess.proofs.OnBoard.{spelled_men_on_board, men_stay_on_board}
use Rattle.pgn_game.specs.Public.Laws.{GameHasAnAnswer}
use Rattle.pgn_game.proofs.OneLine.{main_of_all, main_words_of}
use Rattle.pgn_game.proofs.Spelling.{one_spelt}

-- the words are played, or one of them is the first that can't be
abbrev HasLine : State → List (List ℕ) → Type 0
HasLine now words = (positions : List State) × (played : List Move)
    × IsMainLine now words positions played

line_answer : (now : State) (plies : ℕ) (words : List (List ℕ)) → AreOnBoard now.men
    → HasLine now words ⊎ ((fault : Fault) × IsMoveFault now plies words fault)
line_answer now plies [] on_board = inl (now ∷ [], [], (refl, refl))
line_answer now plies (word ∷ words) on_board = elim (each_text_names now word on_board) [
  | inl one ↦
      let next = men_stay_on_board now one.0 on_board one.1.named.legal in
      elim (line_answer (after now one.0) (plies + 1) words next) [
        | inl line ↦ inl (
          now ∷ line.0,
          one.0 ∷ line.1,
          (one.0, line.0, line.1, refl, refl, one.1, line.2),
        )
        | inr met ↦ inr (met.0, inr (one.0, one.1, met.1))
      ]
  | inr other ↦ elim other [
    | inl none ↦ inr (IllegalMove word (plies + 1), inl (refl, refl, none))
    | inr several ↦ inr (AmbiguousMove word (plies + 1), inl (refl, refl, several))
  ]
]

-- what a word says, or how it is refused, where it is a pass and where it is none
turn_answer : (passes : Bool) (now : State) (plies : ℕ) (word : List ℕ) → AreOnBoard now.men
    → ((turn : LineMove) × SaysTurn passes now word turn × AreOnBoard (after_turn now turn).men)
    ⊎ ((fault : Fault) × RefusesTurn passes now plies word fault)
turn_answer true now plies word on_board = elim (settled_check now.men now.turn on_board) [
  | inl check ↦ inr (IllegalMove word (plies + 1), (check, refl))
  | inr free ↦ inl (Passed, free, on_board)
]
turn_answer false now plies word on_board = elim (each_text_names now word on_board) [
  | inl one ↦ inl (Played one.0, one.1, men_stay_on_board now one.0 on_board one.1.named.legal)
  | inr other ↦ elim other [
    | inl none ↦ inr (IllegalMove word (plies + 1), (refl, refl, none))
    | inr several ↦ inr (AmbiguousMove word (plies + 1), (refl, refl, several))
  ]
]

-- a line is played with all its variations, or has a first fault
abbrev HasTurns : Bool → State → State → Line → Type 0
HasTurns inside before now line = (turns : List LineMove) × IsPlayed inside before now line turns

abbrev HasFault : Bool → State → State → ℕ → Line → Type 0
HasFault inside before now plies line =
    (fault : Fault) × IsLineFault inside before now plies line fault

all_answer : (line : Line) (inside : Bool) (before now : State) (plies : ℕ) → AreOnBoard before.men
    → AreOnBoard now.men → HasTurns inside before now line ⊎ HasFault inside before now plies line
all_answer LineEnd inside before now plies last on_board = inl ([], refl)
all_answer (ThenMove word line) inside before now plies last on_board =
    elim (turn_answer (inside && is_pass word) now plies word on_board) [
      | inr refused ↦ inr (refused.0, inl refused.1)
      | inl (turn, says, next) ↦ elim
          (all_answer line inside now (after_turn now turn) (plies + 1) on_board next) [
            | inl (more, rest) ↦ inl (turn ∷ more, (turn, more, refl, says, rest))
            | inr (fault, met) ↦ inr (fault, inr (turn, says, met))
          ]
    ]
all_answer (ThenGlyph number line) inside before now plies last on_board =
    all_answer line inside before now plies last on_board
all_answer (ThenComment text line) inside before now plies last on_board =
    all_answer line inside before now plies last on_board
all_answer (ThenVariation inner line) inside before now plies last on_board =
    elim (all_answer inner true before before (plies - 1) last last) [
      | inr (fault, met) ↦ inr (fault, inl met)
      | inl (own, played) ↦ elim (all_answer line inside before now plies last on_board) [
        | inl (more, rest) ↦ inl (own ++ more, (own, more, refl, played, rest))
        | inr (fault, met) ↦ inr (fault, inr (own, played, met))
      ]
    ]

-- the value of the FEN tag is read, or refused
start_answer : (fen : Option (List ℕ)) → IfSome fen IsContents
    → ((start : State) × IsStart fen start) ⊎ IsBadStart fen
start_answer None has = inl (initial, refl)
start_answer (Some contents) (signs, spells, all) =
    let value = flat_map value_of_sign signs in
    let is : IsValueOf contents value =
    (signs, record { spells = spells; each = all; gives = refl }) in
    elim (fen_answer value) [
      | inl read ↦ inl (read.0, (value, is, read.1))
      | inr refused ↦ inr (value, refused.0, is, refused.1)
    ]

pub start_on_board : (fen : Option (List ℕ)) (start : State) → IsStart fen start
    → AreOnBoard start.men
start_on_board None start is =
    subst (λ (P : State). AreOnBoard P.men) (sym is) initial_kept.sound.on_board
start_on_board (Some contents) start (value, given, read) =
    spelled_men_on_board value start read.spells

-- the lines that are replayed are played, or have a first fault
abbrev HasReplay : Lines → State → List Item → Type 0
HasReplay lines start items =
    (positions : List State) × (played : List Move) × (turns : List LineMove)
    × IsMainLine start (main_words items 0) positions played × AreTurns lines start items turns

lines_answer : (lines : Lines) (start : State) (items : List Item) → AreOnBoard start.men
    → (lines ≡ All → IsPaired 0 items)
    → HasReplay lines start items ⊎ ((fault : Fault) × HasLineFault lines start items fault)
lines_answer Main start items on_board paired =
    elim (line_answer start 0 (main_words items 0) on_board) [
      | inl line ↦ inl (line.0, line.1, [], line.2, refl)
      | inr met ↦ inr met
    ]
lines_answer All start items on_board paired =
    let tree = one_spelt items (paired refl) in
    elim (all_answer tree.0 false start start 0 on_board on_board) [
      | inr met ↦ inr (met.0, (tree.0, tree.1, met.1))
      | inl all ↦
          let line = main_of_all tree.0 start start all.0 all.1 in
          let words : own_words tree.0 ≡ main_words items 0 =
          sym (ap (λ xs. main_words xs 0) tree.1 ∙ main_words_of tree.0) in
          inl (
            line.0,
            line.1,
            all.0,
            subst (λ ws. IsMainLine start ws line.0 line.1) words line.2,
            (tree.0, tree.1, all.1),
          )
    ]

pub game_answer : GameHasAnAnswer
game_answer lines fen items has paired = elim (start_answer fen has) [
  | inr bad ↦ inr (BadStart, inl (bad, refl))
  | inl (start, is_start) ↦ elim
      (lines_answer lines start items (start_on_board fen start is_start) paired) [
        | inl (positions, played, turns, line, all) ↦ inl (
          record { positions = positions; played = played; turns = turns },
          record { start = start; is_start = is_start; line = line; turns = all },
        )
        | inr met ↦ inr (met.0, inr (start, is_start, met.1))
      ]
]

-- a game of which all lines are played is sound
pub played_sound : (fen : Option (List ℕ)) (start : State) (items : List Item)
    (turns : List LineMove) → IsStart fen start → ArePlayed start items turns
    → IsSoundGame All fen items
played_sound fen start items turns is_start (tree, spells, played) =
    let line = main_of_all tree start start turns played in
    let words : own_words tree ≡ main_words items 0 =
    sym (ap (λ xs. main_words xs 0) spells ∙ main_words_of tree) in (
      record { positions = line.0; played = line.1; turns = turns },
      record {
        start = start;
        is_start = is_start;
        line = subst (λ ws. IsMainLine start ws line.0 line.1) words line.2;
        turns = (tree, spells, played);
      },
    )
