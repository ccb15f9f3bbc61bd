-- A game is replayed in one way at most, has one fault at most, and not both.
use Rattle.std.specs.Prelude.{Option, Some, None}
use Rattle.pgn_game.proofs.Common.{◌≡◌, ℕ, ◌+◌, zero, suc, List, [], ◌∷◌, length, refl, sym, ap}
use Rattle.pgn_game.proofs.Common.{◌∙◌, subst, false, inl, inr, arith, same_Some, slice_get, State}
use Rattle.pgn_game.proofs.Common.{after, IsOnlyNamed, Move, one_spelling, Item, main_words}
use Rattle.pgn_game.proofs.Common.{IsMainLine, IsValueOf, IsStart, IsBadStart, IsPlayed, ArePlayed}
use Rattle.pgn_game.proofs.Common.{Fault, IsMoveFault, IsLineFault, HaveFault, HasLineFault}
use Rattle.pgn_game.proofs.Common.{IsFault, Replay, AreTurns, IsReplay, Lines, Main, All, LineMove}
use Rattle.chess.specs.Public.Fen.{IsRefused}
use Rattle.chess.proofs.FenOnce.{read_or_refused}
use Rattle.pgn_text.proofs.Values.{one_value}
use Rattle.pgn_game.specs.Public.Laws.{GameHasOneReplay, GameHasOneFault, SoundGameHasNoFault}
use Rattle.pgn_game.proofs.OneLine.{one_playing, one_fault_of, played_or_faulty}
use Rattle.pgn_game.proofs.OneWord.{named_or_refused, one_refused}
use Rattle.pgn_game.proofs.Spelling.{one_tree}

-- ---- the move at a place

-- the first position of a main line is the one that it is played from
pub line_head : (now : State) (words : List (List ℕ)) (positions : List State) (played : List Move)
    → IsMainLine now words positions played → slice_get positions 0 ≡ Some now
line_head now [] positions played line = ap (λ ps. slice_get ps 0) line.0
line_head now (word ∷ words) positions played (
  m,
  later,
  more,
  positions_is,
  played_is,
  named,
  rest,
) = ap (λ ps. slice_get ps 0) positions_is

-- what stands at a place of a main line
abbrev pub IsMoveAt : List (List ℕ) → List State → ℕ → Move → Type 0
IsMoveAt words positions i m =
    (word : List ℕ) × (now : State) × (slice_get words i ≡ Some word)
    × (slice_get positions i ≡ Some now)
    × IsOnlyNamed now word m × (slice_get positions (suc i) ≡ Some (after now m))

pub move_at : (start : State) (words : List (List ℕ)) (positions : List State) (played : List Move)
    → IsMainLine start words positions played
    → (i : ℕ) (m : Move) → slice_get played i ≡ Some m → IsMoveAt words positions i m
move_at start [] positions played line i m at = let none : None ≡ Some m =
    sym (ap (λ ms. slice_get ms i) line.1) ∙ at in absurd (cc)
move_at start (word ∷ words) positions played (
  own,
  later,
  more,
  positions_is,
  played_is,
  named,
  rest,
) zero m at =
    let same : own ≡ m = same_Some own m (sym (ap (λ ms. slice_get ms 0) played_is) ∙ at) in
    rw (← same) (
      word,
      start,
      refl,
      ap (λ ps. slice_get ps 0) positions_is,
      named,
      ap (λ ps.
          slice_get ps 1) positions_is ∙ line_head (after start own) words later more rest,
    )
move_at start (word ∷ words) positions played (
  own,
  later,
  more,
  positions_is,
  played_is,
  named,
  rest,
) (suc i) m at =
    let there : IsMoveAt words later i m =
    move_at (after start own) words later more rest i m
    (sym (ap (λ ms. slice_get ms (suc i)) played_is) ∙ at) in (
      there.0,
      there.1,
      there.2,
      ap (λ ps. slice_get ps (suc i)) positions_is ∙ there.3,
      there.4,
      ap (λ ps. slice_get ps (suc (suc i))) positions_is ∙ there.5,
    )

-- a main line has one position more than moves
pub line_length : (now : State) (words : List (List ℕ)) (positions : List State)
    (played : List Move) → IsMainLine now words positions played
    → length positions ≡ length played + 1
line_length now [] positions played line =
    let a : length positions ≡ 1 = ap length line.0 in
    let b : length played ≡ 0 = ap length line.1 in
    omega arith
line_length now (word ∷ words) positions played (
  m,
  later,
  more,
  positions_is,
  played_is,
  named,
  rest,
) =
    let a : length positions ≡ suc (length later) = ap length positions_is in
    let b : length played ≡ suc (length more) = ap length played_is in
    let c : length later ≡ length more + 1 = line_length (after now m) words later more rest in
    omega arith

-- ---- one main line

pub one_move : (now : State) (word : List ℕ) (m n : Move) → IsOnlyNamed now word m
    → IsOnlyNamed now word n → m ≡ n
one_move now word m n named other = other.only m named.named

pub one_line : (now : State) (words : List (List ℕ)) (positions others : List State)
    (played moves : List Move)
    → IsMainLine now words positions played → IsMainLine now words others moves
    → (positions ≡ others) × (played ≡ moves)
one_line now [] positions others played moves line other =
    (line.0 ∙ sym other.0, line.1 ∙ sym other.1)
one_line now (word ∷ words) positions others played moves (
  m,
  later,
  more,
  positions_is,
  played_is,
  named,
  rest,
) (n, later2, more2, others_is, moves_is, named2, rest2) =
    let same : n ≡ m = one_move now word n m named2 named in
    let tails : (later ≡ later2) × (more ≡ more2) =
    one_line (after now m) words later later2 more more2 rest
    (subst (λ k. IsMainLine (after now k) words later2 more2) same rest2) in (
      positions_is ∙ ap (λ ps. now ∷ ps) tails.0 ∙ sym others_is,
      played_is ∙ ap (λ ms. m ∷ ms) tails.1 ∙ ap (λ k. k ∷ more2) (sym same) ∙ sym moves_is,
    )

-- ---- one start

pub same_value : (contents value other : List ℕ) → IsValueOf contents value
    → IsValueOf contents other → value ≡ other
same_value contents value other (signs, has) (signs2, has2) =
    one_value contents value signs has ∙ sym (one_value contents other signs2 has2)

pub one_start : (fen : Option (List ℕ)) (start other : State) → IsStart fen start
    → IsStart fen other → start ≡ other
one_start None start other is is2 = is ∙ sym is2
one_start (Some contents) start other (value, given, reads) (value2, given2, reads2) =
    one_spelling value start other reads.spells
    (rw (← (same_value contents value2 value given2 given)) reads2.spells)

pub start_or_bad : (fen : Option (List ℕ)) (start : State) → IsStart fen start → IsBadStart fen → ⊥
start_or_bad None start is bad = bad
start_or_bad (Some contents) start (value, given, reads) (value2, error, given2, refused) =
    read_or_refused value start error reads
    (subst (λ x. IsRefused x error) (same_value contents value2 value given2 given) refused)

-- ---- one fault

one_move_fault : (now : State) (plies : ℕ) (words : List (List ℕ)) (fault other : Fault)
    → IsMoveFault now plies words fault → IsMoveFault now plies words other → fault ≡ other
one_move_fault now plies [] fault other a b = absurd a
one_move_fault now plies (word ∷ words) fault other (inl a) (inl b) =
    one_refused now plies word fault other a b
one_move_fault now plies (word ∷ words) fault other (inl a) (inr (n, named, rest)) =
    absurd (named_or_refused now plies word n fault named a)
one_move_fault now plies (word ∷ words) fault other (inr (m, named, rest)) (inl b) =
    absurd (named_or_refused now plies word m other named b)
one_move_fault now plies (word
    ∷ words) fault other (inr (m, named, rest)) (inr (n, named2, rest2)) =
    one_move_fault (after now m) (plies + 1) words fault other rest
    (rw (← (one_move now word n m named2 named)) rest2)

one_line_fault : (lines : Lines) (start : State) (items : List Item) (fault other : Fault)
    → HasLineFault lines start items fault → HasLineFault lines start items other → fault ≡ other
one_line_fault Main start items fault other met met2 =
    one_move_fault start 0 (main_words items 0) fault other met met2
one_line_fault All start items fault other (line, is, met) (line2, is2, met2) =
    let same : line2 ≡ line = one_tree line2 line (sym is2 ∙ is) in
    one_fault_of line false start start 0 fault other met
    (subst (λ l. IsLineFault false start start 0 l other) same met2)

pub one_fault : GameHasOneFault
one_fault lines fen items fault other (inl (bad, is)) (inl (bad2, is2)) = is ∙ sym is2
one_fault lines fen items fault other (inl (bad, is)) (inr (start, is_start, met)) =
    absurd (start_or_bad fen start is_start bad)
one_fault lines fen items fault other (inr (start, is_start, met)) (inl (bad, is)) =
    absurd (start_or_bad fen start is_start bad)
one_fault lines fen items fault other (inr (start, is_start, met)) (inr (start2, is_start2, met2)) =
    one_line_fault lines start items fault other met
    (rw (← (one_start fen start2 start is_start2 is_start)) met2)

-- ---- and a game with a replay has none

pub line_or_fault : (now : State) (plies : ℕ) (words : List (List ℕ)) (positions : List State)
    (played : List Move) (fault : Fault)
    → IsMainLine now words positions played → IsMoveFault now plies words fault → ⊥
line_or_fault now plies [] positions played fault line met = met
line_or_fault now plies (word ∷ words) positions played fault (
  m,
  later,
  more,
  positions_is,
  played_is,
  named,
  rest,
) (inl refused) = named_or_refused now plies word m fault named refused
line_or_fault now plies (word ∷ words) positions played fault (
  m,
  later,
  more,
  positions_is,
  played_is,
  named,
  rest,
) (inr (n, named2, met)) =
    line_or_fault (after now m) (plies + 1) words later more fault rest
    (rw (← (one_move now word n m named2 named)) met)

pub all_or_fault : (start : State) (items : List Item) (turns : List LineMove) (fault : Fault)
    → ArePlayed start items turns → HaveFault start items fault → ⊥
all_or_fault start items turns fault (tree, is, all) (tree2, is2, met) =
    let same : tree2 ≡ tree = one_tree tree2 tree (sym is2 ∙ is) in
    played_or_faulty tree false start start 0 turns fault all
    (subst (λ l. IsLineFault false start start 0 l fault) same met)

lines_or_fault : (lines : Lines) (start : State) (items : List Item) (positions : List State)
    (played : List Move) (turns : List LineMove) (fault : Fault)
    → IsMainLine start (main_words items 0) positions played → AreTurns lines start items turns
    → HasLineFault lines start items fault → ⊥
lines_or_fault Main start items positions played turns fault line none met =
    line_or_fault start 0 (main_words items 0) positions played fault line met
lines_or_fault All start items positions played turns fault line all met =
    all_or_fault start items turns fault all met

replay_or_fault : (lines : Lines) (fen : Option (List ℕ)) (items : List Item) (replay : Replay)
    (fault : Fault) → IsReplay lines fen items replay → IsFault lines fen items fault → ⊥
replay_or_fault lines fen items replay fault is (inl (bad, reports)) =
    start_or_bad fen is.start is.is_start bad
replay_or_fault lines fen items replay fault is (inr (start, is_start, met)) =
    lines_or_fault lines is.start items replay.positions replay.played replay.turns fault is.line
    is.turns
    (rw (← (one_start fen start is.start is_start is.is_start)) met)

-- ---- one replay

pub same_replay : (replay other : Replay) → replay.positions ≡ other.positions
    → replay.played ≡ other.played → replay.turns ≡ other.turns → replay ≡ other
same_replay replay other positions played turns i =
    record { positions = positions i; played = played i; turns = turns i }

same_turns : (lines : Lines) (start : State) (items : List Item) (turns others : List LineMove)
    → AreTurns lines start items turns → AreTurns lines start items others → turns ≡ others
same_turns Main start items turns others none none2 = none ∙ sym none2
same_turns All start items turns others (line, is, all) (line2, is2, all2) =
    let same : line2 ≡ line = one_tree line2 line (sym is2 ∙ is) in
    one_playing line false start start turns others all
    (subst (λ l. IsPlayed false start start l others) same all2)

pub one_replay : GameHasOneReplay
one_replay lines fen items replay other is is2 =
    let start : is2.start ≡ is.start = one_start fen is2.start is.start is2.is_start is.is_start in
    let line2 : IsMainLine is.start (main_words items 0) other.positions other.played =
    subst (λ s. IsMainLine s (main_words items 0) other.positions other.played) start is2.line in
    let same : (replay.positions ≡ other.positions) × (replay.played ≡ other.played) =
    one_line is.start (main_words items 0) replay.positions other.positions replay.played
    other.played is.line line2 in
    let turns2 : AreTurns lines is.start items other.turns =
    subst (λ s. AreTurns lines s items other.turns) start is2.turns in
    same_replay replay other same.0 same.1
    (same_turns lines is.start items replay.turns other.turns is.turns turns2)

pub no_fault : SoundGameHasNoFault
no_fault lines fen items fault (replay, is) met =
    replay_or_fault lines fen items replay fault is met
