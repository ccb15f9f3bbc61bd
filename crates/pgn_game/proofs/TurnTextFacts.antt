-- The turns of a line in a notation: a sound line has one text, and that of a main line is the line
-- of its game.
use Rattle.std.specs.Prelude.{Option, Some, None, IfSome, if◌then◌else◌, is_ok, Result, Ok, Err}
use Rattle.pgn_game.proofs.Common.{◌≡◌, ℕ, Bool, true, false, ◌&&◌, List, [], ◌∷◌, ◌++◌, refl}
use Rattle.pgn_game.proofs.Common.{sym, ap, ◌∙◌, subst, append_assoc, append-nil, AreOnBoard, State}
use Rattle.pgn_game.proofs.Common.{after, Move, men_stay_on_board, Item, MoveText}
use Rattle.pgn_game.proofs.Common.{Line, LineEnd}
use Rattle.pgn_game.proofs.Common.{ThenMove, ThenGlyph, ThenComment, ThenVariation, spelled}
use Rattle.pgn_game.proofs.Common.{IsPlayed, IsTurn, SaysTurn, after_turn, is_pass}
use Rattle.pgn_game.proofs.Common.{LineMove, Played, Passed, Fault, BadStart, IsBadStart, IsStart}
use Rattle.pgn_game.proofs.Common.{IsRefusedTurn, AreMoveTexts, IsGameLine, IsMainLine, IsMoveText}
use Rattle.pgn_game.proofs.Common.{IsStartText, main_words, Notation, Uci, codes, uci_text}
use Rattle.pgn_game.specs.Public.GameLines.{AreTurnTexts, GameLineHasItsWords, IsLineText}
use Rattle.pgn_game.specs.Public.GameLines.{IsTurnIn}
use Rattle.pgn_game.specs.Private.LinePaths.{IsAlone, IsSoundLine}
use Rattle.pgn_game.specs.Private.LineTexts.{AreSaid, HasPutTurns, PutsTurn, words_in}
use Rattle.pgn_game.specs.declared.exports.notation.Notation.TheVariants.{San}
use Rattle.pgn_game.proofs.AnAnswer.{start_on_board}
use Rattle.pgn_game.proofs.GameLineFacts.{HasLine}
use Rattle.pgn_game.proofs.MoveTexts.{one_move_text, some_move_text}
use Rattle.pgn_game.proofs.OneLine.{one_turn, said_or_refused}
use Rattle.pgn_game.proofs.OneReplay.{one_start, start_or_bad}
use Rattle.pgn_game.proofs.StartTexts.{one_start_text, some_start_text, start_read_back}

-- ---- a sound line says its turns

words_of_line : (line : Line) → IsAlone line → words_in (spelled line) ≡ main_words (spelled line) 0
words_of_line LineEnd alone = refl
words_of_line (ThenMove word rest) alone = ap (λ words. word ∷ words) (words_of_line rest alone)
words_of_line (ThenGlyph number rest) alone = words_of_line rest alone
words_of_line (ThenComment text rest) alone = words_of_line rest alone
words_of_line (ThenVariation inner rest) alone = absurd alone

line_said : (line : Line) (inside : Bool) (before now : State) (turns : List LineMove)
    → IsAlone line → IsPlayed inside before now line turns
    → AreSaid inside now (words_in (spelled line))
line_said LineEnd inside before now turns alone played = tt
line_said (ThenMove word rest) inside before now turns alone (turn, more, is, says, played) =
    (turn, says, line_said rest inside now (after_turn now turn) more alone played)
line_said (ThenGlyph number rest) inside before now turns alone played =
    line_said rest inside before now turns alone played
line_said (ThenComment text rest) inside before now turns alone played =
    line_said rest inside before now turns alone played
line_said (ThenVariation inner rest) inside before now turns alone played = absurd alone

pub sound_words : (inside : Bool) (fen : Option (List ℕ)) (items : List Item)
    → IsSoundLine inside fen items → words_in items ≡ main_words items 0
sound_words inside fen items (start, is_start, line, alone, spells, turns, played) =
    ap words_in spells ∙ words_of_line line alone ∙ ap (λ own. main_words own 0) (sym spells)

pub sound_said : (inside : Bool) (fen : Option (List ℕ)) (items : List Item) (start : State)
    → IsStart fen start → IsSoundLine inside fen items → AreSaid inside start (words_in items)
sound_said inside fen items start is_start (other, also, line, alone, spells, turns, played) =
    subst (λ now. AreSaid inside now (words_in items)) (one_start fen other start also is_start)
    (subst (λ own. AreSaid inside other (words_in own)) (sym spells)
    (line_said line inside other other turns alone played))

-- ---- so no fault is met

pub none_refused : (inside : Bool) (now : State) (plies : ℕ) (word : List ℕ) (turn : LineMove)
    (fault : Option Fault) → IsTurn inside now word turn
    → IfSome fault (IsRefusedTurn inside now plies word) → fault ≡ None
none_refused inside now plies word turn None says met = refl
none_refused inside now plies word turn (Some fault) says met =
    absurd (said_or_refused (inside && is_pass word) now plies word turn fault says met)

pub none_bad : (fen : Option (List ℕ)) (start : State) (fault : Option Fault) → IsStart fen start
    → IfSome fault (λ reported. IsBadStart fen × (reported ≡ BadStart)) → fault ≡ None
none_bad fen start None is_start met = refl
none_bad fen start (Some fault) is_start met = absurd (start_or_bad fen start is_start met.0)

-- ---- the walk that writes them

pub turns_begin : (notation : Notation) (inside : Bool) (start : State) (items : List Item)
    (before : List ℕ) → AreSaid inside start (words_in items)
    → HasPutTurns notation inside start (words_in items) start items before before
turns_begin notation inside start items before said = record {
  own = [];
  put = sym (append-nil before);
  completes = λ rest are. are;
  said = said;
}

pub turns_more : {notation : Notation} {inside : Bool} {start now next : State}
    {words : List (List ℕ)} {word before mid after : List ℕ} {items : List Item}
    → HasPutTurns notation inside start words now (MoveText word ∷ items) before mid
    → PutsTurn notation inside now next word mid after
    → HasPutTurns notation inside start words next items before after
turns_more {notation} {inside} {start} {now} {next} {words} {word} {before} {mid} {after} {items}
    some puts =
    let (turn, says, said) = some.said in
    let same = one_turn (inside && is_pass word) now word turn puts.turn says puts.says in
    let there = ap (λ t. after_turn now t) same ∙ sym puts.position in
    record {
      own = some.own ++ 32 ∷ puts.own;
      put = puts.put ∙ ap (λ bytes. bytes ++ 32 ∷ puts.own) some.put
          ∙ append_assoc before some.own (32 ∷ puts.own);
      completes =
          λ rest are. subst (AreTurnTexts notation inside start words)
          (sym (append_assoc some.own (32 ∷ puts.own) rest))
          (some.completes (32 ∷ puts.own ++ rest) (
            puts.turn,
            puts.own,
            rest,
            refl,
            puts.says,
            puts.spells,
            subst (λ s. AreTurnTexts notation inside s (words_in items) rest) puts.position are,
          ));
      said = subst (λ s. AreSaid inside s (words_in items)) there said;
    }

pub turns_end : {notation : Notation} {inside : Bool} {start now : State}
    {words : List (List ℕ)} {before after : List ℕ}
    → HasPutTurns notation inside start words now [] before after
    → (text : List ℕ) × AreTurnTexts notation inside start words text × (after ≡ before ++ text)
turns_end {notation} {inside} {start} {now} {words} some = (
  some.own,
  subst (AreTurnTexts notation inside start words) (append-nil some.own)
      (some.completes [] refl),
  some.put,
)

-- ---- there is a text

some_turn_text : (notation : Notation) (passes : Bool) (now : State) (word : List ℕ)
    (turn : LineMove) → AreOnBoard now.men → SaysTurn passes now word turn
    → (text : List ℕ) × IsTurnIn notation now turn text × AreOnBoard (after_turn now turn).men
some_turn_text notation true now word (Played m) on_board says = absurd says
some_turn_text San true now word Passed on_board says = (codes "--", refl, on_board)
some_turn_text Uci true now word Passed on_board says = (codes "0000", refl, on_board)
some_turn_text San false now word (Played m) on_board says =
    let (text, spells) = some_move_text San now m on_board says.named.legal in
    (text, spells, men_stay_on_board now m on_board says.named.legal)
some_turn_text Uci false now word (Played m) on_board says =
    (uci_text m, refl, men_stay_on_board now m on_board says.named.legal)
some_turn_text notation false now word Passed on_board says = absurd says

some_turn_texts : (notation : Notation) (inside : Bool) (now : State) (words : List (List ℕ))
    → AreOnBoard now.men → AreSaid inside now words
    → (text : List ℕ) × AreTurnTexts notation inside now words text
some_turn_texts notation inside now [] on_board said = ([], refl)
some_turn_texts notation inside now (word ∷ words) on_board (turn, says, said) =
    let (own, spells, stands) =
    some_turn_text notation (inside && is_pass word) now word turn on_board says in
    let (rest, later) = some_turn_texts notation inside (after_turn now turn) words stands said in
    (32 ∷ own ++ rest, (turn, own, rest, refl, says, spells, later))

pub some_line_text : (notation : Notation) (inside : Bool) (fen : Option (List ℕ))
    (items : List Item) → IsSoundLine inside fen items
    → (text : List ℕ) × IsLineText notation inside fen (main_words items 0) text
some_line_text notation inside fen items sound =
    let start = sound.0 in
    let is_start = sound.1 in
    let (head, begins) = some_start_text start (start_read_back fen start is_start) in
    let (turns, are) =
    some_turn_texts notation inside start (words_in items) (start_on_board fen start is_start)
    (sound_said inside fen items start is_start sound) in (
      head ++ turns,
      (
        start,
        is_start,
        head,
        begins,
        turns,
        subst (λ words. AreTurnTexts notation inside start words turns)
            (sound_words inside fen items sound) are,
        refl,
      ),
    )

-- ---- and one

one_turn_text : (notation : Notation) (now : State) (turn : LineMove) (x y : List ℕ)
    → IsTurnIn notation now turn x → IsTurnIn notation now turn y → x ≡ y
one_turn_text San now (Played m) x y a b = one_move_text San now m x y a b
one_turn_text San now Passed x y a b = a ∙ sym b
one_turn_text Uci now (Played m) x y a b = a ∙ sym b
one_turn_text Uci now Passed x y a b = a ∙ sym b

one_turn_texts : (notation : Notation) (inside : Bool) (now : State) (words : List (List ℕ))
    (x y : List ℕ) → AreTurnTexts notation inside now words x
    → AreTurnTexts notation inside now words y → x ≡ y
one_turn_texts notation inside now [] x y a b = a ∙ sym b
one_turn_texts notation inside now (word ∷ words) x y (turn, own, rest, parted, says, spells, are)
    (turn2, own2, rest2, split, says2, spells2, also) =
    let same = one_turn (inside && is_pass word) now word turn2 turn says2 says in
    let texts = one_turn_text notation now turn own own2 spells
    (subst (λ t. IsTurnIn notation now t own2) same spells2) in
    parted ∙ ap (λ t. 32 ∷ t ++ rest) texts
    ∙ ap (λ t. 32 ∷ own2 ++ t) (one_turn_texts notation inside (after_turn now turn) words rest
    rest2 are (subst (λ t. AreTurnTexts notation inside (after_turn now t) words rest2) same also))
    ∙ sym split

pub one_line_text : (notation : Notation) (inside : Bool) (fen : Option (List ℕ))
    (words : List (List ℕ)) (x y : List ℕ) → IsLineText notation inside fen words x
    → IsLineText notation inside fen words y → x ≡ y
one_line_text notation inside fen words x y
    (start, is_start, head, begins, turns, are, spells)
    (start2, is_start2, head2, begins2, turns2, are2, spells2) =
    let same = one_start fen start2 start is_start2 is_start in
    spells
    ∙ ap (λ t. t ++ turns) (one_start_text start head head2 begins
    (subst (λ s. IsStartText s head2) same begins2))
    ∙ ap (λ t. head2 ++ t) (one_turn_texts notation inside start words turns turns2 are
    (subst (λ s. AreTurnTexts notation inside s words turns2) same are2))
    ∙ sym spells2

-- ---- of a main line it is the line of the game

as_turn : (notation : Notation) (now : State) (m : Move) (text : List ℕ)
    → IsMoveText notation now m text → IsTurnIn notation now (Played m) text
as_turn San now m text is = is
as_turn Uci now m text is = is

as_move : (notation : Notation) (now : State) (m : Move) (text : List ℕ)
    → IsTurnIn notation now (Played m) text → IsMoveText notation now m text
as_move San now m text is = is
as_move Uci now m text is = is

moves_are_turns : (notation : Notation) (now : State) (words : List (List ℕ))
    (positions : List State) (played : List Move) (text : List ℕ)
    → IsMainLine now words positions played → AreMoveTexts notation now played text
    → AreTurnTexts notation false now words text
moves_are_turns notation now [] positions played text line are =
    subst (λ ms. AreMoveTexts notation now ms text) line.1 are
moves_are_turns notation now (word ∷ words) positions played text
    (m, later, more, positions_is, played_is, named, rest) are =
    let there : AreMoveTexts notation now (m ∷ more) text =
    subst (λ ms. AreMoveTexts notation now ms text) played_is are in (
      Played m,
      there.0,
      there.1,
      there.2,
      named,
      as_turn notation now m there.0 there.3,
      moves_are_turns notation (after now m) words later more there.1 rest there.4,
    )

turns_are_moves : (notation : Notation) (now : State) (words : List (List ℕ)) (text : List ℕ)
    → AreTurnTexts notation false now words text → HasLine notation now words text
turns_are_moves notation now [] text is =
    record { positions = now ∷ []; played = []; line = (refl, refl); are_moves = is }
turns_are_moves notation now (word ∷ words) text
    (Played m, own, rest, parted, named, spells, others) =
    let later = turns_are_moves notation (after now m) words rest others in
    record {
      positions = now ∷ later.positions;
      played = m ∷ later.played;
      line = (m, later.positions, later.played, refl, refl, named, later.line);
      are_moves = (own, rest, parted, as_move notation now m own spells, later.are_moves);
    }
turns_are_moves notation now (word ∷ words) text
    (Passed, own, rest, parted, says, spells, others) = absurd says

pub its_words : GameLineHasItsWords
its_words notation fen items text = (there, back)
  where
    there : IsGameLine notation fen items text
        → IsLineText notation false fen (main_words items 0) text
    there is = (
      is.start,
      is.is_start,
      is.head,
      is.begins,
      is.moves,
      moves_are_turns notation is.start (main_words items 0) is.positions is.played is.moves
          is.line is.are_moves,
      is.spells,
    )

    back : IsLineText notation false fen (main_words items 0) text
        → IsGameLine notation fen items text
    back (start, is_start, head, begins, turns, are, spells) =
        let line = turns_are_moves notation start (main_words items 0) turns are in
        record {
          start = start;
          is_start = is_start;
          positions = line.positions;
          played = line.played;
          line = line.line;
          head = head;
          begins = begins;
          moves = turns;
          are_moves = line.are_moves;
          spells = spells;
        }

-- ---- a line of text is put

pub line_put : (old before own step pushed new : List ℕ) → step ≡ old ++ before
    → pushed ≡ step ++ own → new ≡ pushed ++ 10 ∷ [] → new ≡ old ++ (before ++ own ++ 10 ∷ [])
line_put old before own step pushed new first second last =
    last
    ∙ ap (λ b. b ++ 10 ∷ [])
    (second ∙ ap (λ b. b ++ own) first ∙ append_assoc old before own)
    ∙ append_assoc old (before ++ own) (10 ∷ [])

pub line_kept : {T E : Type 0} (result : Result T E) (old before own step pushed new : List ℕ)
    → step ≡ old ++ before → pushed ≡ step ++ own
    → new ≡ (if is_ok result then pushed ++ 10 ∷ [] else pushed)
    → (some : List ℕ) × (new ≡ old ++ some)
line_kept (Ok value) old before own step pushed new first second last =
    (before ++ own ++ 10 ∷ [], line_put old before own step pushed new first second last)
line_kept (Err error) old before own step pushed new first second last = (
  before ++ own,
  last ∙ second ∙ ap (λ b. b ++ own) first ∙ append_assoc old before own,
)
