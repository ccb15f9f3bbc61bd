-- A sound game has one line in each notation, and no other game has it.
use Rattle.std.specs.Prelude.{Option}
use Rattle.pgn_game.proofs.Common.{◌≡◌, ℕ, List, [], ◌∷◌, ◌++◌, refl, sym, ap, ◌∙◌, subst, inr}
use Rattle.pgn_game.proofs.Common.{append_assoc, append-nil, AreOnBoard, State, IsSound, after}
use Rattle.pgn_game.proofs.Common.{Move, men_stay_on_board, Item, MoveText, IsMoveFault}
use Rattle.pgn_game.proofs.Common.{IsStartText, AreMoveTexts, IsGameLine, AreWritten, HasPutSome}
use Rattle.pgn_game.proofs.Common.{PutsElement, IsMainLine, main_words, MainWalk, Notation}
use Rattle.chess.proofs.SoundFacts.{after_sound}
use Rattle.pgn_game.specs.Public.GameLines.{SoundGameHasALine, GameHasOneLine, LineIsTheGame}
use Rattle.pgn_game.specs.Private.LineTexts.{PutsMove}
use Rattle.pgn_game.proofs.MoveTexts.{some_move_text, one_move_text, move_unspaced, same_by_text}
use Rattle.pgn_game.proofs.OneReplay.{one_line, one_start}
use Rattle.pgn_game.proofs.WalkFacts.{main_word}
use Rattle.pgn_game.proofs.StartTexts.{IsUnspaced, some_start_text, one_start_text, same_start}
use Rattle.pgn_game.proofs.StartTexts.{start_read_back, start_unspaced}

-- ---- the moves have one text

some_move_texts : (notation : Notation) (now : State) (words : List (List ℕ))
    (positions : List State) (played : List Move) → AreOnBoard now.men
    → IsMainLine now words positions played
    → (text : List ℕ) × AreMoveTexts notation now played text
some_move_texts notation now [] positions played stands line =
    ([], subst (λ ms. AreMoveTexts notation now ms []) (sym line.1) refl)
some_move_texts notation now (word ∷ words) positions played stands (
  m,
  later,
  more,
  positions_is,
  played_is,
  named,
  rest,
) =
    let own = some_move_text notation now m stands named.named.legal in
    let others =
    some_move_texts notation (after now m) words later more
    (men_stay_on_board now m stands named.named.legal) rest in (
      32 ∷ own.0 ++ others.0,
      rw played_is (own.0, others.0, refl, own.1, others.1),
    )

one_move_texts : (notation : Notation) (now : State) (played : List Move) (x y : List ℕ)
    → AreMoveTexts notation now played x → AreMoveTexts notation now played y → x ≡ y
one_move_texts notation now [] x y a b = a ∙ sym b
one_move_texts notation now (m ∷ more) x y (own, rest, parted, spells, others) (
  also,
  end,
  split,
  is,
  those,
) =
    parted ∙ ap (λ t. 32 ∷ t ++ rest) (one_move_text notation now m own also spells is)
    ∙ ap (λ t. 32 ∷ also ++ t) (one_move_texts notation (after now m) more rest end others those)
    ∙ sym split

pub some_line : SoundGameHasALine
some_line notation fen items (replay, is) =
    let kept = start_read_back fen is.start is.is_start in
    let head = some_start_text is.start kept in
    let moves =
    some_move_texts notation is.start (main_words items 0) replay.positions replay.played
    kept.sound.on_board is.line in (
      head.0 ++ moves.0,
      record {
        start = is.start;
        is_start = is.is_start;
        positions = replay.positions;
        played = replay.played;
        line = is.line;
        head = head.0;
        begins = head.1;
        moves = moves.0;
        are_moves = moves.1;
        spells = refl;
      },
    )

-- ---- the first of two texts ends where a space stands

-- nothing, or a space and more
abbrev Ends : List ℕ → Type 0
Ends [] = Unit {0}
Ends (b ∷ x) = b ≡ 32

cut_once : (a b x y : List ℕ) → IsUnspaced a → IsUnspaced b → Ends x → Ends y → a ++ x ≡ b ++ y
    → (a ≡ b) × (x ≡ y)
cut_once [] [] x y free also ends end same = (refl, same)
cut_once [] (b ∷ ys) [] y free also ends end same = absurd (cc)
cut_once [] (b ∷ ys) (c ∷ x) y free also ends end same = let first : c ≡ b = cc in
    absurd (also.0 (sym first ∙ ends))
cut_once (a ∷ xs) [] x [] free also ends end same = absurd (cc)
cut_once (a ∷ xs) [] x (c ∷ y) free also ends end same = let first : a ≡ c = cc in
    absurd (free.0 (first ∙ end))
cut_once (a ∷ xs) (b ∷ ys) x y free also ends end same =
    let first : a ≡ b = cc in
    let rest : xs ++ x ≡ ys ++ y = cc in
    let more = cut_once xs ys x y free.1 also.1 ends end rest in
    ((λ i. first i ∷ more.0 i), more.1)

moves_end : (notation : Notation) (now : State) (played : List Move) (x : List ℕ)
    → AreMoveTexts notation now played x → Ends x
moves_end notation now [] x are = subst Ends (sym are) (record {})
moves_end notation now (m ∷ more) x (own, rest, parted, spells, others) =
    subst Ends (sym parted) refl

-- ---- the same texts are the same moves

same_played : (notation : Notation) (now : State) → IsSound now
    → (words others : List (List ℕ)) (positions states : List State) (played moves : List Move)
    (x : List ℕ) → IsMainLine now words positions played → IsMainLine now others states moves
    → AreMoveTexts notation now played x → AreMoveTexts notation now moves x → played ≡ moves
same_played notation now sound [] [] positions states played moves x line other a b =
    line.1 ∙ sym other.1
same_played notation now sound [] (word ∷ others) positions states played moves x line (
  n,
  later,
  more,
  states_is,
  moves_is,
  named,
  rest,
) a b =
    let none : AreMoveTexts notation now [] x =
    subst (λ ms. AreMoveTexts notation now ms x) line.1 a in
    let some : AreMoveTexts notation now (n ∷ more) x =
    subst (λ ms. AreMoveTexts notation now ms x) moves_is b in
    let never : [] ≡ 32 ∷ some.0 ++ some.1 = sym none ∙ some.2 in absurd (cc)
same_played notation now sound (word ∷ words) [] positions states played moves x (
  m,
  later,
  more,
  positions_is,
  played_is,
  named,
  rest,
) other a b =
    let none : AreMoveTexts notation now [] x =
    subst (λ ms. AreMoveTexts notation now ms x) other.1 b in
    let some : AreMoveTexts notation now (m ∷ more) x =
    subst (λ ms. AreMoveTexts notation now ms x) played_is a in
    let never : [] ≡ 32 ∷ some.0 ++ some.1 = sym none ∙ some.2 in absurd (cc)
same_played notation now sound (word ∷ words) (other ∷ others) positions states played moves x (
  m,
  later,
  more,
  positions_is,
  played_is,
  named,
  rest,
)
    (n, later2, more2, states_is, moves_is, named2, rest2) a b =
    let one : AreMoveTexts notation now (m ∷ more) x =
    subst (λ ms. AreMoveTexts notation now ms x) played_is a in
    let two : AreMoveTexts notation now (n ∷ more2) x =
    subst (λ ms. AreMoveTexts notation now ms x) moves_is b in
    let whole : 32 ∷ one.0 ++ one.1 ≡ 32 ∷ two.0 ++ two.1 = sym one.2 ∙ two.2 in
    let tails : one.0 ++ one.1 ≡ two.0 ++ two.1 = cc in
    let parts =
    cut_once one.0 two.0 one.1 two.1 (move_unspaced notation now m one.0 one.3)
    (move_unspaced notation now n two.0 two.3)
    (moves_end notation (after now m) more one.1 one.4)
    (moves_end notation (after now n) more2 two.1 two.4) tails in
    let same : m ≡ n =
    same_by_text notation now m n two.0 sound named.named.legal named2.named.legal
    (rw parts.0 at one.3) two.3 in
    let next =
    after_sound now m (record { sound = sound; rules = named.named.legal.pseudo_legal })
    named.named.legal.safe in
    let others_there = subst (λ k. IsMainLine (after now k) others later2 more2) (sym same) rest2 in
    let texts_there = subst (λ k. AreMoveTexts notation (after now k) more2 two.1) (sym same) two.4
    in
    let ends : more ≡ more2 =
    same_played notation (after now m) next words others later later2 more more2 two.1 rest
    others_there (rw parts.1 at one.4) texts_there in
    played_is ∙ ap (λ ms. m ∷ ms) ends ∙ ap (λ k. k ∷ more2) same ∙ sym moves_is

-- the line is the same where the start and the moves are
lines_same : (notation : Notation) (fen tag : Option (List ℕ)) (items others : List Item)
    (x y : List ℕ) (first : IsGameLine notation fen items x)
    (second : IsGameLine notation tag others y)
    → first.start ≡ second.start → first.played ≡ second.played → x ≡ y
lines_same notation fen tag items others x y first second start played =
    let head : first.head ≡ second.head =
    one_start_text second.start first.head second.head
    (subst (λ s. IsStartText s first.head) start first.begins) second.begins in
    let moves : first.moves ≡ second.moves =
    one_move_texts notation second.start second.played first.moves second.moves
    (subst (λ s. AreMoveTexts notation s second.played first.moves) start
    (subst (λ ms. AreMoveTexts notation first.start ms first.moves) played first.are_moves))
    second.are_moves in
    first.spells ∙ ap (λ t. t ++ first.moves) head ∙ ap (λ t. second.head ++ t) moves
    ∙ sym second.spells

pub line_is_the_game : LineIsTheGame
line_is_the_game notation fen tag items others x y first second =
    (apart, λ same. lines_same notation fen tag items others x y first second same.0 same.1)
  where
    apart : x ≡ y → (first.start ≡ second.start) × (first.played ≡ second.played)
    apart same =
        let kept = start_read_back fen first.start first.is_start in
        let parts =
        cut_once first.head second.head first.moves second.moves
        (start_unspaced first.start first.head first.begins)
        (start_unspaced second.start second.head second.begins)
        (moves_end notation first.start first.played first.moves first.are_moves)
        (moves_end notation second.start second.played second.moves second.are_moves)
        (sym first.spells ∙ same ∙ second.spells) in
        let start : first.start ≡ second.start =
        same_start first.start second.start second.head kept
        (start_read_back tag second.start second.is_start) (rw parts.0 at first.begins)
        second.begins in
        let line : IsMainLine first.start (main_words others 0) second.positions second.played =
        rw start second.line in
        let texts : AreMoveTexts notation first.start second.played second.moves =
        subst (λ s. AreMoveTexts notation s second.played second.moves) (sym start)
        second.are_moves in (
          start,
          same_played notation first.start kept.sound (main_words items 0) (main_words others 0)
              first.positions second.positions first.played second.played second.moves
              first.line line (rw parts.1 at first.are_moves) texts,
        )

pub one_game_line : GameHasOneLine
one_game_line notation fen items x y first second =
    let start : first.start ≡ second.start =
    one_start fen first.start second.start first.is_start second.is_start in
    let line : IsMainLine first.start (main_words items 0) second.positions second.played =
    rw start second.line in
    lines_same notation fen fen items items x y first second start
    (one_line first.start (main_words items 0) first.positions second.positions first.played
    second.played first.line line).1

-- ---- words that are written are a main line and its moves

pub record HasLine (notation : Notation) (now : State) (words : List (List ℕ))
    (text : List ℕ) : Type 0 where
  pub positions : List State
  pub played : List Move
  pub line : IsMainLine now words positions played
  pub are_moves : AreMoveTexts notation now played text

pub written_line : (notation : Notation) (now : State) (words : List (List ℕ)) (text : List ℕ)
    → AreWritten notation now words text → HasLine notation now words text
written_line notation now [] text is =
    record { positions = now ∷ []; played = []; line = (refl, refl); are_moves = is }
written_line notation now (word ∷ words) text (m, own, rest, parted, named, spells, others) =
    let later = written_line notation (after now m) words rest others in
    record {
      positions = now ∷ later.positions;
      played = m ∷ later.played;
      line = (m, later.positions, later.played, refl, refl, named, later.line);
      are_moves = (own, rest, parted, spells, later.are_moves);
    }

-- ---- the walk that writes it

pub put_begins : (notation : Notation) (start : State) (walk : MainWalk) (before : List ℕ)
    (items : List Item) → walk.position ≡ start → walk.plies ≡ 0 → walk.depth ≡ 0
    → HasPutSome notation start (main_words items 0) walk before before items
put_begins notation start walk before items position plies depth = record {
  own = [];
  put = sym (append-nil before);
  completes = λ rest are. subst (λ s. AreWritten notation s (main_words items 0) rest) position
      (subst (λ d. AreWritten notation walk.position (main_words items d) rest) depth are);
  faults = λ fault met. subst (λ s. IsMoveFault s 0 (main_words items 0) fault) position
      (subst (λ n. IsMoveFault walk.position n (main_words items 0) fault) plies
      (subst (λ d. IsMoveFault walk.position walk.plies (main_words items d) fault) depth met));
}

pub put_more : {notation : Notation} {start : State} {words : List (List ℕ)} {old new : MainWalk}
    {before mid after : List ℕ} {item : Item} {items : List Item}
    → HasPutSome notation start words old before mid (item ∷ items)
    → PutsElement notation old new item mid after
    → HasPutSome notation start words new before after items
put_more {notation} {start} {words} {before = before} {items = items} some puts = record {
  own = some.own ++ puts.own;
  put = puts.put ∙ ap (λ bytes. bytes ++ puts.own) some.put ∙ append_assoc before some.own puts.own;
  completes =
      λ rest are. subst (AreWritten notation start words)
      (sym (append_assoc some.own puts.own rest))
      (some.completes (puts.own ++ rest) (puts.completes items rest are));
  faults = λ fault met. some.faults fault (puts.faults items fault met);
}

pub put_ends : {notation : Notation} {start : State} {words : List (List ℕ)} {walk : MainWalk}
    {before after : List ℕ} → HasPutSome notation start words walk before after []
    → (text : List ℕ) × AreWritten notation start words text × (after ≡ before ++ text)
put_ends {notation} {start} {words} some = (
  some.own,
  subst (AreWritten notation start words) (append-nil some.own) (some.completes [] refl),
  some.put,
)

-- a move of the main line, and any other element
pub puts_move : {notation : Notation} {old new : MainWalk} {before after : List ℕ} (word : List ℕ)
    → old.depth ≡ 0 → PutsMove notation old new word before after
    → PutsElement notation old new (MoveText word) before after
puts_move {notation} {old} {new} word outside puts = record {
  own = 32 ∷ puts.own;
  put = puts.put;
  completes =
      λ items rest are. rw (words items) (
        puts.m,
        puts.own,
        rest,
        refl,
        puts.named,
        puts.spells,
        subst (λ s. AreWritten notation s (main_words items new.depth) rest) puts.position are,
      );
  faults = λ items fault met. rw (words items) (inr (
    puts.m,
    puts.named,
    rw (← puts.position) (rw
        (← puts.plies) met),
  ));
}
  where
    words : (items : List Item) → main_words (MoveText word ∷ items) old.depth
        ≡ word ∷ main_words items new.depth
    words items = main_word word items old.depth outside
        ∙ ap (λ d. word ∷ main_words items d) (sym puts.depth)
