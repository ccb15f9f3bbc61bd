-- A game that is replayed has a movetext.
use Rattle.std.proofs.Common.{◌||◌}
use Rattle.pgn_game.proofs.Common.{◌≡◌, ℕ, Bool, true, false, ◌&&◌, List, [], ◌∷◌, ◌++◌, refl, sym}
use Rattle.pgn_game.proofs.Common.{ap, ◌∙◌, subst, codes, decimal, AreOnBoard, State, after, Move}
use Rattle.pgn_game.proofs.Common.{men_stay_on_board, some_san, Line, LineEnd, ThenMove, ThenGlyph}
use Rattle.pgn_game.proofs.Common.{ThenComment, ThenVariation, spelled, is_pass, SaysTurn}
use Rattle.pgn_game.proofs.Common.{after_turn, IsPlayed, own_words, shows, shown_tokens}
use Rattle.pgn_game.proofs.Common.{number_tokens}
use Rattle.pgn_game.proofs.Common.{IsTurnText, kept, AreTokens, main_words, IsMainLine, AreTurns}
use Rattle.pgn_game.proofs.Common.{Style, LineMove, Played, Passed}
use Rattle.pgn_game.specs.Public.Laws.{MovetextHasTokens}
use Rattle.pgn_game.proofs.AnAnswer.{start_on_board}
use Rattle.pgn_game.proofs.OneLine.{main_words_of}
use Rattle.pgn_game.proofs.Spelling.{one_spelt, one_tree}

-- a turn has a text, and after it men stand on the board alone
turn_text : (passes : Bool) (now : State) (word : List ℕ) (turn : LineMove) → AreOnBoard now.men
    → SaysTurn passes now word turn
    → (text : List ℕ) × IsTurnText now turn text × AreOnBoard (after_turn now turn).men
turn_text true now word (Played m) on_board says = absurd says
turn_text true now word Passed on_board says = (codes "--", refl, on_board)
turn_text false now word (Played m) on_board says =
    let text = some_san now m on_board says.named.legal in
    (text.0, text.1, men_stay_on_board now m on_board says.named.legal)
turn_text false now word Passed on_board says = absurd says

abbrev pub SomeTokens : Style → Bool → State → State → Bool → Line → Type 0
SomeTokens style inside before now apart line =
    (tokens : List (List ℕ)) × AreTokens style inside before now apart line tokens

-- all lines that are played
pub all_tokens : (line : Line) (style : Style) (inside : Bool) (before now : State) (apart : Bool)
    (turns : List LineMove) → AreOnBoard before.men → AreOnBoard now.men
    → IsPlayed inside before now line turns → SomeTokens style inside before now apart line
all_tokens LineEnd style inside before now apart turns on_board stands played = ([], refl)
all_tokens (ThenMove word line) style inside before now apart turns on_board stands (
  turn,
  more,
  is,
  says,
  played,
) =
    let text = turn_text (inside && is_pass word) now word turn stands says in
    let there =
    all_tokens line style inside now (after_turn now turn) false more stands text.2 played in (
      number_tokens now.turn now.fullmove_number apart ++ text.0 ∷ there.0,
      (turn, text.0, there.0, says, text.1, refl, there.1),
    )
all_tokens (ThenGlyph number line) style inside before now apart turns on_board stands played =
    let there = all_tokens line style inside before now apart turns on_board stands played in
    (kept style.glyphs ((36 ∷ decimal number) ∷ []) ++ there.0, (there.0, refl, there.1))
all_tokens (ThenComment text line) style inside before now apart turns on_board stands played =
    let there =
    all_tokens line style inside before now (apart
    || shows style text) turns on_board stands played in (
      kept (shows style text) (shown_tokens style.commands text) ++ there.0,
      (there.0, refl, there.1),
    )
all_tokens (ThenVariation inner line) style inside before now apart turns on_board stands (
  own,
  more,
  is,
  within,
  played,
) =
    let there = all_tokens inner style true before before true own on_board on_board within in
    let after =
    all_tokens line style inside before now (apart
    || style.variations) more on_board stands played in (
      kept style.variations (codes "(" ∷ there.0 ++ codes ")" ∷ []) ++ after.0,
      (there.0, after.0, refl, (λ _. there.1), after.1),
    )

-- the main line, where variations are left out
main_tokens : (line : Line) (style : Style) → style.variations ≡ false
    → (before now : State) (apart : Bool) (positions : List State) (played : List Move)
    → AreOnBoard now.men → IsMainLine now (own_words line) positions played
    → SomeTokens style false before now apart line
main_tokens LineEnd style hidden before now apart positions played stands line_is = ([], refl)
main_tokens (ThenMove word line) style hidden before now apart positions played stands (
  m,
  later,
  more,
  is,
  moves,
  named,
  rest,
) =
    let text = turn_text false now word (Played m) stands named in
    let there = main_tokens line style hidden now (after now m) false later more text.2 rest in (
      number_tokens now.turn now.fullmove_number apart ++ text.0 ∷ there.0,
      (Played m, text.0, there.0, named, text.1, refl, there.1),
    )
main_tokens (ThenGlyph number line) style hidden before now apart positions played stands line_is =
    let there = main_tokens line style hidden before now apart positions played stands line_is in
    (kept style.glyphs ((36 ∷ decimal number) ∷ []) ++ there.0, (there.0, refl, there.1))
main_tokens (ThenComment text line) style hidden before now apart positions played stands line_is =
    let there =
    main_tokens line style hidden before now (apart
    || shows style text) positions played stands line_is in (
      kept (shows style text) (shown_tokens style.commands text) ++ there.0,
      (there.0, refl, there.1),
    )
main_tokens (ThenVariation inner line) style hidden before now apart positions played stands
    line_is =
    let tail =
    main_tokens line style hidden before now (apart
    || style.variations) positions played stands line_is in (
      kept style.variations (codes "(" ∷ codes ")" ∷ []) ++ tail.0,
      (
        [],
        tail.0,
        refl,
        (λ shown. let never : true ≡ false = sym shown ∙ hidden in absurd (cc)),
        tail.1,
      ),
    )

pub some_movetext : MovetextHasTokens
some_movetext style fen items replay result paired (lines, every, is) =
    let line = one_spelt items paired in
    let there = by style.variations refl line.0 line.1 in
    (is.start, there.0 ++ result ∷ [], is.is_start, (line.0, there.0, line.1, there.1, refl))
  where
    stands : AreOnBoard is.start.men
    stands = start_on_board fen is.start is.is_start

    by : (variations : Bool) → style.variations ≡ variations → (line : Line) → items ≡ spelled line
        → SomeTokens style false is.start is.start true line
    by true shown line spells =
        let played =
        subst (λ which. AreTurns which is.start items replay.turns) (every shown) is.turns in
        let same : played.0 ≡ line = one_tree played.0 line (sym played.1 ∙ spells) in
        all_tokens line style false is.start is.start true replay.turns stands stands
        (subst (λ l. IsPlayed false is.start is.start l replay.turns) same played.2)
    by false hidden line spells =
        main_tokens line style hidden is.start is.start true replay.positions replay.played stands
        (subst (λ words. IsMainLine is.start words replay.positions replay.played)
        (ap (λ xs. main_words xs 0) spells ∙ main_words_of line) is.line)
