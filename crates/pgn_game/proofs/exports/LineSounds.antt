-- Each line of a sound game is sound as a game of its own, so nothing but memory stands in the way
-- of its export.
use Rattle.std.specs.Prelude.{Option, Some, None, IfSome}
use Rattle.pgn_game.proofs.Common.{◌≡◌, ℕ, ◌≤◌, ◌<◌, Bool, true, false, List, [], ◌∷◌, ◌++◌, refl}
use Rattle.pgn_game.proofs.Common.{sym, ap, ◌∙◌, subst, inl, inr, arith, length, map}
use Rattle.pgn_game.proofs.Common.{length-append, AllByRecursion, get_or, zero, suc, State, IsNamed}
use Rattle.pgn_game.proofs.Common.{Move}
use Rattle.pgn_game.proofs.Common.{Item, MoveText, GlyphNumber, CommentText, Line, LineEnd}
use Rattle.pgn_game.proofs.Common.{ThenMove, ThenGlyph, ThenComment, ThenVariation, spelled}
use Rattle.pgn_game.proofs.Common.{SaysTurn, IsTurn, after_turn, is_pass, IsPlayed, IsPaired}
use Rattle.pgn_game.proofs.Common.{LineMove, Played, Passed, Fault, IsStart}
use Rattle.pgn_game.proofs.Common.{Stops, first_level, is_inside, shown_items, IsSoundGame, All}
use Rattle.pgn_game.proofs.Common.{bytes_eq, codes}
use Rattle.chess.specs.Public.Letters.{file_letter, square_text}
use Rattle.chess.specs.Public.San.{IsCastlingText, Said, Spells, castling_text}
use Rattle.chess.specs.Public.San.{castling_with_zeros, file_text, letter_text, promotion_text}
use Rattle.chess.specs.Public.San.{rank_text}
use Rattle.chess.specs.declared.board.man.Wing.{Wing}
use Rattle.chess.specs.declared.board.man.Wing.TheVariants.{KingSide, QueenSide}
use Rattle.pgn_text.proofs.TagLemmas.{bytes_eq-same}
use Rattle.pgn_game.specs.Public.Edits.{first_plies}
use Rattle.pgn_game.specs.Private.Editing.{plies_up_to}
use Rattle.pgn_game.specs.Public.LineGames.{LineGame, line_items, own_items, variations_in}
use Rattle.pgn_game.specs.Private.LinePaths.{IsAlone, IsSoundLine}
use Rattle.pgn_game.specs.Private.LineWalks.{lines_around}
use Rattle.pgn_game.specs.Private.MovetextWalks.{IsFaultOfLine}
use Rattle.pgn_game.proofs.FirstPlies.{cut, first_spelled, first_turns}
use Rattle.pgn_game.proofs.OneLine.{played_or_faulty}
use Rattle.pgn_game.proofs.OneReplay.{one_start, start_or_bad}
use Rattle.pgn_game.proofs.RunFacts.{all_stop}
use Rattle.pgn_game.proofs.LinesInRow.{all_joined}

-- ---- a pass names no move

no_castling : (word : List ℕ) (wing : Wing) → length word ≡ 2 → IsCastlingText wing word → ⊥
no_castling word KingSide two (marks, are, inl is) =
    let size = ap length is ∙ length-append (castling_text KingSide) marks in omega arith
no_castling word KingSide two (marks, are, inr is) =
    let size = ap length is ∙ length-append (castling_with_zeros KingSide) marks in omega arith
no_castling word QueenSide two (marks, are, inl is) =
    let size = ap length is ∙ length-append (castling_text QueenSide) marks in omega arith
no_castling word QueenSide two (marks, are, inr is) =
    let size = ap length is ∙ length-append (castling_with_zeros QueenSide) marks in omega arith

no_bytes : (xs : List ℕ) → length xs ≡ 0 → xs ≡ []
no_bytes [] none = refl
no_bytes (x ∷ xs) none = absurd (omega arith)

-- bytes in front of two, where there are two in all
none_in_front : (front rest : List ℕ) → 2 ≤ length rest → length (front ++ rest) ≡ 2
    → (front ++ rest ≡ rest) × (length rest ≡ 2)
none_in_front front rest least two =
    let size = length-append front rest in
    let none : length front ≡ 0 = omega arith in
    (ap (λ xs. xs ++ rest) (no_bytes front none), omega arith)

more_in_front : (front rest : List ℕ) → 2 ≤ length rest → 2 ≤ length (front ++ rest)
more_in_front front rest least = let size = length-append front rest in omega arith

-- a text of two bytes is a square, which begins with the letter of its file
two_bytes : (word : List ℕ) (said : Said) → length word ≡ 2 → Spells word said
    → get_or word 0 0 ≡ file_letter said.target.file
two_bytes word said two spells =
    let rest = promotion_text spells.equals said.promote ++ spells.marks in
    let square = square_text said.target ++ rest in
    let signed = spells.sign ++ square in
    let ranked = rank_text said.rank ++ signed in
    let filed = file_text said.file ++ ranked in
    let square_least : 2 ≤ length square =
    let size = length-append (square_text said.target) rest in omega arith in
    let signed_least = more_in_front spells.sign square square_least in
    let ranked_least = more_in_front (rank_text said.rank) signed signed_least in
    let filed_least = more_in_front (file_text said.file) ranked ranked_least in
    let (letter, filed_two) =
    none_in_front (letter_text said.letter) filed filed_least (sym (ap length spells.text) ∙ two) in
    let (file, ranked_two) = none_in_front (file_text said.file) ranked ranked_least filed_two in
    let (rank, signed_two) = none_in_front (rank_text said.rank) signed signed_least ranked_two in
    let (sign, _) = none_in_front spells.sign square square_least signed_two in
    ap (λ xs. get_or xs 0 0) (spells.text ∙ letter ∙ file ∙ rank ∙ sign)

no_name : (now : State) (word : List ℕ) (m : Move) → length word ≡ 2 → get_or word 0 0 < 96
    → IsNamed now word m → ⊥
no_name now word m two below named = elim named.by [
  | inl (wing, castling, castles) ↦ no_castling word wing two castling
  | inr (said, spells, agrees) ↦ let first = two_bytes word said two spells in omega arith
]

no_pass_named : (now : State) (word : List ℕ) (m : Move) → is_pass word ≡ true
    → IsNamed now word m → ⊥
no_pass_named now word m passes named =
    by (bytes_eq word (codes "--")) refl (bytes_eq word (codes "Z0")) refl
  where
    by : (dashes : Bool) → bytes_eq word (codes "--") ≡ dashes → (zero_move : Bool)
        → bytes_eq word (codes "Z0") ≡ zero_move → ⊥
    by true is other also =
        let same = bytes_eq-same word (codes "--") is in
        no_name now word m (ap length same)
        (subst (λ xs. get_or xs 0 0 < 96) (sym same) (omega arith)) named
    by false is true also =
        let same = bytes_eq-same word (codes "Z0") also in
        no_name now word m (ap length same)
        (subst (λ xs. get_or xs 0 0 < 96) (sym same) (omega arith)) named
    by false is false also = cc

-- what a word says in the main line it says in a variation
as_inside : (inside : Bool) (now : State) (word : List ℕ) (turn : LineMove)
    → IsTurn inside now word turn → IsTurn true now word turn
as_inside true now word turn says = says
as_inside false now word turn says = by turn says (is_pass word) refl
  where
    by : (turn : LineMove) → SaysTurn false now word turn → (passes : Bool)
        → is_pass word ≡ passes → SaysTurn passes now word turn
    by (Played m) says true is = no_pass_named now word m is says.named
    by (Played m) says false is = says
    by Passed says passes is = absurd says

-- ---- a line without its variations

abbrev own_line : Line → Line
own_line LineEnd = LineEnd
own_line (ThenMove word rest) = ThenMove word (own_line rest)
own_line (ThenGlyph number rest) = ThenGlyph number (own_line rest)
own_line (ThenComment text rest) = ThenComment text (own_line rest)
own_line (ThenVariation inner rest) = own_line rest

own_spelled : (line : Line) → own_items line ≡ spelled (own_line line)
own_spelled LineEnd = refl
own_spelled (ThenMove word rest) = ap (λ items. MoveText word ∷ items) (own_spelled rest)
own_spelled (ThenGlyph number rest) = ap (λ items. GlyphNumber number ∷ items) (own_spelled rest)
own_spelled (ThenComment text rest) = ap (λ items. CommentText text ∷ items) (own_spelled rest)
own_spelled (ThenVariation inner rest) = own_spelled rest

own_alone : (line : Line) → IsAlone (own_line line)
own_alone LineEnd = tt
own_alone (ThenMove word rest) = own_alone rest
own_alone (ThenGlyph number rest) = own_alone rest
own_alone (ThenComment text rest) = own_alone rest
own_alone (ThenVariation inner rest) = own_alone rest

own_played : (line : Line) (inside : Bool) (before now : State) (turns : List LineMove)
    → IsPlayed inside before now line turns → (any : State)
    → (own : List LineMove) × IsPlayed inside any now (own_line line) own
own_played LineEnd inside before now turns played any = ([], refl)
own_played (ThenMove word rest) inside before now turns (turn, more, is, says, played) any =
    let (own, later) = own_played rest inside now (after_turn now turn) more played now in
    (turn ∷ own, (turn, own, refl, says, later))
own_played (ThenGlyph number rest) inside before now turns played any =
    own_played rest inside before now turns played any
own_played (ThenComment text rest) inside before now turns played any =
    own_played rest inside before now turns played any
own_played (ThenVariation inner rest) inside before now turns (own, more, is, within, played) any =
    own_played rest inside before now more played any

-- ---- a line after the moves that lead to it

abbrev along : List (List ℕ) → Line → Line
along [] line = line
along (word ∷ words) line = ThenMove word (along words line)

along_spelled : (words : List (List ℕ)) (line : Line)
    → map (λ word. MoveText word) words ++ spelled line ≡ spelled (along words line)
along_spelled [] line = refl
along_spelled (word ∷ words) line = ap (λ items. MoveText word ∷ items) (along_spelled words line)

along_alone : (words : List (List ℕ)) (line : Line) → IsAlone line → IsAlone (along words line)
along_alone [] line alone = alone
along_alone (word ∷ words) line alone = along_alone words line alone

-- the words lead from one position to the other, where passes may be made
abbrev Follows : State → List (List ℕ) → State → Type 0
Follows now [] last = now ≡ last
Follows now (word ∷ words) last =
    (turn : LineMove) × IsTurn true now word turn × Follows (after_turn now turn) words last

follows_more : (words : List (List ℕ)) (now mid : State) (word : List ℕ) (turn : LineMove)
    → Follows now words mid → IsTurn true mid word turn
    → Follows now (words ++ word ∷ []) (after_turn mid turn)
follows_more [] now mid word turn is says =
    (turn, subst (λ s. IsTurn true s word turn) (sym is) says, ap (λ s. after_turn s turn) is)
follows_more (first ∷ words) now mid word turn (own, own_says, follows) says =
    (own, own_says, follows_more words (after_turn now own) mid word turn follows says)

along_played : (words : List (List ℕ)) (line : Line) (now mid : State) → Follows now words mid
    → ((any : State) → (own : List LineMove) × IsPlayed true any mid line own) → (any : State)
    → (own : List LineMove) × IsPlayed true any now (along words line) own
along_played [] line now mid is played any =
    let (own, there) = played any in (own, subst (λ s. IsPlayed true any s line own) (sym is) there)
along_played (word ∷ words) line now mid (turn, says, follows) played any =
    let (own, there) = along_played words line (after_turn now turn) mid follows played now in
    (turn ∷ own, (turn, own, refl, says, there))

-- ---- each line of a game

module _ (fen : Option (List ℕ)) (start : State) (is_start : IsStart fen start) where
  abbrev IsSoundGameOf : LineGame → Type 0
  IsSoundGameOf line = IsSoundLine true fen (line_items line)

  all_sound : (line : Line) (inside : Bool) (before now : State) (turns : List LineMove)
      (words all : List (List ℕ)) → IsPlayed inside before now line turns
      → Follows start words before → Follows start all now
      → AllByRecursion IsSoundGameOf (variations_in words all line)
  all_sound LineEnd inside before now turns words all played leads reaches = tt
  all_sound (ThenMove word rest) inside before now turns words all (turn, more, is, says, played)
      leads reaches =
      all_sound rest inside now (after_turn now turn) more all (all ++ word ∷ []) played reaches
      (follows_more all start now word turn reaches (as_inside inside now word turn says))
  all_sound (ThenGlyph number rest) inside before now turns words all played leads reaches =
      all_sound rest inside before now turns words all played leads reaches
  all_sound (ThenComment text rest) inside before now turns words all played leads reaches =
      all_sound rest inside before now turns words all played leads reaches
  all_sound (ThenVariation inner rest) inside before now turns words all
      (own, more, is, within, played) leads reaches =
      let (moves, there) =
      along_played words (own_line inner) start before leads
      (own_played inner true before before own within) start in (
        (
          start,
          is_start,
          along words (own_line inner),
          along_alone words (own_line inner) (own_alone inner),
          ap (λ items. map (λ word. MoveText word) words ++ items) (own_spelled inner)
              ∙ along_spelled words (own_line inner),
          moves,
          there,
        ),
        all_joined IsSoundGameOf (variations_in words words inner) (variations_in words all rest)
            (all_sound inner true before before own words words within leads leads)
            (all_sound rest inside before now more words all played leads reaches),
      )

-- the main line, and the variations
pub record SoundLines (fen : Option (List ℕ)) (items : List Item) : Type 0 where
  pub line : Line
  pub spells : items ≡ spelled line
  pub main : IsSoundLine false fen (own_items line)
  pub variations : AllByRecursion (λ line. IsSoundLine true fen (line_items line))
      (variations_in [] [] line)

pub sound_lines : (fen : Option (List ℕ)) (items : List Item) → IsSoundGame All fen items
    → SoundLines fen items
sound_lines fen items (replay, is) =
    let (line, spells, played) = is.turns in
    let (own, main) = own_played line false is.start is.start replay.turns played is.start in
    record {
      line = line;
      spells = spells;
      main = (
        is.start,
        is.is_start,
        own_line line,
        own_alone line,
        own_spelled line,
        own,
        main,
      );
      variations = all_sound fen is.start is.is_start line false is.start is.start replay.turns []
          [] played refl refl;
    }

-- ---- no fault of a line that is sound

shown_alone : (variations : Bool) (line : Line) → IsAlone line
    → shown_items variations 0 (spelled line) ≡ spelled line
shown_alone true line alone = refl
shown_alone false LineEnd alone = refl
shown_alone false (ThenMove word rest) alone =
    ap (λ items. MoveText word ∷ items) (shown_alone false rest alone)
shown_alone false (ThenGlyph number rest) alone =
    ap (λ items. GlyphNumber number ∷ items) (shown_alone false rest alone)
shown_alone false (ThenComment text rest) alone =
    ap (λ items. CommentText text ∷ items) (shown_alone false rest alone)
shown_alone false (ThenVariation inner rest) alone = absurd alone

pub inside_there : (inside : Bool) (start : State) → is_inside (lines_around inside start) ≡ inside
inside_there true start = refl
inside_there false start = refl

no_stop : (inside variations : Bool) (fen : Option (List ℕ)) (items : List Item) (fault : Fault)
    → IsSoundLine inside fen items → IsFaultOfLine inside variations fen items fault → ⊥
no_stop inside variations fen items fault (start, is_start, line, alone, spells, turns, played)
    (inl (bad, is)) = start_or_bad fen start is_start bad
no_stop inside variations fen items fault (start, is_start, line, alone, spells, turns, played)
    (inr (other, also, stops)) =
    let here = one_start fen other start also is_start in
    let outer = lines_around inside start in
    let same : shown_items variations 0 items ≡ spelled line =
    ap (shown_items variations 0) spells ∙ shown_alone variations line alone in
    let there : Stops (spelled line) (first_level start) outer fault =
    subst (λ xs. Stops xs (first_level start) outer fault) same
    (subst (λ s. Stops (shown_items variations 0 items) (first_level s) (lines_around inside s)
    fault) here stops) in
    played_or_faulty line (is_inside outer) start start 0 turns fault
    (subst (λ b. IsPlayed b start start line turns) (sym (inside_there inside start)) played)
    (all_stop line (first_level start) outer fault there)

pub none_of_line : (inside variations : Bool) (fen : Option (List ℕ)) (items : List Item)
    (fault : Option Fault) → IsSoundLine inside fen items
    → IfSome fault (IsFaultOfLine inside variations fen items) → fault ≡ None
none_of_line inside variations fen items None sound met = refl
none_of_line inside variations fen items (Some fault) sound met =
    absurd (no_stop inside variations fen items fault sound met)

-- ---- a sound line

pub line_paired : (line : Line) → IsAlone line → IsPaired 0 (spelled line)
line_paired LineEnd alone = refl
line_paired (ThenMove word rest) alone = line_paired rest alone
line_paired (ThenGlyph number rest) alone = line_paired rest alone
line_paired (ThenComment text rest) alone = line_paired rest alone
line_paired (ThenVariation inner rest) alone = absurd alone

pub sound_paired : (inside : Bool) (fen : Option (List ℕ)) (items : List Item)
    → IsSoundLine inside fen items → IsPaired 0 items
sound_paired inside fen items (start, is_start, line, alone, spells, turns, played) =
    subst (IsPaired 0) (sym spells) (line_paired line alone)

cut_alone : (line : Line) (plies : ℕ) → IsAlone line → IsAlone (cut plies line)
cut_alone LineEnd plies alone = tt
cut_alone (ThenMove word rest) zero alone = tt
cut_alone (ThenMove word rest) (suc plies) alone = cut_alone rest plies alone
cut_alone (ThenGlyph number rest) plies alone = cut_alone rest plies alone
cut_alone (ThenComment text rest) plies alone = cut_alone rest plies alone
cut_alone (ThenVariation inner rest) plies alone = absurd alone

-- up to its last ply it is sound
pub sound_cut : (inside : Bool) (fen : Option (List ℕ)) (last : Option ℕ) (items : List Item)
    → IsSoundLine inside fen items → IsSoundLine inside fen (plies_up_to last items)
sound_cut inside fen None items sound = sound
sound_cut inside fen (Some plies) items
    (start, is_start, line, alone, spells, turns, played) =
    let (own, there) = first_turns line plies inside start start turns played in (
      start,
      is_start,
      cut plies line,
      cut_alone line plies alone,
      ap (first_plies plies 0) spells ∙ first_spelled line plies,
      own,
      there,
    )
