-- What is written of a line, by the line that its elements spell.
use Rattle.std.proofs.Math.Bool.{or_comm}
use Rattle.std.specs.Prelude.{◌==◌, ◌||◌, if◌then◌else◌, Option, Some, None, IfSome, codes, decimal}
use Rattle.pgn_game.proofs.Common.{◌≡◌, ℕ, ◌+◌, ◌-◌, ◌<◌, Bool, true, false, List, [], ◌∷◌, ◌++◌}
use Rattle.pgn_game.proofs.Common.{refl, sym, ap, ◌∙◌, subst, append_assoc, append-nil, inl, inr}
use Rattle.pgn_game.proofs.Common.{arith, nat_tests, same_Some, slice_get, State, after}
use Rattle.pgn_game.proofs.Common.{IsOnlyNamed, Move, IsPaired, Item, MoveText, GlyphNumber}
use Rattle.pgn_game.proofs.Common.{CommentText, VariationOpen, VariationClose, Line, LineEnd}
use Rattle.pgn_game.proofs.Common.{ThenMove, ThenGlyph, ThenComment, ThenVariation, spelled}
use Rattle.pgn_game.proofs.Common.{own_words, SaysTurn, after_turn, IsPlayed, shows}
use Rattle.pgn_game.proofs.Common.{shown_tokens}
use Rattle.pgn_game.proofs.Common.{number_tokens, kept, lines_with, AreMovetextTokens, AreTokens}
use Rattle.pgn_game.proofs.Common.{Fault, HasLineFault, IsMoveFault, Stops, begun, first_level}
use Rattle.pgn_game.proofs.Common.{gone_on, is_inside, main_words, IsMainLine, HasPut, Step, Visits}
use Rattle.pgn_game.proofs.Common.{Walks, shown_items, Replay, AreTurns, IsReplay}
use Rattle.pgn_game.proofs.Common.{IsSoundGame, fault_of, IsStart, Level, GameFault}
use Rattle.pgn_game.proofs.Common.{MovetextWriter, All, Style, LineMove, Played, Passed}
use Rattle.pgn_game.specs.Public.Exports.{IsReplayFor}
use Rattle.pgn_game.specs.Private.MovetextWalks.{WritesStep}
use Rattle.pgn_game.specs.Private.Steps.{outside, shown_if}
use Rattle.pgn_game.proofs.OneLine.{main_words_of}
use Rattle.pgn_game.proofs.OneReplay.{line_head, no_fault}
use Rattle.pgn_game.proofs.exports.LineWrapperFacts.{put_both}
use Rattle.pgn_game.proofs.RunFacts.{stops_faulty}
use Rattle.pgn_game.proofs.Spelling.{one_spelt}

-- ---- the fault of the main line

main_stops : (items : List Item) (depth : ℕ) (level : Level) (fault : Fault)
    → Stops (outside items depth) level [] fault
    → IsMoveFault level.now level.plies (main_words items depth) fault
main_stops [] depth level fault stops = stops
main_stops (MoveText word ∷ items) depth level fault stops =
    by (depth == 0) stops (λ next later. main_stops items depth next fault later)
  where
    turned : (turn : LineMove) → SaysTurn false level.now word turn
        → IsMoveFault (after_turn level.now turn) (level.plies + 1) (main_words items depth) fault
        → (m : Move) × IsOnlyNamed level.now word m
        × IsMoveFault (after level.now m) (level.plies + 1) (main_words items depth) fault
    turned (Played m) says met = (m, says, met)
    turned Passed says met = absurd says

    by : (main : Bool) → Stops (shown_if main (MoveText word) (outside items depth)) level [] fault
        → ((next : Level) → Stops (outside items depth) next [] fault
        → IsMoveFault next.now next.plies (main_words items depth) fault)
        → IsMoveFault level.now level.plies (if main then word ∷ main_words items depth
        else main_words items depth) fault
    by true (inl refused) on = inl refused
    by true (inr (turn, says, later)) on = inr (turned turn says (on (gone_on level turn) later))
    by false later on = on level later
main_stops (GlyphNumber number ∷ items) depth level fault stops =
    by (depth == 0) stops (λ later. main_stops items depth level fault later)
  where
    by : (main : Bool)
        → Stops (shown_if main (GlyphNumber number) (outside items depth)) level [] fault
        → (Stops (outside items depth) level [] fault
        → IsMoveFault level.now level.plies (main_words items depth) fault)
        → IsMoveFault level.now level.plies (main_words items depth) fault
    by true later on = on later
    by false later on = on later
main_stops (CommentText text ∷ items) depth level fault stops =
    by (depth == 0) stops (λ later. main_stops items depth level fault later)
  where
    by : (main : Bool)
        → Stops (shown_if main (CommentText text) (outside items depth)) level [] fault
        → (Stops (outside items depth) level [] fault
        → IsMoveFault level.now level.plies (main_words items depth) fault)
        → IsMoveFault level.now level.plies (main_words items depth) fault
    by true later on = on later
    by false later on = on later
main_stops (VariationOpen ∷ items) depth level fault stops =
    main_stops items (depth + 1) level fault stops
main_stops (VariationClose ∷ items) depth level fault stops =
    main_stops items (depth - 1) level fault stops

-- the fault of the lines that are written
pub written_fault : (variations : Bool) (start : State) (items : List Item) (fault : Fault)
    → IsPaired 0 items → Stops (shown_items variations 0 items) (first_level start) [] fault
    → HasLineFault (lines_with variations) start items fault
written_fault true start items fault paired stops = stops_faulty start items fault paired stops
written_fault false start items fault paired stops =
    main_stops items 0 (first_level start) fault stops

-- ---- a replay begins where its game starts

pub starts_there : (style : Style) (fen : Option (List ℕ)) (items : List Item) (replay : Replay)
    (now : State) (is : IsReplayFor style fen items replay)
    → slice_get replay.positions 0 ≡ Some now → is.2.start ≡ now
starts_there style fen items replay now (lines, all, is) here =
    same_Some is.start now
    (sym (line_head is.start (main_words items 0) replay.positions replay.played is.line) ∙ here)

-- ---- the tokens of all lines

-- a line has tokens that are written, and what stands after it is gone over from there on
record WrittenThen (style : Style) (apart : Bool) (at : Level) (outer : List Level) (line : Line)
    (rest : List Item) (old new : MovetextWriter) : Type 0 where
  own : List (List ℕ)
  mid : MovetextWriter
  more : List Step
  last : Level
  put : HasPut old.wrapper mid.wrapper old.out.items mid.out.items own
  tokens : AreTokens style (is_inside outer) at.before at.now apart line own
  walks : Walks rest last outer more
  visits : Visits WritesStep mid more new
  same : mid.style ≡ style

module _ (style : Style) where
  line_written : (line : Line) (rest : List Item) (apart : Bool) (at : Level) (outer : List Level)
      (steps : List Step) (old new : MovetextWriter) → style.variations ≡ true
      → old.style ≡ style → old.apart ≡ apart → Walks (spelled line ++ rest) at outer steps
      → Visits WritesStep old steps new → WrittenThen style apart at outer line rest old new
  line_written LineEnd rest apart at outer steps old new shown same stands walks visits = record {
    own = [];
    mid = old;
    more = steps;
    last = at;
    put = λ more. refl;
    tokens = refl;
    walks = walks;
    visits = visits;
    same = same;
  }
  line_written (ThenMove word line) rest apart at outer steps old new shown same stands (
    turn,
    more,
    is,
    says,
    walks,
  ) visits =
      let first = subst (λ ss. Visits WritesStep old ss new) is visits in
      let text = first.1.0 in
      let puts = first.1.2 in
      let there =
      line_written line rest false (gone_on at turn) outer more first.0 new shown (puts.same
      ∙ same) puts.stands walks first.2 in
      let number = number_tokens at.now.turn at.now.fullmove_number apart in
      let put : HasPut old.wrapper first.0.wrapper old.out.items first.0.out.items (number
      ++ text ∷ []) =
      rw (← stands) puts.put in
      record {
        own = number ++ text ∷ there.own;
        mid = there.mid;
        more = there.more;
        last = there.last;
        put = subst (HasPut old.wrapper there.mid.wrapper old.out.items there.mid.out.items)
            (append_assoc number (text ∷ []) there.own)
            (put_both old.wrapper first.0.wrapper there.mid.wrapper old.out.items first.0.out.items
            there.mid.out.items (number ++ text ∷ []) there.own put there.put);
        tokens = (turn, text, there.own, says, first.1.1, refl, there.tokens);
        walks = there.walks;
        visits = there.visits;
        same = there.same;
      }
  line_written (ThenGlyph number line) rest apart at outer steps old new shown same stands (
    more,
    is,
    walks,
  ) visits =
      let first = subst (λ ss. Visits WritesStep old ss new) is visits in
      let puts = first.1 in
      let there =
      line_written line rest apart at outer more first.0 new shown (puts.same
      ∙ same) (puts.stands ∙ stands) walks first.2 in
      let glyph = kept style.glyphs ((36 ∷ decimal number) ∷ []) in
      let put : HasPut old.wrapper first.0.wrapper old.out.items first.0.out.items glyph =
      rw (← same) puts.put in
      record {
        own = glyph ++ there.own;
        mid = there.mid;
        more = there.more;
        last = there.last;
        put = put_both old.wrapper first.0.wrapper there.mid.wrapper old.out.items first.0.out.items
            there.mid.out.items glyph there.own put there.put;
        tokens = (there.own, refl, there.tokens);
        walks = there.walks;
        visits = there.visits;
        same = there.same;
      }
  line_written (ThenComment text line) rest apart at outer steps old new shown same stands (
    more,
    is,
    walks,
  ) visits =
      let first = subst (λ ss. Visits WritesStep old ss new) is visits in
      let puts = first.1 in
      let there =
      line_written line rest (apart
      || shows style text) at outer more first.0 new shown (puts.same ∙ same)
      (puts.stands ∙ ap (λ a. a || shows old.style text) stands
      ∙ ap (λ (s : Style). apart || shows s text) same) walks first.2 in
      let remark = kept (shows style text) (shown_tokens style.commands text) in
      let put : HasPut old.wrapper first.0.wrapper old.out.items first.0.out.items remark =
      rw (← same) puts.put in
      record {
        own = remark ++ there.own;
        mid = there.mid;
        more = there.more;
        last = there.last;
        put = put_both old.wrapper first.0.wrapper there.mid.wrapper old.out.items first.0.out.items
            there.mid.out.items remark there.own put there.put;
        tokens = (there.own, refl, there.tokens);
        walks = there.walks;
        visits = there.visits;
        same = there.same;
      }
  line_written (ThenVariation inner line) rest apart at outer steps old new shown same stands (
    more,
    is,
    walks,
  ) visits =
      let first = subst (λ ss. Visits WritesStep old ss new) is visits in
      let opens = first.1 in
      let inside =
      line_written inner (VariationClose ∷ (spelled line ++ rest)) true (begun at) (at
      ∷ outer) more first.0 new shown (opens.same ∙ same) opens.stands
      (rw (← (append_assoc (spelled inner) (VariationClose ∷ spelled line) rest)) walks) first.2 in
      let second = subst (λ ss. Visits WritesStep inside.mid ss new) inside.walks.1 inside.visits in
      let closes = second.1 in
      let there =
      line_written line rest true at outer inside.walks.0 second.0 new shown (closes.same
      ∙ inside.same) closes.stands inside.walks.2 second.2 in
      let put =
      put_both old.wrapper second.0.wrapper there.mid.wrapper old.out.items second.0.out.items
      there.mid.out.items ((codes "(" ∷ inside.own) ++ codes ")" ∷ []) there.own
      (put_both old.wrapper inside.mid.wrapper second.0.wrapper old.out.items inside.mid.out.items
      second.0.out.items (codes "(" ∷ inside.own) (codes ")" ∷ [])
      (put_both old.wrapper first.0.wrapper inside.mid.wrapper old.out.items first.0.out.items
      inside.mid.out.items (codes "(" ∷ []) inside.own opens.put inside.put) closes.put)
      there.put in
      record {
        own = (codes "(" ∷ inside.own ++ codes ")" ∷ []) ++ there.own;
        mid = there.mid;
        more = there.more;
        last = there.last;
        put = put;
        tokens = (
          inside.own,
          there.own,
          ap (λ b. kept b (codes "(" ∷ inside.own ++ codes ")" ∷ []) ++ there.own) (sym shown),
          (λ _. inside.tokens),
          subst (λ a. AreTokens style (is_inside outer) at.before at.now a line there.own)
              (or_comm true apart ∙ ap (λ b. apart || b) (sym shown)) there.tokens,
        );
        walks = there.walks;
        visits = there.visits;
        same = there.same;
      }

-- ---- the tokens of the main line

skipped : (line : Line) (more : List Item) (depth : ℕ) → 0 < depth
    → outside (spelled line ++ more) depth ≡ outside more depth
skipped LineEnd more depth inside = refl
skipped (ThenMove word line) more depth inside =
    let deep : (depth == 0) ≡ false = grind (arith, nat_tests) in
    ap (λ b. shown_if b (MoveText word) (outside (spelled line ++ more) depth)) deep
    ∙ skipped line more depth inside
skipped (ThenGlyph number line) more depth inside =
    let deep : (depth == 0) ≡ false = grind (arith, nat_tests) in
    ap (λ b. shown_if b (GlyphNumber number) (outside (spelled line ++ more) depth)) deep
    ∙ skipped line more depth inside
skipped (ThenComment text line) more depth inside =
    let deep : (depth == 0) ≡ false = grind (arith, nat_tests) in
    ap (λ b. shown_if b (CommentText text) (outside (spelled line ++ more) depth)) deep
    ∙ skipped line more depth inside
skipped (ThenVariation inner line) more depth inside =
    let back : depth + 1 - 1 ≡ depth = omega arith in
    ap (λ items. outside items (depth + 1))
    (append_assoc (spelled inner) (VariationClose ∷ spelled line) more)
    ∙ skipped inner (VariationClose ∷ (spelled line ++ more)) (depth + 1) (omega arith)
    ∙ ap (outside (spelled line ++ more)) back ∙ skipped line more depth inside

-- the line has tokens, and they are written
record WrittenMain (style : Style) (apart : Bool) (at : Level) (outer : List Level) (line : Line)
    (old new : MovetextWriter) : Type 0 where
  own : List (List ℕ)
  put : HasPut old.wrapper new.wrapper old.out.items new.out.items own
  tokens : AreTokens style (is_inside outer) at.before at.now apart line own

module _ (style : Style) where
  main_written : (line : Line) (apart : Bool) (at : Level) (outer : List Level)
      (steps : List Step) (old new : MovetextWriter) → style.variations ≡ false
      → old.style ≡ style → old.apart ≡ apart
      → Walks (outside (spelled line) 0) at outer steps → Visits WritesStep old steps new
      → WrittenMain style apart at outer line old new
  main_written LineEnd apart at outer steps old new hidden same stands none visits =
      let last : new ≡ old = subst (λ ss. Visits WritesStep old ss new) none visits in
      record {
        own = [];
        put = rw last (λ more. refl);
        tokens = refl;
      }
  main_written (ThenMove word line) apart at outer steps old new hidden same stands (
    turn,
    more,
    is,
    says,
    walks,
  ) visits =
      let first = subst (λ ss. Visits WritesStep old ss new) is visits in
      let text = first.1.0 in
      let puts = first.1.2 in
      let there =
      main_written line false (gone_on at turn) outer more first.0 new hidden (puts.same
      ∙ same) puts.stands walks first.2 in
      let number = number_tokens at.now.turn at.now.fullmove_number apart in
      let put : HasPut old.wrapper first.0.wrapper old.out.items first.0.out.items (number
      ++ text ∷ []) =
      rw (← stands) puts.put in
      record {
        own = number ++ text ∷ there.own;
        put = subst (HasPut old.wrapper new.wrapper old.out.items new.out.items)
            (append_assoc number (text ∷ []) there.own)
            (put_both old.wrapper first.0.wrapper new.wrapper old.out.items
            first.0.out.items new.out.items
            (number ++ text ∷ []) there.own put there.put);
        tokens = (turn, text, there.own, says, first.1.1, refl, there.tokens);
      }
  main_written (ThenGlyph number line) apart at outer steps old new hidden same stands (
    more,
    is,
    walks,
  ) visits =
      let first = subst (λ ss. Visits WritesStep old ss new) is visits in
      let puts = first.1 in
      let there =
      main_written line apart at outer more first.0 new hidden (puts.same ∙ same) (puts.stands
      ∙ stands) walks first.2 in
      let glyph = kept style.glyphs ((36 ∷ decimal number) ∷ []) in
      let put : HasPut old.wrapper first.0.wrapper old.out.items first.0.out.items glyph =
      rw (← same) puts.put in
      record {
        own = glyph ++ there.own;
        put = put_both old.wrapper first.0.wrapper new.wrapper old.out.items
            first.0.out.items new.out.items
            glyph there.own put there.put;
        tokens = (there.own, refl, there.tokens);
      }
  main_written (ThenComment text line) apart at outer steps old new hidden same stands (
    more,
    is,
    walks,
  ) visits =
      let first = subst (λ ss. Visits WritesStep old ss new) is visits in
      let puts = first.1 in
      let there =
      main_written line (apart || shows style text) at outer more first.0 new hidden
      (puts.same ∙ same) (puts.stands ∙ ap (λ a. a || shows old.style text) stands
      ∙ ap (λ (s : Style). apart || shows s text) same) walks first.2 in
      let remark = kept (shows style text) (shown_tokens style.commands text) in
      let put : HasPut old.wrapper first.0.wrapper old.out.items first.0.out.items remark =
      rw (← same) puts.put in
      record {
        own = remark ++ there.own;
        put = put_both old.wrapper first.0.wrapper new.wrapper old.out.items
            first.0.out.items new.out.items
            remark there.own put there.put;
        tokens = (there.own, refl, there.tokens);
      }
  main_written (ThenVariation inner line) apart at outer steps old new hidden same stands walks
      visits =
      let there = main_written line apart at outer steps old new hidden same stands
      (rw (← (skipped inner (VariationClose ∷ spelled line) 1 (omega arith))) walks) visits in
      record {
        own = there.own;
        put = there.put;
        tokens = (
          [],
          there.own,
          ap (λ b. kept b (codes "(" ∷ codes ")" ∷ []) ++ there.own) (sym hidden),
          (λ shown. let never : true ≡ false = sym shown ∙ hidden in absurd (cc)),
          subst (λ a. AreTokens style (is_inside outer) at.before at.now a line there.own)
              (or_comm false apart ∙ ap (λ b. apart || b) (sym hidden)) there.tokens,
        );
      }

-- ---- the tokens of a game

-- the elements have tokens, and they are written
pub record WrittenTokens (style : Style) (start : State) (items : List Item) (outer : List Level)
    (old new : MovetextWriter) : Type 0 where
  pub line : Line
  pub own : List (List ℕ)
  pub spells : items ≡ spelled line
  pub tokens : AreTokens style (is_inside outer) start start true line own
  pub put : HasPut old.wrapper new.wrapper old.out.items new.out.items own

pub written_tokens : (start : State) (items : List Item) (outer : List Level) (steps : List Step)
    (old new : MovetextWriter) → IsPaired 0 items → old.apart ≡ true
    → Walks (shown_items old.style.variations 0 items) (first_level start) outer steps
    → Visits WritesStep old steps new → WrittenTokens old.style start items outer old new
written_tokens start items outer steps old new paired stands on visits =
    let spelt = one_spelt items paired in
    let walks = rw spelt.1 at on in
    by old.style.variations refl spelt.0 spelt.1 walks
  where
    by : (variations : Bool) → old.style.variations ≡ variations → (line : Line)
        → items ≡ spelled line
        → Walks (shown_items variations 0 (spelled line)) (first_level start) outer steps
        → WrittenTokens old.style start items outer old new
    by true shown line spells walks =
        let there =
        line_written old.style line [] true (first_level start) outer steps old new shown refl
        stands
        (rw (← (append-nil (spelled line))) at walks) visits in
        let last : new ≡ there.mid =
        subst (λ ss. Visits WritesStep there.mid ss new) there.walks there.visits in
        record {
          line = line;
          own = there.own;
          spells = spells;
          tokens = there.tokens;
          put = rw (← last) at there.put;
        }
    by false hidden line spells walks =
        let there =
        main_written old.style line true (first_level start) outer steps old new hidden refl
        stands walks visits in
        record {
          line = line;
          own = there.own;
          spells = spells;
          tokens = there.tokens;
          put = there.put;
        }

-- ---- what is written is played

-- the moves of a line that has tokens
drawn_line : (line : Line) (style : Style) (before now : State) (apart : Bool)
    (tokens : List (List ℕ)) → AreTokens style false before now apart line tokens
    → (positions : List State) × (played : List Move)
    × IsMainLine now (own_words line) positions played
drawn_line LineEnd style before now apart tokens none = (now ∷ [], [], (refl, refl))
drawn_line (ThenMove word line) style before now apart tokens (
  turn,
  text,
  more,
  says,
  spells,
  is,
  rest,
) = by turn says (drawn_line line style now (after_turn now turn) false more rest)
  where
    by : (turn : LineMove) → SaysTurn false now word turn
        → ((positions : List State) × (played : List Move)
        × IsMainLine (after_turn now turn) (own_words line) positions played)
        → (positions : List State) × (played : List Move)
        × IsMainLine now (word ∷ own_words line) positions played
    by (Played m) says (later, moves, there) =
        (now ∷ later, m ∷ moves, (m, later, moves, refl, refl, says, there))
    by Passed says there = absurd says
drawn_line (ThenGlyph number line) style before now apart tokens (more, is, rest) =
    drawn_line line style before now apart more rest
drawn_line (ThenComment text line) style before now apart tokens (more, is, rest) =
    drawn_line line style before now (apart || shows style text) more rest
drawn_line (ThenVariation inner line) style before now apart tokens (own, more, is, inside, rest) =
    drawn_line line style before now (apart || style.variations) more rest

-- and the turns of all its lines, where variations are written
drawn_turns : (line : Line) (style : Style) → style.variations ≡ true
    → (inside : Bool) (before now : State) (apart : Bool) (tokens : List (List ℕ))
    → AreTokens style inside before now apart line tokens
    → (turns : List LineMove) × IsPlayed inside before now line turns
drawn_turns LineEnd style shown inside before now apart tokens none = ([], refl)
drawn_turns (ThenMove word line) style shown inside before now apart tokens (
  turn,
  text,
  more,
  says,
  spells,
  is,
  rest,
) =
    let there = drawn_turns line style shown inside now (after_turn now turn) false more rest in
    (turn ∷ there.0, (turn, there.0, refl, says, there.1))
drawn_turns (ThenGlyph number line) style shown inside before now apart tokens (more, is, rest) =
    drawn_turns line style shown inside before now apart more rest
drawn_turns (ThenComment text line) style shown inside before now apart tokens (more, is, rest) =
    drawn_turns line style shown inside before now (apart || shows style text) more rest
drawn_turns (ThenVariation inner line) style shown inside before now apart tokens (
  own,
  more,
  is,
  within,
  rest,
) =
    let first = drawn_turns inner style shown true before before true own (within shown) in
    let second =
    drawn_turns line style shown inside before now (apart || style.variations) more rest in
    (first.0 ++ second.0, (first.0, second.0, refl, first.1, second.1))

-- a game that has an export is sound in the lines that are written
pub written_sound : (style : Style) (fen : Option (List ℕ)) (start : State) (items : List Item)
    (result : List ℕ) (tokens : List (List ℕ)) → IsStart fen start
    → AreMovetextTokens style start items result tokens
    → IsSoundGame (lines_with style.variations) fen items
written_sound style fen start items result tokens is_start (line, own, spells, drawn, all) =
    let main = drawn_line line style start start true own drawn in
    let words : own_words line ≡ main_words items 0 =
    sym (ap (λ xs. main_words xs 0) spells ∙ main_words_of line) in
    let turns = by style.variations refl in (
      record { positions = main.0; played = main.1; turns = turns.0 },
      record {
        start = start;
        is_start = is_start;
        line = subst (λ ws. IsMainLine start ws main.0 main.1) words main.2;
        turns = turns.1;
      },
    )
  where
    by : (variations : Bool) → style.variations ≡ variations
        → (turns : List LineMove) × AreTurns (lines_with variations) start items turns
    by true shown = let there = drawn_turns line style shown false start start true own drawn in
        (there.0, (line, spells, there.1))
    by false hidden = ([], refl)

-- a game that is replayed has no fault of the lines that are written
pub none_of_sound : (style : Style) (fen : Option (List ℕ)) (items : List Item) (replay : Replay)
    (start : State) (answer : GameFault) → IsReplayFor style fen items replay → IsStart fen start
    → IfSome (fault_of answer) (HasLineFault (lines_with style.variations) start items)
    → fault_of answer ≡ None
none_of_sound style fen items replay start answer (lines, every, is) is_start reports =
    none (fault_of answer) reports
  where
    sound : (variations : Bool) → (variations ≡ true → lines ≡ All)
        → (other : Replay) × IsReplay (lines_with variations) fen items other
    sound true all = (replay, subst (λ which. IsReplay which fen items replay) (all refl) is)
    sound false all = (
      record { positions = replay.positions; played = replay.played; turns = [] },
      record { start = is.start; is_start = is.is_start; line = is.line; turns = refl },
    )

    none : (fault : Option Fault)
        → IfSome fault (HasLineFault (lines_with style.variations) start items) → fault ≡ None
    none None reports = refl
    none (Some fault) reports =
        let there = sound style.variations every in
        absurd (no_fault (lines_with style.variations) fen items fault there
        (inr (start, is_start, reports)))
