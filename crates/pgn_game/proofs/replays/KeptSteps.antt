-- What is kept of the steps of a walk: the main line, and all turns.
use Rattle.pgn_game.proofs.Common.{◌≡◌, ℕ, Bool, false, List, [], ◌∷◌, ◌++◌, length, refl, sym, ap}
use Rattle.pgn_game.proofs.Common.{◌∙◌, subst, append_assoc, append-nil, arith, nat_tests, ◌==◌}
use Rattle.pgn_game.proofs.Common.{if◌then◌else◌, State, Move, Item, MoveText, GlyphNumber}
use Rattle.pgn_game.proofs.Common.{CommentText, VariationOpen, VariationClose, IsTurn, after_turn}
use Rattle.pgn_game.proofs.Common.{main_words, IsMainLine, Step, Turned, Visits, Walks, WalksOn}
use Rattle.pgn_game.proofs.Common.{around, LineMove, Played, Passed, LineStack, Level}
use Rattle.pgn_game.specs.Private.LineWalks.{is_inside, gone_on, begun, first_level, main_now, Runs}
use Rattle.pgn_game.specs.Private.Steps.{KeepsStep}
use Rattle.pgn_game.specs.declared.replays.all_lines.ReplayKeeper.{ReplayKeeper}
use Rattle.pgn_game.proofs.StepFacts.{turns_of, walks_run}

-- what was kept from here on is the rest of the main line, and the turns of the steps
pub record KeptRest (items : List Item) (line : Level) (outer : List Level) (steps : List Step)
    (old new : ReplayKeeper) : Type 0 where
  pub later : List State
  pub more : List Move
  pub positions : new.positions.items ≡ old.positions.items ++ later
  pub played : new.played.items ≡ old.played.items ++ more
  pub turns : new.turns.items ≡ old.turns.items ++ turns_of steps
  pub is_line : IsMainLine (main_now line outer) (main_words items (length outer))
      (main_now line outer ∷ later) more

-- an element that is no turn keeps nothing
passed : (rest items : List Item) (l line : Level) (o outer : List Level) (more steps : List Step)
    (old mid new : ReplayKeeper) → mid ≡ old → turns_of more ≡ turns_of steps
    → main_now l o ≡ main_now line outer → main_words rest (length o)
    ≡ main_words items (length outer) → KeptRest rest l o more mid new
    → KeptRest items line outer steps old new
passed rest items l line o outer more steps old mid new same turns now words kept = record {
  later = kept.later;
  more = kept.more;
  positions = kept.positions ∙ ap (λ (k : ReplayKeeper). k.positions.items ++ kept.later) same;
  played = kept.played ∙ ap (λ (k : ReplayKeeper). k.played.items ++ kept.more) same;
  turns = kept.turns ∙ ap (λ (k : ReplayKeeper). k.turns.items ++ turns_of more) same
      ∙ ap (λ ts. old.turns.items ++ ts) turns;
  is_line = rw (← now) (rw (← words) kept.is_line);
}

-- a turn, by the lines around it
turned : (outer : List Level) (line : Level) (word : List ℕ) (turn : LineMove) (items : List Item)
    (more : List Step) (old mid new : ReplayKeeper) → IsTurn (is_inside outer) line.now word turn
    → KeepsStep old (Turned (is_inside outer) line.now turn) mid
    → KeptRest items (gone_on line turn) outer more mid new
    → KeptRest (MoveText word ∷ items) line outer (Turned (is_inside outer) line.now turn
    ∷ more) old new
turned [] line word (Played m) items more old mid new says keeps kept = record {
  later = after_turn line.now (Played m) ∷ kept.later;
  more = m ∷ kept.more;
  positions = kept.positions ∙ ap (λ ps. ps ++ kept.later) keeps.1.0
      ∙ append_assoc old.positions.items (after_turn line.now (Played m) ∷ []) kept.later;
  played = kept.played ∙ ap (λ ms. ms ++ kept.more) keeps.1.1
      ∙ append_assoc old.played.items (m ∷ []) kept.more;
  turns = kept.turns ∙ ap (λ ts. ts ++ turns_of more) keeps.0
      ∙ append_assoc old.turns.items (Played m ∷ []) (turns_of more);
  is_line =
      (m, after_turn line.now (Played m) ∷ kept.later, kept.more, refl, refl, says, kept.is_line);
}
turned [] line word Passed items more old mid new says keeps kept = absurd keeps.1
turned (out ∷ outer) line word turn items more old mid new says keeps kept =
    let e : (length (out ∷ outer) == 0) ≡ false = grind (arith, nat_tests) in
    let words : main_words (MoveText word ∷ items) (length (out ∷ outer))
    ≡ main_words items (length (out ∷ outer)) =
    ap (λ (b : Bool). if b then word ∷ main_words items (length (out ∷ outer))
    else main_words items (length (out ∷ outer))) e in
    record {
      later = kept.later;
      more = kept.more;
      positions = kept.positions ∙ ap (λ ps. ps ++ kept.later) keeps.1.0;
      played = kept.played ∙ ap (λ ms. ms ++ kept.more) keeps.1.1;
      turns = kept.turns ∙ ap (λ ts. ts ++ turns_of more) keeps.0
          ∙ append_assoc old.turns.items (turn ∷ []) (turns_of more);
      is_line = rw words kept.is_line;
    }

pub kept_rest : (items : List Item) (line : Level) (outer : List Level) (steps : List Step)
    (old new : ReplayKeeper) → Walks items line outer steps
    → Visits KeepsStep old steps new → KeptRest items line outer steps old new
kept_rest [] line outer steps old new none visits =
    let same : new ≡ old = subst (λ ss. Visits KeepsStep old ss new) none visits in
    record {
      later = [];
      more = [];
      positions = ap (λ (k : ReplayKeeper). k.positions.items) same
          ∙ sym (append-nil old.positions.items);
      played = ap (λ (k : ReplayKeeper). k.played.items) same ∙ sym (append-nil old.played.items);
      turns = ap (λ (k : ReplayKeeper). k.turns.items) same ∙ sym (append-nil old.turns.items)
          ∙ ap (λ ss. old.turns.items ++ turns_of ss) (sym none);
      is_line = (refl, refl);
    }
kept_rest (MoveText word ∷ items) line outer steps old new (turn, more, is, says, walks) visits =
    let first = subst (λ ss. Visits KeepsStep old ss new) is visits in
    rw is (turned outer line word turn items more old first.0 new says first.1 (kept_rest items
    (gone_on line turn) outer more first.0 new walks first.2))
kept_rest (GlyphNumber number ∷ items) line outer steps old new (more, is, walks) visits =
    let first = subst (λ ss. Visits KeepsStep old ss new) is visits in
    passed items (GlyphNumber number
    ∷ items) line line outer outer more steps old first.0 new first.1 (ap turns_of (sym is))
    refl refl (kept_rest items line outer more first.0 new walks first.2)
kept_rest (CommentText text ∷ items) line outer steps old new (more, is, walks) visits =
    let first = subst (λ ss. Visits KeepsStep old ss new) is visits in
    passed items (CommentText text
    ∷ items) line line outer outer more steps old first.0 new first.1 (ap turns_of (sym is))
    refl refl (kept_rest items line outer more first.0 new walks first.2)
kept_rest (VariationOpen ∷ items) line outer steps old new (more, is, walks) visits =
    let first = subst (λ ss. Visits KeepsStep old ss new) is visits in
    let words : main_words items (length (line ∷ outer))
    ≡ main_words (VariationOpen ∷ items) (length outer) = ap (main_words items) (omega arith) in
    passed items (VariationOpen ∷ items) (begun line) line (line
    ∷ outer) outer more steps old first.0 new first.1 (ap turns_of (sym is)) refl words
    (kept_rest items (begun line) (line ∷ outer) more first.0 new walks first.2)
kept_rest (VariationClose ∷ items) line [] steps old new (more, is, walks) visits =
    let first = subst (λ ss. Visits KeepsStep old ss new) is visits in
    passed items (VariationClose ∷ items) line line [] [] more steps old first.0 new first.1
    (ap turns_of (sym is)) refl refl (kept_rest items line [] more first.0 new walks first.2)
kept_rest (VariationClose ∷ items) line (next ∷ outer) steps old new (more, is, walks) visits =
    let first = subst (λ ss. Visits KeepsStep old ss new) is visits in
    let words : main_words items (length outer)
    ≡ main_words (VariationClose ∷ items) (length (next ∷ outer)) =
    ap (main_words items) (omega arith) in
    passed items (VariationClose ∷ items) next line outer (next
    ∷ outer) more steps old first.0 new first.1 (ap turns_of (sym is)) refl words
    (kept_rest items next outer more first.0 new walks first.2)

-- from the first step to the last
pub record KeptAll (start : State) (items : List Item) (new : ReplayKeeper) : Type 0 where
  pub is_line : IsMainLine start (main_words items 0) new.positions.items new.played.items
  pub runs : Runs items (first_level start) [] new.turns.items

pub kept_all : (start : State) (items : List Item) (stack : LineStack Level) (steps : List Step)
    (old new : ReplayKeeper) → around stack ≡ [] → stack.line ≡ first_level start
    → old.positions.items ≡ start ∷ [] → old.played.items ≡ [] → old.turns.items ≡ []
    → WalksOn stack items steps → Visits KeepsStep old steps new → KeptAll start items new
kept_all start items stack steps old new outside line positions played turns on visits =
    let walks = rw line at (subst (λ outer. Walks items stack.line outer steps) outside on) in
    let kept = kept_rest items (first_level start) [] steps old new walks visits in
    let all_positions : new.positions.items ≡ start ∷ kept.later =
    kept.positions ∙ ap (λ ps. ps ++ kept.later) positions in
    let all_played : new.played.items ≡ kept.more =
    kept.played ∙ ap (λ ms. ms ++ kept.more) played in
    let all_turns : new.turns.items ≡ turns_of steps =
    kept.turns ∙ ap (λ ts. ts ++ turns_of steps) turns in
    record {
      is_line = rw (← all_positions) at (rw (← all_played) at kept.is_line);
      runs = rw (← all_turns) at (walks_run items (first_level start) [] steps walks);
    }
