-- A main line that is played goes on by a move, and ends.
use Rattle.pgn_criteria.proofs.Common.{◌≡◌, ◌+◌, ◌++◌, ℕ, List, [], ◌∷◌, Option, refl, sym}
use Rattle.pgn_criteria.proofs.Common.{ap, ◌∙◌, subst, append_assoc, append-nil, length-append, inr}
use Rattle.pgn_criteria.proofs.Common.{State}
use Rattle.chess.specs.Public.Moves.{after}
use Rattle.chess.specs.declared.moves.Move.{Move as OneMove}
use Rattle.pgn_text.specs.Public.Games.{Item}
use Rattle.pgn_game.proofs.OneReplay.{one_move}
use Rattle.pgn_game.specs.Public.Faults.{Fault, IsFault, IsMoveFault}
use Rattle.pgn_game.specs.Public.MainLines.{main_words, IsMainLine}
use Rattle.pgn_game.specs.Public.PlayedLines.{PlayedLine, PlaysWord, IsBegun}
use Rattle.pgn_game.specs.Public.Replays.{IsReplay}
use Rattle.pgn_game.specs.declared.replays.replayer.Lines.TheVariants.{Main}
use Rattle.pgn_criteria.specs.Shared.PlayedTo.{IsPlayedTo, GoesOnWith}

-- what is left after one more move
goes_after : {old new : PlayedLine} (word : PlaysWord old new) (before positions : List State)
    (played all : List OneMove) → GoesOnWith old before played positions all
    → GoesOnWith new (before ++ old.position ∷ []) (played ++ word.m ∷ []) positions all
goes_after {old} {new} word before positions played all (later, more, line, positions_is, all_is) =
    let split : IsMainLine old.position (word.word ∷ new.words) later more =
    subst (λ ws. IsMainLine old.position ws later more) word.words line in
    let same : split.0 ≡ word.m = one_move old.position word.word split.0 word.m split.5 word.named
    in (
      split.1,
      split.2,
      subst (λ s. IsMainLine s new.words split.1 split.2) (ap (λ k. after old.position k) same
          ∙ sym word.position) split.6,
      positions_is ∙ ap (λ ps. before ++ ps) split.3
          ∙ sym (append_assoc before (old.position ∷ []) split.1),
      all_is ∙ ap (λ ms. played ++ ms) (split.4 ∙ ap (λ k. k ∷ split.2) same)
          ∙ sym (append_assoc played (word.m ∷ []) split.2),
    )

-- the line at its start
pub played_none : {fen : Option (List ℕ)} {items : List Item} {line : PlayedLine}
    → IsBegun fen items line → IsPlayedTo fen items line [] []
played_none {fen} {items} {line} begun = record {
  start = line.position;
  is_start = begun.start;
  count = sym begun.plies;
  moves = sym begun.plies;
  parts = λ positions all is. (
    positions,
    all,
    subst (λ ws. IsMainLine line.position ws positions all) (sym begun.words) is,
    refl,
    refl,
  );
  completes = λ later more is. subst (λ ws. IsMainLine line.position ws later more) begun.words is;
  faults = λ fault met. subst (λ ws. IsMoveFault line.position 0 ws fault) begun.words
      (subst (λ n. IsMoveFault line.position n line.words fault) begun.plies met);
}

-- after one more move
pub played_on : {fen : Option (List ℕ)} {items : List Item} {old new : PlayedLine}
    {before : List State} {played : List OneMove}
    → IsPlayedTo fen items old before played → (word : PlaysWord old new)
    → IsPlayedTo fen items new (before ++ old.position ∷ []) (played ++ word.m ∷ [])
played_on {fen} {items} {old} {new} {before} {played} to word = record {
  start = to.start;
  is_start = to.is_start;
  count = length-append before (old.position ∷ []) ∙ ap (λ n. n + 1) to.count ∙ sym word.plies;
  moves = length-append played (word.m ∷ []) ∙ ap (λ n. n + 1) to.moves ∙ sym word.plies;
  parts = λ positions all is. goes_after word before positions played all
      (to.parts positions all is);
  completes = λ later more line.
      subst (λ ps. IsMainLine to.start (main_words items 0) ps ((played ++ word.m ∷ []) ++ more))
      (sym (append_assoc before (old.position ∷ []) later))
      (subst (λ ms. IsMainLine to.start (main_words items 0) (before ++ old.position ∷ later) ms)
      (sym (append_assoc played (word.m ∷ []) more))
      (to.completes (old.position ∷ later) (word.m ∷ more)
      (subst (λ ws. IsMainLine old.position ws (old.position ∷ later) (word.m ∷ more))
      (sym word.words) (
        word.m,
        later,
        more,
        refl,
        refl,
        word.named,
        subst (λ s. IsMainLine s new.words later more) word.position line,
      ))));
  faults = λ fault met. to.faults fault
      (subst (λ ws. IsMoveFault old.position old.plies ws fault) (sym word.words)
      (inr (
        word.m,
        word.named,
        subst (λ s. IsMoveFault s (old.plies + 1) new.words fault) word.position
            (subst (λ n. IsMoveFault new.position n new.words fault) word.plies met),
      )));
}

-- after the last
pub played_all : {fen : Option (List ℕ)} {items : List Item} {line : PlayedLine}
    {before : List State} {played : List OneMove}
    → IsPlayedTo fen items line before played → line.words ≡ [] → IsReplay Main fen items
    (record { positions = before ++ line.position ∷ []; played = played; turns = [] })
played_all {fen} {items} {line} {before} {played} to ends = record {
  start = to.start;
  is_start = to.is_start;
  line = subst (λ ms. IsMainLine to.start (main_words items 0) (before ++ line.position ∷ []) ms)
      (append-nil played)
      (to.completes (line.position
      ∷ []) [] (subst (λ ws. IsMainLine line.position ws (line.position ∷ []) []) (sym ends)
      (refl, refl)));
  turns = refl;
}

-- a fault of what is left is one of the game
pub played_fault : {fen : Option (List ℕ)} {items : List Item} {line : PlayedLine}
    {before : List State} {played : List OneMove}
    → IsPlayedTo fen items line before played → (fault : Fault)
    → IsMoveFault line.position line.plies line.words fault → IsFault Main fen items fault
played_fault to fault met = inr (to.start, to.is_start, to.faults fault met)
