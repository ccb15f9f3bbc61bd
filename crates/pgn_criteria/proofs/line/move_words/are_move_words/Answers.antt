use Rattle.std.specs.Prelude.{◌↔◌}
use Rattle.pgn_criteria.proofs.Common.{◌≡◌, ◌≢◌, ℕ, Bool, true, false, List, [], length, refl, sym}
use Rattle.pgn_criteria.proofs.Common.{ap, ◌∙◌, subst, IsTrue, ◌==◌, eqb-true, nil_from_length}
use Rattle.pgn_criteria.proofs.Common.{AreMoveWords, IsMoveWord, run_of, after_run, after_blanks}
use Rattle.pgn_criteria.proofs.Common.{after_word}
use Rattle.pgn_criteria.proofs.MoveWordFacts.{words_read, words_left, last_word, first_word}
use Rattle.pgn_criteria.proofs.MoveWordFacts.{words_shorter}
use Rattle.pgn_criteria.proofs.line.move_words.are_move_words.Goals as goal

not_word : (x run : List ℕ) (found : Bool) → run ≡ run_of x → (IsTrue found ↔ IsMoveWord run)
    → found ≡ false → AreMoveWords x → ⊥
not_word x run found is reports other are =
    let same : found ≡ true = reports.1 (subst IsMoveWord (sym is) (words_read x are).0) in
    let clash : true ≡ false = sym same ∙ other in cc

a_word : (x run : List ℕ) (found : Bool) → run ≡ run_of x → (IsTrue found ↔ IsMoveWord run)
    → found ≡ true → IsMoveWord (run_of x)
a_word x run found is reports same = subst IsMoveWord is (reports.0 same)

pub returns-then-not-is_move_word : goal.returns-then-not-is_move_word
returns-then-not-is_move_word c = (
  (λ yes. absurd (cc)),
  (λ are. absurd
      (not_word c.loop-after.rest.now c.split_word.result.0.now c.is_move_word.result
      c.split_word.ensures.word c.is_move_word.ensures
      c.if-not-is_move_word.true (c.loop-after.invariant.1 are))),
)

pub returns-then-is_empty : goal.returns-then-is_empty
returns-then-is_empty c =
    let word = a_word c.loop-after.rest.now c.split_word.result.0.now c.is_move_word.result
    c.split_word.ensures.word c.is_move_word.ensures c.if-not-is_move_word.false in
    let none : after_run c.loop-after.rest.now ≡ [] =
    sym c.split_word.ensures.rest ∙ nil_from_length c.split_word.result.1.now
    (eqb-true _ _ (sym c.is_empty.ensures ∙ c.if-is_empty.true)) in (
      (λ yes. c.loop-after.invariant.0 (last_word c.loop-after.rest.now word none)),
      (λ are. refl),
    )

pub loop-after-smaller : goal.loop-after-smaller
loop-after-smaller c =
    let word = a_word c.loop-after.rest.now c.split_word.result.0.now c.is_move_word.result
    c.split_word.ensures.word c.is_move_word.ensures c.if-not-is_move_word.false in
    rw (← (ap after_blanks (sym c.split_word.ensures.rest) ∙ sym c.after_blanks-rest.ensures))
    (words_shorter c.loop-after.rest.now word)

pub loop-after-preserved : goal.loop-after-preserved
loop-after-preserved c =
    let rest = c.loop-after.rest.now in
    let word = a_word rest c.split_word.result.0.now c.is_move_word.result c.split_word.ensures.word
    c.is_move_word.ensures c.if-not-is_move_word.false in
    let same : after_word rest ≡ c.after_blanks-rest.result.now =
    ap after_blanks (sym c.split_word.ensures.rest) ∙ sym c.after_blanks-rest.ensures in
    let some : after_run rest ≢ [] =
    λ none. let full : (length c.split_word.result.1.now == 0) ≡ true =
    ap (λ x. length x == 0) (c.split_word.ensures.rest ∙ none) in
    let clash : true ≡ false = sym full ∙ sym c.is_empty.ensures ∙ c.if-is_empty.false in cc in (
      (λ are. c.loop-after.invariant.0 (first_word rest word (subst AreMoveWords (sym same) are))),
      (λ are. subst AreMoveWords same (words_left rest (c.loop-after.invariant.1 are) some)),
    )
