use Rattle.std.specs.Prelude.{is_some, not}
use Rattle.pgn_criteria.proofs.Common.{◌≡◌, ◌∙◌, ◌%◌, false, ap, arith, sym, Placement, man_at}
use Rattle.pgn_criteria.proofs.Common.{Bool, Place, false≢true, refl, square_at, true}
use Rattle.chess.specs.Public.San.{is_capture}
use Rattle.pgn_criteria.specs.Public.MoveTexts.{without_check_signs}
use Rattle.pgn_criteria.proofs.EndFacts.{like_has, quiet_text}
use Rattle.pgn_criteria.proofs.coded.may_take.Goals as goal

of_not : (r : Bool) → not r ≡ false → r ≡ true
of_not true is = refl
of_not false is = absurd (false≢true (sym is))

pub returns-else-has_man : goal.returns-else-has_man
returns-else-has_man c P m a b sight legal code out text san like =
    let quiet : is_capture P m ≡ false =
    ap (λ (s : Place). is_some (man_at P.men s)) (sym code.taken)
    ∙ ap (λ (men : Placement). is_some (man_at men (square_at (c.args.d % 64)))) (sym sight.men)
    ∙ ap (λ (s : Place). is_some (man_at c.args.walk.now.men s)) (sym c.of_index.ensures.square)
    ∙ sym c.has_man.ensures ∙ c.if-has_man.false in
    quiet_text P m legal.pseudo_legal.from legal.pseudo_legal.to quiet text san
    (like_has 120 c.args.word.now (without_check_signs text) (λ star. omega (arith, star))
    (sym c.has_cross.ensures ∙ of_not c.has_cross.result out) like)
