-- The edit of PlyCount is the last one, where plies are counted.
use Rattle.std.proofs.lemmas.Result.{IfOk-weaker}
use Rattle.pgn_game.proofs.Common.{◌∙◌, [], sym, ap, subst, Some, codes}
use Rattle.pgn_game.proofs.Common.{length, main_words, IsContents, decimal}
use Rattle.pgn_game.specs.Public.Edits.{AreEditable, Edits, IsEditedBy, all_edits, ply_count}
use Rattle.pgn_text.specs.Public.GameTexts.{GameText, IsRetagged}
use Rattle.pgn_game.proofs.exports.EditFacts.{all_able, counted, edited_more, edited_start}
use Rattle.pgn_game.proofs.exports.EditFacts.{not_counted, plies_contents}
use Rattle.pgn_game.proofs.exports.edits.TagEdits.counted_head.Goals as goal
use Rattle.pgn_game.proofs.exports.edits.TagEdits.counted_head.Goals.{After-retagged}

pub returns-then-not-self-clause-edited : goal.returns-then-not-self-clause-edited
returns-then-not-self-clause-edited c =
    subst (λ edits. IsEditedBy edits (record c.args.game.now { elements = [] }) c.in_ok-head.head)
    (sym (not_counted c.args.self.now c.args.game.now
    (sym (ap (λ (own : Edits). own.counts_plies) c.self.view_is) ∙ c.if-not-self.true)))
    c.in_ok-head.ensures.edited

pub returns-then-not-self-clause-able : goal.returns-then-not-self-clause-able
returns-then-not-self-clause-able c =
    all_able c.args.self.now c.args.game.now c.in_ok-head.ensures.able

pub returns-then-not-self-clause-start : goal.returns-then-not-self-clause-start
returns-then-not-self-clause-start c =
    edited_start c.args.self.now.tags c.args.game.now c.in_ok-head.head c.in_ok-head.ensures.able
    c.in_ok-head.ensures.edited

pub retagged-requires-clause-contents : goal.retagged-requires-clause-contents
retagged-requires-clause-contents c =
    let counted = c.count_main_moves.ensures
    ∙ ap (λ items. length (main_words items 0)) c.elements.ensures.elements in
    subst IsContents (sym (c.as_bytes.ensures.value ∙ c.format-plies.ensures.text
    ∙ ap decimal counted)) (plies_contents (length (main_words c.args.game.now.elements 0)))

edited : (c : After-retagged) (head : GameText)
    → IsRetagged (codes "PlyCount") (Some c.as_bytes.result.now) c.in_ok-head.head head
    → IsEditedBy (all_edits c.args.self.now c.args.game.now)
    (record c.args.game.now { elements = [] }) head
edited c head is =
    let counts = c.count_main_moves.ensures
    ∙ ap (λ items. length (main_words items 0)) c.elements.ensures.elements in
    let edits = c.args.self.now in
    let game = c.args.game.now in
    edited_more edits.tags (all_edits edits game) (ply_count (length (main_words game.elements 0)))
    (record game { elements = [] }) c.in_ok-head.head head
    (counted edits game (sym (ap (λ (own : Edits). own.counts_plies) c.self.view_is)
    ∙ c.if-not-self.false))
    c.in_ok-head.ensures.edited
    (subst (λ plies. IsRetagged (codes "PlyCount") (Some plies) c.in_ok-head.head head)
    (c.as_bytes.ensures.value ∙ c.format-plies.ensures.text ∙ ap decimal counts) is)

pub returns-clause-edited : goal.returns-clause-edited
returns-clause-edited c =
    IfOk-weaker c.retagged.result _ _ (λ head is. edited c head is) c.retagged.ensures

pub returns-clause-able : goal.returns-clause-able
returns-clause-able c =
    IfOk-weaker c.retagged.result _ (λ _. AreEditable (all_edits c.args.self.now c.args.game.now))
    (λ _ _. all_able c.args.self.now c.args.game.now c.in_ok-head.ensures.able) c.retagged.ensures

pub returns-clause-start : goal.returns-clause-start
returns-clause-start c =
    IfOk-weaker c.retagged.result _ _ (λ head is.
    edited_start (all_edits c.args.self.now c.args.game.now) c.args.game.now head
    (all_able c.args.self.now c.args.game.now c.in_ok-head.ensures.able) (edited c head is))
    c.retagged.ensures
