use Rattle.chess.proofs.Common.{◌≡◌, ◌∙◌, ap, sym, get_or, [], index_of, has_bit}
use Rattle.chess.proofs.Common.{pseudo_attacks_row_of, PSEUDO_ATTACKS}
use Rattle.chess.proofs.board.TableFacts.{table_bit}
use Rattle.chess.proofs.board.PseudoAttacksTable.{attacks_fit}
use Rattle.chess.proofs.board.PseudoAttackFacts.{sees, sees_is}
use Rattle.chess.proofs.board.attack_tables.pseudo_attacks_on.Goals as goal

pub returns : goal.returns
returns c s on_board =
    let man = c.args.man in
    let row = pseudo_attacks_row_of man.side man.kind in
    let bit : has_bit
    (get_or (get_or PSEUDO_ATTACKS c.pseudo_attacks_row.result []) c.index.result 0)
    (index_of s) ≡ sees man.side man.kind s c.args.target =
    ap (λ n. has_bit (get_or (get_or PSEUDO_ATTACKS n []) c.index.result 0) (index_of s))
    c.pseudo_attacks_row.ensures.row
    ∙ ap (λ n. has_bit (get_or (get_or PSEUDO_ATTACKS row []) n 0) (index_of s))
    c.index.ensures.place
    ∙ table_bit (get_or PSEUDO_ATTACKS row []) (sees man.side man.kind)
    (attacks_fit man.side man.kind)
    s c.args.target on_board c.index.ensures.on_board in
    let test = sees_is man.side man.kind s c.args.target in
    ((λ e. test.0 (sym bit ∙ e)), (λ f. bit ∙ test.1 f))
