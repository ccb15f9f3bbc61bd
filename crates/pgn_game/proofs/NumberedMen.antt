-- The tables of men by their numbers.
use Rattle.std.proofs.Common.{◌≡◌, ◌<◌, ℕ, true, nat_eq, get_or, None, ap, refl, sym, ◌∙◌}
use Rattle.std.proofs.lemmas.Bool.{agree_below, agree_below_at, eqb-true}
use Rattle.chess.specs.declared.board.man.Man.{Man}
use Rattle.chess.specs.declared.board.man.Kind.TheVariants.{King}
use Rattle.chess.specs.declared.board.man.Side.TheVariants.{White}
use Rattle.pgn_game.proofs.PlyCodeFacts.{man_again}
use Rattle.pgn_game.specs.Public.PlyCodes.{man_number, numbered_man}
use Rattle.pgn_game.specs.declared.pack.replaying.TheConstants.{KINDS, SIDES}

abbrev by_table : ℕ → Man
by_table n = record { side = get_or SIDES n White; kind = get_or KINDS n King }

same_number : (a b : Man) → man_number a None ≡ man_number b None → a ≡ b
same_number a b e =
    sym (man_again a None tt).0 ∙ ap numbered_man e ∙ (man_again b None tt).0

tables_fit : agree_below (λ n.
    nat_eq (man_number (by_table n) None) (man_number (numbered_man n) None)) (λ _. true) 16 ≡ true
tables_fit = refl

pub table_man : (n : ℕ) → n < 16 → by_table n ≡ numbered_man n
table_man n below =
    let fits = agree_below_at (λ n.
    nat_eq (man_number (by_table n) None) (man_number (numbered_man n) None)) (λ _. true)
    16 n tables_fit below in
    same_number (by_table n) (numbered_man n) (eqb-true _ _ fits)
