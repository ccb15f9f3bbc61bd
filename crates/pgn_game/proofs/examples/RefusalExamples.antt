-- What the definitions refuse: moves that a word does not name or out of their order, a reason that
-- is not the word's, and a word that is not reached.
use Rattle.std.proofs.Common.{codes}
use Rattle.std.specs.Prelude.{None}
use Rattle.pgn_game.proofs.Common.{◌≡◌, ◌∙◌, ℕ, List, [], ◌∷◌, Bool, true, false, ◌&&◌, ap, subst}
use Rattle.pgn_game.proofs.Common.{sym, inl, inr, refl, arith, State, IsCheck}
use Rattle.pgn_game.proofs.Common.{IsCastlingText, IsNamed, IsOnlyNamed, Wing, KingSide, QueenSide}
use Rattle.pgn_game.proofs.Common.{Move, Item, MoveText, GlyphNumber, VariationOpen, is_pass}
use Rattle.pgn_game.proofs.Common.{IsTurn, NamesNone, AreNamed, IsWhy, IsRefusedFrom, IsReached}
use Rattle.pgn_game.proofs.Common.{main_line, Refused, Lines, Main, All, LineMove, Played, Passed}
use Rattle.chess.specs.declared.move_text.refusal.Refusal.{Refusal}
use Rattle.chess.specs.declared.move_text.refusal.Refusal.TheVariants.{NoCastling, CastlingAttacked}
use Rattle.pgn_game.specs.Public.Refusals.{PlayedLine}
use Rattle.pgn_game.specs.declared.explain.Why.{Why}
use Rattle.pgn_game.specs.declared.explain.Why.TheVariants.{PassInCheck, Ambiguous, Illegal}

-- h1 does not stand before a1
abbrev pub from_a1 : Move
from_a1 = record {
  from = record { file = 1; rank = 1 };
  to =
      record { file = 4; rank = 1 };
  promote = None;
  castle = None;
}

abbrev pub from_h1 : Move
from_h1 = record {
  from = record { file = 8; rank = 1 };
  to =
      record { file = 4; rank = 1 };
  promote = None;
  castle = None;
}

not_descending : (now : State) (word : List ℕ) → AreNamed now word (from_h1 ∷ from_a1 ∷ []) → ⊥
not_descending now word named = let low = named.ascending 0 (omega arith) in absurd (omega arith)

not_twice : (now : State) (word : List ℕ) → AreNamed now word (from_a1 ∷ from_a1 ∷ []) → ⊥
not_twice now word named = let low = named.ascending 0 (omega arith) in absurd (omega arith)

-- a move that is named is not left out, and no other move is among those
not_left_out : (now : State) (word : List ℕ) (m : Move) → IsNamed now word m → AreNamed now word []
    → ⊥
not_left_out now word m named are =
    let among = (are.each m).0 named in absurd (omega (arith, among.1))

not_unnamed : (now : State) (word : List ℕ) → (IsNamed now word from_a1 → ⊥)
    → AreNamed now word (from_a1 ∷ []) → ⊥
not_unnamed now word unnamed are = unnamed ((are.each from_a1).1 (0, omega arith, refl))

-- e5 is no text of castling, so it is not refused as one
no_castling_text : (wing : Wing) → IsCastlingText wing (codes "e5") → ⊥
no_castling_text KingSide (marks, all, inl is) = absurd (cc)
no_castling_text KingSide (marks, all, inr is) = absurd (cc)
no_castling_text QueenSide (marks, all, inl is) = absurd (cc)
no_castling_text QueenSide (marks, all, inr is) = absurd (cc)

not_for_castling : (inside : Bool) (now : State)
    → IsWhy inside now (codes "e5") (Illegal NoCastling) → ⊥
not_for_castling inside now (none, ((wing, text), not_meant)) = no_castling_text wing text

not_for_an_attack : (inside : Bool) (now : State)
    → IsWhy inside now (codes "e5") (Illegal CastlingAttacked) → ⊥
not_for_an_attack inside now (none, ((wing, text), meant)) = no_castling_text wing text

-- a pass of a side in check is refused in a variation: not in the main line, not where there is no
-- check, and no other word
pass_in_check : (now : State) → IsCheck now.men now.turn
    → IsWhy true now (codes "--") PassInCheck × IsWhy true now (codes "Z0") PassInCheck
pass_in_check now in_check = ((refl, in_check), (refl, in_check))

no_pass_in_the_main_line : (now : State) → IsWhy false now (codes "--") PassInCheck → ⊥
no_pass_in_the_main_line now (is, in_check) = cc

no_pass_without_check : (now : State) → (IsCheck now.men now.turn → ⊥)
    → IsWhy true now (codes "--") PassInCheck → ⊥
no_pass_without_check now calm (is, in_check) = calm in_check

no_other_pass : (now : State) → IsWhy true now (codes "e4") PassInCheck → ⊥
no_other_pass now (is, in_check) = cc

-- a word that names one move alone does not name several, and one that names a move is not illegal
not_ambiguous : (inside : Bool) (now : State) (word : List ℕ) (m : Move) → IsOnlyNamed now word m
    → IsWhy inside now word Ambiguous → ⊥
not_ambiguous inside now word m named (one, other, is, also, apart) =
    apart (named.only one is ∙ sym (named.only other also))

not_illegal : (inside : Bool) (now : State) (word : List ℕ) (m : Move) (refusal : Refusal)
    → IsNamed now word m → IsWhy inside now word (Illegal refusal) → ⊥
not_illegal inside now word m refusal named (none, why) = none m named

-- the first element is reached as the game begins, in the main line
reached_first : (lines : Lines) (start : State) (items : List Item) (inside : Bool)
    (line : PlayedLine) → IsReached lines start items 0 inside line
    → (inside ≡ false) × (line ≡ main_line start)
reached_first Main start items inside line reached = reached.0
reached_first All start items inside line reached = reached.0

-- so its word is refused in no other position, and is no pass in a variation
no_other_position : (lines : Lines) (start : State) (items : List Item) (refused : Refused)
    → refused.element ≡ 0 → (refused.position ≡ start → ⊥)
    → IsRefusedFrom lines start items refused → ⊥
no_other_position lines start items refused first other is =
    let there =
    reached_first lines start items is.inside is.line
    (subst (λ index. IsReached lines start items index is.inside is.line) first is.reached) in
    other (is.position ∙ ap (λ line. line.now) there.1)

no_pass_at_first : (lines : Lines) (start : State) (items : List Item) (refused : Refused)
    → refused.element ≡ 0 → refused.why ≡ PassInCheck → IsRefusedFrom lines start items refused → ⊥
no_pass_at_first lines start items refused first pass is =
    let there =
    reached_first lines start items is.inside is.line
    (subst (λ index. IsReached lines start items index is.inside is.line) first is.reached) in
    let why =
    subst (λ (cause : Why). IsWhy is.inside is.line.now refused.word.now cause) pass is.why in
    let clash : false ≡ true =
    subst (λ inside. (inside && is_pass refused.word.now) ≡ true) there.0 why.0 in cc

-- nor is a NAG refused, a word after one that names no move, or, where the main line alone is
-- replayed, a word of a variation
no_glyph_refused : (lines : Lines) (start : State) (refused : Refused) → refused.element ≡ 0
    → IsRefusedFrom lines start (GlyphNumber 1 ∷ []) refused → ⊥
no_glyph_refused lines start refused first is =
    let here =
    rw first at is.here in cc

not_after_a_fault : (lines : Lines) (start : State) (word other : List ℕ) (refused : Refused)
    → NamesNone start word → refused.element ≡ 1
    → IsRefusedFrom lines start (MoveText word ∷ MoveText other ∷ []) refused → ⊥
not_after_a_fault lines start word other refused none second is =
    of_lines lines is.inside is.line
    (rw second at is.reached)
  where
    of_turn : (turn : LineMove) → IsTurn false start word turn → ⊥
    of_turn (Played m) named = none m named.named
    of_turn Passed never = never

    of_lines : (lines : Lines) (inside : Bool) (line : PlayedLine)
        → IsReached lines start (MoveText word ∷ MoveText other ∷ []) 1 inside line → ⊥
    of_lines Main inside line ((turn, is_turn, more), played) = of_turn turn is_turn
    of_lines All inside line ((turn, is_turn, more), played) = of_turn turn is_turn

not_in_a_variation : (start : State) (word : List ℕ) (refused : Refused) → refused.element ≡ 1
    → IsRefusedFrom Main start (VariationOpen ∷ MoveText word ∷ []) refused → ⊥
not_in_a_variation start word refused second is =
    let there = rw second at is.reached in
    let never = there.1 word in cc
