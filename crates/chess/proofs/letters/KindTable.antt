-- The table of the kinds by their letters.
use Rattle.chess.proofs.Common.{◌≡◌, ◌<◌, ℕ, true, nat_eq, get_or, ap, refl, sym, ◌∙◌, Option, Some}
use Rattle.chess.proofs.Common.{None, MatchOption, is_some, [], ◌∷◌, agree_below, agree_below_at}
use Rattle.chess.proofs.Common.{eqb-true, kind_letter, letter_text, kind_of, Kind}
use Rattle.chess.specs.declared.letters.TheConstants.{KINDS}
use Rattle.chess.proofs.SpelledParts.{letter_shown, letter_is_kind}

-- a kind or none, as a number
abbrev kind_code : Option Kind → ℕ
kind_code None = 0
kind_code (Some k) = kind_letter k

code_back : (o : Option Kind) → kind_of (kind_code o) ≡ o
code_back None = refl
code_back (Some k) = (letter_is_kind k).1

same_code : (a b : Option Kind) → kind_code a ≡ kind_code b → a ≡ b
same_code a b e = sym (code_back a) ∙ ap kind_of e ∙ code_back b

kinds_fit : agree_below (λ i.
    nat_eq (kind_code (get_or KINDS i None)) (kind_code (kind_of i))) (λ _. true) 256 ≡ true
kinds_fit = refl

pub table_kind : (b : ℕ) → b < 256 → get_or KINDS b None ≡ kind_of b
table_kind b below =
    let fits =
    agree_below_at (λ i. nat_eq (kind_code (get_or KINDS i None)) (kind_code (kind_of i))) (λ _.
    true) 256 b kinds_fit below in
    same_code (get_or KINDS b None) (kind_of b) (eqb-true _ _ fits)

-- the kind is the one that has the letter
pub kind_found : (b : ℕ) (o : Option Kind) → o ≡ kind_of b
    → MatchOption o ((other : Kind) → kind_letter other ≡ b → ⊥) (λ k. kind_letter k ≡ b)
kind_found b None e = λ other same. let f : None ≡ Some other =
    e ∙ ap kind_of (sym same) ∙ (letter_is_kind other).1 in cc
kind_found b (Some k) e = let f : kind_letter k ∷ [] ≡ b ∷ [] =
    ap letter_text e ∙ letter_shown b (ap is_some (sym e)) in cc
