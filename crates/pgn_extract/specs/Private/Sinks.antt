-- What a sink has of the entries that are handed to it.
use Rattle.std.proofs.Common.{◌≡◌, ◌++◌, ◌∷◌, ℕ, Option, None, Some, List, [], length, refl, sym}
use Rattle.std.proofs.Common.{ap, ◌∙◌}
use Rattle.std.proofs.Common.{append-nil, append_assoc}
use Rattle.chess.specs.Public.Positions.{State}
use Rattle.pgn_text.specs.Public.GameTexts.{GameText}
use Rattle.pgn_extract.specs.Public.Aims.{Aim, GameId}
use Rattle.pgn_extract.specs.Public.Listing.{Entry, Shown}
use Rattle.pgn_extract.specs.declared.entries.line_maker.LineMaker.{LineMaker}
use Rattle.pgn_extract.specs.Private.Lines.{Where, Makes, ShowsLine, marked_line, marked_lines}
use Rattle.pgn_extract.specs.Private.Lines.{first_ply}

-- the entry where the line stands is handed on, with what is shown there
abbrev pub PutsHere : {S : Type 0} → (List Entry → S → Type 0)
    → (Aim → GameText → List State → State → Type 0) → LineMaker → S → Type 0
PutsHere {S} Got At lines new =
    (shown : Shown) × Where At (λ aim game before P. (id : GameId) → Makes lines aim id game
    → ShowsLine shown id aim game before P
    × Got (record { id = id; ply = length before; shown = shown } ∷ []) new)

pub lines_none : (mark text : List ℕ) → text ≡ text ++ marked_lines mark []
lines_none mark text = sym (append-nil text)

-- lines after lines are those of the entries one after the other
pub joined_lines : (mark : List ℕ) (xs ys : List Entry)
    → marked_lines mark (xs ++ ys) ≡ marked_lines mark xs ++ marked_lines mark ys
joined_lines mark [] ys = refl
joined_lines mark (x ∷ xs) ys =
    ap (λ t. marked_line mark x ++ t) (joined_lines mark xs ys)
    ∙ sym (append_assoc (marked_line mark x) (marked_lines mark xs) (marked_lines mark ys))

pub lines_more : (mark a b c : List ℕ) (xs ys : List Entry) → b ≡ a ++ marked_lines mark xs
    → c ≡ b ++ marked_lines mark ys → c ≡ a ++ marked_lines mark (xs ++ ys)
lines_more mark a b c xs ys first then =
    then ∙ ap (λ t. t ++ marked_lines mark ys) first
    ∙ append_assoc a (marked_lines mark xs) (marked_lines mark ys)
    ∙ ap (λ t. a ++ t) (sym (joined_lines mark xs ys))

pub first_none : (found : Option ℕ) → found ≡ first_ply found []
first_none None = refl
first_none (Some ply) = refl

pub first_more : (a b c : Option ℕ) (xs ys : List Entry) → b ≡ first_ply a xs
    → c ≡ first_ply b ys → c ≡ first_ply a (xs ++ ys)
first_more (Some ply) b c xs ys first then = then ∙ ap (λ found. first_ply found ys) first
first_more None b c [] ys first then = then ∙ ap (λ found. first_ply found ys) first
first_more None b c (x ∷ xs) ys first then = then ∙ ap (λ found. first_ply found ys) first

pub grows_none : (text : List ℕ) → (some : List ℕ) × (text ≡ text ++ some)
grows_none text = ([], sym (append-nil text))

pub grows_more : (a b c : List ℕ) → ((some : List ℕ) × (b ≡ a ++ some))
    → ((some : List ℕ) × (c ≡ b ++ some)) → (some : List ℕ) × (c ≡ a ++ some)
grows_more a b c (xs, first) (ys, then) =
    (xs ++ ys, then ∙ ap (λ t. t ++ ys) first ∙ append_assoc a xs ys)
