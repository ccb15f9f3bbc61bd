-- Tokens have one text of a width at most.
use Rattle.std.proofs.Common.{◌≡◌, ℕ, ◌+◌, ◌<◌, ◌≤◌, List, [], ◌∷◌, ◌++◌, length, refl, sym, ap}
use Rattle.std.proofs.Common.{◌∙◌, subst, length-append, arith}
use Rattle.pgn_game.specs.Public.TextLines.{joined, tokens_of, text_of, IsLine, IsFull, AreLines}
use Rattle.pgn_game.specs.Public.TextLines.{TokensHaveOneText}
use Rattle.pgn_game.proofs.Cells.{same_first, same_rest}

-- a token more makes no line shorter
after_first : (x y : List ℕ) (ys : List (List ℕ))
    → length (joined (x ∷ y ∷ ys)) ≡ length x + 1 + length (joined (y ∷ ys))
after_first x y ys =
    let a : length (joined (x ∷ y ∷ ys)) ≡ length x + length (32 ∷ joined (y ∷ ys)) =
    length-append x (32 ∷ joined (y ∷ ys)) in
    let b : length (32 ∷ joined (y ∷ ys)) ≡ 1 + length (joined (y ∷ ys)) = omega arith in
    omega arith

first_fits : (token : List ℕ) (rest : List (List ℕ)) → length token ≤ length (joined (token ∷ rest))
first_fits token [] = omega arith
first_fits token (next ∷ rest) = let a = after_first token next rest in omega arith

front_fits : (line : List (List ℕ)) (token : List ℕ) (rest : List (List ℕ))
    → length (joined (line ++ token ∷ [])) ≤ length (joined (line ++ token ∷ rest))
front_fits [] token rest = first_fits token rest
front_fits (x ∷ []) token rest =
    let a = after_first x token [] in
    let b = after_first x token rest in
    let c = first_fits token rest in
    omega arith
front_fits (x ∷ y ∷ line) token rest =
    let a = after_first x y (line ++ token ∷ []) in
    let b = after_first x y (line ++ token ∷ rest) in
    let c = front_fits (y ∷ line) token rest in
    omega arith

-- of two fronts of the same tokens, one is a front of the other
data Fronts (a b : List (List ℕ)) (after_a after_b : List (List ℕ)) : Type 0 where
  same : a ≡ b → after_a ≡ after_b → Fronts a b after_a after_b
  shorter : (token : List ℕ) (rest : List (List ℕ)) → b ≡ a ++ token ∷ rest
      → after_a ≡ token ∷ (rest ++ after_b) → Fronts a b after_a after_b
  longer : (token : List ℕ) (rest : List (List ℕ)) → a ≡ b ++ token ∷ rest
      → after_b ≡ token ∷ (rest ++ after_a) → Fronts a b after_a after_b

fronts : (a b after_a after_b : List (List ℕ)) → a ++ after_a ≡ b ++ after_b
    → Fronts a b after_a after_b
fronts [] [] after_a after_b is = same refl is
fronts [] (y ∷ b) after_a after_b is = shorter y b refl is
fronts (x ∷ a) [] after_a after_b is = longer x a refl (sym is)
fronts (x ∷ a) (y ∷ b) after_a after_b is =
    under (fronts a b after_a after_b (same_rest x y (a ++ after_a) (b ++ after_b) is))
  where
    head : x ≡ y
    head = same_first x y (a ++ after_a) (b ++ after_b) is

    under : Fronts a b after_a after_b → Fronts (x ∷ a) (y ∷ b) after_a after_b
    under (same front after) = same (ap (λ ts. x ∷ ts) front ∙ ap (λ t. t ∷ b) head) after
    under (shorter token rest front after) =
        shorter token rest (ap (λ ts. y ∷ ts) front
        ∙ ap (λ t. t ∷ (a ++ token ∷ rest)) (sym head)) after
    under (longer token rest front after) =
        longer token rest (ap (λ ts. x ∷ ts) front ∙ ap (λ t. t ∷ (b ++ token ∷ rest)) head) after

-- a line that could take the next token is not full
not_full : (width : ℕ) (line : List (List ℕ)) (lines : List (List (List ℕ))) (token : List ℕ)
    (rest others : List (List ℕ))
    → IsLine width line → IsFull width line lines → AreLines width lines
    → tokens_of lines ≡ token ∷ others → IsLine width (line ++ token ∷ rest) → ⊥
not_full width [] lines token rest others is_line full are is also = is_line
not_full width (x ∷ line) [] token rest others is_line full are is also = let n = ap length is in
    absurd (omega arith)
not_full width (x ∷ line) ([] ∷ lines) token rest others is_line full are is also = full
not_full width (x ∷ line) ((first ∷ tokens) ∷ lines) token rest others is_line full are is also =
    let head : first ≡ token = same_first first token (tokens ++ tokens_of lines) others is in
    let past : width < length (joined ((x ∷ line) ++ token ∷ [])) =
    subst (λ t. width < length (joined ((x ∷ line) ++ t ∷ []))) head full in
    let front = front_fits (x ∷ line) token rest in
    let within : length (joined ((x ∷ line) ++ token ∷ rest)) ≤ width =
    two_or_more x line token rest also in
    absurd (omega arith)
  where
    two_or_more : (x : List ℕ) (line : List (List ℕ)) (token : List ℕ) (rest : List (List ℕ))
        → IsLine width ((x ∷ line) ++ token ∷ rest)
        → length (joined ((x ∷ line) ++ token ∷ rest)) ≤ width
    two_or_more x [] token rest within = within
    two_or_more x (y ∷ line) token rest within = within

one_parting : (width : ℕ) (lines others : List (List (List ℕ))) → AreLines width lines
    → AreLines width others → tokens_of lines ≡ tokens_of others → lines ≡ others
one_parting width [] [] are also is = refl
one_parting width [] ([] ∷ others) are also is = absurd also.0
one_parting width [] ((token ∷ line) ∷ others) are also is = let n = ap length is in
    absurd (omega arith)
one_parting width ([] ∷ lines) others are also is = absurd are.0
one_parting width ((token ∷ line) ∷ lines) [] are also is = let n = ap length is in
    absurd (omega arith)
one_parting width ((token ∷ line) ∷ lines) (other ∷ others) are also is =
    by (fronts (token ∷ line) other (tokens_of lines) (tokens_of others) is) (λ same.
    one_parting width lines others are.2 also.2 same)
  where
    by : Fronts (token ∷ line) other (tokens_of lines) (tokens_of others)
        → (tokens_of lines ≡ tokens_of others → lines ≡ others)
        → (token ∷ line) ∷ lines ≡ other ∷ others
    by (same front after) on = ap (λ l. l ∷ lines) front ∙ ap (λ ls. other ∷ ls) (on after)
    by (shorter next rest front after) on =
        absurd (not_full width (token ∷ line) lines next rest (rest
        ++ tokens_of others) are.0 are.1 are.2 after (subst (IsLine width) front also.0))
    by (longer next rest front after) on =
        absurd (not_full width other others next rest (rest
        ++ tokens_of lines) also.0 also.1 also.2 after (subst (IsLine width) front are.0))

pub one_text : TokensHaveOneText
one_text width tokens text other is also =
    is.spells
    ∙ ap text_of (one_parting width is.lines also.lines is.are_lines also.are_lines (is.all
    ∙ sym also.all)) ∙ sym also.spells
