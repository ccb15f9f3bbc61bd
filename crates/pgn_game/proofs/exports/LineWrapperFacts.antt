-- Tokens that a wrapper wrote one after another.
use Rattle.std.specs.Prelude.{nat_le, false, ◌<◌}
use Rattle.pgn_game.proofs.Common.{◌≡◌, ◌+◌, ◌≤◌, ℕ, true, List, [], ◌∷◌, ◌++◌, length, sym, ap}
use Rattle.pgn_game.proofs.Common.{subst, ◌∙◌, arith, append_assoc, length-append, nat_tests}
use Rattle.pgn_game.proofs.Common.{HasPut, added, parted, column_after, after_tokens, joined}
use Rattle.pgn_game.proofs.Common.{LineWrapper}

-- what was written in two goes is written in one
pub put_both : (old middle new : LineWrapper) (before between after : List ℕ)
    (first second : List (List ℕ))
    → HasPut old middle before between first → HasPut middle new between after second
    → HasPut old new before after (first ++ second)
put_both old middle new before between after first second one other more =
    other more ∙ one (second ++ more)
    ∙ ap (λ tokens. before ++ after_tokens old.width old.begun old.column tokens)
    (sym (append_assoc first second more))

within : (a b : ℕ) → a ≤ b → nat_le a b ≡ true
within a b low = grind (arith, nat_tests)

-- tokens that stand together in the line that is begun are laid as one
in_one_line : (width column : ℕ) (first : List ℕ) (rest more : List (List ℕ))
    → column + 1 + length (joined (first ∷ rest)) ≤ width
    → added width column (first ∷ (rest ++ more))
    ≡ 32 ∷ (joined (first ∷ rest)
    ++ added width (column + 1 + length (joined (first ∷ rest))) more)
in_one_line width column first [] more fits =
    ap (λ t. parted t first ++ added width (column_after t column (length first)) more)
    (within (column + 1 + length first) width fits)
in_one_line width column first (next ∷ rest) more fits =
    let after = joined (next ∷ rest) in
    let size = length-append first (32 ∷ after) in
    let one_more : length (32 ∷ after) ≡ length after + 1 = omega arith in
    let fits_first : column + 1 + length first ≤ width = omega arith in
    let fits_rest : column + 1 + length first + 1 + length after ≤ width = omega arith in
    let end : column + 1 + length first + 1 + length after
    ≡ column + 1 + length (first ++ (32 ∷ after)) = omega arith in
    ap (λ t. parted t first
    ++ added width (column_after t column (length first)) (next ∷ (rest ++ more)))
    (within (column + 1 + length first) width fits_first) ∙ ap (λ x. 32 ∷ (first ++ x))
    (in_one_line width (column + 1 + length first) next rest more fits_rest)
    ∙ ap (λ x. 32
    ∷ x) (sym (append_assoc first (32
    ∷ after) (added width (column + 1 + length first + 1 + length after) more)))
    ∙ ap (λ n. 32 ∷ ((first ++ (32 ∷ after)) ++ added width n more)) end

put_joined : (old new : LineWrapper) (before after : List ℕ) (first : List ℕ) (rest : List (List ℕ))
    → old.begun ≡ true → old.column + 1 + length (joined (first ∷ rest)) ≤ old.width
    → HasPut old new before after (joined (first ∷ rest) ∷ [])
    → HasPut old new before after (first ∷ rest)
put_joined old new before after first rest begun fits put more =
    put more
    ∙ ap (λ b. before ++ after_tokens old.width b old.column (joined (first ∷ rest) ∷ more))
    begun ∙ ap (λ x. before ++ x)
    (in_one_line old.width old.column (joined (first ∷ rest)) [] more fits
    ∙ sym (in_one_line old.width old.column first rest more fits))
    ∙ sym (ap (λ b. before ++ after_tokens old.width b old.column (first ∷ (rest ++ more))) begun)

put_at_once : (old new : LineWrapper) (before after : List ℕ) (tokens : List (List ℕ)) (b : ℕ)
    (text : List ℕ) → joined tokens ≡ b ∷ text → old.begun ≡ true
    → old.column + 1 + length (b ∷ text) ≤ old.width → HasPut old new before after ((b ∷ text) ∷ [])
    → HasPut old new before after tokens
put_at_once old new before after [] b text is begun fits put = absurd (cc)
put_at_once old new before after (first ∷ rest) b text is begun fits put =
    put_joined old new before after first rest begun
    (subst (λ x. old.column + 1 + length x ≤ old.width) (sym is) fits)
    (subst (λ x. HasPut old new before after (x ∷ [])) (sym is) put)

beyond : (a b : ℕ) → b < a → nat_le a b ≡ false
beyond a b high = grind (arith, nat_tests)

-- tokens that stand together in the next line, since the first is not within the width, are laid as
-- one
in_next_line : (width column : ℕ) (first : List ℕ) (rest more : List (List ℕ))
    → width < column + 1 + length first → length (joined (first ∷ rest)) ≤ width
    → added width column (first ∷ (rest ++ more))
    ≡ 10 ∷ (joined (first ∷ rest) ++ added width (length (joined (first ∷ rest))) more)
in_next_line width column first [] more over fits =
    ap (λ t. parted t first ++ added width (column_after t column (length first)) more)
    (beyond (column + 1 + length first) width over)
in_next_line width column first (next ∷ rest) more over fits =
    let after = joined (next ∷ rest) in
    let size = length-append first (32 ∷ after) in
    let one_more : length (32 ∷ after) ≡ length after + 1 = omega arith in
    let fits_rest : length first + 1 + length after ≤ width = omega arith in
    let end : length first + 1 + length after ≡ length (first ++ (32 ∷ after)) = omega arith in
    ap (λ t. parted t first
    ++ added width (column_after t column (length first)) (next ∷ (rest ++ more)))
    (beyond (column + 1 + length first) width over) ∙ ap (λ x. 10 ∷ (first ++ x))
    (in_one_line width (length first) next rest more fits_rest)
    ∙ ap (λ x. 10 ∷ x)
    (sym (append_assoc first (32 ∷ after) (added width (length first + 1 + length after) more)))
    ∙ ap (λ n. 10 ∷ ((first ++ (32 ∷ after)) ++ added width n more)) end

from_added : (old new : LineWrapper) (before after : List ℕ) (tokens : List (List ℕ))
    → old.begun ≡ true → new.begun ≡ old.begun → new.width ≡ old.width
    → ((more : List (List ℕ)) → after ++ added old.width new.column more
    ≡ before ++ added old.width old.column (tokens ++ more))
    → HasPut old new before after tokens
from_added old new before after tokens begun same width each more =
    ap (λ b. after ++ after_tokens new.width b new.column more) (same ∙ begun)
    ∙ ap (λ n. after ++ added n new.column more) width ∙ each more
    ∙ sym (ap (λ b. before ++ after_tokens old.width b old.column (tokens ++ more)) begun)

-- tokens that stand together in the line that is begun
pub put_within : (old new : LineWrapper) (before after : List ℕ) (tokens : List (List ℕ)) (b : ℕ)
    (text : List ℕ) → joined tokens ≡ b ∷ text → old.begun ≡ true
    → (new.begun ≡ old.begun) × (new.column ≡ old.column + 1 + length (b ∷ text))
    × (new.width ≡ old.width) → old.column + 1 + length (b ∷ text) ≤ old.width
    → after ≡ before ++ 32 ∷ b ∷ text → HasPut old new before after tokens
put_within old new before after tokens b text is begun (same, column, width) fits here =
    let line = b ∷ text in
    put_at_once old new before after tokens b text is begun fits
    (from_added old new before after (line ∷ []) begun same width
    (λ more.
    ap (λ x. x ++ added old.width new.column more) here
    ∙ ap (λ n. (before ++ 32 ∷ line) ++ added old.width n more) column
    ∙ append_assoc before (32 ∷ line) (added old.width (old.column + 1 + length line) more)
    ∙ ap (λ x. before ++ x) (sym (in_one_line old.width old.column line [] more fits))))

pub put_line : (old new : LineWrapper) (before after : List ℕ) (tokens : List (List ℕ))
    (first : List ℕ) (rest : List (List ℕ)) → tokens ≡ first ∷ rest → old.begun ≡ true
    → new.begun ≡ old.begun → new.width ≡ old.width
    → new.column ≡ length (joined (first ∷ rest)) → old.width < old.column + 1 + length first
    → length (joined (first ∷ rest)) ≤ old.width → after ≡ before ++ 10 ∷ joined (first ∷ rest)
    → HasPut old new before after tokens
put_line old new before after tokens first rest are begun same width column over fits is =
    let line = joined (first ∷ rest) in
    from_added old new before after tokens begun same width
    (λ more.
    ap (λ x. x ++ added old.width new.column more) is
    ∙ ap (λ n. (before ++ 10 ∷ line) ++ added old.width n more) column
    ∙ append_assoc before (10 ∷ line) (added old.width (length line) more)
    ∙ ap (λ x. before ++ x)
    (sym (in_next_line old.width old.column first rest more over fits))
    ∙ sym (ap (λ ts. before ++ added old.width old.column (ts ++ more)) are))

pub put_two_lines : (old new : LineWrapper) (before after : List ℕ) (tokens : List (List ℕ))
    (first : List ℕ) (rest : List (List ℕ)) (next : List ℕ) (last : List (List ℕ))
    → tokens ≡ (first ∷ rest) ++ (next ∷ last) → old.begun ≡ true → new.begun ≡ old.begun
    → new.width ≡ old.width → new.column ≡ length (joined (next ∷ last))
    → old.column + 1 + length (joined (first ∷ rest)) ≤ old.width
    → old.width < old.column + 1 + length (joined (first ∷ rest)) + 1 + length next
    → length (joined (next ∷ last)) ≤ old.width
    → after ≡ before ++ 32 ∷ (joined (first ∷ rest) ++ 10 ∷ joined (next ∷ last))
    → HasPut old new before after tokens
put_two_lines old new before after tokens first rest next last are begun same width column fits over
    within is =
    let front = joined (first ∷ rest) in
    let back = joined (next ∷ last) in
    from_added old new before after tokens begun same width
    (λ more.
    ap (λ x. x ++ added old.width new.column more) is
    ∙ ap (λ n. (before ++ 32 ∷ (front ++ 10 ∷ back)) ++ added old.width n more) column
    ∙ append_assoc before (32 ∷ (front ++ 10 ∷ back)) (added old.width (length back) more)
    ∙ ap (λ x. before ++ 32 ∷ x)
    (append_assoc front (10 ∷ back) (added old.width (length back) more)
    ∙ ap (λ x. front ++ x)
    (sym (in_next_line old.width (old.column + 1 + length front) next last more over within)))
    ∙ ap (λ x. before ++ x)
    (sym (in_one_line old.width old.column first rest ((next ∷ last) ++ more) fits))
    ∙ ap (λ ts. before ++ added old.width old.column ts)
    (sym (append_assoc (first ∷ rest) (next ∷ last) more))
    ∙ sym (ap (λ ts. before ++ added old.width old.column (ts ++ more)) are))
