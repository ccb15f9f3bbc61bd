-- Where a rank can be split, items of a fixed size take squares that are known.
use Rattle.pgn_criteria.proofs.Common.{◌≡◌, ◌≤◌, ◌+◌, ◌-◌, ℕ, List, ◌∷◌, ◌++◌, length, drop, Option}
use Rattle.pgn_criteria.proofs.Common.{refl, sym, ap, ◌∙◌, subst, arith, length-drop, length-append}
use Rattle.pgn_criteria.proofs.Common.{drop-append_seam, drop-drop, Man, CanBeSplit, IsStretch}
use Rattle.pgn_criteria.proofs.Common.{Fits, Reads, SquareTest, Item, Run}

pub count_taken : (text : List ℕ) (item : Item) (class : SquareTest) (count : ℕ) → Reads text item
    → item ≡ Run class count → (own : List (Option Man)) → IsStretch text own → length own ≡ count
count_taken text item class count reads run own stretch =
    (subst (λ i. Fits i own) run ((reads.1 own).0 stretch)).0

-- squares of a rank after an item, from which its other items take theirs
abbrev pub IsLeft : List (Option Man) → List (List ℕ) → Type 0
IsLeft squares items = (k : ℕ) × (k ≤ length squares) × CanBeSplit items (drop k squares)

pub after_own : (squares : List (Option Man)) (k n : ℕ) (own more : List (Option Man))
    → drop k squares ≡ own ++ more → length own ≡ n → drop (k + n) squares ≡ more
after_own squares k n own more cut size =
    sym (drop-drop n k squares) ∙ ap (drop n) cut ∙ ap (λ m. drop m (own ++ more)) (sym size)
    ∙ drop-append_seam own more

-- after any item
pub left_then : (squares : List (Option Man)) (b : List ℕ) (items : List (List ℕ))
    → IsLeft squares (b ∷ items) → IsLeft squares items
left_then squares b items left =
    let k = left.0 in
    let split = left.2 in
    let own = split.0 in
    let size : length (drop k squares) ≡ length (own ++ split.1) = ap length split.2 in
    let low : k + length own ≤ length squares =
    omega (arith, size, length-drop k squares, length-append own split.1, left.1) in (
      k + length own,
      low,
      subst (CanBeSplit items) (sym (after_own squares k (length own) own split.1 split.2 refl))
          split.4,
    )

-- items of a known size at the end of eight squares
pub left_at_end : (squares : List (Option Man)) (items : List (List ℕ)) (size : ℕ)
    → length squares ≡ 8 → size ≤ 8
    → ((own : List (Option Man)) → CanBeSplit items own → length own ≡ size) → IsLeft squares items
    → CanBeSplit items (drop (8 - size) squares)
left_at_end squares items size eight small sized left =
    let long = sized (drop left.0 squares) left.2 in
    let at : left.0 ≡ 8 - size = omega (arith, long, length-drop left.0 squares, left.1, eight) in
    subst (λ n. CanBeSplit items (drop n squares)) at left.2

-- the size of the items so far, and of one more
pub size_more : (b : List ℕ) (n : ℕ) (items : List (List ℕ)) (rest : ℕ)
    → ((own : List (Option Man)) → IsStretch b own → length own ≡ n)
    → ((own : List (Option Man)) → CanBeSplit items own → length own ≡ rest)
    → (own : List (Option Man)) → CanBeSplit (b ∷ items) own → length own ≡ n + rest
size_more b n items rest sized all own split =
    let whole : length own ≡ length (split.0 ++ split.1) = ap length split.2 in
    omega (arith, whole, length-append split.0 split.1, sized split.0 split.3, all split.1 split.4)

-- how many squares the items take at least, with one more
pub least_more : (b : List ℕ) (n : ℕ) (items : List (List ℕ)) (rest : ℕ)
    → ((own : List (Option Man)) → IsStretch b own → n ≤ length own)
    → ((own : List (Option Man)) → CanBeSplit items own → rest ≤ length own)
    → (own : List (Option Man)) → CanBeSplit (b ∷ items) own → n + rest ≤ length own
least_more b n items rest low all own split =
    let whole : length own ≡ length (split.0 ++ split.1) = ap length split.2 in
    omega (arith, whole, length-append split.0 split.1, low split.0 split.3, all split.1 split.4)
