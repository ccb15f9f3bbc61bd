-- Whether a text spells men, rank by rank.
use Rattle.std.proofs.Common.{◌≡◌, ◌⊎◌, ℕ, zero, suc, ◌+◌, ◌-◌, ◌<◌, ◌≤◌, ◌==◌, true, false, Option}
use Rattle.std.proofs.Common.{Some, None, List, [], ◌∷◌, ◌++◌, if◌then◌else◌, length, replicate}
use Rattle.std.proofs.Common.{get_or, refl, sym, ap, ◌∙◌, subst, inl, inr, arith, length-append}
use Rattle.chess.proofs.Common.{cases_eq, nat_tests, Place, IsOnBoard, square_at, Placement, man_at}
use Rattle.chess.proofs.Common.{men_of, man_at-men_of, on_board-men_of, square_at-index_of}
use Rattle.chess.proofs.Common.{man_letter, IsSquares, SpellsRank, row, SpellRanks, SpellsMen}
use Rattle.chess.proofs.Common.{parted_at, letter, step, Man}
use Rattle.chess.proofs.Settled.{Settled, settled_like, settled_both, settled_three}
use Rattle.chess.proofs.Settled.{settled_either}
use Rattle.chess.proofs.Settled.{settled_le, settled_below}
use Rattle.chess.proofs.Searches.{search_man}

-- ---- the squares of a rank

-- a letter is one man, and a digit so many empty squares
abbrev IsLetter : ℕ → List (Option Man) → Type 0
IsLetter b own = (man : Man) × (b ≡ man_letter man) × (own ≡ Some man ∷ [])

abbrev IsStep : ℕ → List (Option Man) → Type 0
IsStep b own = (n : ℕ) × (1 ≤ n) × (n ≤ 8) × (b ≡ 48 + n) × (own ≡ replicate n None)

cases_squares : (b : ℕ) (own : List (Option Man)) → IsSquares b own → IsLetter b own ⊎ IsStep b own
cases_squares b own (letter man) = inl (man, refl, refl)
cases_squares b own (step n low high) = inr (n, low, high, refl, refl)

-- a text spells so many squares
abbrev SpellsMany : List ℕ → ℕ → Type 0
SpellsMany x k = (squares : List (Option Man)) × SpellsRank x squares × (length squares ≡ k)

length_none : (n : ℕ) → length {A = Option Man} (replicate n None) ≡ n
length_none zero = refl
length_none (suc n) = ap (λ k. suc k) (length_none n)

-- by its first byte
abbrev ByLetter : ℕ → List ℕ → ℕ → Type 0
ByLetter b x k = (man : Man) × ((b ≡ man_letter man) × (1 ≤ k) × SpellsMany x (k - 1))

abbrev ByStep : ℕ → List ℕ → ℕ → Type 0
ByStep b x k = (n : ℕ) × (n < 9) × (((1 ≤ n) × (n ≤ k)) × (b ≡ 48 + n) × SpellsMany x (k - n))

by_letter : (b : ℕ) (x : List ℕ) (k : ℕ) → ByLetter b x k → SpellsMany (b ∷ x) k
by_letter b x k (man, (is, low, (more, spells, size))) =
    let one = subst (λ c. IsSquares c (Some man ∷ [])) (sym is) (letter man) in
    (Some man ∷ more, (Some man ∷ [], more, refl, one, spells), omega (arith, size))

by_step : (b : ℕ) (x : List ℕ) (k : ℕ) → ByStep b x k → SpellsMany (b ∷ x) k
by_step b x k (n, less, (low, is, (more, spells, size))) =
    let steps =
    subst (λ c. IsSquares c (replicate n None)) (sym is) (step n low.0 (omega arith)) in (
      replicate n None ++ more,
      (replicate n None, more, refl, steps, spells),
      (let high = low.1 in
          omega (arith, size, length_none n, length-append (replicate n None) more)),
    )

spelled_how : (b : ℕ) (x : List ℕ) (k : ℕ) → SpellsMany (b ∷ x) k → ByLetter b x k ⊎ ByStep b x k
spelled_how b x k (squares, (own, more, parted, is, spells), size) =
    let whole : length own + length more ≡ k =
    sym (length-append own more) ∙ ap length (sym parted) ∙ size in
    elim (cases_squares b own is) [
      | inl (man, byte, one) ↦
          let own_size : length own ≡ 1 = ap length one in
          inl (man, (byte, omega arith, (more, spells, omega arith)))
      | inr (n, low, high, byte, all) ↦
          let own_size : length own ≡ n = ap length all ∙ length_none n in
          inr (n, omega arith, ((low, omega arith), byte, (more, spells, omega arith)))
    ]

settled_many : (x : List ℕ) (k : ℕ) → Settled (SpellsMany x k)
settled_many [] k = elim (cases_eq k 0) [
  | inl e ↦ inl ([], refl, sym e)
  | inr none ↦ inr (λ p. none (sym p.2 ∙ ap length p.1))
]
settled_many (b ∷ x) k =
    settled_like (λ h. elim h [ inl a ↦ by_letter b x k a | inr a ↦ by_step b x k a ])
    (spelled_how b x k)
    (settled_either
    (search_man (λ man. (b ≡ man_letter man) × (1 ≤ k) × SpellsMany x (k - 1))
    (λ man. settled_three (cases_eq b (man_letter man)) (settled_le 1 k) (settled_many x (k - 1))))
    (settled_below 9 (λ n. ((1 ≤ n) × (n ≤ k)) × (b ≡ 48 + n) × SpellsMany x (k - n))
    (λ n less.
    settled_three (settled_both (settled_le 1 n) (settled_le n k)) (cases_eq b (48 + n))
    (settled_many x (k - n)))))

-- ---- the ranks, as a map from ranks and files to men

-- the eight squares of a rank, by their files
abbrev eight : (ℕ → Option Man) → List (Option Man)
eight g = g 1 ∷ g 2 ∷ g 3 ∷ g 4 ∷ g 5 ∷ g 6 ∷ g 7 ∷ g 8 ∷ []

abbrev by_file : List (Option Man) → ℕ → Option Man
by_file squares file = get_or squares (file - 1) None

all_eight : (squares : List (Option Man)) → length squares ≡ 8 → squares ≡ eight (by_file squares)
all_eight (a ∷ b ∷ c ∷ d ∷ e ∷ f ∷ g ∷ h ∷ []) size = refl
all_eight (a ∷ b ∷ c ∷ d ∷ e ∷ f ∷ g ∷ h ∷ i ∷ more) size = absurd (omega arith)
all_eight [] size = absurd (omega arith)
all_eight (a ∷ []) size = absurd (omega arith)
all_eight (a ∷ b ∷ []) size = absurd (omega arith)
all_eight (a ∷ b ∷ c ∷ []) size = absurd (omega arith)
all_eight (a ∷ b ∷ c ∷ d ∷ []) size = absurd (omega arith)
all_eight (a ∷ b ∷ c ∷ d ∷ e ∷ []) size = absurd (omega arith)
all_eight (a ∷ b ∷ c ∷ d ∷ e ∷ f ∷ []) size = absurd (omega arith)
all_eight (a ∷ b ∷ c ∷ d ∷ e ∷ f ∷ g ∷ []) size = absurd (omega arith)

-- the texts of ranks from n down spell such a map
abbrev SpellsMap : (ℕ → ℕ → Option Man) → ℕ → List (List ℕ) → Type 0
SpellsMap f n [] = n ≡ 0
SpellsMap f n (x ∷ more) = (1 ≤ n) × SpellsRank x (eight (f n)) × SpellsMap f (n - 1) more

same_map : (f g : ℕ → ℕ → Option Man) (n : ℕ) (texts : List (List ℕ))
    → ((r : ℕ) → r ≤ n → f r ≡ g r)
    → SpellsMap f n texts → SpellsMap g n texts
same_map f g n [] same h = h
same_map f g n (x ∷ more) same h = (
  h.0,
  subst (λ k. SpellsRank x (eight k)) (same n (omega arith)) h.1,
  same_map f g (n - 1) more (λ r low. same r (omega arith)) h.2,
)

abbrev with_rank : (ℕ → ℕ → Option Man) → ℕ → (ℕ → Option Man) → ℕ → ℕ → Option Man
with_rank f n g r file = if r == n then g file else f r file

here_rank : (f : ℕ → ℕ → Option Man) (n : ℕ) (g : ℕ → Option Man) → g ≡ with_rank f n g n
here_rank f n g =
    let same : (n == n) ≡ true = grind (arith, nat_tests) in
    sym (ap (λ b file. if b then g file else f n file) same)

other_rank : (f : ℕ → ℕ → Option Man) (n r : ℕ) (g : ℕ → Option Man) → r ≤ n - 1 → 1 ≤ n
    → f r ≡ with_rank f n g r
other_rank f n r g low some =
    let apart : (r == n) ≡ false = grind (arith, nat_tests) in
    sym (ap (λ b file. if b then g file else f r file) apart)

abbrev IsMapped : ℕ → List (List ℕ) → Type 0
IsMapped n texts = (f : ℕ → ℕ → Option Man) × SpellsMap f n texts

with_first : (n : ℕ) (x : List ℕ) (more : List (List ℕ)) → 1 ≤ n → SpellsMany x 8
    → IsMapped (n - 1) more → IsMapped n (x ∷ more)
with_first n x more low (squares, spells, size) (f, others) =
    let g = by_file squares in
    let first = subst (SpellsRank x) (all_eight squares size) spells in (
      with_rank f n g,
      (
        low,
        subst (λ k. SpellsRank x (eight k)) (here_rank f n g) first,
        same_map f (with_rank f n g) (n - 1) more (λ r below. other_rank f n r g below low) others,
      ),
    )

settled_map : (n : ℕ) (texts : List (List ℕ)) → Settled (IsMapped n texts)
settled_map n [] =
    elim (cases_eq n 0) [ inl e ↦ inl ((λ r file. None), e) | inr none ↦ inr (λ h. none h.1) ]
settled_map n (x ∷ more) =
    settled_like (λ h. with_first n x more h.0 h.1 h.2) (λ h.
    (h.1.0, (eight (h.0 n), h.1.1, refl), (h.0, h.1.2)))
    (settled_three (settled_le 1 n) (settled_many x 8) (settled_map (n - 1) more))

-- ---- a placement has such a map, and each map is that of a placement

abbrev map_of : Placement → ℕ → ℕ → Option Man
map_of p r file = man_at p (record { file = file; rank = r })

map_ranks : (p : Placement) (n : ℕ) (texts : List (List ℕ)) → SpellRanks p n texts
    → SpellsMap (map_of p) n texts
map_ranks p n [] h = h
map_ranks p n (x ∷ more) h = (h.0, h.1, map_ranks p (n - 1) more h.2)

abbrev cells_of : (ℕ → ℕ → Option Man) → ℕ → Option Man
cells_of f k = f (square_at k).rank (square_at k).file

abbrev map_men : (ℕ → ℕ → Option Man) → Placement
map_men f = men_of (cells_of f)

mapped : (f : ℕ → ℕ → Option Man) (s : Place) → IsOnBoard s → man_at (map_men f) s ≡ f s.rank s.file
mapped f s on = man_at-men_of (cells_of f) s on
    ∙ ap (λ (t : Place). f t.rank t.file) (square_at-index_of s on)

mapped_at : (f : ℕ → ℕ → Option Man) (r file : ℕ) → 1 ≤ r → r ≤ 8 → 1 ≤ file → file ≤ 8
    → map_of (map_men f) r file ≡ f r file
mapped_at f r file low high left right =
    mapped f (record { file = file; rank = r })
    (record { file_low = left; file_high = right; rank_low = low; rank_high = high })

row_mapped : (f : ℕ → ℕ → Option Man) (r : ℕ) → 1 ≤ r → r ≤ 8 → row (map_men f) r ≡ eight (f r)
row_mapped f r low high =
    let a = mapped_at f r 1 low high (omega arith) (omega arith) in
    let b = mapped_at f r 2 low high (omega arith) (omega arith) in
    let c = mapped_at f r 3 low high (omega arith) (omega arith) in
    let d = mapped_at f r 4 low high (omega arith) (omega arith) in
    let e = mapped_at f r 5 low high (omega arith) (omega arith) in
    let g = mapped_at f r 6 low high (omega arith) (omega arith) in
    let h = mapped_at f r 7 low high (omega arith) (omega arith) in
    let k = mapped_at f r 8 low high (omega arith) (omega arith) in
    λ i. a i ∷ b i ∷ c i ∷ d i ∷ e i ∷ g i ∷ h i ∷ k i ∷ []

map_spelled : (f : ℕ → ℕ → Option Man) (n : ℕ) (texts : List (List ℕ)) → n ≤ 8 → SpellsMap f n texts
    → SpellRanks (map_men f) n texts
map_spelled f n [] high h = h
map_spelled f n (x ∷ more) high h = (
  h.0,
  subst (SpellsRank x) (sym (row_mapped f n h.0 high)) h.1,
  map_spelled f (n - 1) more (omega arith) h.2,
)

pub settled_men : (x : List ℕ) → Settled ((p : Placement) × SpellsMen x p)
settled_men x =
    settled_like (λ h. (
      map_men h.0,
      record {
        ranks = map_spelled h.0 8 (parted_at 47 x) (omega arith) h.1;
        on_board = λ s man here. on_board-men_of (cells_of h.0) s man here;
      },
    ))
    (λ h. (map_of h.0, map_ranks h.0 8 (parted_at 47 x) h.1.ranks)) (settled_map 8 (parted_at 47 x))
