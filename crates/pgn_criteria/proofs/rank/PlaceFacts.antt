-- Places between the squares of a rank that items reach.
use Rattle.std.proofs.lemmas.Nat.{or_lt}
use Rattle.std.proofs.Math.Pow.{pow-lt}
use Rattle.std.proofs.lemmas.Nat.Bits.{bit_at-pow_other, bit_at_set_same, bit_at_set_other}
use Rattle.std.proofs.lemmas.Nat.Bits.{bit_at-trailing_zeros, bit_at_above, bit_at_mask_inside}
use Rattle.std.proofs.lemmas.Nat.Bits.{bit_at_mask_below, bit_at_mask_above}
use Rattle.std.specs.Int.{trailing_zeros}
use mir.Val.{bits}
use mir.Syntax.{w16}
use Rattle.pgn_criteria.proofs.Common.{◌≡◌, ◌≢◌, ◌↔◌, ◌<◌, ◌≤◌, ◌+◌, ◌-◌, ◌*◌, ◌%◌, ◌^◌, bit_or, ℕ}
use Rattle.pgn_criteria.proofs.Common.{suc, Bool, false, IsTrue, List, [], ◌∷◌, ◌++◌, length, take}
use Rattle.pgn_criteria.proofs.Common.{drop, get_or, Option, None, refl, sym, ap, ◌∙◌, subst, arith}
use Rattle.pgn_criteria.proofs.Common.{inl, inr, length-drop, length-append, drop-cons}
use Rattle.pgn_criteria.proofs.Common.{drop-append_seam, take-append-drop, drop-drop}
use Rattle.pgn_criteria.proofs.Common.{nil_from_length, cases_lt, cases_eq, bit_at-zero, Man}
use Rattle.pgn_criteria.proofs.Common.{CanBeSplit, items_of, IsOf, Fits, Reads, IsNextItem}
use Rattle.pgn_criteria.proofs.Common.{HasNoItem, IsAfter, Ends, Goes, SquareTest, Item, Run, Many}
use Rattle.pgn_criteria.specs.Private.Items.{Has}
use Rattle.pgn_criteria.proofs.SetFacts.{some_items}

-- the square that the rest of the squares begins with
abbrev IsNext : List (Option Man) → ℕ → Option Man → List (Option Man) → Type 0
IsNext squares place square more = (place < length squares) × (get_or squares place None ≡ square)
    × (drop (place + 1) squares ≡ more)

next_square : (squares : List (Option Man)) (place : ℕ) (square : Option Man)
    (more : List (Option Man)) → drop place squares ≡ square ∷ more
    → IsNext squares place square more
next_square squares place square more cut =
    let size : length (drop place squares) ≡ suc (length more) = ap length cut in
    let within : place < length squares = omega (arith, size, length-drop place squares) in
    let front : drop place squares ≡ get_or squares place None ∷ drop (suc place) squares =
    drop-cons squares place None within in
    let next : suc place ≡ place + 1 = omega arith in
    let after : drop (suc place) squares ≡ more = cc in
    (within, cc, ap (λ n. drop n squares) (sym next) ∙ after)

-- a run of one square more
pub run_more : (class : SquareTest) (squares : List (Option Man)) (reached next left count : ℕ)
    (items : List (List ℕ)) → length squares ≡ 8 → left ≡ count + 1
    → ((place : ℕ) → Has next place ↔ IsAfter class squares reached 8 place)
    → Goes squares next (Run class count) items ↔ Goes squares reached (Run class left) items
run_more class squares reached next left count items eight more reports = (
  λ goes.
      let after : IsAfter class squares reached 8 goes.0 = (reports goes.0).0 goes.2 in
      let before = after.0 in
      let within : before < length squares = omega (arith, after.2, eight) in
      let step : suc before ≡ goes.0 = omega (arith, after.1) in
      let cut : drop before squares ≡ get_or squares before None ∷ (goes.3.0 ++ goes.3.1) =
      drop-cons squares before None within
      ∙ ap (λ n. get_or squares before None ∷ drop n squares) step
      ∙ ap (λ x. get_or squares before None ∷ x) goes.3.2 in
      let size : suc (length goes.3.0) ≡ left = omega (arith, goes.3.3.0) in
      let low : before ≤ 8 = omega (arith, after.2) in (
        before,
        low,
        after.3,
        (
          get_or squares before None ∷ goes.3.0,
          goes.3.1,
          cut,
          (size, (after.4, goes.3.3.1)),
          goes.3.4,
        ),
      ),
  λ goes. from_front goes.0 goes.2 goes.3.0 goes.3.1 goes.3.2 goes.3.3 goes.3.4,
)
  where
    from_front : (place : ℕ) → Has reached place → (own rest : List (Option Man))
        → drop place squares ≡ own ++ rest → Fits (Run class left) own → CanBeSplit items rest
        → Goes squares next (Run class count) items
    from_front place has [] rest cut fits split = absurd (omega (arith, fits.0))
    from_front place has (square ∷ own) rest cut fits split =
        let front : IsNext squares place square (own ++ rest) =
        next_square squares place square (own ++ rest) cut in
        let low : place < 8 = omega (arith, front.0) in
        let here : Has next (place + 1) = (reports (place + 1)).1
        (place, refl, low, has, subst (IsOf class) (sym front.1) fits.1.0) in
        let size : length own ≡ count = omega (arith, fits.0) in
        let high : place + 1 ≤ 8 = omega arith in
        (place + 1, high, here, (own, rest, front.2, (size, fits.1.1), split))

-- a run of no square
pub run_none : (class : SquareTest) (squares : List (Option Man)) (reached : ℕ)
    (items : List (List ℕ)) → Ends squares reached items ↔ Goes squares reached (Run class 0) items
run_none class squares reached items = (
  λ ends. (ends.0, ends.1, ends.2, ([], drop ends.0 squares, refl, (refl, tt), ends.3)),
  λ goes. from_none goes.0 goes.1 goes.2 goes.3.0 goes.3.1 goes.3.2 goes.3.3 goes.3.4,
)
  where
    from_none : (place : ℕ) → place ≤ 8 → Has reached place → (own rest : List (Option Man))
        → drop place squares ≡ own ++ rest → Fits (Run class 0) own → CanBeSplit items rest
        → Ends squares reached items
    from_none place low has [] rest cut fits split =
        (place, low, has, subst (CanBeSplit items) (sym cut) split)
    from_none place low has (square ∷ own) rest cut fits split = absurd (omega (arith, fits.0))

-- any number of squares
pub many : (squares : List (Option Man)) (reached next : ℕ) (items : List (List ℕ))
    → length squares ≡ 8
    → ((place : ℕ) → Has next place
    ↔ ((first : ℕ) × (first ≤ place) × (place ≤ 8) × Has reached first))
    → Ends squares next items ↔ Goes squares reached Many items
many squares reached next items eight reports = (
  λ ends.
      let from : (first : ℕ) × (first ≤ ends.0) × (ends.0 ≤ 8) × Has reached first =
      (reports ends.0).0 ends.2 in
      let far = ends.0 - from.0 in
      let sum : from.0 + far ≡ ends.0 = omega (arith, from.1) in
      let after : drop far (drop from.0 squares) ≡ drop ends.0 squares =
      drop-drop far from.0 squares ∙ ap (λ n. drop n squares) sum in
      let low : from.0 ≤ 8 = omega (arith, from.1, from.2) in (
        from.0,
        low,
        from.3,
        (
          take far (drop from.0 squares),
          drop far (drop from.0 squares),
          sym (take-append-drop far (drop from.0 squares)),
          tt,
          subst (CanBeSplit items) (sym after) ends.3,
        ),
      ),
  λ goes.
      let own = goes.3.0 in
      let rest = goes.3.1 in
      let place = goes.0 + length own in
      let size : length (drop goes.0 squares) ≡ length (own ++ rest) = ap length goes.3.2 in
      let low : place ≤ 8 =
      omega (arith, size, length-drop goes.0 squares, length-append own rest, goes.1) in
      let after : drop place squares ≡ rest =
      sym (drop-drop (length own) goes.0 squares) ∙ ap (drop (length own)) goes.3.2
      ∙ drop-append_seam own rest in
      let from : goes.0 ≤ place = omega arith in (
        place,
        low,
        (reports place).1 (goes.0, from, low, goes.2),
        subst (CanBeSplit items) (sym after) goes.3.4,
      ),
)

-- the item is the next one
pub goes_item : (squares : List (Option Man)) (reached : ℕ) (text : List ℕ) (item : Item)
    (items : List (List ℕ)) → Reads text item
    → Goes squares reached item items ↔ Ends squares reached (text ∷ items)
goes_item squares reached text item items reads = (
  λ goes. (
    goes.0,
    goes.1,
    goes.2,
    (goes.3.0, goes.3.1, goes.3.2, (reads.1 goes.3.0).1 goes.3.3, goes.3.4),
  ),
  λ ends. (
    ends.0,
    ends.1,
    ends.2,
    (ends.3.0, ends.3.1, ends.3.2, (reads.1 ends.3.0).0 ends.3.3, ends.3.4),
  ),
)

-- one more square is looked at
pub place_kept : (class : SquareTest) (squares : List (Option Man)) (reached next end : ℕ)
    → ((Has reached end × IsOf class (get_or squares end None)) → ⊥)
    → ((place : ℕ) → Has next place ↔ IsAfter class squares reached end place) → (place : ℕ)
    → Has next place ↔ IsAfter class squares reached (end + 1) place
place_kept class squares reached next end not_here reports place = (
  λ has. let is = (reports place).0 has in let low : is.0 < end + 1 = omega (arith, is.2) in
      (is.0, is.1, low, is.3, is.4),
  λ is. elim (cases_lt is.0 end) [
    | inl below ↦ (reports place).1 (is.0, is.1, below, is.3, is.4)
    | inr above ↦
        let same : is.0 ≡ end = omega (arith, is.2) in
        absurd (not_here (rw (← same) (is.3, is.4)))
  ],
)

pub place_added : (class : SquareTest) (squares : List (Option Man)) (reached next end : ℕ)
    → end < 8 → Has reached end → IsOf class (get_or squares end None)
    → ((place : ℕ) → Has next place ↔ IsAfter class squares reached end place)
    → (place : ℕ) → Has (bit_or next (1 * 2 ^ (end + 1) % 2 ^ bits w16)) place
    ↔ IsAfter class squares reached (end + 1) place
place_added class squares reached next end low has_end is_end reports place =
    let within : end + 1 < bits w16 = omega arith in
    elim (cases_eq place (end + 1)) [
      | inl same ↦ (
        (λ has. let less : end < end + 1 = omega arith in (end, same, less, has_end, is_end)),
        (λ is. rw same (bit_at_set_same w16 next (end + 1) within)),
      )
      | inr other ↦ (
        (λ has.
            let old : Has next place = sym (bit_at_set_other w16 next (end + 1) within place other)
            ∙ has in
            let is = (reports place).0 old in let less : is.0 < end + 1 = omega (arith, is.2) in
            (is.0, is.1, less, is.3, is.4)),
        (λ is.
            let below : is.0 < end = omega (arith, is.1, is.2, other) in
            bit_at_set_other w16 next (end + 1) within place other
            ∙ (reports place).1 (is.0, is.1, below, is.3, is.4)),
      )
    ]

-- a place more stays below the end of the bits
pub added_low : (next end : ℕ) → end < 8 → next < 2 ^ 9
    → bit_or next (1 * 2 ^ (end + 1) % 2 ^ bits w16) < 2 ^ 9
added_low next end low below =
    let less : end + 1 < 9 = omega arith in
    let small : 2 ^ (end + 1) < 2 ^ 9 = pow-lt less in
    let whole : 1 * 2 ^ (end + 1) % 2 ^ bits w16 ≡ 2 ^ (end + 1) = omega (arith, small) in
    or_lt 9 next _ below (rw whole small)

-- the places from the first on
pub spread_places : (reached : ℕ) → 0 < reached → reached < 2 ^ 9
    → (1 * 2 ^ trailing_zeros w16 reached % 2 ^ bits w16 ≤ 512)
    × ((place : ℕ) → Has (512 - 1 * 2 ^ trailing_zeros w16 reached % 2 ^ bits w16) place
    ↔ ((first : ℕ) × (first ≤ place) × (place ≤ 8) × Has reached first))
spread_places reached some below =
    let first = trailing_zeros w16 reached in
    let fits : reached < 2 ^ bits w16 = omega arith in
    let found = bit_at-trailing_zeros w16 reached some fits in
    let low : first < 9 =
    elim (cases_lt first 9) [
      | inl less ↦ less
      | inr more ↦ absurd
          (cc (bit_at_above reached 9 first below more, found.1))
    ] in
    let small : 2 ^ first < 2 ^ 9 = pow-lt low in
    let whole : 1 * 2 ^ first % 2 ^ bits w16 ≡ 2 ^ first = omega (arith, small) in (
      (let least : 2 ^ first ≤ 512 = omega (arith, small) in rw whole least),
      λ place. rw whole (
        (λ has.
            elim (cases_lt place first) [
              | inl before ↦ absurd (cc (bit_at_mask_below first 9 place before, has))
              | inr after ↦ elim (cases_lt place 9) [
                | inl within ↦ let high : place ≤ 8 = omega arith in (first, after, high, found.1)
                | inr above ↦ absurd (cc (bit_at_mask_above first 9 place above, has))
              ]
            ]),
        (λ is.
            let after : first ≤ place =
            elim (cases_lt is.0 first) [
              | inl before ↦ absurd (cc (found.2 is.0 before, is.3))
              | inr from ↦ omega (arith, is.1, from)
            ] in
            let within : place < 9 = omega (arith, is.2) in
            bit_at_mask_inside first 9 place after within),
      ),
    )

-- from no place nothing is reached
pub none_reached : (place : ℕ) → Has 0 place → ⊥
none_reached place has = absurd (cc (bit_at-zero place, has))

-- before the first square
pub at_start : (squares : List (Option Man)) (items : List (List ℕ))
    → Ends squares 1 items ↔ CanBeSplit items squares
at_start squares items = (
  λ ends. elim (cases_eq ends.0 0) [
    | inl here ↦ subst (λ n. CanBeSplit items (drop n squares)) here ends.3
    | inr other ↦ absurd (cc (bit_at-pow_other 0 ends.0 other, ends.2))
  ],
  λ split. (0, omega arith, refl, split),
)

-- after the last
pub at_end : (squares : List (Option Man)) (reached : ℕ) → length squares ≡ 8
    → Ends squares reached [] ↔ Has reached 8
at_end squares reached eight = (
  λ ends.
      let size : length (drop ends.0 squares) ≡ 0 = ap length ends.3 in
      let same : ends.0 ≡ 8 = omega (arith, size, length-drop ends.0 squares, ends.1) in
      subst (Has reached) same ends.2,
  λ has.
      let size : length (drop 8 squares) ≡ 0 = omega (arith, length-drop 8 squares) in
      (8, omega arith, has, nil_from_length (drop 8 squares) size),
)

-- the next item is taken
pub item_kept : (squares : List (Option Man)) (reached next : ℕ) (rest after : List ℕ) (item : Item)
    (Whole : Type 0) → IsNextItem rest item after
    → ((more : List (List ℕ)) → Ends squares next more ↔ Goes squares reached item more)
    → (Ends squares reached (items_of rest) ↔ Whole) → Ends squares next (items_of after) ↔ Whole
item_kept squares reached next rest after item Whole is step kept =
    let taken = goes_item squares reached is.text item (items_of after) is.reads in (
      λ ends. kept.0
          (subst (Ends squares reached) (sym is.cut) (taken.0 ((step (items_of after)).0 ends))),
      λ whole. (step (items_of after)).1
          (taken.1 (subst (Ends squares reached) is.cut (kept.1 whole))),
    )

-- there is none, or nothing is reached: then the whole fails
pub no_item_fails : (squares : List (Option Man)) (reached : ℕ) (rest : List ℕ) (Whole : Type 0)
    → rest ≢ [] → HasNoItem rest
    → (Ends squares reached (items_of rest) ↔ Whole) → IsTrue false ↔ Whole
no_item_fails squares reached [] Whole some none kept = absurd (some refl)
no_item_fails squares reached (b ∷ x) Whole some none kept =
    let first = some_items b x in (
      λ t. absurd (cc),
      λ whole.
          let ends = subst (Ends squares reached) first.2 (kept.1 whole) in
          absurd (none first.0 first.1 first.2 (ends.3.0, ends.3.3)),
    )

pub none_fails : (squares : List (Option Man)) (reached : ℕ) (items : List (List ℕ))
    (Whole : Type 0) → reached ≡ 0 → (Ends squares reached items ↔ Whole) → IsTrue false ↔ Whole
none_fails squares reached items Whole none kept = (
  λ t. absurd (cc),
  λ whole. let ends = kept.1 whole in
      absurd (none_reached ends.0 (subst (λ r. Has r ends.0) none ends.2)),
)

-- the last place is among the reached ones
pub whole_reached : (squares : List (Option Man)) (reached : ℕ) (rest : List ℕ) (r : Bool)
    (Whole : Type 0) → length squares ≡ 8 → rest ≡ []
    → (IsTrue r ↔ Has reached 8) → (Ends squares reached (items_of rest) ↔ Whole) → IsTrue r ↔ Whole
whole_reached squares reached rest r Whole eight none reports kept =
    let end = at_end squares reached eight in (
      λ t. kept.0 (subst (λ x. Ends squares reached (items_of x)) (sym none) (end.1 (reports.0 t))),
      λ whole. reports.1
          (end.0 (subst (λ x. Ends squares reached (items_of x)) none (kept.1 whole))),
    )
