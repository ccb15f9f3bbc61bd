-- Where a text is cut: the tests by place, and the blocks between two cuts.
use Rattle.std.specs.Prelude.{◌≢◌, IsTrue, None}
use Rattle.std.specs.Cmp.Lexicographic.{pointwise}
use Rattle.std.proofs.lemmas.List.{drop_more, get_or_append_left, take-append-le, drop-append-le}
use Rattle.std.proofs.lemmas.List.{drop_at, append-nil, get_or-append_right, get_or-drop, drop-drop}
use Rattle.std.proofs.Math.Seq.{drop-append-add}
use Rattle.std.proofs.lemmas.Bool.Decides.{Decides-eqb}
use Rattle.std.proofs.lemmas.Slice.Eq.{starts_is}
use Rattle.memchr.specs.Find.{OccursAt, FindsNeedle}
use Rattle.memchr.proofs.lemmas.MatchLemmas.{OccursAt-part, OccursAt-from_part}
use Rattle.pgn_text.proofs.Common.{◌≡◌, ℕ, ◌+◌, ◌-◌, ◌<◌, ◌≤◌, Bool, true, false, List, [], ◌∷◌}
use Rattle.pgn_text.proofs.Common.{◌++◌, length, get_or, take, drop, refl, sym, ap, ◌∙◌, subst}
use Rattle.pgn_text.proofs.Common.{arith, length-append, length-drop, append_assoc, inl, inr, ◌&&◌}
use Rattle.pgn_text.proofs.Common.{◌==◌, nat_eq, Some, starts_with, and_parts, both_ways, cases_lt}
use Rattle.pgn_text.proofs.Common.{eqb-true, false_from_ne_true, event_line, is_event_line}
use Rattle.pgn_text.proofs.Common.{IsFirstBlock, is_cut, NoCutBefore, IsNextCut}

-- the test of a cut, over the byte before and the eight bytes from there on
abbrev cut_test : ℕ → List ℕ → Bool
cut_test byte shown = (byte == 10) && pointwise nat_eq event_line shown

-- an event line shows its eight bytes, so bytes after them change nothing
pub cut_stays : (text more : List ℕ) (j : ℕ) → 0 < j → j + 8 ≤ length text
    → is_cut (text ++ more) j ≡ is_cut text j
cut_stays text more j low fits =
    let here : j - 1 < length text = omega arith in
    let within : j ≤ length text = omega arith in
    let room : 8 ≤ length (drop j text) = omega (arith, length-drop j text) in
    let shown : take 8 (drop j (text ++ more)) ≡ take 8 (drop j text) =
    ap (take 8) (drop-append-le j text more within) ∙ take-append-le 8 (drop j text) more room in
    ap (λ b. cut_test b (take 8 (drop j (text ++ more))))
    (get_or_append_left text more 0 (j - 1) here)
    ∙ ap (cut_test (get_or text (j - 1) 0)) shown

-- a place after some bytes of a text is a cut as the two sides show it
pub seam : (before x y : List ℕ) → 0 < length x
    → is_cut (before ++ (x ++ y)) (length before + length x) ≡ is_event_line x y
seam before x y some =
    let at = length before + length x in
    let last : get_or (before ++ (x ++ y)) (at - 1) 0 ≡ get_or x (length x - 1) 0 =
    let low : length before ≤ at - 1 = omega arith in
    let less : length x - 1 < length x = omega arith in
    let same : at - 1 - length before ≡ length x - 1 = omega arith in
    get_or-append_right before (x ++ y) (length before) (at - 1) 0 refl low
    ∙ ap (λ i. get_or (x ++ y) i 0) same ∙ get_or_append_left x y 0 (length x - 1) less in
    let rest : drop at (before ++ (x ++ y)) ≡ y =
    ap (drop at) (sym (append_assoc before x y))
    ∙ drop_at (before ++ x) y at (length-append before x) in
    ap (λ b. cut_test b (take 8 (drop at (before ++ (x ++ y))))) last
    ∙ ap (λ t. cut_test (get_or x (length x - 1) 0) (take 8 t)) rest

-- no cut up to a place, and none from there on
pub no_cut_join : (text : List ℕ) (from mid end : ℕ) → NoCutBefore text from mid
    → NoCutBefore text mid end → NoCutBefore text from end
no_cut_join text from mid end front back j low high =
    elim (cases_lt j mid) [ inl less ↦ front j low less | inr more ↦ back j more high ]

-- bytes with no cut within, and a cut or the text's end after them, are a first block
pub first_block : (before bytes ahead : List ℕ)
    → NoCutBefore (before ++ (bytes ++ ahead)) (length before + 1) (length before + length bytes)
    → (ahead ≢ [] → IsTrue (is_event_line bytes ahead)) → IsFirstBlock bytes ahead
first_block before bytes ahead none ends = record {
  ends = ends;
  whole = λ x y parted some other here.
      let sizes : length bytes ≡ length x + length y = ap length parted ∙ length-append x y in
      let low : 0 < length x = nonempty x some in
      let less : 0 < length y = nonempty y other in
      let same : before ++ (bytes ++ ahead) ≡ before ++ (x ++ (y ++ ahead)) =
      ap (λ b. before ++ (b ++ ahead)) parted ∙ ap (λ t. before ++ t) (append_assoc x y ahead) in
      let no : is_cut (before ++ (bytes ++ ahead)) (length before + length x) ≡ false =
      none (length before + length x) (omega arith) (omega arith) in
      let yes : is_cut (before ++ (x ++ (y ++ ahead))) (length before + length x) ≡ true =
      seam before x (y ++ ahead) low ∙ here in
      both_ways (is_cut (before ++ (bytes ++ ahead)) (length before + length x)) no
      (ap (λ t. is_cut t (length before + length x)) same ∙ yes);
}
  where
    nonempty : (xs : List ℕ) → xs ≢ [] → 0 < length xs
    nonempty [] some = absurd (some refl)
    nonempty (x ∷ xs) some = omega arith

-- the same whatever follows a cut, since its bytes are there
pub first_block_at_cut : (before bytes ahead rest : List ℕ) → 0 < length bytes
    → NoCutBefore (before ++ (bytes ++ ahead)) (length before + 1) (length before + length bytes)
    → is_cut (before ++ (bytes ++ ahead)) (length before + length bytes) ≡ true
    → length before + length bytes + 8 ≤ length (before ++ (bytes ++ ahead))
    → IsFirstBlock bytes (ahead ++ rest)
first_block_at_cut before bytes ahead rest some none here fits =
    let text = before ++ (bytes ++ ahead) in
    let same : text ++ rest ≡ before ++ (bytes ++ (ahead ++ rest)) =
    append_assoc before (bytes ++ ahead) rest
    ∙ ap (λ t. before ++ t) (append_assoc bytes ahead rest) in
    let still : NoCutBefore (before ++ (bytes ++ (ahead ++ rest))) (length before
    + 1) (length before + length bytes) =
    λ j low high. ap (λ t. is_cut t j) (sym same)
    ∙ cut_stays text rest j (omega arith) (omega arith) ∙ none j low high in
    first_block before bytes (ahead ++ rest) still
    (λ _. sym (seam before bytes (ahead ++ rest) some)
    ∙ ap (λ t. is_cut t (length before + length bytes)) (sym same)
    ∙ cut_stays text rest (length before + length bytes) (omega arith) fits ∙ here)

-- and at the text's end
pub first_block_at_end : (before bytes : List ℕ)
    → NoCutBefore (before ++ bytes) (length before + 1) (length (before ++ bytes))
    → IsFirstBlock bytes []
first_block_at_end before bytes none =
    let same : before ++ (bytes ++ []) ≡ before ++ bytes =
    ap (λ t. before ++ t) (append-nil bytes) in
    first_block before bytes []
    (λ j low high. ap (λ t. is_cut t j) same
    ∙ none j low (omega (arith, length-append before bytes)))
    (λ some. absurd (some refl))

-- where the first bytes of a text are given up, and those held begin at a place: a cut after that
-- place is one of the text
pub cut_moved : (gone held : List ℕ) (begin j : ℕ) → begin < j
    → is_cut (gone ++ drop begin held) (length gone + (j - begin)) ≡ is_cut held j
cut_moved gone held begin j low =
    let at = length gone + (j - begin) in
    let low' : length gone ≤ at - 1 = omega arith in
    let same : at - 1 - length gone ≡ j - begin - 1 = omega arith in
    let place : begin + (j - begin - 1) ≡ j - 1 = omega arith in
    let back : begin + (j - begin) ≡ j = omega arith in
    let byte : get_or (gone ++ drop begin held) (at - 1) 0 ≡ get_or held (j - 1) 0 =
    get_or-append_right gone (drop begin held) (length gone) (at - 1) 0 refl low'
    ∙ ap (λ i. get_or (drop begin held) i 0) same ∙ get_or-drop begin held (j - begin - 1) 0
    ∙ ap (λ i. get_or held i 0) place in
    let rest : drop at (gone ++ drop begin held) ≡ drop j held =
    drop-append-add gone (drop begin held) (j - begin) ∙ drop-drop (j - begin) begin held
    ∙ ap (λ i. drop i held) back in
    ap (λ b. cut_test b (take 8 (drop at (gone ++ drop begin held)))) byte
    ∙ ap (λ t. cut_test (get_or held (j - 1) 0) (take 8 t)) rest

-- and so where there is none
pub no_cut_moved : (gone held : List ℕ) (begin from end : ℕ) → begin < from
    → NoCutBefore held from end
    → NoCutBefore (gone ++ drop begin held) (length gone + (from - begin)) (length gone
    + (end - begin))
no_cut_moved gone held begin from end low none j front back =
    let there = begin + (j - length gone) in
    let same : length gone + (there - begin) ≡ j = omega arith in
    ap (is_cut (gone ++ drop begin held)) (sym same) ∙ cut_moved gone held begin there (omega arith)
    ∙ none there (omega arith) (omega arith)

-- the bytes of a cut: a line feed, and the event line after it
abbrev cut_bytes : List ℕ
cut_bytes = 10 ∷ event_line

-- what stands after the place before a cut
cut_shown : (text : List ℕ) (from k : ℕ) → 0 < from → from + k ≤ length text
    → drop k (drop (from - 1) text) ≡ get_or text (from + k - 1) 0 ∷ drop (from + k) text
cut_shown text from k some within =
    drop-drop k (from - 1) text ∙ ap (λ i. drop i text) (omega arith)
    ∙ drop_more text (from + k - 1) 0 (omega arith)
    ∙ ap (λ i. get_or text (from + k - 1) 0 ∷ drop i text) (omega arith)

-- where the bytes of a cut stand, there is one
occurs_cut : (text : List ℕ) (from k : ℕ) → 0 < from → from ≤ length text + 1
    → OccursAt (drop (from - 1) text) cut_bytes k
    → (is_cut text (from + k) ≡ true) × (from + k + 8 ≤ length text)
occurs_cut text from k some within occurs =
    let fits : k + 9 ≤ length text - (from - 1) =
    omega (arith, occurs.fits, length-drop (from - 1) text) in
    let shown : take 9 (get_or text (from + k - 1) 0 ∷ drop (from + k) text) ≡ cut_bytes =
    ap (take 9) (sym (cut_shown text from k some (omega arith)))
    ∙ OccursAt-part (drop (from - 1) text) cut_bytes k occurs in
    let first : get_or text (from + k - 1) 0 ≡ 10 = ap (λ xs. get_or xs 0 0) shown in
    let rest : take 8 (drop (from + k) text) ≡ event_line = ap (drop 1) shown in (
      ap (λ b. cut_test b (take 8 (drop (from + k) text))) first ∙ ap (cut_test 10) rest,
      omega arith,
    )

-- where there is a cut, its bytes stand
cut_occurs : (text : List ℕ) (from j : ℕ) → 0 < from → from ≤ j → is_cut text j ≡ true
    → OccursAt (drop (from - 1) text) cut_bytes (j - from)
cut_occurs text from j some low cut =
    let parts : ((get_or text (j - 1) 0 == 10) ≡ true)
    × (starts_with nat_eq (drop j text) event_line ≡ true) = and_parts _ _ cut in
    let begins : drop j text ≡ event_line ++ drop 8 (drop j text) =
    (starts_is Decides-eqb (drop j text) event_line true (sym parts.1)).0 refl in
    let fits : j + 8 ≤ length text =
    omega (
      arith,
      length-drop j text,
      ap length begins
          ∙ length-append event_line (drop 8 (drop j text)),
    ) in
    let there : from + (j - from) ≡ j = omega arith in
    let shown : drop (j - from) (drop (from - 1) text) ≡ 10 ∷ drop j text =
    cut_shown text from (j - from) some (omega arith)
    ∙ ap (λ i. get_or text (i - 1) 0 ∷ drop i text) there
    ∙ ap (λ b. b ∷ drop j text) (eqb-true (get_or text (j - 1) 0) 10 parts.0) in
    OccursAt-from_part (drop (from - 1) text) cut_bytes (j
    - from) (omega (arith, length-drop (from - 1) text))
    (ap (take 9) shown ∙ ap (λ xs. 10 ∷ take 8 xs) begins)

-- before a place up to which the bytes of a cut stand nowhere there is no cut
no_cut_found : (text : List ℕ) (from k : ℕ) → 0 < from
    → ((i : ℕ) → i < k → OccursAt (drop (from - 1) text) cut_bytes i → ⊥)
    → NoCutBefore text from (from + k)
no_cut_found text from k some none j low high =
    false_from_ne_true _ (λ cut.
    none (j - from) (omega arith) (cut_occurs text from j some low cut))

-- where the bytes of a cut are not found there is none
pub no_cut : (text hay : List ℕ) (from : ℕ) → 0 < from → from ≤ length text + 1
    → hay ≡ drop (from - 1) text → FindsNeedle hay cut_bytes 0 None
    → NoCutBefore text from (length text)
no_cut text hay from some within is nowhere j low high =
    no_cut_found text from (length text + 1 - from) some
    (λ i below occurs.
    nowhere i (omega arith) (omega (arith, ap length is, length-drop (from - 1) text))
    (subst (λ xs. OccursAt xs cut_bytes i) (sym is) occurs))
    j low (omega arith)

-- where they are found first, the first one is
pub first_cut : (text hay : List ℕ) (from k : ℕ) → 0 < from → from ≤ length text + 1
    → hay ≡ drop (from - 1) text → FindsNeedle hay cut_bytes 0 (Some k)
    → IsNextCut text from (from + k)
first_cut text hay from k some within is found =
    let here : (is_cut text (from + k) ≡ true) × (from + k + 8 ≤ length text) =
    occurs_cut text from k some within (subst (λ xs. OccursAt xs cut_bytes k) is found.1) in
    record {
      low = omega arith;
      seen = here.1;
      here = here.0;
      before = no_cut_found text from k some (λ i below occurs.
          found.0.before i (omega arith) below
          (subst (λ xs. OccursAt xs cut_bytes i) (sym is) occurs));
    }
