-- How a rank is read byte by byte, and put on the board square by square.
use Rattle.std.specs.Prelude.{slice_set}
use Rattle.std.proofs.lemmas.List.{same_lists, length-replicate, get_or_past, get_or_append_left}
use Rattle.std.proofs.lemmas.List.{get_or-append_right}
use Rattle.chess.proofs.Common.{◌≡◌, ◌⊎◌, ◌≤◌, ◌<◌, ◌+◌, ◌-◌, ℕ, zero, suc, List, [], ◌∷◌, ◌++◌}
use Rattle.chess.proofs.Common.{length, get_or, Option, Some, None, inl, inr, sym, ap, refl, subst}
use Rattle.chess.proofs.Common.{◌∙◌, arith, length-append, replicate, cases_eq, cases_lt}
use Rattle.chess.proofs.Common.{get_or-set_same, get_or-set_other, append-nil, append_assoc}
use Rattle.chess.proofs.Common.{get_or-replicate, Place, Placement, man_at, with_man, man_at-same}
use Rattle.chess.proofs.Common.{man_at-other, no_cell, man_letter, IsSquares, SpellsRank, row}
use Rattle.chess.proofs.Common.{letter, step, IsRow, IsPutUpTo, Man}
use Rattle.chess.specs.Private.FenWords.{IsByteOf}
use Rattle.chess.proofs.LetterFacts.{one_man, letter_high}

-- ---- what a byte spells

pub step_only : (b : ℕ) (own : List (Option Man)) → IsSquares b own → b ≤ 56
    → own ≡ replicate (b - 48) None
step_only _ _ (letter man) high = let low = letter_high man.side man.kind in absurd (omega arith)
step_only _ _ (step n low high) small = let same : n ≡ 48 + n - 48 = omega arith in
    ap (λ m. replicate m None) same

pub step_byte : (b : ℕ) → 49 ≤ b → b ≤ 56 → IsByteOf b None (b - 48)
step_byte b low high =
    let back : 48 + (b - 48) ≡ b = omega arith in
    record {
      spelled =
          rw back at (step (b - 48) (omega arith) (omega arith));
      only = λ own s. step_only b own s high;
      some = omega arith;
      few = omega arith;
      one = inl refl;
    }

pub letter_only : (b : ℕ) (own : List (Option Man)) (man : Man) → IsSquares b own
    → man_letter man ≡ b → own ≡ Some man ∷ []
letter_only _ _ man (letter other) e = ap (λ m. Some m ∷ []) (sym (one_man man other e))
letter_only _ _ man (step n low high) e = let far = letter_high man.side man.kind in
    absurd (omega arith)

pub letter_byte : (b : ℕ) (man : Man) → man_letter man ≡ b → IsByteOf b (Some man) 1
letter_byte b man e = record {
  spelled = subst (λ n. IsSquares n (Some man ∷ [])) e (letter man);
  only = λ own s. letter_only b own man s e;
  some = omega arith;
  few = omega arith;
  one = inr refl;
}

-- ---- a rank byte by byte

pub row_start : (text : List ℕ) → IsRow (replicate 8 None) 0 text text
row_start text = record {
  done = [];
  size = refl;
  small = omega arith;
  full = refl;
  shown = λ k. no_cell 8 k;
  onward = λ more s. s;
  back = λ all s. (all, s, refl);
}

-- what stands in a row from the square of the byte on
shown_here : (squares done : List (Option Man)) (file count : ℕ) (man : Option Man)
    → length done ≡ file → length squares ≡ 8 → 1 ≤ count → file + count ≤ 8
    → ((man ≡ None) ⊎ (count ≡ 1)) → ((k : ℕ) → get_or squares k None ≡ get_or done k None)
    → (k : ℕ) → file ≤ k → get_or (slice_set squares file man) k None
    ≡ get_or (replicate count man) (k - file) None
shown_here squares done file count man size full some small one shown k from =
    elim (cases_eq k file) [
      | inl same ↦
          let zero_off : k - file ≡ 0 = omega arith in
          ap (λ n. get_or (slice_set squares file man) n None) same
          ∙ get_or-set_same squares file man None (omega arith)
          ∙ sym (ap (λ n. get_or (replicate count man) n None) zero_off
          ∙ get_or-replicate count 0 man None (omega arith))
      | inr other ↦
          get_or-set_other squares file k man None other ∙ shown k
          ∙ get_or_past done k None (omega arith)
          ∙ sym (elim one [
            | inl none ↦ ap (λ m. get_or (replicate count m) (k - file) None) none
                ∙ no_cell count (k - file)
            | inr single ↦ get_or_past (replicate count man) (k - file) None
                (let long = length-replicate count man in omega arith)
          ])
    ]

-- what stands in a row after a byte more
shown_more : (squares done : List (Option Man)) (file count : ℕ) (man : Option Man)
    → length done ≡ file → length squares ≡ 8 → 1 ≤ count → file + count ≤ 8
    → ((man ≡ None) ⊎ (count ≡ 1)) → ((k : ℕ) → get_or squares k None ≡ get_or done k None)
    → (k : ℕ) → get_or (slice_set squares file man) k None
    ≡ get_or (done ++ replicate count man) k None
shown_more squares done file count man size full some small one shown k = elim (cases_lt k file) [
  | inl before ↦
      get_or-set_other squares file k man None (λ e. let same : k ≡ file = e in omega arith)
      ∙ shown k
      ∙ sym (get_or_append_left done (replicate count man) None k (omega arith))
  | inr from ↦
      shown_here squares done file count man size full some small one shown k from
      ∙ sym (get_or-append_right done (replicate count man) file k None size from)
]

more_length : (done : List (Option Man)) (file count : ℕ) (man : Option Man) → length done ≡ file
    → length (done ++ replicate count man) ≡ file + count
more_length done file count man size =
    let sum = length-append done (replicate count man) in let long = length-replicate count man in
    omega arith

-- what the rest spells, with the byte's squares before it
spelled_more : (rest text : List ℕ) (b : ℕ) (after : List ℕ) (own more : List (Option Man))
    → rest ≡ b ∷ after → IsSquares b own → SpellsRank after more
    → SpellsRank rest (own ++ more)
spelled_more rest text b after own more e byte spelled =
    subst (λ x. SpellsRank x (own ++ more)) (sym e) (own, more, refl, byte, spelled)

back_more : (text : List ℕ) (b : ℕ) (after : List ℕ) (done : List (Option Man)) (man : Option Man)
    (count : ℕ)
    → ((all : List (Option Man)) → SpellsRank text all
    → (more : List (Option Man)) × SpellsRank (b ∷ after) more × (all ≡ done ++ more))
    → IsByteOf b man count → (all : List (Option Man)) → SpellsRank text all
    → (more : List (Option Man)) × SpellsRank after more
    × (all ≡ (done ++ replicate count man) ++ more)
back_more text b after done man count back byte all spelled =
    let before = back all spelled in
    let found = before.1 in (
      found.1,
      found.4,
      before.2 ∙ ap (λ x. done ++ x) (found.2 ∙ ap (λ x. x ++ found.1) (byte.only found.0 found.3))
          ∙ sym (append_assoc done (replicate count man) found.1),
    )

pub row_more : (squares : List (Option Man)) (file : ℕ) (rest text : List ℕ) (man : Option Man)
    (count b : ℕ) (after : List ℕ)
    → IsRow squares file rest text → rest ≡ b ∷ after → IsByteOf b man count → file + count ≤ 8
    → length (slice_set squares file man) ≡ 8
    → IsRow (slice_set squares file man) (file + count) after text
row_more squares file rest text man count b after r e byte small full = record {
  done = r.done ++ replicate count man;
  size = more_length r.done file count man r.size;
  small = small;
  full = full;
  shown = shown_more squares r.done file count man r.size r.full byte.some small byte.one r.shown;
  onward = λ more spelled.
      subst (SpellsRank text) (sym (append_assoc r.done (replicate count man) more))
      (r.onward (replicate count man
      ++ more) (spelled_more rest text b after (replicate count man) more e byte.spelled
      spelled));
  back = back_more text b after r.done man count
      (rw e at r.back) byte;
}

any_default : (xs : List (Option Man)) (k : ℕ) (d : Option Man) → k < length xs
    → get_or xs k d ≡ get_or xs k None
any_default [] k d less = absurd (omega arith)
any_default (x ∷ xs) zero d less = refl
any_default (x ∷ xs) (suc k) d less = any_default xs k d (omega arith)

pub row_end : (squares : List (Option Man)) (file : ℕ) (rest text : List ℕ)
    → IsRow squares file rest text → rest ≡ [] → 8 ≤ file → SpellsRank text squares
row_end squares file rest text r none far =
    let size = r.size in let full = r.full in let small = r.small in
    let same : r.done ≡ squares = same_lists r.done squares (omega arith)
    (λ k d less. any_default r.done k d less ∙ sym (r.shown k)
    ∙ sym (any_default squares k d (omega arith))) in
    subst (SpellsRank text) (append-nil r.done
    ∙ same) (r.onward [] (subst (λ x. SpellsRank x []) (sym none) refl))

-- ---- a rank put on the board

pub put_more : (old new newer : Placement) (squares : List (Option Man)) (r n : ℕ) (s : Place)
    (man : Option Man) → IsPutUpTo old new squares r n
    → newer ≡ with_man new s man → s ≡ record { file = n + 1; rank = r }
    → man ≡ get_or squares n None → IsPutUpTo old newer squares r (n + 1)
put_more old new newer squares r n s man before e here at = record {
  put = λ k less. elim (cases_eq k n) [
    | inl same ↦
        ap (λ p. man_at p (record { file = k + 1; rank = r })) e
        ∙ ap (λ (t : Place). man_at (with_man new s man) t)
        ((λ i. record { file = same i + 1; rank = r }) ∙ sym here)
        ∙ man_at-same new s man ∙ at ∙ ap (λ m. get_or squares m None) (sym same)
    | inr other ↦
        ap (λ p. man_at p (record { file = k + 1; rank = r })) e
        ∙ man_at-other new s (record { file = k + 1; rank = r }) man
        (λ clash. let files : k + 1 ≡ n + 1 = ap (λ (t : Place). t.file) (clash ∙ here) in
        other (omega arith))
        ∙ before.put k (omega arith)
  ];
  others = λ t apart.
      ap (λ p. man_at p t) e
      ∙ man_at-other new s t man (λ clash. apart (ap (λ (u : Place). u.rank) (clash ∙ here)))
      ∙ before.others t apart;
}

eight : (xs : List (Option Man)) → length xs ≡ 8
    → xs ≡ get_or xs 0 None ∷ get_or xs 1 None ∷ get_or xs 2 None ∷ get_or xs 3 None
    ∷ get_or xs 4 None
    ∷ get_or xs 5 None ∷ get_or xs 6 None ∷ get_or xs 7 None ∷ []
eight [] l = absurd (omega arith)
eight (a ∷ []) l = absurd (omega arith)
eight (a ∷ b ∷ []) l = absurd (omega arith)
eight (a ∷ b ∷ c ∷ []) l = absurd (omega arith)
eight (a ∷ b ∷ c ∷ d ∷ []) l = absurd (omega arith)
eight (a ∷ b ∷ c ∷ d ∷ e ∷ []) l = absurd (omega arith)
eight (a ∷ b ∷ c ∷ d ∷ e ∷ f ∷ []) l = absurd (omega arith)
eight (a ∷ b ∷ c ∷ d ∷ e ∷ f ∷ g ∷ []) l = absurd (omega arith)
eight (a ∷ b ∷ c ∷ d ∷ e ∷ f ∷ g ∷ h ∷ []) l = refl
eight (a ∷ b ∷ c ∷ d ∷ e ∷ f ∷ g ∷ h ∷ m ∷ more) l = absurd (omega arith)

pub put_all : (old new : Placement) (squares : List (Option Man)) (r n : ℕ)
    → IsPutUpTo old new squares r n → 8 ≤ n → length squares ≡ 8 → row new r ≡ squares
put_all old new squares r n done far full =
    (λ i. done.put 0 (omega arith) i ∷ done.put 1 (omega arith) i ∷ done.put 2 (omega arith) i
    ∷ done.put 3 (omega arith) i ∷ done.put 4 (omega arith) i
    ∷ done.put 5 (omega arith) i ∷ done.put 6 (omega arith) i ∷ done.put 7 (omega arith) i ∷ [])
    ∙ sym (eight squares full)
