-- A note names one byte at most, and what is no note.
use Rattle.std.proofs.lemmas.Fmt.{decimal_injective}
use Rattle.pgn_extract.proofs.Common.{◌≡◌, ◌⊎◌, ℕ, ◌+◌, ◌^◌, ◌<◌, List, [], ◌∷◌, ◌++◌, refl, sym}
use Rattle.pgn_extract.proofs.Common.{ap, ◌∙◌, arith, inl, inr, codes, decimal, append_assoc}
use Rattle.pgn_extract.proofs.Common.{append_cancel_left, AreDigits, decimal_digits, same_first}
use Rattle.pgn_extract.specs.Public.Laws.{NoNotes, NoteNamesTheStop}
use Rattle.pgn_extract.specs.Public.Notes.{IsLinePlace, NamesByte, indented}

-- digits end where another byte follows
digits_once : (c : ℕ) → (c < 48) ⊎ (57 < c) → (xs ys more others : List ℕ) → AreDigits xs
    → AreDigits ys → xs ++ c ∷ more ≡ ys ++ c ∷ others → (xs ≡ ys) × (more ≡ others)
digits_once c other [] [] more others a b e = (refl, cc)
digits_once c (inl low) [] (y ∷ ys) more others a b e =
    (let is : c ≡ y = cc in let digit = b.0.0 in absurd (omega arith))
digits_once c (inr high) [] (y ∷ ys) more others a b e =
    (let is : c ≡ y = cc in let digit = b.0.1 in absurd (omega arith))
digits_once c (inl low) (x ∷ xs) [] more others a b e =
    (let is : x ≡ c = cc in let digit = a.0.0 in absurd (omega arith))
digits_once c (inr high) (x ∷ xs) [] more others a b e =
    (let is : x ≡ c = cc in let digit = a.0.1 in absurd (omega arith))
digits_once c other (x ∷ xs) (y ∷ ys) more others a b e =
    let first : x ≡ y = cc in
    let rest : xs ++ c ∷ more ≡ ys ++ c ∷ others = cc in
    let same = digits_once c other xs ys more others a.1 b.1 rest in
    (ap (λ z. z ∷ xs) first ∙ ap (λ zs. y ∷ zs) same.0, same.1)

-- what follows the place of a note
abbrev rest_of : ℕ → List ℕ → List ℕ
rest_of offset after = codes "byte " ++ (decimal offset ++ (codes ": " ++ after))

-- a place with a line, and what follows it
abbrev line_and : ℕ → ℕ → List ℕ → List ℕ
line_and line column after = codes "line "
    ++ (decimal line ++ (codes ", column " ++ (decimal column ++ (codes ", " ++ after))))

placed : (line column : ℕ) (after : List ℕ)
    → (codes "line " ++ decimal line ++ codes ", column " ++ decimal column ++ codes ", ") ++ after
    ≡ line_and line column after
placed line column after = simp append_assoc refl

flat : (offset : ℕ) (place after : List ℕ)
    → codes "  " ++ place ++ codes "byte " ++ decimal offset ++ codes ": " ++ after
    ≡ codes "  " ++ (place ++ rest_of offset after)
flat offset place after = simp append_assoc refl

-- it is the same after each place
after_place : (first second : List ℕ) (offset other : ℕ) (more others : List ℕ) → IsLinePlace first
    → IsLinePlace second → first ++ rest_of offset more ≡ second ++ rest_of other others
    → rest_of offset more ≡ rest_of other others
after_place first second offset other more others (inl none) (inl empty) e =
    sym (ap (λ p. p ++ rest_of offset more) none) ∙ e ∙ ap (λ p. p ++ rest_of other others) empty
after_place first second offset other more others (inl none) (inr (line, column, is)) e =
    let both = sym (ap (λ p. p ++ rest_of offset more) none) ∙ e
    ∙ ap (λ p. p ++ rest_of other others) is ∙ placed line column (rest_of other others) in
    let letters : 98 ≡ 108 = same_first _ _ _ _ both in
    absurd (omega (arith, letters))
after_place first second offset other more others (inr (line, column, is)) (inl none) e =
    let both = sym (placed line column (rest_of offset more))
    ∙ sym (ap (λ p. p ++ rest_of offset more) is) ∙ e ∙ ap (λ p. p ++ rest_of other others) none
    in
    let letters : 108 ≡ 98 = same_first _ _ _ _ both in
    absurd (omega (arith, letters))
after_place first second offset other more others (inr (line, column, is)) (inr (row, at, also)) e =
    let both : line_and line column (rest_of offset more) ≡ line_and row at (rest_of other others) =
    sym (placed line column (rest_of offset more)) ∙ sym (ap (λ p. p ++ rest_of offset more) is) ∙ e
    ∙ ap (λ p. p ++ rest_of other others) also ∙ placed row at (rest_of other others) in
    let lines = append_cancel_left (codes "line ") (decimal line
    ++ (codes ", column " ++ (decimal column ++ (codes ", " ++ rest_of offset more))))
    (decimal row ++ (codes ", column " ++ (decimal at ++ (codes ", " ++ rest_of other others))))
    both in
    let after_line = (digits_once 44 (inl (omega arith)) (decimal line) (decimal row)
    (codes " column " ++ (decimal column ++ (codes ", " ++ rest_of offset more))) (codes " column "
    ++ (decimal at ++ (codes ", " ++ rest_of other others)))
    (decimal_digits line) (decimal_digits row) lines).1 in
    let columns = append_cancel_left (codes " column ") (decimal column
    ++ (codes ", " ++ rest_of offset more)) (decimal at
    ++ (codes ", " ++ rest_of other others)) after_line in
    let after_column = (digits_once 44 (inl (omega arith)) (decimal column) (decimal at) (codes " "
    ++ rest_of offset more) (codes " " ++ rest_of other others)
    (decimal_digits column) (decimal_digits at) columns).1 in
    append_cancel_left (codes " ") (rest_of offset more) (rest_of other others) after_column

names_once : (offset other : ℕ) (note : List ℕ) → offset < 2 ^ 64 → other < 2 ^ 64
    → NamesByte offset note → NamesByte other note → offset ≡ other
names_once offset other note small fits (place, after, is_place, is)
    (second, rest, also_place, also) =
    let places =
    append_cancel_left (codes "  ") (place ++ rest_of offset after) (second ++ rest_of other rest)
    (sym (flat offset place after) ∙ sym is ∙ also ∙ flat other second rest) in
    let numbers =
    append_cancel_left (codes "byte ") (decimal offset ++ (codes ": " ++ after)) (decimal other
    ++ (codes ": " ++ rest))
    (after_place place second offset other after rest is_place also_place places) in
    decimal_injective offset other small fits
    (digits_once 58 (inr (omega arith)) (decimal offset) (decimal other) (codes " "
    ++ after) (codes " " ++ rest) (decimal_digits offset) (decimal_digits other) numbers).0

pub one_byte : NoteNamesTheStop
one_byte offset byte bytes note small fits (agreeing, stops, names) also =
    let within = stops.within in
    (agreeing, names_once byte (offset + agreeing) note fits (omega arith) also names, stops)

no_lines : (lines : List (List ℕ)) → codes "x" ≡ indented lines → ⊥
no_lines [] e = cc
no_lines (line ∷ more) e = cc

pub no_notes : NoNotes
no_notes = (λ note. no_lines note.0 note.2, λ note. cc, λ place. no_place place)
  where
    no_place : IsLinePlace (codes "x") → ⊥
    no_place (inl e) = cc
    no_place (inr (line, column, e)) = cc
