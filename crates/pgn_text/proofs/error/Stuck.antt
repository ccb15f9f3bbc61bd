-- How long a front of a text can begin a part that may follow, where no part at its front may.
use Rattle.std.proofs.Common.{◌≡◌, ◌≢◌, ℕ, zero, suc, Bool, true, false, List, [], ◌∷◌, ◌++◌, Some}
use Rattle.std.proofs.Common.{IsTrue, codes, take, drop, length, refl, sym, ap, subst, ◌∙◌, ◌⊎◌}
use Rattle.std.proofs.Common.{inl, inr, arith, append_assoc}
use Rattle.std.specs.Prelude.{max, ◌||◌}
use Rattle.pgn_text.proofs.Common.{◌==◌, bytes_eq, list_all, and_parts, and_from, cases_Bool}
use Rattle.pgn_text.proofs.Common.{or_left, or_right, eqb-true, eq-eqb, ne_eqb, cases_eq}
use Rattle.pgn_text.proofs.Common.{false≢true, not_from_false, list_all-append, is_white, is_digit}
use Rattle.pgn_text.proofs.Common.{is_letter, is_word_byte, is_mark, is_check_sign, is_not_brace}
use Rattle.pgn_text.proofs.Common.{is_not_line_feed, begins, run_of, after_run, Part, ByteOrderMark}
use Rattle.pgn_text.proofs.Common.{White, Brace, Line, EscapeLine, Tag, Word, Star, Dot, Glyph}
use Rattle.pgn_text.proofs.Common.{Marks, Open, Close, Standing, Stands, spelled_part, is_result}
use Rattle.pgn_text.proofs.Common.{is_move_text, is_zero_castling, is_number, is_tag, State}
use Rattle.pgn_text.proofs.Common.{in_movetext, step, Longest, Follows, IsPartFront, NoneFollows}
use Rattle.pgn_text.proofs.Common.{no_byte, IsFrontOf, front_length, IsMoveFront, IsResultFront}
use Rattle.pgn_text.proofs.Common.{IsWordFront, is_glyph_front, BeforeName}
use Rattle.pgn_text.proofs.LongestRuns.{run-append-after, list_all-run, stops-after_run}
use Rattle.pgn_text.proofs.error.Furthest.{longest_same, longest_take, longest_max, as_far}
use Rattle.pgn_text.proofs.error.Furthest.{as_far_goes}
use Rattle.pgn_text.proofs.error.Furthest.{as_far_front, greedy}
use Rattle.pgn_text.proofs.error.InTag.{tag_far, tag_longest}
use Rattle.pgn_text.proofs.error.InPart.{nothing_fronts, glyph_digits, open_brace, open_tag}
use Rattle.pgn_text.proofs.error.InPart.{stray_word}
use Rattle.pgn_text.proofs.error.InPart.{stray_glyph, nothing_begins, word_follows, no_result}

-- ---- words that begin with no letter

abbrev pub move_most : List ℕ → ℕ
move_most text = max (max (front_length is_digit [] text) (front_length no_byte (codes "--") text))
    (max (front_length is_check_sign (codes "0-0") text)
    (front_length is_check_sign (codes "0-0-0") text))

abbrev result_most : List ℕ → ℕ
result_most text =
    max (max (front_length no_byte (codes "1-0") text) (front_length no_byte (codes "0-1") text))
    (front_length no_byte (codes "1/2-1/2") text)

move_longest : (text : List ℕ) → Longest IsMoveFront text (move_most text)
move_longest text =
    longest_max (λ x. IsFrontOf is_digit [] x ⊎ IsFrontOf no_byte (codes "--") x)
    (λ x. IsFrontOf is_check_sign (codes "0-0") x
    ⊎ IsFrontOf is_check_sign (codes "0-0-0") x) text _ _
    (longest_max (IsFrontOf is_digit []) (IsFrontOf no_byte (codes "--")) text _ _
    (as_far is_digit [] text) (as_far no_byte (codes "--") text))
    (longest_max (IsFrontOf is_check_sign (codes "0-0")) (IsFrontOf is_check_sign (codes "0-0-0"))
    text _ _
    (as_far is_check_sign (codes "0-0") text) (as_far is_check_sign (codes "0-0-0") text))

result_longest : (text : List ℕ) → Longest IsResultFront text (result_most text)
result_longest text =
    longest_max (λ x. IsFrontOf no_byte (codes "1-0") x
    ⊎ IsFrontOf no_byte (codes "0-1") x) (IsFrontOf no_byte (codes "1/2-1/2")) text _ _
    (longest_max (IsFrontOf no_byte (codes "1-0")) (IsFrontOf no_byte (codes "0-1")) text _ _
    (as_far no_byte (codes "1-0") text) (as_far no_byte (codes "0-1") text))
    (as_far no_byte (codes "1/2-1/2") text)

abbrev pub word_most : Bool → List ℕ → ℕ
word_most true text = max (move_most text) (result_most text)
word_most false text = move_most text

pub word_longest : (closed : Bool) (text : List ℕ)
    → Longest (IsWordFront closed) text (word_most closed text)
word_longest true text =
    longest_same (IsWordFront true) (λ x. IsMoveFront x
    ⊎ IsResultFront x) text (word_most true text)
    (λ x q. elim q [ inl m ↦ inl m | inr r ↦ inr (refl, r) ]) (λ x p.
    elim p [ inl m ↦ inl m | inr r ↦ inr r.1 ])
    (longest_max IsMoveFront IsResultFront text (move_most text) (result_most text)
    (move_longest text) (result_longest text))
word_longest false text =
    longest_same (IsWordFront false) IsMoveFront text (move_most text) (λ x q. inl q)
    (λ x p. elim p [ inl m ↦ m | inr r ↦ absurd (false≢true r.0) ]) (move_longest text)

abbrev get_first : List ℕ → ℕ
get_first [] = 0
get_first (b ∷ rest) = b

module _ (max_depth : ℕ) where
  -- ---- the first byte determines the part

  pub follows_always : (s : State) (p : Part) (t : State) → is_result p ≡ false
      → step max_depth s p ≡ Some t → Follows max_depth s p
  follows_always s p t r e =
      record { ends = λ q. absurd (false≢true (sym r ∙ q)); goes_on = λ _. (t, e) }

  -- a word that begins with a letter may follow
  letter_follows : (place : Standing) (s : State) (b : ℕ) (rest : List ℕ) → is_letter b ≡ true
      → is_word_byte b ≡ true
      → NoneFollows max_depth place s (b ∷ rest) → ⊥
  letter_follows place s b rest letter word nothing =
      nothing (Word (run_of is_word_byte (b ∷ rest))) (after_run is_word_byte (b ∷ rest))
      (run-append-after is_word_byte (b ∷ rest))
      (rw word refl, list_all-run is_word_byte (b ∷ rest), stops-after_run is_word_byte (b ∷ rest))
      (word_follows max_depth s (run_of is_word_byte (b ∷ rest))
      (no_result max_depth (run_of is_word_byte (b ∷ rest)) meant) meant)
    where
      meant : (is_number (run_of is_word_byte (b ∷ rest))
          || is_move_text (run_of is_word_byte (b ∷ rest))) ≡ true
      meant =
          let word_is = run_of is_word_byte (b ∷ rest) in
          let first : begins is_letter word_is ≡ true = rw word letter in
          or_right (is_number word_is) (is_move_text word_is)
          (or_left _ (bytes_eq word_is (codes "--"))
          (or_left (begins is_letter word_is) (is_zero_castling word_is) first))

  all_push : (xs : List ℕ) (b : ℕ) → IsTrue (list_all is_not_brace xs) → is_not_brace b ≡ true
      → IsTrue (list_all is_not_brace (xs ++ b ∷ []))
  all_push xs b all e = list_all-append is_not_brace xs (b ∷ [])
      ∙ and_from _ _ all (and_from (is_not_brace b) true e refl)

  -- a brace comment that ends may follow
  pub brace_missing : (place : Standing) (s : State) (rest : List ℕ)
      → NoneFollows max_depth place s (123 ∷ rest)
      → IsTrue (list_all is_not_brace rest)
  brace_missing place s rest nothing = go rest [] refl nothing
    where
      go : (tail front : List ℕ) → IsTrue (list_all is_not_brace front)
          → NoneFollows max_depth place s (123 ∷ (front ++ tail))
          → IsTrue (list_all is_not_brace tail)
      go [] front all nothing = refl
      go (b ∷ tail) front all nothing = elim (cases_Bool (b == 125)) [
        | inl e ↦ absurd (nothing (Brace front) tail
            (ap (λ l. 123 ∷ l) (ap (λ c. front ++ c ∷ tail) (eqb-true b 125 e)
            ∙ sym (append_assoc front (125 ∷ []) tail)))
            all (follows_always s (Brace front) s refl refl))
        | inr e ↦ and_from (is_not_brace b) (list_all is_not_brace tail)
            (not_from_false (b == 125) e)
            (go tail (front ++ b ∷ []) (all_push front b all (not_from_false (b == 125) e))
            (rw (append_assoc front (b ∷ []) tail) nothing))
      ]

  -- a tag's bracket begins nothing but a tag
  pub bracket_tag : (place : Standing) (p : Part) (y : List ℕ) → spelled_part p ≡ 91 ∷ y
      → Stands place p [] → is_tag p ≡ true
  bracket_tag place (Tag first name second contents third) y e h = refl
  bracket_tag place (Word []) y e h = cc
  bracket_tag place (Marks []) y e h = cc
  bracket_tag place (Word (b ∷ text)) y e h =
      let b_is : b ≡ 91 = cc in
      absurd (false≢true (ap is_word_byte (sym b_is)
      ∙ (and_parts (is_word_byte b) (list_all is_word_byte text) h.1).0))
  bracket_tag place (White b) y e h = let b_is : b ≡ 91 = cc in
      absurd (false≢true (ap is_white (sym b_is) ∙ h))
  bracket_tag place (Marks (b ∷ marks)) y e h =
      let b_is : b ≡ 91 = cc in
      absurd (false≢true (ap is_mark (sym b_is)
      ∙ (and_parts (is_mark b) (list_all is_mark marks) h.1).0))
  bracket_tag place p y e h = absurd (false≢true (ap (begins (λ b. b == 91)) e))

  pub tag_stuck : (s : State) → s.in_tags ≡ false → (p : Part) → is_tag p ≡ true
      → Follows max_depth s p → ⊥
  tag_stuck s no_tags (Tag first name second contents third) e h =
      let next = h.goes_on refl in let g = rw no_tags at next.1 in cc
  tag_stuck s no_tags p e h = cc

  -- the byte order mark
  mark_fronts : (place : Standing) (s : State) → IsTrue place.file_start → (x : List ℕ)
      → IsFrontOf no_byte (187 ∷ 191 ∷ []) x
      → IsPartFront max_depth place s (239 ∷ x)
  mark_fronts place s starts x h =
      let next = as_far_goes no_byte (187 ∷ 191 ∷ []) x h in record {
        part = ByteOrderMark;
        more = next.0;
        spelt = ap (λ l. 239 ∷ l) (sym (next.2 ∙ ends next.1 next.3));
        stands = starts;
        follows = follows_always s ByteOrderMark s refl refl;
      }
    where
      ends : (y : List ℕ) → IsTrue (list_all no_byte y) → 187 ∷ 191 ∷ y ≡ 187 ∷ 191 ∷ []
      ends [] all = refl
      ends (b ∷ y) all = cc

  -- a part that stands by its first bytes alone, and may follow
  pub other_byte : (place : Standing) (s : State) (c : ℕ) (rest : List ℕ)
      → NoneFollows max_depth place s (c ∷ rest)
      → (c == 123) ≡ false → (c == 91) ≡ false → (c == 36) ≡ false
      → (c ≡ 239 → place.file_start ≡ false) → is_word_byte c ≡ false
      → (p : Part) (y : List ℕ) → spelled_part p ≡ c ∷ y → Stands place p [] → Follows max_depth s p
      → ⊥
  other_byte place s c rest nothing brace bracket dollar mark word ByteOrderMark y e h k =
      let is : 239 ≡ c = cc in false≢true (sym (mark (sym is)) ∙ h)
  other_byte place s c rest nothing brace bracket dollar mark word (White b) y e h k =
      let is : b ≡ c = cc in nothing (White b) rest (ap (λ d. d ∷ rest) (sym is)) h k
  other_byte place s c rest nothing brace bracket dollar mark word (Brace text) y e h k =
      false≢true (sym brace ∙ eq-eqb c 123 (let is : 123 ≡ c = cc in sym is))
  other_byte place s c rest nothing brace bracket dollar mark word (Line text) y e h k =
      let is : 59 ≡ c = cc in
      nothing (Line (run_of is_not_line_feed rest)) (after_run is_not_line_feed rest)
      (ap (λ d. d ∷ rest) (sym is) ∙ ap (λ l. 59 ∷ l) (run-append-after is_not_line_feed rest)) (
        list_all-run is_not_line_feed rest,
        stops-after_run is_not_line_feed rest,
      ) (follows_always s _ s refl refl)
  other_byte place s c rest nothing brace bracket dollar mark word (EscapeLine text) y e h k =
      let is : 37 ≡ c = cc in
      nothing (EscapeLine (run_of is_not_line_feed rest)) (after_run is_not_line_feed rest)
      (ap (λ d. d ∷ rest) (sym is) ∙ ap (λ l. 37 ∷ l) (run-append-after is_not_line_feed rest)) (
        h.0,
        list_all-run is_not_line_feed rest,
        stops-after_run is_not_line_feed rest,
      ) (follows_always s _ s refl refl)
  other_byte place s c rest nothing brace bracket dollar mark word
      (Tag first name second contents third) y e h k =
      false≢true (sym bracket ∙ eq-eqb c 91 (let is : 91 ≡ c = cc in sym is))
  other_byte place s c rest nothing brace bracket dollar mark word (Word []) y e h k = cc
  other_byte place s c rest nothing brace bracket dollar mark word (Word (b ∷ text)) y e h k =
      let is : b ≡ c = cc in
      false≢true (sym word ∙ ap is_word_byte (sym is)
      ∙ (and_parts (is_word_byte b) (list_all is_word_byte text) h.1).0)
  other_byte place s c rest nothing brace bracket dollar mark word Star y e h k =
      let is : 42 ≡ c = cc in nothing Star rest (ap (λ d. d ∷ rest) (sym is)) tt k
  other_byte place s c rest nothing brace bracket dollar mark word Dot y e h k =
      let is : 46 ≡ c = cc in nothing Dot rest (ap (λ d. d ∷ rest) (sym is)) tt k
  other_byte place s c rest nothing brace bracket dollar mark word (Glyph digits) y e h k =
      false≢true (sym dollar ∙ eq-eqb c 36 (let is : 36 ≡ c = cc in sym is))
  other_byte place s c rest nothing brace bracket dollar mark word (Marks []) y e h k = cc
  other_byte place s c rest nothing brace bracket dollar mark word (Marks (b ∷ marks)) y e h k =
      let is : b ≡ c = cc in
      let good : is_mark c ≡ true = ap is_mark (sym is)
      ∙ (and_parts (is_mark b) (list_all is_mark marks) h.1).0 in
      nothing (Marks (run_of is_mark (c ∷ rest))) (after_run is_mark (c ∷ rest))
      (run-append-after is_mark (c ∷ rest))
      (rw good refl, list_all-run is_mark (c ∷ rest), stops-after_run is_mark (c ∷ rest))
      (follows_always s (Marks (run_of is_mark (c ∷ rest))) (in_movetext s) refl refl)
  other_byte place s c rest nothing brace bracket dollar mark word Open y e h k =
      let is : 40 ≡ c = cc in nothing Open rest (ap (λ d. d ∷ rest) (sym is)) tt k
  other_byte place s c rest nothing brace bracket dollar mark word Close y e h k =
      let is : 41 ≡ c = cc in nothing Close rest (ap (λ d. d ∷ rest) (sym is)) tt k

  -- ---- so many of the text's first bytes are the front of a part that may follow, by the first
  -- byte

  pub stuck_brace : (place : Standing) (s : State) (rest : List ℕ)
      → NoneFollows max_depth place s (123 ∷ rest)
      → Longest (IsPartFront max_depth place s) (123 ∷ rest) (length (123 ∷ rest))
  stuck_brace place s rest nothing =
      open_brace max_depth place s rest (brace_missing place s rest nothing)

  pub stuck_bracket : (place : Standing) (s : State) (rest : List ℕ) → s.in_tags ≡ false
      → Longest (IsPartFront max_depth place s) (91 ∷ rest) 0
  stuck_bracket place s rest tags =
      nothing_begins max_depth place s 91 rest (λ p y g h k.
      tag_stuck s tags p (bracket_tag place p y g h) k)

  pub stuck_word : (place : Standing) (s : State) (closed : Bool) (b : ℕ) (rest : List ℕ) (n : ℕ)
      → is_word_byte b ≡ true
      → NoneFollows max_depth place s (b ∷ rest) → (closed ≡ true → s.depth ≡ 0)
      → (s.depth ≡ 0 → closed ≡ true)
      → Longest (IsWordFront closed) (b ∷ rest) n
      → Longest (IsPartFront max_depth place s) (b ∷ rest) n
  stuck_word place s closed b rest n word nothing is_closed closes l =
      elim (cases_Bool (is_letter b)) [
        | inl letter ↦ absurd (letter_follows place s b rest letter word nothing)
        | inr letter ↦ stray_word max_depth place s closed b rest n word letter is_closed closes l
      ]

  from_mark : (place : Standing) (s : State) (x more : List ℕ) (p : Part)
      → spelled_part p ≡ 239 ∷ (x ++ more) → Stands place p []
      → IsFrontOf no_byte (187 ∷ 191 ∷ []) x
  from_mark place s x more ByteOrderMark e h =
      as_far_front no_byte (187 ∷ 191
      ∷ []) x more (subst (IsFrontOf no_byte (187 ∷ 191 ∷ [])) (let tail : 187 ∷ 191 ∷ []
      ≡ x ++ more = ap (drop 1) e in tail) (refl, (refl, tt)))
  from_mark place s x more (Word []) e h = cc
  from_mark place s x more (Marks []) e h = cc
  from_mark place s x more (Word (b ∷ text)) e h =
      let b_is : b ≡ 239 = ap (λ l. get_first l) e in
      absurd (false≢true (ap is_word_byte (sym b_is)
      ∙ (and_parts (is_word_byte b) (list_all is_word_byte text) h.1).0))
  from_mark place s x more (White b) e h =
      let b_is : b ≡ 239 = ap (λ l. get_first l) e in
      absurd (false≢true (ap is_white (sym b_is) ∙ h))
  from_mark place s x more (Marks (b ∷ marks)) e h =
      let b_is : b ≡ 239 = ap (λ l. get_first l) e in
      absurd (false≢true (ap is_mark (sym b_is)
      ∙ (and_parts (is_mark b) (list_all is_mark marks) h.1).0))
  from_mark place s x more p e h = absurd (false≢true (ap (begins (λ b. b == 239)) e))

  pub stuck_mark : (place : Standing) (s : State) (rest : List ℕ) (n : ℕ) → IsTrue place.file_start
      → Longest (IsFrontOf no_byte (239 ∷ 187 ∷ 191 ∷ [])) (239 ∷ rest) n
      → Longest (IsPartFront max_depth place s) (239 ∷ rest) n
  stuck_mark place s rest n starts l =
      longest_take (IsPartFront max_depth place s) (IsFrontOf no_byte (239 ∷ 187 ∷ 191 ∷ [])) (239
      ∷ rest) n to from l
    where
      to : (k : ℕ) → IsFrontOf no_byte (239 ∷ 187 ∷ 191 ∷ []) (take k (239 ∷ rest))
          → IsPartFront max_depth place s (take k (239 ∷ rest))
      to zero q = nothing_fronts max_depth place s
      to (suc k) q = mark_fronts place s starts (take k rest) q.1

      from : (k : ℕ) → IsPartFront max_depth place s (take k (239 ∷ rest))
          → IsFrontOf no_byte (239 ∷ 187 ∷ 191 ∷ []) (take k (239 ∷ rest))
      from zero p = tt
      from (suc k) p = (refl, from_mark place s (take k rest) p.more p.part p.spelt p.stands)

  pub stuck_other : (place : Standing) (s : State) (c : ℕ) (rest : List ℕ)
      → NoneFollows max_depth place s (c ∷ rest)
      → (c == 123) ≡ false → (c == 91) ≡ false → (c == 36) ≡ false
      → (c ≡ 239 → place.file_start ≡ false) → is_word_byte c ≡ false
      → Longest (IsPartFront max_depth place s) (c ∷ rest) 0
  stuck_other place s c rest nothing brace bracket dollar mark word =
      nothing_begins max_depth place s c rest
      (other_byte place s c rest nothing brace bracket dollar mark word)

  pub stuck_end : (place : Standing) (s : State) → Longest (IsPartFront max_depth place s) [] 0
  stuck_end place s =
      record {
        within = omega arith;
        here = nothing_fronts max_depth place s;
        most =
            λ k low p. low;
      }

  -- ---- so there is a longest front

  is_zero : (n : ℕ) → (closed : Bool) × (closed ≡ true → n ≡ 0) × (n ≡ 0 → closed ≡ true)
  is_zero zero = (true, λ e. refl, λ e. refl)
  is_zero (suc n) = (false, λ e. absurd (false≢true e), λ e. cc)

  abbrev InPart : Standing → State → List ℕ → Type 0
  InPart place s text = (n : ℕ) × Longest (IsPartFront max_depth place s) text n

  at_tag : (place : Standing) (s : State) (rest : List ℕ) → InPart place s (91 ∷ rest)
  at_tag place s rest = elim (cases_Bool s.in_tags) [
    | inl tags ↦ (
      suc (tag_far BeforeName rest),
      open_tag max_depth place s rest (tag_far BeforeName rest) tags
          (tag_longest BeforeName rest),
    )
    | inr tags ↦ (0, stuck_bracket place s rest tags)
  ]

  at_word : (place : Standing) (s : State) (b : ℕ) (rest : List ℕ) → is_word_byte b ≡ true
      → NoneFollows max_depth place s (b ∷ rest)
      → InPart place s (b ∷ rest)
  at_word place s b rest word nothing =
      let z = is_zero s.depth in (
        word_most z.0 (b ∷ rest),
        stuck_word place s z.0 b rest (word_most z.0 (b ∷ rest)) word nothing z.1 z.2
            (word_longest z.0 (b ∷ rest)),
      )

  at_other : (place : Standing) (s : State) (c : ℕ) (rest : List ℕ)
      → NoneFollows max_depth place s (c ∷ rest)
      → (c == 123) ≡ false → (c == 91) ≡ false → (c == 36) ≡ false → is_word_byte c ≡ false
      → (c ≡ 239) ⊎ (c ≢ 239) → (place.file_start ≡ true) ⊎ (place.file_start ≡ false)
      → InPart place s (c ∷ rest)
  at_other place s c rest nothing brace bracket dollar word (inl e) (inl starts) =
      rw e (
        front_length no_byte (239 ∷ 187 ∷ 191 ∷ []) (239 ∷ rest),
        stuck_mark place s rest _
            starts (as_far no_byte (239 ∷ 187 ∷ 191 ∷ []) (239 ∷ rest)),
      )
  at_other place s c rest nothing brace bracket dollar word (inl e) (inr starts) =
      (0, stuck_other place s c rest nothing brace bracket dollar (λ _. starts) word)
  at_other place s c rest nothing brace bracket dollar word (inr other) starts =
      (0, stuck_other place s c rest nothing brace bracket dollar (λ e. absurd (other e)) word)

  pub in_part : (place : Standing) (s : State) (text : List ℕ) → NoneFollows max_depth place s text
      → InPart place s text
  in_part place s [] nothing = (0, stuck_end place s)
  in_part place s (c ∷ rest) nothing = elim (cases_eq c 123) [
    | inl e ↦ rw e (
      length (123 ∷ rest),
      stuck_brace place s rest (subst (λ d. NoneFollows
          max_depth place s (d ∷ rest)) e nothing),
    )
    | inr brace ↦ elim (cases_eq c 91) [
      | inl e ↦ subst (λ d. InPart place s (d ∷ rest)) (sym e) (at_tag place s rest)
      | inr bracket ↦ elim (cases_eq c 36) [
        | inl e ↦ rw e (
          suc (greedy is_glyph_front [] rest),
          stray_glyph max_depth place s rest _
              (glyph_digits max_depth rest),
        )
        | inr dollar ↦ elim (cases_Bool (is_word_byte c)) [
          | inl word ↦ at_word place s c rest word nothing
          | inr word ↦ at_other place s c rest nothing (ne_eqb c 123 brace) (ne_eqb c 91 bracket)
              (ne_eqb c 36 dollar) word
              (cases_eq c 239) (cases_Bool place.file_start)
        ]
      ]
    ]
  ]
