-- How far a text can be the front of one part that may follow, by its first byte.
use Rattle.std.proofs.Common.{◌≡◌, ℕ, zero, suc, ◌+◌, ◌≤◌, Bool, true, false, List, [], ◌∷◌, ◌++◌}
use Rattle.std.proofs.Common.{Some, IsTrue, codes, take, length, refl, sym, ap, subst, ◌∙◌, inl}
use Rattle.std.proofs.Common.{inr, arith, append-nil, length-append}
use Rattle.std.specs.Prelude.{◌==◌, ◌&&◌, ◌||◌, nat_le, bytes_eq, ◌*◌, ◌-◌}
use Rattle.std.proofs.lemmas.Bool.{le-leb, leb-true}
use Rattle.pgn_text.proofs.Common.{list_all, and_parts, and_from, cases_Bool, or_cases, or_left}
use Rattle.pgn_text.proofs.Common.{or_right, false≢true, list_all-append, is_white, is_digit}
use Rattle.pgn_text.proofs.Common.{is_letter, is_word_byte, is_mark, is_not_brace, begins, Part}
use Rattle.pgn_text.proofs.Common.{ByteOrderMark, White, Brace, Line, EscapeLine, Tag, Word, Star}
use Rattle.pgn_text.proofs.Common.{Dot, Glyph, Marks, Open, Close, Standing, Stands, spelled_part}
use Rattle.pgn_text.proofs.Common.{number_from, number_of, is_number, is_result_word, is_move_text}
use Rattle.pgn_text.proofs.Common.{is_tag, State, in_movetext, step, Longest, Follows, IsPartFront}
use Rattle.pgn_text.proofs.Common.{IsWordFront, is_glyph_front, Ends, IsTagFront, BeforeName}
use Rattle.pgn_text.proofs.laws.Classes.{is_white-word, is_word_byte-mark}
use Rattle.pgn_text.proofs.error.Furthest.{longest_after, longest_nothing, longest_take, greedy}
use Rattle.pgn_text.proofs.error.Furthest.{longest_greedy}
use Rattle.pgn_text.proofs.error.InTag.{tag_is, tag_ends}
use Rattle.pgn_text.proofs.error.InWord.{move_far, result_far, move_goes, result_goes}
use Rattle.pgn_text.proofs.TagLemmas.{bytes_eq-same}

module _ (max_depth : ℕ) where
  -- nothing is a front of white space
  pub nothing_fronts : (place : Standing) (s : State) → IsPartFront max_depth place s []
  nothing_fronts place s = record {
    part = White 32;
    more = 32 ∷ [];
    spelt = refl;
    stands = refl;
    follows = record { ends = λ r. cc; goes_on = λ r. (s, refl) };
  }

  -- ---- a comment whose brace does not come

  brace_fronts : (place : Standing) (s : State) (x : List ℕ) → IsTrue (list_all is_not_brace x)
      → IsPartFront max_depth place s (123 ∷ x)
  brace_fronts place s x all = record {
    part = Brace x;
    more = 125 ∷ [];
    spelt = refl;
    stands = all;
    follows = record { ends = λ r. cc; goes_on = λ r. (s, refl) };
  }

  pub all_take : (test : ℕ → Bool) (xs : List ℕ) (k : ℕ) → IsTrue (list_all test xs)
      → IsTrue (list_all test (take k xs))
  all_take test xs zero all = refl
  all_take test [] (suc k) all = refl
  all_take test (b ∷ xs) (suc k) all =
      let both = and_parts (test b) (list_all test xs) all in
      and_from (test b) (list_all test (take k xs)) both.0 (all_take test xs k both.1)

  take_whole : (xs : List ℕ) → take (length xs) xs ≡ xs
  take_whole [] = refl
  take_whole (b ∷ xs) = ap (λ l. b ∷ l) (take_whole xs)

  pub open_brace : (place : Standing) (s : State) (rest : List ℕ)
      → IsTrue (list_all is_not_brace rest)
      → Longest (IsPartFront max_depth place s) (123 ∷ rest) (length (123 ∷ rest))
  open_brace place s rest all = record {
    within = omega arith;
    here = subst (IsPartFront max_depth place s) (ap (λ l. 123 ∷ l) (sym (take_whole rest)))
        (brace_fronts place s rest all);
    most = λ k low p. low;
  }

  -- ---- a tag

  tag_goes : (place : Standing) (s : State) → s.in_tags ≡ true → (x : List ℕ)
      → IsTagFront BeforeName x
      → IsPartFront max_depth place s (91 ∷ x)
  tag_goes place s in_tags x (more, ends) =
      let tag = tag_is place (x ++ more) ends in record {
        part = tag.0;
        more = more;
        spelt = tag.1;
        stands = tag.3;
        follows = follows tag.0 tag.2;
      }
    where
      follows : (p : Part) → is_tag p ≡ true → Follows max_depth s p
      follows (Tag first name second contents third) e =
          record { ends = λ r. cc; goes_on = λ r. (s, rw in_tags refl) }
      follows p e = cc

  -- the part that begins with a bracket is a tag
  from_tag : (place : Standing) (s : State) (x : List ℕ) (p : Part) (more : List ℕ)
      → spelled_part p ≡ 91 ∷ (x ++ more)
      → Stands place p [] → IsTagFront BeforeName x
  from_tag place s x (Tag first name second contents third) more e h = (
    more,
    (let tail : first ++ (name ++ (second ++ (34 ∷ (contents ++ (34 ∷ (third ++ 93 ∷ []))))))
        ≡ x ++ more = cc in
        subst (Ends BeforeName) tail (tag_ends place first name second contents third [] h)),
  )
  from_tag place s x (Word (b ∷ text)) more e h =
      let b_is : b ≡ 91 = cc in
      let words : is_word_byte b ≡ true =
      (and_parts (is_word_byte b) (list_all is_word_byte text) h.1).0 in
      absurd (false≢true (ap is_word_byte (sym b_is) ∙ words))
  from_tag place s x (White b) more e h =
      let b_is : b ≡ 91 = cc in absurd (false≢true (ap is_white (sym b_is) ∙ h))
  from_tag place s x (Marks (b ∷ marks)) more e h =
      let b_is : b ≡ 91 = cc in
      absurd (false≢true (ap is_mark (sym b_is)
      ∙ (and_parts (is_mark b) (list_all is_mark marks) h.1).0))
  from_tag place s x (Word []) more e h = cc
  from_tag place s x (Marks []) more e h = cc
  from_tag place s x p more e h = absurd (false≢true (ap (begins (λ b. b == 91)) e))

  pub open_tag : (place : Standing) (s : State) (rest : List ℕ) (n : ℕ) → s.in_tags ≡ true
      → Longest (IsTagFront BeforeName) rest n
      → Longest (IsPartFront max_depth place s) (91 ∷ rest) (suc n)
  open_tag place s rest n in_tags l =
      longest_after (IsPartFront max_depth place s) (IsTagFront BeforeName) 91 rest n
      (tag_goes place s in_tags) (λ x p. from_tag place s x p.part p.more p.spelt p.stands) l

  -- ---- a word

  -- what a part that begins with a word's byte is
  pub from_word : (place : Standing) (b : ℕ) (y : List ℕ) → is_word_byte b ≡ true → (p : Part)
      → spelled_part p ≡ b ∷ y
      → Stands place p [] → p ≡ Word (b ∷ y)
  from_word place b y word (Word text) e h = ap Word e
  from_word place b y word ByteOrderMark e h = let is : 239 ≡ b = cc in
      absurd (false≢true (ap is_word_byte is ∙ word))
  from_word place b y word (White c) e h =
      let is : c ≡ b = cc in
      absurd (false≢true (sym (is_white-word b word) ∙ ap is_white (sym is) ∙ h))
  from_word place b y word (Brace text) e h = let is : 123 ≡ b = cc in
      absurd (false≢true (ap is_word_byte is ∙ word))
  from_word place b y word (Line text) e h = let is : 59 ≡ b = cc in
      absurd (false≢true (ap is_word_byte is ∙ word))
  from_word place b y word (EscapeLine text) e h = let is : 37 ≡ b = cc in
      absurd (false≢true (ap is_word_byte is ∙ word))
  from_word place b y word (Tag first name second contents third) e h =
      let is : 91 ≡ b = cc in absurd (false≢true (ap is_word_byte is ∙ word))
  from_word place b y word Star e h = let is : 42 ≡ b = cc in
      absurd (false≢true (ap is_word_byte is ∙ word))
  from_word place b y word Dot e h = let is : 46 ≡ b = cc in
      absurd (false≢true (ap is_word_byte is ∙ word))
  from_word place b y word (Glyph digits) e h = let is : 36 ≡ b = cc in
      absurd (false≢true (ap is_word_byte is ∙ word))
  from_word place b y word (Marks []) e h = cc
  from_word place b y word (Marks (c ∷ marks)) e h =
      let is : c ≡ b = cc in
      absurd (false≢true
      (sym (is_word_byte-mark c (and_parts (is_mark c) (list_all is_mark marks) h.1).0)
      ∙ ap is_word_byte is ∙ word))
  from_word place b y word Open e h = let is : 40 ≡ b = cc in
      absurd (false≢true (ap is_word_byte is ∙ word))
  from_word place b y word Close e h = let is : 41 ≡ b = cc in
      absurd (false≢true (ap is_word_byte is ∙ word))

  pub word_step : (s : State) (text : List ℕ) (t : State) → step max_depth s (Word text) ≡ Some t
      → (is_number text || is_move_text text) ≡ true
  word_step s text t e = elim (cases_Bool (is_move_text text)) [
    | inl m ↦ or_right (is_number text) (is_move_text text) m
    | inr m ↦ elim (cases_Bool (is_number text)) [
      | inl n ↦ or_left (is_number text) (is_move_text text) n
      | inr n ↦ let g = rw (m, n) at e in cc
    ]
  ]

  word_front : (s : State) (closed : Bool) (b : ℕ) (x more : List ℕ) → is_letter b ≡ false
      → (s.depth ≡ 0 → closed ≡ true)
      → Follows max_depth s (Word ((b ∷ x) ++ more)) → IsWordFront closed (b ∷ x)
  word_front s closed b x more letter closes h =
      elim (cases_Bool (is_result_word ((b ∷ x) ++ more))) [
        | inl r ↦ inr (closes (h.ends r), result_far (b ∷ x) more r)
        | inr r ↦ let next = h.goes_on r in
            inl (move_far b x more letter (word_step s ((b ∷ x) ++ more) next.0 next.1))
      ]

  pub word_follows : (s : State) (text : List ℕ) → is_result_word text ≡ false
      → (is_number text || is_move_text text) ≡ true
      → Follows max_depth s (Word text)
  word_follows s text r e = record {
    ends = λ q. absurd (false≢true (sym r ∙ q));
    goes_on = λ _. elim (cases_Bool (is_move_text text)) [
      | inl m ↦ (record { in_tags = false; depth = s.depth; has_move = true }, rw m refl)
      | inr m ↦ elim (or_cases (is_number text) (is_move_text text) e) [
        | inl n ↦ (in_movetext s, rw (m, n) refl)
        | inr k ↦ absurd (false≢true (sym m ∙ k))
      ]
    ];
  }

  result_no_move : (w : List ℕ) → is_result_word w ≡ true → (is_number w || is_move_text w) ≡ false
  result_no_move w e = elim (or_cases (bytes_eq w (codes "1-0") || bytes_eq w (codes "0-1")) _ e) [
    | inl l ↦ elim (or_cases (bytes_eq w (codes "1-0")) _ l) [
      | inl p ↦ ap (λ v. is_number v || is_move_text v) (bytes_eq-same w (codes "1-0") p)
      | inr q ↦ ap (λ v. is_number v || is_move_text v) (bytes_eq-same w (codes "0-1") q)
    ]
    | inr r ↦ ap (λ v. is_number v || is_move_text v) (bytes_eq-same w (codes "1/2-1/2") r)
  ]

  pub no_result : (w : List ℕ) → (is_number w || is_move_text w) ≡ true → is_result_word w ≡ false
  no_result w e = elim (cases_Bool (is_result_word w)) [
    | inl r ↦ absurd (false≢true (sym (result_no_move w r) ∙ e))
    | inr r ↦ r
  ]

  moved_front : (place : Standing) (s : State) (b : ℕ) (x more : List ℕ)
      → IsTrue (list_all is_word_byte ((b ∷ x) ++ more))
      → (is_number ((b ∷ x) ++ more) || is_move_text ((b ∷ x) ++ more)) ≡ true
      → IsPartFront max_depth place s (b ∷ x)
  moved_front place s b x more words e = record {
    part = Word ((b ∷ x) ++ more);
    more = more;
    spelt = refl;
    stands = (refl, words, refl);
    follows = word_follows s ((b ∷ x) ++ more) (no_result ((b ∷ x) ++ more) e) e;
  }

  word_fronts : (place : Standing) (s : State) (closed : Bool) (b : ℕ) (x : List ℕ)
      → (closed ≡ true → s.depth ≡ 0)
      → IsWordFront closed (b ∷ x) → IsPartFront max_depth place s (b ∷ x)
  word_fronts place s closed b x is_closed (inl h) = elim (move_goes b x h) [
    | inl g ↦ moved_front place s b x g.more g.words
        (or_left (is_number ((b ∷ x) ++ g.more)) (is_move_text ((b ∷ x) ++ g.more)) g.meant)
    | inr g ↦ moved_front place s b x g.more g.words
        (or_right (is_number ((b ∷ x) ++ g.more)) (is_move_text ((b ∷ x) ++ g.more)) g.meant)
  ]
  word_fronts place s closed b x is_closed (inr h) =
      let g = result_goes (b ∷ x) h.1 in record {
        part = Word ((b ∷ x) ++ g.more);
        more = g.more;
        spelt = refl;
        stands = (refl, g.words, refl);
        follows = record {
          ends = λ _. is_closed h.0;
          goes_on =
              λ r. absurd (false≢true (sym r ∙ g.meant));
        };
      }

  -- a word that begins with no letter
  pub stray_word : (place : Standing) (s : State) (closed : Bool) (b : ℕ) (rest : List ℕ) (n : ℕ)
      → is_word_byte b ≡ true
      → is_letter b ≡ false → (closed ≡ true → s.depth ≡ 0) → (s.depth ≡ 0 → closed ≡ true)
      → Longest (IsWordFront closed) (b ∷ rest) n
      → Longest (IsPartFront max_depth place s) (b ∷ rest) n
  stray_word place s closed b rest n word letter is_closed closes l =
      longest_take (IsPartFront max_depth place s) (IsWordFront closed) (b ∷ rest) n to from l
    where
      to : (k : ℕ) → IsWordFront closed (take k (b ∷ rest))
          → IsPartFront max_depth place s (take k (b ∷ rest))
      to zero q = nothing_fronts place s
      to (suc k) q = word_fronts place s closed b (take k rest) is_closed q

      from : (k : ℕ) → IsPartFront max_depth place s (take k (b ∷ rest))
          → IsWordFront closed (take k (b ∷ rest))
      from zero p = inl (inl (inl tt))
      from (suc k) p =
          word_front s closed b (take k rest) p.more letter closes
          (subst (Follows max_depth s)
          (from_word place b (take k rest ++ p.more) word p.part p.spelt p.stands) p.follows)

  -- ---- a NAG

  grows : (n : ℕ) (y : List ℕ) → n ≤ number_from n y
  grows n [] = omega arith
  grows n (d ∷ y) = omega (arith, grows (10 * n + (d - 48)) y)

  number_more : (n : ℕ) (x y : List ℕ) → number_from n x ≤ number_from n (x ++ y)
  number_more n [] y = grows n y
  number_more n (d ∷ x) y = number_more (10 * n + (d - 48)) x y

  is_short_zero : is_glyph_front (48 ∷ []) ≡ true
  is_short_zero = refl

  short_front : (x y : List ℕ) → is_glyph_front (x ++ y) ≡ true → is_glyph_front x ≡ true
  short_front x y e =
      let one =
      and_parts (list_all is_digit (x ++ y)) (nat_le (length (x ++ y)) 3
      && nat_le (number_of (x ++ y)) 255) e in
      let two = and_parts (nat_le (length (x ++ y)) 3) (nat_le (number_of (x ++ y)) 255) one.1 in
      and_from _ _
      (and_parts (list_all is_digit x) (list_all is_digit y) (sym (list_all-append is_digit x y)
      ∙ one.0)).0
      (and_from _ _
      (le-leb (length x) 3
      (omega (arith, leb-true (length (x ++ y)) 3 two.0, length-append x y)))
      (le-leb (number_of x) 255
      (omega (arith, leb-true (number_of (x ++ y)) 255 two.1, number_more 0 x y))))

  glyph_fronts : (place : Standing) (s : State) (x : List ℕ) → is_glyph_front x ≡ true
      → IsPartFront max_depth place s (36 ∷ x)
  glyph_fronts place s [] e = record {
    part = Glyph (48 ∷ []);
    more = 48 ∷ [];
    spelt = refl;
    stands = (refl, refl, refl, refl, refl);
    follows = record { ends = λ r. cc; goes_on = λ r. (in_movetext s, refl) };
  }
  glyph_fronts place s (d ∷ x) e =
      let one =
      and_parts (list_all is_digit (d ∷ x)) (nat_le (length (d ∷ x)) 3
      && nat_le (number_of (d ∷ x)) 255) e in
      let two = and_parts (nat_le (length (d ∷ x)) 3) (nat_le (number_of (d ∷ x)) 255) one.1 in
      record {
        part = Glyph (d ∷ x);
        more = [];
        spelt = sym (append-nil (36 ∷ d ∷ x));
        stands = (refl, one.0, two.0, two.1, refl);
        follows = record { ends = λ r. cc; goes_on = λ r. (in_movetext s, refl) };
      }

  from_glyph : (place : Standing) (x more : List ℕ) (p : Part) → spelled_part p ≡ 36 ∷ (x ++ more)
      → Stands place p [] → is_glyph_front x ≡ true
  from_glyph place x more (Glyph digits) e (some, all, few, small, ends) =
      let tail : digits ≡ x ++ more = cc in
      short_front x more (ap is_glyph_front (sym tail) ∙ and_from _ _ all (and_from _ _ few small))
  from_glyph place x more (Word []) e h = cc
  from_glyph place x more (Marks []) e h = cc
  from_glyph place x more (Word (b ∷ text)) e h =
      let b_is : b ≡ 36 = cc in
      absurd (false≢true (ap is_word_byte (sym b_is)
      ∙ (and_parts (is_word_byte b) (list_all is_word_byte text) h.1).0))
  from_glyph place x more (White b) e h = let b_is : b ≡ 36 = cc in
      absurd (false≢true (ap is_white (sym b_is) ∙ h))
  from_glyph place x more (Marks (b ∷ marks)) e h =
      let b_is : b ≡ 36 = cc in
      absurd (false≢true (ap is_mark (sym b_is)
      ∙ (and_parts (is_mark b) (list_all is_mark marks) h.1).0))
  from_glyph place x more p e h = absurd (false≢true (ap (begins (λ b. b == 36)) e))

  pub glyph_digits : (rest : List ℕ)
      → Longest (λ x. is_glyph_front x ≡ true) rest (greedy is_glyph_front [] rest)
  glyph_digits rest =
      longest_greedy is_glyph_front short_front [] rest (short_front [] (48 ∷ []) is_short_zero)

  pub stray_glyph : (place : Standing) (s : State) (rest : List ℕ) (n : ℕ)
      → Longest (λ x. is_glyph_front x ≡ true) rest n
      → Longest (IsPartFront max_depth place s) (36 ∷ rest) (suc n)
  stray_glyph place s rest n l =
      longest_after (IsPartFront max_depth place s) (λ x. is_glyph_front x ≡ true) 36 rest n
      (glyph_fronts place s) (λ x p. from_glyph place x p.more p.part p.spelt p.stands) l

  -- ---- a byte with which no part that may follow begins

  pub nothing_begins : (place : Standing) (s : State) (c : ℕ) (rest : List ℕ)
      → ((p : Part) (y : List ℕ) → spelled_part p ≡ c ∷ y → Stands place p []
      → Follows max_depth s p → ⊥)
      → Longest (IsPartFront max_depth place s) (c ∷ rest) 0
  nothing_begins place s c rest none =
      longest_nothing (IsPartFront max_depth place s) c rest (nothing_fronts place s)
      (λ x p. none p.part (x ++ p.more) p.spelt p.stands p.follows)
