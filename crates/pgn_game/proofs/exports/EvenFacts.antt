-- Comments of even words: their tokens, and where they stand in one line or in two.
use Rattle.std.specs.Prelude.{◌&&◌, Some, None}
use Rattle.std.proofs.Common.{ap₂, inl, inr}
use Rattle.std.proofs.Math.Seq.{get_or-append_seam}
use Rattle.std.proofs.lemmas.Bool.{cases_lt}
use Rattle.std.proofs.lemmas.List.{get_or-append-add, take-append-drop, drop_more, take_more}
use Rattle.std.proofs.lemmas.List.{get_or_past, length-take-le, length-drop, set_at}
use Rattle.std.specs.Prelude.{slice_set}
use Rattle.std.proofs.Math.Seq.{take-length}
use Rattle.std.proofs.lemmas.List.Elements.{filter-append}
use Rattle.pgn_text.proofs.Bits.{both_true, not_true, neither, clash}
use Rattle.pgn_text.proofs.TagLemmas.{bytes_eq-same}
use Rattle.chess.specs.Shared.SetFacts.{false_of}
use Rattle.pgn_game.proofs.Common.{◌≡◌, ℕ, suc, ◌+◌, ◌-◌, ◌<◌, ◌≤◌, Bool, true, false, List, []}
use Rattle.pgn_game.proofs.Common.{◌∷◌, ◌++◌, length, map, take, drop, get_or, refl, sym, ap, subst}
use Rattle.pgn_game.proofs.Common.{◌∙◌, arith, append_assoc, append-nil, length-append, eqb-true}
use Rattle.pgn_game.proofs.Common.{if◌then◌else◌, ◌==◌, ◌||◌, not, bytes_eq, codes, is_white}
use Rattle.pgn_game.proofs.Common.{is_empty, begins, in_first, cut_at_white, words_in, unbraced}
use Rattle.pgn_game.proofs.Common.{later_word, closed, braced, comment_tokens, joined, word_front}
use Rattle.pgn_game.proofs.Common.{after_front, HasPut, LineWrapper, tied, ties}
use Rattle.pgn_game.specs.Private.CommentWords.{IsSpaced}
use Rattle.pgn_game.specs.Private.EvenComments.{is_odd, follows, reads_on, is_even, HasNoBlank}
use Rattle.pgn_game.specs.Private.EvenComments.{IsLastBlank}
use Rattle.pgn_game.proofs.exports.CommentFacts.{full_ones, cut_after, cut_by_front}
use Rattle.pgn_game.proofs.exports.LineWrapperFacts.{put_line, put_two_lines}

-- ---- what a byte that may stand after another one is

parts_of : (p b : ℕ) → follows p b ≡ true
    → (is_odd b ≡ false) × ((p == 32 && (b == 32 || b == 37)) ≡ false)
    × ((p == 91 && b == 69) ≡ false)
parts_of p b on =
    let one = both_true (not (is_odd b)) _ on in
    let two = both_true (not (p == 32 && (b == 32 || b == 37))) _ one.1 in
    (not_true _ one.0, not_true _ two.0, not_true _ two.1)

same_of : (t : Bool) → (true && not t) ≡ false → t ≡ true
same_of true off = refl
same_of false off = absurd (cc)

blank_of : (b : ℕ) → is_white b ≡ true → is_odd b ≡ false → b ≡ 32
blank_of b white even =
    eqb-true b 32
    (same_of (b == 32) (ap (λ t. t && not (b == 32)) (sym white)
    ∙ (neither (b == 125) _ even).1))

no_two : (p b : ℕ) → p ≡ 32 → b ≡ 32 → (p == 32 && (b == 32 || b == 37)) ≡ false → ⊥
no_two p b first second off =
    clash (p == 32 && (b == 32 || b == 37))
    (ap₂ (λ x y. x == 32 && (y == 32 || y == 37)) first second) off

no_percent : (p b : ℕ) → p ≡ 32 → (p == 32 && (b == 32 || b == 37)) ≡ false → (b == 37) ≡ false
no_percent p b blank off =
    (neither (b == 32) (b == 37) (ap (λ t. t && (b == 32 || b == 37))
    (sym (ap (λ x. x == 32) blank)) ∙ off)).1

-- ---- words that are written as they are

no_event_line : (b : ℕ) (w : List ℕ) → b ∷ w ≡ codes "[Event"
    → (b ≡ 91 → begins (λ c. c == 69) w ≡ false) → ⊥
no_event_line b w is other =
    let head : b ≡ 91 = ap (λ t. get_or t 0 0) is in
    let tail : w ≡ codes "Event" = ap (drop 1) is in
    clash (begins (λ c. c == 69) w) (ap (begins (λ c. c == 69)) tail) (other head)

later_as_is : (b : ℕ) (w : List ℕ) → (b == 37) ≡ false
    → (b ≡ 91 → begins (λ c. c == 69) w ≡ false) → unbraced (b ∷ w) ≡ b ∷ w
    → later_word (b ∷ w) ≡ b ∷ w
later_as_is b w other no_event bare =
    let differs : bytes_eq (b ∷ w) (codes "[Event") ≡ false =
    false_of (bytes_eq (b ∷ w) (codes "[Event"))
    (λ is. no_event_line b w (bytes_eq-same (b ∷ w) (codes "[Event") is) no_event) in
    ap (λ t. if t then codes "(Event"
    else (if b == 37 then 40 ∷ unbraced (b ∷ w) else unbraced (b ∷ w))) differs
    ∙ ap (λ t. if t then 40 ∷ unbraced (b ∷ w) else unbraced (b ∷ w)) other ∙ bare

full_cons : (word : List ℕ) (words : List (List ℕ)) → is_empty word ≡ false
    → full_ones (word ∷ words) ≡ word ∷ full_ones words
full_cons [] words full = absurd (cc)
full_cons (b ∷ word) words full = refl

joined_cons : (b : ℕ) (word : List ℕ) (words : List (List ℕ))
    → joined ((b ∷ word) ∷ words) ≡ b ∷ joined (word ∷ words)
joined_cons b word [] = refl
joined_cons b word (next ∷ more) = refl

-- what a text is cut into, after the byte `p`
pub record Pieces (p : ℕ) (text : List ℕ) : Type 0 where
  pub first : List ℕ
  pub more : List (List ℕ)
  pub cut : cut_at_white text ≡ first ∷ more
  pub full : p ≡ 32 → is_empty first ≡ false
  pub later : p ≡ 32 → later_word first ≡ first
  pub bare : unbraced first ≡ first
  pub no_event : p ≡ 91 → begins (λ c. c == 69) first ≡ false
  pub more_full : full_ones more ≡ more
  pub more_later : map later_word more ≡ more
  pub whole : joined (first ∷ more) ≡ text

one_more : (p b : ℕ) (text : List ℕ) → is_odd b ≡ false
    → (p == 32 && (b == 32 || b == 37)) ≡ false → (p == 91 && b == 69) ≡ false → Pieces b text
    → (t : Bool) → is_white b ≡ t → Pieces p (b ∷ text)
one_more p b text even other event rest true white =
    let blank : b ≡ 32 = blank_of b white even in
    record {
      first = [];
      more = rest.first ∷ rest.more;
      cut = ap (λ t. if t then [] ∷ cut_at_white text else in_first b (cut_at_white text)) white
          ∙ ap (λ x. [] ∷ x) rest.cut;
      full = λ e. absurd (no_two p b e blank other);
      later = λ e. refl;
      bare = refl;
      no_event = λ e. refl;
      more_full = full_cons rest.first rest.more (rest.full blank)
          ∙ ap (λ x. rest.first ∷ x) rest.more_full;
      more_later = ap₂ (λ x y. x ∷ y) (rest.later blank) rest.more_later;
      whole = ap (λ x. 32 ∷ x) rest.whole ∙ ap (λ x. x ∷ text) (sym blank);
    }
one_more p b text even other event rest false white =
    let bare : unbraced (b ∷ rest.first) ≡ b ∷ rest.first =
    ap (λ t. (if t then 41 else b) ∷ unbraced rest.first) (neither (b == 125) _ even).0
    ∙ ap (λ x. b ∷ x) rest.bare in
    record {
      first = b ∷ rest.first;
      more = rest.more;
      cut = ap (λ t. if t then [] ∷ cut_at_white text else in_first b (cut_at_white text)) white
          ∙ ap (in_first b) rest.cut;
      full = λ e. refl;
      later = λ e. later_as_is b rest.first (no_percent p b e other) rest.no_event bare;
      bare = bare;
      no_event = λ e. ap (λ t. t && b == 69) (sym (ap (λ x. x == 91) e)) ∙ event;
      more_full = rest.more_full;
      more_later = rest.more_later;
      whole = joined_cons b rest.first rest.more ∙ ap (λ x. b ∷ x) rest.whole;
    }

pub pieces : (p : ℕ) (text : List ℕ) → reads_on p text ≡ true → Pieces p text
pieces p [] on = record {
  first = [];
  more = [];
  cut = refl;
  full = λ e. absurd (clash (p == 32) (ap (λ x. x == 32) e) (not_true _ on));
  later = λ e. refl;
  bare = refl;
  no_event = λ e. refl;
  more_full = refl;
  more_later = refl;
  whole = refl;
}
pieces p (b ∷ text) on =
    let both = both_true (follows p b) (reads_on b text) on in
    let parts = parts_of p b both.0 in
    one_more p b text parts.0 parts.1 parts.2 (pieces b text both.1) (is_white b) refl

-- ---- the tokens of even words

abbrev pub as_tokens : List (List ℕ) → List (List ℕ)
as_tokens [] = []
as_tokens (first ∷ more) = closed ((123 ∷ first) ∷ more)

pub even_tokens : (text : List ℕ) → is_even text ≡ true
    → comment_tokens false text ≡ as_tokens (cut_at_white text)
even_tokens text on =
    let p = pieces 32 text on in
    ap (λ pieces. braced (full_ones pieces)) p.cut
    ∙ ap braced (full_cons p.first p.more (p.full refl) ∙ ap (λ x. p.first ∷ x) p.more_full)
    ∙ ap₂ (λ x y. closed ((123 ∷ x) ∷ y)) p.bare p.more_later ∙ sym (ap as_tokens p.cut)

before_closed : (token next : List ℕ) (more : List (List ℕ))
    → joined (token ∷ closed (next ∷ more)) ≡ token ++ 32 ∷ joined (closed (next ∷ more))
before_closed token next [] = refl
before_closed token next (other ∷ more) = refl

joined_closed : (token : List ℕ) (more : List (List ℕ))
    → joined (closed (token ∷ more)) ≡ joined (token ∷ more) ++ 125 ∷ []
joined_closed token [] = refl
joined_closed token (next ∷ more) =
    before_closed token next more ∙ ap (λ x. token ++ 32 ∷ x) (joined_closed next more)
    ∙ sym (append_assoc token (32 ∷ joined (next ∷ more)) (125 ∷ []))

pub even_spaced : (text : List ℕ) → is_even text ≡ true → IsSpaced text
even_spaced text on =
    let p = pieces 32 text on in
    ap joined (even_tokens text on ∙ ap as_tokens p.cut) ∙ joined_closed (123 ∷ p.first) p.more
    ∙ ap (λ x. x ++ 125 ∷ []) (joined_cons 123 p.first p.more ∙ ap (λ x. 123 ∷ x) p.whole)

-- ---- a text that is cut at white space

in_first_both : (b : ℕ) (pieces more : List (List ℕ)) (first : List ℕ) (rest : List (List ℕ))
    → pieces ≡ first ∷ rest → in_first b (pieces ++ more) ≡ in_first b pieces ++ more
in_first_both b pieces more first rest is =
    ap (λ x. in_first b (x ++ more)) is ∙ sym (ap (λ x. in_first b x ++ more) is)

cut_both : (x : List ℕ) (w : ℕ) (y : List ℕ) → is_white w ≡ true
    → cut_at_white (x ++ w ∷ y) ≡ cut_at_white x ++ cut_at_white y
cut_both [] w y white =
    ap (λ t. if t then [] ∷ cut_at_white y else in_first w (cut_at_white y)) white
cut_both (b ∷ x) w y white =
    elim (is_white b) as (λ t. (if t then [] ∷ cut_at_white (x ++ w ∷ y)
    else in_first b (cut_at_white (x ++ w ∷ y)))
    ≡ (if t then [] ∷ cut_at_white x else in_first b (cut_at_white x)) ++ cut_at_white y) [
      | true ↦ ap (λ pieces. [] ∷ pieces) (cut_both x w y white)
      | false ↦ ap (in_first b) (cut_both x w y white)
          ∙ in_first_both b (cut_at_white x) (cut_at_white y) (word_front x)
          (cut_after (after_front x)) (cut_by_front x)
    ]

-- white space after the last word changes nothing
words_before_white : (x : List ℕ) (w : ℕ) → is_white w ≡ true → words_in (x ++ w ∷ []) ≡ words_in x
words_before_white x w white =
    ap full_ones (cut_both x w [] white)
    ∙ filter-append (λ piece. not (is_empty piece)) (cut_at_white x) ([] ∷ [])
    ∙ append-nil (words_in x)

pub words_trimmed : (text : List ℕ) (n : ℕ) → n + 1 ≡ length text
    → is_white (get_or text n 0) ≡ true → words_in (take n text) ≡ words_in text
words_trimmed text n last white =
    sym (words_before_white (take n text) (get_or text n 0) white)
    ∙ ap words_in (sym (take_more text n 0 (omega (arith, last)))
    ∙ ap (λ k. take k text) last ∙ take-length text)

ends_well : (t : Bool) → (t && true) ≡ false → not t ≡ true
ends_well true off = absurd (cc)
ends_well false off = refl

-- both sides of a blank in even words are even words
even_parts : (p : ℕ) (x y : List ℕ) → reads_on p (x ++ 32 ∷ y) ≡ true
    → (reads_on p x ≡ true) × (is_even y ≡ true)
even_parts p [] y on =
    let both = both_true (follows p 32) (reads_on 32 y) on in
    (ends_well (p == 32) (parts_of p 32 both.0).1, both.1)
even_parts p (b ∷ x) y on =
    let both = both_true (follows p b) (reads_on b (x ++ 32 ∷ y)) on in
    let rest = even_parts b x y both.1 in
    (ap₂ (λ s t. s && t) both.0 rest.0, rest.1)

closed_both : (token : List ℕ) (tokens : List (List ℕ)) (next : List ℕ) (more : List (List ℕ))
    → closed (token ∷ (tokens ++ next ∷ more)) ≡ (token ∷ tokens) ++ closed (next ∷ more)
closed_both token [] next more = refl
closed_both token (other ∷ tokens) next more =
    ap (λ x. token ∷ x) (closed_both other tokens next more)

abbrev closed_head : List ℕ → List (List ℕ) → List ℕ
closed_head token [] = token ++ 125 ∷ []
closed_head token (next ∷ more) = token

abbrev closed_tail : List (List ℕ) → List (List ℕ)
closed_tail [] = []
closed_tail (next ∷ more) = closed (next ∷ more)

closed_parts : (token : List ℕ) (more : List (List ℕ))
    → closed (token ∷ more) ≡ closed_head token more ∷ closed_tail more
closed_parts token [] = refl
closed_parts token (next ∷ more) = refl

head_cons : (b : ℕ) (token : List ℕ) (more : List (List ℕ))
    → closed_head (b ∷ token) more ≡ b ∷ closed_head token more
head_cons b token [] = refl
head_cons b token (next ∷ more) = refl

-- the first token is as long as no blank stands in the text
long_head : (first : List ℕ) (more : List (List ℕ)) (text : List ℕ) (k : ℕ)
    → joined (first ∷ more) ≡ text → k ≤ length text + 1 → HasNoBlank text 0 k
    → k ≤ length (closed_head first more)
long_head first [] text k whole short none =
    let same : length first ≡ length text = ap length whole in
    let size = length-append first (125 ∷ []) in
    let one : length (first ++ 125 ∷ []) ≡ length first + 1 = size in
    omega arith
long_head first (next ∷ more) text k whole short none = elim (cases_lt (length first) k) [
  | inl lt ↦ absurd
      (clash (get_or text (length first) 37 == 32)
      (ap (λ b. b == 32) (ap (λ t. get_or t (length first) 37) (sym whole)
      ∙ get_or-append_seam first 32 (joined (next ∷ more)) 37))
      (none (length first) (omega arith) lt))
  | inr le ↦ le
]

-- that token is not within the width
over_head : (first : List ℕ) (more : List (List ℕ)) (text : List ℕ) (width column room : ℕ)
    → joined (first ∷ more) ≡ text → HasNoBlank text 0 room
    → width ≤ column + room → width < column + (length text + 1) + 1
    → width < column + length (closed_head first more) + 1
over_head first more text width column room whole none low over =
    elim (cases_lt (length text + 1) room) [
      | inl lt ↦
          let long = long_head first more text (length text + 1) whole (omega arith)
          (λ i from end. none i from (omega arith)) in
          omega (arith, long, over)
      | inr le ↦
          let long = long_head first more text room whole le none in
          omega (arith, long, low)
    ]

-- ---- in the next line, and in two lines

pub line_put : (old new : LineWrapper) (before after text : List ℕ) → is_even text ≡ true
    → old.begun ≡ true → IsLastBlank text (old.width - (old.column + 1)) None
    → old.width < old.column + 1 + (length text + 2) → length text + 2 ≤ old.width
    → (new.begun ≡ old.begun) × (new.column ≡ length text + 2) × (new.width ≡ old.width)
    → after ≡ before ++ 10 ∷ 123 ∷ (text ++ 125 ∷ [])
    → HasPut old new before after (comment_tokens false text)
line_put old new before after text on begun none over within line is =
    let p = pieces 32 text on in
    let head = closed_head (123 ∷ p.first) p.more in
    let tail = closed_tail p.more in
    let tokens : comment_tokens false text ≡ head ∷ tail =
    even_tokens text on ∙ ap as_tokens p.cut ∙ closed_parts (123 ∷ p.first) p.more in
    let whole : joined (head ∷ tail) ≡ 123 ∷ (text ++ 125 ∷ []) =
    ap joined (sym tokens) ∙ even_spaced text on in
    let size : length (joined (head ∷ tail)) ≡ length text + 2 =
    ap length whole ∙ ap suc (length-append text (125 ∷ [])) ∙ two (length text) in
    let long : length head ≡ length (closed_head p.first p.more) + 1 =
    ap length (head_cons 123 p.first p.more) ∙ one (length (closed_head p.first p.more)) in
    let past =
    over_head p.first p.more text old.width (old.column + 1) (old.width - (old.column + 1))
    p.whole none (omega arith) (omega (arith, over)) in
    put_line old new before after (comment_tokens false text) head tail tokens begun line.0
    line.2 (line.1 ∙ sym size) (omega (arith, past, long)) (omega (arith, size, within))
    (is ∙ ap (λ x. before ++ 10 ∷ x) (sym whole))
  where
    two : (n : ℕ) → suc (n + 1) ≡ n + 2
    two n = omega arith

    one : (n : ℕ) → suc n ≡ n + 1
    one n = omega arith

halves_put : (old new : LineWrapper) (before after x y : List ℕ) → is_even (x ++ 32 ∷ y) ≡ true
    → old.begun ≡ true
    → HasNoBlank (x ++ 32 ∷ y) (length x + 1) (old.width - (old.column + 1))
    → length x < old.width - (old.column + 1)
    → old.width < old.column + 1 + (length (x ++ 32 ∷ y) + 2) → length y + 1 ≤ old.width
    → (new.begun ≡ old.begun) × (new.column ≡ length y + 1) × (new.width ≡ old.width)
    → after ≡ before ++ 32 ∷ 123 ∷ (x ++ 10 ∷ (y ++ 125 ∷ []))
    → HasPut old new before after (comment_tokens false (x ++ 32 ∷ y))
halves_put old new before after x y on begun none fits over within line is =
    let evens = even_parts 32 x y on in
    let p = pieces 32 x evens.0 in
    let q = pieces 32 y evens.1 in
    let head = closed_head q.first q.more in
    let tail = closed_tail q.more in
    let tokens : comment_tokens false (x ++ 32 ∷ y)
    ≡ ((123 ∷ p.first) ∷ p.more) ++ (head ∷ tail) =
    even_tokens (x ++ 32 ∷ y) on
    ∙ ap as_tokens (cut_both x 32 y refl ∙ ap₂ (λ s t. s ++ t) p.cut q.cut)
    ∙ closed_both (123 ∷ p.first) p.more q.first q.more
    ∙ ap (λ t. ((123 ∷ p.first) ∷ p.more) ++ t) (closed_parts q.first q.more) in
    let front : joined ((123 ∷ p.first) ∷ p.more) ≡ 123 ∷ x =
    joined_cons 123 p.first p.more ∙ ap (λ t. 123 ∷ t) p.whole in
    let back : joined (head ∷ tail) ≡ y ++ 125 ∷ [] =
    ap joined (sym (closed_parts q.first q.more)) ∙ joined_closed q.first q.more
    ∙ ap (λ t. t ++ 125 ∷ []) q.whole in
    let front_size : length (joined ((123 ∷ p.first) ∷ p.more)) ≡ length x + 1 =
    ap length front ∙ one (length x) in
    let back_size : length (joined (head ∷ tail)) ≡ length y + 1 =
    ap length back ∙ length-append y (125 ∷ []) in
    let all_size : length (x ++ 32 ∷ y) ≡ length x + (length y + 1) =
    length-append x (32 ∷ y) ∙ ap (λ n. length x + n) (one (length y)) in
    let room : ℕ = old.width - (old.column + 1) - (length x + 1) in
    let blanks : HasNoBlank y 0 room = λ i low lt.
    ap (λ b. b == 32) (sym (get_or-append-add x (32 ∷ y) (suc i) 37))
    ∙ none (length x + suc i) (omega arith) (omega (arith, lt)) in
    let past =
    over_head q.first q.more y old.width (old.column + 1 + (length x + 1)) room q.whole blanks
    (omega (arith, fits)) (omega (arith, over, all_size)) in
    put_two_lines old new before after (comment_tokens false (x ++ 32 ∷ y)) (123 ∷ p.first) p.more
    head tail tokens begun line.0 line.2 (line.1 ∙ sym back_size)
    (omega (arith, front_size, fits)) (omega (arith, past, front_size))
    (omega (arith, back_size, within))
    (is ∙ ap₂ (λ s t. before ++ 32 ∷ (s ++ 10 ∷ t)) (sym front) (sym back))
  where
    one : (n : ℕ) → suc n ≡ n + 1
    one n = omega arith

-- the text is what stands before a blank, the blank, and what follows it
at_blank : (text : List ℕ) (place : ℕ) → (get_or text place 37 == 32) ≡ true
    → place < length text → text ≡ take place text ++ 32 ∷ drop (place + 1) text
at_blank text place blank lt =
    sym (take-append-drop place text)
    ∙ ap (λ t. take place text ++ t) (drop_more text place 37 lt
    ∙ ap (λ b. b ∷ drop (place + 1) text) (eqb-true _ _ blank))

pub two_lines_put : (old new : LineWrapper) (before after text : List ℕ) (place : ℕ)
    → is_even text ≡ true → old.begun ≡ true
    → IsLastBlank text (old.width - (old.column + 1)) (Some place)
    → old.width < old.column + 1 + (length text + 2) → length text + 2 ≤ old.width
    → place < length text
    → (new.begun ≡ old.begun) × (new.column ≡ length (drop (place + 1) text) + 1)
    × (new.width ≡ old.width)
    → after ≡ before ++ 32 ∷ 123 ∷ (take place text ++ 10 ∷ (drop (place + 1) text ++ 125 ∷ []))
    → HasPut old new before after (comment_tokens false text)
two_lines_put old new before after text place on begun blank over within inside line is =
    let x : List ℕ = take place text in
    let y : List ℕ = drop (place + 1) text in
    let cut : text ≡ x ++ 32 ∷ y = at_blank text place blank.1 inside in
    let size : length x ≡ place = length-take-le place text (omega arith) in
    let long : length text ≡ length (x ++ 32 ∷ y) = ap length cut in
    let parts : length (x ++ 32 ∷ y) ≡ length x + suc (length y) = length-append x (32 ∷ y) in
    subst (λ t. HasPut old new before after (comment_tokens false t)) (sym cut)
    (halves_put old new before after x y (ap is_even (sym cut) ∙ on) begun
    (λ i low lt. ap (λ t. get_or t i 37 == 32) (sym cut)
    ∙ blank.2 i (omega (arith, low, size)) lt)
    (omega (arith, size, blank.0)) (omega (arith, over, long))
    (omega (arith, within, long, parts)) line is)

pub inside_text : (text : List ℕ) (place : ℕ) → (get_or text place 37 == 32) ≡ true
    → place < length text
inside_text text place blank = elim (cases_lt place (length text)) [
  | inl lt ↦ lt
  | inr past ↦ absurd
      (clash (get_or text place 37 == 32) blank
      (ap (λ b. b == 32) (get_or_past text place 37 past)))
]

pub same_tokens : (commands : Bool) (x y : List ℕ) → words_in x ≡ words_in y
    → comment_tokens commands x ≡ comment_tokens commands y
same_tokens commands x y same =
    ap (λ words. tied (if commands then ties false words else []) (braced words)) same

pub both_lines : (before x y : List ℕ)
    → (((before ++ 32 ∷ []) ++ 123 ∷ []) ++ (x ++ 10 ∷ y)) ++ 125 ∷ []
    ≡ before ++ 32 ∷ 123 ∷ (x ++ 10 ∷ (y ++ 125 ∷ []))
both_lines before x y =
    let last = x ++ 10 ∷ (y ++ 125 ∷ []) in
    append_assoc ((before ++ 32 ∷ []) ++ 123 ∷ []) (x ++ 10 ∷ y) (125 ∷ [])
    ∙ ap (λ t. ((before ++ 32 ∷ []) ++ 123 ∷ []) ++ t) (append_assoc x (10 ∷ y) (125 ∷ []))
    ∙ append_assoc (before ++ 32 ∷ []) (123 ∷ []) last ∙ append_assoc before (32 ∷ []) (123 ∷ last)

-- a text after another, with a line feed in place of one of its bytes
pub parted_there : (out text : List ℕ) (place at : ℕ) → place < length text
    → at ≡ length out + place
    → slice_set (out ++ text) at 10 ≡ out ++ (take place text ++ 10 ∷ drop (place + 1) text)
parted_there out text place at lt is =
    let x : List ℕ = take place text in
    let y : List ℕ = drop (place + 1) text in
    let b : ℕ = get_or text place 37 in
    let cut : text ≡ x ++ b ∷ y =
    sym (take-append-drop place text) ∙ ap (λ t. x ++ t) (drop_more text place 37 lt) in
    let size : length (out ++ x) ≡ at =
    omega (arith, length-append out x, length-take-le place text (omega (arith, lt)), is) in
    ap (λ t. slice_set (out ++ t) at 10) cut
    ∙ ap (λ t. slice_set t at 10) (sym (append_assoc out x (b ∷ y)))
    ∙ set_at (out ++ x) b y 10 at size ∙ append_assoc out x (10 ∷ y)
