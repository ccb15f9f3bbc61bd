-- What the front of a part goes on with may be bytes.
use Rattle.pgn_text.proofs.Common.{◌≡◌, ℕ, Bool, true, List, [], ◌∷◌, ◌++◌, IsTrue, refl, sym, ap}
use Rattle.pgn_text.proofs.Common.{subst, ◌∙◌, inl, inr, arith, append-nil, list_all, and_parts}
use Rattle.pgn_text.proofs.Common.{and_from, cases_Bool, nat_tests, list_all-append, is_byte}
use Rattle.pgn_text.proofs.Common.{is_white, is_digit, is_word_byte, is_mark, is_not_line_feed}
use Rattle.pgn_text.proofs.Common.{is_not_brace, Part, ByteOrderMark, White, Brace, Line}
use Rattle.pgn_text.proofs.Common.{EscapeLine, Tag, Word, Star, Dot, Glyph, Marks, Open, Close}
use Rattle.pgn_text.proofs.Common.{Standing, Stands, spelled_part, is_tag, State, Follows}
use Rattle.pgn_text.proofs.Common.{IsPartFront, Ends, BeforeName}
use Rattle.pgn_text.proofs.error.InTag.{tag_is, tag_ends, tag_bytes}
use Rattle.pgn_text.proofs.laws.Lines.{cut_append}

-- ---- classes of bytes

white_byte : (b : ℕ) → is_white b ≡ true → is_byte b ≡ true
white_byte b h = grind (arith, nat_tests)

word_byte : (b : ℕ) → is_word_byte b ≡ true → is_byte b ≡ true
word_byte b h = grind (arith, nat_tests)

digit_byte : (b : ℕ) → is_digit b ≡ true → is_byte b ≡ true
digit_byte b h = grind (arith, nat_tests)

mark_byte : (b : ℕ) → is_mark b ≡ true → is_byte b ≡ true
mark_byte b h = grind (arith, nat_tests)

all_bytes : (test : ℕ → Bool) → ((b : ℕ) → test b ≡ true → is_byte b ≡ true) → (xs : List ℕ)
    → IsTrue (list_all test xs)
    → IsTrue (list_all is_byte xs)
all_bytes test each [] all = refl
all_bytes test each (b ∷ xs) all =
    let both = and_parts (test b) (list_all test xs) all in
    and_from (is_byte b) (list_all is_byte xs) (each b both.0) (all_bytes test each xs both.1)

-- what follows in bytes is bytes
pub bytes_after : (x more all : List ℕ) → all ≡ x ++ more → IsTrue (list_all is_byte all)
    → IsTrue (list_all is_byte more)
bytes_after x more all e h =
    (and_parts (list_all is_byte x) (list_all is_byte more) (sym (list_all-append is_byte x more)
    ∙ ap (list_all is_byte) (sym e) ∙ h)).1

-- ---- the front of a part

module _ (max_depth : ℕ) (place : Standing) (s : State) where
  abbrev pub InBytes : List ℕ → Type 0
  InBytes x = (k : IsPartFront max_depth place s x) × IsTrue (list_all is_byte k.more)

  -- the part itself
  itself : (p : Part) (x more : List ℕ) → spelled_part p ≡ x ++ more → Stands place p []
      → Follows max_depth s p
      → IsTrue (list_all is_byte (spelled_part p)) → InBytes x
  itself p x more e h follows all = (
    record { part = p; more = more; spelt = e; stands = h; follows = follows },
    bytes_after x more (spelled_part p) e all,
  )

  -- a comment whose brace comes next, or has begun to
  brace_bytes : (text : List ℕ) (c : ℕ) (x more : List ℕ)
      → spelled_part (Brace text) ≡ (c ∷ x) ++ more → Stands place (Brace text) []
      → InBytes (c ∷ x)
  brace_bytes text c x more e h =
      let first : 123 ≡ c = cc in
      let tail : text ++ 125 ∷ [] ≡ x ++ more = cc in
      elim (cut_append text (125 ∷ []) x more tail) [
        | inl t ↦ (
          record {
            part = Brace x;
            more = 125 ∷ [];
            spelt = ap (λ d. d ∷ (x ++ 125 ∷ [])) first;
            stands = (and_parts (list_all is_not_brace x) (list_all is_not_brace t.0)
                (sym (list_all-append is_not_brace x t.0) ∙ ap (list_all is_not_brace) (sym t.1)
                ∙ h)).0;
            follows = record { ends = λ r. cc; goes_on = λ r. (s, refl) };
          },
          refl,
        )
        | inr t ↦ (
          record {
            part = Brace text;
            more = more;
            spelt = e;
            stands = h;
            follows = record { ends = λ r. cc; goes_on = λ r. (s, refl) };
          },
          bytes_after t.0 more (125 ∷ []) t.2 refl,
        )
      ]

  -- a line may end anywhere
  line_end : (text : List ℕ) (x more : List ℕ) → text ≡ x ++ more
      → IsTrue (list_all is_not_line_feed text)
      → IsTrue (list_all is_not_line_feed x)
  line_end text x more e h =
      (and_parts (list_all is_not_line_feed x) (list_all is_not_line_feed more)
      (sym (list_all-append is_not_line_feed x more) ∙ ap (list_all is_not_line_feed) (sym e)
      ∙ h)).0

  -- a tag
  tag_follows : s.in_tags ≡ true → (p : Part) → is_tag p ≡ true → Follows max_depth s p
  tag_follows in_tags (Tag first name second contents third) e =
      record { ends = λ r. cc; goes_on = λ r. (s, rw in_tags refl) }
  tag_follows in_tags p e = cc

  tag_stands : (first name second contents third : List ℕ)
      → Follows max_depth s (Tag first name second contents third) → s.in_tags ≡ true
  tag_stands first name second contents third follows = elim (cases_Bool s.in_tags) [
    | inl there ↦ there
    | inr none ↦ let next = follows.goes_on refl in let stuck = rw none at next.1 in cc
  ]

  tag_in_bytes : (first name second contents third : List ℕ) (c : ℕ) (x more : List ℕ)
      → spelled_part (Tag first name second contents third) ≡ (c ∷ x) ++ more
      → Stands place (Tag first name second contents third) []
      → Follows max_depth s (Tag first name second contents third) → InBytes (c ∷ x)
  tag_in_bytes first name second contents third c x more e h follows =
      let opens : 91 ≡ c = cc in
      let tail : first ++ (name ++ (second ++ (34 ∷ (contents ++ (34 ∷ (third ++ 93 ∷ []))))))
      ≡ x ++ more = cc in
      let ends =
      tag_bytes BeforeName x more
      (subst (Ends BeforeName) tail (tag_ends place first name second contents third [] h)) in
      let tag = tag_is place (x ++ ends.0) ends.1 in (
        record {
          part = tag.0;
          more = ends.0;
          spelt = tag.1 ∙ ap (λ d. d ∷ (x ++ ends.0)) opens;
          stands = tag.3;
          follows = tag_follows (tag_stands first name second contents third follows) tag.0 tag.2;
        },
        ends.2,
      )

  -- the front of a part that may follow is one with bytes after it
  pub part_bytes : (x : List ℕ) → IsPartFront max_depth place s x → InBytes x
  part_bytes [] k = (
    record {
      part = White 32;
      more = 32 ∷ [];
      spelt = refl;
      stands = refl;
      follows = record { ends = λ r. cc; goes_on = λ r. (s, refl) };
    },
    refl,
  )
  part_bytes (c ∷ x) k = by k.part k.more k.spelt k.stands k.follows
    where
      by : (p : Part) (more : List ℕ) → spelled_part p ≡ (c ∷ x) ++ more → Stands place p []
          → Follows max_depth s p → InBytes (c ∷ x)
      by ByteOrderMark more e h f = itself ByteOrderMark (c ∷ x) more e h f refl
      by (White b) more e h f =
          itself (White b) (c ∷ x) more e h f (and_from (is_byte b) true (white_byte b h) refl)
      by (Brace text) more e h f = brace_bytes text c x more e h
      by (Line text) more e h f =
          let first : 59 ≡ c = cc in
          let tail : text ≡ x ++ more = cc in (
            record {
              part = Line x;
              more = [];
              spelt = ap (λ d. d ∷ x) first ∙ sym (append-nil (c ∷ x));
              stands = (line_end text x more tail h.0, refl);
              follows = record { ends = λ r. cc; goes_on = λ r. (s, refl) };
            },
            refl,
          )
      by (EscapeLine text) more e h f =
          let first : 37 ≡ c = cc in
          let tail : text ≡ x ++ more = cc in (
            record {
              part = EscapeLine x;
              more = [];
              spelt = ap (λ d. d ∷ x) first ∙ sym (append-nil (c ∷ x));
              stands = (h.0, line_end text x more tail h.1, refl);
              follows = record { ends = λ r. cc; goes_on = λ r. (s, refl) };
            },
            refl,
          )
      by (Tag first name second contents third) more e h f =
          tag_in_bytes first name second contents third c x more e h f
      by (Word text) more e h f =
          itself (Word text) (c ∷ x) more e h f (all_bytes is_word_byte word_byte text h.1)
      by Star more e h f = itself Star (c ∷ x) more e h f refl
      by Dot more e h f = itself Dot (c ∷ x) more e h f refl
      by (Glyph digits) more e h f =
          itself (Glyph digits) (c ∷ x) more e h f (all_bytes is_digit digit_byte digits h.1)
      by (Marks marks) more e h f =
          itself (Marks marks) (c ∷ x) more e h f (all_bytes is_mark mark_byte marks h.1)
      by Open more e h f = itself Open (c ∷ x) more e h f refl
      by Close more e h f = itself Close (c ∷ x) more e h f refl
