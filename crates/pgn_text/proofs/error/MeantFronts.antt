-- A part with a meaning stands at the front of no text that is the front of one that may follow,
-- where no part that stands there may.
use Rattle.std.proofs.Common.{Some}
use Rattle.std.specs.Prelude.{◌||◌}
use Rattle.pgn_text.proofs.Common.{◌≡◌, ℕ, true, false, List, [], ◌∷◌, ◌++◌, None, IsTrue, codes}
use Rattle.pgn_text.proofs.Common.{refl, sym, ap, subst, ◌∙◌, inl, inr, append_assoc, Option}
use Rattle.pgn_text.proofs.Common.{bytes_eq, list_all, list_any, and_parts, and_from, cases_Bool}
use Rattle.pgn_text.proofs.Common.{or_cases, or_left, or_right, false≢true, false_from_ne_true}
use Rattle.pgn_text.proofs.Common.{Walks, is_word_byte, is_number, is_result_word, is_move_text}
use Rattle.pgn_text.proofs.Common.{is_result, is_meant, Follows, IsPartFront, NoneFollows, Part}
use Rattle.pgn_text.proofs.Common.{ByteOrderMark, White, Brace, Line, EscapeLine, Tag, Word, Star}
use Rattle.pgn_text.proofs.Common.{Dot, Glyph, Marks, Open, Close, Standing, Stands, spelled_part}
use Rattle.pgn_text.proofs.Common.{part_front, State, in_movetext, step}
use Rattle.pgn_text.proofs.error.InPart.{from_word, word_follows, word_step}
use Rattle.pgn_text.proofs.laws.PartLemmas.{stands-read}
use Rattle.pgn_text.proofs.error.Stuck.{follows_always, bracket_tag, tag_stuck}
use Rattle.pgn_text.proofs.TagLemmas.{bytes_eq-same}

-- a result has a meaning
pub result_meant : (p : Part) → is_result p ≡ true → is_meant p ≡ true
result_meant (Word text) r =
    or_left (is_number text || is_result_word text) (is_move_text text)
    (or_right (is_number text) (is_result_word text) r)
result_meant Star r = refl
result_meant p r = cc

-- no number or move begins with a result and goes on
result_front : (w y : List ℕ) → is_result_word w ≡ true
    → (is_number (w ++ y) || is_move_text (w ++ y)) ≡ false
result_front w y e = elim (or_cases (bytes_eq w (codes "1-0") || bytes_eq w (codes "0-1")) _ e) [
  | inl l ↦ elim (or_cases (bytes_eq w (codes "1-0")) _ l) [
    | inl p ↦ ap (λ v. is_number (v ++ y)
        || is_move_text (v ++ y)) (bytes_eq-same w (codes "1-0") p)
    | inr q ↦ ap (λ v. is_number (v ++ y)
        || is_move_text (v ++ y)) (bytes_eq-same w (codes "0-1") q)
  ]
  | inr r ↦ ap (λ v. is_number (v ++ y)
      || is_move_text (v ++ y)) (bytes_eq-same w (codes "1/2-1/2") r)
]

-- the part that was read, if one was
part_or : Part → Option (Part × List ℕ) → Part
part_or p None = p
part_or p (Some found) = found.0

same_part : (p q : Part) (rest after : List ℕ) (found : Option (Part × List ℕ))
    → found ≡ Some (q, after) → found ≡ Some (p, rest) → q ≡ p
unfolding part_or
same_part p q rest after found e h = ap (part_or p) (sym e ∙ h)

module _ (max_depth : ℕ) where
  -- a part after which a state follows has a meaning
  step_meant : (s : State) (p : Part) (t : State) → step max_depth s p ≡ Some t → is_meant p ≡ true
  step_meant s (Word text) t e =
      elim (or_cases (is_number text) (is_move_text text) (word_step max_depth s text t e)) [
        | inl n ↦ or_left (is_number text
            || is_result_word text) (is_move_text text)
            (or_left (is_number text) (is_result_word text) n)
        | inr m ↦ or_right (is_number text || is_result_word text) (is_move_text text) m
      ]
  step_meant s p t e = refl

  -- each part that was gone through has one
  pub walks_meant : (s : State) (done : List Part) (t : State) → Walks max_depth s done t
      → IsTrue (list_all is_meant done)
  walks_meant s [] t w = refl
  walks_meant s (p ∷ done) t w =
      and_from (is_meant p) (list_all is_meant done) (step_meant s p w.1.0 w.1.1)
      (walks_meant w.1.0 done t w.1.2)

  -- and none is a result
  pub walks_unended : (s : State) (done : List Part) (t : State) → Walks max_depth s done t
      → list_any is_result done ≡ false
  walks_unended s [] t w = refl
  walks_unended s (p ∷ done) t w = rw w.0 (walks_unended w.1.0 done t w.1.2)

  -- a word that has a meaning may follow where one may that begins with it
  word_front_follows : (s : State) (w y : List ℕ) → is_meant (Word w) ≡ true
      → Follows max_depth s (Word (w ++ y)) → Follows max_depth s (Word w)
  word_front_follows s w y meant k = elim (cases_Bool (is_result_word w)) [
    | inl r ↦ record {
      ends = λ _. elim (cases_Bool (is_result_word (w ++ y))) [
        | inl long ↦ k.ends long
        | inr long ↦
            let next = k.goes_on long in
            absurd (false≢true (sym (result_front w y r)
            ∙ word_step max_depth s (w ++ y) next.0 next.1))
      ];
      goes_on = λ none. absurd (false≢true (sym none ∙ r));
    }
    | inr r ↦ word_follows max_depth s w r (kind r)
  ]
    where
      kind : is_result_word w ≡ false → (is_number w || is_move_text w) ≡ true
      kind r = elim (or_cases (is_number w || is_result_word w) (is_move_text w) meant) [
        | inl l ↦ elim (or_cases (is_number w) (is_result_word w) l) [
          | inl n ↦ or_left (is_number w) (is_move_text w) n
          | inr q ↦ absurd (false≢true (sym r ∙ q))
        ]
        | inr m ↦ or_right (is_number w) (is_move_text w) m
      ]

  -- a part that is read from its first byte alone is the part that begins with it
  alone : (place : Standing) (b : ℕ) (p q : Part) (y : List ℕ)
      → ((rest : List ℕ) → part_front place (b ∷ rest) ≡ Some (p, rest))
      → spelled_part q ≡ b ∷ y → Stands place q [] → q ≡ p
  alone place b p q y reads e h =
      same_part p q (y ++ []) [] (part_front place (spelled_part q ++ []))
      (stands-read place q [] h)
      (ap (λ l. part_front place (l ++ [])) e ∙ reads (y ++ []))

  -- a part that has a meaning may follow where one may that begins with its bytes
  front_follows : (place : Standing) (s : State) (p q : Part) (y after : List ℕ)
      → spelled_part q ≡ spelled_part p ++ y
      → Stands place q [] → Follows max_depth s q → Stands place p after → is_meant p ≡ true
      → Follows max_depth s p
  front_follows place s ByteOrderMark q y after e h k stands meant =
      follows_always max_depth s ByteOrderMark s refl refl
  front_follows place s (White b) q y after e h k stands meant =
      follows_always max_depth s (White b) s refl refl
  front_follows place s (Brace text) q y after e h k stands meant =
      follows_always max_depth s (Brace text) s refl refl
  front_follows place s (Line text) q y after e h k stands meant =
      follows_always max_depth s (Line text) s refl refl
  front_follows place s (EscapeLine text) q y after e h k stands meant =
      follows_always max_depth s (EscapeLine text) s refl refl
  front_follows place s (Tag first name second contents third) q y after e h k stands meant =
      elim (cases_Bool s.in_tags) [
        | inl t ↦ record { ends = λ r. cc; goes_on = λ r. (s, rw t refl) }
        | inr t ↦ absurd (tag_stuck max_depth s t q (bracket_tag max_depth place q _ e h) k)
      ]
  front_follows place s (Word []) q y after e h k stands meant = absurd (false≢true stands.0)
  front_follows place s (Word (b ∷ text)) q y after e h k stands meant =
      let word : is_word_byte b ≡ true =
      (and_parts (is_word_byte b) (list_all is_word_byte text) stands.1).0 in
      word_front_follows s (b ∷ text) y meant
      (subst (Follows max_depth s) (from_word max_depth place b (text ++ y) word q e h) k)
  front_follows place s Star q y after e h k stands meant =
      subst (Follows max_depth s) (alone place 42 Star q y (λ rest. refl) e h) k
  front_follows place s Dot q y after e h k stands meant =
      follows_always max_depth s Dot (in_movetext s) refl refl
  front_follows place s (Glyph digits) q y after e h k stands meant =
      follows_always max_depth s (Glyph digits) (in_movetext s) refl refl
  front_follows place s (Marks marks) q y after e h k stands meant =
      follows_always max_depth s (Marks marks) (in_movetext s) refl refl
  front_follows place s Open q y after e h k stands meant =
      subst (Follows max_depth s) (alone place 40 Open q y (λ rest. refl) e h) k
  front_follows place s Close q y after e h k stands meant =
      subst (Follows max_depth s) (alone place 41 Close q y (λ rest. refl) e h) k

  pub no_meant_front : (place : Standing) (s : State) (text : List ℕ) (p : Part)
      (rest after : List ℕ) → NoneFollows max_depth place s text
      → IsPartFront max_depth place s (spelled_part p ++ rest) → text ≡ spelled_part p ++ after
      → Stands place p after → is_meant p ≡ false
  no_meant_front place s text p rest after nothing here e stands =
      false_from_ne_true (is_meant p) (λ meant. nothing p after e stands
      (front_follows place s p here.part (rest ++ here.more) after (here.spelt
      ∙ append_assoc (spelled_part p) rest here.more)
      here.stands here.follows stands meant))
