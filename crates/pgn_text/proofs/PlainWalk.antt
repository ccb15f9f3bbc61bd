-- Plain movetext passed over byte by byte, as a sweep shows it.
use Rattle.std.proofs.Common.{◌≡◌, ◌⊎◌, ℕ, zero, suc, ◌+◌, ◌-◌, ◌<◌, ◌≤◌, Bool, true, false, not}
use Rattle.std.proofs.Common.{◌&&◌, ◌||◌, List, [], ◌∷◌, ◌++◌, length, take, drop, get_or}
use Rattle.std.proofs.Common.{refl, sym, ap, ◌∙◌, subst, arith, inl, inr, append-nil, append_assoc}
use Rattle.pgn_text.proofs.Common.{eqb-true, cases_lt, is_white, is_digit, is_gap, is_letter}
use Rattle.pgn_text.proofs.Common.{is_word_byte}
use Rattle.pgn_text.proofs.Common.{Item, MoveText, has_bit, word_begins, Sweeps, is_plain_kept}
use Rattle.pgn_text.proofs.Common.{ArePlain, none, PlainTo, Kept, KeptGap, KeptMove, KeptNumber}
use Rattle.pgn_text.proofs.Common.{KeptDot, items_of_kept, RunTo, PartAt, KeptAt}
use Rattle.std.proofs.Common.{bit_and}
use Rattle.pgn_text.specs.Private.Masks.{HaveEnds, IsNextMove, NoneFrom}
use Rattle.pgn_text.specs.Private.Movetext.{one_more as then_part}
use Rattle.pgn_text.proofs.laws.Classes.{is_digit-word, is_gap-digit, is_gap-word, is_letter-word}
use Rattle.pgn_text.proofs.Bits.{both_true, clash, bit-and, one_less, some_bit}
use Rattle.pgn_text.proofs.PartsAt.{kept_letters, kept_digits, kept_dot, kept_white}
use Rattle.pgn_text.proofs.lex.RunsTo.{AllPass, none_yet, one_more, passed_to}

-- before the first part
pub with_none : (block : List ℕ) (from : ℕ) → from ≤ length block → PlainTo block from [] from
with_none block from within = record { parts = λ f. none; forward = omega arith; within = within }

-- one more part
pub with_more : (block : List ℕ) (from : ℕ) (items : List Item) (at end : ℕ) (token : Kept)
    → PlainTo block from items at → ((f : Bool) → KeptAt f block at token end)
    → is_plain_kept token ≡ true
    → PlainTo block from (items ++ items_of_kept token) end
with_more block from items at end token plain here is =
    let found : PartAt true block at (here true).part end = (here true).found in
    let begun : from ≤ at = plain.forward in
    let further : at < end = found.forward in
    record {
      parts = λ f. then_part token (plain.parts f) (here f) is;
      forward = omega arith;
      within = found.within;
    }

-- one more part that gives no element
pub with_silent : (block : List ℕ) (from : ℕ) (items : List Item) (at end : ℕ) (token : Kept)
    → PlainTo block from items at → ((f : Bool) → KeptAt f block at token end)
    → is_plain_kept token ≡ true
    → items_of_kept token ≡ [] → PlainTo block from items end
with_silent block from items at end token plain here is no_items =
    subst (λ xs. PlainTo block from xs end) (ap (λ ys. items ++ ys) no_items
    ∙ append-nil items) (with_more block from items at end token plain here is)

-- one after the other
both_parts : (f : Bool) (block : List ℕ) (from at end : ℕ) (first second : List Item)
    → ArePlain f block from first at → ArePlain f block at second end
    → ArePlain f block from (first ++ second) end
both_parts f block from at end first second before none =
    subst (λ xs. ArePlain f block from xs at) (sym (append-nil first)) before
both_parts f block from at end first second before
    (then_part {items = items} {at = last} token most here is) =
    subst (λ xs. ArePlain f block from xs end) (append_assoc first items (items_of_kept token))
    (then_part token (both_parts f block from at last first items before most) here is)

pub with_both : (block : List ℕ) (from : ℕ) (first : List Item) (at : ℕ) (second : List Item)
    (end : ℕ) → PlainTo block from first at → PlainTo block at second end
    → PlainTo block from (first ++ second) end
with_both block from first at second end before after = record {
  parts = λ f. both_parts f block from at end first second (before.parts f) (after.parts f);
  forward = let begun : from ≤ at = before.forward in let further : at ≤ end = after.forward in
      omega arith;
  within = after.within;
}

known : (b : Bool) → (b ≡ true) ⊎ (b ≡ false)
known true = inl refl
known false = inr refl

right_one : (a b : Bool) → (a || b) ≡ true → a ≡ false → b ≡ true
right_one true b any off = absurd (cc)
right_one false b any off = any

-- where a word is passed, the next begins with the word's next byte
next_begins : (block : List ℕ) (at j : ℕ) → is_word_byte (get_or block (at + j) 0) ≡ false
    → word_begins block at (suc j) ≡ is_word_byte (get_or block (at + suc j) 0)
next_begins block at j off = rw off (go (is_word_byte (get_or block (at + suc j) 0)))
  where
    go : (b : Bool) → (b && true) ≡ b
    go true = refl
    go false = refl

none_begins : (block : List ℕ) (at j : ℕ) → is_word_byte (get_or block (at + j) 0) ≡ false
    → word_begins block at j ≡ false
none_begins block at zero off = off
none_begins block at (suc j) off = rw off refl

-- of the moves, those are left that begin from the place on
abbrev pub AreLeft : ℕ → ℕ → ℕ → Type 0
AreLeft moves left place = ((i : ℕ) → i < place → has_bit left i ≡ false)
    × ((i : ℕ) → place ≤ i → i < 64 → has_bit left i ≡ has_bit moves i)

and_off : (a b : Bool) → b ≡ false → (a && b) ≡ false
and_off true b off = off
and_off false b off = refl

off_and : (a b : Bool) → a ≡ false → (a && b) ≡ false
off_and true b off = absurd (cc)
off_and false b off = refl

and_same : (a : Bool) → (a && a) ≡ a
and_same true = refl
and_same false = refl

module _ (block : List ℕ) (at words moves numbers len : ℕ) (from : ℕ)
    (s : Sweeps block at words moves numbers len) where
  abbrev byte : ℕ → ℕ
  byte i = get_or block (at + i) 0

  -- no move has begun that has not ended: outside of words, or in a number
  pub data Quiet (items : List Item) (j : ℕ) : Type 0 where
    outside : PlainTo block from items (at + j) → word_begins block at j ≡ is_word_byte (byte j)
        → Quiet items j
    in_number : (b i : ℕ) → PlainTo block from items b → b < at + j
        → is_digit (get_or block b 0) ≡ true → AllPass is_digit block (b + 1) (at + j)
        → j ≡ suc i → has_bit numbers i ≡ true → Quiet items j

  inside_block : (j : ℕ) → j < len → at + j < length block
  inside_block j lt = let within = s.within in omega arith

  -- at the byte after a gap or a period
  gap_after : (items : List Item) (j : ℕ) → j < len → PlainTo block from items (at + j)
      → is_word_byte (byte j) ≡ false → Quiet items (suc j)
  gap_after items j lt plain off =
      let next : at + j + 1 ≡ at + suc j = omega arith in
      let below = inside_block j lt in
      elim (known (is_white (byte j))) [
        | inl white ↦ outside
            (subst (PlainTo block from items) next
            (with_silent block from items (at + j) (at + j + 1) KeptGap plain (λ f.
            kept_white f block (at + j) below white) refl refl)) (next_begins block at j off)
        | inr dark ↦
            let dot : byte j ≡ 46 =
            eqb-true _ _ (right_one _ _ (right_one _ _ (s.each j lt) off) dark) in
            outside (subst (PlainTo block from items) next
            (with_silent block from items (at + j) (at + j + 1) KeptDot plain (λ f.
            kept_dot f block (at + j) below dot) refl refl)) (next_begins block at j off)
      ]

  quiet_step : (items : List Item) (j : ℕ) → j < len → has_bit moves j ≡ false → Quiet items j
      → Quiet items (suc j)
  quiet_step items j lt still (outside plain begins) =
      let below = inside_block j lt in
      elim (known (is_word_byte (byte j))) [
        | inr off ↦ gap_after items j lt plain off
        | inl word ↦
            let first : word_begins block at j ≡ true = begins ∙ word in
            let plain_first : is_letter (byte j) ≡ false =
            rest (word_begins block at j) (is_letter (byte j)) first (sym (s.moves_are j lt)
            ∙ still) in
            let number : has_bit numbers j ≡ true =
            right_one _ _ (s.begins j lt first) plain_first in
            in_number (at + j) j plain (omega arith) (s.digits j lt number)
            (subst (AllPass is_digit block (at + j + 1)) (omega arith)
            (none_yet is_digit block (at + j + 1) (omega arith))) refl number
      ]
    where
      rest : (a b : Bool) → a ≡ true → (a && b) ≡ false → b ≡ false
      rest true b is off = off
      rest false b is off = absurd (cc)
  quiet_step items j lt still (in_number b i plain before digit pass is number) =
      let below = inside_block j lt in
      let more : (has_bit numbers j || is_gap (byte j)) ≡ true =
      rw is (s.goes_on i (omega arith) number) in
      elim (known (has_bit numbers j)) [
        | inl on ↦ in_number b j plain (omega arith) digit
            (one_more is_digit block (b + 1) (at + j) (at
            + suc j) (omega arith) pass below (s.digits j lt on)) refl on
        | inr off ↦
            let gap : is_gap (byte j) ≡ true = right_one _ _ more off in
            let ends : is_word_byte (byte j) ≡ false = is_gap-word (byte j) gap in
            let to : RunTo is_digit block (b + 1) (at + j) =
            passed_to is_digit block (b + 1) (at + j) pass (λ _. is_gap-digit (byte j) gap) in
            gap_after items j lt
            (with_silent block from items b (at + j) KeptNumber plain (λ f.
            kept_digits f block b (at + j) (omega arith) digit to (λ _. ends)) refl refl) ends
      ]

  -- over bytes with which no move begins
  pub quiet_walk : (items : List Item) (n j : ℕ) → n + j ≤ len
      → ((i : ℕ) → j ≤ i → i < n + j → has_bit moves i ≡ false) → Quiet items j
      → Quiet items (n + j)
  quiet_walk items zero j le still quiet = subst (Quiet items) (omega arith) quiet
  quiet_walk items (suc n) j le still quiet =
      subst (Quiet items) (omega arith)
      (quiet_step items (n + j) (omega arith) (still (n + j) (omega arith) (omega arith))
      (quiet_walk items n j (omega arith) (λ i low high. still i low (omega arith)) quiet))

  -- where a word begins, none goes on
  pub quiet_begin : (items : List Item) (j : ℕ) → j < len → word_begins block at j ≡ true
      → Quiet items j → PlainTo block from items (at + j)
  quiet_begin items j lt first (outside plain begins) = plain
  quiet_begin items j lt first (in_number b i plain before digit pass is number) =
      let here : word_begins block at (suc i) ≡ true =
      subst (λ k. word_begins block at k ≡ true) is first in
      absurd (clash (is_word_byte (byte i))
      (is_digit-word (byte i) (s.digits i (omega arith) number)) (second _ _ here))
    where
      second : (a b : Bool) → (a && not b) ≡ true → b ≡ false
      second true true is = absurd (cc)
      second true false is = refl
      second false b is = absurd (cc)

  -- at the end, which stands after white space
  pub quiet_end : (items : List Item) → Quiet items len → PlainTo block from items (at + len)
  quiet_end items (outside plain begins) = plain
  quiet_end items (in_number b i plain before digit pass is number) =
      absurd (clash (is_word_byte (byte i))
      (is_digit-word (byte i) (s.digits i (omega arith) number))
      (is_gap-word (byte i) (s.ends i is)))

  -- a move from the byte `b` on up to the byte `e`
  pub move_walk : (items : List Item) (b e : ℕ) → b < e → e < len → is_letter (byte b) ≡ true
      → ((i : ℕ) → b ≤ i → i < e → is_word_byte (byte i) ≡ true) → is_word_byte (byte e) ≡ false
      → PlainTo block from items (at + b)
      → PlainTo block from (items ++ MoveText (take (at + e - (at + b)) (drop (at + b) block))
      ∷ []) (at + e)
  move_walk items b e lt le letter inside ends plain =
      let below : at + b < length block = inside_block b (omega arith) in
      let pass : AllPass is_word_byte block (at + b + 1) (at + e) = record {
        forward = omega arith;
        within = let high = inside_block e le in omega arith;
        inside = λ k before. ap (λ n. is_word_byte (get_or block n 0)) (omega arith)
            ∙ inside (b + 1 + k) (omega arith) (omega arith);
      } in
      with_more block from items (at + b) (at + e) (KeptMove _) plain
      (λ f. kept_letters f block (at + b) (at
      + e) below letter (passed_to is_word_byte block (at + b + 1) (at + e) pass (λ _. ends)))
      refl

  -- after a move
  pub after_move : (items : List Item) (e : ℕ) → is_word_byte (byte e) ≡ false
      → PlainTo block from items (at + e) → Quiet items e
  after_move items e ends plain = outside plain (none_begins block at e ends ∙ sym ends)

  -- at the place itself
  pub at_first : (items : List Item) → PlainTo block from items at → Quiet items 0
  at_first items plain = outside (subst (PlainTo block from items) (omega arith) plain) refl

  -- within a move that began at the byte `b`, or at no move's byte
  pub data Standing (items : List Item) (j : ℕ) : Type 0 where
    quiet : Quiet items j → Standing items j
    in_move : (b : ℕ) → PlainTo block from items (at + b) → b < j → is_letter (byte b) ≡ true
        → ((i : ℕ) → b ≤ i → i < j → is_word_byte (byte i) ≡ true) → Standing items j

  no_move : (j : ℕ) → j < len → word_begins block at j ≡ false → has_bit moves j ≡ false
  no_move j lt off = s.moves_are j lt ∙ rw off refl

  move_first : (j : ℕ) → j < len → has_bit moves j ≡ true
      → (word_begins block at j ≡ true) × (is_letter (byte j) ≡ true)
  move_first j lt on = both_true _ _ (sym (s.moves_are j lt) ∙ on)

  step : (items : List Item) (j : ℕ) → j < len → Standing items j
      → (more : List Item) × Standing more (suc j)
  step items j lt (quiet q) = elim (known (has_bit moves j)) [
    | inr off ↦ (items, quiet (quiet_step items j lt off q))
    | inl on ↦
        let first = move_first j lt on in (
          items,
          in_move j (quiet_begin items j lt first.0 q) (omega arith) first.1 (λ i low high.
              ap (λ k. is_word_byte (byte k)) (omega arith) ∙ is_letter-word (byte j) first.1),
        )
  ]
  step items j lt (in_move b plain before letter inside) = elim (known (is_word_byte (byte j))) [
    | inl word ↦ (
      items,
      in_move b plain (omega arith) letter (λ i low high.
          elim (cases_lt i j) [
            | inl less ↦ inside i low less
            | inr more ↦ ap (λ k.
                is_word_byte (byte k)) (omega arith) ∙ word
          ]),
    )
    | inr ends ↦
        let moved = move_walk items b j before lt letter inside ends plain in (
          _,
          quiet (quiet_step _ j lt (no_move j lt (none_begins block at j ends))
              (after_move _ j ends moved)),
        )
  ]

  steps : (n : ℕ) → n ≤ len → (items : List Item) → PlainTo block from items at
      → (more : List Item) × Standing more n
  steps zero le items plain = (items, quiet (at_first items plain))
  steps (suc n) le items plain =
      let before = steps n (omega arith) items plain in
      step before.0 n (omega arith) before.1

  pub plain_over : (items : List Item) → PlainTo block from items at
      → (more : List Item) × PlainTo block from more (at + len)
  plain_over items plain =
      let all = steps len (omega arith) items plain in
      (all.0, standing_end all.0 all.1)
    where
      standing_end : (more : List Item) → Standing more len → PlainTo block from more (at + len)
      standing_end more (quiet q) = quiet_end more q
      standing_end more (in_move b plain before letter inside) =
          let i : ℕ = len - 1 in
          absurd (clash (is_word_byte (byte i)) (inside i (omega arith) (omega arith))
          (is_gap-word (byte i) (s.ends i (omega arith))))

  -- after each move comes a place without a word
  pub have_ends : HaveEnds words moves
  have_ends i lt on =
      let within : i < len =
      elim (cases_lt i len)
      [ inl below ↦ below | inr le ↦ absurd (clash (has_bit moves i) on (s.moves_end i le lt)) ]
      in
      let first = move_first i within on in
      let last : ℕ = len - 1 in
      let gap : is_word_byte (byte last) ≡ false =
      is_gap-word (byte last) (s.ends last (omega arith)) in
      let short : len < 64 = s.short in
      let before : i < last = elim (cases_lt i last) [
        | inl below ↦ below
        | inr le ↦ absurd
            (clash (is_word_byte (byte last)) (ap (λ k. is_word_byte (byte k)) (omega arith)
            ∙ is_letter-word (byte i) first.1) gap)
      ] in
      (last, before, omega arith, s.words_are last (omega arith) ∙ gap)

  -- a move that is left is one
  left_moves : (left place i : ℕ) → AreLeft moves left place → i < 64 → has_bit left i ≡ true
      → (place ≤ i) × (has_bit moves i ≡ true)
  left_moves left place i are lt on = elim (cases_lt i place) [
    | inl less ↦ absurd (clash (has_bit left i) on (are.0 i less))
    | inr more ↦ (more, sym (are.1 i more lt) ∙ on)
  ]

  -- with a move that is left a word begins
  pub left_words : (left place : ℕ) → AreLeft moves left place → (i : ℕ) → i < 64
      → has_bit left i ≡ true → has_bit words i ≡ true
  left_words left place are i lt on =
      let move : has_bit moves i ≡ true = (left_moves left place i are lt on).1 in
      let within : i < len = elim (cases_lt i len) [
        | inl below ↦ below
        | inr le ↦ absurd (clash (has_bit moves i) move (s.moves_end i le lt))
      ] in
      s.words_are i within ∙ is_letter-word (byte i) (move_first i within move).1

  pub left_ends : (left place : ℕ) → AreLeft moves left place → HaveEnds words left
  left_ends left place are i lt on = have_ends i lt (left_moves left place i are lt on).1

  -- the first of those that are left is the next one
  pub next_left : (left place b e : ℕ) → AreLeft moves left place → IsNextMove words left 0 b e
      → IsNextMove words moves place b e
  next_left left place b e are next =
      let short : e < 64 = next.short in
      let longer : b ≤ e = next.longer in
      let here = left_moves left place b are (omega arith) next.begins in
      record {
        forward = here.0;
        short = short;
        longer = longer;
        begins = here.1;
        first = λ i low high. sym (are.1 i low (omega arith)) ∙ next.first i (omega arith) high;
        inside = next.inside;
        ends = next.ends;
      }

  -- in a word that has begun none begins
  still_in_word : (k : ℕ) → suc k < len → is_word_byte (byte k) ≡ true
      → has_bit moves (suc k) ≡ false
  still_in_word k lt word =
      no_move (suc k) lt
      (and_off (is_word_byte (byte (suc k))) (not (is_word_byte (byte k))) (rw word refl))

  -- after the first of those that are left, without its bit
  pub left_after : (left place b e : ℕ) → AreLeft moves left place
      → IsNextMove words left 0 b e → e ≤ len → AreLeft moves (bit_and left (left - 1)) e
  left_after left place b e are next within =
      let short : e < 64 = next.short in
      let longer : b ≤ e = next.longer in
      let forward : place ≤ b = (next_left left place b e are next).forward in
      let some : b < e = elim (cases_lt b e) [
        | inl below ↦ below
        | inr le ↦ absurd
            (clash (has_bit words e) (ap (has_bit words) (omega arith)
            ∙ left_words left place are b (omega arith) next.begins) next.ends)
      ] in
      let less = λ (k : ℕ). one_less b left k next.begins (λ i lt. next.first i (omega arith) lt)
      in (
        λ i lt. bit-and left (left - 1) i ∙ elim (cases_lt i b) [
          | inl before ↦ off_and _ (has_bit (left - 1) i) (next.first i (omega arith) before)
          | inr le ↦ elim (cases_lt b i) [
            | inr same ↦ and_off (has_bit left i) _ ((less i).1 (omega arith))
            | inl after ↦
                let k : ℕ = i - 1 in
                let is : i ≡ suc k = omega arith in
                let inner : suc k < len = omega arith in
                let word : is_word_byte (byte k) ≡ true =
                sym (s.words_are k (omega arith)) ∙ next.inside k (omega arith) (omega arith) in
                off_and _ (has_bit (left - 1) i) (are.1 i (omega arith) (omega arith)
                ∙ ap (has_bit moves) is ∙ still_in_word k inner word)
          ]
        ],
        λ i le lt. bit-and left (left - 1) i
            ∙ ap (λ v. has_bit left i && v) ((less i).2 (omega arith)) ∙ and_same (has_bit left i)
            ∙ are.1 i (omega arith) lt,
      )

  -- where none is left
  pub none_left : (left place : ℕ) → AreLeft moves left place → left ≡ 0 → NoneFrom moves place
  none_left left place are done i low lt = sym (are.1 i low lt) ∙ go (has_bit left i) refl
    where
      go : (v : Bool) → has_bit left i ≡ v → v ≡ false
      go true is = let some = some_bit left i is in absurd (omega arith)
      go false is = refl

  -- over the next move
  pub over_move : (items : List Item) (place b e : ℕ) → IsNextMove words moves place b e
      → Quiet items place
      → (place < e) × (e ≤ len)
      × Quiet (items ++ MoveText (take (at + e - (at + b)) (drop (at + b) block)) ∷ []) e
  over_move items place b e next q =
      let short : e < 64 = next.short in
      let longer : b ≤ e = next.longer in
      let forward : place ≤ b = next.forward in
      let within : b < len =
      elim (cases_lt b len) [
        | inl below ↦ below
        | inr le ↦ absurd
            (clash (has_bit moves b) next.begins (s.moves_end b le (omega arith)))
      ] in
      let first = move_first b within next.begins in
      let last : ℕ = len - 1 in
      let past : e < len = elim (cases_lt e len) [
        | inl below ↦ below
        | inr le ↦ absurd
            (clash (has_bit words last) (next.inside last (omega arith) (omega arith))
            (s.words_are last (omega arith) ∙ is_gap-word (byte last) (s.ends last (omega arith))))
      ] in
      let inside = λ (i : ℕ) (low : b ≤ i) (high : i < e). sym (s.words_are i (omega arith))
      ∙ next.inside i low high in
      let ends : is_word_byte (byte e) ≡ false = sym (s.words_are e past) ∙ next.ends in
      let some : b < e = elim (cases_lt b e) [
        | inl below ↦ below
        | inr le ↦ absurd
            (clash (is_word_byte (byte e)) (ap (λ k. is_word_byte (byte k)) (omega arith)
            ∙ is_letter-word (byte b) first.1) ends)
      ] in
      let there : Quiet items b =
      subst (Quiet items) (omega arith)
      (quiet_walk items (b - place) place (omega arith) (λ i low high.
      next.first i low (omega arith)) q) in (
        omega arith,
        omega arith,
        after_move _ e ends
            (move_walk items b e some past first.1 inside ends
            (quiet_begin items b within first.0 there)),
      )

  -- over the rest, with no move
  pub over_rest : (items : List Item) (place : ℕ) → place ≤ len → NoneFrom moves place
      → Quiet items place → PlainTo block from items (at + len)
  over_rest items place le still q =
      let short : len < 64 = s.short in
      quiet_end items
      (subst (Quiet items) (omega arith)
      (quiet_walk items (len - place) place (omega arith) (λ i low high.
      still i low (omega arith)) q))
