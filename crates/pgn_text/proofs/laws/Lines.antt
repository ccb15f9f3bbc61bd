-- What the state of a game read part by part means: how deep it is, whether a move stands before
-- the place in its line, and whether
-- tags may still come. `shows_more` follows one step.
use Rattle.std.proofs.Common.{◌≡◌, ℕ, suc, ◌+◌, ◌-◌, ◌<◌, ◌≤◌, Bool, true, false, cond, ◌&&◌, ◌||◌}
use Rattle.std.proofs.Common.{List, [], ◌∷◌, ◌++◌, Some, None, count_by, refl, sym, ap, ◌∙◌, ◌⊎◌}
use Rattle.std.proofs.Common.{inl, inr, arith, append_assoc, append-nil, nat_lt, le_refl}
use Rattle.std.proofs.lemmas.List.Sums.{sum_by_push}
use Rattle.std.proofs.Math.Bool.{and-true}
use Rattle.pgn_text.proofs.Common.{list_all, list_all-append, false≢true, and_parts, ltb-true}
use Rattle.pgn_text.proofs.Common.{cases_lt, and_right, cond_some, Part, ByteOrderMark, White}
use Rattle.pgn_text.proofs.Common.{Brace, Line, EscapeLine, Tag, Word, Star, Dot, Glyph, Marks}
use Rattle.pgn_text.proofs.Common.{Open, Close, is_number, is_move_text, is_gap_part, is_tag}
use Rattle.pgn_text.proofs.Common.{is_move, is_open, is_close, depth_after, MoveInLine, State}
use Rattle.pgn_text.proofs.Common.{start, in_movetext, step}

-- where two lists joined are cut within the first or at its end, or further on
pub cut_append : {X : Type 0} (a b c d : List X) → a ++ b ≡ c ++ d
    → ((m : List X) × (a ≡ c ++ m) × (d ≡ m ++ b)) ⊎ ((m : List X) × (c ≡ a ++ m) × (b ≡ m ++ d))
cut_append [] b c d e = inr (c, refl, e)
cut_append (x ∷ a) b [] d e = inl (x ∷ a, refl, sym e)
cut_append (x ∷ a) b (y ∷ c) d e =
    let same : x ≡ y = cc in
    let rest : a ++ b ≡ c ++ d = cc in
    elim (cut_append a b c d rest) [ inl t ↦ inl (t.0, cc, t.2) | inr t ↦ inr (t.0, cc, t.2) ]

-- a list of one element, cut in two
pub cut_single : {X : Type 0} (x : X) (c d : List X) → x ∷ [] ≡ c ++ d
    → ((c ≡ []) × (d ≡ x ∷ [])) ⊎ ((c ≡ x ∷ []) × (d ≡ []))
cut_single x [] d e = inl (refl, sym e)
cut_single x (y ∷ []) d e = inr (cc, cc)
cut_single x (y ∷ z ∷ c) d e = cc

-- a list that ends with one element, cut in two: the second part is empty or ends with it
pub cut_push : {X : Type 0} (a : List X) (x : X) (c d : List X) → a ++ x ∷ [] ≡ c ++ d
    → ((d ≡ []) × (c ≡ a ++ x ∷ [])) ⊎ ((m : List X) × (a ≡ c ++ m) × (d ≡ m ++ x ∷ []))
cut_push a x c d e =
    elim (cut_append a (x ∷ []) c d e) [
      | inl t ↦ inr t
      | inr t ↦ elim (cut_single x t.0 d t.2)
          [ inl u ↦ inr ([], (cut_nil a c t.0 t.1 u.0), u.1) | inr u ↦ inl (u.1, rw (← u.0) t.1) ]
    ]
  where
    cut_nil : {X : Type 0} (a c m : List X) → c ≡ a ++ m → m ≡ [] → a ≡ c ++ []
    cut_nil a c m e n = rw (e, n) (rw (append-nil, append-nil) refl)

-- a list that ends with one element, cut round an element: that is the last one, or it stands
-- before
cut_round : {X : Type 0} (a : List X) (x : X) (c : List X) (y : X) (d : List X)
    → a ++ x ∷ [] ≡ c ++ y ∷ d
    → ((d ≡ []) × (y ≡ x) × (c ≡ a)) ⊎ ((m : List X) × (a ≡ c ++ y ∷ m) × (d ≡ m ++ x ∷ []))
cut_round a x c y d e =
    elim (cut_push a x c (y ∷ d) e) [ inl t ↦ nothing t.0 | inr t ↦ there t.0 t.1 t.2 ]
  where
    nothing : y ∷ d ≡ [] → ((d ≡ []) × (y ≡ x) × (c ≡ a))
        ⊎ ((m : List _) × (a ≡ c ++ y ∷ m) × (d ≡ m ++ x ∷ []))
    nothing e = cc

    there : (m : List _) → a ≡ c ++ m → y ∷ d ≡ m ++ x ∷ []
        → ((d ≡ []) × (y ≡ x) × (c ≡ a)) ⊎ ((m : List _) × (a ≡ c ++ y ∷ m) × (d ≡ m ++ x ∷ []))
    there [] f g = inl (cc, cc, sym (f ∙ append-nil c))
    there (z ∷ m) f g =
        let same : z ≡ y = cc in
        inr (m, f ∙ ap (λ w. c ++ w ∷ m) same, cc)

-- ---- counts after one more part

pub count_push_yes : (p : Part → Bool) (front : List Part) (x : Part) → p x ≡ true
    → count_by p (front ++ x ∷ []) ≡ count_by p front + 1
count_push_yes p front x e = sum_by_push (λ y. cond (p y) 1 0) front x
    ∙ ap (λ b. count_by p front + cond b 1 0) e

pub count_push_not : (p : Part → Bool) (front : List Part) (x : Part) → p x ≡ false
    → count_by p (front ++ x ∷ []) ≡ count_by p front
count_push_not p front x e =
    sum_by_push (λ y. cond (p y) 1 0) front x ∙ ap (λ b. count_by p front + cond b 1 0) e
    ∙ omega arith

-- a part that is no parenthesis leaves the depth
depth_push : (front : List Part) (x : Part) → is_open x ≡ false → is_close x ≡ false
    → depth_after (front ++ x ∷ []) ≡ depth_after front
depth_push front x o c = rw (count_push_not is_open front x o, count_push_not is_close front x c)

-- ---- no smaller depth from a part on

-- from the part x on, the depth is nowhere below `bound`
Above : ℕ → List Part → Part → List Part → Type 0
Above bound earlier x later = (some more : List Part) → later ≡ some ++ more
    → bound ≤ depth_after (earlier ++ x ∷ some)

above_push : (bound : ℕ) (earlier : List Part) (x : Part) (later front : List Part) (y : Part)
    → front ≡ earlier ++ x ∷ later → bound ≤ depth_after (front ++ y ∷ [])
    → Above bound earlier x later
    → Above bound earlier x (later ++ y ∷ [])
unfolding Above
above_push bound earlier x later front y parted low h =
    λ some more e. elim (cut_push later y some more e) [
      | inl t ↦ rw (t.1, ← (append_assoc earlier (x ∷ later) (y ∷ [])), ← parted) low
      | inr t ↦ h some t.0 t.1
    ]

-- the same where a whole stretch follows
above_join : (bound : ℕ) (earlier : List Part) (x : Part) (later : List Part) (y : Part)
    (after front : List Part)
    → front ≡ earlier ++ x ∷ later → bound ≤ depth_after front → Above bound earlier x later
    → Above bound front y after → Above bound earlier x (later ++ y ∷ after)
unfolding Above
above_join bound earlier x later y after front parted low h k =
    λ some more e. elim (cut_append later (y ∷ after) some more e) [
      | inl t ↦ h some t.0 t.1
      | inr t ↦ rest t.0 more t.2 some t.1
    ]
  where
    rest : (m more : List Part) → y ∷ after ≡ m ++ more → (some : List Part) → some ≡ later ++ m
        → bound ≤ depth_after (earlier ++ x ∷ some)
    rest [] more e some s = rw (s, append-nil, ← parted) low
    rest (z ∷ m) more e some s =
        let same : y ≡ z = cc in
        let left : after ≡ m ++ more = cc in
        rw (s, ← (append_assoc earlier (x ∷ later) (z ∷ m)), ← parted, ← same) (k m more left)

above_less : (low bound : ℕ) (earlier : List Part) (x : Part) (later : List Part) → low ≤ bound
    → Above bound earlier x later → Above low earlier x later
unfolding Above
above_less low bound earlier x later le h = λ some more e. omega (arith, h some more e)

-- ---- a move in the line, after one more part

-- after a part that is no parenthesis
line_kept : (front : List Part) (x : Part) → is_open x ≡ false → is_close x ≡ false
    → MoveInLine front
    → MoveInLine (front ++ x ∷ [])
unfolding Above
line_kept front x o c h = let same = depth_push front x o c in record {
  earlier = h.earlier;
  move = h.move;
  later = h.later ++ x ∷ [];
  parted = ap (λ l. l ++ x ∷ []) h.parted ∙ append_assoc h.earlier (h.move ∷ h.later) (x ∷ []);
  is_move = h.is_move;
  same_depth = h.same_depth ∙ sym same;
  one_line =
      above_push (depth_after (front ++ x ∷ [])) h.earlier h.move h.later front x h.parted
      (le_refl _)
      (rw same h.one_line);
}

-- and a move after such a part that is no move stood before it already
line_back : (front : List Part) (x : Part) → is_open x ≡ false → is_close x ≡ false
    → is_move x ≡ false
    → MoveInLine (front ++ x ∷ []) → MoveInLine front
line_back front x o c m h = let same = depth_push front x o c in
    elim (cut_round front x h.earlier h.move h.later h.parted) [
      | inl t ↦ absurd (false≢true (sym m ∙ ap is_move (sym t.1) ∙ h.is_move))
      | inr t ↦ record {
        earlier = h.earlier;
        move = h.move;
        later = t.0;
        parted = t.1;
        is_move = h.is_move;
        same_depth = h.same_depth ∙ same;
        one_line =
            λ some more e. rw same at
            (h.one_line some (more ++ x ∷ []) (t.2 ∙ ap (λ l. l ++ x ∷ []) e
            ∙ append_assoc some more (x ∷ [])));
      }
    ]

above_end : (bound : ℕ) (front : List Part) (x : Part) → bound ≤ depth_after (front ++ x ∷ [])
    → Above bound front x []
unfolding Above
above_end bound front x low = λ some more e. only some more e
  where
    only : (some more : List Part) → [] ≡ some ++ more → bound ≤ depth_after (front ++ x ∷ some)
    only [] more e = low
    only (y ∷ some) more e = cc

-- after a move
line_moved : (front : List Part) (x : Part) → is_open x ≡ false → is_close x ≡ false
    → is_move x ≡ true
    → MoveInLine (front ++ x ∷ [])
unfolding Above
line_moved front x o c m = record {
  earlier = front;
  move = x;
  later = [];
  parted = refl;
  is_move = m;
  same_depth = sym (depth_push front x o c);
  one_line = above_end (depth_after (front ++ x ∷ [])) front x (le_refl _);
}

-- no move is after the `(` that begins a line
line_begins : (front : List Part) → depth_after (front ++ Open ∷ []) ≡ depth_after front + 1
    → MoveInLine (front ++ Open ∷ []) → ⊥
line_begins front deeper h =
    elim (cut_round front Open h.earlier h.move h.later h.parted) [
      | inl t ↦ false≢true (ap is_move (sym t.1) ∙ h.is_move)
      | inr t ↦ let low = h.one_line t.0 (Open ∷ []) t.2 in let here = rw (← t.1) at low in
          omega arith
    ]

-- ---- what the state means

-- in `front` a variation begins at depth k, after a move of its line, and from there on the depth
-- is above k
pub record OpenedAt (front : List Part) (k : ℕ) : Type 0 where
  pub earlier : List Part
  pub later : List Part
  pub parted : front ≡ earlier ++ Open ∷ later
  pub line : MoveInLine earlier
  pub here : depth_after earlier ≡ k
  pub above : (some more : List Part) → later ≡ some ++ more
      → suc k ≤ depth_after (earlier ++ Open ∷ some)

-- what the state says of the parts before
pub record Shows (front : List Part) (s : State) : Type 0 where
  pub tags : s.in_tags ≡ list_all (λ p. is_tag p || is_gap_part p) front
  pub balance : count_by is_open front ≡ count_by is_close front + s.depth
  pub moved : s.has_move ≡ true → MoveInLine front
  pub unmoved : s.has_move ≡ false → MoveInLine front → ⊥
  pub opened : (k : ℕ) → k < s.depth → OpenedAt front k

pub shows_start : Shows [] start
shows_start =
    record {
      tags = refl;
      balance = refl;
      moved = λ e. cc;
      unmoved = λ e h. nothing h.earlier h.move h.later h.parted;
      opened = λ k l. absurd (omega arith);
    }
  where
    nothing : (earlier : List Part) (y : Part) (later : List Part) → [] ≡ earlier ++ y ∷ later → ⊥
    nothing [] y later e = cc
    nothing (x ∷ earlier) y later e = cc

pub depth_is : (front : List Part) (s : State) → Shows front s → depth_after front ≡ s.depth
depth_is front s h = omega (arith, h.balance)

opened_push : (front : List Part) (k : ℕ) (y : Part) → k < depth_after (front ++ y ∷ [])
    → OpenedAt front k
    → OpenedAt (front ++ y ∷ []) k
unfolding Above
opened_push front k y low h = record {
  earlier = h.earlier;
  later = h.later ++ y ∷ [];
  parted = ap (λ l. l ++ y ∷ []) h.parted ∙ append_assoc h.earlier (Open ∷ h.later) (y ∷ []);
  line = h.line;
  here = h.here;
  above = above_push (suc k) h.earlier Open h.later front y h.parted low h.above;
}

tags_push : (front : List Part) (x : Part) (a b : Bool)
    → a ≡ list_all (λ p. is_tag p || is_gap_part p) front
    → b ≡ (a && (is_tag x || is_gap_part x))
    → b ≡ list_all (λ p. is_tag p || is_gap_part p) (front ++ x ∷ [])
tags_push front x a b e f =
    f ∙ ap (λ c. c && (is_tag x || is_gap_part x)) e
    ∙ sym (list_all-append (λ p. is_tag p || is_gap_part p) front
    (x ∷ []) ∙ ap (λ c. list_all (λ p. is_tag p || is_gap_part p) front
    && c) (and-true (is_tag x || is_gap_part x)))

-- a part that is no parenthesis and no move
plain_more : (front : List Part) (x : Part) (s t : State) → is_open x ≡ false → is_close x ≡ false
    → is_move x ≡ false
    → t.in_tags ≡ (s.in_tags && (is_tag x || is_gap_part x)) → t.depth ≡ s.depth
    → t.has_move ≡ s.has_move
    → Shows front s → Shows (front ++ x ∷ []) t
plain_more front x s t o c m tags depth moves h = let same = depth_push front x o c in record {
  tags = tags_push front x s.in_tags t.in_tags h.tags tags;
  balance =
      rw (count_push_not is_open front x o, count_push_not is_close front x c, depth) h.balance;
  moved = λ e. line_kept front x o c (h.moved (sym moves ∙ e));
  unmoved = λ e k. h.unmoved (sym moves ∙ e) (line_back front x o c m k);
  opened =
      λ k l. opened_push front k x (omega (arith, same, depth_is front s h))
      (h.opened k (omega arith));
}

-- a move
move_more : (front : List Part) (x : Part) (s t : State) → is_open x ≡ false → is_close x ≡ false
    → is_move x ≡ true
    → t.in_tags ≡ (s.in_tags && (is_tag x || is_gap_part x)) → t.depth ≡ s.depth → t.has_move ≡ true
    → Shows front s
    → Shows (front ++ x ∷ []) t
move_more front x s t o c m tags depth moves h = let same = depth_push front x o c in record {
  tags = tags_push front x s.in_tags t.in_tags h.tags tags;
  balance =
      rw (count_push_not is_open front x o, count_push_not is_close front x c, depth) h.balance;
  moved = λ e. line_moved front x o c m;
  unmoved = λ e k. absurd (false≢true (sym e ∙ moves));
  opened =
      λ k l. opened_push front k x (omega (arith, same, depth_is front s h))
      (h.opened k (omega arith));
}

-- the beginning of a variation, after a move
open_more : (front : List Part) (s t : State) → s.has_move ≡ true → t.in_tags ≡ false
    → t.depth ≡ s.depth + 1
    → t.has_move ≡ false → Shows front s → Shows (front ++ Open ∷ []) t
unfolding Above
open_more front s t m tags depth moves h =
    let opens = count_push_yes is_open front Open refl in
    let closes = count_push_not is_close front Open refl in
    let deeper : depth_after (front ++ Open ∷ []) ≡ depth_after front + 1 =
    omega (arith, opens, closes, h.balance) in
    record {
      tags = tags_push front Open s.in_tags t.in_tags h.tags (tags
          ∙ sym (and_right s.in_tags false refl));
      balance = omega (arith, opens, closes, h.balance, depth);
      moved = λ e. absurd (false≢true (sym moves ∙ e));
      unmoved = λ e. line_begins front deeper;
      opened = λ k l. elim (cases_lt k s.depth) [
        | inl less ↦ opened_push front k Open (omega (arith, deeper, depth_is front s h))
            (h.opened k less)
        | inr more ↦ let k_is : k ≡ depth_after front = omega (arith, depth_is front s h, depth) in
            record {
              earlier = front;
              later = [];
              parted = refl;
              line = h.moved m;
              here = sym k_is;
              above = above_end (suc k) front Open (omega (arith, deeper));
            }
      ];
    }

-- the end of a variation: the move before its `(` stands in the line again
close_more : (front : List Part) (s t : State) → 0 < s.depth → t.in_tags ≡ false
    → t.depth ≡ s.depth - 1
    → t.has_move ≡ true → Shows front s → Shows (front ++ Close ∷ []) t
unfolding Above
close_more front s t deep tags depth moves h =
    let opens = count_push_not is_open front Close refl in
    let closes = count_push_yes is_close front Close refl in
    let now : depth_after (front ++ Close ∷ []) ≡ s.depth - 1 =
    omega (arith, opens, closes, h.balance) in
    record {
      tags = tags_push front Close s.in_tags t.in_tags h.tags (tags
          ∙ sym (and_right s.in_tags false refl));
      balance = omega (arith, opens, closes, h.balance, depth);
      moved = λ e. outer (h.opened (s.depth - 1) (omega arith)) now;
      unmoved = λ e. absurd (false≢true (sym e ∙ moves));
      opened =
          λ k l. opened_push front k Close (omega (arith, now, depth))
          (h.opened k (omega (arith, depth)));
    }
  where
    outer : OpenedAt front (s.depth - 1) → depth_after (front ++ Close ∷ []) ≡ s.depth - 1
        → MoveInLine (front ++ Close ∷ [])
    outer o now = let line = o.line in record {
      earlier = line.earlier;
      move = line.move;
      later = line.later ++ Open ∷ (o.later ++ Close ∷ []);
      parted = ap (λ l. l ++ Close ∷ []) o.parted
          ∙ append_assoc o.earlier (Open ∷ o.later) (Close ∷ [])
          ∙ ap (λ l. l ++ Open ∷ (o.later ++ Close ∷ [])) line.parted ∙ append_assoc line.earlier
          (line.move ∷ line.later) (Open ∷ (o.later ++ Close ∷ []));
      is_move = line.is_move;
      same_depth = line.same_depth ∙ o.here ∙ sym now;
      one_line =
          above_join (depth_after (front ++ Close ∷ [])) line.earlier line.move line.later Open
          (o.later ++ Close ∷ [])
          o.earlier line.parted (omega (arith, o.here, now)) (rw (now, ← o.here) line.one_line)
          (above_push (depth_after (front ++ Close ∷ [])) o.earlier Open o.later front Close
          o.parted (le_refl _)
          (above_less (depth_after (front ++ Close ∷ [])) (suc (s.depth - 1)) o.earlier Open o.later
          (omega (arith, now)) o.above));
    }

-- ---- one step

-- a part that leaves the state
kept_more : (front : List Part) (x : Part) (s t : State) → is_open x ≡ false → is_close x ≡ false
    → is_move x ≡ false
    → (is_tag x || is_gap_part x) ≡ true → Some s ≡ Some t → Shows front s
    → Shows (front ++ x ∷ []) t
kept_more front x s t o c m g e h =
    let same : s ≡ t = cc in
    plain_more front x s t o c m (ap (λ (u : State). u.in_tags) (sym same)
    ∙ sym (and-true s.in_tags)
    ∙ ap (λ b. s.in_tags && b) (sym g)) (ap (λ (u : State). u.depth) (sym same))
    (ap (λ (u : State). u.has_move)
    (sym same)) h

-- a part of the movetext that is no move
movetext_more : (front : List Part) (x : Part) (s t : State) → is_open x ≡ false
    → is_close x ≡ false
    → is_move x ≡ false → (is_tag x || is_gap_part x) ≡ false → Some (in_movetext s) ≡ Some t
    → Shows front s
    → Shows (front ++ x ∷ []) t
movetext_more front x s t o c m g e h =
    let same : in_movetext s ≡ t = cc in
    plain_more front x s t o c m (ap (λ (u : State). u.in_tags) (sym same)
    ∙ sym (and_right s.in_tags false refl)
    ∙ ap (λ b. s.in_tags && b) (sym g)) (ap (λ (u : State). u.depth) (sym same))
    (ap (λ (u : State). u.has_move)
    (sym same)) h

-- a word
word_more : (front : List Part) (text : List ℕ) (s t : State) (moves number : Bool)
    → is_move_text text ≡ moves
    → cond moves (Some (record { in_tags = false; depth = s.depth; has_move = true }))
    (cond number (Some (in_movetext s)) None) ≡ Some t
    → Shows front s → Shows (front ++ Word text ∷ []) t
word_more front text s t true number m e h =
    let same : record { in_tags = false; depth = s.depth; has_move = true } ≡ t = cc in
    move_more front (Word text) s t refl refl m (ap (λ (u : State). u.in_tags) (sym same)
    ∙ sym (and_right s.in_tags false refl))
    (ap (λ (u : State). u.depth) (sym same)) (ap (λ (u : State). u.has_move) (sym same)) h
word_more front text s t false number m e h =
    movetext_more front (Word text) s t refl refl m refl
    (ap (λ x. Some x) (cond_some number (in_movetext s) t e).1) h

-- the state after one more part says what it means
pub shows_more : (max_depth : ℕ) (front : List Part) (s t : State) (part : Part)
    → step max_depth s part ≡ Some t
    → Shows front s → Shows (front ++ part ∷ []) t
shows_more max_depth front s t ByteOrderMark e h =
    kept_more front ByteOrderMark s t refl refl refl refl e h
shows_more max_depth front s t (White b) e h = kept_more front (White b) s t refl refl refl refl e h
shows_more max_depth front s t (Brace text) e h =
    kept_more front (Brace text) s t refl refl refl refl e h
shows_more max_depth front s t (Line text) e h =
    kept_more front (Line text) s t refl refl refl refl e h
shows_more max_depth front s t (EscapeLine text) e h =
    kept_more front (EscapeLine text) s t refl refl refl refl e h
shows_more max_depth front s t (Tag first name second contents third) e h =
    kept_more front (Tag first name second contents third) s t refl refl refl refl
    (ap (λ x. Some x) (cond_some s.in_tags s t e).1) h
shows_more max_depth front s t (Word text) e h =
    word_more front text s t (is_move_text text) (is_number text) refl e h
shows_more max_depth front s t Star e h = cc
shows_more max_depth front s t Dot e h = movetext_more front Dot s t refl refl refl refl e h
shows_more max_depth front s t (Glyph digits) e h =
    movetext_more front (Glyph digits) s t refl refl refl refl e h
shows_more max_depth front s t (Marks marks) e h =
    movetext_more front (Marks marks) s t refl refl refl refl e h
shows_more max_depth front s t Open e h =
    let f = cond_some (s.has_move && nat_lt s.depth max_depth)
    (record { in_tags = false; depth = s.depth + 1; has_move = false }) t e in
    let same = f.1 in
    open_more front s t (and_parts s.has_move (nat_lt s.depth max_depth) f.0).0
    (ap (λ (u : State). u.in_tags)
    (sym same)) (ap (λ (u : State). u.depth) (sym same)) (ap (λ (u : State). u.has_move) (sym same))
    h
shows_more max_depth front s t Close e h =
    let f = cond_some (nat_lt 0 s.depth)
    (record { in_tags = false; depth = s.depth - 1; has_move = true }) t e in
    let same = f.1 in
    close_more front s t (ltb-true 0 s.depth f.0) (ap (λ (u : State). u.in_tags) (sym same))
    (ap (λ (u : State). u.depth) (sym same)) (ap (λ (u : State). u.has_move) (sym same)) h
