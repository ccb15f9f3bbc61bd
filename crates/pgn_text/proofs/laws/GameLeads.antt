-- Parts are a game exactly where each may stand, the first is none of a gap, and they lead from the
-- start to a result.
use Rattle.std.proofs.Common.{◌&&◌, Some}
use Rattle.std.proofs.lemmas.Bool.{true_from_ne_false}
use Rattle.pgn_text.proofs.Common.{◌≡◌, ◌≢◌, ℕ, ◌+◌, ◌-◌, ◌≤◌, ◌↔◌, Bool, true, false, cond, ◌||◌}
use Rattle.pgn_text.proofs.Common.{List, [], ◌∷◌, ◌++◌, None, IsTrue, MatchBool, count_by, refl}
use Rattle.pgn_text.proofs.Common.{sym, subst, ◌∙◌, inl, inr, arith, nat_lt, list_all, false≢true}
use Rattle.pgn_text.proofs.Common.{and_parts, and_from, ltb-true, lt-ltb, cases_Bool, or_left}
use Rattle.pgn_text.proofs.Common.{or_right, MatchBool-at_true, MatchBool-at_false}
use Rattle.pgn_text.proofs.Common.{false_from_ne_true, cond_some, Part, Tag, Word, Star, Dot, Glyph}
use Rattle.pgn_text.proofs.Common.{Marks, Open, Close, AllStand, is_number, is_result_word}
use Rattle.pgn_text.proofs.Common.{is_move_text, is_gap_part, is_tag, is_result, is_meant, is_open}
use Rattle.pgn_text.proofs.Common.{is_close, EachFrom, depth_after, MoveInLine, begins_outside_gap}
use Rattle.pgn_text.proofs.Common.{IsGame, State, start, in_movetext, step, Leads}
use Rattle.pgn_text.proofs.laws.Lines.{Shows, shows_start, shows_more, count_push_yes}
use Rattle.pgn_text.proofs.laws.Lines.{count_push_not}
use Rattle.pgn_text.proofs.laws.Lines.{depth_is}

-- what a game says of its parts after `front`, beside where they stand
pub record GoesOn (max_depth : ℕ) (front parts : List Part) : Type 0 where
  pub tags_first : EachFrom (λ front part back. IsTrue (is_tag part)
      → IsTrue (list_all (λ p. is_tag p || is_gap_part p)
      front)) front parts
  pub result_last : EachFrom (λ front part back. IsTrue (is_result part) ↔ (back ≡ [])) front parts
  pub meant : IsTrue (list_all is_meant parts)
  pub closed_were_open : EachFrom (λ front part back. count_by is_close front
      ≤ count_by is_open front) front parts
  pub depth : EachFrom (λ front part back. depth_after front ≤ max_depth) front parts
  pub all_closed : EachFrom (λ front part back. back ≡ [] → depth_after front ≡ 0) front parts
  pub variations : EachFrom (λ front part back. IsTrue (is_open part)
      → MoveInLine front) front parts

-- ---- from the words to the steps

word_goes : (moves number : Bool) (x y : State) → ((number || false) || moves) ≡ true
    → (t : State) × (cond moves (Some x) (cond number (Some y) None) ≡ Some t)
word_goes true number x y e = (x, refl)
word_goes false true x y e = (y, refl)
word_goes false false x y e = cc

-- a part that the words allow, and that is no result, has a step
step_goes : (max_depth : ℕ) (front : List Part) (s : State) (p : Part) → Shows front s
    → is_result p ≡ false
    → (is_tag p ≡ true → s.in_tags ≡ true) → is_meant p ≡ true
    → (is_open p ≡ true → s.has_move ≡ true)
    → depth_after (front ++ p ∷ []) ≤ max_depth
    → count_by is_close (front ++ p ∷ []) ≤ count_by is_open (front ++ p ∷ [])
    → (t : State) × (step max_depth s p ≡ Some t)
step_goes max_depth front s (Tag first name second contents third) h r tag meant move deep closed =
    (s, rw (tag refl) refl)
step_goes max_depth front s (Word text) h r tag meant move deep closed =
    word_goes (is_move_text text) (is_number text)
    (record { in_tags = false; depth = s.depth; has_move = true })
    (in_movetext s) (rw r at meant)
step_goes max_depth front s Star h r tag meant move deep closed = cc
step_goes max_depth front s Dot h r tag meant move deep closed = (in_movetext s, refl)
step_goes max_depth front s (Glyph digits) h r tag meant move deep closed = (in_movetext s, refl)
step_goes max_depth front s (Marks marks) h r tag meant move deep closed = (in_movetext s, refl)
step_goes max_depth front s Open h r tag meant move deep closed =
    let opens = count_push_yes is_open front Open refl in
    let closes = count_push_not is_close front Open refl in (
      record { in_tags = false; depth = s.depth + 1; has_move = false },
      rw (
        move refl,
        lt-ltb s.depth max_depth
            (omega (arith, opens, closes, h.balance)),
      ) refl,
    )
step_goes max_depth front s Close h r tag meant move deep closed =
    let opens = count_push_not is_open front Close refl in
    let closes = count_push_yes is_close front Close refl in (
      record { in_tags = false; depth = s.depth - 1; has_move = true },
      rw (lt-ltb 0 s.depth (omega (arith, opens, closes, h.balance))) refl,
    )
step_goes max_depth front s _ h r tag meant move deep closed = (s, refl)

match_true : (b : Bool) (P Q : Type 0) → b ≡ true → P → MatchBool b P Q
match_true b P Q e p = rw e p

match_false : (b : Bool) (P Q : Type 0) → b ≡ false → Q → MatchBool b P Q
match_false b P Q e q = rw e q

leads_on : (max_depth : ℕ) (front parts : List Part) (s : State) → Shows front s
    → GoesOn max_depth front parts
    → parts ≢ [] → Leads max_depth s parts
leads_on max_depth front [] s h g some = absurd (some refl)
leads_on max_depth front (p ∷ []) s h g some =
    match_true (is_result p) _ _ (g.result_last.0.1 refl) (
      sym (depth_is front s h)
          ∙ g.all_closed.0 refl,
      refl,
    )
leads_on max_depth front (p ∷ q ∷ more) s h g some =
    let meant = and_parts (is_meant p) (list_all is_meant (q ∷ more)) g.meant in
    let r : is_result p ≡ false =
    false_from_ne_true (is_result p) (λ e. let k = g.result_last.0.0 e in cc) in
    let next = step_goes max_depth front s p h r (λ e. h.tags ∙ g.tags_first.0 e) meant.0
    (λ e. true_from_ne_false s.has_move (λ f. h.unmoved f (g.variations.0 e))) g.depth.1.0
    g.closed_were_open.1.0 in
    match_false (is_result p) _ _ r (
      next.0,
      next.1,
      leads_on max_depth (front ++ p ∷ []) (q
          ∷ more) next.0 (shows_more max_depth front s next.0 p next.1 h) (record {
            tags_first = g.tags_first.1;
            result_last = g.result_last.1;
            meant = meant.1;
            closed_were_open = g.closed_were_open.1;
            depth = g.depth.1;
            all_closed = g.all_closed.1;
            variations = g.variations.1;
          }) (λ e. cc),
    )

some_parts : (parts : List Part) → IsTrue (begins_outside_gap parts) → parts ≢ []
some_parts [] b e = cc
some_parts (p ∷ parts) b e = cc

-- a game leads to its result
pub game_leads : (max_depth : ℕ) (file_start : Bool) (before : List ℕ) (parts : List Part)
    (after : List ℕ)
    → IsGame max_depth file_start before parts after → Leads max_depth start parts
game_leads max_depth file_start before parts after g =
    leads_on max_depth [] parts start shows_start (record {
      tags_first = g.tags_first;
      result_last = g.result_last;
      meant = g.meant;
      closed_were_open = g.closed_were_open;
      depth = g.depth;
      all_closed = g.all_closed;
      variations = g.variations;
    }) (some_parts parts g.begins)

-- ---- from the steps to the words

result_class : (p : Part) → is_result p ≡ true
    → (is_tag p ≡ false) × (is_meant p ≡ true) × (is_open p ≡ false)
result_class (Word text) e = (
  refl,
  or_left (is_number text || is_result_word text) (is_move_text text) (or_right (is_number text)
      (is_result_word text) e),
  refl,
)
result_class Star e = (refl, refl, refl)
result_class p e = cc

-- a state within the limit, under another name
within : (max_depth : ℕ) (s t : State) → s ≡ t → s.depth ≤ max_depth → t.depth ≤ max_depth
within max_depth s t e l = subst (λ (u : State). u.depth ≤ max_depth) e l

word_says : (max_depth : ℕ) (s t : State) (number result moves : Bool)
    → cond moves (Some (record { in_tags = false; depth = s.depth; has_move = true }))
    (cond number (Some (in_movetext s)) None) ≡ Some t
    → (((number || result) || moves) ≡ true) × (s.depth ≤ max_depth → t.depth ≤ max_depth)
word_says max_depth s t number result true e =
    let same : record { in_tags = false; depth = s.depth; has_move = true } ≡ t = cc in (
      or_right (number || result) true refl,
      within max_depth (record {
        in_tags = false;
        depth = s.depth;
        has_move =
            true;
      }) t same,
    )
word_says max_depth s t true result false e = (refl, within max_depth (in_movetext s) t cc)
word_says max_depth s t false result false e = cc

-- what a step says of its part, and that it keeps within the limit
step_says : (max_depth : ℕ) (s t : State) (p : Part) → step max_depth s p ≡ Some t
    → (is_tag p ≡ true → s.in_tags ≡ true) × (is_meant p ≡ true)
    × (is_open p ≡ true → s.has_move ≡ true) ×
    (s.depth ≤ max_depth → t.depth ≤ max_depth)
step_says max_depth s t (Tag first name second contents third) e =
    let f = cond_some s.in_tags s t e in
    (λ _. f.0, refl, λ x. cc, within max_depth s t f.1)
step_says max_depth s t (Word text) e =
    let f = word_says max_depth s t (is_number text) (is_result_word text) (is_move_text text) e in
    (λ x. cc, f.0, λ x. cc, f.1)
step_says max_depth s t Open e =
    let f = cond_some (s.has_move && nat_lt s.depth max_depth)
    (record { in_tags = false; depth = s.depth + 1; has_move = false }) t e in
    let tests = and_parts s.has_move (nat_lt s.depth max_depth) f.0 in
    let fits : s.depth + 1 ≤ max_depth = omega (arith, ltb-true s.depth max_depth tests.1) in (
      λ x. cc,
      refl,
      λ _. tests.0,
      λ l. within max_depth (record {
        in_tags = false;
        depth = s.depth + 1;
        has_move =
            false;
      }) t f.1 fits,
    )
step_says max_depth s t Close e =
    let f = cond_some (nat_lt 0 s.depth)
    (record { in_tags = false; depth = s.depth - 1; has_move = true }) t e in (
      λ x. cc,
      refl,
      λ x. cc,
      λ l. within max_depth (record { in_tags = false; depth = s.depth - 1; has_move = true }) t
          f.1 (omega (arith, l)),
    )
step_says max_depth s t Star e = cc
step_says max_depth s t Dot e = (λ x. cc, refl, λ x. cc, within max_depth (in_movetext s) t cc)
step_says max_depth s t (Glyph digits) e =
    (λ x. cc, refl, λ x. cc, within max_depth (in_movetext s) t cc)
step_says max_depth s t (Marks marks) e =
    (λ x. cc, refl, λ x. cc, within max_depth (in_movetext s) t cc)
step_says max_depth s t _ e = (λ x. cc, refl, λ x. cc, within max_depth s t cc)

goes_on : (max_depth : ℕ) (front parts : List Part) (s : State) → Shows front s
    → s.depth ≤ max_depth
    → Leads max_depth s parts → GoesOn max_depth front parts
goes_on max_depth front [] s h d l = absurd l
goes_on max_depth front (p ∷ []) s h d l = elim (cases_Bool (is_result p)) [
  | inl r ↦
      let class = result_class p r in
      let closed = (MatchBool-at_true _ _ r l).0 in
      record {
        tags_first = (λ e. absurd (false≢true (sym class.0 ∙ e)), tt);
        result_last = ((λ _. refl, λ _. r), tt);
        meant = and_from (is_meant p) true class.1 refl;
        closed_were_open = (omega (arith, h.balance), tt);
        depth = (rw (depth_is front s h) d, tt);
        all_closed = (λ _. depth_is front s h ∙ closed, tt);
        variations = (λ e. absurd (false≢true (sym class.2 ∙ e)), tt);
      }
  | inr r ↦ absurd (MatchBool-at_false _ _ r l).2
]
goes_on max_depth front (p ∷ q ∷ more) s h d l = elim (cases_Bool (is_result p)) [
  | inl r ↦ let none = (MatchBool-at_true _ _ r l).1 in cc
  | inr r ↦
      let next = MatchBool-at_false _ _ r l in
      let says = step_says max_depth s next.0 p next.1 in
      let rest =
      goes_on max_depth (front ++ p ∷ []) (q
      ∷ more) next.0 (shows_more max_depth front s next.0 p next.1 h)
      (says.3 d) next.2 in
      record {
        tags_first = (λ e. sym h.tags ∙ says.0 e, rest.tags_first);
        result_last = ((λ e. absurd (false≢true (sym r ∙ e)), λ e. cc), rest.result_last);
        meant = and_from (is_meant p) (list_all is_meant (q ∷ more)) says.1 rest.meant;
        closed_were_open = (omega (arith, h.balance), rest.closed_were_open);
        depth = (rw (depth_is front s h) d, rest.depth);
        all_closed = (λ e. cc, rest.all_closed);
        variations = (λ e. h.moved (says.2 e), rest.variations);
      }
]

-- parts that may stand, begin outside a gap and lead to a result are a game
pub game_from : (max_depth : ℕ) (file_start : Bool) (before : List ℕ) (parts : List Part)
    (after : List ℕ)
    → AllStand file_start before parts after → IsTrue (begins_outside_gap parts)
    → Leads max_depth start parts
    → IsGame max_depth file_start before parts after
game_from max_depth file_start before parts after stand begins leads =
    let g = goes_on max_depth [] parts start shows_start (omega arith) leads in record {
      stand = stand;
      begins = begins;
      tags_first = g.tags_first;
      result_last = g.result_last;
      meant = g.meant;
      closed_were_open = g.closed_were_open;
      depth = g.depth;
      all_closed = g.all_closed;
      variations = g.variations;
    }
