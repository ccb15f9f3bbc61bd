-- Texts that agree with some game so far: what can be said of them where a reader has come some
-- way.
use Rattle.std.proofs.Common.{Some}
use Rattle.pgn_text.proofs.Common.{◌≡◌, ◌≢◌, ℕ, zero, suc, ◌-◌, Bool, true, false, List, [], ◌∷◌}
use Rattle.pgn_text.proofs.Common.{◌++◌, IsTrue, refl, sym, ap, subst, ◌∙◌, inl, inr, arith}
use Rattle.pgn_text.proofs.Common.{append_assoc, append-nil, list_all, lt-ltb, MatchBool-at_true}
use Rattle.pgn_text.proofs.Common.{MatchBool-at_false, and_from, cases_Bool, not_from_false}
use Rattle.pgn_text.proofs.Common.{list_all-append, is_byte, is_digit, is_word_byte, is_mark}
use Rattle.pgn_text.proofs.Common.{is_not_line_feed, stops, Part, White, Line, EscapeLine, Word}
use Rattle.pgn_text.proofs.Common.{Star, Glyph, Marks, Close, Standing, standing_of, Stands}
use Rattle.pgn_text.proofs.Common.{AllStand, spelled, spelled_part, is_result, State, step, Leads}
use Rattle.pgn_text.proofs.Common.{IsLongestViablePrefix, Walks, Follows, IsPartFront, NoneFollows}
use Rattle.pgn_text.proofs.laws.Halfway.{Reads, reads_more, reads_end, reads_first}
use Rattle.pgn_text.proofs.ByteFronts.{InBytes, part_bytes}
use Rattle.pgn_text.proofs.laws.Lines.{cut_append}

-- ---- laws

-- a text stops at one place
pub one_stop : (max_depth : ℕ) (f : Bool) (before text : List ℕ) (a b : ℕ)
    → IsLongestViablePrefix max_depth f before text a
    → IsLongestViablePrefix max_depth f before text b → a ≡ b
one_stop max_depth f before text a b h k =
    omega (arith, h.furthest b k.within k.agrees, k.furthest a h.within h.agrees)

-- ---- other bytes after a part

-- what ends at one text ends at the other too
abbrev pub Instead : List ℕ → List ℕ → Type 0
Instead a b = (test : ℕ → Bool) → test 10 ≡ false → IsTrue (stops test a) → IsTrue (stops test b)

pub instead_nothing : (a : List ℕ) → Instead a []
instead_nothing a test white ends = refl

instead_line_feed : (a b : List ℕ) → Instead a (10 ∷ b)
instead_line_feed a b test white ends = not_from_false (test 10) white

pub instead_same : (c : ℕ) (a b : List ℕ) → Instead (c ∷ a) (c ∷ b)
instead_same c a b test white ends = ends

instead_front : (x a b : List ℕ) → Instead a b → Instead (x ++ a) (x ++ b)
instead_front [] a b i = i
instead_front (c ∷ x) a b i = instead_same c (x ++ a) (x ++ b)

stands_instead : (place : Standing) (p : Part) (a b : List ℕ) → Instead a b → Stands place p a
    → Stands place p b
stands_instead place (Line text) a b i (inside, ends) = (inside, i is_not_line_feed refl ends)
stands_instead place (EscapeLine text) a b i (column_one, inside, ends) =
    (column_one, inside, i is_not_line_feed refl ends)
stands_instead place (Word text) a b i (some, words, ends) = (some, words, i is_word_byte refl ends)
stands_instead place (Glyph digits) a b i (some, all, few, small, ends) =
    (some, all, few, small, i is_digit refl ends)
stands_instead place (Marks marks) a b i (some, all, ends) = (some, all, i is_mark refl ends)
stands_instead place _ a b i h = h

pub all_instead : (f : Bool) (before : List ℕ) (done : List Part) (a b : List ℕ) → Instead a b
    → AllStand f before done a → AllStand f before done b
all_instead f before [] a b i h = tt
all_instead f before (p ∷ back) a b i h = (
  stands_instead (standing_of f before) p (spelled back ++ a) (spelled back
      ++ b) (instead_front (spelled back) a b i) h.0,
  all_instead f (before ++ spelled_part p) back a b i h.1,
)

-- ---- parts that lead on

pub walks_more : (max_depth : ℕ) (s t u : State) (done : List Part) (p : Part)
    → Walks max_depth s done t
    → is_result p ≡ false → step max_depth t p ≡ Some u → Walks max_depth s (done ++ p ∷ []) u
walks_more max_depth s t u [] p w r e = (r, (u, ap (λ v. step max_depth v p) w ∙ e, refl))
walks_more max_depth s t u (q ∷ done) p w r e =
    (w.0, (w.1.0, w.1.1, walks_more max_depth w.1.0 t u done p w.1.2 r e))

-- ---- each state has an end

-- the ends of so many variations, and an asterisk
closes : ℕ → List Part
closes zero = Star ∷ []
closes (suc d) = Close ∷ closes d

closes_stand : (f : Bool) (before : List ℕ) (d : ℕ) → AllStand f before (closes d) []
unfolding closes
closes_stand f before zero = (tt, tt)
closes_stand f before (suc d) = (tt, closes_stand f (before ++ 41 ∷ []) d)

closes_bytes : (d : ℕ) → IsTrue (list_all is_byte (spelled (closes d)))
unfolding closes
closes_bytes zero = refl
closes_bytes (suc d) = closes_bytes d

closes_lead : (max_depth : ℕ) (s : State) (d : ℕ) → s.depth ≡ d → Leads max_depth s (closes d)
unfolding closes
closes_lead max_depth s zero e = (e, refl)
closes_lead max_depth s (suc d) e = (
  record { in_tags = false; depth = s.depth - 1; has_move = true },
  rw (lt-ltb 0 s.depth (omega (arith, e))) refl,
  closes_lead max_depth (record { in_tags = false; depth = s.depth - 1; has_move = true }) d
      (omega (arith, e)),
)

module _ (max_depth : ℕ) (f : Bool) where
  -- from each state a line feed, the ends of the open variations and an asterisk lead to the end of
  -- a game
  pub closing : (before : List ℕ) (s : State) → (text : List ℕ) × (parts : List Part)
      × Reads max_depth f before (10 ∷ text) s parts [] × IsTrue (list_all is_byte text)
  closing before s = (
    spelled (closes s.depth),
    White 10 ∷ closes s.depth,
    record {
      parted = sym (append-nil (10 ∷ spelled (closes s.depth)));
      stand = (refl, closes_stand f (before ++ 10 ∷ []) s.depth);
      leads = (s, refl, closes_lead max_depth s s.depth refl);
    },
    closes_bytes s.depth,
  )

  -- ---- fronts of readings

  -- with some more bytes after them these are read from the state on
  pub record Front (before : List ℕ) (s : State) (front : List ℕ) : Type 0 where
    pub more : List ℕ
    pub parts : List Part
    pub reads : Reads max_depth f before (front ++ more) s parts []

  -- with some more bytes, which are bytes and no other numbers
  abbrev pub ByteFront : List ℕ → State → List ℕ → Type 0
  ByteFront before s front = (k : Front before s front) × IsTrue (list_all is_byte k.more)

  pub walk_reads : (before : List ℕ) (s t : State) (done : List Part) (rest : List ℕ)
      (parts : List Part) (after : List ℕ)
      → Walks max_depth s done t → AllStand f before done rest
      → Reads max_depth f (before ++ spelled done) rest t parts after
      → Reads max_depth f before (spelled done ++ rest) s (done ++ parts) after
  walk_reads before s t [] rest parts after w h r = rw (w, ← (append-nil before)) r
  walk_reads before s t (p ∷ back) rest parts after w h r =
      reads_more max_depth f before (spelled (p ∷ back) ++ rest) s w.1.0 p (spelled back
      ++ rest) (back ++ parts) after
      (append_assoc (spelled_part p) (spelled back) rest) h.0 w.0 w.1.1
      (walk_reads (before ++ spelled_part p) w.1.0 t back rest parts after w.1.2 h.1
      (rw (← (append_assoc before (spelled_part p) (spelled back))) at r))

  read_walks : (before : List ℕ) (s t : State) (done : List Part) (rest : List ℕ)
      (parts : List Part) (after : List ℕ)
      → Walks max_depth s done t → AllStand f before done rest
      → Reads max_depth f before (spelled done ++ rest) s parts after
      → (more : List Part) × Reads max_depth f (before ++ spelled done) rest t more after
  read_walks before s t [] rest parts after w h r = (parts, rw (← w, append-nil before) r)
  read_walks before s t (p ∷ back) rest parts after w h r =
      let first =
      reads_first max_depth f before (spelled (p ∷ back) ++ rest) s p (spelled back
      ++ rest) parts after
      (append_assoc (spelled_part p) (spelled back) rest) h.0 r in
      let next = first.goes_on w.0 in
      let same : next.0 ≡ w.1.0 = let e = w.1.1 in let g = next.1 in cc in
      let deep = read_walks (before ++ spelled_part p) w.1.0 t back rest first.more after w.1.2 h.1
      (rw same at next.2) in
      (deep.0, rw (append_assoc before (spelled_part p) (spelled back)) at deep.1)

  -- after parts that were read: nothing more is still a front
  pub front_here : (before : List ℕ) (s t : State) (done : List Part) (rest : List ℕ)
      → Walks max_depth s done t → AllStand f before done rest → ByteFront before s (spelled done)
  front_here before s t done rest w h =
      let end = closing (before ++ spelled done) t in (
        record {
          more = 10 ∷ end.0;
          parts = done ++ end.1;
          reads = walk_reads before s t done (10 ∷ end.0) end.1 [] w
              (all_instead f before done rest (10 ∷ end.0) (instead_line_feed rest end.0) h) end.2;
        },
        end.3,
      )

  -- and some bytes are one exactly if they are one from the state there
  pub front_back : (before : List ℕ) (s t : State) (done : List Part) (c : ℕ) (x rest : List ℕ)
      → Walks max_depth s done t → AllStand f before done (c ∷ rest)
      → ByteFront (before ++ spelled done) t (c ∷ x) → ByteFront before s (spelled done ++ c ∷ x)
  front_back before s t done c x rest w h (k, bytes) = (
    record {
      more = k.more;
      parts = done ++ k.parts;
      reads = rw (append_assoc (spelled done) (c ∷ x) k.more) (walk_reads before s t done ((c ∷ x)
          ++ k.more) k.parts [] w (all_instead f before done (c ∷ rest) ((c ∷ x) ++ k.more)
          (instead_same c rest (x ++ k.more)) h) k.reads);
    },
    bytes,
  )

  pub front_on : (before : List ℕ) (s t : State) (done : List Part) (c : ℕ) (x rest : List ℕ)
      → Walks max_depth s done t → AllStand f before done (c ∷ rest)
      → Front before s (spelled done ++ c ∷ x) → Front (before ++ spelled done) t (c ∷ x)
  front_on before s t done c x rest w h k =
      let found = read_walks before s t done ((c ∷ x) ++ k.more) k.parts [] w
      (all_instead f before done (c ∷ rest) ((c ∷ x)
      ++ k.more) (instead_same c rest (x ++ k.more)) h)
      (rw (← (append_assoc (spelled done) (c ∷ x) k.more)) k.reads) in
      record { more = k.more; parts = found.0; reads = found.1 }

  -- ---- within a part

  follows_first : (s : State) (p : Part) (back : List Part) → Leads max_depth s (p ∷ back)
      → Follows max_depth s p
  follows_first s p back l = record {
    ends = λ r. (MatchBool-at_true _ _ r l).0;
    goes_on = λ r. let n = MatchBool-at_false _ _ r l in (n.0, n.1);
  }

  -- the front of a part that may follow is the front of a reading
  pub part_front_goes : (before : List ℕ) (s : State) (x : List ℕ)
      → IsPartFront max_depth (standing_of f before) s x → ByteFront before s x
  part_front_goes before s x any = goes (part_bytes max_depth (standing_of f before) s x any)
    where
      goes : InBytes max_depth (standing_of f before) s x → ByteFront before s x
      goes (k, bytes) = elim (cases_Bool (is_result k.part)) [
        | inl r ↦ (
          record {
            more = k.more;
            parts = k.part ∷ [];
            reads = reads_end max_depth f before (x ++ k.more) s k.part [] (sym k.spelt
                ∙ sym (append-nil (spelled_part k.part)))
                k.stands r (k.follows.ends r);
          },
          bytes,
        )
        | inr r ↦
            let next = k.follows.goes_on r in
            let end = closing (before ++ spelled_part k.part) next.0 in (
              record {
                more = k.more ++ 10 ∷ end.0;
                parts = k.part ∷ end.1;
                reads = reads_more max_depth f before (x
                    ++ (k.more ++ 10 ∷ end.0)) s next.0 k.part (10 ∷ end.0) end.1 []
                    (sym (append_assoc x k.more (10 ∷ end.0))
                    ∙ ap (λ l. l ++ 10 ∷ end.0) (sym k.spelt))
                    (stands_instead (standing_of f before) k.part [] (10
                    ∷ end.0) (instead_line_feed [] end.0) k.stands)
                    r next.1 end.2;
              },
              list_all-append is_byte k.more (10 ∷ end.0)
                  ∙ and_from (list_all is_byte k.more) (list_all is_byte end.0) bytes end.3,
            )
      ]

  -- where no part may follow, the front of a reading is the front of a part
  pub front_in_part : (before : List ℕ) (s : State) (x after : List ℕ) → x ≢ []
      → NoneFollows max_depth (standing_of f before) s (x ++ after) → Front before s x
      → IsPartFront max_depth (standing_of f before) s x
  front_in_part before s x after some none k = first k.parts k.reads
    where
      first : (parts : List Part) → Reads max_depth f before (x ++ k.more) s parts []
          → IsPartFront max_depth (standing_of f before) s x
      first [] r = absurd r.leads
      first (p ∷ back) r =
          elim (cut_append x k.more (spelled_part p) (spelled back ++ [])
          (r.parted ∙ append_assoc (spelled_part p) (spelled back) [])) [
            | inl t ↦ past p back r t.0 t.1 t.2
            | inr t ↦ record {
              part = p;
              more = t.0;
              spelt = t.1;
              stands = stands_instead (standing_of f before) p (spelled back
                  ++ []) [] (instead_nothing _) r.stand.0;
              follows = follows_first s p back r.leads;
            }
          ]
        where
          past : (p : Part) (back : List Part)
              → Reads max_depth f before (x ++ k.more) s (p ∷ back) [] → (m : List ℕ)
              → x ≡ spelled_part p ++ m → spelled back ++ [] ≡ m ++ k.more
              → IsPartFront max_depth (standing_of f before) s x
          past p back r [] e g = record {
            part = p;
            more = [];
            spelt = sym (append-nil (spelled_part p)) ∙ sym e ∙ sym (append-nil x);
            stands = stands_instead (standing_of f before) p (spelled back
                ++ []) [] (instead_nothing _) r.stand.0;
            follows = follows_first s p back r.leads;
          }
          past p back r (c ∷ m) e g =
              absurd (none p ((c ∷ m) ++ after)
              (ap (λ l. l ++ after) e ∙ append_assoc (spelled_part p) (c ∷ m) after)
              (stands_instead (standing_of f before) p ((c ∷ m) ++ k.more) ((c ∷ m)
              ++ after) (instead_same c (m ++ k.more) (m ++ after))
              (subst (λ l. Stands (standing_of f before) p l) g r.stand.0))
              (follows_first s p back r.leads))
