-- A reading of a text part by part, from a state: what is read so far, and that there is no other
-- reading.
use Rattle.std.proofs.Common.{Some}
use Rattle.pgn_text.proofs.Common.{◌≡◌, ◌≢◌, ℕ, Bool, true, false, List, [], ◌∷◌, ◌++◌, None}
use Rattle.pgn_text.proofs.Common.{IsTrue, refl, sym, ap, ◌∙◌, inl, inr}
use Rattle.pgn_text.proofs.Common.{append_assoc, append-nil, flat_map-append, MatchBool-at_true}
use Rattle.pgn_text.proofs.Common.{MatchBool-at_false, cases_Bool, Part, standing_of, Stands}
use Rattle.pgn_text.proofs.Common.{AllStand, spelled, spelled_part, is_result, begins_outside_gap}
use Rattle.pgn_text.proofs.Common.{IsGame, State, start, step, Leads}
use Rattle.pgn_text.proofs.laws.GameLeads.{game_leads, game_from}
use Rattle.pgn_text.proofs.laws.PartLemmas.{one_part}

-- ---- parts in a row

pub spelled-append : (xs ys : List Part) → spelled (xs ++ ys) ≡ spelled xs ++ spelled ys
spelled-append xs ys = flat_map-append spelled_part xs ys

-- the bytes before, after one part more
pub before_more : (before : List ℕ) (xs : List Part) (p : Part)
    → before ++ spelled (xs ++ p ∷ []) ≡ (before ++ spelled xs) ++ spelled_part p
before_more before xs p = rw (spelled-append, append-nil, append_assoc) refl

pub stands_join : (file_start : Bool) (before : List ℕ) (xs ys : List Part) (after : List ℕ)
    → AllStand file_start before xs (spelled ys ++ after)
    → AllStand file_start (before ++ spelled xs) ys after
    → AllStand file_start before (xs ++ ys) after
stands_join file_start before [] ys after h k = rw append-nil at k
stands_join file_start before (x ∷ xs) ys after h k = (
  rw (spelled-append xs ys, append_assoc) h.0,
  stands_join file_start (before ++ spelled_part x) xs ys after h.1
      (rw (← (append_assoc before (spelled_part x) (spelled xs))) at k),
)

pub stands_cut : (file_start : Bool) (before : List ℕ) (xs ys : List Part) (after : List ℕ)
    → AllStand file_start before (xs ++ ys) after
    → AllStand file_start before xs (spelled ys ++ after)
    × AllStand file_start (before ++ spelled xs) ys after
stands_cut file_start before [] ys after h = (tt, rw append-nil h)
stands_cut file_start before (x ∷ xs) ys after h =
    let back = stands_cut file_start (before ++ spelled_part x) xs ys after h.1 in (
      (rw (spelled-append xs ys, append_assoc (spelled xs) (spelled ys) after) at h.0, back.0),
      rw (append_assoc before (spelled_part x) (spelled xs)) at back.1,
    )

-- ---- readings

leads_more : (max_depth : ℕ) (s t : State) (p : Part) (parts : List Part) → is_result p ≡ false
    → step max_depth s p ≡ Some t → Leads max_depth t parts → Leads max_depth s (p ∷ parts)
leads_more max_depth s t p parts r steps l = rw r (t, steps, l)

leads_end : (max_depth : ℕ) (s : State) (p : Part) → is_result p ≡ true → s.depth ≡ 0
    → Leads max_depth s (p ∷ [])
leads_end max_depth s p r zero = rw r (zero, refl)

module _ (max_depth : ℕ) (file_start : Bool) where
  -- the text begins with these parts, each stands, and they lead from the state to a result
  pub record Reads (before text : List ℕ) (s : State) (parts : List Part) (after : List ℕ) : Type 0
    where
      pub parted : text ≡ spelled parts ++ after
      pub stand : AllStand file_start before parts after
      pub leads : Leads max_depth s parts

  pub reads_more : (before text : List ℕ) (s t : State) (p : Part) (rest : List ℕ)
      (parts : List Part) (after : List ℕ)
      → text ≡ spelled_part p ++ rest → Stands (standing_of file_start before) p rest
      → is_result p ≡ false
      → step max_depth s p ≡ Some t → Reads (before ++ spelled_part p) rest t parts after
      → Reads before text s (p ∷ parts) after
  reads_more before text s t p rest parts after parted stands r steps h = record {
    parted = parted ∙ ap (λ l. spelled_part p ++ l) h.parted
        ∙ sym (append_assoc (spelled_part p) (spelled parts) after);
    stand = (rw h.parted at stands, h.stand);
    leads = leads_more max_depth s t p parts r steps h.leads;
  }

  -- a result outside all variations is a reading by itself
  pub reads_end : (before text : List ℕ) (s : State) (p : Part) (rest : List ℕ)
      → text ≡ spelled_part p ++ rest → Stands (standing_of file_start before) p rest
      → is_result p ≡ true → s.depth ≡ 0
      → Reads before text s (p ∷ []) rest
  reads_end before text s p rest parted stands r zero = record {
    parted = parted ∙ ap (λ l. l ++ rest) (sym (append-nil (spelled_part p)));
    stand = (stands, tt);
    leads = leads_end max_depth s p r zero;
  }

  -- what a reading says of its first part
  pub record BeginsWith (before : List ℕ) (s : State) (p : Part) (rest : List ℕ) (parts : List Part)
      (after : List ℕ) : Type 0 where
    pub more : List Part
    pub is : parts ≡ p ∷ more
    pub ends : is_result p ≡ true → (s.depth ≡ 0) × (more ≡ []) × (after ≡ rest)
    pub goes_on : is_result p ≡ false
        → (t : State) × (step max_depth s p ≡ Some t)
        × Reads (before ++ spelled_part p) rest t more after

  -- the part that stands at the place is a reading's first
  pub reads_first : (before text : List ℕ) (s : State) (p : Part) (rest : List ℕ)
      (parts : List Part) (after : List ℕ)
      → text ≡ spelled_part p ++ rest → Stands (standing_of file_start before) p rest
      → Reads before text s parts after → BeginsWith before s p rest parts after
  reads_first before text s p rest [] after parted stands h = absurd h.leads
  reads_first before text s p rest (q ∷ more) after parted stands h =
      let one =
      one_part (standing_of file_start before) q p (spelled more ++ after) rest h.stand.0 stands
      (sym (append_assoc (spelled_part q) (spelled more) after) ∙ sym h.parted ∙ parted) in
      let leads = rw one.0 at h.leads
      in
      record {
        more = more;
        is = ap (λ r. r ∷ more) one.0;
        ends = λ r. let l = MatchBool-at_true _ _ r leads in
            (l.0, l.1, ap (λ xs. spelled xs ++ after) (sym l.1) ∙ one.1);
        goes_on = λ r. let l = MatchBool-at_false _ _ r leads in (
          l.0,
          l.1,
          record {
            parted = sym one.1;
            stand = rw (← one.0) h.stand.1;
            leads = l.2;
          },
        );
      }

  -- a text has one reading at most
  pub one_reading : (before text : List ℕ) (s : State) (xs ys : List Part) (a b : List ℕ)
      → Reads before text s xs a → Reads before text s ys b
      → (xs ≡ ys) × (a ≡ b)
  one_reading before text s [] ys a b h k = absurd h.leads
  one_reading before text s (x ∷ xs) ys a b h k =
      let parted = h.parted ∙ append_assoc (spelled_part x) (spelled xs) a in
      let v = reads_first before text s x (spelled xs ++ a) ys b parted h.stand.0 k in
      elim (cases_Bool (is_result x)) [
        | inl r ↦
            let none = (MatchBool-at_true _ _ r h.leads).1 in
            let ends = v.ends r in (
              ap (λ l. x ∷ l) (none ∙ sym ends.1) ∙ sym v.is,
              ap (λ l. spelled l ++ a) (sym none) ∙ sym ends.2,
            )
        | inr r ↦
            let next = MatchBool-at_false _ _ r h.leads in
            let other = v.goes_on r in
            let same : other.0 ≡ next.0 = cc in
            let rest = one_reading (before ++ spelled_part x) (spelled xs ++ a) next.0 xs v.more a b
            (record { parted = refl; stand = h.stand.1; leads = next.2 }) (rw same at other.2) in
            (ap (λ l. x ∷ l) rest.0 ∙ sym v.is, rest.1)
      ]

  pub game_reads : (before text : List ℕ) (parts : List Part) (after : List ℕ)
      → text ≡ spelled parts ++ after → IsGame max_depth file_start before parts after
      → Reads before text start parts after
  game_reads before text parts after parted g =
      record {
        parted = parted;
        stand = g.stand;
        leads =
            game_leads max_depth file_start before parts after g;
      }

  pub reads_game : (before text : List ℕ) (parts : List Part) (after : List ℕ)
      → IsTrue (begins_outside_gap parts) → Reads before text start parts after
      → IsGame max_depth file_start before parts after
  reads_game before text parts after begins h =
      game_from max_depth file_start before parts after h.stand begins h.leads

  -- at one place one game begins at most
  pub one_game : (before text : List ℕ) (xs ys : List Part) (a b : List ℕ)
      → text ≡ spelled xs ++ a → text ≡ spelled ys ++ b → IsGame max_depth file_start before xs a
      → IsGame max_depth file_start before ys b → (xs ≡ ys) × (a ≡ b)
  one_game before text xs ys a b e f g h =
      one_reading before text start xs ys a b (game_reads before text xs a e g)
      (game_reads before text ys b f h)

  -- ---- halfway through a text

  -- `done` is read, and s is the state after it: what reads on from here reads from the start with
  -- `done` in front, and each reading
  -- from the start begins with `done`
  pub record Halfway (before text : List ℕ) (done : List Part) (s : State) (rest : List ℕ) : Type 0
    where
      pub sound : (parts : List Part) (after : List ℕ)
          → Reads (before ++ spelled done) rest s parts after
          → Reads before text start (done ++ parts) after
      pub complete : (parts : List Part) (after : List ℕ) → Reads before text start parts after
          → (more : List Part) × (parts ≡ done ++ more)
          × Reads (before ++ spelled done) rest s more after

  pub halfway_start : (before text : List ℕ)
      → Halfway before text [] start text
  halfway_start before text = record {
    sound = λ parts after h. rw append-nil at h;
    complete = λ parts after h. (parts, refl, rw append-nil h);
  }

  -- after one part more
  pub halfway_more : (before text : List ℕ) (done : List Part) (s t : State) (p : Part)
      (tail rest : List ℕ)
      → Halfway before text done s tail → tail ≡ spelled_part p ++ rest
      → Stands (standing_of file_start (before ++ spelled done)) p rest → is_result p ≡ false
      → step max_depth s p ≡ Some t
      → Halfway before text (done ++ p ∷ []) t rest
  halfway_more before text done s t p tail rest h parted stands r steps =
      let place = before_more before done p in record {
        sound = λ parts after k. rw (append_assoc done (p ∷ []) parts) (h.sound (p ∷ parts) after
            (reads_more (before ++ spelled done) tail s t p rest parts after parted stands r steps
            (rw place at k)));
        complete = λ parts after k.
            let all = h.complete parts after k in
            let first =
            reads_first (before ++ spelled done) tail s p rest all.0 after parted stands all.2
            in
            let next = first.goes_on r in
            let same : t ≡ next.0 = cc in (
              first.more,
              all.1 ∙ ap (λ l. done ++ l) first.is ∙ sym (append_assoc done (p ∷ []) first.more),
              rw (place, same) next.2,
            );
      }

  -- at a result outside all variations the reading ends
  pub halfway_end : (before text : List ℕ) (done : List Part) (s : State) (p : Part)
      (after rest : List ℕ)
      → Halfway before text done s after → after ≡ spelled_part p ++ rest
      → Stands (standing_of file_start (before ++ spelled done)) p rest → is_result p ≡ true
      → s.depth ≡ 0
      → Reads before text start (done ++ p ∷ []) rest
  halfway_end before text done s p after rest h parted stands r zero =
      h.sound (p ∷ []) rest (reads_end (before ++ spelled done) after s p rest parted stands r zero)

  -- at a part that may not follow there is no reading
  pub halfway_stuck : (before text : List ℕ) (done : List Part) (s : State) (p : Part)
      (tail rest : List ℕ)
      → Halfway before text done s tail → tail ≡ spelled_part p ++ rest
      → Stands (standing_of file_start (before ++ spelled done)) p rest
      → (is_result p ≡ true → s.depth ≢ 0)
      → (is_result p ≡ false → step max_depth s p ≡ None) → (parts : List Part) (after : List ℕ)
      → Reads before text start parts after → ⊥
  halfway_stuck before text done s p tail rest h parted stands deep stuck parts after k =
      let all = h.complete parts after k in
      let first = reads_first (before ++ spelled done) tail s p rest all.0 after parted stands all.2
      in
      elim (cases_Bool (is_result p)) [
        | inl r ↦ deep r (first.ends r).0
        | inr r ↦ let next = first.goes_on r in let none = stuck r in cc
      ]

  -- where no part stands there is no reading
  pub halfway_none : (before text : List ℕ) (done : List Part) (s : State) (tail : List ℕ)
      → Halfway before text done s tail
      → ((p : Part) (rest : List ℕ) → tail ≡ spelled_part p ++ rest → Stands
      (standing_of file_start (before ++ spelled done)) p rest → ⊥)
      → (parts : List Part) (after : List ℕ) → Reads before text start parts after → ⊥
  halfway_none before text done s tail h none parts after k =
      let all = h.complete parts after k in nothing all.0 all.2
    where
      nothing : (more : List Part) → Reads (before ++ spelled done) tail s more after → ⊥
      nothing [] g = g.leads
      nothing (q ∷ more) g =
          none q (spelled more ++ after) (g.parted
          ∙ append_assoc (spelled_part q) (spelled more) after) g.stand.0
