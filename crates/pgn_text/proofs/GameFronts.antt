-- Where a text stops, read off from the parts that were read of it.
use Rattle.pgn_text.proofs.Common.{◌≡◌, ◌≢◌, ℕ, zero, suc, ◌+◌, ◌-◌, ◌≤◌, Bool, true, List, [], ◌∷◌}
use Rattle.pgn_text.proofs.Common.{◌++◌, IsTrue, take, drop, length, refl, sym, ap, subst, ◌∙◌, inl}
use Rattle.pgn_text.proofs.Common.{inr, arith, append_assoc, append-nil, length-append, list_all}
use Rattle.pgn_text.proofs.Common.{take-append-add, take-append-drop, and_from, cases_Bool}
use Rattle.pgn_text.proofs.Common.{cases_lt, not_from_false, Part, ByteOrderMark, White, Brace}
use Rattle.pgn_text.proofs.Common.{Line, EscapeLine, standing_of, AllStand, spelled, is_gap_part}
use Rattle.pgn_text.proofs.Common.{begins_outside_gap, State, start, Leads, IsGameFront}
use Rattle.pgn_text.proofs.Common.{IsLongestViablePrefix, Walks, IsPartFront, NoneFollows}
use Rattle.pgn_text.proofs.laws.GameLeads.{game_leads, game_from}
use Rattle.pgn_text.proofs.laws.Halfway.{Reads, stands_join, stands_cut, spelled-append}
use Rattle.pgn_text.proofs.laws.Halfway.{one_reading}
use Rattle.pgn_text.proofs.Stopping.{instead_nothing, instead_same, all_instead, Front, ByteFront}
use Rattle.pgn_text.proofs.Stopping.{front_here, front_back, front_on, front_in_part}
use Rattle.pgn_text.proofs.Stopping.{part_front_goes}

-- ---- a gap and a game, read from the start

leads_gap : (max_depth : ℕ) (s : State) (gap parts : List Part) → IsTrue (list_all is_gap_part gap)
    → Leads max_depth s parts → Leads max_depth s (gap ++ parts)
leads_gap max_depth s [] parts all l = l
leads_gap max_depth s (ByteOrderMark ∷ gap) parts all l =
    (s, refl, leads_gap max_depth s gap parts all l)
leads_gap max_depth s (White b ∷ gap) parts all l = (s, refl, leads_gap max_depth s gap parts all l)
leads_gap max_depth s (Brace text ∷ gap) parts all l =
    (s, refl, leads_gap max_depth s gap parts all l)
leads_gap max_depth s (Line text ∷ gap) parts all l =
    (s, refl, leads_gap max_depth s gap parts all l)
leads_gap max_depth s (EscapeLine text ∷ gap) parts all l =
    (s, refl, leads_gap max_depth s gap parts all l)
leads_gap max_depth s (p ∷ gap) parts all l = cc

gap_stays : (max_depth : ℕ) (s : State) (p : Part) (back : List Part) → is_gap_part p ≡ true
    → Leads max_depth s (p ∷ back) → Leads max_depth s back
gap_stays max_depth s ByteOrderMark back g (t, e, l) = let same : s ≡ t = cc in rw same l
gap_stays max_depth s (White b) back g (t, e, l) = let same : s ≡ t = cc in rw same l
gap_stays max_depth s (Brace text) back g (t, e, l) = let same : s ≡ t = cc in rw same l
gap_stays max_depth s (Line text) back g (t, e, l) = let same : s ≡ t = cc in rw same l
gap_stays max_depth s (EscapeLine text) back g (t, e, l) = let same : s ≡ t = cc in rw same l
gap_stays max_depth s p back g l = cc

-- parts that lead to a result, parted into a gap and what begins outside
record GapFirst (max_depth : ℕ) (s : State) (parts : List Part) : Type 0 where
  gap : List Part
  rest : List Part
  is : parts ≡ gap ++ rest
  only : IsTrue (list_all is_gap_part gap)
  outside : IsTrue (begins_outside_gap rest)
  leads : Leads max_depth s rest

gap_first : (max_depth : ℕ) (s : State) (parts : List Part) → Leads max_depth s parts
    → GapFirst max_depth s parts
gap_first max_depth s [] l = absurd l
gap_first max_depth s (p ∷ back) l = elim (cases_Bool (is_gap_part p)) [
  | inl g ↦
      let more = gap_first max_depth s back (gap_stays max_depth s p back g l) in record {
        gap = p ∷ more.gap;
        rest = more.rest;
        is = ap (λ q. p ∷ q) more.is;
        only = and_from (is_gap_part p) (list_all is_gap_part more.gap) g more.only;
        outside = more.outside;
        leads = more.leads;
      }
  | inr g ↦ record {
    gap = [];
    rest = p ∷ back;
    is = refl;
    only = refl;
    outside = not_from_false (is_gap_part p) g;
    leads = l;
  }
]

module _ (max_depth : ℕ) (f : Bool) where
  pub front_from : (before x : List ℕ) → IsGameFront max_depth f before x
      → Front max_depth f before start x
  front_from before x g = record {
    more = g.more;
    parts = g.gap ++ g.parts;
    reads = record {
      parted = g.parted ∙ sym (spelled-append g.gap g.parts)
          ∙ sym (append-nil (spelled (g.gap ++ g.parts)));
      stand = stands_join f before g.gap g.parts []
          (rw (append-nil (spelled g.parts)) g.is_gap.stand) g.is_game.stand;
      leads = leads_gap max_depth start g.gap g.parts g.is_gap.only
          (game_leads max_depth f (before ++ spelled g.gap) g.parts [] g.is_game);
    };
  }

  front_to : (before x : List ℕ) → ByteFront max_depth f before start x
      → IsGameFront max_depth f before x
  front_to before x (k, bytes) =
      let r = k.reads in
      let first = gap_first max_depth start k.parts r.leads in
      let stand =
      stands_cut f before first.gap first.rest []
      (subst (λ q. AllStand f before q []) first.is r.stand) in
      record {
        more = k.more;
        bytes = bytes;
        gap = first.gap;
        parts = first.rest;
        parted = r.parted ∙ append-nil (spelled k.parts) ∙ ap spelled first.is
            ∙ spelled-append first.gap first.rest;
        is_gap = record {
          stand = rw (← (append-nil (spelled first.rest))) stand.0;
          only = first.only;
        };
        is_game =
            game_from max_depth f (before
            ++ spelled first.gap) first.rest [] stand.1 first.outside first.leads;
      }

  -- ---- the place

  -- the text stops at the place, also among fronts that go on with numbers that are no bytes
  pub record Halts (before text : List ℕ) (place : ℕ) : Type 0 where
    pub within : place ≤ length text
    pub agrees : IsGameFront max_depth f before (take place text)
    pub furthest : (other : ℕ) → other ≤ length text
        → Front max_depth f before start (take other text) → other ≤ place

  -- so it stops there
  pub stops : (before text : List ℕ) (place : ℕ) → Halts before text place
      → IsLongestViablePrefix max_depth f before text place
  stops before text place h = record {
    within = h.within;
    agrees = h.agrees;
    furthest = λ other low g. h.furthest other low (front_from before (take other text) g);
  }

  -- after parts that were read, where no part may follow: as many bytes more as a part that may
  -- follow can begin with
  pub halts_in_part : (before : List ℕ) (t : State) (done : List Part) (text : List ℕ) (n : ℕ)
      → Walks max_depth start done t → AllStand f before done text
      → NoneFollows max_depth (standing_of f (before ++ spelled done)) t text → n ≤ length text
      → (n ≢ 0 → IsPartFront max_depth (standing_of f (before ++ spelled done)) t (take n text))
      → ((k : ℕ) → k ≢ 0 → k ≤ length text
      → IsPartFront max_depth (standing_of f (before ++ spelled done)) t (take k text) → k ≤ n)
      → Halts before (spelled done ++ text) (length (spelled done) + n)
  halts_in_part before t done text n w h none within goes most = record {
    within = omega (arith, length-append (spelled done) text);
    agrees =
        front_to before _
        (subst (ByteFront max_depth f before start) (sym (take-append-add (spelled done) text n))
        (agrees text n h within goes));
    furthest = furthest;
  }
    where
      agrees : (text : List ℕ) (n : ℕ) → AllStand f before done text → n ≤ length text
          → (n ≢ 0 → IsPartFront max_depth (standing_of f (before ++ spelled done)) t (take n text))
          → ByteFront max_depth f before start (spelled done ++ take n text)
      agrees text zero h within goes =
          subst (ByteFront max_depth f before start) (sym (append-nil (spelled done)))
          (front_here max_depth f before start t done text w h)
      agrees [] (suc n) h within goes = absurd (omega (arith, within))
      agrees (c ∷ rest) (suc n) h within goes =
          front_back max_depth f before start t done c (take n rest) rest w h
          (part_front_goes max_depth f (before ++ spelled done) t (c
          ∷ take n rest) (goes (λ e. cc)))

      beyond : (text : List ℕ) (j : ℕ) → AllStand f before done text
          → NoneFollows max_depth (standing_of f (before ++ spelled done)) t text
          → suc j ≤ length text
          → Front max_depth f before start (spelled done ++ take (suc j) text)
          → IsPartFront max_depth (standing_of f (before ++ spelled done)) t (take (suc j) text)
      beyond [] j h none within k = absurd (omega (arith, within))
      beyond (c ∷ rest) j h none within k =
          front_in_part max_depth f (before ++ spelled done) t (c ∷ take j rest) (drop j rest) (λ e.
          cc)
          (subst (NoneFollows max_depth (standing_of f (before ++ spelled done)) t)
          (ap (λ l. c ∷ l) (sym (take-append-drop j rest))) none)
          (front_on max_depth f before start t done c (take j rest) rest w h k)

      furthest : (other : ℕ) → other ≤ length (spelled done ++ text)
          → Front max_depth f before start (take other (spelled done ++ text))
          → other ≤ length (spelled done) + n
      furthest other low k = elim (cases_lt (length (spelled done)) other) [
        | inl past ↦
            let j = other - suc (length (spelled done)) in
            let is : other ≡ length (spelled done) + suc j = omega (arith, past) in
            let size : suc j ≤ length text =
            omega (arith, low, is, length-append (spelled done) text) in
            let front : Front max_depth f before start (spelled done ++ take (suc j) text) =
            subst (Front max_depth f before start)
            (ap (λ i. take i (spelled done ++ text)) is
            ∙ take-append-add (spelled done) text (suc j)) k in
            omega (arith, is, most (suc j) (λ e. cc) size (beyond text j h none size front))
        | inr short ↦ omega (arith, short)
      ]

  -- a text that begins with a game, or a gap and a game, stops after it
  pub halts_at_game : (before text : List ℕ) (parts : List Part) (after : List ℕ)
      → Reads max_depth f before text start parts after → Halts before text (length (spelled parts))
  halts_at_game before text parts after r = record {
    within = omega (arith, ap length r.parted, length-append (spelled parts) after);
    agrees = front_to before _ (
      record {
        more = [];
        parts = parts;
        reads = record {
          parted = ap (λ l. l ++ []) (ap (take (length (spelled parts))) r.parted ∙ front);
          stand = all_instead f before parts after [] (instead_nothing after) r.stand;
          leads = r.leads;
        };
      },
      refl,
    );
    furthest = λ other low k. elim (cases_lt (length (spelled parts)) other) [
      | inl past ↦ absurd (beyond after r (other - suc (length (spelled parts)))
          (omega (arith, past, low, ap length r.parted, length-append (spelled parts) after))
          (subst (Front max_depth f before start)
          (ap (λ i. take i text) (let is : other ≡ length (spelled parts)
          + suc (other - suc (length (spelled parts))) = omega (arith, past) in is)
          ∙ ap (take (length (spelled parts) + suc (other - suc (length (spelled parts))))) r.parted
          ∙ take-append-add (spelled parts) after (suc (other - suc (length (spelled parts))))) k))
      | inr short ↦ short
    ];
  }
    where
      front : take (length (spelled parts)) (spelled parts ++ after) ≡ spelled parts
      front = ap (λ k. take k (spelled parts ++ after)) (let e : length (spelled parts)
          ≡ length (spelled parts) + 0 = omega arith in e)
          ∙ take-append-add (spelled parts) after 0 ∙ append-nil (spelled parts)

      beyond : (after : List ℕ) → Reads max_depth f before text start parts after → (j : ℕ)
          → suc j ≤ length after
          → Front max_depth f before start (spelled parts ++ take (suc j) after) → ⊥
      beyond [] r j low k = absurd (omega (arith, low))
      beyond (c ∷ rest) r j low k =
          let other : Reads max_depth f before ((spelled parts ++ c ∷ take j rest)
          ++ k.more) start parts ((c ∷ take j rest) ++ k.more) =
          record {
            parted = append_assoc (spelled parts) (c ∷ take j rest) k.more;
            stand = all_instead f before parts (c ∷ rest) ((c ∷ take j rest)
                ++ k.more) (instead_same c rest (take j rest ++ k.more)) r.stand;
            leads = r.leads;
          } in
          let same =
          one_reading max_depth f before ((spelled parts ++ c ∷ take j rest)
          ++ k.more) start parts k.parts ((c ∷ take j rest) ++ k.more) [] other k.reads in
          let e = same.1 in cc

  -- the same, said of the definition
  pub stops_in_part : (before : List ℕ) (t : State) (done : List Part) (text : List ℕ) (n : ℕ)
      → Walks max_depth start done t → AllStand f before done text
      → NoneFollows max_depth (standing_of f (before ++ spelled done)) t text → n ≤ length text
      → (n ≢ 0 → IsPartFront max_depth (standing_of f (before ++ spelled done)) t (take n text))
      → ((k : ℕ) → k ≢ 0 → k ≤ length text
      → IsPartFront max_depth (standing_of f (before ++ spelled done)) t (take k text) → k ≤ n)
      → IsLongestViablePrefix max_depth f before (spelled done ++ text) (length (spelled done) + n)
  stops_in_part before t done text n w h none within goes most =
      stops before (spelled done ++ text) (length (spelled done)
      + n) (halts_in_part before t done text n w h none within goes most)

  pub stops_at_game : (before text : List ℕ) (parts : List Part) (after : List ℕ)
      → Reads max_depth f before text start parts after
      → IsLongestViablePrefix max_depth f before text (length (spelled parts))
  stops_at_game before text parts after r =
      stops before text (length (spelled parts)) (halts_at_game before text parts after r)
