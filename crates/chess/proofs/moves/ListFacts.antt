-- What is appended to a list of moves, part by part.
use Rattle.std.specs.Prelude.{Result, OnErr}
use Rattle.std.specs.List.{All, AllPairs}
use Rattle.std.proofs.lemmas.List.Elements.{All-nil, All-head, All-tail, All-append}
use Rattle.std.proofs.lemmas.List.Elements.{All-weaker, Contains-append_left, Contains-append_right}
use Rattle.std.proofs.lemmas.List.Kept.{AllPairs-cons}
use Rattle.chess.proofs.Common.{◌≡◌, ◌≢◌, ◌⊎◌, ◌↔◌, ◌∙◌, ◌++◌, ◌∷◌, List, []}
use Rattle.chess.proofs.Common.{true, false, inl, inr, ap, refl, sym, subst, arith, suc}
use Rattle.chess.proofs.Common.{append-nil, append_assoc, cases_Bool, Option, Some, None, Move}
use Rattle.chess.proofs.Common.{Ok, Err, same_Some, Place, Places, is_in}
use Rattle.chess.proofs.Common.{IsTakenFirst, State, opposite, home_rank, king_from, IsOccupiedBy}
use Rattle.chess.proofs.Common.{IsLegal, IsPromotion, IsPromotionKind, Goes, IsKingMove, CanGo}
use Rattle.chess.proofs.Common.{Kind, King, Queen, Rook, Bishop, Knight, Pawn, Wing, KingSide}
use Rattle.chess.proofs.Common.{QueenSide}
use Rattle.chess.specs.Private.MoveListWords.{Lists, Grows, IsThatLegal, Leaves, LeavesFor}
use Rattle.chess.specs.Private.MoveListWords.{PromotesOn, CastlesFrom}
use Rattle.chess.proofs.PlaceFacts.{cases_place, true_not_false}
use Rattle.chess.proofs.LoopFacts.{not_in, still_left, was_left}

-- ---- pairs of two lists

later_head : {X : Type 0} (R : X → X → Type 0) (x : X) (xs : List X) → AllPairs R (x ∷ xs)
    → All (R x) xs
later_head R x xs pairs k d below = pairs 0 (suc k) d (omega arith) (omega arith)

later_tail : {X : Type 0} (R : X → X → Type 0) (x : X) (xs : List X) → AllPairs R (x ∷ xs)
    → AllPairs R xs
later_tail R x xs pairs i j d less below = pairs (suc i) (suc j) d (omega arith) (omega arith)

-- in two lists after one another each pair is in the first, in the second, or across
pub pairs_append : {X : Type 0} (R : X → X → Type 0) (xs ys : List X) → AllPairs R xs
    → AllPairs R ys → All (λ x. All (R x) ys) xs → AllPairs R (xs ++ ys)
pairs_append R [] ys first second across = second
pairs_append R (x ∷ xs) ys first second across =
    AllPairs-cons R x (xs ++ ys)
    (All-append (R x) xs ys (later_head R x xs first)
    (All-head (λ z. All (R z) ys) x xs across))
    (pairs_append R xs ys (later_tail R x xs first) second
    (All-tail (λ z. All (R z) ys) x xs across))

-- ---- what is appended

pub lists_none : (fact : Move → Type 0) (old new : List Move) → new ≡ old
    → ((m : Move) → fact m → ⊥) → Lists fact old new
lists_none fact old new same none = record {
  added = [];
  is = same ∙ sym (append-nil old);
  sound = All-nil fact;
  each = λ m holds. absurd (none m holds);
  once = λ i j d less below. absurd (omega arith);
}

pub lists_same : (fact other : Move → Type 0) (old new : List Move)
    → ((m : Move) → fact m ↔ other m) → Lists fact old new → Lists other old new
lists_same fact other old new same lists = record {
  added = lists.added;
  is = lists.is;
  sound = All-weaker fact other (λ m holds. (same m).0 holds) lists.added lists.sound;
  each = λ m holds. lists.each m ((same m).1 holds);
  once = lists.once;
}

pub lists_both : (first second : Move → Type 0) (old mid new : List Move)
    → ((m : Move) → first m → second m → ⊥) → Lists first old mid → Lists second mid new
    → Lists (λ m. first m ⊎ second m) old new
lists_both first second old mid new apart a b = record {
  added = a.added ++ b.added;
  is = b.is ∙ ap (λ xs. xs ++ b.added) a.is ∙ append_assoc old a.added b.added;
  sound = All-append (λ m. first m ⊎ second m) a.added b.added
      (All-weaker first (λ m. first m ⊎ second m) (λ m h. inl h) a.added a.sound)
      (All-weaker second (λ m. first m ⊎ second m) (λ m h. inr h) b.added b.sound);
  each = λ m holds. elim holds [
    | inl h ↦ Contains-append_left a.added b.added m (a.each m h)
    | inr h ↦ Contains-append_right a.added b.added m (b.each m h)
  ];
  once = pairs_append (λ m n. m ≢ n) a.added b.added a.once b.once
      (All-weaker first (λ m. All (λ n. m ≢ n) b.added)
      (λ m h. All-weaker second (λ n. m ≢ n) (λ n k e. apart m h (subst second (sym e) k))
      b.added b.sound)
      a.added a.sound);
}

pub grows_none : (old new : List Move) → new ≡ old → Grows old new
grows_none old new same = ([], same ∙ sym (append-nil old))

-- ---- loops over the squares of a set: the moves whose square is not left are appended

abbrev pub IsPast : (Move → Type 0) → (Move → Place) → Places → Move → Type 0
IsPast fact at left m = fact m × (is_in left (at m) ≡ false)

pub past_none : (fact : Move → Type 0) (at : Move → Place) (left : Places) (old : List Move)
    → ((m : Move) → fact m → is_in left (at m) ≡ true) → Lists (IsPast fact at left) old old
past_none fact at left old each =
    lists_none (IsPast fact at left) old old refl (λ m past.
    true_not_false (is_in left (at m)) (each m past.0) past.1)

rest_of_taken : (left rest : Places) (t : Place) → IsTakenFirst left rest (Some t)
    → is_in rest t ≡ false
rest_of_taken left rest t taken = elim (cases_Bool (is_in rest t)) [
  | inl here ↦ absurd ((was_left left rest t t taken here).1 refl)
  | inr gone ↦ gone
]

rest_of_past : (left rest : Places) (t s : Place) → IsTakenFirst left rest (Some t)
    → is_in left s ≡ false → is_in rest s ≡ false
rest_of_past left rest t s taken past = elim (cases_Bool (is_in rest s)) [
  | inl here ↦ absurd (true_not_false (is_in left s) (was_left left rest t s taken here).0 past)
  | inr gone ↦ gone
]

left_of_rest : (left rest : Places) (t s : Place) → IsTakenFirst left rest (Some t)
    → is_in rest s ≡ false → (is_in left s ≡ false) ⊎ (s ≡ t)
left_of_rest left rest t s taken gone = elim (cases_place s t) [
  | inl same ↦ inr same
  | inr other ↦ elim (cases_Bool (is_in left s)) [
    | inl here ↦ absurd
        (true_not_false (is_in rest s) (still_left left rest t s taken here other) gone)
    | inr past ↦ inl past
  ]
]

pub past_more : (fact : Move → Type 0) (at : Move → Place) (left rest : Places) (t : Place)
    (old mid new : List Move) → IsTakenFirst left rest (Some t)
    → Lists (IsPast fact at left) old mid → Lists (λ m. fact m × (at m ≡ t)) mid new
    → Lists (IsPast fact at rest) old new
past_more fact at left rest t old mid new taken before here =
    lists_same (λ m. IsPast fact at left m ⊎ (fact m × (at m ≡ t))) (IsPast fact at rest) old new
    (λ m. (
      (λ either. elim either [
        | inl past ↦ (past.0, rest_of_past left rest t (at m) taken past.1)
        | inr same ↦ (
          same.0,
          ap (is_in rest) same.1 ∙ rest_of_taken left rest t taken,
        )
      ]),
      (λ gone. elim (left_of_rest left rest t (at m) taken gone.1) [
        | inl past ↦ inl (gone.0, past)
        | inr same ↦ inr (gone.0, same)
      ]),
    ))
    (lists_both (IsPast fact at left) (λ m. fact m × (at m ≡ t)) old mid new
    (λ m past same. true_not_false (is_in left (at m))
    (ap (is_in left) same.1 ∙ taken.1) past.1) before here)

pub past_all : (fact : Move → Type 0) (at : Move → Place) (left rest : Places)
    (old new : List Move) → IsTakenFirst left rest None
    → Lists (IsPast fact at left) old new → Lists fact old new
past_all fact at left rest old new none lists =
    lists_same (IsPast fact at left) fact old new (λ m. (
      (λ past. past.0),
      (λ holds. (holds, not_in left (at m) none.0)),
    )) lists

-- ---- the legal moves between two squares

pub same_move : (m : Move) (s t : Place) (promote : Option Kind) (castle : Option Wing)
    → m.from ≡ s → m.to ≡ t → m.promote ≡ promote → m.castle ≡ castle
    → m ≡ record { from = s; to = t; promote = promote; castle = castle }
same_move m s t promote castle a b d e =
    λ i. record { from = a i; to = b i; promote = d i; castle = e i }

-- a legal move goes plainly, promotes, or castles
abbrev pub IsPlain : Move → Type 0
IsPlain m = (m.promote ≡ None) × (m.castle ≡ None)

abbrev pub Becomes : Move → Type 0
Becomes m = IsPromotion m.promote × (m.castle ≡ None)

abbrev pub Castling : State → Move → Type 0
Castling P m = (m.promote ≡ None) × (m.from ≡ king_from P.turn)
    × (wing : Wing) × (m.castle ≡ Some wing)

king_way : (P : State) (m : Move) (castle : Option Wing) → m.castle ≡ castle → m.promote ≡ None
    → IsKingMove P m castle → IsPlain m ⊎ (Becomes m ⊎ Castling P m)
king_way P m None e none goes = inl (none, e)
king_way P m (Some wing) e none castles = inr (inr (none, castles.from, wing, e))

goes_way : (P : State) (m : Move) (other : Kind) → Goes P m other
    → IsPlain m ⊎ (Becomes m ⊎ Castling P m)
goes_way P m King g = king_way P m m.castle refl g.0 g.1
goes_way P m Pawn g = elim g.2 [
  | inl last ↦ inr (inl (last.1, g.0))
  | inr other ↦ inl (other.1, g.0)
]
goes_way P m _ g = inl (g.1, g.0)

pub legal_way : (P : State) (m : Move) → IsLegal P m → IsPlain m ⊎ (Becomes m ⊎ Castling P m)
legal_way P m legal =
    goes_way P m legal.pseudo_legal.man.kind legal.pseudo_legal.goes

no_promotion : (o : Option Kind) → o ≡ None → IsPromotion o → ⊥
no_promotion None e is = is
no_promotion (Some found) e is = let f : Some found ≡ None = e in absurd (cc)

no_castling : (o : Option Wing) (wing : Wing) → o ≡ None → o ≡ Some wing → ⊥
no_castling o wing none some = let e : None ≡ Some wing = sym none ∙ some in absurd (cc)

-- a move that promotes comes to the last rank, and does not castle
goes_last : (P : State) (m : Move) (other : Kind) → Goes P m other → IsPromotion m.promote
    → m.to.rank ≡ home_rank (opposite P.turn)
goes_last P m Pawn g is = elim g.2 [
  | inl last ↦ last.0
  | inr other ↦ absurd (no_promotion m.promote other.1 is)
]
goes_last P m King g is = absurd (no_promotion m.promote g.0 is)
goes_last P m _ g is = absurd (no_promotion m.promote g.1 is)

pub last_rank : (P : State) (s t : Place) (m : Move) → PromotesOn P s t m
    → t.rank ≡ home_rank (opposite P.turn)
last_rank P s t m h =
    let rules = h.0.0.0.pseudo_legal in
    ap (λ (u : Place). u.rank) (sym h.0.1) ∙ goes_last P m rules.man.kind rules.goes h.1

pub promotes_plainly : (P : State) (m : Move) → IsLegal P m → IsPromotion m.promote
    → m.castle ≡ None
promotes_plainly P m legal is = elim (legal_way P m legal) [
  | inl plain ↦ plain.1
  | inr more ↦ elim more [
    | inl becomes ↦ becomes.1
    | inr castles ↦ absurd (no_promotion m.promote castles.0 is)
  ]
]

pub castles_home : (P : State) (s t : Place) (m : Move) → CastlesFrom P s t m
    → (m.promote ≡ None) × (s ≡ king_from P.turn)
castles_home P s t m h = elim (legal_way P m h.0.0.0) [
  | inl plain ↦ absurd (no_castling m.castle h.1 plain.1 h.2)
  | inr more ↦ elim more [
    | inl becomes ↦ absurd (no_castling m.castle h.1 becomes.1 h.2)
    | inr castles ↦ (castles.0, sym h.0.0.1 ∙ castles.1)
  ]
]

-- that legal move goes from s to t
that_leaves : (P : State) (s t : Place) (promote : Option Kind) (castle : Option Wing) (m : Move)
    → IsThatLegal P (record { from = s; to = t; promote = promote; castle = castle }) m
    → LeavesFor P s t m
that_leaves P s t promote castle m h =
    ((h.1, ap (λ (n : Move). n.from) h.0), ap (λ (n : Move). n.to) h.0)

leaves_that : (P : State) (s t : Place) (promote : Option Kind) (castle : Option Wing) (m : Move)
    → LeavesFor P s t m → m.promote ≡ promote → m.castle ≡ castle
    → IsThatLegal P (record { from = s; to = t; promote = promote; castle = castle }) m
leaves_that P s t promote castle m h a b =
    (same_move m s t promote castle h.0.1 h.1 a b, h.0.0)

-- the parts of the moves between two squares
abbrev pub Plainly : State → Place → Place → Move → Type 0
Plainly P s t m =
    IsThatLegal P (record { from = s; to = t; promote = None; castle = None }) m

abbrev pub BecomesOn : State → Place → Place → Kind → Move → Type 0
BecomesOn P s t other m =
    IsThatLegal P (record { from = s; to = t; promote = Some other; castle = None }) m

abbrev pub CastlesOn : State → Place → Place → Wing → Move → Type 0
CastlesOn P s t wing m =
    IsThatLegal P (record { from = s; to = t; promote = None; castle = Some wing }) m

pub lists_between : (P : State) (s t : Place) (old mid next new : List Move)
    → Lists (Plainly P s t) old mid → Lists (PromotesOn P s t) mid next
    → Lists (CastlesFrom P s t) next new → Lists (LeavesFor P s t) old new
lists_between P s t old mid next new plain promoting castling =
    lists_same (λ m. (Plainly P s t m ⊎ PromotesOn P s t m) ⊎ CastlesFrom P s t m)
    (LeavesFor P s t) old new
    (λ m. (
      (λ way. elim way [
        | inl more ↦ elim more [
          | inl a ↦ that_leaves P s t None None m a
          | inr b ↦ b.0
        ]
        | inr d ↦ d.0
      ]),
      (λ h. elim (legal_way P m h.0.0) [
        | inl a ↦ inl (inl (leaves_that P s t None None m h a.0 a.1))
        | inr more ↦ elim more [
          | inl b ↦ inl (inr (h, b.0))
          | inr d ↦ inr (h, d.2, d.3)
        ]
      ]),
    ))
    (lists_both (λ m. Plainly P s t m ⊎ PromotesOn P s t m) (CastlesFrom P s t) old next new
    (λ m way castles. elim way [
      | inl a ↦ no_castling m.castle castles.1 (ap (λ (n : Move). n.castle) a.0) castles.2
      | inr b ↦ no_castling m.castle castles.1 (promotes_plainly P m b.0.0.0 b.1) castles.2
    ])
    (lists_both (Plainly P s t) (PromotesOn P s t) old mid next
    (λ m a b. no_promotion m.promote (ap (λ (n : Move). n.promote) a.0) b.1) plain promoting)
    castling)

-- moves that become different pieces differ, and so do castlings of both wings
other_kind : (P : State) (s t : Place) (a b : Kind) → (a ≡ b → ⊥) → (m : Move)
    → BecomesOn P s t a m → BecomesOn P s t b m → ⊥
other_kind P s t a b other m x y =
    let e : Some a ≡ Some b = sym (ap (λ (n : Move). n.promote) x.0)
    ∙ ap (λ (n : Move). n.promote) y.0 in
    other (same_Some a b e)

-- one of four
abbrev BecomesAny : State → Place → Place → Move → Type 0
BecomesAny P s t m = ((BecomesOn P s t Queen m ⊎ BecomesOn P s t Rook m)
    ⊎ BecomesOn P s t Bishop m) ⊎ BecomesOn P s t Knight m

becomes_kind : (P : State) (s t : Place) (m : Move) → LeavesFor P s t m → m.castle ≡ None
    → (other : Kind) → m.promote ≡ Some other → BecomesOn P s t other m
becomes_kind P s t m h plain other e = leaves_that P s t (Some other) None m h e plain

becomes_any : (P : State) (s t : Place) (m : Move) → LeavesFor P s t m → m.castle ≡ None
    → (promote : Option Kind) → m.promote ≡ promote → IsPromotion promote → BecomesAny P s t m
becomes_any P s t m h plain None e is = absurd is
becomes_any P s t m h plain (Some found) e is = elim is [
  | inl a ↦ inl (inl (inl (becomes_kind P s t m h plain Queen (e ∙ ap Some a))))
  | inr more ↦ elim more [
    | inl a ↦ inl (inl (inr (becomes_kind P s t m h plain Rook (e ∙ ap Some a))))
    | inr last ↦ elim last [
      | inl a ↦ inl (inr (becomes_kind P s t m h plain Bishop (e ∙ ap Some a)))
      | inr a ↦ inr (becomes_kind P s t m h plain Knight (e ∙ ap Some a))
    ]
  ]
]

promotes_so : (P : State) (s t : Place) (other : Kind) → IsPromotionKind other → (m : Move)
    → BecomesOn P s t other m → PromotesOn P s t m
promotes_so P s t other is m h = (
  that_leaves P s t (Some other) None m h,
  subst IsPromotion (sym (ap (λ (n : Move). n.promote) h.0)) is,
)

pub lists_promotions : (P : State) (s t : Place) (old a b d new : List Move)
    → Lists (BecomesOn P s t Queen) old a → Lists (BecomesOn P s t Rook) a b
    → Lists (BecomesOn P s t Bishop) b d → Lists (BecomesOn P s t Knight) d new
    → Lists (PromotesOn P s t) old new
lists_promotions P s t old a b d new queen rook bishop knight =
    lists_same (BecomesAny P s t) (PromotesOn P s t) old new
    (λ m. (
      (λ any. elim any [
        | inl more ↦ elim more [
          | inl first ↦ elim first [
            | inl h ↦ promotes_so P s t Queen (inl refl) m h
            | inr h ↦ promotes_so P s t Rook (inr (inl refl)) m h
          ]
          | inr h ↦ promotes_so P s t Bishop (inr (inr (inl refl))) m h
        ]
        | inr h ↦ promotes_so P s t Knight (inr (inr (inr refl))) m h
      ]),
      (λ h. becomes_any P s t m h.0 (promotes_plainly P m h.0.0.0 h.1) m.promote refl h.1),
    ))
    (lists_both (λ m. (BecomesOn P s t Queen m ⊎ BecomesOn P s t Rook m)
    ⊎ BecomesOn P s t Bishop m) (BecomesOn P s t Knight) old d new
    (λ m any h. elim any [
      | inl first ↦ elim first [
        | inl x ↦ other_kind P s t Queen Knight (λ e. cc) m x h
        | inr x ↦ other_kind P s t Rook Knight (λ e. cc) m x h
      ]
      | inr x ↦ other_kind P s t Bishop Knight (λ e. cc) m x h
    ])
    (lists_both (λ m. BecomesOn P s t Queen m ⊎ BecomesOn P s t Rook m)
    (BecomesOn P s t Bishop) old b d
    (λ m any h. elim any [
      | inl x ↦ other_kind P s t Queen Bishop (λ e. cc) m x h
      | inr x ↦ other_kind P s t Rook Bishop (λ e. cc) m x h
    ])
    (lists_both (BecomesOn P s t Queen) (BecomesOn P s t Rook) old a b
    (λ m x h. other_kind P s t Queen Rook (λ e. cc) m x h) queen rook)
    bishop)
    knight)

other_wing : (P : State) (s t : Place) (m : Move) → CastlesOn P s t KingSide m
    → CastlesOn P s t QueenSide m → ⊥
other_wing P s t m x y =
    let e : Some KingSide ≡ Some QueenSide = sym (ap (λ (n : Move). n.castle) x.0)
    ∙ ap (λ (n : Move). n.castle) y.0 in
    let f : KingSide ≡ QueenSide = same_Some KingSide QueenSide e in
    cc

castles_on : (P : State) (s t : Place) (m : Move) → CastlesFrom P s t m → (wing : Wing)
    → m.castle ≡ Some wing → CastlesOn P s t KingSide m ⊎ CastlesOn P s t QueenSide m
castles_on P s t m h KingSide e =
    inl (leaves_that P s t None (Some KingSide) m h.0 (castles_home P s t m h).0 e)
castles_on P s t m h QueenSide e =
    inr (leaves_that P s t None (Some QueenSide) m h.0 (castles_home P s t m h).0 e)

castles_so : (P : State) (s t : Place) (wing : Wing) (m : Move) → CastlesOn P s t wing m
    → CastlesFrom P s t m
castles_so P s t wing m h = (
  that_leaves P s t None (Some wing) m h,
  wing,
  ap (λ (n : Move). n.castle) h.0,
)

pub lists_castlings : (P : State) (s t : Place) (old mid new : List Move)
    → Lists (CastlesOn P s t KingSide) old mid → Lists (CastlesOn P s t QueenSide) mid new
    → Lists (CastlesFrom P s t) old new
lists_castlings P s t old mid new short long =
    lists_same (λ m. CastlesOn P s t KingSide m ⊎ CastlesOn P s t QueenSide m)
    (CastlesFrom P s t) old new
    (λ m. (
      (λ any. elim any [
        | inl h ↦ castles_so P s t KingSide m h
        | inr h ↦ castles_so P s t QueenSide m h
      ]),
      (λ h. castles_on P s t m h h.1 h.2),
    ))
    (lists_both (CastlesOn P s t KingSide) (CastlesOn P s t QueenSide) old mid new
    (other_wing P s t) short long)

-- ---- where legal moves begin and end

pub leaves_own : (P : State) (s : Place) (m : Move) → Leaves P s m → IsOccupiedBy P.men P.turn s
leaves_own P s m h =
    let rules = h.0.pseudo_legal in
    subst (λ u. IsOccupiedBy P.men P.turn u) h.1 (rules.man, rules.here, rules.own)

pub leaves_to : (P : State) (s : Place) (m : Move) → Leaves P s m → CanGo P s m.to
leaves_to P s m h = (
  m.promote,
  m.castle,
  subst (λ u. IsLegal P (record {
    from = u;
    to = m.to;
    promote = m.promote;
    castle = m.castle;
  })) h.1 h.0,
)

-- ---- what an error leaves

pub on_err : {A E P : Type 0} (r : Result A E) → P → OnErr r P
on_err (Ok x) holds = tt
on_err (Err e) holds = holds
