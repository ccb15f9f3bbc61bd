-- The entries of pieces are one list, and those of the pieces from a mark on are the entries of all
-- with no lower number.
use Rattle.std.specs.Prelude.{nat_le, cond}
use Rattle.pgn_extract.proofs.Common.{◌≡◌, ℕ, ◌+◌, ◌-◌, ◌≤◌, true, false, suc, List, [], ◌∷◌, ◌++◌}
use Rattle.pgn_extract.proofs.Common.{length, refl, sym, ap, ◌∙◌, subst, arith, inl, inr, Contains}
use Rattle.pgn_extract.proofs.Common.{slice_get, cases_lt, nat_tests, MarkedPiece, Aim, Entry}
use Rattle.pgn_extract.proofs.Common.{IsPlyOfGame, IsEarlier, Ascend, AreEntries, entries_at_least}
use Rattle.pgn_extract.specs.Public.Laws.{PiecesHaveOneListing}
use Rattle.pgn_extract.proofs.Chosen.{none_in, in_front}
use Rattle.pgn_extract.proofs.ExactEntries.{are_entries}
use Rattle.pgn_extract.proofs.ModeOutputs.{of_pieces}
use Rattle.pgn_extract.proofs.SomeReport.{some_report}
use Rattle.pgn_extract.specs.declared.settings.Mode.TheVariants as modes

-- of two entries one at most is earlier
not_both : (x y : Entry) → IsEarlier x y → IsEarlier y x → ⊥
not_both x y (inl less) (inl more) = omega arith
not_both x y (inl less) (inr same) = (let s = same.0 in omega arith)
not_both x y (inr same) (inl more) = (let s = same.0 in omega arith)
not_both x y (inr same) (inr other) = (let s = same.1 in let o = other.1 in omega arith)

-- the first of some and the others are among them
has_first : (x : Entry) (xs : List Entry) → Contains (x ∷ xs) x
has_first x xs = (0, omega arith, refl)

has_other : (x : Entry) (xs : List Entry) (e : Entry) → Contains xs e → Contains (x ∷ xs) e
has_other x xs e (k, less, is) = (suc k, omega arith, is)

-- two ascending lists of the same entries begin with the same one
same_first : (x y : Entry) (xs ys : List Entry) → Ascend (x ∷ xs) → Ascend (y ∷ ys)
    → ((e : Entry) → Contains (x ∷ xs) e → Contains (y ∷ ys) e)
    → ((e : Entry) → Contains (y ∷ ys) e → Contains (x ∷ xs) e) → x ≡ y
same_first x y xs ys up also_up there back =
    elim (in_front y ys x (there x (has_first x xs))) [
      | inl is ↦ sym is
      | inr later ↦
          elim (in_front x xs y (back y (has_first y ys))) [
            | inl is ↦ is
            | inr also ↦ absurd (not_both x y (up.0 y also) (also_up.0 x later))
          ]
    ]

-- and the others of the one are others of the other
others_there : (x y : Entry) (xs ys : List Entry) → Ascend (x ∷ xs) → x ≡ y
    → ((e : Entry) → Contains (x ∷ xs) e → Contains (y ∷ ys) e)
    → (e : Entry) → Contains xs e → Contains ys e
others_there x y xs ys up same there e has =
    elim (in_front y ys e (there e (has_other x xs e has))) [
      | inl is ↦ (let it = subst (λ z. IsEarlier z e) (same ∙ is) (up.0 e has) in
          absurd (not_both e e it it))
      | inr later ↦ later
    ]

-- two ascending lists of the same entries are one
one_ascending : (xs ys : List Entry) → Ascend xs → Ascend ys
    → ((e : Entry) → Contains xs e → Contains ys e) → ((e : Entry) → Contains ys e → Contains xs e)
    → xs ≡ ys
one_ascending [] [] up also_up there back = refl
one_ascending [] (y ∷ ys) up also_up there back = absurd (none_in y (back y (has_first y ys)))
one_ascending (x ∷ xs) [] up also_up there back = absurd (none_in x (there x (has_first x xs)))
one_ascending (x ∷ xs) (y ∷ ys) up also_up there back =
    let same : x ≡ y = same_first x y xs ys up also_up there back in
    ap (λ e. e ∷ xs) same ∙ ap (λ es. y ∷ es)
    (one_ascending xs ys up.1 also_up.1 (others_there x y xs ys up same there)
    (others_there y x ys xs also_up (sym same) back))

-- the entries of pieces are one list
pub one_listing : (aim : Aim) (number : ℕ) (pieces : List MarkedPiece) (entries others : List Entry)
    → AreEntries aim number pieces entries → AreEntries aim number pieces others → entries ≡ others
one_listing aim number pieces entries others are also =
    one_ascending entries others are.ascend also.ascend (λ e has.
    (also.exact e).1 ((are.exact e).0 has)) (λ e has. (are.exact e).1 ((also.exact e).0 has))

-- which entries of some have at least a number
kept_all : (least : ℕ) (entries : List Entry) (e : Entry) → Contains entries e → least ≤ e.id.number
    → Contains (entries_at_least least entries) e
kept_all least [] e has low = absurd (none_in e has)
kept_all least (x ∷ xs) e has low =
    elim (cases_lt x.id.number least) [
      | inl below ↦
          let out : nat_le least x.id.number ≡ false = grind (arith, nat_tests) in
          subst (λ b.
          Contains (cond b (x ∷ entries_at_least least xs) (entries_at_least least xs)) e)
          (sym out)
          (elim (in_front x xs e has) [
            | inl is ↦ (let same : x.id.number ≡ e.id.number = ap (λ (z : Entry). z.id.number) is in
                absurd (omega arith))
            | inr later ↦ kept_all least xs e later low
          ])
      | inr above ↦
          let in_it : nat_le least x.id.number ≡ true = grind (arith, nat_tests) in
          subst (λ b.
          Contains (cond b (x ∷ entries_at_least least xs) (entries_at_least least xs)) e)
          (sym in_it)
          (elim (in_front x xs e has) [
            | inl is ↦ subst (Contains (x ∷ entries_at_least least xs)) is
                (has_first x (entries_at_least least xs))
            | inr later ↦ has_other x (entries_at_least least xs) e (kept_all least xs e later low)
          ])
    ]

kept_from : (least : ℕ) (entries : List Entry) (e : Entry)
    → Contains (entries_at_least least entries) e → Contains entries e × (least ≤ e.id.number)
kept_from least [] e has = absurd (none_in e has)
kept_from least (x ∷ xs) e has =
    elim (cases_lt x.id.number least) [
      | inl below ↦
          let out : nat_le least x.id.number ≡ false = grind (arith, nat_tests) in
          let of = kept_from least xs e
          (subst (λ b.
          Contains (cond b (x ∷ entries_at_least least xs) (entries_at_least least xs)) e) out
          has) in
          (has_other x xs e of.0, of.1)
      | inr above ↦
          let in_it : nat_le least x.id.number ≡ true = grind (arith, nat_tests) in
          elim (in_front x (entries_at_least least xs) e
          (subst (λ b.
          Contains (cond b (x ∷ entries_at_least least xs) (entries_at_least least xs)) e) in_it
          has)) [
            | inl is ↦ (
              subst (Contains (x ∷ xs)) is (has_first x xs),
              subst (λ (z : Entry). least ≤ z.id.number) is (omega arith),
            )
            | inr later ↦ (let of = kept_from least xs e later in (has_other x xs e of.0, of.1))
          ]
    ]

-- they are in order
kept_ascend : (least : ℕ) (entries : List Entry) → Ascend entries
    → Ascend (entries_at_least least entries)
kept_ascend least [] up = tt
kept_ascend least (x ∷ xs) up =
    elim (cases_lt x.id.number least) [
      | inl below ↦
          let out : nat_le least x.id.number ≡ false = grind (arith, nat_tests) in
          subst (λ b. Ascend (cond b (x ∷ entries_at_least least xs) (entries_at_least least xs)))
          (sym out) (kept_ascend least xs up.1)
      | inr above ↦
          let in_it : nat_le least x.id.number ≡ true = grind (arith, nat_tests) in
          subst (λ b. Ascend (cond b (x ∷ entries_at_least least xs) (entries_at_least least xs)))
          (sym in_it)
          (λ later has. up.0 later (kept_from least xs later has).0, kept_ascend least xs up.1)
    ]

-- a piece after some is a piece of them all, and the other way round
place_after : (before rest : List MarkedPiece) (place : ℕ)
    → slice_get (before ++ rest) (length before + place) ≡ slice_get rest place
place_after [] rest place = (let none : 0 + place ≡ place = omega arith in ap (slice_get rest) none)
place_after (piece ∷ before) rest place =
    let next : length (piece ∷ before) + place ≡ suc (length before + place) = omega arith in
    ap (slice_get (piece ∷ (before ++ rest))) next ∙ place_after before rest place

-- a ply of a game of the rest is one of the whole
of_whole : (aim : Aim) (before rest : List MarkedPiece) (number : ℕ) (e : Entry)
    → IsPlyOfGame aim (length before + number) rest e → IsPlyOfGame aim number (before ++ rest) e
of_whole aim before rest number e of = record {
  place = length before + of.place;
  parts = of.parts;
  game = of.game;
  replay = of.replay;
  piece = place_after before rest of.place ∙ of.piece;
  numbered = (let n = of.numbered in omega arith);
  chosen = of.chosen;
  is_game = of.is_game;
  is_replay = of.is_replay;
  within = of.within;
  listed = of.listed;
  shows = of.shows;
}

-- a ply of a game of the whole with no lower number is one of the rest
of_rest : (aim : Aim) (before rest : List MarkedPiece) (number : ℕ) (e : Entry)
    → IsPlyOfGame aim number (before ++ rest) e → length before + number ≤ e.id.number
    → IsPlyOfGame aim (length before + number) rest e
of_rest aim before rest number e of low =
    let n = of.numbered in
    let place : of.place ≡ length before + (of.place - length before) = omega arith in record {
      place = of.place - length before;
      parts = of.parts;
      game = of.game;
      replay = of.replay;
      piece = sym (place_after before rest (of.place - length before))
          ∙ sym (ap (slice_get (before ++ rest)) place) ∙ of.piece;
      numbered = omega arith;
      chosen = of.chosen;
      is_game = of.is_game;
      is_replay = of.is_replay;
      within = of.within;
      listed = of.listed;
      shows = of.shows;
    }

-- the entries of the rest are those of the whole with no lower number
pub rest_entries : (aim : Aim) (before rest : List MarkedPiece) (number : ℕ) (entries : List Entry)
    → AreEntries aim number (before ++ rest) entries
    → AreEntries aim (length before
    + number) rest (entries_at_least (length before + number) entries)
rest_entries aim before rest number entries are = record {
  exact = λ e. (
    λ has. (let of = kept_from (length before + number) entries e has in
        of_rest aim before rest number e ((are.exact e).0 of.0) of.1),
    λ of. (let n = of.numbered in
        kept_all (length before + number) entries e
        ((are.exact e).1 (of_whole aim before rest number e of)) (omega arith)),
  );
  ascend = kept_ascend (length before + number) entries are.ascend;
}

-- the aim of a listing
abbrev listing_aim : Aim → Aim
listing_aim aim = record aim { mode = modes.List }

-- the plies that are listed are the same whatever the mode
listed_ply : (aim : Aim) (number : ℕ) (pieces : List MarkedPiece) (e : Entry)
    → IsPlyOfGame (listing_aim aim) number pieces e → IsPlyOfGame aim number pieces e
listed_ply aim number pieces e of = record {
  place = of.place;
  parts = of.parts;
  game = of.game;
  replay = of.replay;
  piece = of.piece;
  numbered = of.numbered;
  chosen = of.chosen;
  is_game = of.is_game;
  is_replay = of.is_replay;
  within = of.within;
  listed = of.listed;
  shows = of.shows;
}

ply_listed : (aim : Aim) (number : ℕ) (pieces : List MarkedPiece) (e : Entry)
    → IsPlyOfGame aim number pieces e → IsPlyOfGame (listing_aim aim) number pieces e
ply_listed aim number pieces e of = record {
  place = of.place;
  parts = of.parts;
  game = of.game;
  replay = of.replay;
  piece = of.piece;
  numbered = of.numbered;
  chosen = of.chosen;
  is_game = of.is_game;
  is_replay = of.is_replay;
  within = of.within;
  listed = of.listed;
  shows = of.shows;
}

-- the pieces of each text have entries
pub some_listing : PiecesHaveOneListing
some_listing aim limit max_depth id text pieces each =
    let reported = some_report (listing_aim aim) limit max_depth id text pieces each in
    let rows = of_pieces (listing_aim aim) refl id.number pieces reported.0 reported.1 in
    let listed = are_entries (listing_aim aim) id.number pieces rows.0 rows.1 in
    let are : AreEntries aim id.number pieces rows.0 = record {
      exact = λ e. (
        λ has. listed_ply aim id.number pieces e ((listed.exact e).0 has),
        λ of. (listed.exact e).1 (ply_listed aim id.number pieces e of),
      );
      ascend = listed.ascend;
    } in
    (rows.0, are, λ others also. one_listing aim id.number pieces others rows.0 also are)
