-- One more line of a file of openings: the map has it where it is the first that ends there, and
-- the set has its pawns.
use Rattle.pgn_game.proofs.Common.{◌≡◌, ◌<◌, ℕ, true, false, List, [], ◌∷◌, ◌++◌, length, Option}
use Rattle.pgn_game.proofs.Common.{Some, None, inl, inr, ap, refl, sym, subst, ◌∙◌, arith, State}
use Rattle.pgn_game.proofs.Common.{length-map, map-append}
use Rattle.std.proofs.Common.{◌⊎◌, map, cond, nat_eq, is_some}
use Rattle.std.specs.Bool.{Decides}
use Rattle.std.specs.Cmp.Lexicographic.{pointwise}
use Rattle.std.specs.HashMap.{HashMap, get, Updates}
use Rattle.std.proofs.lemmas.Bool.Decides.{Decides-eqb}
use Rattle.std.proofs.lemmas.Slice.Eq.{slice_eq-Decides}
use Rattle.std.proofs.lemmas.Option.{slice_get_within}
use Rattle.chess.specs.Public.Keys.{IsKey, ArePawns, IsSamePosition}
use Rattle.chess.specs.Public.Laws.{KeysTellPositions, SamePositionsHaveSamePawns}
use Rattle.chess.specs.Public.Positions.{IsSound}
use Rattle.pgn_game.specs.Public.Openings.{EndsIn, IsFirstIn, NamedLine, ends_of, named_of}
use Rattle.pgn_game.specs.Private.Filing.{AreFiled, AreSieved, has_place, key_place, pawns_place}
use Rattle.pgn_game.specs.declared.openings.OpeningLine.{OpeningLine}
use Rattle.pgn_game.proofs.OneMore.{get_kept, get_last, get_more}

-- ---- the first line that ends in a position

ends_kept : (ends : List State) (Q : State) (line : ℕ) (P : State) → EndsIn ends line P
    → EndsIn (ends ++ Q ∷ []) line P
ends_kept ends Q line P here = (here.0, get_kept ends Q line here.0 here.1, here.2)

ends_more : (ends : List State) (Q : State) (line : ℕ) (P : State) → EndsIn (ends ++ Q ∷ []) line P
    → EndsIn ends line P ⊎ ((line ≡ length ends) × IsSamePosition Q P)
ends_more ends Q line P here = elim (get_more ends Q line here.0 here.1) [
  | inl old ↦ inl (here.0, old, here.2)
  | inr new ↦ inr (new.0, subst (λ (R : State). IsSamePosition R P) new.1 here.2)
]

below : (ends : List State) (line : ℕ) (P : State) → EndsIn ends line P → line < length ends
below ends line P here = slice_get_within ends line here.0 here.1

-- the first line stays the first
kept_first : (ends : List State) (Q P : State) (line : ℕ) → IsFirstIn ends P (Some line)
    → IsFirstIn (ends ++ Q ∷ []) P (Some line)
kept_first ends Q P line first = (
  ends_kept ends Q line P first.0,
  (λ other less there. elim (ends_more ends Q other P there) [
    | inl old ↦ first.1 other less old
    | inr new ↦ let at = new.0 in let under = below ends line P first.0 in absurd (omega arith)
  ]),
)

-- another position still has none
kept_none : (ends : List State) (Q P : State) → IsFirstIn ends P None
    → (IsSamePosition Q P → ⊥) → IsFirstIn (ends ++ Q ∷ []) P None
kept_none ends Q P none other = λ line there. elim (ends_more ends Q line P there) [
  | inl old ↦ none line old
  | inr new ↦ other new.1
]

-- and the position that had none has the new one
new_first : (ends : List State) (Q P : State) → IsFirstIn ends P None → IsSamePosition Q P
    → IsFirstIn (ends ++ Q ∷ []) P (Some (length ends))
new_first ends Q P none same = (
  (Q, get_last ends Q, same),
  (λ other less there. elim (ends_more ends Q other P there) [
    | inl old ↦ none other old
    | inr new ↦ let at = new.0 in absurd (omega arith)
  ]),
)

kept : (ends : List State) (Q P : State) (o : Option ℕ) → IsFirstIn ends P o
    → (o ≡ None → IsSamePosition Q P → ⊥) → IsFirstIn (ends ++ Q ∷ []) P o
kept ends Q P None first other = kept_none ends Q P first (other refl)
kept ends Q P (Some line) first other = kept_first ends Q P line first

-- ---- the map

-- where the line's position has a line already, the map stays
filed_again : {S : Type 0} (laws : KeysTellPositions) (ends : List State)
    (places : HashMap (List ℕ) ℕ S) (Q : State) (y : List ℕ) → IsSound Q → IsKey Q y
    → (get (pointwise nat_eq) places y ≡ None → ⊥) → AreFiled ends places
    → AreFiled (ends ++ Q ∷ []) places
filed_again laws ends places Q y sound keyed some filed = λ P x sound' keyed'.
    kept ends Q P (get (pointwise nat_eq) places x) (filed P x sound' keyed') (λ none same.
    some (ap (get (pointwise nat_eq) places) ((laws Q P y x sound sound' keyed keyed').1 same)
    ∙ none))

same_key : (x y : List ℕ) → Decides (pointwise nat_eq x y) (x ≡ y)
same_key x y = slice_eq-Decides Decides-eqb x y (pointwise nat_eq x y) refl

-- where it has none yet, the map has the new line there
filed_new : {S : Type 0} (laws : KeysTellPositions) (ends : List State)
    (old new : HashMap (List ℕ) ℕ S) (Q : State) (y : List ℕ) → IsSound Q → IsKey Q y
    → get (pointwise nat_eq) old y ≡ None
    → Updates (pointwise nat_eq) old new y (Some (length ends)) → AreFiled ends old
    → AreFiled (ends ++ Q ∷ []) new
filed_new laws ends old new Q y sound keyed none updates filed = λ P x sound' keyed'.
    subst (IsFirstIn (ends ++ Q ∷ []) P) (sym (updates.0 x))
    (elim (pointwise nat_eq y x) as (λ b. pointwise nat_eq y x ≡ b
    → IsFirstIn (ends ++ Q ∷ []) P
    (cond b (Some (length ends)) (get (pointwise nat_eq) old x))) [
      | true ↦ λ e.
          let same = (same_key y x).0 e in
          new_first ends Q P
          (subst (IsFirstIn ends P) (ap (get (pointwise nat_eq) old) (sym same) ∙ none)
          (filed P x sound' keyed')) ((laws Q P y x sound sound' keyed keyed').0 same)
      | false ↦ λ e.
          kept ends Q P (get (pointwise nat_eq) old x) (filed P x sound' keyed') (λ none' same.
          let both : false ≡ true = sym e
          ∙ (same_key y x).1 ((laws Q P y x sound sound' keyed keyed').1 same) in cc)
    ] refl)

-- ---- the map, by the lines

pub named_push : (lines : List OpeningLine) (line : OpeningLine)
    → map named_of (lines ++ line ∷ []) ≡ map named_of lines ++ named_of line ∷ []
named_push lines line = map-append named_of lines (line ∷ [])

ends_push : (lines : List OpeningLine) (line : OpeningLine)
    → ends_of (map named_of (lines ++ line ∷ [])) ≡ ends_of (map named_of lines) ++ line.end ∷ []
ends_push lines line =
    ap ends_of (named_push lines line)
    ∙ map-append (λ (l : NamedLine). l.end) (map named_of lines) (named_of line ∷ [])

ends_length : (lines : List OpeningLine) → length (ends_of (map named_of lines)) ≡ length lines
ends_length lines = length-map (map named_of lines) (λ (l : NamedLine). l.end)
    ∙ length-map lines named_of

-- what holds by the ends of the lines and the line's own holds by those of more lines
by_lines : (fact : List State → Type 0) (lines more : List OpeningLine) (line : OpeningLine)
    → more ≡ lines ++ line ∷ [] → fact (ends_of (map named_of lines) ++ line.end ∷ [])
    → fact (ends_of (map named_of more))
by_lines fact lines more line pushed holds =
    subst fact (sym (ap (λ ls. ends_of (map named_of ls)) pushed ∙ ends_push lines line)) holds

some_there : (o : Option ℕ) → is_some o ≡ true → o ≡ None → ⊥
some_there None there none = cc
some_there (Some n) there none = cc

none_there : (o : Option ℕ) → is_some o ≡ false → o ≡ None
none_there None there = refl
none_there (Some n) there = cc

pub line_again : {S : Type 0} (laws : KeysTellPositions) (lines more : List OpeningLine)
    (places : HashMap (List ℕ) ℕ S) (line : OpeningLine) (y : List ℕ) → IsSound line.end
    → IsKey line.end y → is_some (get (pointwise nat_eq) places y) ≡ true
    → more ≡ lines ++ line ∷ [] → AreFiled (ends_of (map named_of lines)) places
    → AreFiled (ends_of (map named_of more)) places
line_again laws lines more places line y sound keyed some pushed filed =
    by_lines (λ ends. AreFiled ends places) lines more line pushed
    (filed_again laws (ends_of (map named_of lines)) places line.end y sound keyed
    (some_there _ some) filed)

pub line_new : {S : Type 0} (laws : KeysTellPositions) (lines more : List OpeningLine)
    (old new : HashMap (List ℕ) ℕ S) (line : OpeningLine) (y : List ℕ) (n : ℕ)
    → IsSound line.end → IsKey line.end y → is_some (get (pointwise nat_eq) old y) ≡ false
    → n ≡ length lines → Updates (pointwise nat_eq) old new y (Some n)
    → more ≡ lines ++ line ∷ [] → AreFiled (ends_of (map named_of lines)) old
    → AreFiled (ends_of (map named_of more)) new
line_new laws lines more old new line y n sound keyed none at updates pushed filed =
    by_lines (λ ends. AreFiled ends new) lines more line pushed
    (filed_new laws (ends_of (map named_of lines)) old new line.end y sound keyed
    (none_there _ none)
    (subst (λ k. Updates (pointwise nat_eq) old new y (Some k)) (at ∙ sym (ends_length lines))
    updates) filed)

-- ---- the sieves

-- in what a sieve passes over, no line ends
pub pawns_passed : (ends : List State) (pawns keys : List ℕ) (P : State) (x : List ℕ)
    → ArePawns P x → AreSieved ends pawns keys → has_place pawns (pawns_place x) ≡ false
    → IsFirstIn ends P None
pawns_passed ends pawns keys P x own sieved absent = λ line here.
    let both : true ≡ false = sym (sieved.has_pawns line P x here own) ∙ absent in cc

pub key_passed : (ends : List State) (pawns keys : List ℕ) (P : State) (x : List ℕ)
    → IsSound P → IsKey P x → AreSieved ends pawns keys → has_place keys (key_place x) ≡ false
    → IsFirstIn ends P None
key_passed ends pawns keys P x sound own sieved absent = λ line here.
    let both : true ≡ false = sym (sieved.has_key line P x sound here own) ∙ absent in cc

-- one more place is in a sieve
pub record PutsPlace (old new : List ℕ) (place : ℕ) : Type 0 where
  pub here : has_place new place ≡ true
  pub kept : (other : ℕ) → has_place old other ≡ true → has_place new other ≡ true

pub put_there : {old new : List ℕ} {place own : ℕ} → own ≡ place → has_place new own ≡ true
    → ((other : ℕ) → has_place old other ≡ true → has_place new other ≡ true)
    → PutsPlace old new place
put_there {new = new} same here kept = record {
  here = subst (λ n. has_place new n ≡ true) same here;
  kept = kept;
}

-- the pawns and the key of one more line
sieved_more : (same_pawns : SamePositionsHaveSamePawns) (same_keys : KeysTellPositions)
    (ends : List State) (pawns keys pawns' keys' : List ℕ) (Q : State) (x y : List ℕ)
    → ArePawns Q x → IsSound Q → IsKey Q y → PutsPlace pawns pawns' (pawns_place x)
    → PutsPlace keys keys' (key_place y) → AreSieved ends pawns keys
    → AreSieved (ends ++ Q ∷ []) pawns' keys'
sieved_more same_pawns same_keys ends pawns keys pawns' keys' Q x y own sound keyed pawned filed
    sieved = record {
      has_pawns = λ line P x' here own'. elim (ends_more ends Q line P here) [
        | inl before ↦ pawned.kept (pawns_place x') (sieved.has_pawns line P x' before own')
        | inr last ↦ subst (λ z. has_place pawns' (pawns_place z) ≡ true)
            (same_pawns Q P x x' own own' last.1) pawned.here
      ];
      has_key = λ line P y' sound' here keyed'. elim (ends_more ends Q line P here) [
        | inl before ↦ filed.kept (key_place y') (sieved.has_key line P y' sound' before keyed')
        | inr last ↦ subst (λ z. has_place keys' (key_place z) ≡ true)
            ((same_keys Q P y y' sound sound' keyed keyed').1 last.1) filed.here
      ];
    }

pub line_sieved : (same_pawns : SamePositionsHaveSamePawns) (same_keys : KeysTellPositions)
    (lines more : List OpeningLine) (pawns keys pawns' keys' : List ℕ) (line : OpeningLine)
    (x y : List ℕ) → ArePawns line.end x → IsSound line.end → IsKey line.end y
    → PutsPlace pawns pawns' (pawns_place x) → PutsPlace keys keys' (key_place y)
    → more ≡ lines ++ line ∷ [] → AreSieved (ends_of (map named_of lines)) pawns keys
    → AreSieved (ends_of (map named_of more)) pawns' keys'
line_sieved same_pawns same_keys lines more pawns keys pawns' keys' line x y own sound keyed pawned
    filed pushed sieved =
    by_lines (λ ends. AreSieved ends pawns' keys') lines more line pushed
    (sieved_more same_pawns same_keys (ends_of (map named_of lines)) pawns keys pawns' keys'
    line.end x y own sound keyed pawned filed sieved)
