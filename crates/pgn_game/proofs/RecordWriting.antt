-- What is written of a game is its record.
use Rattle.std.proofs.lemmas.Grind.{flat_map-append}
use Rattle.std.specs.Prelude.{true, IsTrue}
use Rattle.std.proofs.lemmas.List.{append-nil, length-append}
use Rattle.pgn_game.proofs.Common.{◌≡◌, ℕ, zero, suc, ◌+◌, ◌*◌, ◌^◌, ◌<◌, ◌≤◌, Bool, List, [], ◌∷◌}
use Rattle.pgn_game.proofs.Common.{◌++◌, length, take, map, Option, Some, None, refl, sym, ap}
use Rattle.pgn_game.proofs.Common.{subst, ◌∙◌, append_assoc, arith, Bor, flat_map, slice_get}
use Rattle.pgn_game.proofs.Common.{AllByRecursion, deref_pair, w32, w64, to_be_bytes}
use Rattle.pgn_game.proofs.Common.{slice_cmp, IsStrictlySortedBy, nat_cmp, name_of}
use Rattle.pgn_game.proofs.Common.{option_map, IfSome, slice_get-map, same_Some, flat_map-cons}
use Rattle.pgn_game.proofs.Common.{State, after, HasMove, Move, tag_of, GameText, IsResult, ltb}
use Rattle.pgn_game.proofs.Common.{Item, MainWalk, main_words, nat_tests, take_all, IsStart}
use Rattle.pgn_game.proofs.Common.{tag_in, fen_tag, HasStepped}
use Rattle.pgn_game.specs.Public.PackedGames.{IsRecordOf}
use Rattle.pgn_game.proofs.Common.{tag_names, IsMainLine, Replay, PlyCode, AreMarks, IsCode}
use Rattle.pgn_game.proofs.Common.{AreCodes, FitsCode, code_bytes, PackedGame, Tag, FitsTag}
use Rattle.pgn_game.proofs.Common.{FitsRecord, IsPacked, with_length, name_bytes, name_size}
use Rattle.pgn_game.proofs.Common.{tag_bytes, tags_size, body_size, tail_bytes, body_bytes}
use Rattle.pgn_game.proofs.Common.{record_bytes, head_of, largest_body, is_origin, HasPutPlies}
use Rattle.pgn_game.specs.Private.PackWords.{IsLinePlayed, PutsFields, HasPutReplayed}
use Rattle.pgn_game.specs.Private.PackWords.{HasPutPlayed}
use Rattle.pgn_game.specs.Private.Walks.{HasPlayed}
use Rattle.pgn_game.specs.declared.pack.origin.GameOrigin.{GameOrigin}
use Rattle.pgn_game.proofs.OneReplay.{line_head, move_at}
use Rattle.pgn_game.proofs.OnBoard.{line_legal}
use Rattle.pgn_game.proofs.PlyCodeFacts.{code_of_a_move_fits}
use Rattle.pgn_game.proofs.WalkFacts.{walk_begins, walked_by, walked_past, walk_ends}
use Rattle.pgn_game.proofs.RecordFacts.{plies_size}

-- ---- tags

-- the tags that a walk over their map has shown
abbrev pub shown_tags : List (Bor (Bor (List ℕ)) × Bor (Bor (List ℕ))) → List Tag
shown_tags shown = map tag_of (map deref_pair shown)

pub tags_more : (shown : List (Bor (Bor (List ℕ)) × Bor (Bor (List ℕ)))) (tag : Bor (Bor (List ℕ))
    × Bor (Bor (List ℕ)))
    → shown_tags (shown ++ tag ∷ []) ≡ shown_tags shown ++ (tag.0.now.now, tag.1.now.now) ∷ []
tags_more [] tag = refl
tags_more (first ∷ shown) tag =
    ap (λ (tags : List Tag). (first.0.now.now, first.1.now.now) ∷ tags) (tags_more shown tag)

pub size_more : (tags : List Tag) (tag : Tag)
    → tags_size (tags ++ tag ∷ []) ≡ tags_size tags + (8 + length tag.0 + length tag.1)
size_more [] tag = omega arith
size_more (first ∷ tags) tag = omega (arith, size_more tags tag)

pub size_at : (tags : List Tag) (i : ℕ) (tag : Tag) → slice_get tags i ≡ Some tag
    → 8 + length tag.0 + length tag.1 ≤ tags_size tags
size_at [] i tag at = let none : None ≡ Some tag = at in absurd cc
size_at (first ∷ tags) zero tag at = let same : first ≡ tag = cc in rw (sym same) (omega arith)
size_at (first ∷ tags) (suc i) tag at = omega (arith, size_at tags i tag at)

-- the name and the contents of a tag are shorter than all tags together
pub shown_below : (tags : List Tag) (entries : List (Bor (List ℕ) × Bor (List ℕ))) (i : ℕ)
    (e : Bor (List ℕ) × Bor (List ℕ)) → map tag_of entries ≡ tags → slice_get entries i ≡ Some e
    → (length e.0.now < tags_size tags) × (length e.1.now < tags_size tags)
shown_below tags entries i e is at =
    let there : slice_get tags i ≡ Some (tag_of e) =
    ap (λ (ts : List Tag). slice_get ts i) (sym is) ∙ slice_get-map tag_of entries i
    ∙ ap (option_map tag_of) at in
    let least = size_at tags i (tag_of e) there in (omega arith, omega arith)

pub count_below : (tags : List Tag) → 8 * length tags ≤ tags_size tags
count_below [] = omega arith
count_below (tag ∷ tags) = omega (arith, count_below tags)

pub tags_fit : (tags : List Tag) → tags_size tags < 2 ^ 32 → AllByRecursion FitsTag tags
tags_fit [] small = tt
tags_fit (tag ∷ tags) small =
    (record { name = omega arith; contents = omega arith }, tags_fit tags (omega arith))

length_more : (bytes : List ℕ) → length (with_length bytes) ≡ 4 + length bytes
length_more bytes = length-append (to_be_bytes w32 (length bytes)) bytes

pub tags_length : (tags : List Tag) → length (flat_map tag_bytes tags) ≡ tags_size tags
tags_length [] = refl
tags_length (tag ∷ tags) =
    ap length (flat_map-cons tag_bytes tag tags)
    ∙ omega (
      arith,
      length-append (tag_bytes tag) (flat_map tag_bytes tags),
      length-append (with_length tag.0) (with_length tag.1),
      length_more tag.0,
      length_more tag.1,
      tags_length tags,
    )

-- ---- the name

name_length : (name : Option (List ℕ)) → length (name_bytes name) ≡ name_size name
name_length None = refl
name_length (Some name) = length_more name

name_fits : (name : Option (List ℕ)) → name_size name < 2 ^ 32
    → IfSome name (λ own. length own < 2 ^ 32)
name_fits None small = tt
name_fits (Some name) small = omega arith

-- ---- plies

some_at : {A : Type 0} (xs : List A) (i : ℕ) → i < length xs → (x : A) × (slice_get xs i ≡ Some x)
some_at [] i lt = absurd (omega arith)
some_at (x ∷ xs) zero lt = (x, refl)
some_at (x ∷ xs) (suc i) lt = some_at xs i (omega arith)

-- where a ply follows, there is a legal move
pub movable : (replay : Replay) (plies : ℕ) (P : State) → IsLinePlayed replay
    → plies < length replay.played → slice_get replay.positions plies ≡ Some P → HasMove P
movable replay plies P line lt here =
    let at = some_at replay.played plies lt in
    let m : Move = at.0 in (
      m.from,
      m.to,
      (
        m.promote,
        m.castle,
        line_legal line.1 line.0 replay.positions replay.played line.2 plies P m here at.1,
      ),
    )

-- the position after the next ply
pub next_is : (replay : Replay) (plies : ℕ) (P : State) (m : Move) → IsLinePlayed replay
    → slice_get replay.positions plies ≡ Some P → slice_get replay.played plies ≡ Some m
    → slice_get replay.positions (plies + 1) ≡ Some (after P m)
next_is replay plies P m line here at =
    let found = move_at line.0 line.1 replay.positions replay.played line.2 plies m at in
    let same : found.1 ≡ P = same_Some found.1 P (sym found.3 ∙ here) in
    let one : plies + 1 ≡ suc plies = omega arith in
    rw one (rw (← same) found.5)

-- the plies up to one and that one
up_to : {A : Type 0} (xs : List A) (i : ℕ) (x : A) → slice_get xs i ≡ Some x
    → take (i + 1) xs ≡ take i xs ++ x ∷ []
up_to [] i x at = let none : None ≡ Some x = at in absurd cc
up_to (y ∷ xs) zero x at = let same : y ≡ x = cc in rw same refl
up_to (y ∷ xs) (suc i) x at = let one : suc i + 1 ≡ suc (i + 1) = omega arith in
    rw one (ap (λ zs. y ∷ zs) (up_to xs i x at))

flat_more : (codes : List PlyCode) (code : PlyCode)
    → flat_map code_bytes (codes ++ code ∷ []) ≡ flat_map code_bytes codes ++ code_bytes code
flat_more codes code = flat_map-append code_bytes codes (code ∷ [])
    ∙ ap (λ (bytes : List ℕ). flat_map code_bytes codes ++ bytes) (flat_map-cons code_bytes code [])

pub put_begins : (start : State) (known : Type 0) (old : List ℕ)
    → HasPutPlies start [] start known old old
put_begins start known old = record {
  codes = [];
  whole = λ _ moves more are. are;
  put = sym (append-nil old);
}

pub put_more : {start here : State} {played : List Move} {known next : Type 0}
    {old mid new : List ℕ} (m : Move) (code : PlyCode) → HasPutPlies start played here known old mid
    → known → (next → IsCode here m code) → new ≡ mid ++ code_bytes code
    → HasPutPlies start (played ++ m ∷ []) (after here m) next old new
put_more {played = played} {old = old} m code so_far so is put = record {
  codes = so_far.codes ++ code ∷ [];
  whole = λ given moves more are. rw (append_assoc so_far.codes (code ∷ []) more)
      (rw (append_assoc played (m ∷ []) moves) (so_far.whole so (m ∷ moves) (code ∷ more) (
        code,
        more,
        refl,
        is given,
        are,
      )));
  put = put ∙ ap (λ (bytes : List ℕ). bytes ++ code_bytes code) so_far.put
      ∙ append_assoc old (flat_map code_bytes so_far.codes) (code_bytes code)
      ∙ ap (λ (bytes : List ℕ). old ++ bytes) (sym (flat_more so_far.codes code));
}

-- the bytes grew by the codes of the moves
abbrev pub PutsPlies : State → List Move → List ℕ → List ℕ → Type 0
PutsPlies start played old new = (codes : List PlyCode) × AreCodes start played codes
    × (new ≡ old ++ flat_map code_bytes codes)

pub put_ends : {start here : State} {played : List Move} {known : Type 0} {old new : List ℕ}
    → HasPutPlies start played here known old new → known → PutsPlies start played old new
put_ends {played = played} so_far so = (
  so_far.codes,
  rw (← (append-nil so_far.codes)) (rw (← (append-nil played)) (so_far.whole so [] [] refl)),
  so_far.put,
)

pub put_kept : {start here : State} {played : List Move} {known : Type 0} {mid new : List ℕ}
    (old : List ℕ) → HasPutPlies start played here known mid new
    → (some : List ℕ) × (mid ≡ old ++ some) → (some : List ℕ) × (new ≡ old ++ some)
put_kept old so_far (some, put) = (
  some ++ flat_map code_bytes so_far.codes,
  so_far.put ∙ ap (λ (bytes : List ℕ). bytes ++ flat_map code_bytes so_far.codes) put
      ∙ append_assoc old some (flat_map code_bytes so_far.codes),
)

-- ---- the plies of a replay

-- the marks are known of each of its positions
pub marks_known : (replay : Replay) (plies count : ℕ) (P : State) (check stuck : Bool)
    → IsLinePlayed replay → count ≡ length replay.played → slice_get replay.positions plies ≡ Some P
    → ((IsTrue (ltb plies count) → HasMove P) → AreMarks P check stuck) → AreMarks P check stuck
marks_known replay plies count P check stuck line all here marks =
    marks (λ goes_on. movable replay plies P line (grind (arith, nat_tests)) here)

pub put_another : (replay : Replay) (plies count : ℕ) (P Q : State) (m : Move) (check stuck : Bool)
    (old mid bytes new : List ℕ) → IsLinePlayed replay → count ≡ length replay.played
    → HasPutReplayed replay plies old mid → slice_get replay.played plies ≡ Some m
    → slice_get replay.positions plies ≡ Some P → slice_get replay.positions (plies + 1) ≡ Some Q
    → ((IsTrue (ltb (plies + 1) count) → HasMove Q) → AreMarks Q check stuck)
    → (code : PlyCode) × (AreMarks (after P m) check stuck → IsCode P m code)
    × (bytes ≡ code_bytes code) → new ≡ mid ++ bytes → HasPutReplayed replay (plies + 1) old new
put_another replay plies count P Q m check stuck old mid bytes new line all so_far played here next
    marks code put =
    let after_is = next_is replay plies P m line here played in
    let before = same_Some so_far.here P (sym so_far.there ∙ here) in
    let own = marks_known replay (plies + 1) count Q check stuck line all next marks in
    let known : AreMarks (after P m) check stuck =
    subst (λ (R : State). AreMarks R check stuck) (same_Some Q (after P m) (sym next ∙ after_is))
    own in
    record {
      start = so_far.start;
      first = so_far.first;
      here = after P m;
      there = after_is;
      put = rw (up_to replay.played plies m played) (put_more m code.0 (subst (λ (R : State).
          HasPutPlies so_far.start (take plies replay.played) R (Unit {0}) old mid) before
          so_far.put) tt (λ _. code.1 known) (put ∙ ap (λ (own : List ℕ). mid ++ own) code.2));
    }

pub replay_put : (replay : Replay) (plies : ℕ) (start : State) (old new : List ℕ)
    → length replay.played ≤ plies → slice_get replay.positions 0 ≡ Some start
    → HasPutReplayed replay plies old new → PutsPlies start replay.played old new
replay_put replay plies start old new all first so_far =
    subst (λ (P : State). PutsPlies P replay.played old new)
    (same_Some so_far.start start (sym so_far.first ∙ first))
    (subst (λ ms. PutsPlies so_far.start ms old new) (take_all plies replay.played all)
    (put_ends so_far.put tt))

-- ---- the plies of a line that is played

pub played_begins : (start : State) (walk : MainWalk) (items : List Item) (count : ℕ)
    (old : List ℕ) → walk.position ≡ start → walk.plies ≡ 0 → walk.depth ≡ 0
    → count ≡ length (main_words items 0)
    → HasPutPlayed start (main_words items 0) count walk items old old
played_begins start walk items count old position plies depth all = record {
  positions = [];
  played = [];
  walked = walk_begins start walk items position plies depth;
  counted = omega (arith, all, plies, ap (λ d. length (main_words items d)) depth);
  put = rw position (put_begins start (IsTrue (ltb walk.plies count) → HasMove start) old);
}

module _ {start : State} {words : List (List ℕ)} {count : ℕ} {before later : MainWalk}
    {item : Item} {items : List Item} {old mid : List ℕ}
    (so_far : HasPutPlayed start words count before (item ∷ items) old mid) where
  -- an element that is no move of the main line
  pub played_past : (answer : Option Move) → ((m : Move) → answer ≡ Some m → ⊥)
      → HasStepped before later item answer → HasPutPlayed start words count later items old mid
  played_past (Some m) none stepped = absurd (none m refl)
  played_past None none passed = record {
    positions = so_far.positions;
    played = so_far.played;
    walked = walked_past so_far.walked passed;
    counted = rw (passed.plies, ← (passed.words items)) so_far.counted;
    put = rw (passed.position, passed.plies) so_far.put;
  }

  -- a move of it
  pub played_on : {check stuck : Bool} {bytes new : List ℕ} (P : State) (m : Move)
      (answer : Option Move) → P ≡ before.position → answer ≡ Some m
      → HasStepped before later item answer
      → ((IsTrue (ltb later.plies count) → HasMove later.position)
      → AreMarks later.position check stuck)
      → (code : PlyCode) × (AreMarks (after P m) check stuck → IsCode P m code)
      × (bytes ≡ code_bytes code) → new ≡ mid ++ bytes
      → HasPutPlayed start words count later items old new
  played_on {check} {stuck} {bytes} {new} P m answer same is stepped marks code put =
      let move : HasPlayed before later item m = subst (HasStepped before later item) is stepped in
      let coded : AreMarks later.position check stuck → IsCode before.position m code.0 =
      rw (move.position, ← same) code.1 in
      record {
        positions = so_far.positions ++ before.position ∷ [];
        played = so_far.played ++ m ∷ [];
        walked = walked_by m so_far.walked move;
        counted = omega (arith, so_far.counted, ap length (move.words items), move.plies);
        put = subst (λ (Q : State). HasPutPlies start (so_far.played ++ m ∷ []) Q
            (IsTrue (ltb later.plies count) → HasMove later.position) old new) (sym move.position)
            (put_more m code.0 so_far.put
            (λ _. (m.from, m.to, (m.promote, m.castle, move.named.named.legal)))
            (λ known. coded (marks known)) (put ∙ ap (λ (own : List ℕ). mid ++ own) code.2));
      }

pub codes_count : (P : State) (moves : List Move) (codes : List PlyCode) → AreCodes P moves codes
    → length codes ≡ length moves
codes_count P [] codes are = ap length are
codes_count P (m ∷ moves) codes (c, more, is, is_code, others) =
    ap length is ∙ ap suc (codes_count (after P m) moves more others)

pub codes_fit : (start : State) (words : List (List ℕ)) (positions : List State)
    (played : List Move) (codes : List PlyCode) → IsMainLine start words positions played
    → AreCodes start played codes → AllByRecursion FitsCode codes
codes_fit start [] positions played codes line are =
    let none : codes ≡ [] = subst (λ (moves : List Move). AreCodes start moves codes) line.1 are in
    subst (AllByRecursion FitsCode) (sym none) tt
codes_fit start (word ∷ words) positions played codes (
  m,
  later,
  others,
  positions_is,
  played_is,
  named,
  line,
) are =
    let own : AreCodes start (m ∷ others) codes =
    subst (λ (moves : List Move). AreCodes start moves codes) played_is are in
    subst (AllByRecursion FitsCode) (sym own.2) (
      code_of_a_move_fits start m own.0 named.named.legal.pseudo_legal own.3,
      codes_fit (after start m) words later others own.1 line own.4,
    )

-- ---- the record

pub front_put : (old sized numbered new size number offset : List ℕ) → sized ≡ old ++ size
    → numbered ≡ sized ++ number → new ≡ numbered ++ offset
    → new ≡ old ++ (size ++ (number ++ offset))
front_put old sized numbered new size number offset first second third =
    rw (third, second, first) (simp append_assoc refl)

pub body_length : (packed : PackedGame) → length (body_bytes packed)
    ≡ body_size packed.name packed.tags (length packed.plies)
body_length packed =
    omega (
      arith,
      length-append (name_bytes packed.name) (tail_bytes packed),
      name_length packed.name,
      length-append (flat_map tag_bytes packed.tags) (flat_map code_bytes packed.plies),
      tags_length packed.tags,
      plies_size packed.plies,
    )

-- what is kept of a game has a spelling, where its size is one
pub record_fits : (packed : PackedGame) (start : State) (words : List (List ℕ))
    (positions : List State) (played : List Move)
    → packed.number < 2 ^ 64 → packed.offset < 2 ^ 64 → IsResult packed.result
    → IsMainLine start words positions played → AreCodes start played packed.plies
    → body_size packed.name packed.tags (length packed.plies) ≤ largest_body
    → IsStrictlySortedBy (slice_cmp nat_cmp) (tag_names packed.tags)
    → is_origin packed.number packed.offset packed.name ≡ true → FitsRecord packed
record_fits packed start words positions played number offset ends line codes small ordered origin =
    record {
      number = number;
      offset = offset;
      name = name_fits packed.name (omega arith);
      count = omega (arith, count_below packed.tags);
      tags = tags_fit packed.tags (omega arith);
      ordered = ordered;
      result = ends;
      plies = codes_fit start words positions played packed.plies line codes;
      size = omega (arith, body_length packed);
      origin = origin;
    }

regroup : (o s n f h a t c : List ℕ) → ((((o ++ (s ++ (n ++ f))) ++ h) ++ a) ++ t) ++ c
    ≡ o ++ (s ++ (n ++ (f ++ (h ++ (a ++ (t ++ c))))))
regroup o s n f h a t c = simp append_assoc refl

-- the record of a replayed game with these marks and codes
abbrev pub record_with : Option (List ℕ) → ℕ → ℕ → GameText → Bool → Bool → List PlyCode
    → PackedGame
record_with name number offset game check stuck codes =
    record {
      number = number;
      offset = offset;
      name = name;
      tags = game.tags;
      result = game.result;
      check = check;
      stuck = stuck;
      plies = codes;
    }

pub is_record_with : (name : Option (List ℕ)) (number offset : ℕ) (game : GameText)
    (replay : Replay) (start : State) (check stuck : Bool) (codes : List PlyCode)
    → slice_get replay.positions 0 ≡ Some start → AreMarks start check stuck
    → AreCodes start replay.played codes → IsPacked name number offset game replay
    (record_with name number offset game check stuck codes)
is_record_with name number offset game replay start check stuck codes first marks are =
    record {
      name = refl;
      number = refl;
      offset = refl;
      tags = refl;
      result = refl;
      start = start;
      first = first;
      marks = marks;
      plies = are;
    }

-- what was written, field by field, is the record of the game
pub written : (origin : GameOrigin) (game : GameText) (replay : Replay) (start : State) (count : ℕ)
    (check stuck : Bool) (old mid new : List ℕ) → IsLinePlayed replay
    → count ≡ length replay.played → slice_get replay.positions 0 ≡ Some start
    → ((IsTrue (ltb 0 count) → HasMove start) → AreMarks start check stuck)
    → PutsFields origin game count check stuck old mid → PutsPlies start replay.played mid new
    → (packed : PackedGame)
    × IsPacked (name_of origin) origin.number origin.offset game replay packed
    × FitsRecord packed × (new ≡ old ++ record_bytes packed)
written origin game replay start count check stuck old mid new line all first marks fields (
  codes,
  are,
  put,
) =
    let name = name_of origin in
    let packed : PackedGame =
    record_with name origin.number origin.offset game check stuck codes in
    let is =
    is_record_with name origin.number origin.offset game replay start check stuck codes first
    (marks_known replay 0 count start check stuck line all first marks) are in
    let begins =
    same_Some start line.0 (sym first
    ∙ line_head line.0 line.1 replay.positions replay.played line.2) in
    let own : AreCodes line.0 replay.played codes =
    subst (λ (P : State). AreCodes P replay.played codes) begins are in
    let same : body_size name game.tags (length codes) ≡ body_size name game.tags count =
    ap (body_size name game.tags) (codes_count start replay.played codes are ∙ sym all) in
    let size : length (body_bytes packed) ≡ body_size name game.tags count =
    body_length packed ∙ same in
    let fits =
    record_fits packed line.0 line.1 replay.positions replay.played fields.number fields.offset
    fields.ends line.2 own (rw same fields.within) fields.ordered fields.known in (
      packed,
      is,
      fits,
      rw (put, fields.put, fields.head, fields.front, ← size)
          (regroup old (to_be_bytes w32 (length (body_bytes packed)))
          (to_be_bytes w64 origin.number) (to_be_bytes w64 origin.offset)
          (to_be_bytes w32 (head_of packed)) (name_bytes name) (flat_map tag_bytes game.tags)
          (flat_map code_bytes codes)),
    )

-- the whole line is played, and what was written is the record of its game
pub played_record : (origin : GameOrigin) (game : GameText) (start : State) (items : List Item)
    (walk : MainWalk) (count : ℕ) (check stuck : Bool) (old mid new : List ℕ)
    → IsStart (tag_in fen_tag game.tags) start → items ≡ game.elements
    → ((IsTrue (ltb 0 count) → HasMove start) → AreMarks start check stuck)
    → PutsFields origin game count check stuck old mid
    → HasPutPlayed start (main_words items 0) count walk [] mid new
    → (bytes : List ℕ)
    × (own : IsRecordOf (name_of origin) origin.number origin.offset game bytes)
    × FitsRecord own.packed × (new ≡ old ++ bytes)
played_record origin game start items walk count check stuck old mid new is_start same marks fields
    so_far =
    let replay : Replay = record {
      positions = so_far.positions ++ walk.position ∷ [];
      played = so_far.played;
      turns = [];
    } in
    let line : IsMainLine start (main_words items 0) replay.positions replay.played =
    walk_ends so_far.walked in
    let all : count ≡ walk.plies = omega (arith, so_far.counted) in
    let plies =
    put_ends so_far.put (λ goes_on. absurd (let below : walk.plies < count =
    grind (arith, nat_tests) in omega (arith, all, below))) in
    let (packed, is_packed, fits, put) =
    written origin game replay start count check stuck old mid new (start, main_words items 0, line)
    (all ∙ sym so_far.walked.count)
    (line_head start (main_words items 0) replay.positions replay.played line) marks fields plies
    in
    let own : IsRecordOf (name_of origin) origin.number origin.offset game (record_bytes packed) =
    record {
      replay = replay;
      is_replay = record {
        start = start;
        is_start = is_start;
        line = subst (λ own. IsMainLine start (main_words own 0) replay.positions replay.played)
            same line;
        turns = refl;
      };
      packed = packed;
      is_packed = is_packed;
      spells = refl;
    } in
    (record_bytes packed, own, fits, put)
