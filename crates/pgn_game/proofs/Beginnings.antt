-- The first plies of a main line are those of each replay.
use Rattle.std.specs.Prelude.{◌⊎◌, Option, Some, None}
use Rattle.pgn_game.proofs.Common.{◌≡◌, ℕ, ◌<◌, ◌≤◌, zero, suc, List, [], ◌∷◌, ◌++◌, length, sym}
use Rattle.pgn_game.proofs.Common.{ap, ◌∙◌, subst, inl, inr, arith, slice_get, State, after}
use Rattle.pgn_game.proofs.Common.{IsLegal, IsOnlyNamed, Move, Item, main_words, IsMainLine, Replay}
use Rattle.pgn_game.specs.Public.Beginnings.{IsGameBeginning}
use Rattle.pgn_game.specs.Public.Replays.{IsSomeReplay}
use Rattle.pgn_game.specs.Public.Laws.{GameHasOneBeginning}
use Rattle.pgn_game.proofs.OneReplay.{line_head, one_move, one_start, move_at, same_replay}

-- one line goes on where another ends
pub joined : (now here : State) (first more : List (List ℕ)) (before later : List State)
    (played moves : List Move)
    → IsMainLine now first (before ++ here ∷ []) played → IsMainLine here more later moves
    → IsMainLine now (first ++ more) (before ++ later) (played ++ moves)
joined now here [] more [] later played moves line rest =
    let same : here ≡ now = cc (line.0) in
    rw line.1 (subst (λ s. IsMainLine s more later moves) same rest)
joined now here [] more (b ∷ before) later played moves line rest =
    let long : length ((b ∷ before) ++ here ∷ []) ≡ 1 = ap length line.0 in
    absurd (two_or_more before here long)
  where
    two_or_more : (before : List State) (here : State) → suc (length (before ++ here ∷ [])) ≡ 1 → ⊥
    two_or_more [] here long = absurd (omega (arith, long))
    two_or_more (b ∷ before) here long = absurd (omega (arith, long))
joined now here (word ∷ first) more [] later played moves (
  m,
  ps,
  ms,
  ps_is,
  ms_is,
  named,
  line,
) rest =
    let none : ps ≡ [] = cc (ps_is) in
    let head : slice_get ps 0 ≡ Some (after now m) = line_head (after now m) first ps ms line in
    let empty : slice_get ps 0 ≡ None = ap (λ xs. slice_get xs 0) none in
    absurd (cc (head, empty))
joined now here (word ∷ first) more (b ∷ before) later played moves (
  m,
  ps,
  ms,
  ps_is,
  ms_is,
  named,
  line,
) rest =
    let head : b ≡ now = cc (ps_is) in
    let tail : before ++ here ∷ [] ≡ ps = cc (ps_is) in (
      m,
      before ++ later,
      ms ++ moves,
      ap (λ x. x ∷ (before ++ later)) head,
      ap (λ x. x ++ moves) ms_is,
      named,
      joined (after now m) here first more before later ms moves
          (subst (λ xs. IsMainLine (after now m) first xs ms) (sym tail) line) rest,
    )

-- the same move and the same position before it stand at a place
abbrev pub AgreeAt : List State → List Move → List State → List Move → ℕ → Type 0
AgreeAt positions played others moves i =
    (slice_get positions i ≡ slice_get others i) × (slice_get played i ≡ slice_get moves i)

agree : (now : State) (first rest : List (List ℕ)) (positions others : List State)
    (played moves : List Move) (most i : ℕ)
    → IsMainLine now first positions played → IsMainLine now (first ++ rest) others moves
    → (rest ≡ []) ⊎ (most ≤ length played) → i < most → AgreeAt positions played others moves i
agree now [] rest positions others played moves most i line whole (inl none) less =
    let own : IsMainLine now [] others moves =
    subst (λ ws. IsMainLine now ws others moves) none whole in
    (ap (λ ps. slice_get ps i) (line.0 ∙ sym own.0), ap (λ ms. slice_get ms i) (line.1 ∙ sym own.1))
agree now [] rest positions others played moves most i line whole (inr far) less =
    let none : length played ≡ 0 = ap length line.1 in
    absurd (omega (arith, far, none, less))
agree now (word ∷ first) rest positions others played moves most zero (
  m,
  ps,
  ms,
  ps_is,
  ms_is,
  named,
  line,
) (n, qs, ns, qs_is, ns_is, named2, whole) far less =
    let same : m ≡ n = one_move now word m n named named2 in (
      ap (λ x. slice_get x 0) ps_is ∙ sym (ap (λ x. slice_get x 0) qs_is),
      ap (λ x. slice_get x 0) ms_is ∙ ap (λ k. Some k) same ∙ sym (ap (λ x. slice_get x 0) ns_is),
    )
agree now (word ∷ first) rest positions others played moves zero (suc i) line whole far less =
    absurd (omega (arith, less))
agree now (word ∷ first) rest positions others played moves (suc most) (suc i) (
  m,
  ps,
  ms,
  ps_is,
  ms_is,
  named,
  line,
) (n, qs, ns, qs_is, ns_is, named2, whole) far less =
    let same : n ≡ m = one_move now word n m named2 named in
    let count : length played ≡ suc (length ms) = ap length ms_is in
    let farther : (rest ≡ []) ⊎ (most ≤ length ms) =
    elim far [ inl none ↦ inl none | inr long ↦ inr (omega (arith, long, count)) ] in
    let there =
    agree (after now m) first rest ps qs ms ns most i line
    (subst (λ k. IsMainLine (after now k) (first ++ rest) qs ns) same whole) farther
    (omega (arith, less)) in (
      ap (λ x. slice_get x (suc i)) ps_is ∙ there.0 ∙ sym (ap (λ x. slice_get x (suc i)) qs_is),
      ap (λ x. slice_get x (suc i)) ms_is ∙ there.1 ∙ sym (ap (λ x. slice_get x (suc i)) ns_is),
    )

-- before so many plies a beginning is what each replay of the game is
pub beginning_agrees : (fen : Option (List ℕ)) (items : List Item) (most : ℕ)
    (beginning replay : Replay) → IsGameBeginning fen items most beginning
    → IsSomeReplay fen items replay → (i : ℕ) → i < most
    → AgreeAt beginning.positions beginning.played replay.positions replay.played i
beginning_agrees fen items most beginning replay is (lines, whole) i less =
    let start : whole.start ≡ is.start =
    one_start fen whole.start is.start whole.is_start is.is_start in
    let line : IsMainLine is.start (main_words items 0) replay.positions replay.played =
    subst (λ s. IsMainLine s (main_words items 0) replay.positions replay.played) start whole.line
    in
    agree is.start is.line.first is.line.rest beginning.positions replay.positions beginning.played
    replay.played most i is.line.line
    (subst (λ ws. IsMainLine is.start ws replay.positions replay.played) is.line.parted line)
    is.line.far less

-- the words that are left end a line of so many plies at most: there are none, or the line has as
-- many
abbrev pub Ends : List (List ℕ) → List Move → ℕ → Type 0
Ends rest played most = (length played ≤ most) × ((rest ≡ []) ⊎ (most ≤ length played))

-- what has an end is not empty
some_left : (word : List ℕ) (words rest : List (List ℕ)) (most : ℕ) (played : List Move)
    → word ∷ words ≡ rest → Ends rest [] most → length played ≤ most → (m : Move) (more : List Move)
    → played ≡ m ∷ more → ⊥
some_left word words rest most played is (few, inl none) short m more long = absurd (cc (is, none))
some_left word words rest most played is (few, inr far) short m more long =
    let count : length played ≡ suc (length more) = ap length long in
    absurd (omega (arith, far, short, count))

same_line : (now : State) (first rest words left : List (List ℕ)) (positions others : List State)
    (played moves : List Move) (most : ℕ)
    → IsMainLine now first positions played → IsMainLine now words others moves
    → first ++ rest ≡ words ++ left → Ends rest played most → Ends left moves most
    → (positions ≡ others) × (played ≡ moves)
same_line now [] rest [] left positions others played moves most line other same ends ends2 =
    (line.0 ∙ sym other.0, line.1 ∙ sym other.1)
same_line now [] rest (word ∷ words) left positions others played moves most line (
  n,
  qs,
  ns,
  qs_is,
  ns_is,
  named,
  other,
) same ends ends2 =
    absurd (some_left word (words
    ++ left) rest most moves (sym same) (subst (λ ms. Ends rest ms most) line.1 ends) ends2.0 n
    ns ns_is)
same_line now (word ∷ first) rest [] left positions others played moves most (
  m,
  ps,
  ms,
  ps_is,
  ms_is,
  named,
  line,
) other same ends ends2 =
    absurd (some_left word (first
    ++ rest) left most played same (subst (λ ms. Ends left ms most) other.1 ends2) ends.0 m ms
    ms_is)
same_line now (word ∷ first) rest (word2 ∷ words) left positions others played moves zero (
  m,
  ps,
  ms,
  ps_is,
  ms_is,
  named,
  line,
) other same ends ends2 =
    let count : length played ≡ suc (length ms) = ap length ms_is in
    absurd (omega (arith, ends.0, count))
same_line now (word ∷ first) rest (word2 ∷ words) left positions others played moves (suc most) (
  m,
  ps,
  ms,
  ps_is,
  ms_is,
  named,
  line,
) (n, qs, ns, qs_is, ns_is, named2, other) same ends ends2 =
    let head : word2 ≡ word = cc (same) in
    let tail : first ++ rest ≡ words ++ left = cc (same) in
    let one : n ≡ m = one_move now word n m (subst (λ w. IsOnlyNamed now w n) head named2) named in
    let there =
    same_line (after now m) first rest words left ps qs ms ns most line
    (subst (λ k. IsMainLine (after now k) words qs ns) one other) tail
    (ends_before rest ms played m most ms_is ends)
    (ends_before left ns moves n most ns_is ends2) in (
      ps_is ∙ ap (λ xs. now ∷ xs) there.0 ∙ sym qs_is,
      ms_is ∙ ap (λ xs. m ∷ xs) there.1 ∙ ap (λ k. k ∷ ns) (sym one) ∙ sym ns_is,
    )
  where
    ends_before : (left : List (List ℕ)) (more moves : List Move) (move : Move) (bound : ℕ)
        → moves ≡ move ∷ more → Ends left moves (suc bound) → Ends left more bound
    ends_before left more moves move bound is (few, end) =
        let count : length moves ≡ suc (length more) = ap length is in (
          omega (arith, few, count),
          elim end [ inl none ↦ inl none | inr far ↦ inr (omega (arith, far, count)) ],
        )

-- of so many plies a game has one beginning
pub one_beginning : GameHasOneBeginning
one_beginning fen items most beginning other is is2 =
    let start : is2.start ≡ is.start = one_start fen is2.start is.start is2.is_start is.is_start in
    let line2 : IsMainLine is.start is2.line.first other.positions other.played =
    subst (λ s. IsMainLine s is2.line.first other.positions other.played) start is2.line.line in
    let same =
    same_line is.start is.line.first is.line.rest is2.line.first is2.line.rest beginning.positions
    other.positions beginning.played other.played most
    is.line.line line2 (sym is.line.parted ∙ is2.line.parted) (
      is.line.few,
      is.line.far,
    ) (is2.line.few, is2.line.far) in
    same_replay beginning other same.0 same.1 (is.line.turns ∙ sym is2.line.turns)

-- each of its moves is legal
pub beginning_legal : (fen : Option (List ℕ)) (items : List Item) (most : ℕ) (beginning : Replay)
    → IsGameBeginning fen items most beginning
    → (i : ℕ) (P : State) (m : Move) → slice_get beginning.positions i ≡ Some P
    → slice_get beginning.played i ≡ Some m → IsLegal P m
beginning_legal fen items most beginning is i P m here at =
    let there =
    move_at is.start is.line.first beginning.positions beginning.played is.line.line i m at in
    let same : there.1 ≡ P = cc (there.3, here) in
    subst (λ s. IsLegal s m) same there.4.named.legal
