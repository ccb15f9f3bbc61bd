-- A tag is found among those of a record.
use Rattle.std.proofs.Common.{◌≡◌, ℕ, zero, suc, ◌+◌, ◌/◌, ◌<◌, Bool, true, false, if◌then◌else◌}
use Rattle.std.proofs.Common.{List, [], ◌∷◌, ◌++◌, length, drop, Some, None, Ok, Err, refl, sym, ap}
use Rattle.std.proofs.Common.{◌∙◌, append_assoc, arith}
use Rattle.pgn_game.proofs.Common.{bytes_eq, flat_map, AllByRecursion, flat_map-cons, tag_in}
use Rattle.pgn_game.proofs.Common.{RecordError, code_bytes, PackedGame, Tag, FitsTag, FitsRecord}
use Rattle.pgn_game.proofs.Common.{with_length, tag_bytes, RawRecord, raw_of, tag_at}
use Rattle.pgn_game.proofs.HeadFacts.{head_shows}
use Rattle.pgn_game.proofs.RecordFields.{ok_is, text_again}

-- none of the first tags has the wanted name, and the bytes of the others are left
pub record IsSought (wanted : List ℕ) (game : PackedGame) (i : ℕ) (rest : List ℕ) : Type 0 where
  pub left : rest ≡ flat_map tag_bytes (drop i game.tags) ++ flat_map code_bytes game.plies
  pub later : tag_in wanted game.tags ≡ tag_in wanted (drop i game.tags)

-- the same of whichever game the record shows
abbrev pub AreSought : List ℕ → RawRecord → ℕ → List ℕ → Type 0
AreSought wanted raw i rest = (game : PackedGame) → FitsRecord game → raw ≡ raw_of game
    → IsSought wanted game i rest

pub tag_again : (t : Tag) (rest : List ℕ) → FitsTag t
    → tag_at (tag_bytes t ++ rest) ≡ Ok ((t.0, t.1), rest)
tag_again t rest fits =
    ap tag_at (append_assoc (with_length t.0) (with_length t.1) rest)
    ∙ rw (
      text_again t.0 (with_length t.1 ++ rest) fits.name,
      text_again t.1 rest fits.contents,
    ) refl

pub tag_here : (tags : List Tag) (i : ℕ) → i < length tags → AllByRecursion FitsTag tags
    → (t : Tag) × (drop i tags ≡ t ∷ drop (i + 1) tags) × FitsTag t
tag_here [] i lt fits = absurd (omega arith)
tag_here (t ∷ tags) zero lt fits = (t, refl, fits.0)
tag_here (t ∷ tags) (suc i) lt fits = let one : suc i + 1 ≡ suc (i + 1) = omega arith in
    rw one (tag_here tags i (omega arith) fits.1)

-- the tag that is read next
record IsNext (wanted : List ℕ) (game : PackedGame) (i : ℕ) (rest : List ℕ) : Type 0 where
  tag : Tag
  read : tag_at rest
      ≡ Ok (
        (tag.0, tag.1),
        flat_map tag_bytes (drop (i + 1) game.tags)
            ++ flat_map code_bytes game.plies,
      )
  sought : tag_in wanted game.tags
      ≡ (if bytes_eq wanted tag.0 then Some tag.1 else tag_in wanted (drop (i + 1) game.tags))

pub count_is : (raw : RawRecord) (game : PackedGame) → FitsRecord game → raw ≡ raw_of game
    → raw.head / 32 ≡ length game.tags
count_is raw game fits shows = ap (λ (r : RawRecord). r.head / 32) shows
    ∙ (head_shows game fits).count

next_is : (wanted : List ℕ) (raw : RawRecord) (i : ℕ) (rest : List ℕ) (game : PackedGame)
    → i < raw.head / 32 → AreSought wanted raw i rest → FitsRecord game → raw ≡ raw_of game
    → IsNext wanted game i rest
next_is wanted raw i rest game lt all fits shows =
    let so_far = all game fits shows in
    let here = tag_here game.tags i (omega (arith, count_is raw game fits shows)) fits.tags in
    let others = drop (i + 1) game.tags in
    let plies = flat_map code_bytes game.plies in
    let bytes : rest ≡ tag_bytes here.0 ++ (flat_map tag_bytes others ++ plies) =
    so_far.left ∙ ap (λ (ts : List Tag). flat_map tag_bytes ts ++ plies) here.1
    ∙ ap (λ (x : List ℕ). x ++ plies) (flat_map-cons tag_bytes here.0 others)
    ∙ append_assoc (tag_bytes here.0) (flat_map tag_bytes others) plies in
    record {
      tag = here.0;
      read = ap tag_at bytes ∙ tag_again here.0 (flat_map tag_bytes others ++ plies) here.2;
      sought = so_far.later ∙ ap (tag_in wanted) here.1;
    }

-- a tag with the wanted name is the one
pub is_found : (wanted : List ℕ) (raw : RawRecord) (i : ℕ) (rest name contents after : List ℕ)
    → i < raw.head / 32 → AreSought wanted raw i rest
    → tag_at rest ≡ Ok ((name, contents), after) → bytes_eq wanted name ≡ true
    → (game : PackedGame) → FitsRecord game → raw ≡ raw_of game
    → Some contents ≡ tag_in wanted game.tags
is_found wanted raw i rest name contents after lt all read same game fits shows =
    let next = next_is wanted raw i rest game lt all fits shows in
    let both = ok_is ((name, contents), after) _ (sym read ∙ next.read) in
    let own : bytes_eq wanted next.tag.0 ≡ true =
    ap (λ (p : (List ℕ × List ℕ) × List ℕ). bytes_eq wanted p.0.0) (sym both) ∙ same in
    ap (λ (p : (List ℕ × List ℕ) × List ℕ). Some p.0.1) both
    ∙ sym (next.sought
    ∙ ap (λ (b : Bool). if b then Some next.tag.1
    else tag_in wanted (drop (i + 1) game.tags)) own)

-- after another one the search goes on
pub goes_on : (wanted : List ℕ) (raw : RawRecord) (i : ℕ) (rest name contents after : List ℕ)
    → i < raw.head / 32 → AreSought wanted raw i rest
    → tag_at rest ≡ Ok ((name, contents), after) → bytes_eq wanted name ≡ false
    → AreSought wanted raw (i + 1) after
goes_on wanted raw i rest name contents after lt all read other game fits shows =
    let next = next_is wanted raw i rest game lt all fits shows in
    let both = ok_is ((name, contents), after) _ (sym read ∙ next.read) in
    let own : bytes_eq wanted next.tag.0 ≡ false =
    ap (λ (p : (List ℕ × List ℕ) × List ℕ). bytes_eq wanted p.0.0) (sym both) ∙ other in
    record {
      left = ap (λ (p : (List ℕ × List ℕ) × List ℕ). p.1) both;
      later = next.sought
          ∙ ap (λ (b : Bool). if b then Some next.tag.1
          else tag_in wanted (drop (i + 1) game.tags)) own;
    }

pub no_error : {A : Type 0} (e : RecordError) (x : A) → Err e ≡ Ok x → ⊥
no_error e x is = absurd cc

-- each tag of a record is read
pub never_cut : (wanted : List ℕ) (raw : RawRecord) (i : ℕ) (rest : List ℕ) (e : RecordError)
    → i < raw.head / 32 → AreSought wanted raw i rest → tag_at rest ≡ Err e
    → (game : PackedGame) → FitsRecord game → raw ≡ raw_of game → None ≡ tag_in wanted game.tags
never_cut wanted raw i rest e lt all read game fits shows =
    let next = next_is wanted raw i rest game lt all fits shows in
    absurd (no_error e _ (sym read ∙ next.read))
