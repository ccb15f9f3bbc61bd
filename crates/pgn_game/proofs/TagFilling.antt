-- The tags of a record are put into a game, one after another.
use Rattle.std.proofs.Common.{◌≡◌, ℕ, zero, suc, ◌+◌, ◌/◌, ◌%◌, ◌<◌, true, false}
use Rattle.std.proofs.Common.{if◌then◌else◌}
use Rattle.std.proofs.Common.{List, [], ◌∷◌, ◌++◌, length, drop, Option, Some, None, Ok, Err, refl}
use Rattle.std.proofs.Common.{sym}
use Rattle.std.proofs.Common.{ap, ◌∙◌, subst, append_assoc, arith, is_some}
use Rattle.std.specs.Option.{option_or}
use Rattle.std.specs.List.{list_all}
use Rattle.std.specs.Prelude.{IsTrue}
use Rattle.pgn_game.proofs.Common.{bytes_eq, bytes_eq-Decides, flat_map, flat_map-cons, tag_in}
use Rattle.pgn_game.proofs.Common.{RecordError, code_bytes, PackedGame, Tag, FitsRecord}
use Rattle.pgn_game.proofs.Common.{tag_bytes, RawRecord, raw_of, tag_at}
use Rattle.pgn_text.specs.Public.Bytes.{is_name_byte}
use Rattle.pgn_text.specs.Public.GameTexts.{GameText, IsRetagged}
use Rattle.pgn_text.specs.Public.Strings.{IsContents}
use Rattle.pgn_game.specs.Private.RecordHeads.{HasFilled, HaveFilled, IsHeadOf}
use Rattle.pgn_game.specs.Public.PackedGames.{numbered_result}
use Rattle.pgn_game.proofs.HeadFacts.{head_shows}
use Rattle.pgn_game.proofs.RecordFields.{ok_is}
use Rattle.pgn_game.proofs.TagSearch.{count_is, no_error, tag_again, tag_here}

-- ---- reading

-- the tag that is read next
record IsNext (game : PackedGame) (i : ℕ) (rest : List ℕ) : Type 0 where
  tag : Tag
  here : drop i game.tags ≡ tag ∷ drop (i + 1) game.tags
  read : tag_at rest
      ≡ Ok (
        (tag.0, tag.1),
        flat_map tag_bytes (drop (i + 1) game.tags)
            ++ flat_map code_bytes game.plies,
      )

next_is : (raw : RawRecord) (i : ℕ) (rest : List ℕ) (head : GameText) (game : PackedGame)
    → i < raw.head / 32 → HasFilled game i rest head → FitsRecord game → raw ≡ raw_of game
    → IsNext game i rest
next_is raw i rest head game lt so_far fits shows =
    let here = tag_here game.tags i (omega (arith, count_is raw game fits shows)) fits.tags in
    let others = drop (i + 1) game.tags in
    let plies = flat_map code_bytes game.plies in
    let bytes : rest ≡ tag_bytes here.0 ++ (flat_map tag_bytes others ++ plies) =
    so_far.left ∙ ap (λ (ts : List Tag). flat_map tag_bytes ts ++ plies) here.1
    ∙ ap (λ (x : List ℕ). x ++ plies) (flat_map-cons tag_bytes here.0 others)
    ∙ append_assoc (tag_bytes here.0) (flat_map tag_bytes others) plies in
    record {
      tag = here.0;
      here = here.1;
      read = ap tag_at bytes ∙ tag_again here.0 (flat_map tag_bytes others ++ plies) here.2;
    }

-- ---- names

-- what is there hides what comes after
hides : (o p q : Option (List ℕ)) → is_some o ≡ true → option_or o p ≡ option_or o q
hides None p q some = absurd cc
hides (Some x) p q some = refl

or_none : (o : Option (List ℕ)) → option_or o None ≡ o
or_none None = refl
or_none (Some x) = refl

absent : (o : Option (List ℕ)) → is_some o ≡ false → o ≡ None
absent None none = refl
absent (Some x) none = absurd cc

-- a tag whose name is there already changes nothing
passed : (tags more : List Tag) (tag : Tag) → is_some (tag_in tag.0 tags) ≡ true
    → (wanted : List ℕ)
    → option_or (tag_in wanted tags) (tag_in wanted more)
    ≡ option_or (tag_in wanted tags) (tag_in wanted (tag ∷ more))
passed tags more tag there wanted =
    elim (bytes_eq wanted tag.0) as (λ b. bytes_eq wanted tag.0 ≡ b
    → option_or (tag_in wanted tags) (tag_in wanted more)
    ≡ option_or (tag_in wanted tags) (if b then Some tag.1 else tag_in wanted more)) [
      | true ↦ λ e.
          let same = (bytes_eq-Decides wanted tag.0).0 e in
          hides (tag_in wanted tags) (tag_in wanted more) (Some tag.1)
          (ap (λ n. is_some (tag_in n tags)) same ∙ there)
      | false ↦ λ e. refl
    ] refl

-- a tag whose name is not there is put in
put : (tags own more : List Tag) (tag : Tag) → tag_in tag.0 tags ≡ None
    → ((wanted : List ℕ) → tag_in wanted own
    ≡ (if bytes_eq tag.0 wanted then Some tag.1 else tag_in wanted tags))
    → (wanted : List ℕ)
    → option_or (tag_in wanted own) (tag_in wanted more)
    ≡ option_or (tag_in wanted tags) (tag_in wanted (tag ∷ more))
put tags own more tag none has wanted =
    ap (λ o. option_or o (tag_in wanted more)) (has wanted)
    ∙ elim (bytes_eq wanted tag.0) as (λ b. bytes_eq wanted tag.0 ≡ b
    → option_or (if bytes_eq tag.0 wanted then Some tag.1 else tag_in wanted tags)
    (tag_in wanted more)
    ≡ option_or (tag_in wanted tags) (if b then Some tag.1 else tag_in wanted more)) [
      | true ↦ λ e.
          let same = (bytes_eq-Decides wanted tag.0).0 e in
          ap (λ b. option_or (if b then Some tag.1 else tag_in wanted tags) (tag_in wanted more))
          ((bytes_eq-Decides tag.0 wanted).1 (sym same))
          ∙ sym (ap (λ o. option_or o (Some tag.1)) (ap (λ n. tag_in n tags) same ∙ none))
      | false ↦ λ e.
          ap (λ b. option_or (if b then Some tag.1 else tag_in wanted tags) (tag_in wanted more))
          (elim (bytes_eq tag.0 wanted) as (λ b. bytes_eq tag.0 wanted ≡ b → b ≡ false) [
            | false ↦ λ _. refl
            | true ↦ λ is. sym ((bytes_eq-Decides wanted tag.0).1
                (sym ((bytes_eq-Decides tag.0 wanted).0 is))) ∙ e
          ] refl)
    ] refl

-- ---- the steps

pub none_filled : (raw : RawRecord) (bytes : List ℕ) (head : GameText) → bytes ≡ raw.tail
    → head.tags ≡ [] → head.result ≡ numbered_result (raw.head / 4 % 4)
    → HaveFilled raw 0 bytes head
none_filled raw bytes head same empty ends game fits shows = record {
  left = same ∙ ap (λ (r : RawRecord). r.tail) shows;
  tags = λ wanted.
      ap (λ (ts : List Tag). option_or (tag_in wanted ts) (tag_in wanted game.tags)) empty;
  result = ends ∙ ap (λ (r : RawRecord). numbered_result (r.head / 4 % 4)) shows
      ∙ (head_shows game fits).result;
}

pub there_already : (raw : RawRecord) (i : ℕ) (rest name contents after : List ℕ) (head : GameText)
    → i < raw.head / 32 → HaveFilled raw i rest head
    → tag_at rest ≡ Ok ((name, contents), after) → is_some (tag_in name head.tags) ≡ true
    → HaveFilled raw (i + 1) after head
there_already raw i rest name contents after head lt all read there game fits shows =
    let so_far = all game fits shows in
    let next = next_is raw i rest head game lt so_far fits shows in
    let both = ok_is ((name, contents), after) _ (sym read ∙ next.read) in
    let own : name ≡ next.tag.0 = ap (λ (p : (List ℕ × List ℕ) × List ℕ). p.0.0) both in
    record {
      left = ap (λ (p : (List ℕ × List ℕ) × List ℕ). p.1) both;
      tags = λ wanted.
          passed head.tags (drop (i + 1) game.tags) next.tag
          (subst (λ n. is_some (tag_in n head.tags) ≡ true) own there) wanted
          ∙ ap (λ (ts : List Tag). option_or (tag_in wanted head.tags) (tag_in wanted ts))
          (sym next.here)
          ∙ so_far.tags wanted;
      result = so_far.result;
    }

pub one_more : (raw : RawRecord) (i : ℕ) (rest name contents after : List ℕ)
    (head new : GameText) → i < raw.head / 32 → HaveFilled raw i rest head
    → tag_at rest ≡ Ok ((name, contents), after) → is_some (tag_in name head.tags) ≡ false
    → IsRetagged name (Some contents) head new → HaveFilled raw (i + 1) after new
one_more raw i rest name contents after head new lt all read free is game fits shows =
    let so_far = all game fits shows in
    let next = next_is raw i rest head game lt so_far fits shows in
    let both = ok_is ((name, contents), after) _ (sym read ∙ next.read) in
    let own : name ≡ next.tag.0 = ap (λ (p : (List ℕ × List ℕ) × List ℕ). p.0.0) both in
    let has : contents ≡ next.tag.1 = ap (λ (p : (List ℕ × List ℕ) × List ℕ). p.0.1) both in
    record {
      left = ap (λ (p : (List ℕ × List ℕ) × List ℕ). p.1) both;
      tags = λ wanted.
          put head.tags new.tags (drop (i + 1) game.tags) next.tag
          (ap (λ n. tag_in n head.tags) (sym own) ∙ absent (tag_in name head.tags) free)
          (λ w. is.tags w
          ∙ ap (λ n. if bytes_eq n w then Some contents else tag_in w head.tags) own
          ∙ ap (λ t. if bytes_eq next.tag.0 w then Some t else tag_in w head.tags) has) wanted
          ∙ ap (λ (ts : List Tag). option_or (tag_in wanted head.tags) (tag_in wanted ts))
          (sym next.here)
          ∙ so_far.tags wanted;
      result = is.result ∙ so_far.result;
    }

-- a tag with a name that no text has, or contents that no string has
pub in_no_text : (raw : RawRecord) (i : ℕ) (rest name contents after : List ℕ) (head : GameText)
    → i < raw.head / 32 → HaveFilled raw i rest head
    → tag_at rest ≡ Ok ((name, contents), after) → is_some (tag_in name head.tags) ≡ false
    → (IsTrue (list_all is_name_byte name) → IsContents contents → ⊥)
    → (game : PackedGame) → FitsRecord game → raw ≡ raw_of game
    → IsHeadOf game None
in_no_text raw i rest name contents after head lt all read free bad game fits shows strings names =
    let so_far = all game fits shows in
    let next = next_is raw i rest head game lt so_far fits shows in
    let both = ok_is ((name, contents), after) _ (sym read ∙ next.read) in
    let own : name ≡ next.tag.0 = ap (λ (p : (List ℕ × List ℕ) × List ℕ). p.0.0) both in
    let has : contents ≡ next.tag.1 = ap (λ (p : (List ℕ × List ℕ) × List ℕ). p.0.1) both in
    let first : tag_in name game.tags ≡ Some contents =
    sym (so_far.tags name)
    ∙ ap (λ o. option_or o (tag_in name (drop i game.tags))) (absent (tag_in name head.tags) free)
    ∙ ap (tag_in name) next.here
    ∙ ap (λ b. if b then Some next.tag.1 else tag_in name (drop (i + 1) game.tags))
    ((bytes_eq-Decides name next.tag.0).1 own)
    ∙ ap (λ t. Some t) (sym has) in
    bad (names name contents first) (strings name contents first)

pub never_cut_off : (raw : RawRecord) (i : ℕ) (rest : List ℕ) (head : GameText) (e : RecordError)
    → i < raw.head / 32 → HaveFilled raw i rest head → tag_at rest ≡ Err e
    → (game : PackedGame) → FitsRecord game → raw ≡ raw_of game → IsHeadOf game None
never_cut_off raw i rest head e lt all read game fits shows strings names =
    let next = next_is raw i rest head game lt (all game fits shows) fits shows in
    no_error e _ (sym read ∙ next.read)

drop_all : (tags : List Tag) (i : ℕ) → i ≡ length tags → drop i tags ≡ []
drop_all [] zero is = refl
drop_all [] (suc i) is = refl
drop_all (t ∷ tags) zero is = absurd (omega arith)
drop_all (t ∷ tags) (suc i) is = drop_all tags i (omega arith)

pub all_filled : (raw : RawRecord) (i : ℕ) (rest : List ℕ) (head : GameText) → i ≡ raw.head / 32
    → HaveFilled raw i rest head → (game : PackedGame) → FitsRecord game → raw ≡ raw_of game
    → IsHeadOf game (Some head)
all_filled raw i rest head last all game fits shows =
    let so_far = all game fits shows in
    let none_left = drop_all game.tags i (last ∙ count_is raw game fits shows) in
    record {
      tags = λ wanted. sym (or_none (tag_in wanted head.tags))
          ∙ ap (λ (ts : List Tag). option_or (tag_in wanted head.tags) (tag_in wanted ts))
          (sym none_left)
          ∙ so_far.tags wanted;
      result = so_far.result;
    }
