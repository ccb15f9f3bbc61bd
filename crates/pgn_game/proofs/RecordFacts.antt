-- The two laws: what is read is spelled so, and what is spelled so is read.
use Rattle.std.proofs.Common.{◌==◌, eqb}
use Rattle.std.specs.Prelude.{IfOk}
use Rattle.std.proofs.lemmas.List.{length-append, length-take, take_at, drop_at, take-append-drop}
use Rattle.pgn_game.proofs.Common.{◌≡◌, ℕ, zero, suc, ◌-◌, ◌*◌, ◌/◌, ◌%◌, ◌^◌, ◌<◌, ◌≤◌, Bool, true}
use Rattle.pgn_game.proofs.Common.{false, cond, ltb, List, [], ◌∷◌, ◌++◌, length, take, drop}
use Rattle.pgn_game.proofs.Common.{Option, Some, None, Result, Ok, Err, refl, sym, ap, subst, ◌∙◌}
use Rattle.pgn_game.proofs.Common.{append_assoc, arith, IfSome, is_some, flat_map, AllByRecursion}
use Rattle.pgn_game.proofs.Common.{w32, w64, to_be_bytes, eqb-true, ltb-false, le-ltb}
use Rattle.pgn_game.proofs.Common.{flat_map-cons, RecordError, CutShort, TooLarge, TagOrder}
use Rattle.pgn_game.proofs.Common.{PartOfPly, NoOrigin, PlyCode, FitsCode, marks_number, code_bytes}
use Rattle.pgn_game.proofs.Common.{code_of, PackedGame, Tag, FitsRecord, with_length, name_bytes}
use Rattle.pgn_game.proofs.Common.{FitsTag, numbered_result, record_bytes, largest_body, tag_bytes}
use Rattle.pgn_game.proofs.Common.{head_of, tail_bytes, body_bytes, is_origin, RawRecord, raw_of}
use Rattle.pgn_game.proofs.Common.{number_at, text_at, name_at, tag_at, follows, next_tag, HasBody}
use Rattle.pgn_game.specs.Public.PackReading.{Gives, after_tags, body_at, size_at, record_at}
use Rattle.pgn_game.proofs.PlyCodeFacts.{code_takes, code_fits, pairs}
use Rattle.pgn_game.proofs.HeadFacts.{name_takes, name_again, named_below, result_taken}
use Rattle.pgn_game.proofs.HeadFacts.{result_is_below, head_taken, head_shows, mark_below}
use Rattle.pgn_game.proofs.TagOrder.{AreRising, rising_is_sorted, sorted_is_rising}
use Rattle.pgn_game.proofs.RecordFields.{◌>>=◌, IsBytes, IsBytes-take, IsBytes-rest, bind_ok}
use Rattle.pgn_game.proofs.RecordFields.{guard_ok, ok_is, Takes, Takes-then, wide32, wide64}
use Rattle.pgn_game.proofs.RecordFields.{number_takes, number_again, text_takes, text_again}

guard_ended : {A : Type 0} (b : Bool) (d : RecordError) (x y : A) → cond b (Ok x) (Err d) ≡ Ok y
    → (b ≡ true) × (x ≡ y)
guard_ended true d x y e = (refl, cc)
guard_ended false d x y e = absurd cc

tested_so : {A : Type 0} (b : Bool) (d : RecordError) (r : Result A RecordError) (y : A)
    → cond b r (Err d) ≡ Ok y → (b ≡ true) × (r ≡ Ok y)
tested_so true d r y e = (refl, e)
tested_so false d r y e = absurd cc

tested : {A : Type 0} (b : Bool) (d : RecordError) (r : Result A RecordError) (y : A)
    → cond b (Err d) r ≡ Ok y → (b ≡ false) × (r ≡ Ok y)
tested true d r y e = absurd cc
tested false d r y e = (refl, e)

-- ---- tags

tag_takes : (last : Option (List ℕ)) (bytes name rest : List ℕ) → IsBytes bytes
    → next_tag last bytes ≡ Ok (name, rest)
    → (t : Tag) × FitsTag t × (t.0 ≡ name) × (follows last t.0 ≡ true)
    × Takes bytes (tag_bytes t) rest
tag_takes last bytes name rest fits e =
    let end : (Tag × List ℕ) → Result (List ℕ × List ℕ) RecordError =
    λ tag. cond (follows last tag.0.0) (Ok (tag.0.0, tag.1)) (Err TagOrder) in
    let tag = bind_ok (tag_at bytes) end (name, rest) e in
    let own = guard_ended (follows last tag.0.0.0) TagOrder (tag.0.0.0, tag.0.1) (name, rest) tag.2
    in
    let a = bind_ok (text_at bytes) (λ name. text_at name.1 >>= λ contents.
    Ok ((name.0, contents.0), contents.1)) tag.0 tag.1 in
    let b = bind_ok (text_at a.0.1) (λ contents. Ok ((a.0.0, contents.0), contents.1)) tag.0 a.2 in
    let s = text_takes bytes a.0.0 a.0.1 fits a.1 in
    let t = text_takes a.0.1 b.0.0 b.0.1 s.0.rest_fits b.1 in
    let both = Takes-then bytes (with_length a.0.0) a.0.1 (with_length b.0.0) b.0.1 s.0 t.0 in
    let whole = ok_is ((a.0.0, b.0.0), b.0.1) tag.0 b.2 in
    let same : b.0.1 ≡ rest =
    ap (λ (read : Tag × List ℕ). read.1) whole ∙ ap (λ (p : List ℕ × List ℕ). p.1) own.1 in
    let named : a.0.0 ≡ name =
    ap (λ (read : Tag × List ℕ). read.0.0) whole ∙ ap (λ (p : List ℕ × List ℕ). p.0) own.1 in
    let order : follows last a.0.0 ≡ true =
    ap (λ (read : Tag × List ℕ). follows last read.0.0) whole ∙ own.0 in (
      (a.0.0, b.0.0),
      record { name = s.1; contents = t.1 },
      named,
      order,
      subst (λ (r : List ℕ). Takes bytes (with_length a.0.0 ++ with_length b.0.0) r) same both,
    )

tag_again : (last : Option (List ℕ)) (t : Tag) (rest : List ℕ) → FitsTag t → follows last t.0 ≡ true
    → next_tag last (tag_bytes t ++ rest) ≡ Ok (t.0, rest)
tag_again last t rest fits order =
    ap (next_tag last) (append_assoc (with_length t.0) (with_length t.1) rest)
    ∙ rw (
      text_again t.0 (with_length t.1 ++ rest) fits.name,
      text_again t.1 rest fits.contents,
      order,
    ) refl

tags_take : (n : ℕ) (last : Option (List ℕ)) (bytes rest : List ℕ) → IsBytes bytes
    → after_tags n last bytes ≡ Ok rest
    → (ts : List Tag) × (length ts ≡ n) × AllByRecursion FitsTag ts
    × Takes bytes (flat_map tag_bytes ts) rest × AreRising last ts
unfolding after_tags
tags_take zero last bytes rest fits e = (
  [],
  refl,
  tt,
  rw (← (ok_is bytes rest e)) (record { parts = refl; rest_fits = fits }),
  tt,
)
tags_take (suc n) last bytes rest fits e =
    let a = bind_ok (next_tag last bytes) (λ tag. after_tags n (Some tag.0) tag.1) rest e in
    let first = tag_takes last bytes a.0.0 a.0.1 fits a.1 in
    let others = tags_take n (Some a.0.0) a.0.1 rest first.4.rest_fits a.2 in
    let both =
    Takes-then bytes (tag_bytes first.0) a.0.1 (flat_map tag_bytes others.0) rest first.4
    others.3 in
    let rising =
    subst (λ (name : List ℕ). AreRising (Some name) others.0) (sym first.2) others.4 in (
      first.0 ∷ others.0,
      ap suc others.1,
      (first.1, others.2),
      rw flat_map-cons both,
      (first.3, rising),
    )

tags_again : (last : Option (List ℕ)) (ts : List Tag) (rest : List ℕ) → AllByRecursion FitsTag ts
    → AreRising last ts → after_tags (length ts) last (flat_map tag_bytes ts ++ rest) ≡ Ok rest
unfolding after_tags
tags_again last [] rest fits rising = refl
tags_again last (t ∷ ts) rest fits rising =
    let regrouped : flat_map tag_bytes (t ∷ ts) ++ rest
    ≡ tag_bytes t ++ (flat_map tag_bytes ts ++ rest) =
    ap (λ (x : List ℕ). x ++ rest) (flat_map-cons tag_bytes t ts)
    ∙ append_assoc (tag_bytes t) (flat_map tag_bytes ts) rest in
    ap (after_tags (suc (length ts)) last) regrouped
    ∙ rw (tag_again last t (flat_map tag_bytes ts ++ rest) fits.0 rising.0)
    (tags_again (Some t.0) ts rest fits.1 rising.1)

-- ---- plies

plies_take : (bytes : List ℕ) → IsBytes bytes → length bytes % 3 ≡ 0
    → (cs : List PlyCode) × AllByRecursion FitsCode cs × (bytes ≡ flat_map code_bytes cs)
plies_take [] fits e = ([], tt, refl)
plies_take (a ∷ []) fits e = absurd (omega (arith, e))
plies_take (a ∷ b ∷ []) fits e = absurd (omega (arith, e))
plies_take (a ∷ b ∷ d ∷ rest) fits e =
    let f1 = IsBytes-rest a (b ∷ d ∷ rest) fits in let f2 = IsBytes-rest b (d ∷ rest) f1 in
    let others = plies_take rest (IsBytes-rest d rest f2) (omega (arith, e)) in
    let own = code_takes a b d (fits 0) (f1 0) (f2 0) in (
      code_of a b d ∷ others.0,
      (code_fits a b d, others.1),
      ap (λ (r : List ℕ). a ∷ b ∷ d ∷ r) others.2
          ∙ ap (λ (o : List ℕ). o ++ flat_map code_bytes others.0) (sym own)
          ∙ sym (flat_map-cons code_bytes (code_of a b d) others.0),
    )

pub plies_size : (cs : List PlyCode) → length (flat_map code_bytes cs) ≡ 3 * length cs
plies_size [] = refl
plies_size (c ∷ cs) = ap length (flat_map-cons code_bytes c cs) ∙ omega (arith, plies_size cs)

-- ---- records

-- the bytes are those of a game after its size, as the record shows it
abbrev IsBody : List ℕ → RawRecord → Type 0
IsBody bytes raw = (game : PackedGame) × FitsRecord game × (raw ≡ raw_of game)
    × (bytes ≡ body_bytes game)

-- the game with this name, these tags and plies is what the parts of its record show
body_is : (number offset head : ℕ) (name : Option (List ℕ))
    (bytes after_number after_offset after_head tail plies : List ℕ) (tags : List Tag)
    (codes : List PlyCode)
    → length bytes ≤ largest_body → Takes bytes (to_be_bytes w64 number) after_number
    → number < 2 ^ 64 → Takes after_number (to_be_bytes w64 offset) after_offset
    → offset < 2 ^ 64 → Takes after_offset (to_be_bytes w32 head) after_head → head < 2 ^ 32
    → Takes after_head (name_bytes name) tail
    → IfSome name (λ own. length own < 2 ^ 32) → is_some name ≡ (head / 16 % 2 == 1)
    → length tags ≡ head / 32 → AllByRecursion FitsTag tags
    → Takes tail (flat_map tag_bytes tags) plies → AreRising None tags
    → AllByRecursion FitsCode codes
    → plies ≡ flat_map code_bytes codes → is_origin number offset name ≡ true
    → IsBody bytes (record {
      number = number;
      offset = offset;
      head = head;
      name = name;
      tail = tail;
      plies = plies;
    })
body_is number offset head name bytes after_number after_offset after_head tail plies tags codes
    size t0 number_fits t1 offset_fits t2 head_fits t3 name_fits named count tags_fit t4 rising
    codes_fit codes_are origin =
    let game : PackedGame = record {
      number = number;
      offset = offset;
      name = name;
      tags = tags;
      result = numbered_result (head / 4 % 4);
      check = (head % 4) % 2 == 1;
      stuck = (head % 4) / 2 == 1;
      plies = codes;
    } in
    let head_is : head_of game ≡ head =
    head_taken head (length tags) (marks_number game.check game.stuck) name count named
    (sym (pairs (head % 4) (omega arith))) in
    let tail_is : tail ≡ tail_bytes game = t4.parts
    ∙ ap (λ (x : List ℕ). flat_map tag_bytes tags ++ x) codes_are in
    let from_name : after_head ≡ name_bytes name ++ tail_bytes game = rw (← tail_is) t3.parts in
    let from_head : after_offset ≡ to_be_bytes w32 (head_of game)
    ++ (name_bytes name ++ tail_bytes game) = rw (head_is, ← from_name) t2.parts in
    let from_offset : after_number ≡ to_be_bytes w64 offset ++ to_be_bytes w32 (head_of game)
    ++ (name_bytes name ++ tail_bytes game) = rw (← from_head) t1.parts in
    let whole : bytes ≡ body_bytes game = rw (← from_offset) t0.parts in
    let fits : FitsRecord game = record {
      number = number_fits;
      offset = offset_fits;
      name = name_fits;
      count = omega (arith, count, head_fits);
      tags = tags_fit;
      ordered = rising_is_sorted tags rising;
      result = (result_taken (head / 4 % 4) (omega arith)).0;
      plies = codes_fit;
      size = subst (λ (x : List ℕ). length x ≤ largest_body) whole size;
      origin = origin;
    } in
    (game, fits, rw (head_is, ← tail_is, ← codes_are) refl, whole)

body_takes : (bytes : List ℕ) (raw : RawRecord) → IsBytes bytes → length bytes ≤ largest_body
    → body_at bytes ≡ Ok raw → IsBody bytes raw
unfolding body_at
body_takes bytes raw fits size e =
    let end : (ℕ × List ℕ) → (ℕ × List ℕ) → (ℕ × List ℕ) → (Option (List ℕ) × List ℕ) → List ℕ
    → Result RawRecord RecordError =
    λ number offset head name plies. cond (eqb (length plies % 3) 0)
    (cond (is_origin number.0 offset.0 name.0)
    (Ok (record {
      number = number.0;
      offset = offset.0;
      head = head.0;
      name = name.0;
      tail = name.1;
      plies = plies;
    })) (Err NoOrigin)) (Err PartOfPly) in
    let named : (ℕ × List ℕ) → Result (Option (List ℕ) × List ℕ) RecordError =
    λ head. name_at (head.0 / 16 % 2 == 1) head.1 in
    let a = bind_ok (number_at w64 bytes) (λ number. number_at w64 number.1 >>= λ offset.
    number_at w32 offset.1 >>= λ head. named head >>= λ name. after_tags (head.0
    / 32) None name.1 >>= λ plies. end number offset head name plies) raw e in
    let b = bind_ok (number_at w64 a.0.1) (λ offset. number_at w32 offset.1 >>= λ head.
    named head >>= λ name. after_tags (head.0
    / 32) None name.1 >>= λ plies. end a.0 offset head name plies) raw a.2 in
    let c = bind_ok (number_at w32 b.0.1) (λ head. named head >>= λ name.
    after_tags (head.0 / 32) None name.1 >>= λ plies. end a.0 b.0 head name plies) raw b.2 in
    let n = bind_ok (named c.0) (λ name. after_tags (c.0.0 / 32) None name.1 >>= λ plies.
    end a.0 b.0 c.0 name plies) raw c.2 in
    let d = bind_ok (after_tags (c.0.0 / 32) None n.0.1) (λ plies.
    end a.0 b.0 c.0 n.0 plies) raw n.2 in
    let made : RawRecord =
    record {
      number = a.0.0;
      offset = b.0.0;
      head = c.0.0;
      name = n.0.0;
      tail = n.0.1;
      plies = d.0;
    } in
    let whole =
    tested_so (eqb (length d.0 % 3) 0) PartOfPly
    (cond (is_origin a.0.0 b.0.0 n.0.0) (Ok made) (Err NoOrigin)) raw d.2 in
    let g = guard_ended (is_origin a.0.0 b.0.0 n.0.0) NoOrigin made raw whole.1 in
    let t0 = number_takes w64 (2 ^ 64) wide64 bytes a.0.0 a.0.1 fits a.1 in
    let t1 = number_takes w64 (2 ^ 64) wide64 a.0.1 b.0.0 b.0.1 t0.0.rest_fits b.1 in
    let t2 = number_takes w32 (2 ^ 32) wide32 b.0.1 c.0.0 c.0.1 t1.0.rest_fits c.1 in
    let t3 = name_takes (c.0.0 / 16 % 2 == 1) c.0.1 n.0.0 n.0.1 t2.0.rest_fits n.1 in
    let t4 = tags_take (c.0.0 / 32) None n.0.1 d.0 t3.0.rest_fits d.1 in
    let t5 = plies_take d.0 t4.3.rest_fits (eqb-true _ _ whole.0) in
    subst (IsBody bytes) g.1
    (body_is a.0.0 b.0.0 c.0.0 n.0.0 bytes a.0.1 b.0.1 c.0.1 n.0.1 d.0 t4.0 t5.0 size t0.0 t0.1 t1.0
    t1.1 t2.0 t2.1 t3.0 t3.1 t3.2 t4.1 t4.2 t4.3 t4.4 t5.1 t5.2 g.0)

three : (n : ℕ) → eqb (3 * n % 3) 0 ≡ true
three n = let z : 3 * n % 3 ≡ 0 = omega arith in rw z refl

pub body_again : (e : PackedGame) → FitsRecord e → body_at (body_bytes e) ≡ Ok (raw_of e)
unfolding body_at
body_again e fits =
    let shows = head_shows e fits in
    let h : head_of e < 2 ^ 32 =
    omega (
      arith,
      fits.count,
      named_below e.name,
      result_is_below e.result fits.result,
      mark_below e.check e.stuck,
    ) in
    let whole : eqb (length (flat_map code_bytes e.plies) % 3) 0 ≡ true =
    rw (plies_size e.plies) (three (length e.plies)) in
    let origin : is_origin e.number e.offset e.name ≡ true = fits.origin in
    rw (
      number_again w64 (2 ^ 64) wide64 e.number (to_be_bytes w64 e.offset
          ++ to_be_bytes w32 (head_of e) ++ (name_bytes e.name ++ tail_bytes e)) fits.number,
      number_again w64 (2 ^ 64) wide64 e.offset (to_be_bytes w32 (head_of e)
          ++ (name_bytes e.name ++ tail_bytes e)) fits.offset,
      number_again w32 (2 ^ 32) wide32 (head_of e) (name_bytes e.name ++ tail_bytes e) h,
      shows.named,
      name_again e.name (tail_bytes e) fits.name,
      shows.count,
      tags_again None e.tags (flat_map code_bytes e.plies) fits.tags
          (sorted_is_rising e.tags fits.ordered),
      whole,
      origin,
    ) refl

-- where the first fields of a body are read, its plies are the last so many bytes
pub plies_known : (number offset head : ℕ) (name : Option (List ℕ)) (bytes r0 r1 r2 tail : List ℕ)
    (plies : ℕ) → IsBytes bytes → HasBody bytes plies → number_at w64 bytes ≡ Ok (number, r0)
    → number_at w64 r0 ≡ Ok (offset, r1) → number_at w32 r1 ≡ Ok (head, r2)
    → name_at (head / 16 % 2 == 1) r2 ≡ Ok (name, tail)
    → (plies ≤ length tail) × (body_at bytes ≡ Ok (record {
      number = number;
      offset = offset;
      head = head;
      name = name;
      tail = tail;
      plies = drop (length tail - plies) tail;
    }))
unfolding body_at
plies_known number offset head name bytes r0 r1 r2 tail plies fits body e0 e1 e2 e3 =
    let made : List ℕ → RawRecord = λ rest. record {
      number = number;
      offset = offset;
      head = head;
      name = name;
      tail = tail;
      plies = rest;
    } in
    let origin = is_origin number offset name in
    let checked : List ℕ → Result RawRecord RecordError =
    λ rest. cond origin (Ok (made rest)) (Err NoOrigin) in
    let end : List ℕ → Result RawRecord RecordError =
    λ rest. cond (eqb (length rest % 3) 0) (checked rest) (Err PartOfPly) in
    let read = after_tags (head / 32) None tail in
    let all : body_at bytes ≡ (read >>= end) = rw (e0, e1, e2, e3) refl in
    let last = bind_ok read end body.0 (sym all ∙ body.1) in
    let rest = last.0 in
    let whole = tested_so (eqb (length rest % 3) 0) PartOfPly (checked rest) body.0 last.2 in
    let own = guard_ended origin NoOrigin (made rest) body.0 whole.1 in
    let t0 = number_takes w64 (2 ^ 64) wide64 bytes number r0 fits e0 in
    let t1 = number_takes w64 (2 ^ 64) wide64 r0 offset r1 t0.0.rest_fits e1 in
    let t2 = number_takes w32 (2 ^ 32) wide32 r1 head r2 t1.0.rest_fits e2 in
    let t3 = name_takes (head / 16 % 2 == 1) r2 name tail t2.0.rest_fits e3 in
    let tags = tags_take (head / 32) None tail rest t3.0.rest_fits last.1 in
    let text = flat_map tag_bytes tags.0 in
    let size = ap length tags.3.parts ∙ length-append text rest in
    let known : length rest ≡ plies = ap (λ (raw : RawRecord). length raw.plies) own.1 ∙ body.2 in
    let from = length tail - plies in
    let front : length text ≡ from = omega (arith, size, known) in
    let cut : drop from tail ≡ rest =
    ap (drop from) tags.3.parts ∙ drop_at text rest from front in (
      omega (arith, size, known),
      subst (λ (raw : RawRecord). body_at bytes ≡ Ok raw) (sym own.1 ∙ ap made (sym cut)) body.1,
    )

-- the record of a game stands in front, as it shows it, and these bytes after it
abbrev pub IsInFront : List ℕ → RawRecord × List ℕ → Type 0
IsInFront bytes x = (game : PackedGame) × FitsRecord game × (x.0 ≡ raw_of game)
    × (bytes ≡ record_bytes game ++ x.1)

record_is : (size : ℕ) (bytes after : List ℕ) (raw : RawRecord)
    → bytes ≡ to_be_bytes w32 size ++ after → size ≤ length after → IsBody (take size after) raw
    → IsInFront bytes (raw, drop size after)
record_is size bytes after raw parts within own =
    let len : length (body_bytes own.0) ≡ size =
    ap length (sym own.3) ∙ omega (arith, length-take size after) in
    let cut : after ≡ body_bytes own.0 ++ drop size after =
    sym (take-append-drop size after) ∙ ap (λ (y : List ℕ). y ++ drop size after) own.3 in
    let text : bytes ≡ record_bytes own.0 ++ drop size after =
    parts ∙ ap (λ (y : List ℕ). to_be_bytes w32 size ++ y) cut
    ∙ ap (λ (k : ℕ). to_be_bytes w32 k ++ (body_bytes own.0 ++ drop size after)) (sym len)
    ∙ sym (append_assoc (to_be_bytes w32 (length (body_bytes own.0))) (body_bytes own.0)
    (drop size after)) in
    (own.0, own.1, own.2, text)

record_takes : (bytes : List ℕ) (x : RawRecord × List ℕ) → IsBytes bytes → record_at bytes ≡ Ok x
    → IsInFront bytes x
unfolding record_at
record_takes bytes x fits e =
    let end : (ℕ × List ℕ) → Result (RawRecord × List ℕ) RecordError =
    λ size. cond (ltb (length size.1) size.0) (Err CutShort)
    (body_at (take size.0 size.1) >>= λ raw. Ok (raw, drop size.0 size.1)) in
    let a = bind_ok (size_at bytes) end x e in
    let n = bind_ok (number_at w32 bytes) (λ size.
    cond (ltb largest_body size.0) (Err TooLarge) (Ok size)) a.0 a.1 in
    let small = guard_ok (ltb largest_body n.0.0) TooLarge n.0 a.0 n.2 in
    let t = number_takes w32 (2 ^ 32) wide32 bytes n.0.0 n.0.1 fits n.1 in
    let size : n.0.0 ≤ largest_body = ltb-false _ _ small.0 in
    let rest : end n.0 ≡ Ok x = subst (λ (p : ℕ × List ℕ). end p ≡ Ok x) (sym small.1) a.2 in
    let long =
    tested (ltb (length n.0.1) n.0.0) CutShort (body_at (take n.0.0 n.0.1) >>= λ raw.
    Ok (raw, drop n.0.0 n.0.1)) x rest in
    let within : n.0.0 ≤ length n.0.1 = ltb-false _ _ long.0 in
    let b = bind_ok (body_at (take n.0.0 n.0.1)) (λ raw. Ok (raw, drop n.0.0 n.0.1)) x long.1 in
    let own =
    body_takes (take n.0.0 n.0.1) b.0 (IsBytes-take n.0.0 n.0.1 t.0.rest_fits)
    (omega (arith, length-take n.0.0 n.0.1)) b.1 in
    subst (IsInFront bytes) (ok_is (b.0, drop n.0.0 n.0.1) x b.2)
    (record_is n.0.0 bytes n.0.1 b.0 t.0.parts within own)

pub record_again : (e : PackedGame) (rest : List ℕ) → FitsRecord e
    → record_at (record_bytes e ++ rest) ≡ Ok (raw_of e, rest)
unfolding record_at
record_again e rest fits =
    let small : ltb largest_body (length (body_bytes e)) ≡ false = le-ltb _ _ fits.size in
    let long : ltb (length (body_bytes e ++ rest)) (length (body_bytes e)) ≡ false =
    le-ltb _ _ (omega (arith, length-append (body_bytes e) rest)) in
    ap record_at (append_assoc (to_be_bytes w32 (length (body_bytes e))) (body_bytes e) rest)
    ∙ rw (
      number_again w32 (2 ^ 32) wide32 (length (body_bytes e)) (body_bytes e
          ++ rest) (omega (arith, fits.size)),
      small,
      long,
      take_at (body_bytes e) rest (length (body_bytes e)) refl,
      drop_at (body_bytes e) rest (length (body_bytes e)) refl,
      body_again e fits,
    ) refl

-- what was answered is a record in front
pub is_found : {X : Type 0} (bytes : List ℕ) (r : Result X RecordError) (view : X
    → RawRecord × List ℕ) → IsBytes bytes → Gives view r (record_at bytes)
    → IfOk r (λ x. IsInFront bytes (view x))
is_found bytes (Ok x) view fits given = record_takes bytes (view x) fits given
is_found bytes (Err f) view fits given = tt
