-- What the first bytes of a pack show of the record in front, before all of it is read.
use Rattle.std.proofs.Common.{◌≡◌, ℕ, ◌+◌, ◌-◌, ◌<◌, ◌≤◌, Bool, true, false, List, [], ◌++◌, length}
use Rattle.std.proofs.Common.{take, drop, Option, Some, None, Ok, Err, refl, sym, ap, subst, ◌∙◌}
use Rattle.std.proofs.Common.{append_assoc, arith, take-append-drop, length-append, append-nil}
use Rattle.std.proofs.lemmas.List.{take-append-le, length-take-le}
use Rattle.pgn_game.proofs.Common.{w32, to_be_bytes, from_be_bytes, take_at, drop_at}
use Rattle.pgn_game.proofs.Common.{largest_offset, PackedGame, FitsRecord, body_bytes, record_bytes}
use Rattle.pgn_game.proofs.Common.{largest_body, RawRecord, raw_of, body_at, record_at, ReadsOn}
use Rattle.pgn_game.proofs.Common.{HasBody, Window, HasNoRecord, PassesOn, RecordError}
use Rattle.pgn_game.specs.Private.PackSteps.{HoldsWhole, IsWhole, IsPart, size_in}
use Rattle.pgn_game.specs.Public.PackStreams.{IsRecord, StepGives}
use Rattle.pgn_game.specs.declared.pack.records.RecordsError.{RecordsError}
use Rattle.pgn_game.specs.declared.pack.records.RecordsError.TheVariants.{Read, OutOfMemory}
use Rattle.pgn_game.specs.declared.pack.records.RecordsError.TheVariants.{BadPack, InputTooLong}
use Rattle.pgn_game.proofs.RecordFacts.{IsInFront, body_again, record_again}
use Rattle.pgn_game.proofs.RecordFields.{wide32}

-- the size of a record in front, and how many bytes the record has
size_in_front : (game : PackedGame) (rest : List ℕ) → FitsRecord game
    → size_in (record_bytes game ++ rest) ≡ length (body_bytes game)
size_in_front game rest fits =
    let size = length (body_bytes game) in
    let parts : record_bytes game ++ rest ≡ to_be_bytes w32 size ++ (body_bytes game ++ rest) =
    append_assoc (to_be_bytes w32 size) (body_bytes game) rest in
    ap (λ (bytes : List ℕ). from_be_bytes w32 (take 4 bytes)) parts ∙ ap (from_be_bytes w32)
    (take_at (to_be_bytes w32 size) (body_bytes game ++ rest) 4 (wide32.len size))
    ∙ wide32.again size (omega (arith, fits.size))

pub record_size : (game : PackedGame) → length (record_bytes game) ≡ length (body_bytes game) + 4
record_size game = length-append (to_be_bytes w32 (length (body_bytes game))) (body_bytes game)
    ∙ omega (arith, wide32.len (length (body_bytes game)))

-- where the bytes are whole, a record in front of them and of what comes after them is in front of
-- them
pub whole_front : (bytes more : List ℕ) (game : PackedGame) (rest : List ℕ) → IsWhole bytes
    → FitsRecord game → bytes ++ more ≡ record_bytes game ++ rest
    → (left : List ℕ) × (bytes ≡ record_bytes game ++ left)
whole_front bytes more game rest whole fits e =
    let size = length (body_bytes game) in
    let long = record_size game in
    let sized : size_in bytes ≡ size =
    ap (from_be_bytes w32) (sym (take-append-le 4 bytes more whole.sized)) ∙ ap size_in e
    ∙ size_in_front game rest fits in
    let small : size_in bytes ≤ largest_body = omega (arith, sized, fits.size) in
    let within : length (record_bytes game) ≤ length bytes =
    omega (arith, whole.filled small, sized, long) in
    let front : take (length (record_bytes game)) bytes ≡ record_bytes game =
    sym (take-append-le (length (record_bytes game)) bytes more within)
    ∙ ap (take (length (record_bytes game))) e
    ∙ take_at (record_bytes game) rest (length (record_bytes game)) refl in (
      drop (length (record_bytes game)) bytes,
      sym (take-append-drop (length (record_bytes game)) bytes)
          ∙ ap (λ (f : List ℕ). f ++ drop (length (record_bytes game)) bytes) front,
    )

-- and no record stands in front of a part of one
pub no_part : (bytes : List ℕ) → IsPart bytes → HasNoRecord bytes
no_part bytes part game rest fits e =
    let long = record_size game in
    let sized : size_in bytes ≡ length (body_bytes game) =
    ap size_in e ∙ size_in_front game rest fits in
    let all : length bytes ≡ length (record_bytes game) + length rest =
    ap length e ∙ length-append (record_bytes game) rest in
    let four : 4 ≤ length bytes = omega (arith, all, long) in
    omega (arith, part.short four, sized, all, long)

-- the body of a record is read as the game shows it
pub body_held : (game : PackedGame) (held : List ℕ) → FitsRecord game → held ≡ record_bytes game
    → body_at (drop 4 held) ≡ Ok (raw_of game)
body_held game held fits is =
    let size = length (body_bytes game) in
    ap (λ (bytes : List ℕ). body_at (drop 4 bytes)) is
    ∙ ap body_at (drop_at (to_be_bytes w32 size) (body_bytes game) 4 (wide32.len size))
    ∙ body_again game fits

-- the sizes of the record that was read in front
pub sizes_read : (bytes rest : List ℕ) (raw : RawRecord) → IsInFront bytes (raw, rest)
    → (length bytes - length rest ≤ length bytes)
    × IsRecord (take (length bytes - length rest) bytes)
    × HasBody (drop 4 (take (length bytes - length rest) bytes)) (length raw.plies)
sizes_read bytes rest raw found =
    let game = found.0 in
    let long = length (record_bytes game) in
    let all : length bytes ≡ long + length rest =
    ap length found.3 ∙ length-append (record_bytes game) rest in
    let size : length bytes - length rest ≡ long = omega (arith, all) in
    let held = take (length bytes - length rest) bytes in
    let front : held ≡ record_bytes game =
    ap (λ (n : ℕ). take n bytes) size ∙ ap (take long) found.3
    ∙ take_at (record_bytes game) rest long refl in
    let body = body_held game held found.1 front in (
      omega arith,
      (game, found.1, front),
      (raw, subst (λ (r : RawRecord). body_at (drop 4 held) ≡ Ok r) (sym found.2) body, refl),
    )

-- where no record was read of whole bytes, none stands in front of them, whatever comes after them
pub none_read : (bytes : List ℕ) (fault : RecordError) → IsWhole bytes → record_at bytes ≡ Err fault
    → (more : List ℕ) → HasNoRecord (bytes ++ more)
none_read bytes fault whole failed more game rest fits e =
    let front = whole_front bytes more game rest whole fits e in
    let read = ap record_at front.1 ∙ record_again game front.0 fits in
    cc (failed, read)

-- ---- a step

passes : (old : Window) (passed ahead : List ℕ) (place : ℕ) (left left' : Option (List ℕ))
    → passed ≡ old.ahead → ReadsOn passed ahead left left'
    → PassesOn old (record { current = []; ahead = ahead; place = place }) left left'
passes old passed ahead place left left' is on = record {
  read = on.read;
  bytes = on.bytes;
  parted = ap (λ (a : List ℕ). a ++ on.read) (sym is) ∙ sym on.joined;
}

pub bad_step : (old : Window) (passed ahead : List ℕ) (place : ℕ) (left left' : Option (List ℕ))
    → passed ≡ old.ahead → ReadsOn passed ahead left left' → IsWhole ahead
    → ((more : List ℕ) → HasNoRecord (ahead ++ more))
    → StepGives old (record { current = []; ahead = ahead; place = place }) left left'
    (Err BadPack)
bad_step old passed ahead place left None is on whole none =
    (passes old passed ahead place left None is on, refl, tt)
bad_step old passed ahead place left (Some rest) is on whole none = (
  passes old passed ahead place left (Some rest) is on,
  refl,
  (λ empty. omega (arith, whole.sized, ap length empty, length-append ahead rest), none rest),
)

-- a step to a record that stands in front
pub held_step : (old : Window) (passed ahead : List ℕ) (place size : ℕ)
    (left left' : Option (List ℕ))
    → passed ≡ old.ahead → ReadsOn passed ahead left left' → IsRecord (take size ahead)
    → StepGives old (record { current = take size ahead; ahead = drop size ahead; place = place })
    left left' (Ok true)
held_step old passed ahead place size left left' is on found = (
  record {
    read = on.read;
    bytes = on.bytes;
    parted = ap (λ (a : List ℕ). a ++ on.read) (sym is) ∙ sym on.joined
        ∙ sym (take-append-drop size ahead);
  },
  found,
)

-- a step that reading on ends
pub failed_step : (old : Window) (passed ahead : List ℕ) (place : ℕ) (left left' : Option (List ℕ))
    (error : RecordsError) → passed ≡ old.ahead → HoldsWhole passed ahead left left' (Err error)
    → StepGives old (record { current = []; ahead = ahead; place = place }) left left' (Err error)
failed_step old passed ahead place left None BadPack is held =
    (passes old passed ahead place left None is held.0, refl, tt)
failed_step old passed ahead place left (Some rest) BadPack is held =
    let same : ahead ++ rest ≡ ahead = ap (λ (more : List ℕ). ahead ++ more) held.3
    ∙ append-nil ahead in (
      passes old passed ahead place left (Some rest) is held.0,
      refl,
      (λ empty. held.1 (sym same ∙ empty), rw same (no_part ahead held.2)),
    )
failed_step old passed ahead place left left' InputTooLong is held = absurd held
failed_step old passed ahead place left left' Read is held = record {
  read = held.read;
  bytes = held.bytes;
  none = rw (← is) (no_part (passed ++ held.read) held.part);
}
failed_step old passed ahead place left left' OutOfMemory is held = tt

pub long_step : (old : Window) (passed ahead : List ℕ) (place size : ℕ)
    (left left' : Option (List ℕ)) → passed ≡ old.ahead → ReadsOn passed ahead left left'
    → size ≤ length ahead → IsRecord (take size ahead) → place ≤ largest_offset
    → largest_offset - place < size
    → StepGives old (record { current = []; ahead = ahead; place = place }) left left'
    (Err InputTooLong)
long_step old passed ahead place size left left' is on within found low high = (
  passes old passed ahead place left left' is on,
  refl,
  (
    take size ahead,
    drop size ahead,
    found,
    sym (take-append-drop size ahead),
    omega (arith, length-take-le size ahead within),
  ),
)

-- the bytes are whole where reading up to the whole of a record says that there are some
pub whole_held : (old new : List ℕ) (left left' : Option (List ℕ)) (some : Bool)
    → HoldsWhole old new left left' (Ok some) → some ≡ true
    → ReadsOn old new left left' × IsWhole new
whole_held old new left left' true held is = held
whole_held old new left left' false held is = absurd cc
