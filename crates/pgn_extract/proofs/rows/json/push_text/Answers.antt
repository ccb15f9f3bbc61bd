use Rattle.std.proofs.Common.{◌≡◌, ◌++◌, true, false, OnOk, flat_map, refl, subst}
use Rattle.std.specs.Str.{is_utf8}
use Rattle.std.proofs.lemmas.Bool.{false_from_ne_true}
use Rattle.std.proofs.lemmas.Str.{IsUtf8-from_is_utf8, is_utf8-from_IsUtf8}
use Rattle.pgn_extract.specs.Public.Json.{escaped, latin, text_of}
use Rattle.pgn_extract.proofs.rows.json.push_text.Goals as goal

pub returns-in-Ok : goal.returns-in-Ok
returns-in-Ok c =
    let value = c.args.value.now in
    let old = c.args.out.now.items in
    let new = c.push_contents.new.out.items in
    let utf8 : is_utf8 value ≡ true = is_utf8-from_IsUtf8 value c.in-Ok.ensures.cases.1 in
    let same : value ≡ text_of value = rw utf8 refl in
    subst (λ t. OnOk c.push_contents.result (new ≡ old ++ flat_map escaped t)) same
    c.push_contents.ensures

pub returns-in-Err : goal.returns-in-Err
returns-in-Err c =
    let value = c.args.value.now in
    let old = c.args.out.now.items in
    let new = c.push_all_latin.new.out.items in
    let none : is_utf8 value ≡ false =
    false_from_ne_true (is_utf8 value) (λ is. c.in-Err.ensures.cases.0
    (IsUtf8-from_is_utf8 value is))
    in
    let same : flat_map latin value ≡ text_of value = rw none refl in
    subst (λ t. OnOk c.push_all_latin.result (new ≡ old ++ flat_map escaped t)) same
    c.push_all_latin.ensures
