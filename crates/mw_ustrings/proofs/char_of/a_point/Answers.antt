use Rattle.std.proofs.Common.{◌≡◌, ◌∙◌, ap, sym, rules, w64, to_z, of_z}
use Rattle.std.specs.Prelude.{codes}
use Rattle.mw_frame_texts.specs.LuaMeaningMessages.{bad_argument}
use Rattle.mw_frame_texts.specs.LuaMeaningValues.{number_in}
use Rattle.mw_frame_texts.specs.LuaMeaningArguments.{some_number, some_value}
use Rattle.mw_frame_texts.specs.LuaBasicSeen.{values_seen}
use Rattle.mw_frame_texts.proofs.LuaBasicFound.{refused}
use Rattle.mw_frame_texts.specs.LuaMeaningUstring.{point_text}
use Rattle.mw_ustrings.proofs.char_of.a_point.Goals as goal

pub number_in-requires : goal.number_in-requires
number_in-requires c = c.first.ensures.of c.args.store.now c.requires.of

pub returns-in-None-clause-refused : goal.returns-in-None-clause-refused
returns-in-None-clause-refused c =
    let vs = values_seen c.args.store.now.texts c.args.given.now in
    let none = c.in-None.ensures ∙ ap number_in (c.first.ensures.value c.args.store.now.texts) in
    refused _ _ c.args.store.now c.refuse_kind_at.new.store c.refuse_kind_at.result (ap (λ o. point_text c.args.n (some_number c.args.n (codes "char") vs o)) (sym none)) c.refuse_kind_at.ensures.raises

pub returns-in-Some-point-clause-found : goal.returns-in-Some-point-clause-found
returns-in-Some-point-clause-found c =
    let vs = values_seen c.args.store.now.texts c.args.given.now in
    let some = c.in-Some.ensures ∙ ap number_in (c.first.ensures.value c.args.store.now.texts) in
    let whole : to_z w64 (of_z w64 c.in-Some.code) ≡ c.in-Some.code = search rules in
    let made = rw whole at c.in-Some-point.ensures in
    ap (λ o. point_text c.args.n (some_number c.args.n (codes "char") vs o)) (sym some) ∙ ap (some_value (bad_argument c.args.n (codes "char") (codes "out of range"))) made

pub returns-in-None-point-clause-refused : goal.returns-in-None-point-clause-refused
returns-in-None-point-clause-refused c =
    let vs = values_seen c.args.store.now.texts c.args.given.now in
    let some = c.in-Some.ensures ∙ ap number_in (c.first.ensures.value c.args.store.now.texts) in
    let whole : to_z w64 (of_z w64 c.in-Some.code) ≡ c.in-Some.code = search rules in
    let none = rw whole at c.in-None-point.ensures in
    refused _ _ c.args.store.now c.refuse_at.new.store c.refuse_at.result
    (ap (λ o. point_text c.args.n (some_number c.args.n (codes "char") vs o)) (sym some) ∙ ap (some_value (bad_argument c.args.n (codes "char") (codes "out of range"))) none) c.refuse_at.ensures.raises
