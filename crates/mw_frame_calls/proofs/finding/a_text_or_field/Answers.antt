use Rattle.std.proofs.Common.{◌≡◌, ◌∙◌, ap, sym, subst, List, [], ◌∷◌, Ok}
use Rattle.mw_frame_texts.specs.LuaMeaningActs.{Frame}
use Rattle.mw_frame_texts.specs.LuaMeaningArguments.{a_text}
use Rattle.mw_frame_texts.specs.LuaMeaningFrameMethods.{text_or_field}
use Rattle.mw_frame_texts.specs.LuaStoreSeen.{text_at}
use Rattle.mw_frame_texts.specs.LuaBasicArguments.{text_bytes}
use Rattle.mw_frame_texts.specs.LuaBasicSeen.{values_seen, Refuses}
use Rattle.mw_frame_calls.proofs.Values.{if_ok, if_err}
use Rattle.mw_frame_calls.proofs.finding.a_text_or_field.Goals as goal

pub returns-in-Some-clause-found : goal.returns-in-Some-clause-found
returns-in-Some-clause-found c =
    let s = c.args.store.now in
    let name = text_at s.texts c.args.name.at in
    let given = values_seen s.texts c.args.given.now in
    let field = values_seen s.texts (c.get.result ∷ []) in
    if_ok (λ text. a_text 2 c.args.function.now field ≡ Ok (text_bytes text)) (λ text. (frames : List Frame) → a_text 2 c.args.function.now (text_or_field s.heap frames name given) ≡ Ok (text_bytes text)) c.a_text.result c.a_text.ensures.found
    (λ text e frames. ap (a_text 2 c.args.function.now) (c.in-Some.ensures.field s.texts s.heap frames name ∙ ap (λ v. v ∷ []) (sym c.get.ensures.value)) ∙ e)

pub returns-in-Some-clause-refused : goal.returns-in-Some-clause-refused
returns-in-Some-clause-refused c =
    let s = c.args.store.now in
    let name = text_at s.texts c.args.name.at in
    let given = values_seen s.texts c.args.given.now in
    let field = values_seen s.texts (c.get.result ∷ []) in
    if_err (Refuses (a_text 2 c.args.function.now field) s c.a_text.new.store) (λ e. (frames : List Frame) → Refuses (a_text 2 c.args.function.now (text_or_field s.heap frames name given)) s c.a_text.new.store e) c.a_text.result c.a_text.ensures.refused
    (λ e none frames. subst (λ vs. Refuses (a_text 2 c.args.function.now vs) s c.a_text.new.store e) (sym (c.in-Some.ensures.field s.texts s.heap frames name ∙ ap (λ v. v ∷ []) (sym c.get.ensures.value))) none)

pub returns-in-None-clause-refused : goal.returns-in-None-clause-refused
returns-in-None-clause-refused c =
    let s = c.args.store.now in
    let name = text_at s.texts c.args.name.at in
    let given = values_seen s.texts c.args.given.now in
    if_err (Refuses (a_text 2 c.args.function.now given) s c.a_text-in-None.new.store) (λ e. (frames : List Frame) → Refuses (a_text 2 c.args.function.now (text_or_field s.heap frames name given)) s c.a_text-in-None.new.store e) c.a_text-in-None.result c.a_text-in-None.ensures.refused
    (λ e none frames. subst (λ vs. Refuses (a_text 2 c.args.function.now vs) s c.a_text-in-None.new.store e) (sym (c.in-None.ensures.field s.texts s.heap frames name)) none)
