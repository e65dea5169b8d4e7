use Rattle.std.proofs.Common.{◌∙◌, ap, refl, sym, subst, ◌∷◌, [], ◌++◌, Ok, Err, codes}
use Rattle.std.proofs.lemmas.Result.{err_from_is_err_and}
use Rattle.mw_frames.specs.LuaMeaningArguments.{with_argument, gives_text}
use Rattle.mw_frames.specs.LuaMeaningMessages.{bad_argument, expected}
use Rattle.mw_frames.specs.LuaMeaningTag.{and_then, closed_by}
use Rattle.mw_frames.specs.LuaBasicSeen.{Stops, Paid}
use Rattle.mw_frames.proofs.LuaBasicFound.{stopped, for_nothing}
use Rattle.mw_frames.specs.LuaStoreSeen.{seen}
use Rattle.mw_frame_texts.specs.Written.{attrs_written}
use Rattle.mw_frame_texts.proofs.Charged.{refuses_first}
use Rattle.mw_frame_texts.proofs.tagging.tag_named.Goals as goal

pub returns-in_err-attrs-clause-answer : goal.returns-in_err-attrs-clause-answer
returns-in_err-attrs-clause-answer c =
    let p = err_from_is_err_and c.from_residual.result c.from_residual.ensures.1 in
    let s = c.args.store.now in
    for_nothing _ s c.the_attributes.new.store c.args.left.now c.from_residual.result
    (stopped _ _ _ s c.the_attributes.new.store c.in_err-attrs.field-0.0 c.from_residual.result
    (refuses_first _ (closed_by c.args.name.now (seen s.texts c.args.value)) s c.the_attributes.new.store c.in_err-attrs.field-0.0 c.in_err-attrs.ensures.refused) refl (p.1 ∙ ap Err p.2))

pub returns-in_default-clause-answer : goal.returns-in_default-clause-answer
returns-in_default-clause-answer c =
    let s = c.args.store.now in
    let same = c.in_ok-attrs.ensures.same in
    let name = c.args.name.now in
    let v = seen s.texts c.args.value in
    let none = rw (same, c.in_default.is) at (c.in_ok-content.ensures name) in
    let message = bad_argument 3 (codes "tag") (expected (codes "string") (v ∷ [])) in
    let behind = ap (λ x. and_then x (closed_by name v)) c.in_ok-attrs.ensures.found ∙ ap (and_then (Ok (attrs_written c.in_ok-attrs.attrs))) none in
    let is = ap (λ x. with_argument s.heap x (λ more. gives_text s.heap (codes "<" ++ name ++ more))) behind in
    let stops = rw same at c.refuse_kind.ensures.raises in
    for_nothing _ s c.refuse_kind.new.store c.args.left.now (Err c.refuse_kind.result) (subst (λ q. Stops q c.refuse_kind.new.store c.refuse_kind.result) (sym is) stops)

pub returns-clause-answer : goal.returns-clause-answer
returns-clause-answer c =
    let s = c.args.store.now in
    let same = c.in_ok-attrs.ensures.same in
    let name = c.args.name.now in
    let v = seen s.texts c.args.value in
    let some = rw (same, c.in-Some.is) at (c.in_ok-content.ensures name) in
    let behind = ap (λ x. and_then x (closed_by name v)) c.in_ok-attrs.ensures.found ∙ ap (and_then (Ok (attrs_written c.in_ok-attrs.attrs))) some in
    let is = ap (λ x. with_argument s.heap x (λ more. gives_text s.heap (codes "<" ++ name ++ more))) behind in
    let answer = rw (same, c.as_slice.ensures) at c.give_tag.ensures.answer in
    subst (λ q. Paid q s c.args.left.now c.give_tag.new.store c.give_tag.new.left c.give_tag.result) (sym is) answer
