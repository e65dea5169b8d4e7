use Rattle.lua_reading.proofs.expressions.Exits.{more_after, is_class, isn't, name_not_eof}
use Rattle.lua_reading.proofs.functions.Bodies.{params_begin, params_dots, params_last, params_unexpected}
use Rattle.lua_parser.proofs.lemmas.ParameterExits.{list_made, dots_not_end, params_more_read}
use Rattle.lua_parser.proofs.params.params.Goals as goal

pub params-init : goal.params-init
params-init c = rw c.new-names.ensures (c.requires.inside, params_begin _ _ (isn't _ _ _ _ c.class_at.ensures c.in_default.not-RightParen))

pub returns-in-Dots : goal.returns-in-Dots
returns-in-Dots c =
    let e = is_class _ _ _ _ c.class_at-in-params.ensures c.in-Dots.is in
    list_made _ _ _ _ _ _ c.ended-in-Dots.ensures (λ a. params_dots _ a _ _ _ c.params.invariant.1 e (more_after _ _ _ c.requires.ended c.params.invariant.0 e dots_not_end))

pub class_at-requires-in-Name : goal.class_at-requires-in-Name
class_at-requires-in-Name c = more_after _ _ _ c.requires.ended c.params.invariant.0 (is_class _ _ _ _ c.class_at-in-params.ensures c.in-Name.is) name_not_eof

pub returns-in_default-class_at-2 : goal.returns-in_default-class_at-2
returns-in_default-class_at-2 c =
    let e = is_class _ _ _ _ c.class_at-in-params.ensures c.in-Name.is in
    list_made _ _ _ _ _ _ c.ended-in_default-class_at-2.ensures (λ a. params_last _ a _ _ _ _ _ c.params.invariant.1 e (more_after _ _ _ c.requires.ended c.params.invariant.0 e name_not_eof)
    (isn't _ _ _ _ c.class_at-in-Name.ensures c.in_default-class_at-2.not-Comma) c.in_ok-copy_at-in-Name.ensures c.in_ok-push-in-Name.ensures.ok)

pub params-preserved : goal.params-preserved
params-preserved c =
    params_more_read _ _ _ _ _ _ c.requires.ended c.params.invariant.0 c.params.invariant.1 (is_class _ _ _ _ c.class_at-in-params.ensures c.in-Name.is) (is_class _ _ _ _ c.class_at-in-Name.ensures c.in-Comma.is)
    c.in_ok-copy_at-in-Name.ensures c.in_ok-push-in-Name.ensures.ok

pub returns-in_default-class_at : goal.returns-in_default-class_at
returns-in_default-class_at c = rw c.fault_at.ensures (λ a. params_unexpected _ a _ _ _ c.params.invariant.1 c.params.invariant.0 (isn't _ _ _ _ c.class_at-in-params.ensures c.in_default-class_at.not-Dots) (isn't _ _ _ _ c.class_at-in-params.ensures c.in_default-class_at.not-Name))
