use Rattle.std.proofs.Common.{ap, ◌∙◌, refl, sym}
use Rattle.std.proofs.lemmas.Result.{on_ok_weaker}
use Rattle.lua_pattern.specs.declared.item.Part.TheVariants as part
use Rattle.lua_pattern.specs.Sets.{turned, in_any}
use Rattle.lua_pattern.proofs.Tables.{put_part, put_again}
use Rattle.lua_pattern.proofs.prepared.put_class.Goals as goal

pub returns-then-has_kind : goal.returns-then-has_kind
returns-then-has_kind c = λ a k. put_again (in_any a c.args.classes.now k) (turned c.args.negated (a.has c.args.class k)) (λ h. ap (λ l. in_any a l k) (sym c.as_slice.ensures) ∙ c.if-has_kind.ensures refl a k h)

pub returns : goal.returns
returns c =
    on_ok_weaker c.push.result
    (λ e a k. ap (λ l. in_any a l k) e ∙ put_part a c.args.classes.now (part.Kind c.args.class c.args.negated) k)
    c.push.ensures.ok
