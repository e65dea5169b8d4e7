use Rattle.std.proofs.Common.{◌∙◌, ap, arith}
use Rattle.lua_store.specs.Seen.{StoreView}
use Rattle.lua_flat_loop.proofs.ConstantLaws.{texts_begin, texts_go_on, texts_end}
use Rattle.lua_flat_loop.proofs.preparing.texts_in.Goals as goal

pub loop-text-init : goal.loop-text-init
loop-text-init c = texts_begin _ _ _ c.new-values.ensures

pub loop-text-preserved : goal.loop-text-preserved
loop-text-preserved c =
    texts_go_on _ _ _ _ _ c.text-item.result _ _ _ c.loop-text.invariant c.loop-text-test.true c.in_ok-id.ensures.later (ap (λ (x : StoreView). x.heap) c.in_ok-id.ensures.added) c.in_ok-id.ensures.of
    (c.in_ok-id.ensures.there ∙ c.as_slice.ensures ∙ c.text-item.is) c.in_ok-push.ensures.ok

pub returns : goal.returns
returns c = texts_end _ _ _ _ _ c.loop-text.invariant (omega (arith, c.loop-text-test.false))
