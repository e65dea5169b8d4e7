use Rattle.std.proofs.Common.{◌∙◌, sym, ap, inl}
use Rattle.std.specs.Prelude.{◌==◌, codes}
use Rattle.std.specs.List.{starts_with}
use Rattle.page_ground.proofs.KeepLaws.{tells_held, held_seen}
use Rattle.page_ground.proofs.held_modules.is_held.Goals as goal

pub returns-then-is_module : goal.returns-then-is_module
returns-then-is_module c =
    let module_ = sym c.is_module.ensures ∙ c.if-is_module.true in
    tells_held c.args.modules.now c.args.title.now c.is_some-held.result (c.is_some-held.ensures ∙ held_seen _ _ _ (c.get.ensures.seen module_)) module_

pub returns-else-starts_with : goal.returns-else-starts_with
returns-else-starts_with c = inl (ap (λ ts. starts_with ◌==◌ ts (codes "Module:")) (sym (c.as_slice.ensures ∙ rw c.in-Ok.is at c.text.ensures)) ∙ sym c.starts_with.ensures.value ∙ c.if-starts_with.false)
