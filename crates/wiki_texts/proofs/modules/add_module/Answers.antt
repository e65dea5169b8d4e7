use Rattle.std.proofs.Common.{◌≡◌, ◌∙◌, ap, sym, length}
use Rattle.wiki_texts.proofs.ModuleLaws.{is_there, added, on_ok}
use Rattle.wiki_texts.proofs.modules.add_module.Goals as goal

pub returns-then-is_some : goal.returns-then-is_some
returns-then-is_some c = is_there c.args.page.now c.args.modules.now c.get.result c.requires.namespace c.get.ensures.found c.get.ensures.seen (sym c.is_some.ensures ∙ c.if-is_some.true)

pub returns : goal.returns
returns c =
    let size : length c.as_slice-text.result.now ≡ length c.args.page.now.bytes = ap length c.as_slice-text.ensures in
    on_ok _ _ c.add.result (λ is. added c.args.page.now c.args.modules.now c.add.new.self c.in_ok-title.title _ c.in_ok-title.ensures is c.requires.namespace size c.requires.code) c.add.ensures.ok
