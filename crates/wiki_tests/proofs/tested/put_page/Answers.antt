use Rattle.std.proofs.Common.{◌∙◌, sym}
use Rattle.wiki_tests.proofs.TextLaws.{no_module, module_put}
use Rattle.wiki_tests.proofs.tested.put_page.Goals as goal

pub returns-then-is_module : goal.returns-then-is_module
returns-then-is_module c = module_put c.put_text.result c.args.page.now c.in_ok-title.title c.args.texts.now.entries c.put_text.new.texts.entries (sym c.is_module.ensures ∙ c.if-is_module.true) c.in_ok-title.ensures c.put_text.ensures

pub returns : goal.returns
returns c = no_module c.args.page.now c.args.texts.now.entries (sym c.is_module.ensures ∙ c.if-is_module.false)
