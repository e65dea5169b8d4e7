use Rattle.std.proofs.Common.{◌∙◌, sym}
use Rattle.wiki_tests.proofs.TextLaws.{stays}
use Rattle.wiki_tests.proofs.tested.put_text.Goals as goal

pub returns-then-is_there : goal.returns-then-is_there
returns-then-is_there c = stays c.args.texts.now.entries c.args.title c.args.text.now (sym c.is_there.ensures ∙ c.if-is_there.true)

pub insert_text-requires : goal.insert_text-requires
insert_text-requires c = sym c.is_there.ensures ∙ c.if-is_there.false
