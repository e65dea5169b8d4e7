use Rattle.wiki_texts.proofs.ModuleLaws.{passed_over}
use Rattle.wiki_texts.proofs.PreparedLaws.{no_module, is_one}
use Rattle.wiki_texts.proofs.modules.add_code.Goals as goal

pub returns-in-None : goal.returns-in-None
returns-in-None c = passed_over c.args.page.now c.args.modules.now (no_module _ c.args.page.now.bytes (rw c.in-None.is at c.requires))

pub add_module-requires : goal.add_module-requires
add_module-requires c =
    let one = is_one _ c.args.page.now.bytes _ (rw c.in-Some.is at c.requires) in
    record { namespace = one.0; code = one.1 }
