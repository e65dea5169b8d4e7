use Rattle.std.proofs.Common.{sym, subst}
use Rattle.std.specs.Prelude.{IsSome}
use Rattle.lua_code.specs.WkBaseDeclaredTitleTitle.{Title}
use Rattle.wiki_expand.specs.WikiPagesPages.{find_page}
use Rattle.page_ground.specs.Ground.{ground_of}
use Rattle.page_tasks.proofs.Beginnings.{page_begins_with}
use Rattle.page_tasks.proofs.beginning.begin_page.Goals as goal

pub begin_expansion-requires-clause-held : goal.begin_expansion-requires-clause-held
begin_expansion-requires-clause-held c = subst (λ (t : Title). IsSome (find_page c.args.around.now.pages.now t)) (sym c.in_ok-title.ensures) c.requires

pub returns : goal.returns
returns c = page_begins_with (ground_of c.args.around.now) c.in_ok-title.title c.in_ok-scene.scene c.begin_expansion.result c.in_ok-title.ensures c.in_ok-scene.ensures c.begin_expansion.ensures
