-- Code of the modules of pages is code of whatever modules the texts mean.
use Rattle.std.proofs.Common.{◌≡◌, ◌∙◌, refl, sym, ap, List, is_some}
use Rattle.wk_base.specs.declared.title.Title.{Title}
use Rattle.wk_base.specs.Titles.{title_text}
use Rattle.wiki_texts.specs.WikiPagesPages.{Pages, find_page}
use Rattle.wiki_texts.specs.LuaMeaningWorld.{Modules}
use Rattle.lua_code.specs.Held.{TitledModules, modules_seen}
use Rattle.page_driver.specs.Ground.{AreModulesIn}
use Rattle.wiki_texts.specs.declared.raw.RawPage.{RawPage}
use Rattle.wiki_texts.specs.Pages.{page_map}
use Rattle.wiki_texts.specs.Modules.{module_text, AreMeantBy}
use Rattle.wiki_texts.specs.Code.{AreCodeOf}
use Rattle.wiki_texts.proofs.PageLaws.{map_holds}
use Rattle.wiki_texts.proofs.MeaningLaws.{module_agrees, unnamed, lacks}
use Rattle.wiki_batch.specs.Wikis.{HoldsModules}

pub agrees : (pages : List RawPage) (held : TitledModules) (modules : Modules) (page : Title) → AreCodeOf pages held → AreMeantBy pages modules → AreModulesIn page held modules
agrees pages held modules page code mean = record {
  agree = record {
    page = refl;
    modules = λ title. module_agrees (module_text pages (title_text title)) (modules title) (modules_seen held (title_text title)) (mean title) (code.code (title_text title));
  };
  named = λ title h. lacks (module_text pages (title_text title)) (modules title) (mean title) (unnamed pages (title_text title) h);
}

pub holds : (pages : List RawPage) (map : Pages) (held : TitledModules) → map ≡ page_map pages → AreCodeOf pages held → HoldsModules map held
holds pages map held is code title h = code.names title h ∙ sym (ap (λ (m : Pages). is_some (find_page m title)) is ∙ map_holds pages title)
