-- WHAT THE PAGES OF A WIKI BECOME, each by itself.
use Rattle.std.specs.Prelude.{◌≡◌, List, Option, Some, option_map}
use Rattle.std.specs.List.{filter_map}
use Rattle.wk_base.specs.declared.left.Limits.{Limits}
use Rattle.wk_base.specs.declared.title.Title.{Title}
use Rattle.wiki_texts.specs.WikiMarkupTrees.{Trees}
use Rattle.wiki_texts.specs.WikiPagesPages.{Pages, direct_in}
use Rattle.wiki_texts.specs.LuaMeaningWorld.{Modules}
use Rattle.page_driver.specs.PageMeaningPage.{page}
use Rattle.page_driver.specs.declared.wiki.Page.{Page}
use Rattle.page_driver.specs.declared.wiki.Wiki.{Wiki}
use Rattle.page_driver.specs.Ground.{wiki_in, AreModulesIn}
use Rattle.page_driver.specs.Page.{full_of}

-- a page whose own text has these trees, expanded in a scene without arguments, with all of its limits left
abbrev pub page_with : Modules → Pages → Limits → Title → Trees → Page
page_with modules map limits title trees =
    let expanded = page (wiki_in map modules) title trees (full_of limits) in
    record { title = title; text = expanded.text; left = expanded.left; repeat_charges = expanded.repeat_charges }

-- the page of a title, if it is held, where each invocation gives what these modules mean by it
unfoldable pub page_of : Modules → Pages → Limits → Title → Option Page
page_of modules map limits title = option_map (page_with modules map limits title) (direct_in map title)

-- the pages of held titles, in the order of the titles; none of them hangs on another
abbrev pub pages_of : Modules → Pages → Limits → List Title → List Page
pages_of modules map limits titles = filter_map (page_of modules map limits) titles

-- what is said of a page and of pages of a wiki, whatever modules the code that is held is of
abbrev pub AreOf : Wiki → Modules → Type 0
AreOf wiki modules = (page : Title) → AreModulesIn page wiki.modules modules

abbrev pub IsPage : Wiki → Limits → Title → Page → Type 0
IsPage wiki limits title page = (modules : Modules) → AreOf wiki modules → page_of modules wiki.pages limits title ≡ Some page

abbrev pub ArePages : Wiki → Limits → List Title → List Page → Type 0
ArePages wiki limits titles pages = (modules : Modules) → AreOf wiki modules → pages ≡ pages_of modules wiki.pages limits titles
