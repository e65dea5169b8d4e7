-- WHAT `expand_page` ENSURES.
use Rattle.std.specs.Prelude.{◌≡◌, ℕ, ◌+◌, ◌≤◌, Option, Some, None}
use Rattle.page_meaning.specs.WkBaseDeclaredLeftLeft.{Left}
use Rattle.mw_frame.specs.WkBaseDeclaredLeftLimits.{Limits}
use Rattle.lua_code.specs.WkBaseDeclaredTitleTitle.{Title}
use Rattle.lua_code.specs.LuaMeaningWorld.{Modules}
use Rattle.page_meaning.specs.WikiMarkupTrees.{Trees}
use Rattle.page_meaning.specs.Wiki.{Wiki}
use Rattle.page_meaning.specs.Page.{page}
use Rattle.page_meaning.specs.Tasks.{given_text}
use Rattle.page_tasks.specs.WikiPagesPages.{direct_in}
use Rattle.page_tasks.specs.PageGroundGround.{Ground, page_of, wiki_in, wiki_of, AreModulesIn, AreModulesOf}
use Rattle.page_tasks.specs.declared.task.Reply.{Reply}
use Rattle.page_tasks.specs.Seen.{reply_seen}
use Rattle.page_driver.specs.declared.wiki.Page.{Page}
use Rattle.page_driver.specs.declared.wiki.Wiki.{Wiki as HeldWiki}

-- all that a page may use
abbrev pub full_of : Limits → Left
full_of l = record { steps = l.steps; nodes = l.nodes; bytes = l.bytes; calls = l.calls; depth = l.depth; templates = l.templates }

-- THE PAGE is that of the meaning: its text, what is left, the charges of kept data; and at least the nodes that are begun were counted
-- from k on
pub record IsPage (wiki : Wiki) (title : Title) (trees : Trees) (full : Left) (k k' : ℕ) (p : Page) : Type 0 where
  pub title_is : p.title ≡ title
  pub text_is : p.text ≡ (page wiki title trees full).text
  pub left_is : p.left ≡ (page wiki title trees full).left
  pub repeat_charges_are : p.repeat_charges ≡ (page wiki title trees full).repeat_charges
  pub begun : k + (page wiki title trees full).begun ≤ k'

-- of a page that is held
abbrev pub IsHeldPage : Wiki → Title → Option Trees → Left → ℕ → ℕ → Page → Type 0
IsHeldPage wiki title (Some trees) full k k' p = IsPage wiki title trees full k k' p
IsHeldPage wiki title None full k k' p = ⊥

-- FOR ALL MODULES whose code is held it is the page of the wiki that has them: of this title,
abbrev pub IsPageOf : HeldWiki → Title → Limits → ℕ → ℕ → Page → Type 0
IsPageOf wiki title limits k k' p = (modules : Modules) → AreModulesIn title wiki.modules modules → IsHeldPage (wiki_in wiki.pages modules) title (direct_in wiki.pages title) (full_of limits) k k' p

-- or the one that is expanded
abbrev pub IsPageOn : Ground → Limits → ℕ → ℕ → Page → Type 0
IsPageOn g limits k k' p = (modules : Modules) → AreModulesOf g modules → IsHeldPage (wiki_of g modules) (page_of g) (direct_in g.pages (page_of g)) (full_of limits) k k' p

-- and so is the one that is made of what its expansion came to
abbrev pub ComesToPage : Ground → Limits → ℕ → ℕ → Reply → Left → ℕ → Type 0
ComesToPage g limits k k' reply left repeat_charges =
    (p : Page) → p.title ≡ page_of g → p.text ≡ given_text (reply_seen reply) → p.left ≡ left → p.repeat_charges ≡ repeat_charges → IsPageOn g limits k k' p
