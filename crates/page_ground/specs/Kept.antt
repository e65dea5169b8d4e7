-- WHAT IS KEPT of the data loads of a page.
use Rattle.std.specs.Prelude.{◌≡◌, ◌⊎◌, ◌<◌, ◌≤◌, true, List, [], ◌∷◌, ◌++◌, Option, Some, None, is_some}
use Rattle.std.specs.Borrow.{Bor}
use Rattle.std.specs.Map.{lookup}
use Rattle.std.specs.List.{AllByRecursion}
use Rattle.wk_base.specs.declared.left.Left.{Left}
use Rattle.wk_base.specs.declared.title.Title.{Title}
use Rattle.wk_base.specs.contracts.title.TitlePartialEq.TheImpl as titles
use Rattle.wk_base.specs.Titles.{is_module, title_text}
use Rattle.page_run.specs.Walk.{WalkState, is_in}
use Rattle.lua_code.specs.LuaMeaningWorld.{Modules}
use Rattle.page_meaning.specs.Laws.{IsKept}
use Rattle.page_ground.specs.declared.keep.Kept.{Kept}
use Rattle.page_ground.specs.Ground.{Ground, page_of, wiki_of}
use Rattle.page_ground.specs.Seen.{data_seen, CanBePut}

abbrev pub kept_for : List (Title × Kept) → Title → Option Kept
kept_for kept title = lookup (titles.ghosts.eq title) kept

-- what is kept of a module stays
abbrev pub kept_beside : Option Kept → List (Title × Kept) → Title → Kept → List (Title × Kept)
kept_beside (Some e) keep title kept = keep
kept_beside None keep title kept = keep ++ (title, kept) ∷ []

abbrev pub keep_with : List (Title × Kept) → Title → Kept → List (Title × Kept)
keep_with keep title kept = kept_beside (kept_for keep title) keep title kept

-- what is left covers what is kept of a module, or nothing is
abbrev pub IsShort : Option Kept → Left → Type 0
IsShort (Some e) left = (left.steps < e.charge) ⊎ (left.calls < e.height)
IsShort None left = Unit {0}

abbrev pub FindsKept : List (Title × Kept) → Title → Left → Option (Bor Kept) → Type 0
FindsKept keep title left (Some b) = (kept_for keep title ≡ Some b.now) × (b.now.charge ≤ left.steps) × (b.now.height ≤ left.calls)
FindsKept keep title left None = IsShort (kept_for keep title) left

-- all data can be put into a store, and all titles are of modules
abbrev pub EntryOf : Title × Kept → Type 0
EntryOf e = (is_module e.0.ns ≡ true) × CanBePut e.1.given

abbrev pub KeepOf : List (Title × Kept) → Type 0
KeepOf keep = AllByRecursion EntryOf keep

module _ (g : Ground) (modules : Modules) where
  -- each is what some load came to, with its charge and its height
  abbrev pub IsEntry : Title × Kept → Type 0
  IsEntry e = IsKept (wiki_of g modules) (page_of g) e.0 (data_seen e.1.given) e.1.charge e.1.height

  -- and they are kept of the modules whose loads completed so far
  pub record Keeps (keep : List (Title × Kept)) (now : WalkState) : Type 0 where
    pub all : AllByRecursion IsEntry keep
    pub names : (title : Title) → is_module title.ns ≡ true → is_in (title_text title) now.completed_modules ≡ is_some (kept_for keep title)
