-- NO GLOBAL THAT A RUN USES IS MISSED: where the names of a module's globals can be told, each name that a run notes of a module that is
-- reached is one of them.
use Rattle.std.specs.Prelude.{◌≡◌, ◌⊎◌, ℕ, List, [], ◌∷◌, slice_get, Some, Ok}
use Rattle.page_run.specs.Trace.{Note, trace}
use Rattle.wk_base.specs.declared.left.Left.{Left}
use Rattle.wk_base.specs.declared.title.Title.{Title}
use Rattle.wk_base.specs.declared.title.Namespace.TheVariants.{Module as InModules}
use Rattle.wk_base.specs.Titles.{title_text}
use Rattle.lua_meaning.specs.LuaSyntaxTree.{Block}
use Rattle.page_run.specs.State.{Reply, start}
use Rattle.page_run.specs.Perform.{wait}
use Rattle.lua_meaning.specs.Questions.{Answer}
use Rattle.lua_meaning.specs.World.{Module, World}
use Rattle.lua_meaning.specs.Home.{home}
use Rattle.lua_meaning.specs.Things.{meaning_of}
use Rattle.lua_meaning.specs.Start.{Work, run_of}
use Rattle.lua_uses.specs.Modules.{Named, Names, reached, uses}

-- an item of a list
abbrev pub IsIn : {A : Type 0} → A → List A → Type 0
IsIn x [] = ⊥
IsIn x (y ∷ ys) = (y ≡ x) ⊎ IsIn x ys

-- THE NOTES OF A RUN, in order: each read or write of a global variable by its name, with the title of the module in whose text that stands
abbrev pub notes_of : World → Work → Left → List (Reply Answer) → List Note
notes_of world work left replies = trace (meaning_of world) wait (run_of world work) (start home left replies)

-- these are modules, with one for each title
abbrev pub AreModules : List Named → Type 0
AreModules modules = (m : Named) → IsIn m modules → m.title.ns ≡ InModules

abbrev pub OneForEach : List Named → Type 0
OneForEach modules = (m n : Named) → IsIn m modules → IsIn n modules → m.title ≡ n.title → m ≡ n

-- each module of the world that has a tree is one of these
abbrev pub HasNoOther : World → List Named → Type 0
HasNoOther world modules =
    (title : Title) (m : Module) (chunk : Block) → world.modules title ≡ Some m → m.chunk ≡ Ok chunk → IsIn (record { title = title; chunk = chunk }) modules

-- In every world with these modules, of every work, from every allowance and after any replies: a note of a module that is reached from the
-- root has its name in the answer.
abbrev pub NoneIsMissed : Type 0
NoneIsMissed =
    (modules : List Named) (root : ℕ) (names : List (List ℕ)) → uses modules root ≡ Names names → AreModules modules → OneForEach modules
    → (world : World) → HasNoOther world modules → (work : Work) (left : Left) (replies : List (Reply Answer)) (note : Note) → IsIn note (notes_of world work left replies)
    → (at : ℕ) (m : Named) → IsIn at (reached modules root) → slice_get modules at ≡ Some m → note.source ≡ title_text m.title → IsIn note.name names
