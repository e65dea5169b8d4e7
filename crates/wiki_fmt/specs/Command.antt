-- THE COMMAND that words are: `print` or `lint`, a folder, and a module of it.
use Rattle.std.specs.Prelude.{ℕ, Bool, if◌then◌else◌, is_some, List, [], ◌∷◌, Option, Some, None, Result, Ok, Err, codes}
use Rattle.std.specs.Str.{bytes_eq}
use Rattle.wk_tool.specs.WkBaseDeclaredTitleTitle.{Title}
use Rattle.wk_tool.specs.WkBaseDeclaredTitleNamespaceTheVariants.{Module}
use Rattle.wk_tool.specs.WkBaseDeclaredTitleReadTitleFault.{TitleFault}
use Rattle.wk_tool.specs.WkBaseTitles.{title_of, is_module}
use Rattle.wiki_fmt.specs.declared.command.Verb.{Verb}
use Rattle.wiki_fmt.specs.declared.command.Verb.TheVariants.{Print, Lint}

pub record Command : Type 0 where
  pub verb : Verb
  pub folder : List ℕ
  pub title : Title

abbrev pub in_modules : Result Title TitleFault → Option Title
in_modules (Err fault) = None
in_modules (Ok title) = if is_module title.ns then Some title else None

-- the title that a text is read as, where no prefix means Module; none of another namespace
abbrev pub module_of : List ℕ → Option Title
module_of text = in_modules (title_of text Module)

abbrev pub verb_of : List ℕ → Option Verb
verb_of word = if bytes_eq word (codes "print") then Some Print else if bytes_eq word (codes "lint") then Some Lint else None

abbrev pub command_by : Option Verb → List ℕ → Option Title → Option Command
command_by (Some verb) folder (Some title) = Some (record { verb = verb; folder = folder; title = title })
command_by verb folder title = None

-- the command that the words are, if they are one
abbrev pub command_of : List (List ℕ) → Option Command
command_of (verb ∷ folder ∷ text ∷ []) = command_by (verb_of verb) folder (module_of text)
command_of _ = None

abbrev pub is_command : List (List ℕ) → Bool
is_command words = is_some (command_of words)
