-- WHAT THE CODE KEEPS of the texts of modules, and when that is what the pages mean.
use Rattle.std.specs.Prelude.{◌≡◌, ℕ, if◌then◌else◌, List, [], ◌∷◌, ◌++◌, Option, Some, None, option_map, Result}
use Rattle.std.specs.Borrow.{Bor}
use Rattle.std.specs.Map.{lookup}
use Rattle.std.specs.Str.{bytes_eq}
use Rattle.wk_base.specs.declared.title.Title.{Title}
use Rattle.wk_base.specs.Titles.{title_text}
use Rattle.lua_syntax.specs.declared.fault.FaultAt.{FaultAt}
use Rattle.lua_syntax.specs.Tree.{Block}
use Rattle.lua_meaning.specs.World.{Modules}
use Rattle.wiki_batch.specs.WikiTextsDeclaredRawRawPage.{RawPage}
use Rattle.wiki_batch.specs.WikiTextsModules.{module_text, IsTree, AreMeantBy}
use Rattle.wiki_tests.specs.declared.tested.TestModule.{TestModule}
use Rattle.wiki_tests.specs.Tested.{cases_in, test_titles, tested_of, all_tested}

-- texts, by the texts of their titles
abbrev pub TitledTexts : Type 0
TitledTexts = List (List ℕ × Bor (List ℕ))

abbrev pub text_named : TitledTexts → List ℕ → Option (List ℕ)
text_named texts name = option_map (λ t. t.now) (lookup (bytes_eq name) texts)

abbrev pub text_in : TitledTexts → Title → Option (List ℕ)
text_in texts title = text_named texts (title_text title)

-- the first text of a title counts
abbrev pub or_else : Option (List ℕ) → Option (List ℕ) → Option (List ℕ)
or_else (Some text) other = Some text
or_else None other = other

abbrev pub AddsText : List ℕ → List ℕ → TitledTexts → TitledTexts → Type 0
AddsText title text texts more = (name : List ℕ) → text_named more name ≡ or_else (text_named texts name) (if bytes_eq name title then Some text else None)

-- the texts of the modules of these pages
abbrev pub AreTexts : List RawPage → TitledTexts → Type 0
AreTexts pages texts = (name : List ℕ) → text_named texts name ≡ module_text pages name

-- one page more
abbrev pub AddsPage : RawPage → TitledTexts → TitledTexts → Type 0
AddsPage page texts more = (pages : List RawPage) → AreTexts pages texts → AreTexts (pages ++ page ∷ []) more

-- the cases of a text, or its fault, whichever of both it means
abbrev pub AreCases : List ℕ → Result (List (List ℕ)) FaultAt → Type 0
AreCases text cases = (chunk : Result Block FaultAt) → IsTree text chunk → cases ≡ cases_in chunk

-- what is tested of the module of a title, whatever modules the texts mean
abbrev pub IsTested : TitledTexts → Title → Option TestModule → Type 0
IsTested texts title m = (pages : List RawPage) (modules : Modules) → AreTexts pages texts → AreMeantBy pages modules → m ≡ tested_of modules title

abbrev pub AreTested : TitledTexts → List Title → List TestModule → Type 0
AreTested texts titles all = (pages : List RawPage) (modules : Modules) → AreTexts pages texts → AreMeantBy pages modules → all ≡ all_tested modules titles

abbrev pub AreTestModules : List RawPage → List TestModule → Type 0
AreTestModules pages all = (modules : Modules) → AreMeantBy pages modules → all ≡ all_tested modules (test_titles pages)
