-- TEST MODULES of a folder, and what is tested of them.
use Rattle.std.specs.Prelude.{ℕ, Bool, ◌==◌, ◌&&◌, List, map, filter, Option, option_map, Result, Ok, Err, codes}
use Rattle.std.specs.List.{filter_map, ends_with}
use Rattle.wk_base.specs.declared.title.Title.{Title}
use Rattle.wk_base.specs.Titles.{is_module}
use Rattle.lua_syntax.specs.declared.fault.FaultAt.{FaultAt}
use Rattle.lua_syntax.specs.Tree.{Block}
use Rattle.case_names.specs.Cases.{cases_of}
use Rattle.lua_meaning.specs.World.{Module, Modules}
use Rattle.wiki_batch.specs.WikiTextsDeclaredRawRawPage.{RawPage}
use Rattle.wiki_output.specs.Choice.{in_text_order}
use Rattle.wiki_tests.specs.declared.tested.TestModule.{TestModule}

-- a module whose name ends so is a test module
abbrev pub is_test_title : Title → Bool
is_test_title title = is_module title.ns && ends_with ◌==◌ title.name (codes "/testcases")

abbrev pub title_in : RawPage → Title
title_in page = page.title

-- the titles of test modules, in the order of their texts, byte by byte
abbrev pub test_titles : List RawPage → List Title
test_titles pages = in_text_order (filter is_test_title (map title_in pages))

-- the cases of a text, or its fault
abbrev pub cases_in : Result Block FaultAt → Result (List (List ℕ)) FaultAt
cases_in (Ok tree) = Ok (cases_of tree)
cases_in (Err fault) = Err fault

abbrev pub tested : Title → Module → TestModule
tested title m = record { title = title; cases = cases_in m.chunk }

abbrev pub tested_of : Modules → Title → Option TestModule
tested_of modules title = option_map (tested title) (modules title)

-- what is tested of the modules of these titles, where texts mean these modules
abbrev pub all_tested : Modules → List Title → List TestModule
all_tested modules titles = filter_map (tested_of modules) titles
