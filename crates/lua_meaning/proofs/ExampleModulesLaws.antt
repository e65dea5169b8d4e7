-- EXAMPLES of modules that ask for modules, and of data modules. They compute.
use Rattle.std.proofs.Common.{refl}
use Rattle.page_run.specs.Perform.{perform}
use Rattle.lua_syntax.specs.WkBaseTitles.{title_text, prefix_of, title_of, namespace_named, prefixed_namespaces}
use Rattle.std.specs.Fmt.{digits}
use Rattle.std.specs.Str.{is_utf8, chars}
use lib.Utf8.{encode}
use Rattle.lua_format.specs.LuaNumberNumerals.{decimal_of, numeral_of, trimmed, digits_of_base, read_number_of, read_in_base_of}
use Rattle.lua_meaning.specs.ExampleModules.{RequiresOnce, FalseIsKept, RequiresItself, Loops, LoopsThrough, RunsAgain, NoModule, QuotesCost, ModuleLevels, ModuleCosts, Strict, StrictAnew, LoadsOnce, LoadedAgain, LoadFails, NoData, WrongData, DataHasNoFrame, ModuleIsNoTable, ModuleIsNotHeld, AllModules}

requires_once : RequiresOnce
unfolding perform digits title_text prefix_of decimal_of numeral_of trimmed digits_of_base read_number_of read_in_base_of title_of namespace_named prefixed_namespaces is_utf8 chars encode
requires_once = refl

false_is_kept : FalseIsKept
unfolding perform digits title_text prefix_of decimal_of numeral_of trimmed digits_of_base read_number_of read_in_base_of title_of namespace_named prefixed_namespaces is_utf8 chars encode
false_is_kept = refl

requires_itself : RequiresItself
unfolding perform digits title_text prefix_of decimal_of numeral_of trimmed digits_of_base read_number_of read_in_base_of title_of namespace_named prefixed_namespaces is_utf8 chars encode
requires_itself = refl

loops : Loops
unfolding perform digits title_text prefix_of decimal_of numeral_of trimmed digits_of_base read_number_of read_in_base_of title_of namespace_named prefixed_namespaces is_utf8 chars encode
loops = refl

loops_through : LoopsThrough
unfolding perform digits title_text prefix_of decimal_of numeral_of trimmed digits_of_base read_number_of read_in_base_of title_of namespace_named prefixed_namespaces is_utf8 chars encode
loops_through = refl

runs_again : RunsAgain
unfolding perform digits title_text prefix_of decimal_of numeral_of trimmed digits_of_base read_number_of read_in_base_of title_of namespace_named prefixed_namespaces is_utf8 chars encode
runs_again = refl

no_module : NoModule
unfolding perform digits title_text prefix_of decimal_of numeral_of trimmed digits_of_base read_number_of read_in_base_of title_of namespace_named prefixed_namespaces is_utf8 chars encode
no_module = refl

quotes_cost : QuotesCost
unfolding perform digits title_text prefix_of decimal_of numeral_of trimmed digits_of_base read_number_of read_in_base_of title_of namespace_named prefixed_namespaces is_utf8 chars encode
quotes_cost = (refl, refl)

module_levels : ModuleLevels
unfolding perform digits title_text prefix_of decimal_of numeral_of trimmed digits_of_base read_number_of read_in_base_of title_of namespace_named prefixed_namespaces is_utf8 chars encode
module_levels = refl

module_costs : ModuleCosts
unfolding perform digits title_text prefix_of decimal_of numeral_of trimmed digits_of_base read_number_of read_in_base_of title_of namespace_named prefixed_namespaces is_utf8 chars encode
module_costs = (refl, refl)

strict : Strict
unfolding perform digits title_text prefix_of decimal_of numeral_of trimmed digits_of_base read_number_of read_in_base_of title_of namespace_named prefixed_namespaces is_utf8 chars encode
strict = refl

strict_anew : StrictAnew
unfolding perform digits title_text prefix_of decimal_of numeral_of trimmed digits_of_base read_number_of read_in_base_of title_of namespace_named prefixed_namespaces is_utf8 chars encode
strict_anew = refl

loads_once : LoadsOnce
unfolding perform digits title_text prefix_of decimal_of numeral_of trimmed digits_of_base read_number_of read_in_base_of title_of namespace_named prefixed_namespaces is_utf8 chars encode
loads_once = refl

loaded_again : LoadedAgain
unfolding perform digits title_text prefix_of decimal_of numeral_of trimmed digits_of_base read_number_of read_in_base_of title_of namespace_named prefixed_namespaces is_utf8 chars encode
loaded_again = refl

load_fails : LoadFails
unfolding perform digits title_text prefix_of decimal_of numeral_of trimmed digits_of_base read_number_of read_in_base_of title_of namespace_named prefixed_namespaces is_utf8 chars encode
load_fails = refl

no_data : NoData
unfolding perform digits title_text prefix_of decimal_of numeral_of trimmed digits_of_base read_number_of read_in_base_of title_of namespace_named prefixed_namespaces is_utf8 chars encode
no_data = refl

wrong_data : WrongData
unfolding perform digits title_text prefix_of decimal_of numeral_of trimmed digits_of_base read_number_of read_in_base_of title_of namespace_named prefixed_namespaces is_utf8 chars encode
wrong_data = refl

data_has_no_frame : DataHasNoFrame
unfolding perform digits title_text prefix_of decimal_of numeral_of trimmed digits_of_base read_number_of read_in_base_of
data_has_no_frame = refl

module_is_no_table : ModuleIsNoTable
unfolding perform digits title_text prefix_of decimal_of numeral_of trimmed digits_of_base read_number_of read_in_base_of title_of namespace_named prefixed_namespaces is_utf8 chars encode
module_is_no_table = refl

module_is_not_held : ModuleIsNotHeld
unfolding perform digits title_text prefix_of decimal_of numeral_of trimmed digits_of_base read_number_of read_in_base_of title_of namespace_named prefixed_namespaces is_utf8 chars encode
module_is_not_held = refl

pub all_modules : AllModules
all_modules = (requires_once, false_is_kept, requires_itself, loops, loops_through, runs_again, no_module, quotes_cost, module_levels, module_costs, strict, strict_anew, loads_once, loaded_again, load_fails, no_data, wrong_data, data_has_no_frame, module_is_no_table, module_is_not_held)
