-- EXAMPLES of `mw.html`, as modules use it. They compute.
use Rattle.std.proofs.Common.{refl}
use Rattle.page_run.specs.Perform.{perform}
use Rattle.lua_syntax.specs.WkBaseTitles.{title_text, prefix_of}
use Rattle.std.specs.Fmt.{digits}
use Rattle.lua_format.specs.LuaNumberNumerals.{decimal_of, numeral_of, trimmed, digits_of_base, read_number_of, read_in_base_of}
use Rattle.mw_html.specs.Names.{closes_itself}
use Rattle.mw_html.specs.Render.{node}
use Rattle.lua_meaning.specs.HtmlNodes.{root_by}
use Rattle.lua_meaning.specs.ExampleMarkup.{RenderingCosts, AnswerCosts, AnswerInsideItself, InsideItself, ATree, UpAndDown, Closed, SetAndAsked, AsValues, NoStyles, BadStyles, BadNames, NamesOfMw, AllMarkup}

rendering_costs : RenderingCosts
unfolding perform digits title_text prefix_of decimal_of numeral_of trimmed digits_of_base read_number_of read_in_base_of closes_itself node root_by
rendering_costs = (refl, refl)

answer_costs : AnswerCosts
unfolding perform digits title_text prefix_of decimal_of numeral_of trimmed digits_of_base read_number_of read_in_base_of closes_itself node root_by
answer_costs = (refl, refl)

answer_inside_itself : AnswerInsideItself
unfolding perform digits title_text prefix_of decimal_of numeral_of trimmed digits_of_base read_number_of read_in_base_of closes_itself node root_by
answer_inside_itself = (refl, refl)

inside_itself : InsideItself
unfolding perform digits title_text prefix_of decimal_of numeral_of trimmed digits_of_base read_number_of read_in_base_of closes_itself node root_by
inside_itself = refl

a_tree : ATree
unfolding perform digits title_text prefix_of decimal_of numeral_of trimmed digits_of_base read_number_of read_in_base_of closes_itself node root_by
a_tree = refl

up_and_down : UpAndDown
unfolding perform digits title_text prefix_of decimal_of numeral_of trimmed digits_of_base read_number_of read_in_base_of closes_itself node root_by
up_and_down = refl

closed : Closed
unfolding perform digits title_text prefix_of decimal_of numeral_of trimmed digits_of_base read_number_of read_in_base_of closes_itself node root_by
closed = refl

set_and_asked : SetAndAsked
unfolding perform digits title_text prefix_of decimal_of numeral_of trimmed digits_of_base read_number_of read_in_base_of closes_itself node root_by
set_and_asked = refl

as_values : AsValues
unfolding perform digits title_text prefix_of decimal_of numeral_of trimmed digits_of_base read_number_of read_in_base_of closes_itself node root_by
as_values = refl

no_styles : NoStyles
unfolding perform digits title_text prefix_of decimal_of numeral_of trimmed digits_of_base read_number_of read_in_base_of closes_itself node root_by
no_styles = refl

bad_styles : BadStyles
unfolding perform digits title_text prefix_of decimal_of numeral_of trimmed digits_of_base read_number_of read_in_base_of closes_itself node root_by
bad_styles = refl

bad_names : BadNames
unfolding perform digits title_text prefix_of decimal_of numeral_of trimmed digits_of_base read_number_of read_in_base_of closes_itself node root_by
bad_names = refl

names_of_mw : NamesOfMw
unfolding perform digits title_text prefix_of decimal_of numeral_of trimmed digits_of_base read_number_of read_in_base_of closes_itself node root_by
names_of_mw = refl

pub all_markup : AllMarkup
all_markup = (rendering_costs, answer_costs, answer_inside_itself, inside_itself, a_tree, up_and_down, closed, set_and_asked, as_values, no_styles, bad_styles, bad_names, names_of_mw)
