-- EXAMPLES of objects of `mw.html`. They compute.
use Rattle.std.proofs.Common.{refl}
use Rattle.std.specs.Fmt.{digits}
use Rattle.mw_html.specs.Names.{closes_itself}
use Rattle.mw_html.specs.Render.{node}
use Rattle.lua_meaning.specs.HtmlNodes.{root_by}
use Rattle.lua_meaning.specs.ExampleHtml.{InOrder, SetAgain, StylesSetAgain, StyleAttribute, StyleTexts, Escaped, ClosedTags, NoTag, Children, UpAndDown, KeepsItsParent, Classes, TablesOfAttributes, BadEntries, BadNames, WrongArguments, RenderingCosts, InsideItself, Fields, AllObjects}

in_order : InOrder
unfolding digits closes_itself node root_by
in_order = refl

set_again : SetAgain
unfolding digits closes_itself node root_by
set_again = (refl, refl)

styles_set_again : StylesSetAgain
unfolding digits closes_itself node root_by
styles_set_again = (refl, refl)

style_attribute : StyleAttribute
unfolding digits closes_itself node root_by
style_attribute = (refl, refl, refl, refl, refl)

style_texts : StyleTexts
unfolding digits closes_itself node root_by
style_texts = (refl, refl, refl, refl)

escaped : Escaped
unfolding digits closes_itself node root_by
escaped = refl

closed_tags : ClosedTags
unfolding digits closes_itself node root_by
closed_tags = (refl, refl, refl)

no_tag : NoTag
unfolding digits closes_itself node root_by
no_tag = (refl, refl)

children : Children
unfolding digits closes_itself node root_by
children = (refl, refl)

up_and_down : UpAndDown
unfolding digits closes_itself node root_by
up_and_down = (refl, refl, refl, refl)

keeps_its_parent : KeepsItsParent
unfolding digits closes_itself node root_by
keeps_its_parent = (refl, refl)

classes : Classes
unfolding digits closes_itself node root_by
classes = (refl, refl, refl, refl, refl)

tables_of_attributes : TablesOfAttributes
unfolding digits closes_itself node root_by
tables_of_attributes = (refl, refl)

bad_entries : BadEntries
unfolding digits closes_itself node root_by
bad_entries = (refl, refl, refl, refl)

bad_names : BadNames
unfolding digits closes_itself node root_by
bad_names = (refl, refl, refl, refl, refl)

wrong_arguments : WrongArguments
unfolding digits closes_itself node root_by
wrong_arguments = (refl, refl, refl, refl, refl, refl, refl, refl, refl, refl)

rendering_costs : RenderingCosts
unfolding digits closes_itself node root_by
rendering_costs = refl

inside_itself : InsideItself
unfolding digits closes_itself node root_by
inside_itself = refl

fields : Fields
fields = (refl, refl, refl, refl)

pub all_objects : AllObjects
all_objects = (in_order, set_again, styles_set_again, style_attribute, style_texts, escaped, closed_tags, no_tag, children, up_and_down, keeps_its_parent, classes, tables_of_attributes, bad_entries, bad_names, wrong_arguments, rendering_costs, inside_itself, fields)
