use Rattle.std.proofs.Common.{◌∙◌, ap, sym}
use Rattle.lua_strings.specs.LuaMeaningHtml.{is_tag}
use Rattle.lua_strings.specs.LuaBasicArguments.{text_bytes}
use Rattle.lua_strings.proofs.LuaBasicFound.{refused}
use Rattle.mw_htmls.proofs.Given.{is_taken, is_bad}
use Rattle.mw_htmls.proofs.arguments.a_tag.Goals as goal

pub returns-then-is_tag-clause-found : goal.returns-then-is_tag-clause-found
returns-then-is_tag-clause-found c = is_taken is_tag (text_bytes c.args.name) (ap is_tag (sym c.as_slice.ensures) ∙ sym c.if-is_tag.ensures)

pub returns-clause-refused : goal.returns-clause-refused
returns-clause-refused c =
    refused _ _ c.args.store.now c.fail.new.store c.fail.result (is_bad is_tag (text_bytes c.args.name) (ap is_tag (sym c.as_slice.ensures) ∙ sym c.if-is_tag.ensures)) c.fail.ensures.raises
