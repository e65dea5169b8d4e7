use Rattle.std.proofs.Common.{◌∙◌, ap, sym}
use Rattle.lua_strings.specs.LuaBasicArguments.{text_bytes}
use Rattle.lua_strings.proofs.LuaBasicFound.{refused}
use Rattle.mw_htmls.specs.Setters.{setter_of}
use Rattle.mw_htmls.proofs.Given.{is_taken, is_bad}
use Rattle.mw_htmls.proofs.setting.a_taken.Goals as goal

pub returns-then-takes-clause-found : goal.returns-then-takes-clause-found
returns-then-takes-clause-found c =
    let test = (setter_of c.args.setter).takes in
    is_taken test (text_bytes c.args.name) (ap test (sym c.as_slice.ensures) ∙ sym c.if-takes.ensures)

pub returns-clause-refused : goal.returns-clause-refused
returns-clause-refused c =
    let test = (setter_of c.args.setter).takes in
    refused _ _ c.args.store.now c.fail.new.store c.fail.result (is_bad test (text_bytes c.args.name) (ap test (sym c.as_slice.ensures) ∙ sym c.if-takes.ensures)) c.fail.ensures.raises
