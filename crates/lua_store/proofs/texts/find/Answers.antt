use Rattle.std.proofs.Common.{sym}
use Rattle.lua_store.proofs.TextLemmas.{find_same, text_there, with_text-there}
use Rattle.lua_store.proofs.texts.find.Goals as goal

pub returns-in-Some-clause-there : goal.returns-in-Some-clause-there
returns-in-Some-clause-there c =
    text_there c.args.bytes.now c.args.texts.now.keys c.in-Some.at c.in-Some.field-0-1.now c.in-Some.ensures.stored
    (find_same c.args.bytes.now c.args.texts.now.keys c.in-Some.field-0-1.now (sym c.in-Some.ensures.key))

pub returns-in-Some-clause-added : goal.returns-in-Some-clause-added
returns-in-Some-clause-added c = with_text-there c.args.bytes.now c.args.texts.now.keys c.in-Some.ensures.found
