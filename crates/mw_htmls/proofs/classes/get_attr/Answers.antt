use Rattle.std.proofs.Common.{refl}
use Rattle.std.specs.Prelude.{codes}
use Rattle.lua_strings.specs.LuaMeaningArguments.{a_text}
use Rattle.lua_strings.specs.LuaStoreSeen.{text_at}
use Rattle.lua_strings.specs.LuaBasicSeen.{values_seen}
use Rattle.lua_strings.proofs.Given.{past}
use Rattle.mw_htmls.proofs.classes.get_attr.Goals as goal

pub give_named-requires-clause-name : goal.give_named-requires-clause-name
give_named-requires-clause-name c = c.in-Some.ensures.of c.args.store.now c.requires.given

pub returns-in-Some-clause-answer : goal.returns-in-Some-clause-answer
returns-in-Some-clause-answer c =
    let s = c.args.store.now in
    past _ (a_text 2 (codes "getAttr") (values_seen s.texts c.args.given.now)) (text_at s.texts c.in-Some.name.at) _ s c.give_named.new.store c.args.left.now c.give_named.new.left c.give_named.result
    (c.in-Some.ensures.text s.texts 2 (codes "getAttr")) refl c.give_named.ensures.answer
