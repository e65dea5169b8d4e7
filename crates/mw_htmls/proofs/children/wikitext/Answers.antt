use Rattle.std.proofs.Common.{refl, map}
use Rattle.lua_strings.specs.LuaMeaningHtml.{texts_from}
use Rattle.lua_strings.specs.LuaBasicArguments.{text_bytes}
use Rattle.lua_strings.specs.LuaBasicSeen.{values_seen}
use Rattle.lua_strings.proofs.LuaBasicFound.{stopped, refused}
use Rattle.lua_strings.proofs.Given.{past_free}
use Rattle.mw_htmls.proofs.children.wikitext.Goals as goal

pub returns-in-All-clause-answer : goal.returns-in-All-clause-answer
returns-in-All-clause-answer c =
    let s = c.args.store.now in
    let found = rw c.in-All.is at c.in_ok-read.ensures in
    let answer = rw c.as_slice.ensures at c.give_with_texts.ensures.answer in
    past_free _ (texts_from 2 (values_seen s.texts c.args.given.now)) (map text_bytes c.in-All.texts) _ s c.give_with_texts.new.store c.give_with_texts.result found refl answer

pub returns-in-Refused-clause-answer : goal.returns-in-Refused-clause-answer
returns-in-Refused-clause-answer c =
    let s = c.args.store.now in
    let found = rw c.in-Refused.is at c.in_ok-read.ensures in
    stopped _ (texts_from 2 (values_seen s.texts c.args.given.now)) _ s c.refuse_kind.new.store c.refuse_kind.result _ (refused _ _ s c.refuse_kind.new.store c.refuse_kind.result found c.refuse_kind.ensures.raises) refl refl
