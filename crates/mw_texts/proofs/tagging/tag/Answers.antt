use Rattle.std.proofs.Common.{◌∙◌, ap, sym, subst}
use Rattle.mw_ustrings.specs.LuaHeapValue.{Table}
use Rattle.mw_ustrings.specs.LuaMeaningMetatables.{field}
use Rattle.mw_ustrings.specs.LuaMeaningTag.{TagParts, tag_of}
use Rattle.mw_ustrings.specs.LuaBasicSeen.{Paid}
use Rattle.mw_texts.proofs.tagging.tag.Goals as goal

pub returns-in-Some-clause-answer : goal.returns-in-Some-clause-answer
returns-in-Some-clause-answer c =
    let s = c.args.store.now in
    let t = c.in-Some.table.at in
    let name = c.get-name.ensures.value ∙ ap (field s.heap (Table t)) c.requires.names.name.1 in
    let attrs = c.get-attrs.ensures.value ∙ ap (field s.heap (Table t)) c.requires.names.attrs.1 in
    let content = c.get-content.ensures.value ∙ ap (field s.heap (Table t)) c.requires.names.content.1 in
    let is = c.in-Some.ensures.split s.texts s.heap in
    let answer = rw (name, attrs, content) at c.tag_of.ensures.answer in
    subst (λ (q : TagParts). Paid (tag_of q s.heap) s c.args.left.now c.tag_of.new.store c.tag_of.new.left c.tag_of.result) (sym is) answer

pub returns-in-None-clause-answer : goal.returns-in-None-clause-answer
returns-in-None-clause-answer c =
    let s = c.args.store.now in
    let is = c.in-None.ensures.split s.texts s.heap in
    let answer = rw (c.third.ensures.value s.texts, c.second.ensures.value s.texts) at c.tag_of-in-None.ensures.answer in
    subst (λ (q : TagParts). Paid (tag_of q s.heap) s c.args.left.now c.tag_of-in-None.new.store c.tag_of-in-None.new.left c.tag_of-in-None.result) (sym is) answer

pub tag_of-requires-in-None-clause-attrs : goal.tag_of-requires-in-None-clause-attrs
tag_of-requires-in-None-clause-attrs c = c.second.ensures.of c.args.store.now c.requires.given

pub tag_of-requires-in-None-clause-content : goal.tag_of-requires-in-None-clause-content
tag_of-requires-in-None-clause-content c = c.third.ensures.of c.args.store.now c.requires.given
