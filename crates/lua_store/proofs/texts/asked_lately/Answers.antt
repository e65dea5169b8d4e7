use Rattle.std.proofs.Common.{sym}
use Rattle.std.specs.Cmp.Lexicographic.{same_text}
use Rattle.lua_store.proofs.TextLemmas.{text_there, with_text-at}
use Rattle.lua_store.proofs.texts.asked_lately.Goals as goal

pub returns-then-eq-clause-there : goal.returns-then-eq-clause-there
returns-then-eq-clause-there c =
    text_there c.args.bytes.now c.args.texts.now.keys c.args.place c.in-Some.text.now (sym c.in-Some.ensures.key)
    (sym (same_text c.args.bytes.now c.in-Some.text.now.now c.if-eq.ensures))

pub returns-then-eq-clause-added : goal.returns-then-eq-clause-added
returns-then-eq-clause-added c = with_text-at c.args.bytes.now c.args.texts.now.keys c.args.place c.in-Some.text.now (sym c.in-Some.ensures.key) c.if-eq.ensures
