use Rattle.std.proofs.Common.{sym, ap, ◌∙◌, refl}
use Rattle.std.specs.Cmp.Lexicographic.{same_text}
use Rattle.lua_store.proofs.TextLemmas.{text_there, with_text-new}
use Rattle.lua_store.specs.Texts.{texts_of}
use Rattle.lua_store.proofs.texts.add.Goals as goal

pub returns-in-Ok-clause-there : goal.returns-in-Ok-clause-there
returns-in-Ok-clause-there c =
    let s = c.in-Ok.ensures.stored in
    text_there c.args.bytes.now c.insert_full.new.self.keys c.in-Ok.at s.0 s.1 (sym (same_text c.args.bytes.now s.0.now (sym s.2)))

pub returns-in-Ok-clause-added : goal.returns-in-Ok-clause-added
returns-in-Ok-clause-added c = ap texts_of c.in-Ok.ensures.keys ∙ with_text-new c.args.bytes.now c.args.texts.now.keys c.args.bytes refl
