use Rattle.std.proofs.Common.{◌∙◌, ap, sym}
use Rattle.lua_basic.specs.LuaStoreSeen.{seen_entry}
use Rattle.lua_basic.specs.LuaMeaningMessages.{bad_template_arguments}
use Rattle.mw_frames.specs.Reading.{args_seen, found_arg}
use Rattle.mw_frames.proofs.ReadLemmas.{passed, taken, refused}
use Rattle.mw_frames.proofs.reading.read_entry.Goals as goal

pub returns-then-is_nil : goal.returns-then-is_nil
returns-then-is_nil c = λ more. passed (args_seen c.args.args.now) (seen_entry c.args.store.now.texts c.args.entry) more (sym (c.if-is_nil.ensures c.args.store.now.texts))

pub returns-in_default : goal.returns-in_default
returns-in_default c = λ more. refused (args_seen c.args.args.now) (seen_entry c.args.store.now.texts c.args.entry) more bad_template_arguments (sym (c.if-is_nil.ensures c.args.store.now.texts)) (c.in_ok-arg.ensures ∙ ap found_arg c.in_default.is)

pub returns : goal.returns
returns c = λ more. taken c.args.args.now c.push.new.self c.in-Some.arg (seen_entry c.args.store.now.texts c.args.entry) more (sym (c.if-is_nil.ensures c.args.store.now.texts)) (c.in_ok-arg.ensures ∙ ap found_arg c.in-Some.is) c.in_ok-push.ensures.ok
