use Rattle.lua_basic.proofs.objects.object_field.Goals as goal

pub returns-in-Text-clause-of : goal.returns-in-Text-clause-of
returns-in-Text-clause-of c = c.method_or_nil.ensures.of c.args.store.now
