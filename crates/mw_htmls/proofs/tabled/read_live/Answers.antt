use Rattle.std.proofs.Common.{◌∷◌, []}
use Rattle.lua_strings.specs.LuaStoreSeen.{seen}
use Rattle.mw_htmls.proofs.tabled.read_live.Goals as goal

pub a_setting-requires : goal.a_setting-requires
a_setting-requires c = (c.requires.key, (c.requires.value, tt))

pub returns-in-Ok-clause-read : goal.returns-in-Ok-clause-read
returns-in-Ok-clause-read c = (c.in-Ok.ensures.found, c.in-Ok.ensures.same)

pub returns-in-Err-clause-read : goal.returns-in-Err-clause-read
returns-in-Err-clause-read c =
    let s = c.args.store.now in
    c.wrong.ensures.read c.args.setter (seen s.texts c.args.key ∷ seen s.texts c.args.value ∷ []) s c.a_setting.new.store c.in-Err.ensures.refused

pub returns-in-Err-clause-of : goal.returns-in-Err-clause-of
returns-in-Err-clause-of c = c.wrong.ensures.of c.a_setting.new.store c.in-Err.ensures.of
