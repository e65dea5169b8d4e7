use Rattle.std.proofs.Common.{subst, sym}
use Rattle.lua_modules.specs.LuaStackDeclaredFocusFocusTheVariants as focus
use Rattle.lua_modules.specs.LuaStackOf.{TextsOf}
use Rattle.lua_runs.proofs.Parts.{on}
use Rattle.lua_runs.proofs.Behind.{joined_more, texts_more}
use Rattle.lua_runs.proofs.answers.follow.Goals as goal

pub returns : goal.returns
returns c = λ l.
    rw (← joined_more c.args.store.now.texts c.args.before c.args.text, ← c.in_ok-push.ensures.ok)
    (on c.args.store.now c.args.state.now l (focus.Texts c.args.values c.push.new.self) c.requires.state
    (c.requires.values, subst (TextsOf c.args.store.now) (sym c.in_ok-push.ensures.ok) (texts_more c.args.store.now c.args.before c.args.text c.requires.before c.requires.text)))
