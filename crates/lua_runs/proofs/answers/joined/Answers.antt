use Rattle.lua_runs.proofs.Behind.{first_text, joined_put}
use Rattle.lua_runs.proofs.answers.joined.Goals as goal

pub texts-preserved : goal.texts-preserved
texts-preserved c = (
  (first_text c.args.store.now _ _ _ c.in-Some.ensures c.texts.invariant.0).1,
  joined_put c.args.store.now.texts _ _ _ _ _ _ _ c.in-Some.ensures c.bytes.ensures c.in_ok-append.ensures c.texts.invariant.1,
)
