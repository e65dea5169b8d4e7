use Rattle.std.proofs.Common.{refl, subst, sym, List, ℕ}
use Rattle.page_ground.proofs.LuaStoreLater.{later-itself}
use Rattle.page_ground.specs.Seen.{CanBePut}
use Rattle.page_tasks.specs.Going.{PutsAnswer}
use Rattle.page_run.specs.Outcome.{Jumps}
use Rattle.lua_code.specs.LuaHeapValue.{Text}
use Rattle.lua_machine.specs.LuaMeaningActs.{Raised}
use Rattle.page_ground.specs.LuaMeaningQuestions.{LoadFailed}
use Rattle.page_tasks.proofs.DataPut.{tables_put, message_put}
use Rattle.page_tasks.proofs.telling.put_data.Goals as goal

pub put_in-requires : goal.put_in-requires
put_in-requires c = subst CanBePut c.in-Tables.is c.requires

pub returns-in_ok-root-in-Tables-clause-of : goal.returns-in_ok-root-in-Tables-clause-of
returns-in_ok-root-in-Tables-clause-of c = c.in_ok-root-in-Tables.ensures.of

pub returns-in_ok-root-in-Tables-clause-later : goal.returns-in_ok-root-in-Tables-clause-later
returns-in_ok-root-in-Tables-clause-later c = c.in_ok-root-in-Tables.ensures.later

pub returns-in_ok-root-in-Tables-clause-puts : goal.returns-in_ok-root-in-Tables-clause-puts
returns-in_ok-root-in-Tables-clause-puts c = rw c.in-Tables.is (tables_put c.in-Tables.graph c.args.store.now c.put_in.new.store c.in_ok-root-in-Tables.root (subst CanBePut c.in-Tables.is c.requires) c.in_ok-root-in-Tables.ensures.put c.in_ok-root-in-Tables.ensures.root)

pub returns-in_ok-root-in-Tables-clause-text : goal.returns-in_ok-root-in-Tables-clause-text
returns-in_ok-root-in-Tables-clause-text c = refl

pub returns-in_ok-message-in-Failed-clause-of : goal.returns-in_ok-message-in-Failed-clause-of
returns-in_ok-message-in-Failed-clause-of c = tt

pub returns-in_ok-message-in-Failed-clause-later : goal.returns-in_ok-message-in-Failed-clause-later
returns-in_ok-message-in-Failed-clause-later c = later-itself c.args.store.now

pub returns-in_ok-message-in-Failed-clause-puts : goal.returns-in_ok-message-in-Failed-clause-puts
returns-in_ok-message-in-Failed-clause-puts c =
    rw c.in-Failed.is
    (subst (λ (m : List ℕ). PutsAnswer c.args.store.now.heap c.args.store.now.heap (LoadFailed c.in-Failed.message) (Jumps (Raised (Text m)))) (sym c.in_ok-message-in-Failed.ensures)
    (message_put c.in-Failed.message c.args.store.now.heap))

pub returns-in_ok-message-in-Failed-clause-text : goal.returns-in_ok-message-in-Failed-clause-text
returns-in_ok-message-in-Failed-clause-text c = refl
