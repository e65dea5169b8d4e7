use Rattle.std.proofs.lemmas.Result.{IfOk-weaker}
use Rattle.lua_modules.proofs.LuaStateMaking.{makes_late}
use Rattle.lua_calls.proofs.calling.call_act.Goals as goal

pub returns-in-Answers : goal.returns-in-Answers
returns-in-Answers c = rw c.in-Answers.is c.plain.ensures

pub returns-in-Framed : goal.returns-in-Framed
returns-in-Framed c = rw c.in-Framed.is c.framed.ensures

pub returns-in-Clone : goal.returns-in-Clone
returns-in-Clone c = rw c.in-Clone.is c.clone.ensures

pub returns-in-CurrentTitle : goal.returns-in-CurrentTitle
returns-in-CurrentTitle c = rw c.in-CurrentTitle.is c.current_title.ensures

pub returns-in-ArgsIndex : goal.returns-in-ArgsIndex
returns-in-ArgsIndex c = rw c.in-ArgsIndex.is c.index_args.ensures

pub returns-in-Calls : goal.returns-in-Calls
returns-in-Calls c = rw c.in-Calls.is (IfOk-weaker c.call_back.result _ _ (λ r e. makes_late c.args.store.now c.call_back.new.store c.args.state.now c.call_back.new.state c.args.left.now c.call_back.new.left _ r e) c.call_back.ensures)

pub returns-in-Gsub : goal.returns-in-Gsub
returns-in-Gsub c = rw c.in-Gsub.is c.gsub.ensures
