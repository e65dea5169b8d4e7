use Rattle.lua_calls.proofs.waiting.resume.Goals as goal

pub returns-in-Pcall : goal.returns-in-Pcall
returns-in-Pcall c = rw c.in-Pcall.is (c.pcall_answer.ensures c.args.left.now)

pub returns-in-Xpcall : goal.returns-in-Xpcall
returns-in-Xpcall c = rw c.in-Xpcall.is c.xpcall_answer.ensures

pub returns-in-Handler : goal.returns-in-Handler
returns-in-Handler c = rw c.in-Handler.is (c.handler_answer.ensures c.args.left.now)

pub returns-in-ToString : goal.returns-in-ToString
returns-in-ToString c = rw c.in-ToString.is c.string_answer.ensures

pub returns-in-Pairs : goal.returns-in-Pairs
returns-in-Pairs c = rw c.in-Pairs.is (c.three_answer.ensures c.args.left.now)

pub returns-in-Gsub : goal.returns-in-Gsub
returns-in-Gsub c = rw c.in-Gsub.is c.gsub_answer.ensures

pub returns-in-Module : goal.returns-in-Module
returns-in-Module c = rw c.in-Module.is c.module_answer.ensures
