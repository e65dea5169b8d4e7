use Rattle.lua_calls.proofs.calling.call_back.Goals as goal

pub returns-in-Pcall : goal.returns-in-Pcall
returns-in-Pcall c = rw c.in-Pcall.is c.pcall.ensures

pub returns-in-Xpcall : goal.returns-in-Xpcall
returns-in-Xpcall c = rw c.in-Xpcall.is c.xpcall.ensures

pub returns-in-ToString : goal.returns-in-ToString
returns-in-ToString c = rw c.in-ToString.is c.to_string.ensures

pub returns-in-Pairs : goal.returns-in-Pairs
returns-in-Pairs c = rw c.in-Pairs.is c.pairs.ensures

pub returns-in-Ipairs : goal.returns-in-Ipairs
returns-in-Ipairs c = rw c.in-Ipairs.is c.ipairs.ensures

pub returns-in-NextPlace : goal.returns-in-NextPlace
returns-in-NextPlace c = rw c.in-NextPlace.is c.ipairs_step.ensures

pub returns-in-Require : goal.returns-in-Require
returns-in-Require c = rw c.in-Require.is c.require.ensures

pub returns-in-LoadData : goal.returns-in-LoadData
returns-in-LoadData c = rw c.in-LoadData.is c.load_data.ensures

pub returns-in-StrictRead : goal.returns-in-StrictRead
returns-in-StrictRead c = rw c.in-StrictRead.is c.strict_index.ensures

pub returns-in-StrictWrite : goal.returns-in-StrictWrite
returns-in-StrictWrite c = rw c.in-StrictWrite.is c.strict_new_index.ensures
