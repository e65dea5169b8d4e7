use Rattle.lua_calls.proofs.waiting.hear.Goals as goal

pub returns-in-Template : goal.returns-in-Template
returns-in-Template c = rw c.in-Template.is c.template_answer.ensures

pub returns-in-Text : goal.returns-in-Text
returns-in-Text c = rw c.in-Text.is c.text_answer.ensures

pub returns-in-Data : goal.returns-in-Data
returns-in-Data c = rw c.in-Data.is c.data_answer.ensures
