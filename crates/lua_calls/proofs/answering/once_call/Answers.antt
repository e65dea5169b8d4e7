use Rattle.lua_calls.proofs.answering.once_call.Goals as goal

pub returns-in-Basic-clause-answer : goal.returns-in-Basic-clause-answer
returns-in-Basic-clause-answer c = rw c.in-Basic.is c.plain_call.ensures.answer

pub returns-in-Strings-clause-answer : goal.returns-in-Strings-clause-answer
returns-in-Strings-clause-answer c = rw c.in-Strings.is c.string_call.ensures.answer

pub returns-in-Tables-clause-answer : goal.returns-in-Tables-clause-answer
returns-in-Tables-clause-answer c = rw c.in-Tables.is c.table_call.ensures.answer

pub returns-in-Ustrings-clause-answer : goal.returns-in-Ustrings-clause-answer
returns-in-Ustrings-clause-answer c = rw c.in-Ustrings.is c.ustring_call.ensures.answer

pub returns-in-Texts-clause-answer : goal.returns-in-Texts-clause-answer
returns-in-Texts-clause-answer c = rw c.in-Texts.is c.text_call.ensures.answer

pub returns-in-Iterators-clause-answer : goal.returns-in-Iterators-clause-answer
returns-in-Iterators-clause-answer c = rw c.in-Iterators.is c.iterator_call.ensures.answer

pub returns-in-Html-clause-answer : goal.returns-in-Html-clause-answer
returns-in-Html-clause-answer c = rw c.in-Html.is c.html_call.ensures.answer
