-- WHAT AN ANSWER IS to a function that waits for a text: a single text, nothing, or what doesn't belong to its question.
use Rattle.std.specs.Prelude.{List, [], ◌∷◌}
use Rattle.lua_tables.specs.LuaStoreDeclaredValueValue.{Value}
use Rattle.lua_tables.specs.LuaStoreDeclaredValueValueTheVariants as value
use Rattle.lua_calls.specs.declared.waiting.TextAnswer.{TextAnswer}
use Rattle.lua_calls.specs.declared.waiting.TextAnswer.TheVariants as answer

abbrev pub one_answer_in : Value → TextAnswer
one_answer_in (value.Text id) = answer.Text id
one_answer_in v = answer.Other

abbrev pub answer_in : List Value → TextAnswer
answer_in [] = answer.Nothing
answer_in (v ∷ []) = one_answer_in v
answer_in (v ∷ w ∷ more) = answer.Other
