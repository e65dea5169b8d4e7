-- Worked examples: functions, parameters and local names (manual 2.4.7, 2.5.9). A number is the place where a piece ends. `bench/lua_derivations.py` writes this file.
use Rattle.std.proofs.Common.{true, false, inl, inr, refl}
use Rattle.lua_number.specs.Numerals.{read_numeral_of, numeral_of, decimal_of}
use Rattle.lua_grammar.specs.Tokens.{mark_class, word_class, tok_at}
use Rattle.lua_grammar.specs.Grammar.{IsChunk, SpellsChunk, Spells, SpellsPath, SpellsStat, given_tokens, outside, under, in_function}
use Rattle.lua_grammar.proofs.Pieces.{here, word, text, ended, goes_on, allowed, last, not_last}
use Rattle.lua_grammar.specs.Examples.{FunctionChunks, method_bodies_tokens, method_bodies_tree, varargs_tokens, varargs_tree, locals_tokens, locals_tree, method_bodies_1, method_bodies_2, varargs_1, varargs_2, varargs_3, varargs_4, locals_1, locals_2, locals_3, locals_4, locals_5}

-- function a.b:c(x) return self end
pub method_bodies : IsChunk method_bodies_tokens method_bodies_tree
unfolding IsChunk SpellsChunk Spells SpellsPath mark_class word_class tok_at read_numeral_of numeral_of decimal_of
method_bodies k = (12, (12, stands_2, (12, not_last, (12, inl refl, refl))), word)
  where
    -- return self
    stands_1 : SpellsStat (given_tokens method_bodies_tokens 13 k) (in_function false (under (under outside))) method_bodies_1 9 11
    stands_1 = (9, here refl, (10, word, inr (11, (10, here refl, (11, text, ended)), refl)))

    -- function a . b : c ( x ) return self end
    stands_2 : SpellsStat (given_tokens method_bodies_tokens 13 k) outside method_bodies_2 0 12
    stands_2 = (0, here refl, inr (0, here refl, (1, word, inr (6, (4, (2, (1, here refl, text), (2, here refl, (3, word, (3, here refl, text)))), (4, here refl, (5, word, (5, here refl, text)))), (6, (refl, refl), (7, word, (8, (8, text, refl), (9, word, (11, (11, stands_1, (11, last, (11, inl refl, refl))), word)))))))))

-- function f() end function g.h(a, ...) return function(...) end, ... end
pub varargs : IsChunk varargs_tokens varargs_tree
unfolding IsChunk SpellsChunk Spells SpellsPath mark_class word_class tok_at read_numeral_of numeral_of decimal_of
varargs k = (23, (5, stands_1, (5, not_last, (5, inl refl, (23, stands_4, (23, not_last, (23, inl refl, refl)))))), word)
  where
    -- function f ( ) end
    stands_1 : SpellsStat (given_tokens varargs_tokens 24 k) outside varargs_1 0 5
    stands_1 = (0, here refl, inr (0, here refl, (1, word, inl (2, (1, here refl, text), (3, word, (3, refl, (4, word, (4, refl, word))))))))

    -- function ( ... ) end
    stands_2 : Spells (given_tokens varargs_tokens 24 k) (under (in_function true (under (under outside)))) 1 varargs_2 15 20
    stands_2 = (15, here refl, (16, word, (17, word, (18, word, (19, word, (19, refl, word))))))

    -- return function ( ... ) end , ...
    stands_3 : SpellsStat (given_tokens varargs_tokens 24 k) (in_function true (under (under outside))) varargs_3 14 22
    stands_3 = (14, here refl, (15, word, inr (20, stands_2, (21, word, (22, (21, here refl, allowed), refl)))))

    -- function g . h ( a , ... ) return function ( ... ) end , ... end
    stands_4 : SpellsStat (given_tokens varargs_tokens 24 k) outside varargs_4 5 23
    stands_4 = (5, here refl, inr (5, here refl, (6, word, inl (9, (7, (6, here refl, text), (7, here refl, (8, word, (8, here refl, text)))), (10, word, (13, (11, (11, text, refl), (12, word, word)), (14, word, (22, (22, stands_3, (22, last, (22, inl refl, refl))), word))))))))

-- local function f(n) return f(n) end local g, h = f; local i
pub locals : IsChunk locals_tokens locals_tree
unfolding IsChunk SpellsChunk Spells SpellsPath mark_class word_class tok_at read_numeral_of numeral_of decimal_of
locals k = (21, (12, stands_3, (12, not_last, (12, inl refl, (18, stands_4, (18, not_last, (19, inr word, (21, stands_5, (21, not_last, (21, inl refl, refl))))))))), word)
  where
    -- f ( n )
    stands_1 : Spells (given_tokens locals_tokens 22 k) (under (in_function false (under outside))) 1 locals_1 7 11
    stands_1 = (8, (7, here refl, (8, text, goes_on)), tt, (8, here refl, (11, inl (9, allowed, (10, (9, here refl, (10, text, ended)), (10, refl, word))), ended)))

    -- return f ( n )
    stands_2 : SpellsStat (given_tokens locals_tokens 22 k) (in_function false (under outside)) locals_2 6 11
    stands_2 = (6, here refl, (7, word, inr (11, stands_1, refl)))

    -- local function f ( n ) return f ( n ) end
    stands_3 : SpellsStat (given_tokens locals_tokens 22 k) outside locals_3 0 12
    stands_3 = (0, here refl, (1, word, (2, word, (3, text, (4, word, (5, (5, text, refl), (6, word, (11, (11, stands_2, (11, last, (11, inl refl, refl))), word))))))))

    -- local g , h = f
    stands_4 : SpellsStat (given_tokens locals_tokens 22 k) outside locals_4 12 18
    stands_4 = (12, here refl, (13, word, (16, (14, text, (15, word, (16, text, refl))), inr (17, word, (18, (17, here refl, (18, text, ended)), refl)))))

    -- local i
    stands_5 : SpellsStat (given_tokens locals_tokens 22 k) outside locals_5 19 21
    stands_5 = (19, here refl, (20, word, (21, (21, text, refl), inl (tt, refl))))

pub function_chunks : FunctionChunks
function_chunks = (method_bodies, varargs, locals)
