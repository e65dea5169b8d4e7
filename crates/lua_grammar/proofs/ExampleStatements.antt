-- Worked examples: control structures, loops and blocks (manual 2.4). A number is the place where a piece ends. `bench/lua_derivations.py` writes this file.
use Rattle.std.proofs.Common.{inl, inr, refl, lit≤}
use Rattle.lua_number.specs.Numerals.{read_numeral_of, numeral_of, decimal_of}
use Rattle.lua_grammar.specs.Tokens.{mark_class, word_class, tok_at}
use Rattle.lua_grammar.specs.Grammar.{IsChunk, SpellsChunk, Spells, SpellsPath, SpellsStat, given_tokens, outside, under, in_loop}
use Rattle.lua_grammar.proofs.Pieces.{here, word, text, number, ended, goes_on, allowed, last, not_last}
use Rattle.lua_grammar.specs.Examples.{StatementChunks, loops_tokens, loops_tree, counts_tokens, counts_tree, iterations_tokens, iterations_tree, conditions_tokens, conditions_tree, loops_1, loops_2, loops_3, loops_4, loops_5, counts_1, counts_2, counts_3, counts_4, iterations_1, iterations_2, conditions_1, conditions_2, conditions_3, conditions_4, conditions_5}

-- while a do if b then break end end repeat local x = f() until x
pub loops : IsChunk loops_tokens loops_tree
unfolding IsChunk SpellsChunk Spells SpellsPath mark_class word_class tok_at read_numeral_of numeral_of decimal_of
loops k = (18, (9, stands_2, (9, not_last, (9, inl refl, (18, stands_5, (18, not_last, (18, inl refl, refl)))))), word)
  where
    -- if b then break end
    stands_1 : SpellsStat (given_tokens loops_tokens 19 k) (in_loop outside) loops_1 3 8
    stands_1 = (3, here refl, (4, word, (7, (5, (4, here refl, (5, text, ended)), (6, word, (7, (7, (6, here refl, allowed), (7, last, (7, inl refl, refl))), refl))), word)))

    -- while a do if b then break end end
    stands_2 : SpellsStat (given_tokens loops_tokens 19 k) outside loops_2 0 9
    stands_2 = (0, here refl, (1, word, (2, (1, here refl, (2, text, ended)), (3, word, (8, (8, stands_1, (8, not_last, (8, inl refl, refl))), word)))))

    -- f ( )
    stands_3 : Spells (given_tokens loops_tokens 19 k) (under (in_loop outside)) 1 loops_3 13 16
    stands_3 = (14, (13, here refl, (14, text, goes_on)), tt, (14, here refl, (16, (15, allowed, word), ended)))

    -- local x = f ( )
    stands_4 : SpellsStat (given_tokens loops_tokens 19 k) (in_loop outside) loops_4 10 16
    stands_4 = (10, here refl, (11, word, (12, (12, text, refl), inr (13, word, (16, stands_3, refl)))))

    -- repeat local x = f ( ) until x
    stands_5 : SpellsStat (given_tokens loops_tokens 19 k) outside loops_5 9 18
    stands_5 = (9, here refl, (10, word, (16, (16, stands_4, (16, not_last, (16, inl refl, refl))), (17, word, (17, here refl, (18, text, ended))))))

-- for i = 1, 10 do f(i) end for i = n, 1, -1 do break; end
pub counts : IsChunk counts_tokens counts_tree
unfolding IsChunk SpellsChunk Spells SpellsPath mark_class word_class tok_at read_numeral_of numeral_of decimal_of
counts k = (25, (12, stands_2, (12, not_last, (12, inl refl, (25, stands_4, (25, not_last, (25, inl refl, refl)))))), word)
  where
    -- f ( i )
    stands_1 : Spells (given_tokens counts_tokens 26 k) (under (in_loop outside)) 9 counts_1 7 11
    stands_1 = (8, (7, here refl, (8, text, goes_on)), tt, (8, here refl, (11, inl (9, allowed, (10, (9, here refl, (10, text, ended)), (10, refl, word))), ended)))

    -- for i = 1 , 10 do f ( i ) end
    stands_2 : SpellsStat (given_tokens counts_tokens 26 k) outside counts_2 0 12
    stands_2 = (0, here refl, (1, word, (2, text, (3, word, (4, (3, here refl, number), (5, word, (6, (5, here refl, number), (7, word, (11, (11, (tt, (7, here refl, stands_1)), (11, not_last, (11, inl refl, refl))), word)))))))))

    -- - 1
    stands_3 : Spells (given_tokens counts_tokens 26 k) (under outside) 1 counts_3 19 21
    stands_3 = (lit≤ tt, (19, here refl, (20, word, (20, here refl, number))))

    -- for i = n , 1 , - 1 do break ; end
    stands_4 : SpellsStat (given_tokens counts_tokens 26 k) outside counts_4 12 25
    stands_4 = (12, here refl, (13, word, (14, text, (15, word, (16, (15, here refl, (16, text, ended)), (17, word, (18, (17, here refl, number), (19, word, (21, stands_3, (22, word, (24, (23, (22, here refl, allowed), (23, last, (24, inr word, refl))), word)))))))))))

-- for k, v in pairs(t), n do end
pub iterations : IsChunk iterations_tokens iterations_tree
unfolding IsChunk SpellsChunk Spells SpellsPath mark_class word_class tok_at read_numeral_of numeral_of decimal_of
iterations k = (13, (13, stands_2, (13, not_last, (13, inl refl, refl))), word)
  where
    -- pairs ( t )
    stands_1 : Spells (given_tokens iterations_tokens 14 k) (under outside) 1 iterations_1 5 9
    stands_1 = (6, (5, here refl, (6, text, goes_on)), tt, (6, here refl, (9, inl (7, allowed, (8, (7, here refl, (8, text, ended)), (8, refl, word))), ended)))

    -- for k , v in pairs ( t ) , n do end
    stands_2 : SpellsStat (given_tokens iterations_tokens 14 k) outside iterations_2 0 13
    stands_2 = (0, here refl, (1, word, (4, (2, text, (3, word, (4, text, refl))), (5, word, (11, (9, stands_1, (10, word, (11, (10, here refl, (11, text, ended)), refl))), (12, word, (12, refl, word)))))))

-- if a then f() elseif b then return else do return 1; end end
pub conditions : IsChunk conditions_tokens conditions_tree
unfolding IsChunk SpellsChunk Spells SpellsPath mark_class word_class tok_at read_numeral_of numeral_of decimal_of
conditions k = (17, (17, stands_5, (17, not_last, (17, inl refl, refl))), word)
  where
    -- f ( )
    stands_1 : SpellsStat (given_tokens conditions_tokens 18 k) (under outside) conditions_1 3 6
    stands_1 = (tt, (3, here refl, (4, (3, here refl, (4, text, goes_on)), tt, (4, here refl, (6, (5, allowed, word), ended)))))

    -- return
    stands_2 : SpellsStat (given_tokens conditions_tokens 18 k) (under outside) conditions_2 9 10
    stands_2 = (9, here refl, (10, word, inl (tt, refl)))

    -- return 1
    stands_3 : SpellsStat (given_tokens conditions_tokens 18 k) (under (under outside)) conditions_3 12 14
    stands_3 = (12, here refl, (13, word, inr (14, (13, here refl, number), refl)))

    -- do return 1 ; end
    stands_4 : SpellsStat (given_tokens conditions_tokens 18 k) (under outside) conditions_4 11 16
    stands_4 = (11, here refl, (12, word, (15, (14, stands_3, (14, last, (15, inr word, refl))), word)))

    -- if a then f ( ) elseif b then return else do return 1 ; end end
    stands_5 : SpellsStat (given_tokens conditions_tokens 18 k) outside conditions_5 0 17
    stands_5 = (0, here refl, (1, word, (10, (2, (1, here refl, (2, text, ended)), (3, word, (6, (6, stands_1, (6, not_last, (6, inl refl, refl))), (7, word, (8, (7, here refl, (8, text, ended)), (9, word, (10, (10, stands_2, (10, last, (10, inl refl, refl))), refl))))))), (11, word, (16, (16, stands_4, (16, not_last, (16, inl refl, refl))), word)))))

pub statement_chunks : StatementChunks
statement_chunks = (loops, counts, iterations, conditions)
