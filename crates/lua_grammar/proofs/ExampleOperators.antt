-- Worked examples: how tightly operators bind, and to which side they group (manual 2.5). A number is the place where a piece ends. `bench/lua_derivations.py` writes this file.
use Rattle.std.proofs.Common.{inl, inr, refl, lit≤}
use Rattle.lua_number.specs.Numerals.{read_numeral_of, numeral_of, decimal_of}
use Rattle.lua_grammar.specs.Tokens.{mark_class, word_class, tok_at}
use Rattle.lua_grammar.specs.Grammar.{IsChunk, SpellsChunk, Spells, SpellsPath, SpellsStat, given_tokens, outside, under}
use Rattle.lua_grammar.proofs.Pieces.{here, word, text, number, ended, last}
use Rattle.lua_grammar.specs.Examples.{OperatorChunks, sums_and_products_tokens, sums_and_products_tree, powers_and_joins_tokens, powers_and_joins_tree, comparisons_tokens, comparisons_tree, sums_and_products_1, sums_and_products_2, sums_and_products_3, sums_and_products_4, sums_and_products_5, sums_and_products_6, sums_and_products_7, sums_and_products_8, powers_and_joins_1, powers_and_joins_2, powers_and_joins_3, powers_and_joins_4, powers_and_joins_5, powers_and_joins_6, powers_and_joins_7, comparisons_1, comparisons_2, comparisons_3, comparisons_4, comparisons_5, comparisons_6, comparisons_7, comparisons_8, comparisons_9, comparisons_10, comparisons_11}

-- return a + b * c - d / e % f, (a + b) * c
pub sums_and_products : IsChunk sums_and_products_tokens sums_and_products_tree
unfolding IsChunk SpellsChunk Spells SpellsPath mark_class word_class tok_at read_numeral_of numeral_of decimal_of
sums_and_products k = (20, (20, stands_8, (20, last, (20, inl refl, refl))), word)
  where
    -- b * c
    stands_1 : Spells (given_tokens sums_and_products_tokens 21 k) (under (under (under outside))) 6 sums_and_products_1 3 6
    stands_1 = (4, (3, here refl, (4, text, ended)), lit≤ tt, (4, here refl, (5, word, (5, here refl, (6, text, ended)))))

    -- a + b * c
    stands_2 : Spells (given_tokens sums_and_products_tokens 21 k) (under (under outside)) 5 sums_and_products_2 1 6
    stands_2 = (2, (1, here refl, (2, text, ended)), lit≤ tt, (2, here refl, (3, word, stands_1)))

    -- d / e
    stands_3 : Spells (given_tokens sums_and_products_tokens 21 k) (under (under (under outside))) 6 sums_and_products_3 7 10
    stands_3 = (8, (7, here refl, (8, text, ended)), lit≤ tt, (8, here refl, (9, word, (9, here refl, (10, text, ended)))))

    -- d / e % f
    stands_4 : Spells (given_tokens sums_and_products_tokens 21 k) (under (under outside)) 6 sums_and_products_4 7 12
    stands_4 = (10, stands_3, lit≤ tt, (10, here refl, (11, word, (11, here refl, (12, text, ended)))))

    -- a + b
    stands_5 : Spells (given_tokens sums_and_products_tokens 21 k) (under (under (under outside))) 1 sums_and_products_5 14 17
    stands_5 = (15, (14, here refl, (15, text, ended)), lit≤ tt, (15, here refl, (16, word, (16, here refl, (17, text, ended)))))

    -- ( a + b )
    stands_6 : Spells (given_tokens sums_and_products_tokens 21 k) (under (under outside)) 6 sums_and_products_6 13 18
    stands_6 = (13, here refl, (14, word, (17, stands_5, (18, word, ended))))

    -- ( a + b ) * c
    stands_7 : Spells (given_tokens sums_and_products_tokens 21 k) (under outside) 1 sums_and_products_7 13 20
    stands_7 = (18, stands_6, lit≤ tt, (18, here refl, (19, word, (19, here refl, (20, text, ended)))))

    -- return a + b * c - d / e % f , ( a + b ) * c
    stands_8 : SpellsStat (given_tokens sums_and_products_tokens 21 k) outside sums_and_products_8 0 20
    stands_8 = (0, here refl, (1, word, inr (12, (6, stands_2, lit≤ tt, (6, here refl, (7, word, stands_4))), (13, word, (20, stands_7, refl)))))

-- return a .. b .. c, -x ^ 2, x ^ -y ^ z
pub powers_and_joins : IsChunk powers_and_joins_tokens powers_and_joins_tree
unfolding IsChunk SpellsChunk Spells SpellsPath mark_class word_class tok_at read_numeral_of numeral_of decimal_of
powers_and_joins k = (18, (18, stands_7, (18, last, (18, inl refl, refl))), word)
  where
    -- b .. c
    stands_1 : Spells (given_tokens powers_and_joins_tokens 19 k) (under (under outside)) 4 powers_and_joins_1 3 6
    stands_1 = (4, (3, here refl, (4, text, ended)), lit≤ tt, (4, here refl, (5, word, (5, here refl, (6, text, ended)))))

    -- a .. b .. c
    stands_2 : Spells (given_tokens powers_and_joins_tokens 19 k) (under outside) 1 powers_and_joins_2 1 6
    stands_2 = (2, (1, here refl, (2, text, ended)), lit≤ tt, (2, here refl, (3, word, stands_1)))

    -- x ^ 2
    stands_3 : Spells (given_tokens powers_and_joins_tokens 19 k) (under (under outside)) 7 powers_and_joins_3 8 11
    stands_3 = (9, (8, here refl, (9, text, ended)), lit≤ tt, (9, here refl, (10, word, (10, here refl, number))))

    -- - x ^ 2
    stands_4 : Spells (given_tokens powers_and_joins_tokens 19 k) (under outside) 1 powers_and_joins_4 7 11
    stands_4 = (lit≤ tt, (7, here refl, (8, word, stands_3)))

    -- y ^ z
    stands_5 : Spells (given_tokens powers_and_joins_tokens 19 k) (under (under (under outside))) 7 powers_and_joins_5 15 18
    stands_5 = (16, (15, here refl, (16, text, ended)), lit≤ tt, (16, here refl, (17, word, (17, here refl, (18, text, ended)))))

    -- x ^ - y ^ z
    stands_6 : Spells (given_tokens powers_and_joins_tokens 19 k) (under outside) 1 powers_and_joins_6 12 18
    stands_6 = (13, (12, here refl, (13, text, ended)), lit≤ tt, (13, here refl, (14, word, (lit≤ tt, (14, here refl, (15, word, stands_5))))))

    -- return a .. b .. c , - x ^ 2 , x ^ - y ^ z
    stands_7 : SpellsStat (given_tokens powers_and_joins_tokens 19 k) outside powers_and_joins_7 0 18
    stands_7 = (0, here refl, (1, word, inr (6, stands_2, (7, word, (11, stands_4, (12, word, (18, stands_6, refl)))))))

-- return not a == b, #a < b and c ~= d or e <= f, g > h .. i >= j
pub comparisons : IsChunk comparisons_tokens comparisons_tree
unfolding IsChunk SpellsChunk Spells SpellsPath mark_class word_class tok_at read_numeral_of numeral_of decimal_of
comparisons k = (26, (26, stands_11, (26, last, (26, inl refl, refl))), word)
  where
    -- not a
    stands_1 : Spells (given_tokens comparisons_tokens 27 k) (under (under outside)) 3 comparisons_1 1 3
    stands_1 = (lit≤ tt, (1, here refl, (2, word, (2, here refl, (3, text, ended)))))

    -- not a == b
    stands_2 : Spells (given_tokens comparisons_tokens 27 k) (under outside) 1 comparisons_2 1 5
    stands_2 = (3, stands_1, lit≤ tt, (3, here refl, (4, word, (4, here refl, (5, text, ended)))))

    -- # a
    stands_3 : Spells (given_tokens comparisons_tokens 27 k) (under (under (under (under outside)))) 3 comparisons_3 6 8
    stands_3 = (lit≤ tt, (6, here refl, (7, word, (7, here refl, (8, text, ended)))))

    -- # a < b
    stands_4 : Spells (given_tokens comparisons_tokens 27 k) (under (under (under outside))) 2 comparisons_4 6 10
    stands_4 = (8, stands_3, lit≤ tt, (8, here refl, (9, word, (9, here refl, (10, text, ended)))))

    -- c ~= d
    stands_5 : Spells (given_tokens comparisons_tokens 27 k) (under (under (under outside))) 3 comparisons_5 11 14
    stands_5 = (12, (11, here refl, (12, text, ended)), lit≤ tt, (12, here refl, (13, word, (13, here refl, (14, text, ended)))))

    -- e <= f
    stands_6 : Spells (given_tokens comparisons_tokens 27 k) (under (under outside)) 2 comparisons_6 15 18
    stands_6 = (16, (15, here refl, (16, text, ended)), lit≤ tt, (16, here refl, (17, word, (17, here refl, (18, text, ended)))))

    -- # a < b and c ~= d or e <= f
    stands_7 : Spells (given_tokens comparisons_tokens 27 k) (under outside) 1 comparisons_7 6 18
    stands_7 = (14, (10, stands_4, lit≤ tt, (10, here refl, (11, word, stands_5))), lit≤ tt, (14, here refl, (15, word, stands_6)))

    -- h .. i
    stands_8 : Spells (given_tokens comparisons_tokens 27 k) (under (under (under outside))) 4 comparisons_8 21 24
    stands_8 = (22, (21, here refl, (22, text, ended)), lit≤ tt, (22, here refl, (23, word, (23, here refl, (24, text, ended)))))

    -- g > h .. i
    stands_9 : Spells (given_tokens comparisons_tokens 27 k) (under (under outside)) 3 comparisons_9 19 24
    stands_9 = (20, (19, here refl, (20, text, ended)), lit≤ tt, (20, here refl, (21, word, stands_8)))

    -- g > h .. i >= j
    stands_10 : Spells (given_tokens comparisons_tokens 27 k) (under outside) 1 comparisons_10 19 26
    stands_10 = (24, stands_9, lit≤ tt, (24, here refl, (25, word, (25, here refl, (26, text, ended)))))

    -- return not a == b , # a < b and c ~= d or e <= f , g > h .. i >= j
    stands_11 : SpellsStat (given_tokens comparisons_tokens 27 k) outside comparisons_11 0 26
    stands_11 = (0, here refl, (1, word, inr (5, stands_2, (6, word, (18, stands_7, (19, word, (26, stands_10, refl)))))))

pub operator_chunks : OperatorChunks
operator_chunks = (sums_and_products, powers_and_joins, comparisons)
