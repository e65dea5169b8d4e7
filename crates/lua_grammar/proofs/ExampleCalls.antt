-- Worked examples: indexes, calls, methods and tables (manual 2.3, 2.5.7 and 2.5.8). A number is the place where a piece ends. `bench/lua_derivations.py` writes this file.
use Rattle.std.proofs.Common.{inl, inr, refl, lit≤}
use Rattle.lua_number.specs.Numerals.{read_numeral_of, numeral_of, decimal_of}
use Rattle.lua_grammar.specs.Tokens.{mark_class, word_class, tok_at}
use Rattle.lua_grammar.specs.Grammar.{IsChunk, SpellsChunk, Spells, SpellsPath, SpellsStat, given_tokens, outside, under}
use Rattle.lua_grammar.proofs.Pieces.{here, word, text, number, ended, goes_on, allowed, comma, semicolon, last, not_last}
use Rattle.lua_grammar.specs.Examples.{CallChunks, nothing_tokens, nothing_tree, call_tokens, call_tree, sugar_tokens, sugar_tree, methods_tokens, methods_tree, places_tokens, places_tree, fields_tokens, fields_tree, lines_tokens, lines_tree, call_1, sugar_1, sugar_2, sugar_3, methods_1, methods_2, methods_3, methods_4, methods_5, places_1, places_2, places_3, places_4, fields_1, fields_2, fields_3, fields_4, fields_5, lines_1, lines_2, lines_3, lines_4}

-- the empty text
pub nothing : IsChunk nothing_tokens nothing_tree
unfolding IsChunk SpellsChunk Spells SpellsPath mark_class word_class tok_at read_numeral_of numeral_of decimal_of
nothing k = (0, refl, word)

-- f()
pub call : IsChunk call_tokens call_tree
unfolding IsChunk SpellsChunk Spells SpellsPath mark_class word_class tok_at read_numeral_of numeral_of decimal_of
call k = (3, (3, stands_1, (3, not_last, (3, inl refl, refl))), word)
  where
    -- f ( )
    stands_1 : SpellsStat (given_tokens call_tokens 4 k) outside call_1 0 3
    stands_1 = (tt, (0, here refl, (1, (0, here refl, (1, text, goes_on)), tt, (1, here refl, (3, (2, allowed, word), ended)))))

-- f 'a' {} (x, ...)
pub sugar : IsChunk sugar_tokens sugar_tree
unfolding IsChunk SpellsChunk Spells SpellsPath mark_class word_class tok_at read_numeral_of numeral_of decimal_of
sugar k = (9, (9, (tt, (0, here refl, stands_3)), (9, not_last, (9, inl refl, refl))), word)
  where
    -- f 'a'
    stands_1 : Spells (given_tokens sugar_tokens 10 k) (under (under (under outside))) 10 sugar_1 0 2
    stands_1 = (1, (0, here refl, (1, text, goes_on)), tt, (1, here refl, (2, inr (1, (tt, refl), (1, here refl, text)), goes_on)))

    -- f 'a' { }
    stands_2 : Spells (given_tokens sugar_tokens 10 k) (under (under outside)) 10 sugar_2 0 4
    stands_2 = (2, stands_1, tt, (2, here refl, (4, inr (2, (tt, refl), (2, here refl, (3, word, (3, refl, word)))), goes_on)))

    -- f 'a' { } ( x , ... )
    stands_3 : Spells (given_tokens sugar_tokens 10 k) (under outside) 9 sugar_3 0 9
    stands_3 = (4, stands_2, tt, (4, here refl, (9, inl (5, allowed, (6, (5, here refl, (6, text, ended)), (8, (7, word, (8, (7, here refl, allowed), refl)), word))), ended)))

-- a.b:c(1):d 'x' :e {}
pub methods : IsChunk methods_tokens methods_tree
unfolding IsChunk SpellsChunk Spells SpellsPath mark_class word_class tok_at read_numeral_of numeral_of decimal_of
methods k = (15, (15, stands_5, (15, not_last, (15, inl refl, refl))), word)
  where
    -- a . b
    stands_1 : Spells (given_tokens methods_tokens 16 k) (under (under (under (under outside)))) 10 methods_1 0 3
    stands_1 = (1, (0, here refl, (1, text, goes_on)), tt, (1, here refl, (3, inl (2, word, (2, here refl, text)), goes_on)))

    -- a . b : c ( 1 )
    stands_2 : Spells (given_tokens methods_tokens 16 k) (under (under (under outside))) 10 methods_2 0 8
    stands_2 = (3, stands_1, tt, (3, here refl, (4, word, (5, text, (8, inl (6, allowed, (7, (6, here refl, number), (7, refl, word))), goes_on)))))

    -- a . b : c ( 1 ) : d 'x'
    stands_3 : Spells (given_tokens methods_tokens 16 k) (under (under outside)) 10 methods_3 0 11
    stands_3 = (8, stands_2, tt, (8, here refl, (9, word, (10, text, (11, inr (10, (tt, refl), (10, here refl, text)), goes_on)))))

    -- { }
    stands_4 : Spells (given_tokens methods_tokens 16 k) (under (under outside)) 9 methods_4 13 15
    stands_4 = (13, here refl, (14, word, (14, refl, word)))

    -- a . b : c ( 1 ) : d 'x' : e { }
    stands_5 : SpellsStat (given_tokens methods_tokens 16 k) outside methods_5 0 15
    stands_5 = (tt, (0, here refl, (11, stands_3, tt, (11, here refl, (12, word, (13, text, (15, inr (13, (tt, refl), stands_4), ended)))))))

-- a.b[c].d, e = true, false, nil
pub places : IsChunk places_tokens places_tree
unfolding IsChunk SpellsChunk Spells SpellsPath mark_class word_class tok_at read_numeral_of numeral_of decimal_of
places k = (16, (16, stands_4, (16, not_last, (16, inl refl, refl))), word)
  where
    -- a . b
    stands_1 : Spells (given_tokens places_tokens 17 k) (under (under (under outside))) 10 places_1 0 3
    stands_1 = (1, (0, here refl, (1, text, goes_on)), tt, (1, here refl, (3, inl (2, word, (2, here refl, text)), goes_on)))

    -- a . b [ c ]
    stands_2 : Spells (given_tokens places_tokens 17 k) (under (under outside)) 10 places_2 0 6
    stands_2 = (3, stands_1, tt, (3, here refl, (6, inr (4, word, (5, (4, here refl, (5, text, ended)), word)), goes_on)))

    -- a . b [ c ] . d
    stands_3 : Spells (given_tokens places_tokens 17 k) (under outside) 1 places_3 0 8
    stands_3 = (6, stands_2, tt, (6, here refl, (8, inl (7, word, (7, here refl, text)), ended)))

    -- a . b [ c ] . d , e = true , false , nil
    stands_4 : SpellsStat (given_tokens places_tokens 17 k) outside places_4 0 16
    stands_4 = (0, here refl, inl (0, ((tt, (tt, tt)), refl), (10, (8, stands_3, (9, word, (10, (9, here refl, (10, text, ended)), refl))), (11, word, (12, (11, here refl, word), (13, word, (14, (13, here refl, word), (15, word, (16, (15, here refl, word), refl)))))))))

-- return {}, {f(); x = 0x10, [y] = 1e2,}, {z}
pub fields : IsChunk fields_tokens fields_tree
unfolding IsChunk SpellsChunk Spells SpellsPath mark_class word_class tok_at read_numeral_of numeral_of decimal_of
fields k = (24, (24, stands_5, (24, last, (24, inl refl, refl))), word)
  where
    -- { }
    stands_1 : Spells (given_tokens fields_tokens 25 k) (under outside) 1 fields_1 1 3
    stands_1 = (1, here refl, (2, word, (2, refl, word)))

    -- f ( )
    stands_2 : Spells (given_tokens fields_tokens 25 k) (under (under outside)) 1 fields_2 5 8
    stands_2 = (6, (5, here refl, (6, text, goes_on)), tt, (6, here refl, (8, (7, allowed, word), ended)))

    -- { f ( ) ; x = 0x10 , [ y ] = 1e2 , }
    stands_3 : Spells (given_tokens fields_tokens 25 k) (under outside) 1 fields_3 4 20
    stands_3 = (4, here refl, (5, word, (19, (8, stands_2, inr (9, semicolon, (10, inl (9, here refl, text), (11, word, (12, (11, here refl, number), inr (13, comma, (16, inr (14, word, (15, (14, here refl, (15, text, ended)), word)), (17, word, (18, (17, here refl, number), inr (19, comma, refl)))))))))), word)))

    -- { z }
    stands_4 : Spells (given_tokens fields_tokens 25 k) (under outside) 1 fields_4 21 24
    stands_4 = (21, here refl, (22, word, (23, (23, (22, here refl, (23, text, ended)), inl (tt, refl)), word)))

    -- return { } , { f ( ) ; x = 0x10 , [ y ] = 1e2 , } , { z }
    stands_5 : SpellsStat (given_tokens fields_tokens 25 k) outside fields_5 0 24
    stands_5 = (0, here refl, (1, word, inr (3, stands_1, (4, word, (20, stands_3, (21, word, (24, stands_4, refl)))))))

-- x = f [[a
-- b]] (1)
-- return -
-- x
pub lines : IsChunk lines_tokens lines_tree
unfolding IsChunk SpellsChunk Spells SpellsPath mark_class word_class tok_at read_numeral_of numeral_of decimal_of
lines k = (10, (7, stands_3, (7, not_last, (7, inl refl, (10, stands_4, (10, last, (10, inl refl, refl)))))), word)
  where
    -- f 'a\nb'
    stands_1 : Spells (given_tokens lines_tokens 11 k) (under (under outside)) 10 lines_1 2 4
    stands_1 = (3, (2, here refl, (3, text, goes_on)), tt, (3, here refl, (4, inr (3, (tt, refl), (3, here refl, text)), goes_on)))

    -- f 'a\nb' ( 1 )
    stands_2 : Spells (given_tokens lines_tokens 11 k) (under outside) 1 lines_2 2 7
    stands_2 = (4, stands_1, tt, (4, here refl, (7, inl (5, allowed, (6, (5, here refl, number), (6, refl, word))), ended)))

    -- x = f 'a\nb' ( 1 )
    stands_3 : SpellsStat (given_tokens lines_tokens 11 k) outside lines_3 0 7
    stands_3 = (0, here refl, inl (0, ((tt, tt), refl), (1, (1, (0, here refl, (1, text, ended)), refl), (2, word, (7, stands_2, refl)))))

    -- return - x
    stands_4 : SpellsStat (given_tokens lines_tokens 11 k) outside lines_4 7 10
    stands_4 = (7, here refl, (8, word, inr (10, (lit≤ tt, (8, here refl, (9, word, (9, here refl, (10, text, ended))))), refl)))

pub call_chunks : CallChunks
call_chunks = (nothing, call, sugar, methods, places, fields, lines)
