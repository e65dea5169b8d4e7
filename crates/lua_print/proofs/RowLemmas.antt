-- The worked examples, computed.
use Rattle.std.proofs.Common.{refl}
use Rattle.lua_lexer.specs.Lexis.{piece_of, breaks, numeral_size, string_body, long_text, with_line_feeds}
use Rattle.lua_reading.specs.LuaGrammarTokens.{word_class, mark_class}
use Rattle.lua_print.specs.Items.{pieces_by, items_from, items_of}
use Rattle.lua_print.specs.Layout.{layout_of}
use Rattle.lua_print.specs.Examples.{IsRow, RowsHold, levels, brackets, branches, comments, line_breaks, blank}

levels_hold : IsRow levels
unfolding layout_of items_of items_from pieces_by piece_of breaks numeral_size string_body long_text with_line_feeds word_class mark_class
levels_hold = refl

brackets_hold : IsRow brackets
unfolding layout_of items_of items_from pieces_by piece_of breaks numeral_size string_body long_text with_line_feeds word_class mark_class
brackets_hold = refl

branches_hold : IsRow branches
unfolding layout_of items_of items_from pieces_by piece_of breaks numeral_size string_body long_text with_line_feeds word_class mark_class
branches_hold = refl

comments_hold : IsRow comments
unfolding layout_of items_of items_from pieces_by piece_of breaks numeral_size string_body long_text with_line_feeds word_class mark_class
comments_hold = refl

line_breaks_hold : IsRow line_breaks
unfolding layout_of items_of items_from pieces_by piece_of breaks numeral_size string_body long_text with_line_feeds word_class mark_class
line_breaks_hold = refl

blank_holds : IsRow blank
unfolding layout_of items_of items_from pieces_by piece_of breaks numeral_size string_body long_text with_line_feeds word_class mark_class
blank_holds = refl

pub rows_hold : RowsHold
rows_hold = (levels_hold, brackets_hold, branches_hold, comments_hold, line_breaks_hold, blank_holds)
