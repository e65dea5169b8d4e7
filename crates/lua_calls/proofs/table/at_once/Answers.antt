use Rattle.std.proofs.Common.{◌∙◌, sym}
use Rattle.lua_acts.proofs.LuaLibsLines.{in-table as plain-line}
use Rattle.mw_htmls.proofs.LuaStringsLines.{in-table as string-line}
use Rattle.lua_tables.proofs.Lines.{in-table as table-line}
use Rattle.mw_texts.proofs.MwUstringsLines.{in-table as ustring-line}
use Rattle.mw_texts.proofs.Lines.{in-table as text-line}
use Rattle.lua_gsubs.proofs.LuaIteratorsLines.{in-table as iterator-line}
use Rattle.mw_htmls.proofs.Lines.{in-table as html-line}
use Rattle.lua_calls.proofs.table.at_once.Goals as goal

pub returns-in-Some : goal.returns-in-Some
returns-in-Some c = plain-line c.args.which c.in-Some.function (sym c.plain_function.ensures ∙ c.in-Some.is)

pub returns-in-Some-string_function : goal.returns-in-Some-string_function
returns-in-Some-string_function c = string-line c.args.which c.in-Some-string_function.function (sym c.string_function.ensures ∙ c.in-Some-string_function.is)

pub returns-in-Some-table_function : goal.returns-in-Some-table_function
returns-in-Some-table_function c = table-line c.args.which c.in-Some-table_function.function (sym c.table_function.ensures ∙ c.in-Some-table_function.is)

pub returns-in-Some-ustring_function : goal.returns-in-Some-ustring_function
returns-in-Some-ustring_function c = ustring-line c.args.which c.in-Some-ustring_function.function (sym c.ustring_function.ensures ∙ c.in-Some-ustring_function.is)

pub returns-in-Some-text_function : goal.returns-in-Some-text_function
returns-in-Some-text_function c = text-line c.args.which c.in-Some-text_function.function (sym c.text_function.ensures ∙ c.in-Some-text_function.is)

pub returns-in-Some-iterator_function : goal.returns-in-Some-iterator_function
returns-in-Some-iterator_function c = iterator-line c.args.which c.in-Some-iterator_function.function (sym c.iterator_function.ensures ∙ c.in-Some-iterator_function.is)

pub returns-in-Some-html_function : goal.returns-in-Some-html_function
returns-in-Some-html_function c = html-line c.args.which c.in-Some-html_function.function (sym c.html_function.ensures ∙ c.in-Some-html_function.is)

pub returns-in-None-html_function : goal.returns-in-None-html_function
returns-in-None-html_function c = record {
  not_basic = sym c.plain_function.ensures ∙ c.in-None.is;
  not_strings = sym c.string_function.ensures ∙ c.in-None-string_function.is;
  not_tables = sym c.table_function.ensures ∙ c.in-None-table_function.is;
  not_ustrings = sym c.ustring_function.ensures ∙ c.in-None-ustring_function.is;
  not_texts = sym c.text_function.ensures ∙ c.in-None-text_function.is;
  not_iterators = sym c.iterator_function.ensures ∙ c.in-None-iterator_function.is;
  not_html = sym c.html_function.ensures ∙ c.in-None-html_function.is;
}
