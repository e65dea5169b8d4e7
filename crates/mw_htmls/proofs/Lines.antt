-- Each of these functions is a line of the table of the library.
use Rattle.std.proofs.Common.{◌≡◌, ap, Some}
use Rattle.lua_strings.specs.LuaHeapDeclaredLibraryLibraryTheVariants.{HtmlCreate, HtmlNode, HtmlWikitext, HtmlNewline, HtmlAttr, HtmlAddClass, HtmlCss, HtmlCssText, HtmlTag, HtmlDone, HtmlAllDone, HtmlGetAttr}
use Rattle.lua_strings.specs.LuaMeaningLibraries.{Answers}
use Rattle.mw_htmls.specs.declared.table.HtmlFunction.{HtmlFunction}
use Rattle.mw_htmls.specs.declared.table.HtmlFunction.TheVariants as function
use Rattle.mw_htmls.specs.declared.table.Method.TheVariants as own
use Rattle.mw_htmls.specs.Table.{answer_of, AreInTable}

same : (f g : HtmlFunction) → Some f ≡ Some g → f ≡ g
same f g e = cc

pub in-table : AreInTable
in-table HtmlCreate f e = λ world args h frames. ap (λ g. Answers (answer_of g args h)) (same (function.Create) f e)
in-table HtmlNode f e = λ world args h frames. ap (λ g. Answers (answer_of g args h)) (same (function.Method own.Node) f e)
in-table HtmlWikitext f e = λ world args h frames. ap (λ g. Answers (answer_of g args h)) (same (function.Method own.Wikitext) f e)
in-table HtmlNewline f e = λ world args h frames. ap (λ g. Answers (answer_of g args h)) (same (function.Method own.Newline) f e)
in-table HtmlAttr f e = λ world args h frames. ap (λ g. Answers (answer_of g args h)) (same (function.Method own.Attr) f e)
in-table HtmlAddClass f e = λ world args h frames. ap (λ g. Answers (answer_of g args h)) (same (function.Method own.AddClass) f e)
in-table HtmlCss f e = λ world args h frames. ap (λ g. Answers (answer_of g args h)) (same (function.Method own.Css) f e)
in-table HtmlCssText f e = λ world args h frames. ap (λ g. Answers (answer_of g args h)) (same (function.Method own.CssText) f e)
in-table HtmlTag f e = λ world args h frames. ap (λ g. Answers (answer_of g args h)) (same (function.Method own.Tag) f e)
in-table HtmlDone f e = λ world args h frames. ap (λ g. Answers (answer_of g args h)) (same (function.Method own.Done) f e)
in-table HtmlAllDone f e = λ world args h frames. ap (λ g. Answers (answer_of g args h)) (same (function.Method own.AllDone) f e)
in-table HtmlGetAttr f e = λ world args h frames. ap (λ g. Answers (answer_of g args h)) (same (function.Method own.GetAttr) f e)
in-table which f e = absurd cc
