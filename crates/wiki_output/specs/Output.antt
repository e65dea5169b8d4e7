-- What is written of pages that were expanded.
use Rattle.std.specs.Prelude.{ℕ, ◌+◌, Bool, true, false, List, [], ◌∷◌, ◌++◌, length, codes}
use Rattle.std.specs.Fmt.{decimal}
use Rattle.wk_tool.specs.WkBaseTitles.{title_text}
use Rattle.wiki_output.specs.declared.made.Made.{Made}
use Rattle.wiki_output.specs.declared.made.Used.{Used}
use Rattle.wiki_output.specs.declared.made.Form.{Form}
use Rattle.wiki_output.specs.declared.made.Form.TheVariants.{Alone, Blocks, Summary}

-- ---- standard output

-- the text of one page, and nothing else
abbrev pub alone : List Made → List ℕ
alone [] = []
alone (page ∷ pages) = page.text

-- a page among others: a line with its title and its length in bytes, its text, and a newline
abbrev pub block : Made → List ℕ
block page = codes "page " ++ title_text page.title ++ codes " " ++ decimal (length page.text) ++ 10 ∷ page.text ++ 10 ∷ []

abbrev pub blocks : List Made → List ℕ
blocks [] = []
blocks (page ∷ pages) = block page ++ blocks pages

-- the length of all texts together
abbrev pub total : List Made → ℕ
total [] = 0
total (page ∷ pages) = length page.text + total pages

-- how many pages there are, and the length of all their texts
abbrev pub summary : List Made → List ℕ
summary pages = codes "pages " ++ decimal (length pages) ++ codes " bytes " ++ decimal (total pages) ++ 10 ∷ []

abbrev pub text_in : Form → List Made → List ℕ
text_in Alone pages = alone pages
text_in Blocks pages = blocks pages
text_in Summary pages = summary pages

-- ---- standard error

abbrev pub used_text : Used → List ℕ
used_text used = codes " steps " ++ decimal used.steps ++ codes " nodes " ++ decimal used.nodes ++ codes " bytes " ++ decimal used.bytes ++ 10 ∷ []

-- what a page used of its allowances
abbrev pub stats_line : Made → List ℕ
stats_line page = title_text page.title ++ used_text page.used

abbrev pub stats_lines : List Made → List ℕ
stats_lines [] = []
stats_lines (page ∷ pages) = stats_line page ++ stats_lines pages

abbrev pub stats_if : Bool → List Made → List ℕ
stats_if false pages = []
stats_if true pages = stats_lines pages
