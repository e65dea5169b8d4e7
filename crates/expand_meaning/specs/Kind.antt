-- What the text of a construct's first part stands for (MediaWiki, Help:Magic words, Help:Templates, and
-- Help:Extension:ParserFunctions). Texts are trimmed before.
use Rattle.std.specs.Prelude.{ℕ, Bool, if◌then◌else◌, List, [], ◌∷◌, length, take, drop, codes, bytes_eq, unwrap_or, Option, Some, None, Result, Ok, Err}
use Rattle.std.specs.Str.{str_eq_ignore_ascii_case}
use Rattle.wiki_markup.specs.WkBaseSpace.{trim}
use Rattle.mw_frame.specs.WkBaseTitles.{prefix_of, title_text, title_of}
use Rattle.wiki_markup.specs.WkBaseDeclaredTitleNamespace.{Namespace}
use Rattle.mw_frame.specs.WkBaseDeclaredTitleNamespaceTheVariants.{Template}
use Rattle.mw_frame.specs.WkBaseDeclaredTitleTitle.{Title}
use Rattle.page_run.specs.WkBaseDeclaredTitleReadTitleFault.{TitleFault}

pub data Kind : Type 0 where
  -- it stands as it is written
  Written : Kind
  -- a text of its own
  Word : (text : List ℕ) → Kind
  -- a parser function, with what stands behind its colon
  If : (test : List ℕ) → Kind
  IfEq : (left : List ℕ) → Kind
  Switch : (value : List ℕ) → Kind
  Invoke : (name : List ℕ) → Kind
  -- a template, or another page that is included
  Include : (title : Title) → Kind

-- the title that a text is read as, if it is one
abbrev pub if_title : Result Title TitleFault → Option Title
if_title (Ok title) = Some title
if_title (Err fault) = None

unfoldable pub title_named : List ℕ → Namespace → Option Title
title_named text default = if_title (title_of text default)

-- what stands behind a prefix, in any case of its letters
unfoldable pub behind : List ℕ → List ℕ → Option (List ℕ)
behind prefix text =
    if str_eq_ignore_ascii_case (take (length prefix) text) prefix then Some (drop (length prefix) text) else None

-- 1. `safesubst:` in front is passed over (MediaWiki, Help:Substitution)
abbrev pub unsubstituted : List ℕ → List ℕ
unsubstituted text = trim (unwrap_or (behind (codes "safesubst:") text) text)

-- 2. The words of a construct of one part: the title of the page that is expanded, and two marks (MediaWiki, Help:Magic words).
unfoldable pub word_of : Title → List ℕ → Option (List ℕ)
word_of page text =
    if bytes_eq text (codes "!") then Some (codes "|")
    else if bytes_eq text (codes "=") then Some (codes "=")
    else if bytes_eq text (codes "PAGENAME") then Some page.name
    else if bytes_eq text (codes "FULLPAGENAME") then Some (title_text page)
    else if bytes_eq text (codes "NAMESPACE") then Some (prefix_of page.ns)
    else None

-- 3. A parser function: its name and a colon in front, in any case.
abbrev pub named : Option (List ℕ) → (List ℕ → Kind) → Kind → Kind
named (Some argument) function other = function argument
named None function other = other

-- 4. The title of a template, or of a page in another namespace.
abbrev pub titled : Option Title → Kind
titled (Some title) = Include title
titled None = Written

unfoldable pub function_or_title : List ℕ → Kind
function_or_title text =
    named (behind (codes "#if:") text) If
    (named (behind (codes "#ifeq:") text) IfEq
    (named (behind (codes "#switch:") text) Switch
    (named (behind (codes "#invoke:") text) Invoke
    (titled (title_named text Template)))))

abbrev pub word_or_other : Option (List ℕ) → List ℕ → Kind
word_or_other (Some word) text = Word word
word_or_other None text = function_or_title text

-- `alone`: the construct has one part
abbrev pub plain_kind : Bool → Title → List ℕ → Kind
plain_kind alone page text = word_or_other (if alone then word_of page text else None) text

-- `subst:` in front stands for a substitution when a page is saved, so here the construct stands as it is written.
abbrev pub unless_substituted : Option (List ℕ) → Kind → Kind
unless_substituted (Some rest) kind = Written
unless_substituted None kind = kind

-- THE KIND of a construct, by the text of its first part
unfoldable pub kind_of : Bool → Title → List ℕ → Kind
kind_of alone page text =
    let text = unsubstituted text in
    unless_substituted (behind (codes "subst:") text) (plain_kind alone page text)
