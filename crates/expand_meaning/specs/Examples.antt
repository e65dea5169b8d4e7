-- WORKED PAGES, with what MediaWiki's rules make of them, written by hand.
use Rattle.std.specs.Prelude.{◌≡◌, ℕ, List, [], ◌∷◌, codes, Option}
use Rattle.std.specs.Map.{lookup}
use Rattle.page_run.specs.WkBaseDeclaredLeftLeft.{Left}
use Rattle.mw_frame.specs.WkBaseDeclaredTitleNamespaceTheVariants.{Main, Template}
use Rattle.mw_frame.specs.WkBaseDeclaredTitleTitle.{Title}
use Rattle.page_run.specs.WkBaseContractsTitleTitlePartialEqTheImpl as titles
use Rattle.wiki_markup.specs.Trees.{Trees, pairing}
use Rattle.expand_meaning.specs.Expand.{Setting}
use Rattle.expand_meaning.specs.Outcome.{page_text}

-- plain text without tags, paired
abbrev pub tree : List ℕ → Trees
tree text = pairing (record { bytes = text; literals = []; cuts = [] })

abbrev pub template : List ℕ → List ℕ → Title × Trees
template name text = (record { ns = Template; name = name }, tree text)

abbrev pub among : List (Title × Trees) → Title → Option Trees
among pages title = lookup (titles.ghosts.eq title) pages

-- the page `P`, and templates
abbrev pub wiki : List (Title × Trees) → Setting
wiki pages = record { included = among pages; page = record { ns = Main; name = codes "P" } }

abbrev pub ample : Left
ample = record { steps = 0; nodes = 100; bytes = 1000; calls = 0; depth = 20; templates = 5 }

abbrev pub text_of : List (Title × Trees) → Left → List ℕ → List ℕ
text_of pages left text = page_text (wiki pages) (tree text) left

-- a parameter in a template's text; one that is given no argument
abbrev pub Parameters : Type 0
Parameters =
    (text_of (template (codes "T") (codes "{{{{1}}}}") ∷ []) ample (codes "{{T|x}}") ≡ codes "{x}")
    × (text_of [] ample (codes "{{{a}}}") ≡ codes "{{{a}}}")

-- unnamed arguments are taken as they are, named ones are trimmed, an empty one is one, and of two the last counts
abbrev pub shows : List (Title × Trees)
shows = template (codes "T") (codes "[{{{1|x}}}|{{{n}}}]") ∷ []

abbrev pub Arguments : Type 0
Arguments =
    (text_of shows ample (codes "{{T| p |n= q }}") ≡ codes "[ p |q]")
    × (text_of shows ample (codes "{{T}}") ≡ codes "[x|{{{n}}}]")
    × (text_of shows ample (codes "{{T|1=}}") ≡ codes "[|{{{n}}}]")
    × (text_of shows ample (codes "{{T|1=a|b}}") ≡ codes "[b|{{{n}}}]")

-- a template that includes itself, and one that is not there
abbrev pub Loops : Type 0
Loops =
    (text_of (template (codes "T") (codes "{{T}}") ∷ []) ample (codes "{{T}}") ≡ codes "<span class=\"error\">Template loop detected: [[:Template:T]]</span>")
    × (text_of [] ample (codes "{{nope}}") ≡ codes "[[:Template:Nope]]")

-- parser functions
abbrev pub Functions : Type 0
Functions =
    (text_of [] ample (codes "{{#if: | a | b }}{{#if:x|a=b}}") ≡ codes "ba=b")
    × (text_of [] ample (codes "{{#ifeq:01|+1|y|n}}{{#ifeq:1.0|1|y|n}}{{#ifeq:a|A|y|n}}") ≡ codes "ynn")
    × (text_of [] ample (codes "{{#switch:b|a=1|b|c=2|3}}{{#switch:z|#default=1|a=2|#default=3}}{{#switch:z|a=1|4}}") ≡ codes "234")
    × (text_of [] ample (codes "{{#SWITCH:z|#default|a=1|b=2}}{{#switch:z|a=1|#default}}") ≡ codes "1")

-- words, and what stands as it is written
abbrev pub Words : Type 0
Words =
    (text_of [] ample (codes "{{!}}{{=}}{{PAGENAME}}{{FULLPAGENAME}}{{NAMESPACE}}") ≡ codes "|=PP")
    × (text_of [] ample (codes "{{subst:T|a=b| c}}{{a<b}}") ≡ codes "{{subst:T|a=b| c}}{{a<b}}")
    × (text_of shows ample (codes "{{ SafeSubst: T |1}}") ≡ codes "[1|{{{n}}}]")

-- invocations without a function, and of a module that is not there
abbrev pub Invocations : Type 0
Invocations =
    (text_of [] ample (codes "{{#invoke:M}}") ≡ codes "<strong class=\"error\">Script error: You must specify a function to call.</strong>")
    × (text_of [] ample (codes "{{#invoke: A<B |f}}") ≡ codes "<strong class=\"error\">Script error: No such module \"A&lt;B\".</strong>")

abbrev pub with_nodes : ℕ → Left
with_nodes n = record ample { nodes = n }

abbrev pub with_bytes : ℕ → Left
with_bytes n = record ample { bytes = n }

abbrev pub with_depth : ℕ → Left
with_depth n = record ample { depth = n }

abbrev pub with_templates : ℕ → Left
with_templates n = record ample { templates = n }

-- what is refused, and that the page goes on
abbrev pub Limits : Type 0
Limits =
    (text_of [] (with_nodes 1) (codes "{{!}}{{!}}a") ≡ codes "|<span class=\"error\">Node limit exceeded</span>a")
    × (text_of [] (with_bytes 3) (codes "{{#if:x|ab}}{{#if:x|cd}}e") ≡ codes "ab<span class=\"error\">Include size exceeded</span>e")
    × (text_of [] (with_depth 1) (codes "{{#if:x|{{!}}}}{{!}}") ≡ codes "<span class=\"error\">Expansion depth limit exceeded</span>|")
    × (text_of shows (with_templates 0) (codes "{{T}}a") ≡ codes "<span class=\"error\">Expansion depth limit exceeded</span>a")
