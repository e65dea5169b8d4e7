-- How a title is written, and how a text is read as one (MediaWiki, Manual:Page title and Help:Namespaces).
-- Texts are lists of bytes: 32 is the space, 58 `:`, 95 `_`.
use Rattle.std.specs.Prelude.{◌≡◌, ℕ, Bool, true, false, ◌||◌, ◌&&◌, not, ◌==◌, nat_lt, if◌then◌else◌, List, [], ◌∷◌, ◌++◌, map, find, length, Option, Some, None, option_map, option_and_then, unwrap_or, Result, Ok, Err, codes}
use Rattle.std.specs.List.{list_any}
use Rattle.std.specs.Char.{to_ascii_uppercase}
use Rattle.std.specs.Str.{is_utf8, str_eq_ignore_ascii_case}
use Rattle.wk_base.specs.Space.{trim_start, trim}
use Rattle.wk_base.specs.declared.title.Namespace.{Namespace}
use Rattle.wk_base.specs.declared.title.Namespace.TheVariants.{Main, Talk, User, UserTalk, Project, ProjectTalk, File, FileTalk, MediaWiki, MediaWikiTalk, Template, TemplateTalk, Help, HelpTalk, Category, CategoryTalk, Module, ModuleTalk}
use Rattle.wk_base.specs.declared.title.Title.{Title}
use Rattle.wk_base.specs.declared.title_read.TitleFault.{TitleFault}
use Rattle.wk_base.specs.declared.title_read.TitleFault.TheVariants.{Empty, BadByte, TooLong}

-- what stands before the colon in the titles of a namespace
unfoldable pub prefix_of : Namespace → List ℕ
prefix_of Main = []
prefix_of Talk = codes "Talk"
prefix_of User = codes "User"
prefix_of UserTalk = codes "User talk"
prefix_of Project = codes "Project"
prefix_of ProjectTalk = codes "Project talk"
prefix_of File = codes "File"
prefix_of FileTalk = codes "File talk"
prefix_of MediaWiki = codes "MediaWiki"
prefix_of MediaWikiTalk = codes "MediaWiki talk"
prefix_of Template = codes "Template"
prefix_of TemplateTalk = codes "Template talk"
prefix_of Help = codes "Help"
prefix_of HelpTalk = codes "Help talk"
prefix_of Category = codes "Category"
prefix_of CategoryTalk = codes "Category talk"
prefix_of Module = codes "Module"
prefix_of ModuleTalk = codes "Module talk"

-- whether the pages of a namespace are modules of Lua (Extension:Scribunto)
abbrev pub is_module : Namespace → Bool
is_module Module = true
is_module _ = false

-- the prefix, a colon and the name, or the name alone where the prefix is empty
abbrev pub with_prefix : List ℕ → List ℕ → List ℕ
with_prefix [] name = name
with_prefix (c ∷ cs) name = (c ∷ cs) ++ (58 ∷ name)

-- a title as it is written
unfoldable pub title_text : Title → List ℕ
title_text title = with_prefix (prefix_of title.ns) title.name

-- An underscore stands for a space.
abbrev pub as_space : ℕ → ℕ
as_space c = if c == 95 then 32 else c

abbrev pub with_spaces : List ℕ → List ℕ
with_spaces text = map as_space text

-- whether the text begins with this byte
abbrev pub begins_with : ℕ → List ℕ → Bool
begins_with b [] = false
begins_with b (c ∷ cs) = c == b

-- each run of spaces made one
abbrev pub squeeze : List ℕ → List ℕ
squeeze [] = []
squeeze (c ∷ cs) = if (c == 32) && begins_with 32 cs then squeeze cs else c ∷ squeeze cs

-- trimmed, and each run of spaces made one
abbrev pub tidy : List ℕ → List ℕ
tidy text = squeeze (trim text)

-- A colon in front of all is taken off, and leads to the main namespace.
abbrev pub open_colon : List ℕ → Namespace → Namespace × List ℕ
open_colon [] default = (default, [])
open_colon (c ∷ cs) default = if c == 58 then (Main, trim_start cs) else (default, c ∷ cs)

-- what stands before the first colon, and what stands behind it
abbrev pub cut_at_colon : List ℕ → Option (List ℕ × List ℕ)
cut_at_colon [] = None
cut_at_colon (c ∷ cs) = if c == 58 then Some ([], cs) else option_map (λ parts. (c ∷ parts.0, parts.1)) (cut_at_colon cs)

-- the namespaces that have a prefix
unfoldable pub prefixed_namespaces : List Namespace
prefixed_namespaces =
    Talk ∷ User ∷ UserTalk ∷ Project ∷ ProjectTalk ∷ File ∷ FileTalk ∷ MediaWiki ∷ MediaWikiTalk
    ∷ Template ∷ TemplateTalk ∷ Help ∷ HelpTalk ∷ Category ∷ CategoryTalk ∷ Module ∷ ModuleTalk ∷ []

-- the namespace whose prefix this is, in any case of its letters
unfoldable pub namespace_named : List ℕ → Option Namespace
namespace_named text = find (λ ns. str_eq_ignore_ascii_case text (prefix_of ns)) prefixed_namespaces

-- the namespace that the text before the first colon names, with what stands behind the colon
abbrev pub cut_prefix : List ℕ → Option (Namespace × List ℕ)
cut_prefix text =
    option_and_then (λ parts. option_map (λ ns. (ns, parts.1)) (namespace_named (tidy parts.0))) (cut_at_colon text)

-- Where the text names no namespace, the default holds for the whole of it.
abbrev pub choose_namespace : List ℕ → Namespace → Namespace × List ℕ
choose_namespace text default = unwrap_or (cut_prefix text) (default, text)

-- A byte that no name holds: one of `# < > [ ] { | }`, a byte below 32, or 127.
abbrev pub is_forbidden : ℕ → Bool
is_forbidden c = nat_lt c 32 || (c == 127) || list_any (λ b. c == b) (codes "#<>[]{|}")

-- whether a name isn't UTF-8, begins with a colon, or holds a forbidden byte
abbrev pub is_bad : List ℕ → Bool
is_bad name = not (is_utf8 name) || begins_with 58 name || list_any is_forbidden name

-- A first letter of ASCII becomes a capital.
abbrev pub with_capital : List ℕ → List ℕ
with_capital [] = []
with_capital (c ∷ cs) = to_ascii_uppercase c ∷ cs

-- the title of this name in a namespace, or why it is none
abbrev pub title_in : Namespace → List ℕ → Result Title TitleFault
title_in ns name =
    if length name == 0 then Err Empty
    else if is_bad name then Err BadByte
    else if nat_lt 255 (length name) then Err TooLong
    else Ok (record { ns = ns; name = with_capital name })

-- The title that a text is read as under a default namespace, or why it is none: underscores are spaces and the ends are
-- trimmed, a colon in front is taken off, a prefix chooses the namespace, and what is left, made tidy, is the name.
unfoldable pub title_of : List ℕ → Namespace → Result Title TitleFault
title_of text default =
    let opened = open_colon (trim (with_spaces text)) default in
    let chosen = choose_namespace opened.1 opened.0 in
    title_in chosen.0 (tidy chosen.1)

-- Any title that the text is read as is read again from its own text, with the main namespace as default.
abbrev pub ReadsBack : List ℕ → Namespace → Type 0
ReadsBack text default = (title : Title) → title_of text default ≡ Ok title → title_of (title_text title) Main ≡ Ok title
