-- What the words of a command line ask.
use Rattle.std.specs.Prelude.{ℕ, Bool, true, false, ◌&&◌, if◌then◌else◌, nat_le, nat_lt, List, [], ◌∷◌, length, Option, Some, None, is_some, option_map, codes}
use Rattle.std.specs.Bool.{then_some}
use Rattle.std.specs.List.{filter_map}
use Rattle.std.specs.Option.{option_and_then}
use Rattle.std.specs.Result.{result_ok}
use Rattle.std.specs.Str.{bytes_eq, all_ascii_digits}
use Rattle.std.specs.Str.Parse.{digits_value, without_leading_plus}
use Rattle.wk_base.specs.declared.left.Limits.{Limits}
use Rattle.wk_base.specs.declared.title.Title.{Title}
use Rattle.wk_base.specs.declared.title.Namespace.TheVariants.{Main}
use Rattle.wk_base.specs.Titles.{title_of}
use Rattle.wiki_words.specs.declared.items.OptionName.{OptionName}
use Rattle.wiki_words.specs.declared.items.OptionName.TheVariants.{Steps, Nodes, Bytes, Jobs, Stats, All}
use Rattle.wiki_words.specs.declared.command.Asked.{Asked}
use Rattle.wiki_words.specs.declared.command.Asked.TheVariants.{Titles, AllPages}
use Rattle.wiki_words.specs.declared.command.Command.{Command}
use Rattle.wiki_words.specs.declared.settings.Settings.{Settings}
use Rattle.wiki_words.specs.declared.command.Verb.{Verb}
use Rattle.wiki_words.specs.declared.command.Verb.TheVariants.{Expand, Demo}
use Rattle.wiki_words.specs.declared.command.Work.{Work}
use Rattle.wiki_words.specs.declared.command.Work.TheVariants.{Folder, Made}
use Rattle.wiki_words.specs.Items.{Item, items_of}

-- how much a page may use where no option says otherwise
abbrev pub default_limits : Limits
default_limits = record { steps = 20000000; nodes = 1000000; bytes = 2097152; calls = 20000; depth = 100; templates = 40 }

-- digits, with a plus before them or none
abbrev pub number : List ℕ → Option ℕ
number text =
    let digits = without_leading_plus text in
    if nat_lt 0 (length digits) && all_ascii_digits digits then Some (digits_value 10 digits) else None

abbrev pub between : ℕ → ℕ → ℕ → Option ℕ
between least most n = then_some (nat_le least n && nat_le n most) n

abbrev pub number_between : ℕ → ℕ → List ℕ → Option ℕ
number_between least most text = option_and_then (between least most) (number text)

-- ---- the texts of a command

abbrev pub same_name : OptionName → OptionName → Bool
same_name Steps Steps = true
same_name Nodes Nodes = true
same_name Bytes Bytes = true
same_name Jobs Jobs = true
same_name Stats Stats = true
same_name All All = true
same_name _ _ = false

abbrev pub same_option : Option OptionName → Option OptionName → Bool
same_option None None = true
same_option (Some a) (Some b) = same_name a b
same_option _ _ = false

abbrev pub text_for : Option OptionName → Item → Option (List ℕ)
text_for option item = if same_option item.option option then Some item.text else None

-- the texts that are given for an option, in order; the values where it is none
abbrev pub texts_for : Option OptionName → List Item → List (List ℕ)
texts_for option items = filter_map (text_for option) items

-- ---- the options, each of them given once at most

-- A number of which nothing is said is the one given here.
abbrev pub setting : ℕ → ℕ → ℕ → List (List ℕ) → Option ℕ
setting least most unsaid [] = Some unsaid
setting least most unsaid (text ∷ []) = number_between least most text
setting least most unsaid (first ∷ second ∷ more) = None

abbrev pub steps_of : List Item → Option ℕ
steps_of items = setting 0 100000000 default_limits.steps (texts_for (Some Steps) items)

abbrev pub nodes_of : List Item → Option ℕ
nodes_of items = setting 0 4000000 default_limits.nodes (texts_for (Some Nodes) items)

abbrev pub bytes_of : List Item → Option ℕ
bytes_of items = setting 0 16000000 default_limits.bytes (texts_for (Some Bytes) items)

abbrev pub jobs_of : List Item → Option ℕ
jobs_of items = setting 1 64 1 (texts_for (Some Jobs) items)

-- whether a flag is given
abbrev pub flag : List (List ℕ) → Option Bool
flag [] = Some false
flag (text ∷ []) = Some true
flag (first ∷ second ∷ more) = None

abbrev pub flag_of : OptionName → List Item → Option Bool
flag_of name items = flag (texts_for (Some name) items)

abbrev pub settings_with : Option ℕ → Option ℕ → Option ℕ → Option ℕ → Option Bool → Option Settings
settings_with (Some steps) (Some nodes) (Some bytes) (Some jobs) (Some stats) =
    Some (record { limits = record default_limits { steps = steps; nodes = nodes; bytes = bytes }; jobs = jobs; stats = stats })
settings_with _ _ _ _ _ = None

abbrev pub settings_of : List Item → Option Settings
settings_of items = settings_with (steps_of items) (nodes_of items) (bytes_of items) (jobs_of items) (flag_of Stats items)

-- ---- the values

-- the titles that the texts are read as, if each of them is one
abbrev pub titles_from : List (List ℕ) → Option (List Title)
titles_from [] = Some []
titles_from (text ∷ texts) =
    option_and_then (λ title. option_map (λ titles. title ∷ titles) (titles_from texts)) (result_ok (title_of text Main))

-- one page or more, or all of them where the flag says so
abbrev pub asked_from : List (List ℕ) → Bool → Option Asked
asked_from [] true = Some AllPages
asked_from (text ∷ texts) false = option_map Titles (titles_from (text ∷ texts))
asked_from _ _ = None

-- a folder, and which of its pages
abbrev pub expand_from : List (List ℕ) → Bool → Option Work
expand_from [] all = None
expand_from (folder ∷ texts) all = option_map (λ asked. Folder (record { folder = folder; asked = asked })) (asked_from texts all)

-- how many pages are to be made; `--all` says nothing of them
abbrev pub demo_from : List (List ℕ) → Bool → Option Work
demo_from (text ∷ []) false = option_map Made (number_between 1 50000 text)
demo_from _ _ = None

abbrev pub work_from : Verb → List (List ℕ) → Bool → Option Work
work_from Expand values all = expand_from values all
work_from Demo values all = demo_from values all

abbrev pub work_of : Verb → List Item → Option Work
work_of verb items = option_and_then (work_from verb (texts_for None items)) (flag_of All items)

-- ---- the command

abbrev pub command_with : Option Work → Option Settings → Option Command
command_with (Some work) (Some settings) = Some (record { work = work; settings = settings })
command_with _ _ = None

abbrev pub command_from : Verb → List Item → Option Command
command_from verb items = command_with (work_of verb items) (settings_of items)

abbrev pub verb_of : List ℕ → Option Verb
verb_of word =
    if bytes_eq word (codes "expand") then Some Expand
    else if bytes_eq word (codes "demo") then Some Demo
    else None

-- the command that the words are, if they are one: a verb, and then its items
unfoldable pub command_of : List (List ℕ) → Option Command
command_of [] = None
command_of (word ∷ words) =
    option_and_then (λ verb. option_and_then (command_from verb) (items_of words)) (verb_of word)

-- whether the first word is a command's
abbrev pub begins_command : List (List ℕ) → Bool
begins_command [] = false
begins_command (word ∷ words) = is_some (verb_of word)
