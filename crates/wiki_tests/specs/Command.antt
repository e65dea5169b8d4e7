-- THE COMMAND that words are: a folder, and behind it the options `--steps` and `--jobs`.
use Rattle.std.specs.Prelude.{ℕ, ◌≤◌, Bool, if◌then◌else◌, is_some, List, [], ◌∷◌, Option, Some, None, IfSome, option_map, option_and_then, unwrap_or, codes}
use Rattle.std.specs.List.{list_any, before_first, after_first}
use Rattle.std.specs.Str.{bytes_eq}
use Rattle.wk_base.specs.declared.left.Limits.{Limits}
use Rattle.wiki_words.specs.Items.{is_equals}
use Rattle.wiki_words.specs.Command.{default_limits, number_between}
use Rattle.wiki_tests.specs.declared.command.OptionName.{OptionName}
use Rattle.wiki_tests.specs.declared.command.OptionName.TheVariants.{Steps, Jobs}
use Rattle.wiki_tests.specs.declared.command.Reading.{Reading}
use Rattle.wiki_tests.specs.declared.command.Settings.{Settings}

-- a folder, how much each case may use, and how many cases may be worked on at once
pub record Command : Type 0 where
  pub folder : List ℕ
  pub limits : Limits
  pub jobs : ℕ

-- ---- the options

abbrev pub option_named : List ℕ → Option OptionName
option_named name =
    if bytes_eq name (codes "--steps") then Some Steps
    else if bytes_eq name (codes "--jobs") then Some Jobs
    else None

-- a number is told once at most
abbrev pub once : Option ℕ → Option ℕ → Option ℕ
once None number = number
once (Some told) number = None

-- the settings, with the text of one more option
abbrev pub with_text : OptionName → List ℕ → Settings → Option Settings
with_text Steps text settings = option_map (λ n. record settings { steps = Some n }) (once settings.steps (number_between 0 100000000 text))
with_text Jobs text settings = option_map (λ n. record settings { jobs = Some n }) (once settings.jobs (number_between 1 64 text))

-- numbers within their ranges
abbrev pub AreWithin : Settings → Type 0
AreWithin settings = IfSome settings.steps (λ n. n ≤ 100000000) × IfSome settings.jobs (λ n. 1 ≤ n)

-- ---- the words behind the folder, one by one

abbrev pub settled : Option Settings → Option Reading
settled settings = option_map (λ s. record { waiting = None; settings = s }) settings

-- an option's word: its text stands behind the first `=`, or is the next word
abbrev pub after_option : Settings → List ℕ → OptionName → Option Reading
after_option settings word name =
    if list_any is_equals word then settled (with_text name (after_first is_equals word) settings)
    else Some (record { waiting = Some name; settings = settings })

-- behind an option that waits for its text, or behind none
abbrev pub read_word : Option OptionName → Settings → List ℕ → Option Reading
read_word (Some name) settings word = settled (with_text name word settings)
read_word None settings word = option_and_then (after_option settings word) (option_named (before_first is_equals word))

-- None where a word is no such option, or an option is told twice or has a number out of its range
abbrev pub after_word : Reading → List ℕ → Option Reading
after_word reading word = read_word reading.waiting reading.settings word

abbrev pub after_words : Reading → List (List ℕ) → Option Reading
after_words reading [] = Some reading
after_words reading (word ∷ words) = option_and_then (λ next. after_words next words) (after_word reading word)

-- None where the last option lacks its text
abbrev pub settings_in : Reading → Option Settings
settings_in reading = if is_some reading.waiting then None else Some reading.settings

abbrev pub unread : Reading
unread = record { waiting = None; settings = record { steps = None; jobs = None } }

abbrev pub settings_of : List (List ℕ) → Option Settings
settings_of words = option_and_then settings_in (after_words unread words)

-- ---- the command

abbrev pub command_in : List ℕ → Settings → Command
command_in folder settings = record {
  folder = folder;
  limits = record default_limits { steps = unwrap_or settings.steps default_limits.steps };
  jobs = unwrap_or settings.jobs 1;
}

-- the command that the words are, if they are one; the first word is the folder, whatever it is
abbrev pub command_of : List (List ℕ) → Option Command
command_of [] = None
command_of (folder ∷ words) = option_map (command_in folder) (settings_of words)

abbrev pub is_command : List (List ℕ) → Bool
is_command words = is_some (command_of words)
