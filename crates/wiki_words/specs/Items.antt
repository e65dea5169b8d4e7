-- The words of a command line: texts, some of them given for an option.
use Rattle.std.specs.Prelude.{ℕ, Bool, true, false, ◌==◌, if◌then◌else◌, List, [], ◌∷◌, Option, Some, None, option_map, codes}
use Rattle.std.specs.List.{list_any, cons_option, before_first, after_first}
use Rattle.std.specs.Option.{option_and_then}
use Rattle.std.specs.Str.{bytes_eq}
use Rattle.wiki_words.specs.declared.items.OptionName.{OptionName}
use Rattle.wiki_words.specs.declared.items.OptionName.TheVariants.{Steps, Nodes, Bytes, Jobs, Stats, All}
use Rattle.wiki_words.specs.declared.items.Reading.{Reading}
use Rattle.wiki_words.specs.declared.items.Reading.TheVariants.{Any, TextOf, ValueAlone}

-- a text, and the option that it is given for: none where it is a value. A flag is given without a text.
pub record Item : Type 0 where
  pub option : Option OptionName
  pub text : List ℕ

abbrev pub value : List ℕ → Item
value word = record { option = None; text = word }

abbrev pub given : OptionName → List ℕ → Item
given name text = record { option = Some name; text = text }

-- A word that begins with `-` and isn't a lone `-` is an option.
abbrev pub is_option : List ℕ → Bool
is_option [] = false
is_option (c ∷ []) = false
is_option (c ∷ d ∷ ds) = c == 45

-- `--`, behind which every word is a value
abbrev pub is_end : List ℕ → Bool
is_end word = bytes_eq word (codes "--")

abbrev pub is_equals : ℕ → Bool
is_equals c = c == 61

-- the option of a name
abbrev pub option_named : List ℕ → Option OptionName
option_named name =
    if bytes_eq name (codes "--steps") then Some Steps
    else if bytes_eq name (codes "--nodes") then Some Nodes
    else if bytes_eq name (codes "--bytes") then Some Bytes
    else if bytes_eq name (codes "--jobs") then Some Jobs
    else if bytes_eq name (codes "--stats") then Some Stats
    else if bytes_eq name (codes "--all") then Some All
    else None

-- whether an option stands alone; each other one has a text
abbrev pub is_flag : OptionName → Bool
is_flag Stats = true
is_flag All = true
is_flag _ = false

-- What a word means: the text that it adds, if it adds one, and how the word behind it is read.
pub record WordMeaning : Type 0 where
  pub item : Option Item
  pub next : Reading

-- an option with a text behind its first `=`
abbrev pub with_text : List ℕ → OptionName → Option WordMeaning
with_text text name = if is_flag name then None else Some (record { item = Some (given name text); next = Any })

-- an option that is a word of its own: its text is the next word
abbrev pub alone : OptionName → WordMeaning
alone name =
    if is_flag name then record { item = Some (given name []); next = Any }
    else record { item = None; next = TextOf name }

abbrev pub option_meaning : List ℕ → OptionName → Option WordMeaning
option_meaning word name =
    if list_any is_equals word then with_text (after_first is_equals word) name else Some (alone name)

abbrev pub meaning_of : Reading → List ℕ → Option WordMeaning
meaning_of (TextOf name) word = Some (record { item = Some (given name word); next = Any })
meaning_of ValueAlone word = Some (record { item = Some (value word); next = ValueAlone })
meaning_of Any word =
    if is_end word then Some (record { item = None; next = ValueAlone })
    else if is_option word then option_and_then (option_meaning word) (option_named (before_first is_equals word))
    else Some (record { item = Some (value word); next = Any })

-- the text of a word, and those of the words behind it
abbrev pub followed_by : Option WordMeaning → (Reading → Option (List Item)) → Option (List Item)
followed_by None behind = None
followed_by (Some meaning) behind = option_map (cons_option meaning.item) (behind meaning.next)

-- The texts of the words: none where an option is unknown or a flag has a text, or where the last option lacks its text.
abbrev pub items_from : Reading → List (List ℕ) → Option (List Item)
items_from (TextOf name) [] = None
items_from Any [] = Some []
items_from ValueAlone [] = Some []
items_from reading (word ∷ words) = followed_by (meaning_of reading word) (λ next. items_from next words)

abbrev pub items_of : List (List ℕ) → Option (List Item)
items_of words = items_from Any words
