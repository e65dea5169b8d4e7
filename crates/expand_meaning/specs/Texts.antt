-- The texts that stand where an expansion is refused, and the equality of two texts. Their wording is this program's own.
use Rattle.std.specs.Prelude.{ℕ, ◌+◌, ◌*◌, ◌-◌, Bool, true, false, ◌||◌, ◌&&◌, ◌==◌, not, nat_le, nat_lt, if◌then◌else◌, List, [], ◌∷◌, ◌++◌, length, flat_map, codes, bytes_eq, Option, Some, None}
use Rattle.std.specs.List.{list_all}
use Rattle.mw_frame.specs.WkBaseDeclaredTitleTitle.{Title}
use Rattle.mw_frame.specs.WkBaseTitles.{title_text}

-- no node, no byte and no level is left (MediaWiki, Manual:Template limits)
unfoldable pub node_text : List ℕ
node_text = codes "<span class=\"error\">Node limit exceeded</span>"

unfoldable pub size_text : List ℕ
size_text = codes "<span class=\"error\">Include size exceeded</span>"

unfoldable pub depth_text : List ℕ
depth_text = codes "<span class=\"error\">Expansion depth limit exceeded</span>"

-- a template that includes itself (MediaWiki, Help:Templates)
unfoldable pub loop_text : Title → List ℕ
loop_text title = codes "<span class=\"error\">Template loop detected: [[:" ++ title_text title ++ codes "]]</span>"

-- a template that no page holds: a link to it
unfoldable pub missing_text : Title → List ℕ
missing_text title = codes "[[:" ++ title_text title ++ codes "]]"

-- `&`, `<` and `>` as HTML writes them
unfoldable pub escape_byte : ℕ → List ℕ
escape_byte c =
    if c == 38 then codes "&amp;"
    else if c == 60 then codes "&lt;"
    else if c == 62 then codes "&gt;"
    else c ∷ []

abbrev pub escaped : List ℕ → List ℕ
escaped text = flat_map escape_byte text

-- what a failing `#invoke` stands for (MediaWiki, Extension:Scribunto, "Script error")
unfoldable pub error_text : List ℕ → List ℕ
error_text message = codes "<strong class=\"error\">" ++ escaped message ++ codes "</strong>"

unfoldable pub no_function_text : List ℕ
no_function_text = error_text (codes "Script error: You must specify a function to call.")

unfoldable pub no_module_text : List ℕ → List ℕ
no_module_text name = error_text (codes "Script error: No such module \"" ++ name ++ codes "\".")

-- A number of `#ifeq` and `#switch`, as its sign and its size: 1 to 18 digits, behind a sign or none. Zero has no sign.
abbrev pub is_digit : ℕ → Bool
is_digit c = nat_le 48 c && nat_le c 57

abbrev pub is_short : List ℕ → Bool
is_short digits = nat_le 1 (length digits) && nat_le (length digits) 18

abbrev pub behind_sign : List ℕ → List ℕ
behind_sign [] = []
behind_sign (c ∷ cs) = if c == 43 || c == 45 then cs else c ∷ cs

abbrev pub is_minus : List ℕ → Bool
is_minus [] = false
is_minus (c ∷ cs) = c == 45

-- the number of digits behind others that make n
abbrev pub size_after : ℕ → List ℕ → ℕ
size_after n [] = n
size_after n (c ∷ cs) = size_after (n * 10 + (c - 48)) cs

abbrev pub signed : Bool → ℕ → Bool × ℕ
signed minus size = (minus && not (size == 0), size)

unfoldable pub number_of : List ℕ → Option (Bool × ℕ)
number_of text =
    if is_short (behind_sign text) && list_all is_digit (behind_sign text) then Some (signed (is_minus text) (size_after 0 (behind_sign text))) else None

abbrev pub same_bool : Bool → Bool → Bool
same_bool true b = b
same_bool false b = not b

abbrev pub same_number : Option (Bool × ℕ) → Option (Bool × ℕ) → Bool
same_number (Some m) (Some n) = same_bool m.0 n.0 && (m.1 == n.1)
same_number (Some m) None = false
same_number None n = false

-- The equality of `#ifeq` and `#switch`: the same bytes, or two texts that are numbers and equal as numbers
-- (MediaWiki, Help:Extension:ParserFunctions, "#ifeq").
unfoldable pub are_equal : List ℕ → List ℕ → Bool
are_equal x y = bytes_eq x y || same_number (number_of x) (number_of y)
