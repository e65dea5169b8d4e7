-- WHAT PARTS OF THE CODE STAND FOR: what was read of all arguments, and the kinds of functions that share a body.
use Rattle.std.specs.Prelude.{ℕ, ◌+◌, ◌≤◌, ℤ, unsigned_abs, List, map, reverse, Option, Some, None, Result, Ok, Err, if◌then◌else◌, codes}
use Rattle.std.specs.Char.{to_ascii_lowercase, to_ascii_uppercase}
use Rattle.lua_string.specs.LuaNumberDeclaredArithmeticNumberFault.{NumberFault}
use Rattle.lua_string.specs.LuaNumberWhole.{power_of}
use Rattle.lua_string.specs.Texts.{is_code}
use Rattle.lua_string.specs.Whole.{abs_of, fmod_of, max_of, min_of}
use Rattle.lua_pattern.specs.declared.pattern.Match.{Match}
use Rattle.lua_pattern.specs.declared.pattern.Search.{Search}
use Rattle.lua_pattern.specs.declared.pattern.Search.TheVariants as search
use Rattle.lua_pattern.specs.Sizes.{find_bytes, match_bytes}
use Rattle.lua_basic.specs.LuaHeapValue.{Value}
use Rattle.lua_basic.specs.LuaMeaningScope.{Bytes}
use Rattle.lua_basic.specs.LuaMeaningValues.{number_in}
use Rattle.lua_basic.specs.LuaMeaningMessages.{bad_argument, expected}
use Rattle.lua_basic.specs.LuaMeaningArguments.{Argument}
use Rattle.lua_basic.specs.Seen.{values_seen}
use Rattle.lua_basic.specs.LuaMeaningChecks.{out_of_range}
use Rattle.lua_basic.specs.LuaMeaningNumbers.{itself}
use Rattle.lua_basic.specs.LuaMeaningSearches as searches
use Rattle.lua_strings.specs.declared.arguments.NumbersRead.{NumbersRead}
use Rattle.lua_strings.specs.declared.arguments.NumbersRead.TheVariants as numbers
use Rattle.lua_strings.specs.declared.arguments.CodesCheck.{CodesCheck}
use Rattle.lua_strings.specs.declared.arguments.CodesCheck.TheVariants as check
use Rattle.lua_strings.specs.declared.making.Change.{Change}
use Rattle.lua_strings.specs.declared.making.Change.TheVariants as change
use Rattle.lua_strings.specs.declared.numbers.OfOne.{OfOne}
use Rattle.lua_strings.specs.declared.numbers.OfOne.TheVariants as one
use Rattle.lua_strings.specs.declared.numbers.OfTwo.{OfTwo}
use Rattle.lua_strings.specs.declared.numbers.OfTwo.TheVariants as two
use Rattle.lua_strings.specs.declared.numbers.OfAll.{OfAll}
use Rattle.lua_strings.specs.declared.numbers.OfAll.TheVariants as all
use Rattle.lua_strings.specs.declared.searching.Wanted.{Wanted}
use Rattle.lua_strings.specs.declared.searching.Wanted.TheVariants as wanted

-- ARGUMENTS that were read, or the first that is none
abbrev pub found_numbers : Bytes → List (List ℕ) → NumbersRead → Argument (List ℤ)
found_numbers function texts (numbers.All ns) = Ok ns
found_numbers function texts (numbers.Refused n given) = Err (bad_argument n function (expected (codes "number") (values_seen texts given.now)))

-- the byte whose code a value is, or 0 where it is none
abbrev pub number_code : Option ℤ → ℕ
number_code (Some z) = if is_code z then unsigned_abs z else 0
number_code None = 0

abbrev pub code_of : Value → ℕ
code_of v = number_code (number_in v)

abbrev pub codes_of : List Value → Bytes
codes_of vs = map code_of vs

-- arguments that were checked: all are codes, of these bytes; or the first that is none
abbrev pub checked_codes : Bytes → List (List ℕ) → Bytes → CodesCheck → Argument (List ℕ)
checked_codes function texts made check.All = Ok made
checked_codes function texts made (check.NotANumber n given) = Err (bad_argument n function (expected (codes "number") (values_seen texts given.now)))
checked_codes function texts made (check.OutOfRange n) = Err (out_of_range n function)

-- what a text becomes
abbrev pub change_of : Change → Bytes → Bytes
change_of change.Lower s = map to_ascii_lowercase s
change_of change.Upper s = map to_ascii_uppercase s
change_of change.Reverse s = reverse s

-- what numbers become
abbrev pub one_of : OfOne → ℤ → Result ℤ NumberFault
one_of one.Abs n = abs_of n
one_of one.Itself n = itself n

abbrev pub two_of : OfTwo → ℤ → ℤ → Result ℤ NumberFault
two_of two.Fmod a b = fmod_of a b
two_of two.Pow a b = power_of a b

abbrev pub all_of : OfAll → List ℤ → Option ℤ
all_of all.Greatest ns = max_of ns
all_of all.Least ns = min_of ns

-- what is wanted of a match: the bytes of its texts, and its values
abbrev pub bytes_of : Wanted → Match → ℕ
bytes_of wanted.Find m = find_bytes m
bytes_of wanted.Match m = match_bytes m

abbrev pub values_of : Wanted → Bytes → Match → List Value
values_of wanted.Find s m = searches.find_values s m
values_of wanted.Match s m = searches.match_values s m

-- a match is within a budget, where there is one
abbrev pub IsCovered : (Match → ℕ) → ℕ → Search → Type 0
IsCovered size budget (search.Found m tries) = tries + size m ≤ budget
IsCovered size budget found = Unit {0}
