-- WHAT IS FOUND of arguments.
use Rattle.std.specs.Prelude.{ℕ, List, [], ◌∷◌, map, Option, Some, None, Ok, Err, codes}
use Rattle.mw_html.specs.LuaHeapHeap.{MarkupChild, ChildText, ChildNode}
use Rattle.lua_strings.specs.LuaHeapValue.{Value}
use Rattle.lua_strings.specs.LuaMeaningScope.{Bytes}
use Rattle.lua_strings.specs.LuaMeaningMessages.{bad_argument, expected}
use Rattle.lua_strings.specs.LuaMeaningArguments.{Argument}
use Rattle.lua_strings.specs.LuaStoreDeclaredIdsMarkupId.{MarkupId}
use Rattle.lua_strings.specs.LuaStoreSeen.{StoreView}
use Rattle.lua_strings.specs.LuaStoreParts.{IsMarkupOf}
use Rattle.lua_strings.specs.LuaBasicArguments.{text_bytes}
use Rattle.lua_strings.specs.LuaBasicSeen.{values_seen}
use Rattle.mw_htmls.specs.declared.children.ChildGiven.{ChildGiven}
use Rattle.mw_htmls.specs.declared.children.ChildGiven.TheVariants as given
use Rattle.mw_htmls.specs.declared.children.TextsRead.{TextsRead}
use Rattle.mw_htmls.specs.declared.children.TextsRead.TheVariants as read

-- an object that was found as argument n, or the message that there is none
abbrev pub found_object : ℕ → Bytes → List Value → Option MarkupId → Argument ℕ
found_object n function given (Some id) = Ok id.at
found_object n function given None = Err (bad_argument n function (expected (codes "table") given))

-- what `node` was given, as children
abbrev pub child_found : ChildGiven → List MarkupChild
child_found given.Nothing = []
child_found (given.Object id) = ChildNode id.at ∷ []
child_found (given.Text text) = ChildText (text_bytes text) ∷ []

abbrev pub IsGivenOf : StoreView → ChildGiven → Type 0
IsGivenOf s (given.Object id) = IsMarkupOf s id
IsGivenOf s child = Unit {0}

-- the texts that `wikitext` was given, or the first argument that is none
abbrev pub texts_found : List (List ℕ) → TextsRead → Argument (List Bytes)
texts_found texts (read.All found) = Ok (map text_bytes found)
texts_found texts (read.Refused n given) = Err (bad_argument n (codes "wikitext") (expected (codes "string") (values_seen texts given.now)))
