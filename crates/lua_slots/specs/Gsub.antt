-- REPLACING (manual 5.4, `string.gsub`; Scribunto, `mw.ustring.gsub`): what a search comes to is the meaning's (`search`). A table or a
-- function is asked for each match, and what waits has its name. `line` is that of its own call. No place of a text calls what it calls.
use Rattle.std.specs.Prelude.{ℕ, zero, suc, List, [], ◌∷◌, length, drop, Option, None}
use Rattle.lua_meaning.specs.PageRunOutcome.{Outcome, Goes, Jumps}
use Rattle.lua_meaning.specs.LuaHeapValue.{Value, Text, Table}
use Rattle.lua_meaning.specs.Scope.{Bytes}
use Rattle.lua_meaning.specs.Values.{first}
use Rattle.lua_meaning.specs.Acts.{Jump}
use Rattle.lua_meaning.specs.Gsub.{Replacement, ByText, ByTable, ByFunction, Job, Far, Replacing, Search, NoMatch, Matched, search, replacement_given, with_piece, made_values}
use Rattle.lua_meaning.specs.Pending.{GsubWaits}
use Rattle.lua_slots.specs.Slots.{Slots}
use Rattle.lua_slots.specs.Points.{SFrame, Waits, Move, Costs}
use Rattle.lua_slots.specs.Errors.{gives, jumps, with_argument}
use Rattle.lua_slots.specs.Calls.{call}
use Rattle.lua_slots.specs.Index.{index}

-- the rest of the subject costs its bytes
abbrev pub finish : Job → Far → List SFrame → Slots → Move
finish job far fs s = Costs (length (drop far.copied job.subject)) (gives (made_values job far) fs s)

-- a function is called with the captures; a table is asked for the first of them, by its handlers too
abbrev pub asks : Replacement → List Value → List SFrame → Slots → Move
asks (ByFunction f) captures fs s = call f captures None fs s
asks (ByTable t) captures fs s = index (Table t) (first captures) None fs s
asks (ByText text) captures fs s = gives (Text text ∷ []) fs s

-- a search costs its tries, and the bytes before a match
abbrev pub asks_on : Job → Far → Search → Option ℕ → List SFrame → Slots → Move
asks_on job far (NoMatch charge) line fs s = Costs charge (finish job far fs s)
asks_on job far (Matched charge captures w) line fs s = Costs charge (asks w.job.by captures (Waits (GsubWaits w) line ∷ fs) s)

-- from where it is on, with at most so many matches
abbrev pub replaces : Job → ℕ → Far → Option ℕ → List SFrame → Slots → Move
replaces job zero far line fs s = finish job far fs s
replaces job (suc limit) far line fs s = asks_on job far (search job limit far) line fs s

-- a replacement costs its bytes
abbrev pub puts : Replacing → Bytes → Option ℕ → List SFrame → Slots → Move
puts w piece line fs s = Costs (length piece) (replaces w.job w.limit (with_piece w.far piece) line fs s)

-- what waits for a replacement
abbrev pub gsub_answer : Replacing → Outcome (List Value) Jump → Option ℕ → List SFrame → Slots → Move
gsub_answer w (Goes vs) line fs s = with_argument (replacement_given w.matched (first vs)) line fs s (λ piece. puts w piece line fs s)
gsub_answer w (Jumps j) line fs s = jumps j fs s
