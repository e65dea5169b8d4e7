-- REPLACING (manual 5.4, `string.gsub`; Scribunto, `mw.ustring.gsub`). `gsub(s, pattern, r, n)` gives `s` with each match of a pattern, or
-- each of the first n, replaced, and how many they were. With a text as r it calls back nobody; with a table or a function each match is
-- asked for in turn, and what waits has a name.
use Rattle.std.specs.Prelude.{◌≡◌, ℕ, zero, suc, ◌+◌, ◌-◌, ◌==◌, ◌&&◌, ℤ, pos, Bool, true, false, if◌then◌else◌, List, [], ◌∷◌, ◌++◌, length, map, drop, slice_get, Option, Some, None, Result, Ok, Err, codes}
use Rattle.std.specs.Char.{is_ascii_digit}
use Rattle.std.specs.Fmt.{decimal, signed_decimal}
use Rattle.std.specs.Option.{option_map}
use Rattle.page_run.specs.Outcome.{Outcome, ◌>>=◌, ◌>>◌, give, catch, tick, see}
use Rattle.mw_text.specs.LuaPatternDeclaredItemItem.{Item}
use Rattle.mw_text.specs.LuaPatternDeclaredPatternCapture.{Capture}
use Rattle.mw_text.specs.LuaPatternDeclaredPatternCaptureTheVariants.{Span, Place}
use Rattle.mw_text.specs.LuaPatternDeclaredPatternMatch.{Match}
use Rattle.mw_text.specs.LuaPatternDeclaredSlotsSlot.{Slot}
use Rattle.mw_text.specs.LuaPatternLetters.{Letters}
use Rattle.mw_text.specs.LuaPatternTexts.{bytes, points}
use Rattle.mw_text.specs.LuaPatternRead.{Read, Fault, Fine, read_of, codes as symbol_codes}
use Rattle.mw_text.specs.LuaStringTexts.{how_many}
use Rattle.mw_text.specs.LuaStringFinds.{match_of}
use Rattle.mw_text.specs.LuaStringWalk.{Walk, Stops, Meets, walk, span}
use Rattle.mw_text.specs.LuaStringReplacements.{put, text_of, replaced_of}
use Rattle.mw_text.specs.LuaStringDeclaredReplacingCaptureText.{CaptureText}
use Rattle.lua_walk.specs.LuaHeapValue.{Value, Nil, Truth, Number, Text, Table, Closure, Builtin}
use Rattle.lua_walk.specs.LuaHeapHeap.{Heap}
use Rattle.lua_meaning.specs.Scope.{Bytes, Levels, Function}
use Rattle.lua_meaning.specs.Values.{kind_of, first, rest}
use Rattle.lua_meaning.specs.Acts.{Act, Jump, LuaRun}
use Rattle.lua_meaning.specs.Index.{index_all}
use Rattle.lua_meaning.specs.Arguments.{Plain, Gives, plain_act, with_charge, fails, text_charge, Argument, a_text, number_or}
use Rattle.lua_meaning.specs.Checks.{malformed}
use Rattle.lua_meaning.specs.TextArguments.{utf8_text}
use Rattle.lua_meaning.specs.Waiting.{Waits, calling, for_values, argument}
use Rattle.lua_meaning.specs.Iterators.{Stand, symbols_before, match_given}

-- OVER BYTES OR CODE POINTS, by name
pub data Alphabet : Type 0 where
  OfBytes OfPoints : Alphabet

abbrev pub letters : Alphabet → Letters
letters OfBytes = bytes
letters OfPoints = points

-- BY WHAT a match is replaced
pub data Replacement : Type 0 where
  ByText : (text : Bytes) → Replacement
  ByTable : (table : ℕ) → Replacement
  ByFunction : (function : Value) → Replacement

abbrev pub replacement_value : Replacement → Value
replacement_value (ByText text) = Text text
replacement_value (ByTable t) = Table t
replacement_value (ByFunction f) = f

-- ---- Arguments, from the first to the last. Over code points each text must be in UTF-8.
abbrev pub text_in_alphabet : Alphabet → ℕ → List Value → Argument Bytes
text_in_alphabet OfBytes n given = a_text n (codes "gsub") given
text_in_alphabet OfPoints n given = utf8_text n (codes "gsub") given

abbrev pub by_text : Argument Bytes → Argument Replacement
by_text (Ok text) = Ok (ByText text)
by_text (Err message) = Err message

abbrev pub a_replacement : Alphabet → List Value → Argument Replacement
a_replacement a (Table t ∷ vs) = Ok (ByTable t)
a_replacement a (Closure c ∷ vs) = Ok (ByFunction (Closure c))
a_replacement a (Builtin b ∷ vs) = Ok (ByFunction (Builtin b))
a_replacement a given = by_text (text_in_alphabet a 3 given)

-- as many matches as there can be, unless it is said how many; none below 1
abbrev pub all_of : Bytes → ℤ
all_of s = pos (suc (length s))

pub record Given : Type 0 where
  pub subject : Bytes
  pub pattern : Bytes
  pub by : Replacement
  pub limit : ℕ

abbrev pub then_by : {X Y : Type 0} → Argument X → (X → Argument Y) → Argument Y
then_by (Ok x) f = f x
then_by (Err message) f = Err message

abbrev pub given_in : Alphabet → List Value → Argument Given
given_in a args =
    then_by (text_in_alphabet a 1 args) (λ s.
    then_by (text_in_alphabet a 2 (rest args)) (λ pattern.
    then_by (a_replacement a (rest (rest args))) (λ by.
    then_by (number_or (all_of s) 4 (codes "gsub") (rest (rest (rest args)))) (λ n.
    Ok (record { subject = s; pattern = pattern; by = by; limit = how_many n })))))

-- ---- What a text stands for at a match: `%0` is the whole of it, and `%1` too where there are no captures; behind `%` any other byte
-- is itself, and so is a last `%`. A capture that is not there is fault 7.
abbrev pub capture_text : Letters → Bytes → Stand → Capture → Bytes
capture_text a s k (Span from to) = span s from to
capture_text a s k (Place at) = decimal (suc (symbols_before a s k at))

abbrev pub or_fault : Option Bytes → Result Bytes ℕ
or_fault (Some text) = Ok text
or_fault None = Err 7

abbrev pub are_none : List Bytes → Bool
are_none [] = true
are_none (c ∷ cs) = false

abbrev pub nth_text : Bytes → List Bytes → ℕ → Result Bytes ℕ
nth_text whole captures d =
    if d == 0 then Ok whole else (if d == 1 && are_none captures then Ok whole else or_fault (slice_get captures (d - 1)))

abbrev pub behind_percent : Bytes → List Bytes → ℕ → Result Bytes ℕ
behind_percent whole captures c = if is_ascii_digit c then nth_text whole captures (c - 48) else Ok (c ∷ [])

abbrev pub filled_in : Bytes → List Bytes → Bytes → Result Bytes ℕ
filled_in whole captures [] = Ok []
filled_in whole captures (b ∷ []) = Ok (b ∷ [])
filled_in whole captures (b ∷ (c ∷ cs)) =
    if b == 37 then put (behind_percent whole captures c) (filled_in whole captures cs)
    else put (Ok (b ∷ [])) (filled_in whole captures (c ∷ cs))

abbrev pub filled_at : Letters → Bytes → Stand → Bytes → Match → Result Bytes ℕ
filled_at a s k r m = filled_in (span s m.start m.end) (map (capture_text a s k) m.captures) r

-- ---- By a text: what it costs, and the text with the number of matches, or the fault of the replacement, which comes at the first
-- match or never. What is put into the text is paid for piece by piece.
pub data Replaced : Type 0 where
  Made : (charge : ℕ) (text : Bytes) (count : ℕ) → Replaced
  Faulty : (charge : ℕ) (fault : ℕ) → Replaced

-- the rest of the subject, as it is
abbrev pub rest_of : Bytes → ℕ → Replaced
rest_of s copied = let text = drop copied s in Made (length text) text 0

abbrev pub behind_piece : ℕ → Bytes → Replaced → Replaced
behind_piece tries piece (Made n text count) = Made (tries + length piece + n) (piece ++ text) (suc count)
behind_piece tries piece (Faulty n fault) = Faulty (tries + length piece + n) fault

abbrev pub on_filled : ℕ → Bytes → Result Bytes ℕ → Replaced → Replaced
on_filled tries between (Ok text) more = behind_piece tries (between ++ text) more
on_filled tries between (Err fault) more = Faulty tries fault

-- the place where the next search begins, with the symbols before it
abbrev pub next_stand : Letters → Bytes → Stand → Option ℕ → Option Stand
next_stand a s k next = option_map (λ at. (let t : Stand = record { at = at; before = symbols_before a s k at } in t)) next

abbrev pub on_walk : Letters → Bytes → List Slot → Bytes → Stand → ℕ → (ℕ → Option Stand → Replaced) → Walk → Replaced
on_walk a s slots r k copied more (Stops tries) = behind_tries tries (rest_of s copied) where
  behind_tries : ℕ → Replaced → Replaced
  behind_tries tries (Made n text count) = Made (tries + n) text count
  behind_tries tries (Faulty n fault) = Faulty (tries + n) fault
on_walk a s slots r k copied more (Meets tries step next) =
    let m = match_of slots step.start step.end step.marks in
    on_filled tries (span s copied m.start) (filled_at a s k r m) (more m.end (next_stand a s k next))

abbrev pub from_stand : Letters → Bool → List Item → List Slot → Bytes → Bytes → ℕ → (ℕ → Option Stand → Replaced) → Option Stand → Replaced
from_stand a anchored items slots s r copied more None = rest_of s copied
from_stand a anchored items slots s r copied more (Some k) = on_walk a s slots r k copied more (walk a anchored items s k.at)

-- at most so many matches; the text is put together up to `copied`
abbrev pub replaced_from : Letters → Bool → List Item → List Slot → Bytes → Bytes → ℕ → ℕ → Option Stand → Replaced
replaced_from a anchored items slots s r zero copied k = rest_of s copied
replaced_from a anchored items slots s r (suc limit) copied k =
    from_stand a anchored items slots s r copied (replaced_from a anchored items slots s r limit) k

abbrev pub at_head : Stand
at_head = record { at = 0; before = 0 }

abbrev pub replaced_answer : {X : Type 0} → Heap X → Replaced → Plain X
replaced_answer h (Made n text count) = record { charge = n; heap = h; end = Gives (Text text ∷ Number (pos count) ∷ []) }
replaced_answer h (Faulty n fault) = with_charge n (fails h (malformed fault))

-- ---- By a table or a function
-- what stays the same from match to match
pub record Job : Type 0 where
  pub alphabet : Alphabet
  pub subject : Bytes
  pub anchored : Bool
  pub items : List Item
  pub slots : List Slot
  pub by : Replacement

-- how far it is: the text so far, the byte up to which it holds the subject, the matches, and where the next search begins
pub record Far : Type 0 where
  pub text : Bytes
  pub copied : ℕ
  pub count : ℕ
  pub next : Option Stand

-- WHAT WAITS for the replacement of a match: the job, how many more matches there may be, how far it is up to this match, and the match
pub record Replacing : Type 0 where
  pub job : Job
  pub limit : ℕ
  pub far : Far
  pub matched : Bytes

abbrev pub nothing_yet : Far
nothing_yet = record { text = []; copied = 0; count = 0; next = Some at_head }

-- the text up to a match, and where the subject and the search go on behind it
abbrev pub up_to : Job → Far → Stand → Match → Option ℕ → Far
up_to job far k m next =
    record far { text = far.text ++ span job.subject far.copied m.start; copied = m.end; next = next_stand (letters job.alphabet) job.subject k next }

abbrev pub replacing_at : Job → ℕ → Far → Stand → Match → Option ℕ → Replacing
replacing_at job limit far k m next = record { job = job; limit = limit; far = up_to job far k m next; matched = span job.subject m.start m.end }

-- A SEARCH with its charge: there is no match, or a match with its captures (the whole of it where there are none), and what waits. Its
-- tries are paid, and the bytes before a match, which are put behind the text.
pub data Search : Type 0 where
  NoMatch : (charge : ℕ) → Search
  Matched : (charge : ℕ) (captures : List Value) (waits : Replacing) → Search

abbrev pub search_on : Job → ℕ → Far → Stand → Walk → Search
search_on job limit far k (Stops tries) = NoMatch tries
search_on job limit far k (Meets tries step next) =
    let m = match_of job.slots step.start step.end step.marks in
    Matched (tries + length (span job.subject far.copied m.start)) (match_given (letters job.alphabet) job.subject k m) (replacing_at job limit far k m next)

abbrev pub search_from : Job → ℕ → Far → Option Stand → Search
search_from job limit far None = NoMatch 0
search_from job limit far (Some k) = search_on job limit far k (walk (letters job.alphabet) job.anchored job.items job.subject k.at)

-- behind whose match there may be so many more
abbrev pub search : Job → ℕ → Far → Search
search job limit far = search_from job limit far far.next

-- what a match is replaced by: nil and false keep it
abbrev pub replacement_given : Bytes → Value → Argument Bytes
replacement_given whole Nil = Ok whole
replacement_given whole (Truth false) = Ok whole
replacement_given whole (Number n) = Ok (signed_decimal n)
replacement_given whole (Text t) = Ok t
replacement_given whole v = Err (codes "invalid replacement value (a " ++ kind_of v ++ codes ")")

-- a match that was replaced
abbrev pub with_piece : Far → Bytes → Far
with_piece far piece = record far { text = far.text ++ piece; count = suc far.count }

-- the whole text in the end
abbrev pub text_made : Job → Far → Bytes
text_made job far = far.text ++ drop far.copied job.subject

-- it is given for its bytes, with the number of matches
abbrev pub made_values : Job → Far → List Value
made_values job far = Text (text_made job far) ∷ Number (pos far.count) ∷ []

-- all but the rest of the subject is paid for before
abbrev pub finish : Job → Far → Act (List Value)
finish job far = tick (length (drop far.copied job.subject)) >> give (made_values job far)

-- a function is called with the captures; a table is asked for the first of them, by its handlers too
abbrev pub asks : Replacement → List Value → Waits → Act (List Value)
asks (ByFunction f) captures waits = calling f captures waits
asks (ByTable t) captures waits = catch (index_all (Table t) (first captures) []) waits
asks (ByText text) captures waits = catch (give (Text text ∷ [])) waits

-- it is paid for before it is put behind the text
abbrev pub with_replacement : Levels → Far → Bytes → (Far → Act (List Value)) → List Value → Act (List Value)
with_replacement callers far whole more vs = do
  piece ← argument callers (replacement_given whole (first vs))
  tick (length piece) >> more (with_piece far piece)

abbrev pub asks_on : Levels → Job → Far → (Far → Act (List Value)) → Search → Act (List Value)
asks_on callers job far more (NoMatch charge) = tick charge >> finish job far
asks_on callers job far more (Matched charge captures w) = tick charge >> asks job.by captures (for_values (with_replacement callers w.far w.matched more))

-- from where it is on, with at most so many matches
abbrev pub goes : Levels → Job → ℕ → Far → Act (List Value)
goes callers job zero far = finish job far
goes callers job (suc limit) far = asks_on callers job far (goes callers job limit) (search job limit far)

-- what waits does with an outcome
abbrev pub gsub_answer : Replacing → Levels → Waits
gsub_answer w callers = for_values (with_replacement callers w.far w.matched (goes callers w.job w.limit))

-- ---- THE FUNCTION: it answers at once, or asks behind its charge
pub data GsubForm (X : Type 0) : Type 0 where
  GsubAnswers : (plain : Plain X) → GsubForm X
  GsubAsks : (charge : ℕ) (job : Job) (limit : ℕ) → GsubForm X

-- the bytes of the arguments that are strings, over code points
abbrev pub args_charge : Alphabet → List Value → ℕ
args_charge OfBytes args = 0
args_charge OfPoints args = text_charge args

abbrev pub by_replacement : {X : Type 0} → Alphabet → Heap X → ℕ → Given → Bool → List Item → List Slot → Replacement → GsubForm X
by_replacement a h n g anchored items slots (ByText r) =
    GsubAnswers (with_charge n (replaced_answer h (replaced_from (letters a) anchored items slots g.subject r g.limit 0 (Some at_head))))
by_replacement a h n g anchored items slots by =
    GsubAsks n (record { alphabet = a; subject = g.subject; anchored = anchored; items = items; slots = slots; by = by }) g.limit

abbrev pub by_pattern : {X : Type 0} → Alphabet → Heap X → ℕ → Given → Read → GsubForm X
by_pattern a h n g (Fault fault) = GsubAnswers (with_charge n (fails h (malformed fault)))
by_pattern a h n g (Fine anchored items slots) = by_replacement a h n g anchored items slots g.by

abbrev pub by_given : {X : Type 0} → Alphabet → Heap X → ℕ → Argument Given → GsubForm X
by_given a h n (Err message) = GsubAnswers (with_charge n (fails h message))
by_given a h n (Ok g) = by_pattern a h (n + length g.pattern) g (read_of (symbol_codes (letters a) g.pattern))

abbrev pub gsub_form : {X : Type 0} → Alphabet → List Value → Heap X → GsubForm X
gsub_form a args h = by_given a h (args_charge a args) (given_in a args)

abbrev pub does_gsub : GsubForm Function → Levels → Act (List Value)
does_gsub (GsubAnswers plain) callers = plain_act plain callers
does_gsub (GsubAsks charge job limit) callers = tick charge >> goes callers job limit nothing_yet

abbrev pub gsub : Alphabet → List Value → Levels → Act (List Value)
gsub a args callers = do
  s ← see
  does_gsub (gsub_form a args s.heap) callers

-- ---- LAWS
-- What waits for a match is what its name says, whatever match it is.
abbrev pub asks_by_name : Levels → Job → Far → Search → Act (List Value)
asks_by_name callers job far (NoMatch charge) = tick charge >> finish job far
asks_by_name callers job far (Matched charge captures w) = tick charge >> asks w.job.by captures (gsub_answer w callers)

abbrev pub GsubIsNamed : Type 0
GsubIsNamed = (callers : Levels) (job : Job) (limit : ℕ) (far : Far) (k : Outcome (List Value) Jump → LuaRun) →
    goes callers job (suc limit) far k ≡ asks_by_name callers job far (search job limit far) k

-- It goes on with the job, and with one match fewer.
abbrev pub GoesOnWith : Job → ℕ → Search → Type 0
GoesOnWith job limit (NoMatch charge) = Unit {0}
GoesOnWith job limit (Matched charge captures w) = (w.job ≡ job) × (w.limit ≡ limit)

abbrev pub MatchesGoOn : Type 0
MatchesGoOn = (job : Job) (limit : ℕ) (far : Far) → GoesOnWith job limit (search job limit far)

-- What a text stands for at a match is what it stands for in `lua_string`, where captures are texts and numbers.
abbrev pub FilledIsReplaced : Type 0
FilledIsReplaced = (whole : Bytes) (captures : List CaptureText) (text : Bytes) → filled_in whole (map text_of captures) text ≡ replaced_of whole captures text
