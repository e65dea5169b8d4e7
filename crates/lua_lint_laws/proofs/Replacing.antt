-- `gsub`.
use Rattle.std.specs.Prelude.{zero, suc, ℕ, List, []}
use Rattle.page_run.specs.Outcome.{Outcome}
use Rattle.lua_walk.specs.LuaHeapValue.{Value, Table}
use Rattle.lua_meaning.specs.Scope.{Bytes, Function, Levels}
use Rattle.lua_meaning.specs.Values.{first}
use Rattle.lua_meaning.specs.Acts.{Act, Jump}
use Rattle.lua_meaning.specs.Waiting.{Waits}
use Rattle.lua_meaning.specs.Gsub as gsubs
use Rattle.lua_meaning.specs.Gsub.{Alphabet, Replacement, ByText, ByTable, ByFunction, Job, Far, Search, NoMatch, Matched, search, replacement_given, with_piece, nothing_yet, GsubForm, GsubAnswers, GsubAsks, gsub_form}
use Rattle.lua_lint_laws.proofs.Told.{Allowed, Quiet, ◌>>=◌, ◌>>◌, give, catch, tick, look}
use Rattle.lua_lint_laws.proofs.Calls.{index_all}
use Rattle.lua_lint_laws.proofs.Answers.{plain_act}
use Rattle.lua_lint_laws.proofs.Kept.{KeepsGsub, gsub_kept}
use Rattle.lua_lint_laws.proofs.CallBacks.{calling, for_values, argument}

finish : {P : Allowed} → (job : Job) (far : Far) → Quiet P (gsubs.finish job far)
finish job far = tick _ >> give _

asks : {P : Allowed} → {waits : Waits} → (by : Replacement) (captures : List Value) → ((o : Outcome (List Value) Jump) → Quiet P (waits o)) → Quiet P (gsubs.asks by captures waits)
asks (ByFunction f) captures waits = calling f captures waits
asks (ByTable t) captures waits = catch (index_all (Table t) (first captures) []) waits
asks (ByText text) captures waits = catch (give _) waits

with_replacement : {P : Allowed} → {go : Far → Act (List Value)} → (callers : Levels) (far : Far) (whole : Bytes) → ((f : Far) → Quiet P (go f)) → (vs : List Value) → Quiet P (gsubs.with_replacement callers far whole go vs)
with_replacement callers far whole go vs = do
  piece ← argument callers (replacement_given whole (first vs))
  tick _ >> go (with_piece far piece)

asks_on : {P : Allowed} → {go : Far → Act (List Value)} → (callers : Levels) (job : Job) (far : Far) → ((f : Far) → Quiet P (go f)) → (found : Search) → Quiet P (gsubs.asks_on callers job far go found)
asks_on callers job far go (NoMatch tries) = tick tries >> finish job far
asks_on callers job far go (Matched tries captures w) = tick tries >> asks job.by captures (for_values (with_replacement callers w.far w.matched go))

goes : {P : Allowed} → (callers : Levels) (job : Job) (limit : ℕ) (far : Far) → Quiet P (gsubs.goes callers job limit far)
goes callers job zero far = finish job far
goes callers job (suc limit) far = asks_on callers job far (goes callers job limit) (search job limit far)

does_gsub : {P : Allowed} → (f : GsubForm Function) → KeepsGsub P f → (callers : Levels) → Quiet P (gsubs.does_gsub f callers)
does_gsub (GsubAnswers plain) ok callers = plain_act plain ok callers
does_gsub (GsubAsks charge job limit) ok callers = tick charge >> goes callers job limit nothing_yet

pub gsub : {P : Allowed} → (a : Alphabet) (args : List Value) (callers : Levels) → Quiet P (gsubs.gsub a args callers)
gsub a args callers = look (λ s e. does_gsub (gsub_form a args s.heap) (gsub_kept s.heap e a args) callers)
