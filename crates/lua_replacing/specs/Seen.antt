-- WHAT A WAITING `gsub` IS SEEN AS, where texts are names of a store: the meaning's own records. And what it holds is of a store.
use Rattle.std.specs.Prelude.{ℕ, ◌≤◌, Bool, List, length, Option, Some, None, IfSome}
use Rattle.std.specs.Option.{option_map}
use Rattle.lua_pattern.specs.declared.item.Item.{Item}
use Rattle.lua_pattern.specs.declared.slots.Slot.{Slot}
use Rattle.lua_meaning.specs.LuaStringWalk.{span}
use Rattle.lua_meaning.specs.Iterators.{Stand}
use Rattle.lua_meaning.specs.Gsub.{Alphabet, OfBytes, OfPoints, Replacement, ByTable, ByFunction, Far, Job, Replacing}
use Rattle.lua_store.specs.Seen.{StoreView, text_at, seen}
use Rattle.lua_store.specs.Parts.{IsOf, IsTextOf, IsTableOf}
use Rattle.lua_replacing.specs.declared.far.Stand.{Stand as OwnStand}
use Rattle.lua_replacing.specs.declared.far.Far.{Far as OwnFar}
use Rattle.lua_replacing.specs.declared.job.AnyPattern.{AnyPattern}
use Rattle.lua_replacing.specs.declared.job.AnyPattern.TheVariants as any
use Rattle.lua_replacing.specs.declared.job.Replacer.{Replacer}
use Rattle.lua_replacing.specs.declared.job.Replacer.TheVariants as replacer
use Rattle.lua_replacing.specs.declared.job.Job.{Job as OwnJob}
use Rattle.lua_replacing.specs.declared.job.Replacing.{Replacing as OwnReplacing}

abbrev pub stand_seen : OwnStand → Stand
stand_seen k = record { at = k.at; before = k.before }

abbrev pub far_seen : OwnFar → Far
far_seen f = record { text = f.text.items; copied = f.copied; count = f.count; next = option_map stand_seen f.next }

abbrev pub alphabet_in : AnyPattern → Alphabet
alphabet_in (any.Bytes p) = OfBytes
alphabet_in (any.Points p) = OfPoints

abbrev pub anchored_in : AnyPattern → Bool
anchored_in (any.Bytes p) = p.anchored
anchored_in (any.Points p) = p.anchored

abbrev pub items_in : AnyPattern → List Item
items_in (any.Bytes p) = p.items
items_in (any.Points p) = p.items

abbrev pub slots_in : AnyPattern → List Slot
slots_in (any.Bytes p) = p.slots
slots_in (any.Points p) = p.slots

abbrev pub replacer_seen : List (List ℕ) → Replacer → Replacement
replacer_seen texts (replacer.Table id) = ByTable id.at
replacer_seen texts (replacer.Function f) = ByFunction (seen texts f)

abbrev pub job_seen : List (List ℕ) → OwnJob → Job
job_seen texts j = record {
  alphabet = alphabet_in j.pattern;
  subject = text_at texts j.subject.at;
  anchored = anchored_in j.pattern;
  items = items_in j.pattern;
  slots = slots_in j.pattern;
  by = replacer_seen texts j.by;
}

abbrev pub replacing_seen : List (List ℕ) → OwnReplacing → Replacing
replacing_seen texts w = record {
  job = job_seen texts w.job;
  limit = w.limit;
  far = far_seen w.far;
  matched = span (text_at texts w.job.subject.at) w.start w.end;
}

-- WHAT IT HOLDS IS OF A STORE, and the next search begins within a text of so many bytes
abbrev pub ReplacerOf : StoreView → Replacer → Type 0
ReplacerOf s (replacer.Table id) = IsTableOf s id
ReplacerOf s (replacer.Function f) = IsOf s f

abbrev pub JobOf : StoreView → OwnJob → Type 0
JobOf s j = IsTextOf s j.subject × ReplacerOf s j.by

abbrev pub StandWithin : ℕ → Option OwnStand → Type 0
StandWithin size next = IfSome next (λ k. k.at ≤ size)

abbrev pub ReplacingOf : StoreView → OwnReplacing → Type 0
ReplacingOf s w = JobOf s w.job × StandWithin (length (text_at s.texts w.job.subject.at)) w.far.next
