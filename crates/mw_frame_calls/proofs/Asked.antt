-- What `expandTemplate` and `newChild` come to, for what was found of their arguments.
use Rattle.std.proofs.Common.{◌≡◌, ◌∙◌, ap, sym, ℕ, List, Ok, Err, codes}
use Rattle.mw_frame_texts.specs.LuaHeapProc.{Proc}
use Rattle.mw_frame_texts.specs.LuaHeapValue as kind
use Rattle.mw_frame_texts.specs.LuaHeapValue.{Table}
use Rattle.mw_frame_texts.specs.LuaHeapTable.{Entries}
use Rattle.mw_frame_texts.specs.LuaMeaningActs.{Frame}
use Rattle.mw_frame_texts.specs.LuaMeaningArguments.{Argument}
use Rattle.mw_frame_texts.specs.LuaMeaningMetatables.{field}
use Rattle.mw_frame_texts.specs.LuaMeaningFrameMethods.{Framed, if_argument, refuses, a_request, entries_of}
use Rattle.mw_frame_texts.specs.LuaStoreSeen.{StoreView, seen}
use Rattle.mw_frame_calls.specs.declared.requests.Request.{Request}
use Rattle.mw_frame_calls.specs.Parts.{IsRequest}

-- A REQUEST is a table, whose title is read as f says, and then its entries
module _ {Y : Type 0} (f : kind.Value → Argument Y) (s : StoreView) (frames : List Frame) (given : List kind.Value) (next : Y → Entries → Framed Proc) where
  abbrev pub requested : Framed Proc
  requested =
      if_argument s.heap frames (a_request given) (λ t.
      if_argument s.heap frames (f (field s.heap (Table t) (codes "title"))) (λ y.
      if_argument s.heap frames (entries_of s.heap (field s.heap (Table t) (codes "args"))) (λ entries.
      next y entries)))

  pub no_request : (message : List ℕ) → a_request given ≡ Err message → requested ≡ refuses s.heap frames message
  no_request message e =
      ap (λ x. if_argument s.heap frames x (λ t.
      if_argument s.heap frames (f (field s.heap (Table t) (codes "title"))) (λ y.
      if_argument s.heap frames (entries_of s.heap (field s.heap (Table t) (codes "args"))) (λ entries.
      next y entries)))) e

  titled : (r : Request) → IsRequest s given r → requested ≡ if_argument s.heap frames (f (seen s.texts r.title)) (λ y. if_argument s.heap frames (entries_of s.heap (seen s.texts r.args)) (λ entries. next y entries))
  titled r is =
      ap (λ x. if_argument s.heap frames x (λ t.
      if_argument s.heap frames (f (field s.heap (Table t) (codes "title"))) (λ y.
      if_argument s.heap frames (entries_of s.heap (field s.heap (Table t) (codes "args"))) (λ entries.
      next y entries)))) is.found
      ∙ ap (λ v. if_argument s.heap frames (f v) (λ y. if_argument s.heap frames (entries_of s.heap (field s.heap (Table is.table) (codes "args"))) (λ entries. next y entries))) (sym is.title)
      ∙ ap (λ v. if_argument s.heap frames (f (seen s.texts r.title)) (λ y. if_argument s.heap frames (entries_of s.heap v) (λ entries. next y entries))) (sym is.args)

  pub no_title : (r : Request) (message : List ℕ) → IsRequest s given r → f (seen s.texts r.title) ≡ Err message → requested ≡ refuses s.heap frames message
  no_title r message is e = titled r is ∙ ap (λ x. if_argument s.heap frames x (λ y. if_argument s.heap frames (entries_of s.heap (seen s.texts r.args)) (λ entries. next y entries))) e

  with_title : (r : Request) (y : Y) → IsRequest s given r → f (seen s.texts r.title) ≡ Ok y → requested ≡ if_argument s.heap frames (entries_of s.heap (seen s.texts r.args)) (λ entries. next y entries)
  with_title r y is e = titled r is ∙ ap (λ x. if_argument s.heap frames x (λ y. if_argument s.heap frames (entries_of s.heap (seen s.texts r.args)) (λ entries. next y entries))) e

  pub no_entries : (r : Request) (y : Y) (message : List ℕ) → IsRequest s given r → f (seen s.texts r.title) ≡ Ok y → entries_of s.heap (seen s.texts r.args) ≡ Err message → requested ≡ refuses s.heap frames message
  no_entries r y message is t e = with_title r y is t ∙ ap (λ x. if_argument s.heap frames x (λ entries. next y entries)) e

  pub all_found : (r : Request) (y : Y) (entries : Entries) → IsRequest s given r → f (seen s.texts r.title) ≡ Ok y → entries_of s.heap (seen s.texts r.args) ≡ Ok entries → requested ≡ next y entries
  all_found r y entries is t e = with_title r y is t ∙ ap (λ x. if_argument s.heap frames x (λ es. next y es)) e
