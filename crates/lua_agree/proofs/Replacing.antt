-- `gsub` with a table or a function (manual 5.4): each match is asked for alike, and what waits for it goes on alike.
use Rattle.std.proofs.Common.{◌≡◌, ℕ, zero, suc, List, [], ◌∷◌, length, Option, None, refl}
use Rattle.lua_slots.specs.PageRunOutcome.{Outcome, ◌>>◌, tick}
use Rattle.lua_heap.specs.Value.{Value}
use Rattle.lua_heap.specs.Related.{Map, Each, Same, nil, truth, number, text, table, closure, builtin, markup}
use Rattle.lua_slots.specs.LuaMeaningScope.{Bytes, Levels}
use Rattle.lua_slots.specs.LuaMeaningActs.{Jump, State}
use Rattle.lua_slots.specs.LuaMeaningWorld.{World}
use Rattle.lua_library_agree.specs.LuaMeaningGsub.{Replacement, Job, Far, Search, replacement_given, with_piece, finish, asks, asks_on, goes, gsub_answer}
use Rattle.lua_slots.specs.LuaMeaningPending.{Pending, GsubWaits, resumes}
use Rattle.lua_library_agree.specs.SameGsub.{SameReplacement, same_text, same_table, same_function, SameJob, same_job, replacing_of, SameSearch, no_match, same_match}
use Rattle.lua_library_agree.proofs.GsubAgree.{job-by, searches_agree}
use Rattle.lua_slots.specs.Code.{CWorld}
use Rattle.lua_slots.specs.Slots.{Slots, levels_at}
use Rattle.lua_slots.specs.Points.{SFrame, Waits, Costs}
use Rattle.lua_slots.specs.Gsub as machine_gsub
use Rattle.lua_agree.specs.Variables.{Var}
use Rattle.lua_agree.specs.Values.{SameOutcome, values_, jumps_, SamePending, replacings}
use Rattle.lua_agree.specs.Rests.{After, SameRest}
use Rattle.lua_agree.specs.Agree.{Base, Rel}
use Rattle.lua_agree.specs.Follows.{Follows, takes}
use Rattle.lua_agree.proofs.Parts.{first-same, one-value, two-values, no-levels, rest-jumps, values-on, passes-on}
use Rattle.lua_agree.proofs.Index.{indexes}
use Rattle.lua_agree.proofs.CallBacks.{argument-equal, waiting, calling-on}

-- what a match is replaced by names no object
given-same : {m : Map} (whole : Bytes) {v w : Value} → Same m v w → replacement_given whole v ≡ replacement_given whole w
given-same whole nil = refl
given-same whole (truth b) = refl
given-same whole (number n) = refl
given-same whole (text t) = refl
given-same whole (table a b e) = refl
given-same whole (closure a b e) = refl
given-same whole (builtin b) = refl
given-same whole (markup a b e) = refl

module _ (world : World) (code : CWorld) (B : Base) {m : Map} {vars : List Var} {h : State} {s : Slots} (r : Rel code B m vars h s) {k : After (List Value)} {fs : List SFrame} (g : SameRest code m vars s.functions k fs) (ls : Levels) (line : Option ℕ) (l : ls ≡ levels_at s.functions line) where
  finish-on : {x y : Job} → SameJob m x y → (far : Far) → Follows world code B (finish x far k) h (machine_gsub.finish y far fs s)
  finish-on (same_job a t anchored items slots x y e) far = takes _ _ _ _ (values-on world code B r g (two-values (text _) (number _)))

  asks-on : {x y : Replacement} → SameReplacement m x y → (p q : Pending) → SamePending m p q → {vs ws : List Value} → Each (Same m) vs ws
      → Follows world code B (asks x vs (resumes p ls) k) h (machine_gsub.asks y ws (Waits q line ∷ fs) s)
  asks-on (same_text t) p q w es = values-on world code B r (waiting world code B r g ls line l p q w) (one-value (text t))
  asks-on (same_table a b e) p q w es = indexes world code B r (waiting world code B r g ls line l p q w) [] None (no-levels s.functions) e (first-same es)
  asks-on (same_function f f' e) p q w es = calling-on world code B r g ls line l p q w e es

  searched-on : {x y : Job} → SameJob m x y → (limit : ℕ) (far : Far) {a b : Search} → SameSearch m x y limit a b
      → Follows world code B (asks_on ls x far (goes ls x limit) a k) h (machine_gsub.asks_on y far b line fs s)
  searched-on j limit far (no_match tries) = takes _ _ _ _ (finish-on j far)
  searched-on j limit far (same_match tries vs ws next whole es) = takes _ _ _ _ (asks-on (job-by j) (GsubWaits _) (GsubWaits _) (replacings _ _ limit next whole j) es)

  pub replaces-on : {x y : Job} → SameJob m x y → (limit : ℕ) (far : Far) → Follows world code B (goes ls x limit far k) h (machine_gsub.replaces y limit far line fs s)
  replaces-on j zero far = finish-on j far
  replaces-on j (suc limit) far = searched-on j limit far (searches_agree m _ _ j limit far)

  -- WHAT WAITS for a replacement
  pub gsub-answers : {x y : Job} → SameJob m x y → (limit : ℕ) (far : Far) (whole : Bytes) {o o' : Outcome (List Value) Jump} → SameOutcome m o o'
      → Follows world code B (gsub_answer (replacing_of x limit far whole) ls o k) h (machine_gsub.gsub_answer (replacing_of y limit far whole) o' line fs s)
  gsub-answers {x} {y} j limit far whole (values_ vs ws e) =
      argument-equal world code B r _ _ line (λ piece. tick (length piece) >> goes ls x limit (with_piece far piece)) (λ piece. Costs (length piece) (machine_gsub.replaces y limit (with_piece far piece) line fs s)) (rest-jumps code g) l (given-same whole (first-same e))
      (λ piece. takes _ _ _ _ (replaces-on j limit (with_piece far piece)))
  gsub-answers j limit far whole (jumps_ _ _ e) = passes-on world code B r g e
