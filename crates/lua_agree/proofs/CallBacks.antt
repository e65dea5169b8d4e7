-- The basic functions that call back (manual 5.1), and what they do with an outcome.
use Rattle.std.proofs.Common.{◌≡◌, ℕ, ℤ, pos, ◌+ℤ◌, true, false, List, [], ◌∷◌, Option, Some, None, refl, subst}
use Rattle.std.specs.Prelude.{Ok, Err, codes}
use Rattle.lua_slots.specs.PageRunOutcome.{Outcome, on_value, give, ◌>>=◌}
use Rattle.lua_slots.specs.LuaNumberWhole.{fits}
use Rattle.lua_heap.specs.Value.{Value, Nil, Number, Table, Builtin}
use Rattle.lua_heap.specs.Table.{get}
use Rattle.lua_heap.specs.Heap.{tab, table_at}
use Rattle.lua_heap.specs.declared.library.Library.TheVariants.{BasicNext, IpairsStep}
use Rattle.lua_heap.specs.Related.{Map, Each, none, more, Same, nil, truth, number, text, table, closure, builtin, markup}
use Rattle.lua_heap.proofs.Entries.{nil-related}
use Rattle.lua_slots.specs.LuaMeaningScope.{Bytes, Levels}
use Rattle.lua_slots.specs.LuaMeaningValues.{first, rest, text_in}
use Rattle.lua_slots.specs.LuaMeaningActs.{Act, Jump, State, choose, see_heap}
use Rattle.lua_slots.specs.LuaMeaningMetatables.{handler}
use Rattle.lua_slots.specs.LuaMeaningWorld.{World}
use Rattle.lua_slots.specs.LuaMeaningArguments.{Argument, a_table, a_number}
use Rattle.lua_library_agree.specs.LuaMeaningWaiting.{argument, calling, for_values, text_value}
use Rattle.lua_slots.specs.LuaMeaningPending.{Pending, resumes, PcallWaits, XpcallWaits, HandlerWaits, ToStringWaits, PairsWaits}
use Rattle.lua_slots.specs.LuaMeaningCallBacks.{pcall_answer, pcall, handler_answer, xpcall_answer, xpcall, text_of, string_or_fail, string_given, to_string_by, to_string_of, to_string, three_of, pairs_by, pairs, ipairs_by, ipairs, place_and_value, ipairs_step}
use Rattle.lua_library_agree.specs.Same.{SameArgument, both_ok, both_err}
use Rattle.lua_library_agree.proofs.Values.{a_table-same, a_number-same}
use Rattle.lua_library_agree.proofs.HtmlAgree.{text_of_object-same}
use Rattle.lua_slots.specs.Code.{CWorld}
use Rattle.lua_slots.specs.Slots.{Activation, Slots, levels_at}
use Rattle.lua_slots.specs.Points.{SFrame, Waits, Move}
use Rattle.lua_slots.specs.Errors as machine
use Rattle.lua_slots.specs.Calls as machine_calls
use Rattle.lua_slots.specs.CallBacks as machine_library
use Rattle.lua_agree.specs.Variables.{Var}
use Rattle.lua_agree.specs.Values.{returned, broke, raised, SameOutcome, values_, jumps_, SamePending, pcalls, xpcalls, handlers, to_strings, walks}
use Rattle.lua_agree.specs.Functions.{SameFunction}
use Rattle.lua_agree.specs.Rests.{After, SameRest, at_wait}
use Rattle.lua_agree.specs.Agree.{Base, Rel}
use Rattle.lua_agree.specs.Follows.{Follows, takes, sees}
use Rattle.lua_agree.proofs.Parts.{first-same, rest-same, second-same, third-same, one-value, two-values, text-same, text-of-same, no-levels, handler-same, entry-same, OnJump, rest-jumps, branches, values-on, passes-on, fails, calls}
use Rattle.lua_agree.proofs.Plain.{plain-on}

-- a jump goes past what waits for a value
pub value-jumps : (code : CWorld) {m : Map} {vars : List Var} {fns : List Activation} {A Y : Type 0} (f : A → Act Y) {k : After Y} {fs : List SFrame} → OnJump code m vars fns Y k fs → OnJump code m vars fns A (on_value f k) fs
value-jumps code f o = record { jump = o.jump }

-- a step of `ipairs`, where its table is known, and then its place
abbrev next_place : ℕ → ℤ → Act (List Value)
next_place t n = do
  h ← see_heap
  choose (fits (n +ℤ pos 1))
      (place_and_value (n +ℤ pos 1) (get (table_at h t).entries (Number (n +ℤ pos 1))))
      (give (Nil ∷ []))

abbrev place_behind : List Value → Levels → ℕ → Act (List Value)
place_behind args ls t = do
  n ← argument ls (a_number 2 (codes "ipairs") (rest args))
  next_place t n

module _ (world : World) (code : CWorld) (B : Base) {m : Map} {vars : List Var} {h : State} {s : Slots} (r : Rel code B m vars h s) where
  -- AN ARGUMENT, or its message
  pub argument-on : {A C Y : Type 0} {Q : A → C → Type 0} {c : Argument A} {d : Argument C} {ls : Levels} (line : Option ℕ) (f : A → Act Y) (go : C → Move) {k : After Y} {fs : List SFrame}
      → OnJump code m vars s.functions Y k fs → ls ≡ levels_at s.functions line → SameArgument Q c d → ((a : A) (b : C) → Q a b → Follows world code B (f a k) h (go b))
      → Follows world code B (argument ls c (on_value f k)) h (machine.with_argument d line fs s go)
  argument-on line f go o l (both_ok a b q) next = next a b q
  argument-on line f go o l (both_err message) next = fails world code B r line (value-jumps code f o) l message

  argument-given : {A Y : Type 0} (c : Argument A) {ls : Levels} (line : Option ℕ) (f : A → Act Y) (go : A → Move) {k : After Y} {fs : List SFrame}
      → OnJump code m vars s.functions Y k fs → ls ≡ levels_at s.functions line → ((a : A) → Follows world code B (f a k) h (go a))
      → Follows world code B (argument ls c (on_value f k)) h (machine.with_argument c line fs s go)
  argument-given (Ok a) line f go o l next = next a
  argument-given (Err message) line f go o l next = fails world code B r line (value-jumps code f o) l message

  pub argument-equal : {A Y : Type 0} (c d : Argument A) {ls : Levels} (line : Option ℕ) (f : A → Act Y) (go : A → Move) {k : After Y} {fs : List SFrame}
      → OnJump code m vars s.functions Y k fs → ls ≡ levels_at s.functions line → c ≡ d → ((a : A) → Follows world code B (f a k) h (go a))
      → Follows world code B (argument ls c (on_value f k)) h (machine.with_argument d line fs s go)
  argument-equal c d {ls} line f go {k} {fs} o l e next = subst (λ d. Follows world code B (argument ls c (on_value f k)) h (machine.with_argument d line fs s go)) e (argument-given c line f go o l next)

  -- A TEXT that is made
  pub text-on : {k : After (List Value)} {fs : List SFrame} → SameRest code m vars s.functions k fs → (t u : Bytes) → t ≡ u → Follows world code B (text_value t k) h (machine_library.gives_text u fs s)
  text-on {k} {fs} g t u e = subst (λ u. Follows world code B (text_value t k) h (machine_library.gives_text u fs s)) e (takes _ _ _ _ (values-on world code B r g (one-value (text t))))

  module _ {k : After (List Value)} {fs : List SFrame} (g : SameRest code m vars s.functions k fs) (ls : Levels) (line : Option ℕ) (l : ls ≡ levels_at s.functions line) where
    -- WHAT WAITS for a call
    pub waiting : (p q : Pending) → SamePending m p q → SameRest code m vars s.functions (λ o. resumes p ls o k) (Waits q line ∷ fs)
    waiting p q e = at_wait vars s.functions p q ls line k fs e l g

    -- a value is called from no place of the text
    pub calling-on : (p q : Pending) {f f' : Value} {vs ws : List Value} → SamePending m p q → Same m f f' → Each (Same m) vs ws → Follows world code B (calling f vs (resumes p ls) k) h (machine_calls.call f' ws None (Waits q line ∷ fs) s)
    calling-on p q x e es = calls world code B r (waiting p q x) [] None (no-levels s.functions) e es

    -- PROTECTED CALLS
    pub pcall-on : {vs ws : List Value} → Each (Same m) vs ws → Follows world code B (pcall vs k) h (machine_library.pcall ws line fs s)
    pcall-on es = calling-on PcallWaits PcallWaits pcalls (first-same es) (rest-same es)

    pub xpcall-on : {vs ws : List Value} → Each (Same m) vs ws → Follows world code B (xpcall vs k) h (machine_library.xpcall ws line fs s)
    xpcall-on es = calling-on (XpcallWaits _) (XpcallWaits _) (xpcalls _ _ (second-same es)) (first-same es) none

    pub pcall-answers : {o o' : Outcome (List Value) Jump} → SameOutcome m o o' → Follows world code B (pcall_answer o k) h (machine_library.pcall_answer o' fs s)
    pcall-answers (values_ vs ws e) = values-on world code B r g (more _ _ _ _ (truth true) e)
    pcall-answers (jumps_ _ _ (raised v w e)) = values-on world code B r g (two-values (truth false) e)
    pcall-answers (jumps_ _ _ (returned vs ws e)) = passes-on world code B r g (returned vs ws e)
    pcall-answers (jumps_ _ _ broke) = passes-on world code B r g broke

    pub handler-answers : {o o' : Outcome (List Value) Jump} → SameOutcome m o o' → Follows world code B (handler_answer o k) h (machine_library.handler_answer o' fs s)
    handler-answers (values_ vs ws e) = values-on world code B r g (two-values (truth false) (first-same e))
    handler-answers (jumps_ _ _ (raised v w e)) = values-on world code B r g (two-values (truth false) (text _))
    handler-answers (jumps_ _ _ (returned vs ws e)) = passes-on world code B r g (returned vs ws e)
    handler-answers (jumps_ _ _ broke) = passes-on world code B r g broke

    pub xpcall-answers : {i i' : Value} {o o' : Outcome (List Value) Jump} → Same m i i' → SameOutcome m o o' → Follows world code B (xpcall_answer i o k) h (machine_library.xpcall_answer i' o' line fs s)
    xpcall-answers x (values_ vs ws e) = values-on world code B r g (more _ _ _ _ (truth true) e)
    xpcall-answers x (jumps_ _ _ (raised v w e)) = calling-on HandlerWaits HandlerWaits handlers x (one-value e)
    xpcall-answers x (jumps_ _ _ (returned vs ws e)) = passes-on world code B r g (returned vs ws e)
    xpcall-answers x (jumps_ _ _ broke) = passes-on world code B r g broke

    -- TEXTS OF VALUES
    string-given : (o : Option Bytes) → Follows world code B (string_or_fail ls o (on_value (λ t. text_value t) k)) h (machine_library.string_given o line fs s)
    string-given (Some t) = text-on g t t refl
    string-given None = fails world code B r line (value-jumps code (λ t. text_value t) (rest-jumps code g)) l (codes "'tostring' must return a string")

    pub string-answers : {o o' : Outcome (List Value) Jump} → SameOutcome m o o' → Follows world code B (for_values (string_given ls) o k) h (machine_library.string_answer o' line fs s)
    string-answers (values_ vs ws e) =
        subst (λ o. Follows world code B (string_or_fail ls (text_in (first vs)) (on_value (λ t. text_value t) k)) h (machine_library.string_given o line fs s)) (text-same (first-same e)) (string-given (text_in (first vs)))
    string-answers (jumps_ _ _ e) = passes-on world code B r g e

    to_string-by : {i i' v w : Value} → Same m i i' → Same m v w → Follows world code B (to_string_by i v ls k) h (machine_library.to_string_by i' w line fs s)
    to_string-by {i} {i'} {v} {w} x e =
        branches world code B (text_value (text_of v)) (calling i (v ∷ []) (for_values (string_given ls))) _ _ (nil-related m _ _ x)
        (λ _. text-on g _ _ (text-of-same e)) (λ _. calling-on ToStringWaits ToStringWaits to_strings x (one-value e))

    asks-handler : {v w : Value} → Same m v w → Follows world code B (to_string_by (handler h.heap v (codes "__tostring")) v ls k) h (machine_library.to_string_by (handler s.heap w (codes "__tostring")) w line fs s)
    asks-handler e = to_string-by (handler-same code m h.heap s.heap r.stands (codes "__tostring") e) e

    to_string-of : {v w : Value} → Same m v w → Follows world code B (to_string_of v ls k) h (machine_library.to_string_of w line fs s)
    to_string-of (markup a b e) = sees _ _ _ (plain-on world code B r g ls line l _ _ (text_of_object-same (SameFunction code) m h.heap s.heap r.stands a b e))
    to_string-of nil = sees _ _ _ (asks-handler nil)
    to_string-of (truth b) = sees _ _ _ (asks-handler (truth b))
    to_string-of (number n) = sees _ _ _ (asks-handler (number n))
    to_string-of (text t) = sees _ _ _ (asks-handler (text t))
    to_string-of (table a b e) = sees _ _ _ (asks-handler (table a b e))
    to_string-of (closure a b e) = sees _ _ _ (asks-handler (closure a b e))
    to_string-of (builtin b) = sees _ _ _ (asks-handler (builtin b))

    pub to_string-on : {vs ws : List Value} → Each (Same m) vs ws → Follows world code B (to_string vs ls k) h (machine_library.to_string ws line fs s)
    to_string-on es = to_string-of (first-same es)

    -- WALKS
    pub three-answers : {o o' : Outcome (List Value) Jump} → SameOutcome m o o' → Follows world code B (for_values three_of o k) h (machine_library.three_answer o' fs s)
    three-answers (values_ vs ws e) = values-on world code B r g (more _ _ _ _ (first-same e) (two-values (second-same e) (third-same e)))
    three-answers (jumps_ _ _ e) = passes-on world code B r g e

    pairs-by : {i i' : Value} {vs ws : List Value} → Same m i i' → Each (Same m) vs ws → Follows world code B (pairs_by i vs ls k) h (machine_library.pairs_by i' ws line fs s)
    pairs-by {i} {i'} {vs} {ws} x es =
        branches world code B (argument ls (a_table 1 (codes "pairs") vs) >>= (λ t. give (Builtin BasicNext ∷ Table t ∷ Nil ∷ []))) (calling i (first vs ∷ []) (for_values three_of)) _ _ (nil-related m _ _ x)
        (λ _. argument-on line (λ t. give (Builtin BasicNext ∷ Table t ∷ Nil ∷ [])) _ (rest-jumps code g) l (a_table-same 1 (codes "pairs") es) (λ a b e. values-on world code B r g (more _ _ _ _ (builtin _) (two-values (table a b e) nil))))
        (λ _. calling-on PairsWaits PairsWaits walks x (one-value (first-same es)))

    pub pairs-on : {vs ws : List Value} → Each (Same m) vs ws → Follows world code B (pairs vs ls k) h (machine_library.pairs ws line fs s)
    pairs-on es = sees _ _ _ (pairs-by (handler-same code m h.heap s.heap r.stands (codes "__pairs") (first-same es)) es)

    ipairs-by : {i i' : Value} {vs ws : List Value} → Same m i i' → Each (Same m) vs ws → Follows world code B (ipairs_by i vs ls k) h (machine_library.ipairs_by i' ws line fs s)
    ipairs-by {i} {i'} {vs} {ws} x es =
        branches world code B (argument ls (a_table 1 (codes "ipairs") vs) >>= (λ t. give (Builtin IpairsStep ∷ Table t ∷ Number (pos 0) ∷ []))) (calling i (first vs ∷ []) (for_values three_of)) _ _ (nil-related m _ _ x)
        (λ _. argument-on line (λ t. give (Builtin IpairsStep ∷ Table t ∷ Number (pos 0) ∷ [])) _ (rest-jumps code g) l (a_table-same 1 (codes "ipairs") es) (λ a b e. values-on world code B r g (more _ _ _ _ (builtin _) (two-values (table a b e) (number _)))))
        (λ _. calling-on PairsWaits PairsWaits walks x (one-value (first-same es)))

    pub ipairs-on : {vs ws : List Value} → Each (Same m) vs ws → Follows world code B (ipairs vs ls k) h (machine_library.ipairs ws line fs s)
    ipairs-on es = sees _ _ _ (ipairs-by (handler-same code m h.heap s.heap r.stands (codes "__ipairs") (first-same es)) es)

    -- a step of `ipairs`
    place-on : (n : ℤ) {v w : Value} → Same m v w → Follows world code B (place_and_value n v k) h (machine.gives (machine_library.place_and_value n w) fs s)
    place-on n nil = values-on world code B r g (one-value nil)
    place-on n (truth b) = values-on world code B r g (two-values (number n) (truth b))
    place-on n (number b) = values-on world code B r g (two-values (number n) (number b))
    place-on n (text b) = values-on world code B r g (two-values (number n) (text b))
    place-on n (table a b e) = values-on world code B r g (two-values (number n) (table a b e))
    place-on n (closure a b e) = values-on world code B r g (two-values (number n) (closure a b e))
    place-on n (builtin b) = values-on world code B r g (two-values (number n) (builtin b))
    place-on n (markup a b e) = values-on world code B r g (two-values (number n) (markup a b e))

    next-place-on : (a b : ℕ) (n : ℤ) → m.to (tab a) ≡ Some (tab b) → Follows world code B (next_place a n k) h (machine_library.next_place b n fs s)
    next-place-on a b n e =
        sees _ _ _
        (branches world code B (place_and_value (n +ℤ pos 1) (get (table_at h.heap a).entries (Number (n +ℤ pos 1)))) (give (Nil ∷ [])) (fits (n +ℤ pos 1)) (fits (n +ℤ pos 1)) refl
        (λ _. place-on (n +ℤ pos 1) (entry-same code m h.heap s.heap r.stands e (number (n +ℤ pos 1))))
        (λ _. values-on world code B r g (one-value nil)))

    pub ipairs_step-on : {vs ws : List Value} → Each (Same m) vs ws → Follows world code B (ipairs_step vs ls k) h (machine_library.ipairs_step ws line fs s)
    ipairs_step-on {vs} {ws} es =
        argument-on line (place_behind vs ls) _ (rest-jumps code g) l (a_table-same 1 (codes "ipairs") es) (λ a b e.
        argument-equal _ _ line (next_place a) (λ n. machine_library.next_place b n fs s) (rest-jumps code g) l (a_number-same 2 (codes "ipairs") (rest-same es)) (λ n. next-place-on a b n e))
