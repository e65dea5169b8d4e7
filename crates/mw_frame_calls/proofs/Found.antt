-- Arguments that are found, and those that are refused; what costs nothing, and what is paid for.
use Rattle.std.proofs.Common.{◌≡◌, ℕ, ◌-◌, ◌≤◌, ℤ, List, [], Ok, Err, refl, arith, sym, ap, subst, ◌∙◌}
use Rattle.std.specs.Prelude.{Result}
use Rattle.mw_frame.specs.WkBaseDeclaredLeftLeft.{Left}
use Rattle.mw_frame.specs.WkBaseDeclaredTitleTitle.{Title}
use Rattle.mw_frame_texts.specs.LuaHeapProc.{Proc}
use Rattle.mw_frame_texts.specs.LuaHeapHeap.{Heap}
use Rattle.mw_frame_texts.specs.LuaHeapValue as kind
use Rattle.mw_frame_texts.specs.LuaMeaningActs.{Frame}
use Rattle.mw_frame_texts.specs.LuaMeaningScope.{Bytes}
use Rattle.mw_frame_texts.specs.LuaMeaningArguments.{Plain, Gives, Fails, Argument, gives, fails}
use Rattle.mw_frame_texts.specs.LuaMeaningFrameMethods.{Framed, FramedEnd, FrameEnds, FrameQuotes, behind_charge, refuses, as_framed, if_argument, if_title}
use Rattle.mw_frame_texts.specs.LuaStoreDeclaredValueValue.{Value}
use Rattle.mw_frame_texts.specs.LuaStoreSeen.{StoreView, seen, text_at}
use Rattle.mw_frame_texts.specs.LuaStoreDeclaredIdsTextId.{TextId}
use Rattle.mw_frame_texts.specs.LuaBasicDeclaredStopStop.{Stop}
use Rattle.mw_frame_texts.specs.LuaBasicDeclaredStopStopTheVariants as stop
use Rattle.mw_frame_texts.specs.LuaBasicSeen as plain
use Rattle.mw_frame_texts.specs.LuaBasicSeen.{less_steps, Refuses}
use Rattle.mw_frame_texts.specs.MwFramesCosts.{Took, Unpaid, MayPay}
use Rattle.mw_frame_texts.proofs.MwFramesSums.{took_then, lacked_then}
use Rattle.mw_frame_calls.specs.declared.answer.FrameAnswer.{FrameAnswer}
use Rattle.mw_frame_calls.specs.declared.answer.FrameAnswer.TheVariants as answer
use Rattle.mw_frame_calls.specs.Seen.{ends, Stops, Free, Covers, Paid}

-- A MESSAGE is raised
pub stops_with : (message : Bytes) (s t : StoreView) (frames : List Frame) (e : Stop) → plain.Stops (fails s.heap message) t e → Stops (refuses s.heap frames message) t frames e
stops_with message s t frames (stop.Raised v level) is =
    ap (λ (p : Plain Proc). let f : Framed Proc = record { charge = p.charge; heap = p.heap; frames = frames; end = FrameEnds p.end } in f) is
stops_with message s t frames stop.Spent is = is
stops_with message s t frames stop.NoMemory is = tt

no_values : (h : Heap Proc) (t : StoreView) (v : kind.Value) (level : ℤ) → gives h [] ≡ plain.ends 0 t (Fails v level) → ⊥
no_values h t v level is = let e : Gives [] ≡ Fails v level = ap (λ (p : Plain Proc). p.end) is in cc

-- AN ARGUMENT THAT IS NONE ends its method
refused : {Y : Type 0} (a : Argument Y) (next : Y → Framed Proc) (s t : StoreView) (frames : List Frame) (e : Stop) → Refuses a s t e → Stops (if_argument s.heap frames a next) t frames e
refused (Ok y) next s t frames (stop.Raised v level) none = absurd (no_values s.heap t (seen t.texts v) level (none (λ y. gives s.heap [])))
refused (Ok y) next s t frames stop.Spent none = none (λ y. gives s.heap [])
refused (Ok y) next s t frames stop.NoMemory none = tt
refused (Err message) next s t frames e none = stops_with message s t frames e (none (λ y. gives s.heap []))

pub stopped : {Y : Type 0} (a b : Argument Y) (next : Y → Framed Proc) (s t : StoreView) (frames : List Frame) (e : Stop) (r : Result FrameAnswer Stop) → Refuses a s t e → a ≡ b → r ≡ Err e
    → Free (if_argument s.heap frames b next) t frames r
stopped a b next s t frames e r none same is =
    subst (Free (if_argument s.heap frames b next) t frames) (sym is) (subst (λ x. Stops (if_argument s.heap frames x next) t frames e) same (refused a next s t frames e none))

pub found : {Y : Type 0} (a b : Argument Y) (y : Y) (h : Heap Proc) (frames : List Frame) (next : Y → Framed Proc) → a ≡ Ok y → a ≡ b → if_argument h frames b next ≡ next y
found a b y h frames next is same = ap (λ x. if_argument h frames x next) (sym same ∙ is)

pub not_found : {Y : Type 0} (a b : Argument Y) (message : Bytes) (h : Heap Proc) (frames : List Frame) (next : Y → Framed Proc) → a ≡ Err message → a ≡ b → if_argument h frames b next ≡ refuses h frames message
not_found a b message h frames next is same = ap (λ x. if_argument h frames x next) (sym same ∙ is)

-- WHAT COSTS NOTHING is paid for
pub took_covers : (n : ℕ) (f : Framed Proc) (l m : Left) (t : StoreView) (frames : List Frame) (end : FramedEnd) → Took n l m → f ≡ ends n t frames end → Covers f l t frames m end
took_covers n f l m t frames end took e =
    let charge : f.charge ≡ n = ap (λ (q : Framed Proc). q.charge) e in
    record {
      covered = omega (arith, took.0, charge);
      answer = e ∙ ap (λ k. ends k t frames end) (sym charge);
      rest = took.1 ∙ ap (λ k. less_steps l k) (sym charge);
    }

nothing_taken : (l : Left) → Took 0 l l
nothing_taken l = let e : l.steps ≡ l.steps - 0 = omega arith in (omega arith, ap (λ k. let m : Left = record l { steps = k } in m) e)

pub for_nothing : (f : Framed Proc) (s t : StoreView) (frames : List Frame) (l : Left) (r : Result FrameAnswer Stop) → Free f t frames r → Paid f s frames l t frames l r
for_nothing f s t frames l (Ok a) e = took_covers 0 f l l t frames _ (nothing_taken l) e
for_nothing f s t frames l (Err (stop.Raised v level)) e = took_covers 0 f l l t frames _ (nothing_taken l) e
for_nothing f s t frames l (Err stop.Spent) e = absurd e
for_nothing f s t frames l (Err stop.NoMemory) e = tt

-- WHAT IS NOT COVERED
pub lacked : (n : ℕ) (f : Framed Proc) (s : StoreView) (frames : List Frame) (l m : Left) (e : Stop) (r : Result FrameAnswer Stop) → Unpaid n l m e → n ≤ f.charge → r ≡ Err e → Paid f s frames l s frames m r
lacked n f s frames l m stop.Spent r u le is = subst (Paid f s frames l s frames m) (sym is) (record { short = omega (arith, u.0, le); same = refl; frames_same = refl; rest = u.1 })
lacked n f s frames l m (stop.Raised v level) r u le is = absurd u
lacked n f s frames l m stop.NoMemory r u le is = absurd u

-- A PLAIN FUNCTION'S answer
pub gives_values : (p : Plain Proc) (h : Heap Proc) (s t : StoreView) (frames : List Frame) (l m : Left) (vs : List Value) → plain.Paid p s l t m (Ok vs) → Paid (as_framed h frames p) s frames l t frames m (Ok (answer.Gives vs))
gives_values p h s t frames l m vs c = record {
  covered = c.covered;
  answer = ap (as_framed h frames) c.answer;
  rest = c.rest;
}

pub gives_none : (p : Plain Proc) (h : Heap Proc) (s t : StoreView) (frames : List Frame) (l m : Left) (e : Stop) (r : Result FrameAnswer Stop) → plain.Paid p s l t m (Err e) → r ≡ Err e → Paid (as_framed h frames p) s frames l t frames m r
gives_none p h s t frames l m (stop.Raised v level) r c is = subst (Paid (as_framed h frames p) s frames l t frames m) (sym is) (record { covered = c.covered; answer = ap (as_framed h frames) c.answer; rest = c.rest })
gives_none p h s t frames l m stop.Spent r c is = subst (Paid (as_framed h frames p) s frames l t frames m) (sym is) (record { short = c.short; same = c.same; frames_same = refl; rest = c.rest })
gives_none p h s t frames l m stop.NoMemory r c is = subst (Paid (as_framed h frames p) s frames l t frames m) (sym is) tt

-- a message that a method comes to
pub raised : (f : Framed Proc) (message : Bytes) (s t : StoreView) (frames : List Frame) (l : Left) (e : Stop) → f ≡ refuses s.heap frames message → plain.Stops (fails s.heap message) t e
    → Paid f s frames l t frames l (Err e)
raised f message s t frames l e is stops = for_nothing f s t frames l (Err e) (subst (λ q. Stops q t frames e) (sym is) (stops_with message s t frames e stops))

-- A TITLE that is found, or a text that is none
pub titled : (a : Argument Title) (x : Title) (h : Heap Proc) (frames : List Frame) (next : Title → Framed Proc) → a ≡ Ok x → if_title h frames a next ≡ next x
titled a x h frames next is = ap (λ y. if_title h frames y next) is

quotes_there : Heap Proc → List Frame → Bytes → Framed Proc
quotes_there h frames message = record { charge = 0; heap = h; frames = frames; end = FrameQuotes message }

pub quoted : (a : Argument Title) (s t : StoreView) (frames : List Frame) (l : Left) (next : Title → Framed Proc) (message : TextId) → a ≡ Err (text_at t.texts message.at) → t.heap ≡ s.heap
    → Paid (if_title s.heap frames a next) s frames l t frames l (Ok (answer.Quotes message))
unfolding quotes_there
quoted a s t frames l next message is heap =
    for_nothing _ s t frames l (Ok (answer.Quotes message))
    (ap (λ y. if_title s.heap frames y next) is ∙ ap (λ h. quotes_there h frames (text_at t.texts message.at)) (sym heap))

-- STEPS WERE TAKEN before
charged_covers : (n : ℕ) (f : Framed Proc) (l m k : Left) (t : StoreView) (frames : List Frame) (end : FramedEnd) → Took n l m → Covers f m t frames k end → Covers (behind_charge n f) l t frames k end
charged_covers n f l m k t frames end took c =
    let both = took_then n f.charge l m k took (c.covered, c.rest) in
    record { covered = both.0; answer = ap (behind_charge n) c.answer; rest = both.1 }

pub charged : (n : ℕ) (f : Framed Proc) (s : StoreView) (before : List Frame) (l m k : Left) (t : StoreView) (frames : List Frame) (r : Result FrameAnswer Stop) → Took n l m → Paid f s before m t frames k r
    → Paid (behind_charge n f) s before l t frames k r
charged n f s before l m k t frames (Ok a) took c = charged_covers n f l m k t frames _ took c
charged n f s before l m k t frames (Err (stop.Raised v level)) took c = charged_covers n f l m k t frames _ took c
charged n f s before l m k t frames (Err stop.Spent) took c =
    let both = lacked_then n f.charge l m k took (c.short, c.rest) in
    record { short = both.0; same = c.same; frames_same = c.frames_same; rest = both.1 }
charged n f s before l m k t frames (Err stop.NoMemory) took c = tt

-- or they were not there
pub not_charged : (n : ℕ) (f : Framed Proc) (s : StoreView) (frames : List Frame) (l m : Left) (e : Stop) (r : Result FrameAnswer Stop) → MayPay {A = Unit {0}} n l m (Err e) → r ≡ Err e → Paid (behind_charge n f) s frames l s frames m r
not_charged n f s frames l m stop.Spent r u is = subst (Paid (behind_charge n f) s frames l s frames m) (sym is) (record { short = omega (arith, u.0); same = refl; frames_same = refl; rest = u.1 })
not_charged n f s frames l m (stop.Raised v level) r u is = absurd u
not_charged n f s frames l m stop.NoMemory r u is = subst (Paid (behind_charge n f) s frames l s frames m) (sym is) tt
