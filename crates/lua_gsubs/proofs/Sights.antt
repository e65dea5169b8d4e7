-- Searches for the next match of a job: their tries, and the bytes before a match.
use Rattle.std.proofs.Common.{◌≡◌, ◌∙◌, ap, sym, subst, refl, arith, ℕ, ◌+◌, ◌<◌, List, length, Option, Some, None, Ok, Err}
use Rattle.std.specs.Prelude.{Result}
use Rattle.std.specs.Option.{option_map}
use Rattle.lua_number.specs.WkBaseDeclaredLeftLeft.{Left}
use Rattle.lua_pattern.specs.declared.pattern.Match.{Match}
use Rattle.lua_pattern.specs.declared.slots.Slot.{Slot}
use Rattle.lua_pattern.specs.Letters.{Letters}
use Rattle.mw_text.specs.LuaStringFinds.{match_of}
use Rattle.lua_replacing.specs.LuaStringWalk.{Step, Walk, Stops, Meets, span}
use Rattle.lua_iterators.specs.LuaMeaningScope.{Bytes}
use Rattle.lua_replacing.specs.LuaMeaningIterators.{Stand}
use Rattle.lua_replacing.specs.LuaMeaningGsub.{Job, letters, search_on, up_to}
use Rattle.lua_replacing.specs.LuaMeaningGsub as meaning
use Rattle.lua_replacing.specs.LuaStoreSeen.{StoreView}
use Rattle.lua_iterators.specs.LuaBasicDeclaredStopStop.{Stop}
use Rattle.lua_iterators.specs.LuaBasicDeclaredStopStopTheVariants as stop
use Rattle.lua_iterators.specs.MwFramesCosts.{Took, Lacked, Unpaid}
use Rattle.lua_iterators.proofs.MwFramesSums.{took_then, lacked_then}
use Rattle.lua_replacing.specs.declared.far.Far.{Far}
use Rattle.lua_replacing.specs.Seen.{stand_seen, far_seen}
use Rattle.lua_gsubs.specs.declared.meeting.Met.TheVariants as met
use Rattle.lua_gsubs.specs.declared.seeking.Sought.{Sought}
use Rattle.lua_gsubs.specs.declared.seeking.Sought.TheVariants as sought
use Rattle.lua_gsubs.specs.Met.{IsMet}
use Rattle.lua_gsubs.specs.Sought.{IsHeld, IsWalked, IsSought}

module _ (a : Letters) (s : Bytes) (k : Stand) (slots : List Slot) where
  pub walked_none : (w : Walk) (u : StoreView) (f : Far) (l m : Left) → IsMet slots w l m (Ok met.Nothing) → IsWalked a s k slots w u u f f l m (Ok sought.NoMatch)
  walked_none (Stops n) u f l m p = (p, refl)
  walked_none (Meets n step next) u f l m p = absurd p

  pub walked_error : (w : Walk) (u : StoreView) (f : Far) (l m : Left) (e : Stop) → IsMet slots w l m (Err e) → IsWalked a s k slots w u u f f l m (Err e)
  walked_error (Stops n) u f l m stop.Spent p = (p, refl)
  walked_error (Stops n) u f l m (stop.Raised v level) p = absurd p
  walked_error (Stops n) u f l m stop.NoMemory p = tt
  walked_error (Meets n step next) u f l m stop.Spent p = ((omega (arith, p.0), p.1), refl)
  walked_error (Meets n step next) u f l m (stop.Raised v level) p = absurd p
  walked_error (Meets n step next) u f l m stop.NoMemory p = tt

  wanting : (w : Walk) (u t : StoreView) (f g : Far) (l m : Left) → IsWalked a s k slots w u t f g l m (Err stop.NoMemory)
  wanting (Stops n) u t f g l m = tt
  wanting (Meets n step next) u t f g l m = tt

  pub walked_no_memory : (w : Walk) (u t : StoreView) (f g : Far) (l m : Left) (r : Result Sought Stop) → r ≡ Err stop.NoMemory → IsWalked a s k slots w u t f g l m r
  walked_no_memory w u t f g l m r is = subst (IsWalked a s k slots w u t f g l m) (sym is) (wanting w u t f g l m)

  -- the bytes before a match: those before where it begins in the meaning
  between_is : (n : ℕ) (step : Step) (f : Far) (found : Match) (between : Bytes) → match_of slots step.start step.end step.marks ≡ found → between ≡ span s f.copied found.start
      → n + length between ≡ n + length (span s f.copied step.start)
  between_is n step f found between same is = ap (λ (x : Bytes). n + length x) (is ∙ ap (λ (x : Match). span s f.copied x.start) (sym same))

  -- they are not covered
  pub walked_unpaid : (w : Walk) (found : Match) (next : Option ℕ) (between : Bytes) (u : StoreView) (f : Far) (l k' m : Left) (e : Stop) (r : Result Sought Stop) → IsMet slots w l k' (Ok (met.Found found next))
      → between ≡ span s f.copied found.start → Unpaid (length between) k' m e → r ≡ Err e → IsWalked a s k slots w u u f f l m r
  walked_unpaid (Stops n) found next between u f l k' m e r p is unpaid same = absurd p
  walked_unpaid (Meets n step place) found next between u f l k' m stop.Spent r (took, met, ahead) is lacked same =
      subst (IsWalked a s k slots (Meets n step place) u u f f l m) (sym same)
      (subst (λ i. Lacked i l m) (between_is n step f found between met is) (lacked_then n (length between) l k' m took lacked), refl)
  walked_unpaid (Meets n step place) found next between u f l k' m (stop.Raised v level) r p is unpaid same = absurd unpaid
  walked_unpaid (Meets n step place) found next between u f l k' m stop.NoMemory r p is unpaid same = absurd unpaid

  -- they are
  pub walked_held : (w : Walk) (found : Match) (next : Option ℕ) (between : Bytes) (u t : StoreView) (f g : Far) (l k' m : Left) (held : Sought) → IsMet slots w l k' (Ok (met.Found found next))
      → between ≡ span s f.copied found.start → Took (length between) k' m → IsHeld a s k found next t f g held → IsWalked a s k slots w u t f g l m (Ok held)
  walked_held (Stops n) found next between u t f g l k' m held p is paid h = absurd p
  walked_held (Meets n step place) found next between u t f g l k' m sought.NoMatch p is paid h = absurd h
  walked_held (Meets n step place) found next between u t f g l k' m (sought.Matched values start end) (took, same, ahead) is paid h = (
    subst (λ i. Took i l m) (between_is n step f found between same is) (took_then n (length between) l k' m took paid),
    subst (λ x. IsHeld a s k x place t f g (sought.Matched values start end)) (sym same) (subst (λ x. IsHeld a s k found x t f g (sought.Matched values start end)) (sym ahead) h),
  )

-- how far it is, by its parts
far_is : (g : Far) (text : Bytes) (copied count : ℕ) (next : Option Stand) → g.text.items ≡ text → g.copied ≡ copied → g.count ≡ count → option_map stand_seen g.next ≡ next
    → far_seen g ≡ (let x : meaning.Far = record { text = text; copied = copied; count = count; next = next } in x)
far_is g text copied count next a b c d = rw (a, b, c, d) refl

pub walked_sought : (job : Job) (limit : ℕ) (k : Stand) (w : Walk) (u t : StoreView) (f g : Far) (l m : Left) (r : Result Sought Stop) → IsWalked (letters job.alphabet) job.subject k job.slots w u t f g l m r
    → IsSought (search_on job limit (far_seen f) k w) job.subject u t f g l m r
walked_sought job limit k (Stops n) u t f g l m (Ok sought.NoMatch) p = p
walked_sought job limit k (Stops n) u t f g l m (Ok (sought.Matched values start end)) p = absurd p
walked_sought job limit k (Stops n) u t f g l m (Err stop.Spent) p = p
walked_sought job limit k (Stops n) u t f g l m (Err (stop.Raised v level)) p = absurd p
walked_sought job limit k (Stops n) u t f g l m (Err stop.NoMemory) p = tt
walked_sought job limit k (Meets n step next) u t f g l m (Ok sought.NoMatch) p = absurd p
walked_sought job limit k (Meets n step next) u t f g l m (Ok (sought.Matched values start end)) (took, held) =
    (took, held.0, far_is g _ _ _ _ held.3 held.4 held.5 held.6, ap (λ x. span job.subject x end) held.1 ∙ ap (span job.subject step.start) held.2)
walked_sought job limit k (Meets n step next) u t f g l m (Err stop.Spent) p = p
walked_sought job limit k (Meets n step next) u t f g l m (Err (stop.Raised v level)) p = absurd p
walked_sought job limit k (Meets n step next) u t f g l m (Err stop.NoMemory) p = tt
