-- An error whose message is paid for.
use Rattle.std.proofs.Common.{◌≡◌, ℕ, ◌<◌, ◌≤◌, ◌-◌, true, false, List, ◌++◌, length, Option, Some, refl, sym, ◌∙◌, ap, arith}
use Rattle.std.specs.Prelude.{nat_le}
use Rattle.page_run.specs.WkBaseDeclaredLeftLeft.{Left}
use Rattle.page_run.specs.declared.which.Which.TheVariants.{Steps}
use Rattle.page_run.specs.State.{Tally}
use Rattle.page_run.specs.Perform.{less_if}
use Rattle.page_run.specs.Outcome.{Jumps}
use Rattle.lua_code.specs.LuaHeapValue as kind
use Rattle.lua_code.specs.LuaMeaningActs.{Raised}
use Rattle.lua_store.specs.Seen.{StoreView, text_at}
use Rattle.lua_store.specs.Parts.{IsLater}
use Rattle.lua_code.specs.LuaSlotsSlots.{Slots}
use Rattle.lua_code.specs.LuaSlotsPoints.{Gives, Move, Costs}
use Rattle.lua_code.specs.LuaSlotsEnact.{Funds, all_given_back, Stands, Short, paid, enact}
use Rattle.lua_code.specs.LuaSlotsErrors.{jumps, raises}
use Rattle.lua_replacing.specs.LuaMeaningMessages.{place_text}
use Rattle.lua_stack.specs.declared.frame.Frame.{Frame}
use Rattle.lua_stack.specs.declared.activation.Level.{Level}
use Rattle.lua_stack.specs.declared.raising.Raising.{Raising}
use Rattle.lua_stack.specs.Raised.{raised_seen, place_seen}
use Rattle.lua_stack.specs.Seen.{frames_seen, level_seen}
use Rattle.lua_stack.specs.Of.{FramesOf}
use Rattle.lua_stack.proofs.Stay.{frames_as}

le_test : (c n : ℕ) → c ≤ n → nat_le c n ≡ true
le_test c n h = grind arith

lt_test : (c n : ℕ) → n < c → nat_le c n ≡ false
lt_test c n h = grind arith

abbrev pub less_steps : Left → ℕ → Left
less_steps l n = record l { steps = l.steps - n }

-- a charge that is covered, and one that isn't
pub pays : (n : ℕ) (mv : Move) (f : Funds) → n ≤ f.left.steps → enact (Costs n mv) f ≡ enact mv (record f { left = less_steps f.left n })
pays n mv f h = ap (λ b. paid (less_if b n f.left.steps) f (enact mv)) (le_test n f.left.steps h)

pub spends : (n : ℕ) (mv : Move) (f : Funds) → f.left.steps < n → enact (Costs n mv) f ≡ Short Steps (all_given_back (record f { left = record f.left { steps = 0 } }))
spends n mv f h = ap (λ b. paid (less_if b n f.left.steps) f (enact mv)) (lt_test n f.left.steps h)

-- an error whose message is paid for and made
pub raised : (old new : StoreView) (frames : List Frame) (s : Slots) (in_progress : ℕ) (tally : Tally) (left after : Left) (message : List ℕ) (at : ℕ) → IsLater old new → FramesOf old frames
    → length message ≤ left.steps → after ≡ less_steps left (length message) → text_at new.texts at ≡ message
    → enact (Costs (length message) (jumps (Raised (kind.Text message)) (frames_seen old.texts frames) s)) (record { left = left; in_progress = in_progress; tally = tally })
    ≡ Stands (Gives (Jumps (Raised (kind.Text (text_at new.texts at)))) (frames_seen new.texts frames)) s (record { left = after; in_progress = in_progress; tally = tally })
raised old new frames s in_progress tally left after message at l of h e t =
    pays (length message) (jumps (Raised (kind.Text message)) (frames_seen old.texts frames) s) (record { left = left; in_progress = in_progress; tally = tally }) h
    ∙ (rw (e, t, frames_as old new l frames of) refl)

-- an error at a place
pub placed : (old new : StoreView) (frames : List Frame) (s : Slots) (f g : Funds) (r : Raising) (m text : List ℕ) (o : Option Level) (l : Level) → o ≡ Some l → m ≡ place_text (level_seen old.texts l) ++ text
    → enact (Costs (length m) (jumps (Raised (kind.Text m)) (frames_seen old.texts frames) s)) f ≡ raised_seen new.texts r (frames_seen new.texts frames) s g
    → enact (raises (place_seen old.texts o) text (frames_seen old.texts frames) s) f ≡ raised_seen new.texts r (frames_seen new.texts frames) s g
placed old new frames s f g r m text o l e q w =
    ap (λ (p : Option Level). enact (raises (place_seen old.texts p) text (frames_seen old.texts frames) s) f) e
    ∙ ap (λ (z : List ℕ). enact (Costs (length z) (jumps (Raised (kind.Text z)) (frames_seen old.texts frames) s)) f) (sym q) ∙ w
