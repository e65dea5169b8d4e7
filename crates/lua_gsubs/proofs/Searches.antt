-- What the answers of searches are in a walk: those of the meaning; and where the next search begins.
use Rattle.std.proofs.Common.{◌≡◌, ◌∙◌, ap, sym, subst, refl, arith, ℕ, ◌+◌, ◌<◌, ◌≤◌, Bool, true, false, List, [], ◌∷◌, length, drop, Option, Some, None, Ok, Err}
use Rattle.std.specs.Prelude.{nat_lt, if◌then◌else◌, Result}
use Rattle.lua_number.specs.WkBaseDeclaredLeftLeft.{Left}
use Rattle.lua_pattern.specs.declared.pattern.Match.{Match}
use Rattle.lua_pattern.specs.declared.slots.Slot.{Slot}
use Rattle.lua_pattern.specs.declared.item.Item.{Item}
use Rattle.lua_pattern.specs.Letters.{Symbol, Letters, IsAlphabet}
use Rattle.lua_pattern.specs.Way.{Answer, At, Nowhere, answer_tries, first}
use Rattle.lua_pattern.specs.Found.{IsFound}
use Rattle.lua_pattern.specs.Keeps.{within_keeps}
use Rattle.lua_pattern.specs.Places.{KeepsPlaces}
use Rattle.lua_pattern.proofs.Inside.{AnswerHas, first_has}
use Rattle.mw_text.specs.LuaStringFinds.{match_of}
use Rattle.lua_replacing.specs.LuaStringWalk.{walk_on, next_place, behind_first}
use Rattle.lua_iterators.specs.LuaMeaningScope.{Bytes}
use Rattle.lua_iterators.specs.LuaBasicDeclaredStopStop.{Stop}
use Rattle.lua_iterators.specs.LuaBasicDeclaredStopStopTheVariants as stop
use Rattle.lua_iterators.specs.MwFramesCosts.{Took, Lacked, Unpaid}
use Rattle.lua_gsubs.specs.declared.meeting.Met.{Met}
use Rattle.lua_gsubs.specs.declared.meeting.Met.TheVariants as met
use Rattle.lua_gsubs.specs.Met.{IsMet, PlaceWithin}

-- a match by its parts
same_match : (start end : ℕ) (slots : List Slot) (marks : List ℕ) (m : Match) → m.start ≡ start → m.end ≡ end → m.captures ≡ (match_of slots start end marks).captures → match_of slots start end marks ≡ m
same_match start end slots marks m e f g = rw (e, f, g) refl

module _ (a : Letters) (s : Bytes) (anchored : Bool) (slots : List Slot) where
  -- no match
  pub met_none : (answer : Answer) (tries : ℕ) (l m : Left) → answer ≡ Nowhere tries → Took tries l m → IsMet slots (walk_on a anchored s answer) l m (Ok met.Nothing)
  met_none answer tries l m is took = subst (λ x. IsMet slots (walk_on a anchored s x) l m (Ok met.Nothing)) (sym is) took

  -- a match
  pub met_found : (answer : Answer) (found : Match) (tries : ℕ) (l m : Left) → IsFound slots answer found tries → Took tries l m
      → IsMet slots (walk_on a anchored s answer) l m (Ok (met.Found found (next_place a anchored s found.start found.end)))
  met_found (At start end marks n) found tries l m p took =
      (subst (λ x. Took x l m) p.3 took, same_match start end slots marks found p.0 p.1 p.2, rw (p.0, p.1) refl)
  met_found (Nowhere n) found tries l m p took = absurd p

  -- the tries are not covered
  pub met_lacked : (answer : Answer) (l m : Left) → Lacked (answer_tries answer) l m → IsMet slots (walk_on a anchored s answer) l m (Err stop.Spent)
  met_lacked (At start end marks n) l m p = p
  met_lacked (Nowhere n) l m p = p

  pub met_spent : (answer : Answer) (l m : Left) (e : Stop) → l.steps < answer_tries answer → e ≡ stop.Spent → m ≡ record l { steps = 0 } → IsMet slots (walk_on a anchored s answer) l m (Err e)
  met_spent answer l m e short is rest = subst (λ x. IsMet slots (walk_on a anchored s answer) l m (Err x)) (sym is) (met_lacked answer l m (short, rest))

  unpaid : (answer : Answer) (tries : ℕ) (l m : Left) (e : Stop) → answer_tries answer ≡ tries → Unpaid tries l m e → IsMet slots (walk_on a anchored s answer) l m (Err e)
  unpaid answer tries l m stop.Spent is u = met_lacked answer l m (subst (λ n. Lacked n l m) (sym is) u)
  unpaid answer tries l m (stop.Raised v level) is u = absurd u
  unpaid answer tries l m stop.NoMemory is u = absurd u

  pub met_unpaid : (answer : Answer) (tries : ℕ) (l m : Left) (e : Stop) (r : Result Met Stop) → answer_tries answer ≡ tries → Unpaid tries l m e → r ≡ Err e → IsMet slots (walk_on a anchored s answer) l m r
  met_unpaid answer tries l m e r is u same = subst (IsMet slots (walk_on a anchored s answer) l m) (sym same) (unpaid answer tries l m e is u)

  -- memory is wanting
  pub met_no_memory : (answer : Answer) (l m : Left) → IsMet slots (walk_on a anchored s answer) l m (Err stop.NoMemory)
  met_no_memory (At start end marks n) l m = tt
  met_no_memory (Nowhere n) l m = tt

  pub found_tries : (answer : Answer) (found : Match) (tries : ℕ) → IsFound slots answer found tries → answer_tries answer ≡ tries
  found_tries (At start end marks n) found tries p = sym p.3
  found_tries (Nowhere n) found tries p = absurd p

-- WHERE THE NEXT SEARCH BEGINS, it begins within the text
symbol_within : (a : Letters) → IsAlphabet a → (s : Bytes) (at : ℕ) (cs : List Symbol) → at ≤ length s → a.symbols (drop at s) ≡ cs → PlaceWithin (length s) (behind_first cs at)
symbol_within a law s at [] le e = tt
symbol_within a law s at (c ∷ cs) le e = (within_keeps a law s).step at c cs le e

ahead_or : (a : Letters) → IsAlphabet a → (s : Bytes) (start end : ℕ) (b : Bool) → start ≤ length s → end ≤ length s
    → PlaceWithin (length s) (let o : Option ℕ = if b then Some end else behind_first (a.symbols (drop start s)) start in o)
ahead_or a law s start end true le lf = lf
ahead_or a law s start end false le lf = symbol_within a law s start (a.symbols (drop start s)) le refl

ahead : (a : Letters) → IsAlphabet a → (s : Bytes) (anchored : Bool) (start end : ℕ) → start ≤ length s → end ≤ length s → PlaceWithin (length s) (next_place a anchored s start end)
ahead a law s true start end le lf = tt
ahead a law s false start end le lf = ahead_or a law s start end (nat_lt start end) le lf

found_ahead : (a : Letters) → IsAlphabet a → (s : Bytes) (anchored : Bool) (slots : List Slot) (at : ℕ) (answer : Answer) (found : Match) (tries : ℕ) → AnswerHas (λ p. p ≤ length s) at answer
    → IsFound slots answer found tries → PlaceWithin (length s) (next_place a anchored s found.start found.end)
found_ahead a law s anchored slots at (At start end marks n) found tries h p = rw (p.0, p.1) (ahead a law s anchored start end h.2 h.3)
found_ahead a law s anchored slots at (Nowhere n) found tries h p = absurd p

pub place_ahead : (a : Letters) → IsAlphabet a → (s : Bytes) (anchored : Bool) (items : List Item) (slots : List Slot) (at : ℕ) (found : Match) (tries : ℕ) → at ≤ length s
    → IsFound slots (first a anchored items s at) found tries → PlaceWithin (length s) (next_place a anchored s found.start found.end)
place_ahead a law s anchored items slots at found tries le p =
    found_ahead a law s anchored slots at (first a anchored items s at) found tries (first_has a law s (λ p. p ≤ length s) (within_keeps a law s) anchored items at le) p
