-- What the answers of searches are: those of the meaning.
use Rattle.std.proofs.Common.{◌≡◌, ◌∙◌, ap, sym, subst, refl, arith, ℕ, ◌+◌, ◌<◌, List, [], ◌∷◌, length, map, Option, Some, None}
use Rattle.lua_pattern.specs.declared.pattern.Capture.{Capture}
use Rattle.lua_pattern.specs.declared.pattern.Match.{Match}
use Rattle.lua_pattern.specs.declared.pattern.Search.TheVariants as search
use Rattle.lua_pattern.specs.declared.read.PatternFault.{PatternFault}
use Rattle.lua_pattern.specs.declared.read.PatternFault.TheVariants as fault
use Rattle.lua_pattern.specs.declared.slots.Slot.{Slot}
use Rattle.lua_pattern.specs.Way.{Answer, At, Nowhere, first}
use Rattle.lua_pattern.specs.Read.{Read, Fault, Fine}
use Rattle.lua_pattern.specs.Reads.{IsReadFault}
use Rattle.lua_pattern.specs.Texts.{points}
use Rattle.mw_text.specs.LuaStringFinds.{IsPriced, IsPlain, match_of}
use Rattle.mw_text.specs.MwUstringFinds.{AnswersRead}
use Rattle.mw_frame_texts.specs.LuaHeapProc.{Proc}
use Rattle.mw_frame_texts.specs.LuaHeapHeap.{Heap}
use Rattle.mw_frame_texts.specs.LuaHeapValue.{Value, Nil}
use Rattle.mw_frame_texts.specs.LuaMeaningScope.{Bytes}
use Rattle.mw_frame_texts.specs.LuaMeaningArguments.{costs}
use Rattle.mw_frame_texts.specs.LuaStoreSeen.{StoreView}
use Rattle.mw_frame_texts.specs.LuaBasicDeclaredStopStop.{Stop}
use Rattle.mw_frame_texts.specs.LuaBasicSeen.{Stops}
use Rattle.mw_ustrings.specs.Faults.{FaultStops}
use Rattle.mw_frame_texts.specs.LuaMeaningUstring.{place_value, last_value, capture_value, whole_or_captures, gives_match, searches, plain_values}

-- a match by its parts
same_match : {a b c d : ℕ} {cs ds : List Capture} → a ≡ b → c ≡ d → cs ≡ ds
    → (let x : Match = record { start = b; end = d; captures = ds } in x) ≡ record { start = a; end = c; captures = cs }
same_match e f g = rw (e, f, g) refl

module _ (h : Heap Proc) (size : Match → ℕ) (values : Match → List Value) (budget : ℕ) (slots : List Slot) where
  priced_found : (answer : Answer) (m : Match) (tries : ℕ) → IsPriced size budget slots answer (search.Found m tries) → gives_match h size values slots answer ≡ costs (tries + size m) h (values m)
  priced_found (At start end marks n) m tries p =
      let same : match_of slots start end marks ≡ m = same_match p.1.0 p.1.1 p.1.2 in
      ap (λ k. costs (k + size (match_of slots start end marks)) h (values (match_of slots start end marks))) (sym p.1.3) ∙ ap (λ x. costs (tries + size x) h (values x)) same
  priced_found (Nowhere n) m tries p = absurd p.1

  priced_none : (answer : Answer) (tries : ℕ) → IsPriced size budget slots answer (search.NotFound tries) → gives_match h size values slots answer ≡ costs tries h (Nil ∷ [])
  priced_none answer tries p = ap (gives_match h size values slots) p.1

  priced_spent : (answer : Answer) → IsPriced size budget slots answer search.Spent → budget < (gives_match h size values slots answer).charge
  priced_spent (At start end marks n) p = p
  priced_spent (Nowhere n) p = p

module _ (h : Heap Proc) (size : Match → ℕ) (values : Match → List Value) (budget : ℕ) (s : Bytes) (from : ℕ) where
  pub search_found : (read : Read) (m : Match) (tries : ℕ) → AnswersRead size budget s from read (search.Found m tries) → searches h size values s from read ≡ costs (tries + size m) h (values m)
  search_found (Fault n) m tries p = absurd p
  search_found (Fine anchored items slots) m tries p = priced_found h size values budget slots (first points anchored items s from) m tries p

  pub search_none : (read : Read) (tries : ℕ) → AnswersRead size budget s from read (search.NotFound tries) → searches h size values s from read ≡ costs tries h (Nil ∷ [])
  search_none (Fault n) tries p = absurd p
  search_none (Fine anchored items slots) tries p = priced_none h size values budget slots (first points anchored items s from) tries p

  pub search_spent : (read : Read) → AnswersRead size budget s from read search.Spent → budget < (searches h size values s from read).charge
  search_spent (Fault n) p = absurd p
  search_spent (Fine anchored items slots) p = priced_spent h size values budget slots (first points anchored items s from) p

-- a fault of the pattern
pub search_fault : (size : Match → ℕ) (values : Match → List Value) (s : Bytes) (from : ℕ) (read : Read) (e : PatternFault) (w t : StoreView) (end : Stop) → IsReadFault read e → FaultStops w t e end
    → Stops (searches w.heap size values s from read) t end
search_fault size values s from read (fault.At n) w t end is stops = subst (λ r. Stops (searches w.heap size values s from r) t end) (sym is) stops
search_fault size values s from read fault.NoMemory w t end is stops = subst (λ x. Stops (searches w.heap size values s from read) t x) (sym stops) tt

-- plain searches
pub plain_found : (s : Bytes) (from size : ℕ) (o : Option ℕ) (m : Match) (tries : ℕ) → IsPlain from size o (search.Found m tries)
    → plain_values s from size o ≡ place_value s m.start ∷ last_value s m.end ∷ []
plain_found s from size (Some k) m tries p = ap (λ x. place_value s x ∷ last_value s (from + k + size) ∷ []) (sym p.0) ∙ ap (λ x. place_value s m.start ∷ last_value s x ∷ []) (sym p.1)
plain_found s from size None m tries p = absurd p

pub plain_none : (s : Bytes) (from size : ℕ) (o : Option ℕ) (tries : ℕ) → IsPlain from size o (search.NotFound tries) → plain_values s from size o ≡ Nil ∷ []
plain_none s from size None tries p = refl
plain_none s from size (Some k) tries p = absurd p

pub never_spent : (from size : ℕ) (o : Option ℕ) → IsPlain from size o search.Spent → ⊥
never_spent from size None p = p
never_spent from size (Some k) p = p

-- the captures of a match, where there are some
pub whole_match : (s : Bytes) (start end : ℕ) (cs : List Capture) → length cs ≡ 0 → whole_or_captures s start end cs ≡ whole_or_captures s start end []
whole_match s start end [] h = refl
whole_match s start end (c ∷ cs) h = absurd (omega (arith, h))

pub captures_of : (s : Bytes) (start end : ℕ) (cs : List Capture) → (length cs ≡ 0 → ⊥) → whole_or_captures s start end cs ≡ map (capture_value s) cs
captures_of s start end [] h = absurd (h refl)
captures_of s start end (c ∷ cs) h = refl
