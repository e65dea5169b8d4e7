-- Searches: what is given of what was found.
use Rattle.std.proofs.Common.{◌≡◌, ◌∙◌, ap, sym, refl, ℕ, ◌+◌, List, [], ◌∷◌, Option, Some, None, Err}
use Rattle.lua_basic.specs.WkBaseDeclaredLeftLeft.{Left}
use Rattle.lua_pattern.specs.declared.pattern.Match.{Match}
use Rattle.lua_pattern.specs.declared.pattern.Search.{Search}
use Rattle.lua_pattern.specs.declared.pattern.Search.TheVariants as search
use Rattle.lua_pattern.specs.declared.slots.Slot.{Slot}
use Rattle.lua_pattern.specs.Texts.{bytes}
use Rattle.lua_pattern.specs.Way.{Answer, At, Nowhere, first}
use Rattle.lua_pattern.specs.Found.{IsFound}
use Rattle.lua_pattern.specs.Read.{Read, Fault, Fine}
use Rattle.lua_string.specs.Finds.{IsPlain, IsPriced, AnswersRead, match_of}
use Rattle.lua_basic.specs.LuaHeapProc.{Proc}
use Rattle.lua_basic.specs.LuaHeapHeap.{Heap}
use Rattle.lua_basic.specs.LuaHeapValue.{Value, Nil, Number}
use Rattle.std.specs.Prelude.{pos}
use Rattle.lua_basic.specs.LuaMeaningScope.{Bytes}
use Rattle.lua_basic.specs.LuaMeaningArguments.{Plain, costs}
use Rattle.lua_basic.specs.declared.stop.Stop.TheVariants as stop
use Rattle.lua_basic.specs.Seen.{Paid}
use Rattle.lua_basic.specs.LuaStoreSeen.{StoreView}
use Rattle.lua_basic.specs.LuaMeaningSearches.{place_value, captures_given, find_values, answered, by_pattern, plain_values}
use Rattle.lua_strings.specs.Found.{IsCovered}

-- a match is the one that the answer tells
is_match : (slots : List Slot) (start end : ℕ) (marks : List ℕ) (n tries : ℕ) (m : Match) → IsFound slots (At start end marks n) m tries → match_of slots start end marks ≡ m
is_match slots start end marks n tries m h = sym (
    ap (λ k. let w : Match = record { start = k; end = m.end; captures = m.captures } in w) h.0
    ∙ ap (λ k. let w : Match = record { start = start; end = k; captures = m.captures } in w) h.1
    ∙ ap (λ c. let w : Match = record { start = start; end = end; captures = c } in w) h.2)

abbrev given : (Match → ℕ) → (Match → List Value) → Heap Proc → ℕ → Match → Plain Proc
given size values h n m = costs (n + size m) h (values m)

pub found_is : (size : Match → ℕ) (values : Match → List Value) (slots : List Slot) (answer : Answer) (m : Match) (tries : ℕ) (h : Heap Proc) → IsFound slots answer m tries
    → costs (tries + size m) h (values m) ≡ answered size values slots answer h
found_is size values slots (At start end marks n) m tries h f =
    ap (λ k. given size values h k m) f.3 ∙ ap (given size values h n) (sym (is_match slots start end marks n tries m f))
found_is size values slots (Nowhere n) m tries h f = absurd f

pub nowhere_is : (size : Match → ℕ) (values : Match → List Value) (slots : List Slot) (answer : Answer) (tries : ℕ) (h : Heap Proc) → answer ≡ Nowhere tries
    → costs tries h (Nil ∷ []) ≡ answered size values slots answer h
nowhere_is size values slots answer tries h e = ap (λ a. answered size values slots a h) (sym e)

pub spent_is : (size : Match → ℕ) (values : Match → List Value) (slots : List Slot) (answer : Answer) (s : StoreView) (l m : Left) → IsPriced size l.steps slots answer search.Spent → m ≡ record l { steps = 0 }
    → Paid (answered size values slots answer s.heap) s l s m (Err stop.Spent)
spent_is size values slots (At start end marks n) s l m h e = record { short = h; same = refl; rest = e }
spent_is size values slots (Nowhere n) s l m h e = record { short = h; same = refl; rest = e }

-- WHAT A PATTERN ANSWERS, where it was read
covered : (size : Match → ℕ) (budget : ℕ) (slots : List Slot) (answer : Answer) (found : Search) → IsPriced size budget slots answer found → IsCovered size budget found
covered size budget slots answer (search.Found m n) h = h.0
covered size budget slots answer (search.NotFound n) h = tt
covered size budget slots answer search.Spent h = tt

pub read_covered : (size : Match → ℕ) (budget : ℕ) (s : Bytes) (from : ℕ) (r : Read) (found : Search) → AnswersRead size budget s from r found → IsCovered size budget found
read_covered size budget s from (Fault n) found h = absurd h
read_covered size budget s from (Fine anchored items slots) found h = covered size budget slots (first bytes anchored items s from) found h

pub read_answered : (size : Match → ℕ) (values : Match → List Value) (budget : ℕ) (s : Bytes) (from : ℕ) (r : Read) (found : Search) (h : Heap Proc) (P : Plain Proc → Type 0)
    → AnswersRead size budget s from r found → ((slots : List Slot) (answer : Answer) → IsPriced size budget slots answer found → P (answered size values slots answer h))
    → P (by_pattern size values s from r h)
read_answered size values budget s from (Fault n) found h P f k = absurd f
read_answered size values budget s from (Fine anchored items slots) found h P f k = k slots (first bytes anchored items s from) f

-- A PLAIN SEARCH
pub plain_found : (s : Bytes) (from len : ℕ) (o : Option ℕ) (m : Match) (tries : ℕ) → IsPlain from len o (search.Found m tries) → find_values s m ≡ plain_values from len o
plain_found s from len (Some k) m tries h =
    ap (λ i. place_value i ∷ Number (pos m.end) ∷ captures_given s m.captures) h.0 ∙ ap (λ i. place_value (from + k) ∷ Number (pos i) ∷ captures_given s m.captures) h.1
    ∙ ap (λ cs. place_value (from + k) ∷ Number (pos (from + k + len)) ∷ captures_given s cs) h.2
plain_found s from len None m tries h = absurd h

pub plain_none : (from len : ℕ) (o : Option ℕ) (tries : ℕ) → IsPlain from len o (search.NotFound tries) → plain_values from len o ≡ Nil ∷ []
plain_none from len None tries h = refl
plain_none from len (Some k) tries h = absurd h

pub plain_spent : (from len : ℕ) (o : Option ℕ) → IsPlain from len o search.Spent → ⊥
plain_spent from len None h = h
plain_spent from len (Some k) h = h
