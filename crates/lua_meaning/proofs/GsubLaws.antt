-- `gsub`: what a replacement text stands for is what it stands for in `lua_string`; and what waits for a match has its name.
use Rattle.std.proofs.Common.{◌≡◌, ◌∙◌, ap, refl, ℕ, zero, suc, Bool, List, [], ◌∷◌, map, Option, Some, None, Ok}
use Rattle.std.specs.Prelude.{◌==◌, ◌&&◌, ◌-◌, if◌then◌else◌, Result, slice_get}
use Rattle.std.specs.Char.{is_ascii_digit}
use Rattle.page_run.specs.Outcome.{Outcome}
use Rattle.lua_walk.specs.LuaHeapValue.{Value}
use Rattle.mw_text.specs.LuaStringWalk.{Walk, Stops, Meets, walk}
use Rattle.lua_meaning.specs.Acts.{LuaRun, Jump}
use Rattle.lua_meaning.specs.Iterators.{Stand}
use Rattle.lua_meaning.specs.Scope.{Bytes, Levels}
use Rattle.mw_text.specs.LuaStringReplacements.{text_of, numbered, is_none_there, capture_text, put, behind_percent, replaced_of}
use Rattle.mw_text.specs.LuaStringDeclaredReplacingCaptureText.{CaptureText}
use Rattle.lua_meaning.specs.Gsub as own
use Rattle.lua_meaning.specs.Gsub.{FilledIsReplaced, GsubIsNamed, MatchesGoOn}

none-same : (cs : List CaptureText) → own.are_none (map text_of cs) ≡ is_none_there cs
none-same [] = refl
none-same (c ∷ cs) = refl

nth-same : (cs : List CaptureText) (n : ℕ) → own.or_fault (slice_get (map text_of cs) n) ≡ numbered (slice_get cs n)
nth-same [] n = refl
nth-same (c ∷ cs) zero = refl
nth-same (c ∷ cs) (suc n) = nth-same cs n

capture-same : (whole : Bytes) (cs : List CaptureText) (d : ℕ) → own.nth_text whole (map text_of cs) d ≡ capture_text whole cs d
capture-same whole cs d =
    ap (λ (b : Bool). if d == 0 then Ok whole else (if d == 1 && b then Ok whole else own.or_fault (slice_get (map text_of cs) (d - 1)))) (none-same cs)
    ∙ ap (λ (r : Result Bytes ℕ). if d == 0 then Ok whole else (if d == 1 && is_none_there cs then Ok whole else r)) (nth-same cs (d - 1))

percent-same : (whole : Bytes) (cs : List CaptureText) (c : ℕ) → own.behind_percent whole (map text_of cs) c ≡ behind_percent whole cs c
percent-same whole cs c = ap (λ (r : Result Bytes ℕ). if is_ascii_digit c then r else Ok (c ∷ [])) (capture-same whole cs (c - 48))

pub filled-same : FilledIsReplaced
filled-same whole cs [] = refl
filled-same whole cs (b ∷ []) = refl
filled-same whole cs (b ∷ (c ∷ text)) =
    ap (λ (r : Result Bytes ℕ). if b == 37 then put r (own.filled_in whole (map text_of cs) text) else put (Ok (b ∷ [])) (own.filled_in whole (map text_of cs) (c ∷ text))) (percent-same whole cs c)
    ∙ ap (λ (r : Result Bytes ℕ). if b == 37 then put (behind_percent whole cs c) r else put (Ok (b ∷ [])) (own.filled_in whole (map text_of cs) (c ∷ text))) (filled-same whole cs text)
    ∙ ap (λ (r : Result Bytes ℕ). if b == 37 then put (behind_percent whole cs c) (replaced_of whole cs text) else put (Ok (b ∷ [])) r) (filled-same whole cs (c ∷ text))

-- WHAT WAITS for a match
on-walk : (callers : Levels) (job : own.Job) (limit : ℕ) (far : own.Far) (at : Stand) (w : Walk) (k : Outcome (List Value) Jump → LuaRun)
    → own.asks_on callers job far (own.goes callers job limit) (own.search_on job limit far at w) k ≡ own.asks_by_name callers job far (own.search_on job limit far at w) k
on-walk callers job limit far at (Stops tries) k = refl
on-walk callers job limit far at (Meets tries step next) k = refl

from-stand : (callers : Levels) (job : own.Job) (limit : ℕ) (far : own.Far) (o : Option Stand) (k : Outcome (List Value) Jump → LuaRun)
    → own.asks_on callers job far (own.goes callers job limit) (own.search_from job limit far o) k ≡ own.asks_by_name callers job far (own.search_from job limit far o) k
from-stand callers job limit far None k = refl
from-stand callers job limit far (Some at) k = on-walk callers job limit far at (walk (own.letters job.alphabet) job.anchored job.items job.subject at.at) k

pub gsub_is_named : GsubIsNamed
gsub_is_named callers job limit far k = from-stand callers job limit far far.next k

walk-goes-on : (job : own.Job) (limit : ℕ) (far : own.Far) (at : Stand) (w : Walk) → own.GoesOnWith job limit (own.search_on job limit far at w)
walk-goes-on job limit far at (Stops tries) = tt
walk-goes-on job limit far at (Meets tries step next) = (refl, refl)

stand-goes-on : (job : own.Job) (limit : ℕ) (far : own.Far) (o : Option Stand) → own.GoesOnWith job limit (own.search_from job limit far o)
stand-goes-on job limit far None = tt
stand-goes-on job limit far (Some at) = walk-goes-on job limit far at (walk (own.letters job.alphabet) job.anchored job.items job.subject at.at)

pub matches_go_on : MatchesGoOn
matches_go_on job limit far = stand-goes-on job limit far far.next
