-- What a replacement stands for at a match, behind what stands between.
use Rattle.std.proofs.Common.{◌≡◌, ◌∙◌, ap, sym, subst, refl, arith, ℕ, suc, ◌+◌, ◌-◌, ◌<◌, ◌≤◌, ◌^◌, List, [], ◌∷◌, ◌++◌, length, map, append_assoc, Option, Ok, Err, length-append, min}
use Rattle.std.proofs.lemmas.List.{map-append}
use Rattle.std.specs.Prelude.{Result}
use Rattle.std.specs.Option.{option_map}
use Rattle.lua_number.specs.WkBaseDeclaredLeftLeft.{Left}
use Rattle.lua_pattern.specs.declared.pattern.Capture.{Capture}
use Rattle.lua_pattern.specs.declared.pattern.Match.{Match}
use Rattle.lua_pattern.specs.Letters.{Letters}
use Rattle.mw_text.specs.LuaStringTexts.{saturated}
use Rattle.lua_replacing.specs.LuaStringWalk.{span}
use Rattle.mw_text.specs.LuaStringDeclaredReplacingCaptureText.{CaptureText}
use Rattle.mw_text.specs.LuaStringReplacements.{text_of, replaced_of, HasLength}
use Rattle.lua_iterators.specs.LuaMeaningScope.{Bytes}
use Rattle.lua_replacing.specs.LuaMeaningIterators.{Stand}
use Rattle.lua_replacing.specs.LuaMeaningGsub.{capture_text, filled_in, filled_at}
use Rattle.lua_replacing.proofs.LuaMeaningGsubLaws.{filled-same}
use Rattle.lua_iterators.specs.LuaBasicDeclaredStopStop.{Stop}
use Rattle.lua_iterators.specs.LuaBasicDeclaredStopStopTheVariants as stop
use Rattle.lua_iterators.specs.MwFramesCosts.{Took, Lacked, Unpaid}
use Rattle.lua_replacing.specs.declared.far.Far.{Far}
use Rattle.lua_replacing.specs.Seen.{stand_seen}
use Rattle.lua_gsubs.specs.declared.filling.Halt.{Halt}
use Rattle.lua_gsubs.specs.declared.filling.Halt.TheVariants as halt
use Rattle.lua_gsubs.specs.Parts.{IsText, IsFilled, IsReplaced}

-- a length that fits is itself
fits : (n size : ℕ) → size ≡ saturated n → n < 2 ^ 64 → size ≡ n
fits n size is lt = omega (arith, is, lt)

-- one that was not covered was not covered in full
full : (n size : ℕ) → size ≡ saturated n → size ≤ n
full n size is = omega (arith, is)

pub filled_put : (r : Result Bytes ℕ) (between text made : Bytes) (l m : Left) (size : ℕ) → HasLength r size → Took (length between + size) l m → IsText r between text made
    → IsFilled r between text l made m (Ok tt)
filled_put (Ok piece) between text made l m size is took put =
    let e : length between + size ≡ length (between ++ piece) = ap (λ (n : ℕ). length between + n) (fits (length piece) size is put.1) ∙ sym (length-append between piece) in
    (subst (λ n. Took n l m) e took, put.0)
filled_put (Err n) between text made l m size is took put = absurd is

pub filled_spent : (r : Result Bytes ℕ) (between text made : Bytes) (l m : Left) (size : ℕ) (e : Stop) → HasLength r size → Unpaid (length between + size) l m e → IsFilled r between text l made m (Err halt.Spent)
filled_spent (Ok piece) between text made l m size stop.Spent is u =
    let le = full (length piece) size is in
    let both : length (between ++ piece) ≡ length between + length piece = length-append between piece in
    (omega (arith, u.0, le, both), u.1)
filled_spent (Ok piece) between text made l m size (stop.Raised v level) is u = absurd u
filled_spent (Ok piece) between text made l m size stop.NoMemory is u = absurd u
filled_spent (Err n) between text made l m size e is u = absurd is

pub filled_none : (r : Result Bytes ℕ) (between text made : Bytes) (l : Left) → r ≡ Err 7 → IsFilled r between text l made l (Err halt.NoCapture)
filled_none r between text made l is = subst (λ x. IsFilled x between text l made l (Err halt.NoCapture)) (sym is) (refl, refl)

wanting : (r : Result Bytes ℕ) (between text made : Bytes) (l m : Left) → IsFilled r between text l made m (Err halt.NoMemory)
wanting (Ok piece) between text made l m = tt
wanting (Err n) between text made l m = tt

pub filled_no_memory : (r : Result Bytes ℕ) (between text made : Bytes) (l m : Left) (x : Result (Unit {0}) Halt) → x ≡ Err halt.NoMemory → IsFilled r between text l made m x
filled_no_memory r between text made l m x is = subst (IsFilled r between text l made m) (sym is) (wanting r between text made l m)

-- WHAT IT STANDS FOR in the meaning
pub filled_at_is : (a : Letters) (s : Bytes) (k : Stand) (r : Bytes) (m : Match) (cs : List CaptureText) → map text_of cs ≡ map (capture_text a s k) m.captures
    → replaced_of (span s m.start m.end) cs r ≡ filled_at a s k r m
filled_at_is a s k r m cs is = sym (filled-same (span s m.start m.end) cs r) ∙ ap (λ texts. filled_in (span s m.start m.end) texts r) is

-- A MATCH that is replaced
pub match_replaced : (q r : Result Bytes ℕ) (between : Bytes) (end : ℕ) (next : Option Stand) (f g : Far) (l m : Left) → q ≡ r → IsFilled q between f.text.items l g.text.items m (Ok tt) → g.copied ≡ end → g.count ≡ suc f.count
    → option_map stand_seen g.next ≡ next → IsReplaced r between end next f l g m (Ok tt)
match_replaced q r between end next f g l m is filled copied count stand =
    go r (subst (λ x. IsFilled x between f.text.items l g.text.items m (Ok tt)) is filled)
  where
    go : (r : Result Bytes ℕ) → IsFilled r between f.text.items l g.text.items m (Ok tt) → IsReplaced r between end next f l g m (Ok tt)
    go (Ok piece) p = (p.0, p.1, copied, count, stand)
    go (Err n) p = absurd p

pub match_halted : (q r : Result Bytes ℕ) (between made : Bytes) (end : ℕ) (next : Option Stand) (f g : Far) (l m : Left) (h : Halt) → q ≡ r → IsFilled q between f.text.items l made m (Err h)
    → IsReplaced r between end next f l g m (Err h)
match_halted q r between made end next f g l m h is filled =
    go r h (subst (λ x. IsFilled x between f.text.items l made m (Err h)) is filled)
  where
    go : (r : Result Bytes ℕ) (h : Halt) → IsFilled r between f.text.items l made m (Err h) → IsReplaced r between end next f l g m (Err h)
    go (Ok piece) halt.Spent p = p
    go (Ok piece) halt.NoCapture p = absurd p
    go (Ok piece) halt.NoMemory p = tt
    go (Err n) halt.Spent p = absurd p
    go (Err n) halt.NoCapture p = p
    go (Err n) halt.NoMemory p = tt

match_wanting : (r : Result Bytes ℕ) (between : Bytes) (end : ℕ) (next : Option Stand) (f g : Far) (l m : Left) → IsReplaced r between end next f l g m (Err halt.NoMemory)
match_wanting (Ok piece) between end next f g l m = tt
match_wanting (Err n) between end next f g l m = tt

pub match_no_memory : (r : Result Bytes ℕ) (between : Bytes) (end : ℕ) (next : Option Stand) (f g : Far) (l m : Left) (x : Result (Unit {0}) Halt) → x ≡ Err halt.NoMemory → IsReplaced r between end next f l g m x
match_no_memory r between end next f g l m x is = subst (IsReplaced r between end next f l g m) (sym is) (match_wanting r between end next f g l m)

-- one capture more
pub one_text : (old new : List CaptureText) (c : CaptureText) (text : Bytes) (rest whole : List Bytes) → new ≡ old ++ c ∷ [] → text_of c ≡ text → map text_of old ++ (text ∷ rest) ≡ whole → map text_of new ++ rest ≡ whole
one_text old new c text rest whole is same e =
    ap (λ cs. map text_of cs ++ rest) is ∙ ap (λ ts. ts ++ rest) (map-append text_of old (c ∷ []) ∙ ap (λ t. map text_of old ++ t ∷ []) same) ∙ append_assoc (map text_of old) (text ∷ []) rest ∙ e
