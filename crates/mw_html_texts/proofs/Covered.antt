-- A rendering that is told of a sheet, and what is given of it.
use Rattle.std.proofs.Common.{◌≡◌, ◌∙◌, ap, sym, subst, refl, arith, Vec, ℕ, ◌+◌, ◌-◌, ◌<◌, ◌≤◌, List, [], ◌∷◌, length, Ok, Err}
use Rattle.std.specs.Prelude.{Result}
use Rattle.std.specs.declared.alloc.Global.{Global}
use Rattle.lua_strings.specs.WkBaseDeclaredLeftLeft.{Left}
use Rattle.mw_html.specs.Render.{Piece, Whole, Deep, given, and_then, count}
use Rattle.mw_html.specs.declared.sheet.Sheet.{Sheet}
use Rattle.mw_html.specs.declared.sheet.End.{End}
use Rattle.mw_html.specs.declared.sheet.End.TheVariants as the_end
use Rattle.mw_html.specs.Sheet.{StandsAt, Stands, Leads}
use Rattle.lua_strings.specs.LuaHeapProc.{Proc}
use Rattle.mw_html.specs.LuaHeapHeap.{Heap}
use Rattle.lua_strings.specs.LuaHeapValue as kind
use Rattle.lua_strings.specs.LuaMeaningArguments.{Plain, Gives, Fails, fails}
use Rattle.lua_strings.specs.LuaMeaningHtml.{gives_piece, nested_too_deeply}
use Rattle.lua_strings.specs.LuaStoreDeclaredValueValue.{Value}
use Rattle.lua_strings.specs.LuaStoreSeen.{StoreView, seen}
use Rattle.lua_strings.specs.LuaBasicDeclaredStopStop.{Stop}
use Rattle.lua_strings.specs.LuaBasicDeclaredStopStopTheVariants as stop
use Rattle.lua_strings.specs.LuaBasicSeen.{values_seen, ends, less_steps, Stops, Paid}
use Rattle.lua_strings.specs.Costs.{Takes}
use Rattle.mw_html_texts.specs.declared.giving.ObjectText.{ObjectText}
use Rattle.mw_html_texts.specs.declared.giving.ObjectText.TheVariants.{Text, TooDeep, Spent}
use Rattle.mw_html_texts.specs.Given.{IsText}

-- nothing, and then a piece
nothing-then : (p : Piece) → and_then (given []) p ≡ p
nothing-then (Whole a n) = ap (Whole a) (omega arith)
nothing-then (Deep a n) = ap (Deep a) (omega arith)

pub stands : (budget : ℕ) (s t : Sheet) (p : Piece) → Stands budget s (given []) → Leads s t p → Stands budget t p
stands budget s t p begun leads = subst (Stands budget t) (nothing-then p) (leads budget (given []) begun)

-- WHAT IS LEFT
abbrev left_with : Left → ℕ → Left
left_with l n = record l { steps = n }

taken : (l : Left) (n k : ℕ) → n + k ≡ l.steps → Takes n l (left_with l k)
taken l n k e = let is : k ≡ l.steps - n = omega (arith, e) in (omega (arith, e), ap (left_with l) is)

pub whole : (l : Left) (t : Sheet) (p : Piece) → Stands l.steps t p → t.end ≡ the_end.Open → IsText l (left_with l t.left) p (Text t.bytes)
whole l t (Whole a n) h e =
    let k = subst (λ (x : End). StandsAt x l.steps t.bytes.items t.left (Whole a n)) e h in
    (taken l (n + length a) t.left k.0, k.1)
whole l t (Deep a n) h e = absurd (subst (λ (x : End). StandsAt x l.steps t.bytes.items t.left (Deep a n)) e h)

pub deep : (l : Left) (t : Sheet) (p : Piece) → Stands l.steps t p → t.end ≡ the_end.Sunk → IsText l (left_with l t.left) p TooDeep
deep l t (Whole a n) h e = absurd (subst (λ (x : End). StandsAt x l.steps t.bytes.items t.left (Whole a n)) e h)
deep l t (Deep a n) h e = taken l (n + length a) t.left (subst (λ (x : End). StandsAt x l.steps t.bytes.items t.left (Deep a n)) e h)

pub spent : (l : Left) (t : Sheet) (p : Piece) → Stands l.steps t p → t.end ≡ the_end.Spent → IsText l (left_with l 0) p Spent
spent l t (Whole a n) h e = (subst (λ (x : End). StandsAt x l.steps t.bytes.items t.left (Whole a n)) e h, refl)
spent l t (Deep a n) h e = (subst (λ (x : End). StandsAt x l.steps t.bytes.items t.left (Deep a n)) e h, refl)

-- WHAT IS GIVEN
abbrev gift : ℕ → Heap Proc → List kind.Value → Plain Proc
gift n h vs = record { charge = n; heap = h; end = Gives vs }

pub text_given : (p : Piece) (s t : StoreView) (l m : Left) (bytes : Vec ℕ Global) (vs : List Value) → IsText l m p (Text bytes) → t.heap ≡ s.heap → values_seen t.texts vs ≡ kind.Text bytes.items ∷ [] → Paid (gives_piece s.heap p) s l t m (Ok vs)
text_given (Whole a n) s t l m bytes vs (took, is) heap seen_ = record {
  covered = took.0;
  answer = ap (λ h. gift (n + length a) h (kind.Text a ∷ [])) (sym heap) ∙ ap (λ x. gift (n + length a) t.heap (kind.Text x ∷ [])) (sym is) ∙ ap (gift (n + length a) t.heap) (sym seen_);
  rest = took.1;
}
text_given (Deep a n) s t l m bytes vs is heap seen_ = absurd is

abbrev fall : ℕ → Plain Proc → Plain Proc
fall n p = record p { charge = n }

pub too_deep_raised : (p : Piece) (s t : StoreView) (l m : Left) (e : Stop) → IsText l m p TooDeep → Stops (fails s.heap nested_too_deeply) t e → Paid (gives_piece s.heap p) s l t m (Err e)
too_deep_raised (Whole a n) s t l m e is stops = absurd is
too_deep_raised (Deep a n) s t l m (stop.Raised v level) took stops =
    let none : n + length a + 0 ≡ n + length a = omega arith in record {
      covered = subst (λ k. k ≤ l.steps) (sym none) took.0;
      answer = ap (fall (n + length a + 0)) stops;
      rest = took.1 ∙ ap (less_steps l) (sym none);
    }
too_deep_raised (Deep a n) s t l m stop.Spent took stops = absurd stops
too_deep_raised (Deep a n) s t l m stop.NoMemory took stops = tt

piece-charge : (p : Piece) (h : Heap Proc) → count p ≤ (gives_piece h p).charge
piece-charge (Whole a n) h = omega arith
piece-charge (Deep a n) h = omega arith

pub not_covered : (p : Piece) (s : StoreView) (l m : Left) → IsText l m p Spent → Paid (gives_piece s.heap p) s l s m (Err stop.Spent)
not_covered (Whole a n) s l m is = let le = piece-charge (Whole a n) s.heap in record { short = omega (arith, is.0, le); same = refl; rest = is.1 }
not_covered (Deep a n) s l m is = let le = piece-charge (Deep a n) s.heap in record { short = omega (arith, is.0, le); same = refl; rest = is.1 }
