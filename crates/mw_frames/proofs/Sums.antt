-- Sums that are taken part by part.
use Rattle.std.proofs.Common.{◌≡◌, ◌∙◌, ap, sym, arith, ℕ, suc, ◌+◌, ◌-◌, ◌<◌, ◌≤◌, List, ◌∷◌, length, drop, get_or, drop-cons}
use Rattle.mw_frame.specs.WkBaseDeclaredLeftLeft.{Left}
use Rattle.lua_basic.specs.declared.stop.Stop.{Stop}
use Rattle.lua_basic.specs.declared.stop.Stop.TheVariants as stop
use Rattle.lua_basic.specs.Seen.{less_steps}
use Rattle.mw_frame.specs.declared.scene.Arg.{Arg}
use Rattle.mw_frames.specs.declared.reading.ArgText.{ArgText}
use Rattle.mw_frames.specs.Reading.{arg_seen, args_seen}
use Rattle.mw_frames.specs.Costs.{Took, Lacked, Unpaid, SoFar}

-- NOTHING is taken
pub took_none : (l : Left) → Took 0 l l
took_none l = let e : l.steps ≡ l.steps - 0 = omega arith in (omega arith, ap (λ k. let m : Left = record l { steps = k } in m) e)

-- ONE PART after another
steps_of : (n : ℕ) (l m : Left) → Took n l m → m.steps ≡ l.steps - n
steps_of n l m t = ap (λ (x : Left). x.steps) t.1

again : (l m : Left) (a : ℕ) (n : Left) (b : ℕ) → m ≡ less_steps l a → n ≡ less_steps m b → n ≡ less_steps l (a + b)
again l m a n b e f =
    let k : l.steps - a - b ≡ l.steps - (a + b) = omega arith in
    f ∙ ap (λ (x : Left). less_steps x b) e ∙ ap (λ i. let x : Left = record l { steps = i } in x) k

pub took_then : (a b : ℕ) (l m n : Left) → Took a l m → Took b m n → Took (a + b) l n
took_then a b l m n t u =
    let s = steps_of a l m t in
    (omega (arith, t.0, u.0, s), again l m a n b t.1 u.1)

pub lacked_then : (a b : ℕ) (l m n : Left) → Took a l m → Lacked b m n → Lacked (a + b) l n
lacked_then a b l m n t u =
    let s = steps_of a l m t in
    (omega (arith, t.0, u.0, s), u.1 ∙ ap (λ (x : Left). let y : Left = record x { steps = 0 } in y) t.1)

pub unpaid_then : (a b : ℕ) (l m n : Left) (e : Stop) → Took a l m → Unpaid b m n e → Unpaid (a + b) l n e
unpaid_then a b l m n stop.Spent t u = lacked_then a b l m n t u
unpaid_then a b l m n (stop.Raised v k) t u = absurd u
unpaid_then a b l m n stop.NoMemory t u = absurd u

-- one part more
pub took-more : (l m k : Left) (a rest all step : ℕ) → SoFar l m a all → a ≡ step + rest → Took step m k → SoFar l k rest all
took-more l m k a rest all step (n, t, e) s u = (n + step, took_then n step l m k t u, omega (arith, e, s))

bytes-step : (xs : List ArgText) (i : ℕ) (x : ArgText) → i < length xs → x ≡ get_or xs i x → drop i xs ≡ x ∷ drop (i + 1) xs
bytes-step xs i x h e =
    let next : suc i ≡ i + 1 = omega arith in
    drop-cons xs i x h ∙ ap (λ y. y ∷ drop (suc i) xs) (sym e) ∙ ap (λ n. x ∷ drop n xs) next

pub one-more : (f : List Arg → ℕ) (xs : List ArgText) (i : ℕ) (x : ArgText) → i < length xs → x ≡ get_or xs i x → f (args_seen (drop i xs)) ≡ f (arg_seen x ∷ args_seen (drop (i + 1) xs))
one-more f xs i x h e = ap (λ l. f (args_seen l)) (bytes-step xs i x h e)
