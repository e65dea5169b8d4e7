-- Matches that are replaced one after another: what is put together, and what is to come, give the whole.
use Rattle.std.proofs.Common.{◌≡◌, ◌∙◌, ap, sym, subst, refl, arith, ℕ, zero, suc, ◌+◌, ◌-◌, ◌<◌, ◌≤◌, Bool, List, [], ◌++◌, append_assoc, append-nil, length, drop, Option, Some, None, Ok, Err}
use Rattle.std.specs.Prelude.{Result}
use Rattle.std.specs.Option.{option_map}
use Rattle.lua_number.specs.WkBaseDeclaredLeftLeft.{Left}
use Rattle.lua_pattern.specs.declared.item.Item.{Item}
use Rattle.lua_pattern.specs.declared.slots.Slot.{Slot}
use Rattle.lua_pattern.specs.declared.pattern.Match.{Match}
use Rattle.lua_pattern.specs.Letters.{Letters}
use Rattle.lua_replacing.specs.LuaStringWalk.{Walk, Stops, Meets, span}
use Rattle.lua_iterators.specs.LuaMeaningScope.{Bytes}
use Rattle.lua_replacing.specs.LuaMeaningIterators.{Stand}
use Rattle.lua_replacing.specs.LuaMeaningGsub.{Replaced, Made, Faulty, rest_of, behind_piece, on_filled, on_walk, filled_at, next_stand, replaced_from, at_head}
use Rattle.lua_iterators.specs.LuaBasicDeclaredStopStop.{Stop}
use Rattle.lua_iterators.specs.LuaBasicDeclaredStopStopTheVariants as stop
use Rattle.lua_iterators.specs.MwFramesCosts.{Took, Lacked}
use Rattle.lua_iterators.proofs.MwFramesSums.{took_none, took_then, lacked_then}
use Rattle.lua_replacing.specs.declared.far.Far.{Far}
use Rattle.lua_replacing.specs.Seen.{stand_seen}
use Rattle.lua_gsubs.specs.declared.filling.Halt.{Halt}
use Rattle.lua_gsubs.specs.declared.filling.Halt.TheVariants as halt
use Rattle.lua_gsubs.specs.declared.meeting.Met.TheVariants as met
use Rattle.lua_gsubs.specs.Met.{IsMet, tries_in}
use Rattle.lua_gsubs.specs.Parts.{charge_of, after, IsPart, Halts, IsReplaced, GoesOn, halt_in, IsRest, IsTail, IsPaidText}

abbrev made : ℕ → Bytes → ℕ → Replaced
made n text count = Made n text count

-- SUMS
after_none : (x : Replaced) → after 0 [] 0 x ≡ x
after_none (Made n text count) = let e : 0 + n ≡ n = omega arith in let f : 0 + count ≡ count = omega arith in ap (λ i. Made i text (0 + count)) e ∙ ap (λ i. Made n text i) f
after_none (Faulty n fault) = let e : 0 + n ≡ n = omega arith in ap (λ i. Faulty i fault) e

after_piece : (m n : ℕ) (text piece : Bytes) (count : ℕ) (x : Replaced) → after m text count (behind_piece n piece x) ≡ after (m + (n + length piece)) (text ++ piece) (suc count) x
after_piece m n text piece count (Made k more others) =
    let e : m + (n + length piece + k) ≡ m + (n + length piece) + k = omega arith in
    let f : count + suc others ≡ suc count + others = omega arith in
    ap (λ i. Made i (text ++ (piece ++ more)) (count + suc others)) e ∙ ap (λ t. Made (m + (n + length piece) + k) t (count + suc others)) (sym (append_assoc text piece more)) ∙ ap (λ i. Made (m + (n + length piece) + k) ((text ++ piece) ++ more) i) f
after_piece m n text piece count (Faulty k fault) = let e : m + (n + length piece + k) ≡ m + (n + length piece) + k = omega arith in ap (λ i. Faulty i fault) e

after_charge : (n : ℕ) (text : Bytes) (count : ℕ) (x : Replaced) → charge_of (after n text count x) ≡ n + charge_of x
after_charge n text count (Made m more others) = refl
after_charge n text count (Faulty m fault) = refl

behind_charge : (n : ℕ) (piece : Bytes) (x : Replaced) → charge_of (behind_piece n piece x) ≡ n + length piece + charge_of x
behind_charge n piece (Made m more others) = refl
behind_charge n piece (Faulty m fault) = refl

lacked_more : (n c : ℕ) (l m : Left) → Lacked n l m → n ≤ c → Lacked c l m
lacked_more n c l m p le = (omega (arith, p.0, le), p.1)

-- A CHARGE that is not covered within a part
part_lacked : (whole : Replaced) (l m k : Left) (f : Far) (x : Replaced) (n : ℕ) → IsPart whole l m f x → Lacked n m k → n ≤ charge_of x → Lacked (charge_of whole) l k
part_lacked whole l m k f x n (i, took, e) lacked le =
    let c : charge_of whole ≡ i + charge_of x = ap charge_of (sym e) ∙ after_charge i f.text.items f.count x in
    lacked_more (i + n) (charge_of whole) l k (lacked_then i n l m k took lacked) (omega (arith, c, le))

-- ONE MATCH
on_filled_charge : (n : ℕ) (between : Bytes) (r : Result Bytes ℕ) (x : Replaced) → n ≤ charge_of (on_filled n between r x)
on_filled_charge n between (Ok piece) x = let e = behind_charge n (between ++ piece) x in omega (arith, e)
on_filled_charge n between (Err fault) x = omega arith

pub filled_step : (whole : Replaced) (r : Result Bytes ℕ) (between : Bytes) (end : ℕ) (next : Option Stand) (more : ℕ → Option Stand → Replaced) (l m k q : Left) (f g : Far) (n : ℕ) (result : Result (Unit {0}) Halt)
    → IsPart whole l m f (on_filled n between r (more end next)) → Took n m k → IsReplaced r between end next f k g q result → GoesOn whole l q g (more g.copied (option_map stand_seen g.next)) result
filled_step whole (Ok piece) between end next more l m k q f g n (Ok u) (i, took, e) tries (paid, text, copied, count, stand) =
    let p = between ++ piece in
    let x = more end next in
    let y = more g.copied (option_map stand_seen g.next) in
    let same : y ≡ x = ap (λ c. more c (option_map stand_seen g.next)) copied ∙ ap (more end) stand in (
      i + (n + length p),
      took_then i (n + length p) l m q took (took_then n (length p) m k q tries paid),
      ap (λ z. after (i + (n + length p)) g.text.items g.count z) same ∙ ap (λ t. after (i + (n + length p)) t g.count x) text ∙ ap (λ c. after (i + (n + length p)) (f.text.items ++ p) c x) count
          ∙ sym (after_piece i n f.text.items p f.count x) ∙ e,
    )
filled_step whole (Ok piece) between end next more l m k q f g n (Err halt.Spent) part tries lacked =
    let p = between ++ piece in
    let c = behind_charge n p (more end next) in
    part_lacked whole l m q f (behind_piece n p (more end next)) (n + length p) part (lacked_then n (length p) m k q tries lacked) (omega (arith, c))
filled_step whole (Ok piece) between end next more l m k q f g n (Err halt.NoCapture) part tries p = absurd p
filled_step whole (Ok piece) between end next more l m k q f g n (Err halt.NoMemory) part tries p = tt
filled_step whole (Err fault) between end next more l m k q f g n (Ok u) part tries p = absurd p
filled_step whole (Err fault) between end next more l m k q f g n (Err halt.Spent) part tries p = absurd p
filled_step whole (Err fault) between end next more l m k q f g n (Err halt.NoCapture) (i, took, e) tries (seven, same) =
    (i + n, subst (λ z. Took (i + n) l z) (sym same) (took_then i n l m k took tries), sym e ∙ ap (λ z. Faulty (i + n) z) seven)
filled_step whole (Err fault) between end next more l m k q f g n (Err halt.NoMemory) part tries p = tt

module _ (a : Letters) (anchored : Bool) (items : List Item) (slots : List Slot) (s r : Bytes) where
  abbrev from : ℕ → ℕ → Option Stand → Replaced
  from limit copied k = replaced_from a anchored items slots s r limit copied k

  pub none_left : (limit copied : ℕ) → from limit copied None ≡ rest_of s copied
  none_left zero copied = refl
  none_left (suc limit) copied = refl

  -- a match is met, and replaced
  pub step_meets : (whole : Replaced) (k : Stand) (limit : ℕ) (w : Walk) (found : Match) (next : Option ℕ) (l m n q : Left) (f g : Far) (result : Result (Unit {0}) Halt)
      → IsPart whole l m f (on_walk a s slots r k f.copied (from limit) w) → IsMet slots w m n (Ok (met.Found found next))
      → IsReplaced (filled_at a s k r found) (span s f.copied found.start) found.end (next_stand a s k next) f n g q result
      → GoesOn whole l q g (from limit g.copied (option_map stand_seen g.next)) result
  step_meets whole k limit (Stops tries) found next l m n q f g result part is replaced = absurd is
  step_meets whole k limit (Meets tries step place) found next l m n q f g result part (took, same, ahead) replaced =
      let p : IsPart whole l m f (on_filled tries (span s f.copied found.start) (filled_at a s k r found) (from limit found.end (next_stand a s k place))) =
      subst (λ (x : Match). IsPart whole l m f (on_filled tries (span s f.copied x.start) (filled_at a s k r x) (from limit x.end (next_stand a s k place)))) same part in
      let p' = subst (λ x. IsPart whole l m f (on_filled tries (span s f.copied found.start) (filled_at a s k r found) (from limit found.end (next_stand a s k x)))) ahead p in
      filled_step whole (filled_at a s k r found) (span s f.copied found.start) found.end (next_stand a s k next) (from limit) l m n q f g tries result p' took replaced

  -- there is none any more
  stopped : (n tries count : ℕ) (text tail : Bytes) → made (n + (tries + length tail)) (text ++ tail) (count + 0) ≡ made (n + tries + length tail) (text ++ tail) (count + 0)
  stopped n tries count text tail = let e : n + (tries + length tail) ≡ n + tries + length tail = omega arith in ap (λ i. made i (text ++ tail) (count + 0)) e

  pub step_stops : (whole : Replaced) (k : Stand) (limit : ℕ) (w : Walk) (l m n : Left) (f g : Far) → IsPart whole l m f (on_walk a s slots r k f.copied (from limit) w) → IsMet slots w m n (Ok met.Nothing)
      → g.text ≡ f.text → g.copied ≡ f.copied → g.count ≡ f.count → option_map stand_seen g.next ≡ None → IsPart whole l n g (from limit g.copied (option_map stand_seen g.next))
  step_stops whole k limit (Stops tries) l m n f g (i, took, e) is text copied count none =
      let y = from limit g.copied (option_map stand_seen g.next) in
      let same : y ≡ rest_of s f.copied = ap (from limit g.copied) none ∙ none_left limit g.copied ∙ ap (rest_of s) copied in (
        i + tries,
        took_then i tries l m n took is,
        ap (λ z. after (i + tries) g.text.items g.count z) same ∙ ap (λ t. after (i + tries) t.items g.count (rest_of s f.copied)) text ∙ ap (λ c. after (i + tries) f.text.items c (rest_of s f.copied)) count
            ∙ sym (stopped i tries f.count f.text.items (drop f.copied s)) ∙ e,
      )
  step_stops whole k limit (Meets tries step place) l m n f g part is text copied count none = absurd is

  -- the search was not covered
  walk_charge : (k : Stand) (copied limit : ℕ) (w : Walk) → tries_in w ≤ charge_of (on_walk a s slots r k copied (from limit) w)
  walk_charge k copied limit (Stops tries) = omega arith
  walk_charge k copied limit (Meets tries step place) = on_filled_charge tries _ _ _

  pub step_halts : (whole : Replaced) (k : Stand) (limit : ℕ) (w : Walk) (l m n : Left) (f : Far) (e : Stop) → IsPart whole l m f (on_walk a s slots r k f.copied (from limit) w) → IsMet slots w m n (Err e)
      → Halts whole l n (halt_in e)
  step_halts whole k limit (Stops tries) l m n f stop.Spent part is = part_lacked whole l m n f (on_walk a s slots r k f.copied (from limit) (Stops tries)) tries part is (walk_charge k f.copied limit (Stops tries))
  step_halts whole k limit (Meets tries step place) l m n f stop.Spent part is = part_lacked whole l m n f (on_walk a s slots r k f.copied (from limit) (Meets tries step place)) tries part is (walk_charge k f.copied limit (Meets tries step place))
  step_halts whole k limit (Stops tries) l m n f (stop.Raised v level) part is = tt
  step_halts whole k limit (Meets tries step place) l m n f (stop.Raised v level) part is = tt
  step_halts whole k limit (Stops tries) l m n f stop.NoMemory part is = tt
  step_halts whole k limit (Meets tries step place) l m n f stop.NoMemory part is = tt

  -- THE LOOP: at its start, at a step, and at its end
  pub part_begins : (limit : ℕ) (l : Left) (f : Far) → f.text.items ≡ [] → f.copied ≡ 0 → f.count ≡ 0 → option_map stand_seen f.next ≡ Some at_head
      → IsPart (from limit 0 (Some at_head)) l l f (from (limit - 0) f.copied (option_map stand_seen f.next))
  part_begins limit l f text copied count next =
      let all = from limit 0 (Some at_head) in
      let none : limit - 0 ≡ limit = omega arith in
      let y = from (limit - 0) f.copied (option_map stand_seen f.next) in
      let same : y ≡ all = ap (λ n. from n f.copied (option_map stand_seen f.next)) none ∙ ap (λ c. from limit c (option_map stand_seen f.next)) copied ∙ ap (from limit 0) next in
      (0, took_none l, ap (λ z. after 0 f.text.items f.count z) same ∙ ap (λ t. after 0 t f.count all) text ∙ ap (λ c. after 0 [] c all) count ∙ after_none all)

  pub part_steps : (whole : Replaced) (l m : Left) (f : Far) (limit turn : ℕ) (k : Option Stand) → turn < limit → IsPart whole l m f (from (limit - turn) f.copied k) → IsPart whole l m f (from (suc (limit - (turn + 1))) f.copied k)
  part_steps whole l m f limit turn k lt p = let e : limit - turn ≡ suc (limit - (turn + 1)) = omega (arith, lt) in subst (λ n. IsPart whole l m f (from n f.copied k)) e p

  pub part_ends : (whole : Replaced) (l m : Left) (f : Far) (limit turn : ℕ) → limit - turn ≡ 0 → IsPart whole l m f (from (limit - turn) f.copied (option_map stand_seen f.next)) → IsPart whole l m f (rest_of s f.copied)
  part_ends whole l m f limit turn e p = subst (λ n. IsPart whole l m f (from n f.copied (option_map stand_seen f.next))) e p

  pub part_stops : (whole : Replaced) (l m : Left) (f : Far) (limit : ℕ) → option_map stand_seen f.next ≡ None → IsPart whole l m f (from limit f.copied (option_map stand_seen f.next)) → IsPart whole l m f (rest_of s f.copied)
  part_stops whole l m f limit none p = subst (IsPart whole l m f) (ap (from limit f.copied) none ∙ none_left limit f.copied) p

-- THE REST of the subject behind it
tail_made : (whole : Replaced) (s : Bytes) (l m k : Left) (f g : Far) → IsPart whole l m f (rest_of s f.copied) → IsTail (drop f.copied s) f.text.items m g.text.items k (Ok tt) → g.count ≡ f.count
    → IsPaidText whole l k (Ok g)
tail_made whole s l m k f g (i, took, e) (paid, text) count =
    let tail = drop f.copied s in
    let none : f.count + 0 ≡ f.count = omega arith in
    (i + length tail, took_then i (length tail) l m k took paid, sym e ∙ ap (λ c. made (i + length tail) (f.text.items ++ tail) c) (none ∙ sym count) ∙ ap (λ t. made (i + length tail) t g.count) (sym text))

pub whole_made : (whole : Replaced) (s tail : Bytes) (l m k : Left) (f g : Far) → tail ≡ drop f.copied s → IsPart whole l m f (rest_of s f.copied) → IsTail tail f.text.items m g.text.items k (Ok tt) → g.count ≡ f.count
    → IsPaidText whole l k (Ok g)
whole_made whole s tail l m k f g is part paid count = tail_made whole s l m k f g part (subst (λ x. IsTail x f.text.items m g.text.items k (Ok tt)) is paid) count

tail_halted : (whole : Replaced) (s made : Bytes) (l m k : Left) (f : Far) (h : Halt) → IsPart whole l m f (rest_of s f.copied) → IsTail (drop f.copied s) f.text.items m made k (Err h) → Halts whole l k h
tail_halted whole s made l m k f halt.Spent part lacked = part_lacked whole l m k f (rest_of s f.copied) (length (drop f.copied s)) part lacked (omega arith)
tail_halted whole s made l m k f halt.NoCapture part p = absurd p
tail_halted whole s made l m k f halt.NoMemory part p = tt

pub whole_halted : (whole : Replaced) (s tail made : Bytes) (l m k : Left) (f : Far) (h : Halt) → tail ≡ drop f.copied s → IsPart whole l m f (rest_of s f.copied) → IsTail tail f.text.items m made k (Err h) → Halts whole l k h
whole_halted whole s tail made l m k f h is part paid = tail_halted whole s made l m k f h part (subst (λ x. IsTail x f.text.items m made k (Err h)) is paid)
