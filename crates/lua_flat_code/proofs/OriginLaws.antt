-- Where a new function captures from, and constants: what is put behind a list stays in every list that goes on from it.
use Rattle.std.proofs.Common.{◌≡◌, ◌∙◌, ◌≤◌, ◌<◌, ◌-◌, ℕ, ◌+◌, ◌^◌, Bool, false, List, [], ◌∷◌, ◌++◌, map, length, take, drop, slice_get, Some, refl, sym, ap, subst, arith}
use Rattle.std.specs.Prelude.{nat_lt}
use Rattle.std.proofs.lemmas.Bool.{le-ltb}
use Rattle.lua_heap.proofs.Places.{get-seam, get-left}
use Rattle.lua_flat.specs.LuaSlotsCode.{Place}
use Rattle.lua_flat.specs.Locals as locals
use Rattle.lua_flat.specs.Operations as flat
use Rattle.lua_flat.specs.IsExpression.{IsOrigins, no_origin, from_register, from_captured, from_nothing}
use Rattle.lua_flat_code.specs.declared.operand.Constant.{Constant}
use Rattle.lua_flat_code.specs.declared.operand.Operand.{Operand}
use Rattle.lua_flat_code.specs.declared.operand.Origin.{Origin}
use Rattle.lua_flat_code.specs.declared.operand.Origin.TheVariants as origin
use Rattle.lua_flat_code.specs.Seen.{constant_seen, or_nil, origin_seen}
use Rattle.lua_flat_code.specs.Making.{State, Captured, OriginsSoFar}
use Rattle.lua_flat_code.specs.Parts.{ConstantSaid, CellsSaid, OriginsSaid}
use Rattle.lua_flat_code.proofs.Handed.{nil_behind, joined_lists, length_joined}
use Rattle.lua_code.specs.declared.place.Place.TheVariants as place
use Rattle.lua_code.specs.declared.place.Place.{Place as PlaceHeld}
use Rattle.lua_code.specs.Seen.{place_seen}

pub captured_cell : (s t : State) (p : PlaceHeld) (i r : ℕ) → p ≡ place.Cell i → slice_get s.locals i ≡ Some (locals.CellL r) → t ≡ record s { origins = s.origins ++ origin.Register r ∷ [] } → Captured (place_seen p) s t
captured_cell s t p i r which is same = subst (λ q. Captured (place_seen q) s t) (sym which) (record { more = origin.Register r ∷ []; same = same; origins = λ places os h. from_register is h })

pub captured_on : (s t : State) (p : PlaceHeld) (i n : ℕ) → p ≡ place.Captured i → n ≡ i → t ≡ record s { origins = s.origins ++ origin.Captured n ∷ [] } → Captured (place_seen p) s t
captured_on s t p i n which is same =
    subst (λ q. Captured (place_seen q) s t) (sym which) (record { more = origin.Captured i ∷ []; same = subst (λ k. t ≡ record s { origins = s.origins ++ origin.Captured k ∷ [] }) is same; origins = λ places os h. from_captured h })

pub captured_nothing : (s : State) (p : PlaceHeld) (i : ℕ) → p ≡ place.Register i → Captured (place_seen p) s s
captured_nothing s p i which = subst (λ q. Captured (place_seen q) s s) (sym which) (record { more = []; same = none; origins = λ places os h. from_nothing h })
  where
    none : s ≡ record s { origins = s.origins ++ [] }
    none = ap (λ os. record s { origins = os }) (sym (nil_behind s.origins))

pub origins_start : (places : List Place) (s : State) → OriginsSoFar places places s s
origins_start places s = record { more = []; same = ap (λ os. record s { origins = os }) (sym (nil_behind s.origins)); origins = λ os h. h }

map_joined : (xs ys : List Origin) → map origin_seen (xs ++ ys) ≡ map origin_seen xs ++ map origin_seen ys
map_joined [] ys = refl
map_joined (x ∷ xs) ys = ap (λ l. origin_seen x ∷ l) (map_joined xs ys)

pub origins_step : (places left : List Place) (p : Place) (rest : List Place) (s t u : State) → OriginsSoFar places left s t → left ≡ p ∷ rest → Captured p t u → OriginsSoFar places rest s u
origins_step places left p rest s t u so is h =
    let front : OriginsSoFar places (p ∷ rest) s t = subst (λ l. OriginsSoFar places l s t) is so in
    let now : State = record s { origins = s.origins ++ front.more } in
    let k : Captured p now u = subst (λ x. Captured p x u) front.same h in
    record {
      more = front.more ++ k.more;
      same = k.same ∙ ap (λ os. record s { origins = os }) (joined_lists s.origins front.more k.more);
      origins = λ os o.
          let both : map origin_seen (front.more ++ k.more) ++ os ≡ map origin_seen front.more ++ (map origin_seen k.more ++ os) =
          ap (λ xs. xs ++ os) (map_joined front.more k.more) ∙ joined_lists (map origin_seen front.more) (map origin_seen k.more) os in
          subst (IsOrigins s.locals places) (sym both) (front.origins (map origin_seen k.more ++ os) (k.origins rest os o));
    }

-- a part of a list, behind what was there and in front of what comes
front_of : {A : Type 0} (ys rest : List A) → take (length ys) (ys ++ rest) ≡ ys
front_of [] rest = refl
front_of (y ∷ ys) rest = ap (λ l. y ∷ l) (front_of ys rest)

part_of : {A : Type 0} (xs more rest : List A) → take (length more) (drop (length xs) ((xs ++ more) ++ rest)) ≡ more
part_of [] more rest = front_of more rest
part_of (x ∷ xs) more rest = part_of xs more rest

length_more : {A : Type 0} (xs more : List A) → length (xs ++ more) - length xs ≡ length more
length_more xs more = let whole : length (xs ++ more) ≡ length xs + length more = length_joined xs more in omega (arith, whole)

pub origins_said : (places left : List Place) (s t : State) (first end : ℕ) → OriginsSoFar places left s t → left ≡ [] → first ≡ length s.origins → end ≡ length t.origins → OriginsSaid places s t first (end - first)
origins_said places left s t first end so is first_is end_is =
    let all : OriginsSoFar places [] s t = subst (λ l. OriginsSoFar places l s t) is so in
    let count : end - first ≡ length all.more = ap (λ n. n - first) (end_is ∙ ap (λ (x : State). length x.origins) all.same) ∙ ap (λ n. length (s.origins ++ all.more) - n) first_is ∙ length_more s.origins all.more in
    subst (λ x. OriginsSaid places s x first (end - first)) (sym all.same) (record {
      next = λ f l. record { texts = l.texts; constants = l.constants; cells = l.cells; origins = (all.more ++ l.origins.0, l.origins.1 ∙ joined_lists s.origins all.more l.origins.0); steps = l.steps; registers = l.registers };
      same = refl;
      code = λ f l.
          let part : take (end - first) (drop first f.tables.origins) ≡ all.more =
          ap (λ n. take n (drop first f.tables.origins)) count ∙ ap (λ n. take (length all.more) (drop n f.tables.origins)) first_is ∙ ap (λ xs. take (length all.more) (drop (length s.origins) xs)) l.origins.1 ∙ part_of s.origins all.more l.origins.0 in
          subst (IsOrigins s.locals places) (nil_behind (map origin_seen all.more) ∙ sym (ap (map origin_seen) part)) (all.origins [] no_origin);
    })

-- WHICH VARIABLES HAVE CELLS
pub cells_said : (flags : List Bool) (s : State) (first count : ℕ) → first ≡ length s.cells → count ≡ length flags → CellsSaid flags s (record s { cells = s.cells ++ flags }) first count
cells_said flags s first count first_is count_is = record {
  next = λ f l. record { texts = l.texts; constants = l.constants; cells = (flags ++ l.cells.0, l.cells.1 ∙ joined_lists s.cells flags l.cells.0); origins = l.origins; steps = l.steps; registers = l.registers };
  same = refl;
  code = λ f l. ap (λ n. take n (drop first f.tables.cells)) count_is ∙ ap (λ n. take (length flags) (drop n f.tables.cells)) first_is ∙ ap (λ xs. take (length flags) (drop (length s.cells) xs)) l.cells.1 ∙ part_of s.cells flags l.cells.0;
}

-- CONSTANTS
pub constant_said : (c : Constant) (o : Operand) (number : ℕ) (s : State) → number ≡ length s.constants → o.code ≡ 2 ^ 31 + (s.texts + number) → ConstantSaid (constant_seen c) o s (record s { constants = s.constants ++ c ∷ [] })
constant_said c o number s number_is is = record {
  next = λ f l. record { texts = l.texts; constants = (c ∷ l.constants.0, l.constants.1 ∙ joined_lists s.constants (c ∷ []) l.constants.0); cells = l.cells; origins = l.origins; steps = l.steps; registers = l.registers };
  same = refl;
  code = λ f l.
      let texts : f.tables.texts ≡ s.texts = l.texts in
      let high : nat_lt o.code (2 ^ 31) ≡ false = le-ltb o.code (2 ^ 31) (omega (arith, is)) in
      let behind : o.code - 2 ^ 31 ≡ s.texts + number = omega (arith, is) in
      let past : nat_lt (s.texts + number) f.tables.texts ≡ false = le-ltb (s.texts + number) f.tables.texts (omega (arith, texts)) in
      let left : s.texts + number - f.tables.texts ≡ number = omega (arith, texts) in
      let there : slice_get f.tables.constants number ≡ Some c = ap (λ xs. slice_get xs number) l.constants.1 ∙ get-left (s.constants ++ c ∷ []) l.constants.0 number c (ap (slice_get (s.constants ++ c ∷ [])) number_is ∙ get-seam s.constants c) in
      rw high (rw behind (rw past (rw left (ap (λ x. flat.ConstantO (or_nil x)) there))));
}
