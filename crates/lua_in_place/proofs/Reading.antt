-- The moves to the value of an expression that is read in place, by induction on the expression.
use Rattle.std.proofs.Common.{◌≡◌, ℕ, ◌+◌, ◌-◌, ◌∙◌, Bool, true, false, List, [], ◌∷◌, Option, Some, None, refl, sym, ap, arith}
use Rattle.lua_goes.specs.PageRunOutcome.{Goes}
use Rattle.lua_goes.specs.PageRunPerform.{less}
use Rattle.lua_goes.proofs.PageRunLess.{less_of}
use Rattle.lua_goes.specs.LuaHeapValue.{Value, Text, is_true}
use Rattle.lua_goes.specs.LuaSyntaxDeclaredUnaryOp.{UnaryOp}
use Rattle.lua_goes.specs.LuaMeaningOperators.{Operator}
use Rattle.lua_goes.specs.LuaSlotsCode.{CExp, ConstantC, TextC, LocalC, GlobalC, IndexC, AndC, OrC, OperateC, UnaryC, ParenC, CWorld}
use Rattle.lua_goes.specs.LuaSlotsSlots.{Slots, read_place}
use Rattle.lua_goes.specs.LuaSlotsPoints.{SFrame, First, KeyNext, IndexNow, DecideNext, OperandNext, OperateNow, UnaryNow, Point, Gives, Evals, Move, Marks, Now}
use Rattle.lua_goes.specs.LuaSlotsErrors.{node, choose, gives}
use Rattle.lua_goes.specs.LuaSlotsCalls.{constants_of}
use Rattle.lua_goes.specs.LuaSlotsExpressions.{decides, choose_operand}
use Rattle.lua_goes.specs.LuaSlotsMoves.{moves}
use Rattle.lua_goes.specs.LuaSlotsEnact.{Funds, Stands, paid, enact}
use Rattle.lua_goes.specs.Going.{Reaches, here, further}
use Rattle.lua_in_place.specs.InPlace.{in_place, operated, applied, entry, indexed}
use Rattle.lua_in_place.specs.Laws.{ReadInPlace}
use Rattle.lua_in_place.proofs.Plain.{given, operated_is, applied_is, entry_is, indexed_is}
use Rattle.lua_in_place.proofs.Parts.{with_nodes_is, one_read, two_read, Decided, by_first, by_second, and_parts, or_parts}

-- so many steps left, and so many nodes counted
abbrev pub with_count : Funds → ℕ → ℕ → Funds
with_count f steps nodes = record f { left = record f.left { steps = steps }; tally = record f.tally { nodes = nodes } }

pub reach_then : {world : CWorld} {p : Point} {s : Slots} {f : Funds} {q : Point} {t : Slots} {g : Funds} {q' : Point} {t' : Slots} {g' : Funds} → Reaches world p s f q t g → Reaches world q t g q' t' g' → Reaches world p s f q' t' g'
reach_then r here = r
reach_then r (further q t g q' t' g' x e) = further q t g q' t' g' (reach_then r x) e

one_less : (i k : ℕ) → i ≡ 1 + k → less 1 i ≡ Some k
one_less i k h = let l : i - 1 ≡ k = omega (arith, h) in less_of 1 i (omega (arith, h)) ∙ ap (λ (x : ℕ). Some x) l

-- an expression has a value, at so many steps and nodes, whichever frames wait
abbrev pub Reads : CWorld → Slots → CExp → Value → ℕ → Type 0
Reads world s e v n = (fs : List SFrame) (f : Funds) (i k c d : ℕ) → i ≡ n + k → d ≡ c + n → Reaches world (Evals e fs) s (with_count f i c) (Gives (Goes (v ∷ [])) fs) s (with_count f k d)

-- a frame makes one value of another, at no cost
abbrev Makes : CWorld → Slots → SFrame → Value → Value → Type 0
Makes world s frame w v = (fs : List SFrame) (g : Funds) → Reaches world (Gives (Goes (w ∷ [])) (frame ∷ fs)) s g (Gives (Goes (v ∷ [])) fs) s g

module _ (world : CWorld) (s : Slots) where
  -- A MOVE that begins a node, and one that costs nothing
  pub node_move : (p q : Point) (f : Funds) (i k c d : ℕ) → moves world p s ≡ node (Now q s) → i ≡ 1 + k → d ≡ c + 1 → Reaches world p s (with_count f i c) q s (with_count f k d)
  node_move p q f i k c d e h g =
      further p s (with_count f i c) q s (with_count f k d) here
      (ap (λ (m : Move). enact m (with_count f i c)) e ∙ ap (λ (o : Option ℕ). paid o (with_count f i c) (enact (Marks (Now q s)))) (one_less i k h) ∙ ap (λ (x : ℕ). Stands q s (with_count f k x)) (sym g))

  pub free_move : (p q : Point) (f : Funds) → moves world p s ≡ Now q s → Reaches world p s f q s f
  free_move p q f e = further p s f q s f here (ap (λ (m : Move). enact m f) e)

  -- FORMS: no operand, one, and two
  leaf : (e : CExp) (v : Value) (n : ℕ) → ((fs : List SFrame) → moves world (Evals e fs) s ≡ node (gives (v ∷ []) fs s)) → n ≡ 1 → Reads world s e v n
  leaf e v n start one fs f i k c d p q = node_move (Evals e fs) (Gives (Goes (v ∷ [])) fs) f i k c d (start fs) (omega (arith, p, one)) (omega (arith, q, one))

  around_one : (e a : CExp) (w v : Value) (m n : ℕ) (frame : SFrame) → ((fs : List SFrame) → moves world (Evals e fs) s ≡ node (Now (Evals a (frame ∷ fs)) s)) → Reads world s a w m → Makes world s frame w v → n ≡ 1 + m → Reads world s e v n
  around_one e a w v m n frame start reads_a makes all fs f i k c d p q =
      reach_then (node_move (Evals e fs) (Evals a (frame ∷ fs)) f i (m + k) c (c + 1) (start fs) (omega (arith, p, all)) refl)
      (reach_then (reads_a (frame ∷ fs) f (m + k) k (c + 1) d refl (omega (arith, q, all))) (makes fs (with_count f k d)))

  around_two : (e a b : CExp) (w u v : Value) (m l n : ℕ) (before behind : SFrame) → ((fs : List SFrame) → moves world (Evals e fs) s ≡ node (Now (Evals a (before ∷ fs)) s)) → Reads world s a w m
      → ((fs : List SFrame) → moves world (Gives (Goes (w ∷ [])) (before ∷ fs)) s ≡ Now (Evals b (behind ∷ fs)) s) → Reads world s b u l → Makes world s behind u v → n ≡ 1 + m + l → Reads world s e v n
  around_two e a b w u v m l n before behind start reads_a next reads_b makes all fs f i k c d p q =
      reach_then (node_move (Evals e fs) (Evals a (before ∷ fs)) f i (m + (l + k)) c (c + 1) (start fs) (omega (arith, p, all)) refl)
      (reach_then (reads_a (before ∷ fs) f (m + (l + k)) (l + k) (c + 1) (c + 1 + m) refl refl)
      (reach_then (free_move (Gives (Goes (w ∷ [])) (before ∷ fs)) (Evals b (behind ∷ fs)) (with_count f (l + k) (c + 1 + m)) (next fs))
      (reach_then (reads_b (behind ∷ fs) f (l + k) k (c + 1 + m) d refl (omega (arith, q, all))) (makes fs (with_count f k d)))))

  -- FRAMES
  first_makes : (v : Value) → Makes world s First v v
  first_makes v fs g = free_move (Gives (Goes (v ∷ [])) (First ∷ fs)) (Gives (Goes (v ∷ [])) fs) g refl

  first_makes_given : (w v : Value) → Some w ≡ Some v → Makes world s First w v
  first_makes_given w v e fs g = free_move (Gives (Goes (w ∷ [])) (First ∷ fs)) (Gives (Goes (v ∷ [])) fs) g (given None fs s w v e)

  operate_makes : (o : Operator) (line : ℕ) (a b v : Value) → operated s.heap o a b ≡ Some v → Makes world s (OperateNow o a line) b v
  operate_makes o line a b v e fs g = free_move (Gives (Goes (b ∷ [])) (OperateNow o a line ∷ fs)) (Gives (Goes (v ∷ [])) fs) g (operated_is (Some line) fs s o a b v e)

  unary_makes : (o : UnaryOp) (line : ℕ) (a v : Value) → applied s.heap o a ≡ Some v → Makes world s (UnaryNow o line) a v
  unary_makes o line a v e fs g = free_move (Gives (Goes (a ∷ [])) (UnaryNow o line ∷ fs)) (Gives (Goes (v ∷ [])) fs) g (applied_is (Some line) fs s o a v e)

  index_makes : (line : ℕ) (a key v : Value) → indexed s.heap a key ≡ Some v → Makes world s (IndexNow a line) key v
  index_makes line a key v e fs g =
      reach_then (free_move (Gives (Goes (key ∷ [])) (IndexNow a line ∷ fs)) (Gives (Goes (v ∷ [])) (First ∷ fs)) g (indexed_is (Some line) (First ∷ fs) s a key v e)) (first_makes v fs g)

  -- `and` and `or`
  chosen : (deciding : Bool) (b : CExp) (a : Value) (fs : List SFrame) → decides deciding (is_true a) ≡ true → choose_operand deciding b a fs s ≡ gives (a ∷ []) fs s
  chosen deciding b a fs e = ap (λ (t : Bool). choose t (gives (a ∷ []) fs s) (Now (Evals b (First ∷ fs)) s)) e

  passed : (deciding : Bool) (b : CExp) (a : Value) (fs : List SFrame) → decides deciding (is_true a) ≡ false → choose_operand deciding b a fs s ≡ Now (Evals b (First ∷ fs)) s
  passed deciding b a fs e = ap (λ (t : Bool). choose t (gives (a ∷ []) fs s) (Now (Evals b (First ∷ fs)) s)) e

  decided_reads : (e a b : CExp) (deciding : Bool) (w v : Value) (m n : ℕ) → ((fs : List SFrame) → moves world (Evals e fs) s ≡ node (Now (Evals a (DecideNext deciding b ∷ fs)) s)) → Reads world s a w m
      → ((l : ℕ) → in_place (constants_of world s) b s ≡ Some (v, l) → Reads world s b v l) → Decided (decides deciding (is_true w)) w m (in_place (constants_of world s) b s) v n → Reads world s e v n
  decided_reads e a b deciding w v m n start reads_a reads_b (by_first t same all) =
      around_one e a w v m n (DecideNext deciding b) start reads_a
      (λ fs g. free_move (Gives (Goes (w ∷ [])) (DecideNext deciding b ∷ fs)) (Gives (Goes (v ∷ [])) fs) g (chosen deciding b w fs t ∙ ap (λ (x : Value). gives (x ∷ []) fs s) (sym same))) all
  decided_reads e a b deciding w v m n start reads_a reads_b (by_second l t is all) =
      around_two e a b w v v m l n (DecideNext deciding b) First start reads_a (λ fs. passed deciding b w fs t) (reads_b l is) (first_makes v) all

  -- EACH EXPRESSION
  global_reads : (x line : ℕ) (v : Value) (n : ℕ) → entry s.heap s.globals (Text (constants_of world s x)) ≡ Some v → n ≡ 1 → Reads world s (GlobalC x line) v n
  global_reads x line v n e one fs f i k c d p q =
      reach_then (node_move (Evals (GlobalC x line) fs) (Gives (Goes (v ∷ [])) (First ∷ fs)) f i k c d (ap node (entry_is (Some line) (First ∷ fs) s s.globals (Text (constants_of world s x)) v e)) (omega (arith, p, one)) (omega (arith, q, one)))
      (first_makes v fs (with_count f k d))

  pub reads : (e : CExp) (v : Value) (n : ℕ) → in_place (constants_of world s) e s ≡ Some (v, n) → Reads world s e v n
  reads (ConstantC w) v n e = let k = with_nodes_is 1 (Some w) v n e in leaf (ConstantC w) v n (λ fs. ap node (given None fs s w v k.0)) k.1
  reads (TextC t) v n e = let k = with_nodes_is 1 (Some (Text (constants_of world s t))) v n e in leaf (TextC t) v n (λ fs. ap node (given None fs s (Text (constants_of world s t)) v k.0)) k.1
  reads (LocalC p) v n e = let k = with_nodes_is 1 (Some (read_place s p)) v n e in leaf (LocalC p) v n (λ fs. ap node (given None fs s (read_place s p) v k.0)) k.1
  reads (GlobalC x line) v n e = let k = with_nodes_is 1 (entry s.heap s.globals (Text (constants_of world s x))) v n e in global_reads x line v n k.0 k.1
  reads (IndexC of key line) v n e =
      let k = two_read (indexed s.heap) (in_place (constants_of world s) of s) (in_place (constants_of world s) key s) v n e in
      around_two (IndexC of key line) of key k.a k.b v k.nodes_a k.nodes_b n (KeyNext key line) (IndexNow k.a line) (λ fs. refl) (reads of k.a k.nodes_a k.is_a) (λ fs. refl) (reads key k.b k.nodes_b k.is_b)
      (index_makes line k.a k.b v k.gives) k.all
  reads (AndC a b) v n e =
      let k = and_parts (in_place (constants_of world s) a s) (in_place (constants_of world s) b s) v n e in
      decided_reads (AndC a b) a b false k.a v k.nodes n (λ fs. refl) (reads a k.a k.nodes k.is) (λ l is. reads b v l is) k.decided
  reads (OrC a b) v n e =
      let k = or_parts (in_place (constants_of world s) a s) (in_place (constants_of world s) b s) v n e in
      decided_reads (OrC a b) a b true k.a v k.nodes n (λ fs. refl) (reads a k.a k.nodes k.is) (λ l is. reads b v l is) k.decided
  reads (OperateC o a b line) v n e =
      let k = two_read (operated s.heap o) (in_place (constants_of world s) a s) (in_place (constants_of world s) b s) v n e in
      around_two (OperateC o a b line) a b k.a k.b v k.nodes_a k.nodes_b n (OperandNext o b line) (OperateNow o k.a line) (λ fs. refl) (reads a k.a k.nodes_a k.is_a) (λ fs. refl) (reads b k.b k.nodes_b k.is_b)
      (operate_makes o line k.a k.b v k.gives) k.all
  reads (UnaryC o a line) v n e =
      let k = one_read (applied s.heap o) (in_place (constants_of world s) a s) v n e in
      around_one (UnaryC o a line) a k.a v k.nodes n (UnaryNow o line) (λ fs. refl) (reads a k.a k.nodes k.is) (unary_makes o line k.a v k.gives) k.all
  reads (ParenC a) v n e =
      let k = one_read (λ x. Some x) (in_place (constants_of world s) a s) v n e in
      around_one (ParenC a) a k.a v k.nodes n First (λ fs. refl) (reads a k.a k.nodes k.is) (first_makes_given k.a v k.gives) k.all
  reads e v n x = absurd cc

pub read_in_place : ReadInPlace
read_in_place world e s v n h fs f le = reads world s e v n h fs f f.left.steps (f.left.steps - n) f.tally.nodes (f.tally.nodes + n) (omega (arith, le)) refl
