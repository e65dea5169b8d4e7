-- That no cell is idle where no variable ended with one: what going over code changes, against what the code captures.
use Rattle.std.proofs.Common.{◌≡◌, ◌∙◌, ℕ, zero, suc, ◌+◌, ◌-◌, ◌<◌, ◌≤◌, Bool, true, false, true≢false, cond, ◌||◌, ◌==◌, refl, sym, ap, subst, List, [], ◌∷◌, length, slice_set, nat_lt, arith}
use Rattle.std.proofs.lemmas.Bool.{eqb-true, eqb-false, eq-eqb, ne_eqb, ltb-true, ltb-false}
use Rattle.std.proofs.Math.ListN.{get_or}
use Rattle.lua_code.specs.LuaSlotsCode.{Place, Reg, Box, Up, CExp, ConstantC, TextC, DotsC, FunctionC, LocalC, GlobalC, IndexC, CallC, MethodC, TableC, AndC, OrC, OperateC, UnaryC, ParenC}
use Rattle.lua_code.specs.LuaSlotsCode.{CExps, NoC, MoreC, CFields, NoFieldC, ItemC, PairC, CTarget, PlaceC, GlobalTargetC, EntryC, RefusedC}
use Rattle.lua_code.specs.LuaSlotsCode.{CStat, AssignC, CallStatC, DoC, WhileC, RepeatC, IfC, IfElseC, CountC, CountByC, EachC, ReturnC, BreakC, CBlock, EndC, DeclareC, LocalFunctionC, ThenC, CArms, NoArmC, ArmC, CProto}
use Rattle.lua_cells.specs.declared.registers.Registers.{Registers}
use Rattle.lua_cells.specs.Cells.{is_cell, lists, expression_captures, expressions_capture, fields_capture, target_captures, targets_capture, opens, statement_captures, block_captures, arms_capture, AreNeeded, nothing, in_block, IsTightStat, IsTightBlock, AreTightArms, HasNoIdleCell}
use Rattle.lua_cells.specs.Registers.{captured, all_captured, opened_one, opened, newest_ended, closed, scoped, expression_gone, expressions_gone, fields_gone, target_gone, targets_gone, statement_gone, block_gone, arms_gone, function_gone}

-- THE REGISTER that is `i` from the newest, if it names a cell that nothing captured so far
abbrev idle_at : Registers → ℕ → Bool
idle_at r i = get_or r.idle i false

-- n more variables are open, and the cells of older ones that are captured are idle no more
record Goes (n : ℕ) (captures : ℕ → Bool) (r s : Registers) : Type 0 where
  needed : s.needed ≡ true → r.needed ≡ true
  as_many : length s.idle ≡ n + length r.idle
  idle : (i k : ℕ) → k ≡ n + i → idle_at s k ≡ cond (captures i) false (idle_at r i)

twice : (c d x : Bool) → cond d false (cond c false x) ≡ cond (c || d) false x
twice true true x = refl
twice true false x = refl
twice false d x = refl

same : (r : Registers) → Goes 0 (λ i. false) r r
same r = record { needed = λ h. h; as_many = omega arith; idle = λ i k e. let f : k ≡ i = omega (arith, e) in ap (idle_at r) f }

next : {m : ℕ} {c d : ℕ → Bool} {r s t : Registers} → Goes 0 c r s → Goes m d s t → Goes m (λ i. c i || d i) r t
next {m} {c} {d} {r} {s} {t} g h =
    let one = g.as_many in
    let two = h.as_many in
    record {
      needed = λ e. g.needed (h.needed e);
      as_many = omega (arith, one, two);
      idle = λ i k e. h.idle i k e ∙ ap (λ x. cond (d i) false x) (g.idle i i (omega arith)) ∙ twice (c i) (d i) (idle_at r i);
    }

-- PLACES
set_idle : (bs : List Bool) (j i : ℕ) (t : Bool) → (j == i) ≡ t → get_or (slice_set bs j false) i false ≡ cond t false (get_or bs i false)
set_idle [] j i true e = refl
set_idle [] j i false e = refl
set_idle (b ∷ bs) zero zero true e = refl
set_idle (b ∷ bs) zero zero false e = absurd (eqb-false zero zero e refl)
set_idle (b ∷ bs) zero (suc i) true e = absurd (let f : zero ≡ suc i = eqb-true zero (suc i) e in omega (arith, f))
set_idle (b ∷ bs) zero (suc i) false e = refl
set_idle (b ∷ bs) (suc j) zero true e = absurd (let f : suc j ≡ zero = eqb-true (suc j) zero e in omega (arith, f))
set_idle (b ∷ bs) (suc j) zero false e = refl
set_idle (b ∷ bs) (suc j) (suc i) true e = set_idle bs j i true (eq-eqb j i (let f : suc j ≡ suc i = eqb-true (suc j) (suc i) e in omega (arith, f)))
set_idle (b ∷ bs) (suc j) (suc i) false e = set_idle bs j i false (ne_eqb j i (λ f. eqb-false (suc j) (suc i) e (ap suc f)))

set_length : (bs : List Bool) (j : ℕ) → length (slice_set bs j false) ≡ length bs
set_length [] j = refl
set_length (b ∷ bs) zero = refl
set_length (b ∷ bs) (suc j) = ap suc (set_length bs j)

place : (p : Place) (r : Registers) → Goes 0 (λ i. is_cell i p) r (captured p r)
place (Reg i) r = same r
place (Up i) r = same r
place (Box j) r =
    let lengths = set_length r.idle j in
    record {
      needed = λ e. e;
      as_many = omega (arith, lengths);
      idle = λ i k e. let f : k ≡ i = omega (arith, e) in ap (λ m. get_or (slice_set r.idle j false) m false) f ∙ set_idle r.idle j i (j == i) refl;
    }

places : (ps : List Place) (r : Registers) → Goes 0 (λ i. lists i ps) r (all_captured ps r)
places [] r = same r
places (p ∷ ps) r = next (place p r) (places ps (captured p r))

-- EXPRESSIONS
mutual
  expression : (c : CExp) (r : Registers) → Goes 0 (λ i. expression_captures i c) r (expression_gone c r)
  expression (ConstantC v) r = same r
  expression (TextC n) r = same r
  expression DotsC r = same r
  expression (LocalC p) r = same r
  expression (GlobalC x l) r = same r
  expression (FunctionC index ps) r = places ps r
  expression (IndexC a b l) r = next (expression a r) (expression b (expression_gone a r))
  expression (CallC a cs l) r = next (expression a r) (expressions cs (expression_gone a r))
  expression (MethodC a x cs l) r = next (expression a r) (expressions cs (expression_gone a r))
  expression (TableC cs l) r = fields cs r
  expression (AndC a b) r = next (expression a r) (expression b (expression_gone a r))
  expression (OrC a b) r = next (expression a r) (expression b (expression_gone a r))
  expression (OperateC op a b l) r = next (expression a r) (expression b (expression_gone a r))
  expression (UnaryC op a l) r = expression a r
  expression (ParenC a) r = expression a r

  expressions : (cs : CExps) (r : Registers) → Goes 0 (λ i. expressions_capture i cs) r (expressions_gone cs r)
  expressions NoC r = same r
  expressions (MoreC c cs) r = next (expression c r) (expressions cs (expression_gone c r))

  fields : (cs : CFields) (r : Registers) → Goes 0 (λ i. fields_capture i cs) r (fields_gone cs r)
  fields NoFieldC r = same r
  fields (ItemC c cs) r = next (expression c r) (fields cs (expression_gone c r))
  fields (PairC k c cs) r = next (next (expression k r) (expression c (expression_gone k r))) (fields cs (expression_gone c (expression_gone k r)))

target : (t : CTarget) (r : Registers) → Goes 0 (λ i. target_captures i t) r (target_gone t r)
target (PlaceC p) r = same r
target (GlobalTargetC x l) r = same r
target RefusedC r = same r
target (EntryC a b l) r = next (expression a r) (expression b (expression_gone a r))

targets : (ts : List CTarget) (r : Registers) → Goes 0 (λ i. targets_capture i ts) r (targets_gone ts r)
targets [] r = same r
targets (t ∷ ts) r = next (target t r) (targets ts (target_gone t r))

-- VARIABLES THAT ARE OPENED, and what follows them
one_more : (b : Bool) (r : Registers) → Goes 1 (λ i. false) r (opened_one b r)
one_more b r = record { needed = λ e. e; as_many = omega arith; idle = λ i k e. at i k e }
  where
    at : (i k : ℕ) → k ≡ 1 + i → get_or (b ∷ r.idle) k false ≡ get_or r.idle i false
    at i zero e = absurd (omega (arith, e))
    at i (suc k) e = let f : k ≡ i = omega (arith, e) in ap (λ m. get_or r.idle m false) f

more : (bs : List Bool) (r : Registers) → Goes (length bs) (λ i. false) r (opened bs r)
more [] r = same r
more (b ∷ bs) r =
    let rest = more bs (opened_one b r) in
    let lengths = rest.as_many in
    record {
      needed = rest.needed;
      as_many = omega (arith, lengths);
      idle = λ i k e. rest.idle (suc i) k (omega (arith, e));
    }

-- a register that is captured behind n more variables
behind : {n m : ℕ} {c d : ℕ → Bool} {r s t : Registers} → Goes n c r s → Goes m d s t → Goes (m + n) (λ i. c i || d (n + i)) r t
behind {n} {m} {c} {d} {r} {s} {t} g h =
    let one = g.as_many in
    let two = h.as_many in
    record {
      needed = λ e. g.needed (h.needed e);
      as_many = omega (arith, one, two);
      idle = λ i k e. h.idle (n + i) k (omega (arith, e)) ∙ ap (λ x. cond (d (n + i)) false x) (g.idle i (n + i) refl) ∙ twice (c i) (d (n + i)) (idle_at r i);
    }

-- the same registers, told otherwise
told : {n m : ℕ} {c d : ℕ → Bool} {r s : Registers} → n ≡ m → ((i : ℕ) → c i ≡ d i) → Goes n c r s → Goes m d r s
told {n} {m} {c} {d} {r} {s} e f g =
    let lengths = g.as_many in
    record { needed = g.needed; as_many = omega (arith, e, lengths); idle = λ i k h. g.idle i k (omega (arith, e, h)) ∙ ap (λ b. cond b false (idle_at r i)) (f i) }

-- VARIABLES THAT END
record Ends (n : ℕ) (bs : List Bool) (needed : Bool) (s : Registers) : Type 0 where
  before : s.needed ≡ true → needed ≡ true
  as_many : n ≤ length bs → length s.idle + n ≡ length bs
  none : s.needed ≡ true → (i : ℕ) → i < n → get_or bs i false ≡ false
  left : (i k : ℕ) → k ≡ n + i → get_or s.idle i false ≡ get_or bs k false

fewer : (a b n : ℕ) → a + n ≡ b → a + suc n ≡ suc b
fewer a b n e = omega (arith, e)

shifted : (n : ℕ) (b : Bool) (bs : List Bool) (r : Registers) → ((i k : ℕ) → k ≡ n + i → get_or r.idle i false ≡ get_or bs k false) → (i k : ℕ) → k ≡ suc n + i → get_or r.idle i false ≡ get_or (b ∷ bs) k false
shifted n b bs r h i zero e = absurd (omega (arith, e))
shifted n b bs r h i (suc k) e = h i k (omega (arith, e))

one_free : (n : ℕ) (bs : List Bool) → ((i : ℕ) → i < n → get_or bs i false ≡ false) → (i : ℕ) → i < suc n → get_or (false ∷ bs) i false ≡ false
one_free n bs h zero l = refl
one_free n bs h (suc i) l = h i (omega (arith, l))

ends : (n : ℕ) (bs : List Bool) (needed : Bool) → Ends n bs needed (newest_ended n bs needed)
ends zero bs needed = record { before = λ e. e; as_many = λ h. omega arith; none = λ e i h. absurd (omega (arith, h)); left = λ i k e. let f : i ≡ k = omega (arith, e) in ap (λ m. get_or bs m false) f }
ends (suc n) [] needed = record { before = λ e. e; as_many = λ h. absurd (omega (arith, h)); none = λ e i h. refl; left = λ i k e. refl }
ends (suc n) (true ∷ bs) needed =
    let rest = ends n bs false in
    record {
      before = λ e. absurd (true≢false (sym (rest.before e)));
      as_many = λ h. fewer _ _ _ (rest.as_many (omega (arith, h)));
      none = λ e i h. absurd (true≢false (sym (rest.before e)));
      left = shifted n true bs (newest_ended n bs false) rest.left;
    }
ends (suc n) (false ∷ bs) needed =
    let rest = ends n bs needed in
    record {
      before = rest.before;
      as_many = λ h. fewer _ _ _ (rest.as_many (omega (arith, h)));
      none = λ e. one_free n bs (rest.none e);
      left = shifted n false bs (newest_ended n bs needed) rest.left;
    }

-- variables that were opened since then end
scope : {n : ℕ} {c : ℕ → Bool} {r s : Registers} → Goes n c r s → Goes 0 c r (closed (length r.idle) s)
scope {n} {c} {r} {s} g =
    let lengths = g.as_many in
    let count : length s.idle - length r.idle ≡ n = omega (arith, lengths) in
    let e : Ends (length s.idle - length r.idle) s.idle s.needed (closed (length r.idle) s) = ends (length s.idle - length r.idle) s.idle s.needed in
    let left = e.as_many (omega (arith, lengths)) in
    record {
      needed = λ h. g.needed (e.before h);
      as_many = omega (arith, left, count, lengths);
      idle = λ i k h. let f : k ≡ i = omega (arith, h) in ap (idle_at (closed (length r.idle) s)) f ∙ e.left i (n + i) (omega (arith, count)) ∙ g.idle i (n + i) refl;
    }

before : {n : ℕ} {c : ℕ → Bool} {r s : Registers} → Goes n c r s → (closed (length r.idle) s).needed ≡ true → s.needed ≡ true
before {n} {c} {r} {s} g h = (ends (length s.idle - length r.idle) s.idle s.needed).before h

-- none of them is idle
free : {n : ℕ} {c : ℕ → Bool} {r s : Registers} → Goes n c r s → (closed (length r.idle) s).needed ≡ true → (i : ℕ) → i < n → idle_at s i ≡ false
free {n} {c} {r} {s} g h i l =
    let lengths = g.as_many in
    (ends (length s.idle - length r.idle) s.idle s.needed).none h i (omega (arith, l, lengths))

none_idle : {n : ℕ} {c : ℕ → Bool} {r s : Registers} (end : ℕ → Bool) → Goes n c r s → (closed (length r.idle) s).needed ≡ true → (i : ℕ) → i < n → idle_at s i ≡ true → end i ≡ true
none_idle end g h i l e = absurd (true≢false (sym e ∙ free g h i l))

-- STATEMENTS AND BLOCKS
one_up : (i : ℕ) → 1 + i ≡ suc i
one_up i = omega arith

counted : (boxed : Bool) (b : CBlock) (r : Registers) → Goes (opens b) (λ i. block_captures i b) (opened_one boxed r) (block_gone b (opened_one boxed r)) → Goes 0 (λ i. block_captures (suc i) b) r (scoped (λ s. block_gone b (opened_one boxed s)) r)
counted boxed b r g = scope (told refl (λ i. ap (λ j. block_captures j b) (one_up i)) (behind (one_more boxed r) g))

mutual
  statement : (c : CStat) (r : Registers) → Goes 0 (λ i. statement_captures i c) r (statement_gone c r)
  statement (AssignC ts cs) r = next (targets ts r) (expressions cs (targets_gone ts r))
  statement (CallStatC c) r = expression c r
  statement (DoC b) r = scope (block b r)
  statement (WhileC c b) r = next (expression c r) (scope (block b (expression_gone c r)))
  statement (RepeatC b c) r = scope (behind (block b r) (expression c (block_gone b r)))
  statement (IfC branches) r = arms branches r
  statement (IfElseC branches b) r = next (arms branches r) (scope (block b (arms_gone branches r)))
  statement (CountC boxed from to b l) r = next (next (expression from r) (expression to (expression_gone from r))) (counted boxed b (expression_gone to (expression_gone from r)) (block b (opened_one boxed (expression_gone to (expression_gone from r)))))
  statement (CountByC boxed from to by b l) r =
      next (next (next (expression from r) (expression to (expression_gone from r))) (expression by (expression_gone to (expression_gone from r)))) (counted boxed b (expression_gone by (expression_gone to (expression_gone from r))) (block b (opened_one boxed (expression_gone by (expression_gone to (expression_gone from r))))))
  statement (EachC flags cs b l) r = next (expressions cs r) (scope (behind (more flags (expressions_gone cs r)) (block b (opened flags (expressions_gone cs r)))))
  statement (ReturnC cs) r = expressions cs r
  statement BreakC r = same r

  block : (b : CBlock) (r : Registers) → Goes (opens b) (λ i. block_captures i b) r (block_gone b r)
  block EndC r = same r
  block (DeclareC flags values rest) r = next (expressions values r) (behind (more flags (expressions_gone values r)) (block rest (opened flags (expressions_gone values r))))
  block (LocalFunctionC boxed index ps rest) r =
      told refl (λ i. ap (λ j. lists j ps || block_captures j rest) (one_up i)) (behind (one_more boxed r) (next (places ps (opened_one boxed r)) (block rest (all_captured ps (opened_one boxed r)))))
  block (ThenC s rest) r = next (statement s r) (block rest (statement_gone s r))

  arms : (branches : CArms) (r : Registers) → Goes 0 (λ i. arms_capture i branches) r (arms_gone branches r)
  arms NoArmC r = same r
  arms (ArmC c b branches) r = next (next (expression c r) (scope (block b (expression_gone c r)))) (arms branches (scoped (λ s. block_gone b s) (expression_gone c r)))

-- NO CELL IS IDLE
-- what is idle nowhere behind it was captured
taken : (c x y : Bool) → y ≡ cond c false x → y ≡ false → x ≡ true → c ≡ true
taken true x y e f h = refl
taken false x y e f h = absurd (true≢false (sym h ∙ sym e ∙ f))

either : (c d x : Bool) → x ≡ cond c false true → (x ≡ true → d ≡ true) → (c || d) ≡ true
either true d x e h = refl
either false d x e h = h e

-- a variable that is idle in front of a block, where only what its end captures is idle behind it
in_it : (b : CBlock) (end : ℕ → Bool) (r : Registers) (n : ℕ) → ((k : ℕ) → k < opens b + n → idle_at (block_gone b r) k ≡ true → end k ≡ true) → (i : ℕ) → i < n → idle_at r i ≡ true → in_block end b i ≡ true
in_it b end r n h i l e = either (block_captures i b) (end (opens b + i)) (idle_at (block_gone b r) (opens b + i)) ((block b r).idle i (opens b + i) refl ∙ ap (λ x. cond (block_captures i b) false x) e) (h (opens b + i) (omega (arith, l)))

flags_needed : (bs : List Bool) (taken_up : ℕ → Bool) (r : Registers) → ((i : ℕ) → i < length bs → idle_at (opened bs r) i ≡ true → taken_up i ≡ true) → AreNeeded taken_up bs
flags_needed [] taken_up r h = tt
flags_needed (b ∷ bs) taken_up r h =
    (λ e. h (length bs) (omega arith) ((more bs (opened_one b r)).idle 0 (length bs) (omega arith) ∙ e), flags_needed bs taken_up (opened_one b r) (λ i l. h i (omega (arith, l))))

-- a block of which that is known from these registers on, whose variables end with it
abbrev IsTightFrom : Registers → CBlock → Type 0
IsTightFrom r b = (end : ℕ → Bool) → (block_gone b r).needed ≡ true → ((i : ℕ) → i < opens b → idle_at (block_gone b r) i ≡ true → end i ≡ true) → IsTightBlock end b

tight_inside : (b : CBlock) (r : Registers) → IsTightFrom r b → (scoped (λ s. block_gone b s) r).needed ≡ true → IsTightBlock nothing b
tight_inside b r known e = known nothing (before (block b r) e) (none_idle nothing (block b r) e)

tight_scope : (flags : List Bool) (b : CBlock) (r : Registers) → IsTightFrom (opened flags r) b → (scoped (λ s. block_gone b (opened flags s)) r).needed ≡ true → AreNeeded (in_block nothing b) flags × IsTightBlock nothing b
tight_scope flags b r known e =
    let s : Registers = opened flags r in
    let g = behind (more flags r) (block b s) in
    (flags_needed flags (in_block nothing b) r (λ i l h. in_it b nothing s (length flags) (none_idle nothing g e) i l h), known nothing (before g e) (λ i l h. none_idle nothing g e i (omega (arith, l)) h))

mutual
  tight : (c : CStat) (r : Registers) → (statement_gone c r).needed ≡ true → IsTightStat c
  tight (AssignC ts cs) r e = tt
  tight (CallStatC c) r e = tt
  tight (DoC b) r e = tight_inside b r (λ end h k. tight_block b end r h k) e
  tight (WhileC c b) r e = tight_inside b (expression_gone c r) (λ end h k. tight_block b end (expression_gone c r) h k) e
  tight (RepeatC b c) r e =
      let s : Registers = block_gone b r in
      let g = behind (block b r) (expression c s) in
      tight_block b (λ i. expression_captures i c) r ((expression c s).needed (before g e))
      (λ i l h. taken (expression_captures i c) (idle_at s i) (idle_at (expression_gone c s) i) ((expression c s).idle i i (omega arith)) (free g e i (omega (arith, l))) h)
  tight (IfC branches) r e = tight_arms branches r e
  tight (IfElseC branches b) r e = let s : Registers = arms_gone branches r in (tight_arms branches r ((block b s).needed (before (block b s) e)), tight_inside b s (λ end h k. tight_block b end s h k) e)
  tight (CountC boxed from to b l) r e =
      let s : Registers = expression_gone to (expression_gone from r) in
      tight_scope (boxed ∷ []) b s (λ end h k. tight_block b end (opened_one boxed s) h k) e
  tight (CountByC boxed from to by b l) r e =
      let s : Registers = expression_gone by (expression_gone to (expression_gone from r)) in
      tight_scope (boxed ∷ []) b s (λ end h k. tight_block b end (opened_one boxed s) h k) e
  tight (EachC flags cs b l) r e =
      let s : Registers = expressions_gone cs r in
      tight_scope flags b s (λ end h k. tight_block b end (opened flags s) h k) e
  tight (ReturnC cs) r e = tt
  tight BreakC r e = tt

  tight_block : (b : CBlock) (end : ℕ → Bool) (r : Registers) → (block_gone b r).needed ≡ true → ((i : ℕ) → i < opens b → idle_at (block_gone b r) i ≡ true → end i ≡ true) → IsTightBlock end b
  tight_block EndC end r e h = tt
  tight_block (DeclareC flags values rest) end r e h =
      let s : Registers = expressions_gone values r in
      (flags_needed flags (in_block end rest) s (λ i l d. in_it rest end (opened flags s) (length flags) h i l d), tight_block rest end (opened flags s) e (λ i l d. h i (omega (arith, l)) d))
  tight_block (LocalFunctionC boxed index ps rest) end r e h =
      let s : Registers = opened_one boxed r in
      let t : Registers = all_captured ps s in (
        (λ d. either (lists 0 ps) (in_block end rest 0) (idle_at t 0) ((places ps s).idle 0 0 (omega arith) ∙ ap (λ x. cond (lists 0 ps) false x) d) (λ x. in_it rest end t 1 h 0 (omega arith) x), tt),
        tight_block rest end t e (λ i l d. h i (omega (arith, l)) d),
      )
  tight_block (ThenC s rest) end r e h = (tight s r ((block rest (statement_gone s r)).needed e), tight_block rest end (statement_gone s r) e h)

  tight_arms : (branches : CArms) (r : Registers) → (arms_gone branches r).needed ≡ true → AreTightArms branches
  tight_arms NoArmC r e = tt
  tight_arms (ArmC c b branches) r e =
      let s : Registers = scoped (λ k. block_gone b k) (expression_gone c r) in
      (tight_inside b (expression_gone c r) (λ end h k. tight_block b end (expression_gone c r) h k) ((arms branches s).needed e), tight_arms branches s e)

pub function : (p : CProto) → (function_gone p).needed ≡ true → HasNoIdleCell p
function p e = let r : Registers = record { idle = []; needed = true } in tight_scope p.flags p.body r (λ end h k. tight_block p.body end (opened p.flags r) h k) e

-- AND THE OTHER WAY: where no cell is idle, none is found
needed_place : (p : Place) (r : Registers) → r.needed ≡ true → (captured p r).needed ≡ true
needed_place (Reg i) r e = e
needed_place (Box i) r e = e
needed_place (Up i) r e = e

needed_places : (ps : List Place) (r : Registers) → r.needed ≡ true → (all_captured ps r).needed ≡ true
needed_places [] r e = e
needed_places (p ∷ ps) r e = needed_places ps (captured p r) (needed_place p r e)

mutual
  needed_expression : (c : CExp) (r : Registers) → r.needed ≡ true → (expression_gone c r).needed ≡ true
  needed_expression (ConstantC v) r e = e
  needed_expression (TextC n) r e = e
  needed_expression DotsC r e = e
  needed_expression (LocalC p) r e = e
  needed_expression (GlobalC x l) r e = e
  needed_expression (FunctionC index ps) r e = needed_places ps r e
  needed_expression (IndexC a b l) r e = needed_expression b (expression_gone a r) (needed_expression a r e)
  needed_expression (CallC a cs l) r e = needed_expressions cs (expression_gone a r) (needed_expression a r e)
  needed_expression (MethodC a x cs l) r e = needed_expressions cs (expression_gone a r) (needed_expression a r e)
  needed_expression (TableC cs l) r e = needed_fields cs r e
  needed_expression (AndC a b) r e = needed_expression b (expression_gone a r) (needed_expression a r e)
  needed_expression (OrC a b) r e = needed_expression b (expression_gone a r) (needed_expression a r e)
  needed_expression (OperateC op a b l) r e = needed_expression b (expression_gone a r) (needed_expression a r e)
  needed_expression (UnaryC op a l) r e = needed_expression a r e
  needed_expression (ParenC a) r e = needed_expression a r e

  needed_expressions : (cs : CExps) (r : Registers) → r.needed ≡ true → (expressions_gone cs r).needed ≡ true
  needed_expressions NoC r e = e
  needed_expressions (MoreC c cs) r e = needed_expressions cs (expression_gone c r) (needed_expression c r e)

  needed_fields : (cs : CFields) (r : Registers) → r.needed ≡ true → (fields_gone cs r).needed ≡ true
  needed_fields NoFieldC r e = e
  needed_fields (ItemC c cs) r e = needed_fields cs (expression_gone c r) (needed_expression c r e)
  needed_fields (PairC k c cs) r e = needed_fields cs (expression_gone c (expression_gone k r)) (needed_expression c (expression_gone k r) (needed_expression k r e))

needed_target : (t : CTarget) (r : Registers) → r.needed ≡ true → (target_gone t r).needed ≡ true
needed_target (PlaceC p) r e = e
needed_target (GlobalTargetC x l) r e = e
needed_target RefusedC r e = e
needed_target (EntryC a b l) r e = needed_expression b (expression_gone a r) (needed_expression a r e)

needed_targets : (ts : List CTarget) (r : Registers) → r.needed ≡ true → (targets_gone ts r).needed ≡ true
needed_targets [] r e = e
needed_targets (t ∷ ts) r e = needed_targets ts (target_gone t r) (needed_target t r e)

needed_opened : (bs : List Bool) (r : Registers) → r.needed ≡ true → (opened bs r).needed ≡ true
needed_opened [] r e = e
needed_opened (b ∷ bs) r e = needed_opened bs (opened_one b r) e

needed_ended : (n : ℕ) (bs : List Bool) (needed : Bool) → needed ≡ true → ((i : ℕ) → i < n → get_or bs i false ≡ false) → (newest_ended n bs needed).needed ≡ true
needed_ended zero bs needed e h = e
needed_ended (suc n) [] needed e h = e
needed_ended (suc n) (true ∷ bs) needed e h = absurd (true≢false (h 0 (omega arith)))
needed_ended (suc n) (false ∷ bs) needed e h = needed_ended n bs needed e (λ i l. h (suc i) (omega (arith, l)))

not_true : (b : Bool) → (b ≡ true → false ≡ true) → b ≡ false
not_true true h = absurd (true≢false (sym (h refl)))
not_true false h = refl

-- variables end of which none is idle
needed_closed : {n : ℕ} {c : ℕ → Bool} {r s : Registers} → Goes n c r s → s.needed ≡ true → ((i : ℕ) → i < n → idle_at s i ≡ true → nothing i ≡ true) → (closed (length r.idle) s).needed ≡ true
needed_closed {n} {c} {r} {s} g e h =
    let lengths = g.as_many in
    needed_ended (length s.idle - length r.idle) s.idle s.needed e (λ i l. not_true (idle_at s i) (h i (omega (arith, l, lengths))))

-- what is idle was not captured
was_idle : (c x y : Bool) → y ≡ cond c false x → y ≡ true → (c ≡ false) × (x ≡ true)
was_idle true x y e h = absurd (true≢false (sym h ∙ e))
was_idle false x y e h = (refl, sym e ∙ h)

other : (c d : Bool) → c ≡ false → (c || d) ≡ true → d ≡ true
other true d e h = absurd (true≢false e)
other false d e h = h

-- a variable that is idle behind a block
not_in_it : (b : CBlock) (end : ℕ → Bool) (r : Registers) (i : ℕ) → (idle_at r i ≡ true → in_block end b i ≡ true) → idle_at (block_gone b r) (opens b + i) ≡ true → end (opens b + i) ≡ true
not_in_it b end r i known h =
    let l = was_idle (block_captures i b) (idle_at r i) (idle_at (block_gone b r) (opens b + i)) ((block b r).idle i (opens b + i) refl) h in
    other (block_captures i b) (end (opens b + i)) l.0 (known l.1)

newest_flag : (b : Bool) (bs : List Bool) (taken_up : ℕ → Bool) (r : Registers) (i : ℕ) → (b ≡ true → taken_up (length bs) ≡ true) → i ≡ length bs → idle_at (opened (b ∷ bs) r) i ≡ true → taken_up i ≡ true
newest_flag b bs taken_up r i h last e =
    let flag : b ≡ true = sym ((more bs (opened_one b r)).idle 0 i (omega (arith, last))) ∙ e in
    ap taken_up last ∙ h flag

one_or_other : (i n : ℕ) (P : Type 0) → i < suc n → (i ≡ n → P) → (i < n → P) → P
one_or_other i n P l last less = at (i == n) refl
  where
    at : (t : Bool) → (i == n) ≡ t → P
    at true d = last (eqb-true i n d)
    at false d = less (omega (arith, l, eqb-false i n d))

flag_needed : (bs : List Bool) (taken_up : ℕ → Bool) (r : Registers) → AreNeeded taken_up bs → (i : ℕ) → i < length bs → idle_at (opened bs r) i ≡ true → taken_up i ≡ true
flag_needed [] taken_up r h i l e = absurd (omega (arith, l))
flag_needed (b ∷ bs) taken_up r h i l e =
    one_or_other i (length bs) (taken_up i ≡ true) l (λ last. newest_flag b bs taken_up r i h.0 last e) (λ less. flag_needed bs taken_up (opened_one b r) h.1 i less e)

-- one of n variables, or of m older ones
past : (n m : ℕ) (end : ℕ → Bool) (r : Registers) → ((i : ℕ) → i < n → idle_at r i ≡ true → end i ≡ true) → ((i : ℕ) → i < m → idle_at r (n + i) ≡ true → end (n + i) ≡ true) → (i : ℕ) → i < n + m → idle_at r i ≡ true → end i ≡ true
past n m end r new old i l h = at (nat_lt i n) refl
  where
    at : (t : Bool) → nat_lt i n ≡ t → end i ≡ true
    at true e = new i (ltb-true i n e) h
    at false e =
        let same : n + (i - n) ≡ i = omega (arith, ltb-false i n e) in
        subst (λ k. end k ≡ true) same (old (i - n) (omega (arith, l, ltb-false i n e)) (ap (idle_at r) same ∙ h))

left_open : (b : CBlock) (end : ℕ → Bool) (r : Registers) → IsTightBlock end b → (i : ℕ) → i < opens b → idle_at (block_gone b r) i ≡ true → end i ≡ true
left_open EndC end r t i l h = absurd (omega (arith, l))
left_open (DeclareC flags values rest) end r t i l h =
    let s : Registers = expressions_gone values r in
    let u : Registers = opened flags s in
    past (opens rest) (length flags) end (block_gone rest u) (left_open rest end u t.1) (λ j m. not_in_it rest end u j (flag_needed flags (in_block end rest) s t.0 j m)) i l h
left_open (LocalFunctionC boxed index ps rest) end r t i l h =
    let s : Registers = opened_one boxed r in
    let u : Registers = all_captured ps s in
    past (opens rest) 1 end (block_gone rest u) (left_open rest end u t.1) (λ j m. not_in_it rest end u j (own j (omega (arith, m)))) i l h
  where
    own : (j : ℕ) → j ≡ 0 → idle_at (all_captured ps (opened_one boxed r)) j ≡ true → in_block end rest j ≡ true
    own zero e d =
        let k = was_idle (lists 0 ps) (idle_at (opened_one boxed r) 0) (idle_at (all_captured ps (opened_one boxed r)) 0) ((places ps (opened_one boxed r)).idle 0 0 (omega arith)) d in
        other (lists 0 ps) (in_block end rest 0) k.0 (t.0.0 k.1)
    own (suc j) e d = absurd (omega (arith, e))
left_open (ThenC s rest) end r t i l h = left_open rest end (statement_gone s r) t.1 i l h

abbrev IsNeededFrom : Registers → CBlock → Type 0
IsNeededFrom r b = (end : ℕ → Bool) → IsTightBlock end b → r.needed ≡ true → (block_gone b r).needed ≡ true

needed_inside : (b : CBlock) (r : Registers) → IsNeededFrom r b → IsTightBlock nothing b → r.needed ≡ true → (scoped (λ s. block_gone b s) r).needed ≡ true
needed_inside b r known t e = needed_closed (block b r) (known nothing t e) (left_open b nothing r t)

needed_scope : (flags : List Bool) (b : CBlock) (r : Registers) → IsNeededFrom (opened flags r) b → AreNeeded (in_block nothing b) flags → IsTightBlock nothing b → r.needed ≡ true
    → (scoped (λ s. block_gone b (opened flags s)) r).needed ≡ true
needed_scope flags b r known fs t e =
    let s : Registers = opened flags r in
    needed_closed (behind (more flags r) (block b s)) (known nothing t (needed_opened flags r e))
    (past (opens b) (length flags) nothing (block_gone b s) (left_open b nothing s t) (λ j m. not_in_it b nothing s j (flag_needed flags (in_block nothing b) r fs j m)))

mutual
  statement_needed : (c : CStat) (r : Registers) → IsTightStat c → r.needed ≡ true → (statement_gone c r).needed ≡ true
  statement_needed (AssignC ts cs) r t e = needed_expressions cs (targets_gone ts r) (needed_targets ts r e)
  statement_needed (CallStatC c) r t e = needed_expression c r e
  statement_needed (DoC b) r t e = needed_inside b r (λ end h k. needed_block b end r h k) t e
  statement_needed (WhileC c b) r t e = needed_inside b (expression_gone c r) (λ end h k. needed_block b end (expression_gone c r) h k) t (needed_expression c r e)
  statement_needed (RepeatC b c) r t e =
      let s : Registers = block_gone b r in
      let known : (i : ℕ) → i < opens b → idle_at (expression_gone c s) i ≡ true → nothing i ≡ true =
      λ i l h. let k = was_idle (expression_captures i c) (idle_at s i) (idle_at (expression_gone c s) i) ((expression c s).idle i i (omega arith)) h in sym k.0 ∙ left_open b (λ j. expression_captures j c) r t i l k.1 in
      needed_closed (behind (block b r) (expression c s)) (needed_expression c s (needed_block b (λ j. expression_captures j c) r t e)) (λ i l h. known i (omega (arith, l)) h)
  statement_needed (IfC branches) r t e = needed_arms branches r t e
  statement_needed (IfElseC branches b) r t e = needed_inside b (arms_gone branches r) (λ end h k. needed_block b end (arms_gone branches r) h k) t.1 (needed_arms branches r t.0 e)
  statement_needed (CountC boxed from to b l) r t e =
      let s : Registers = expression_gone to (expression_gone from r) in
      needed_scope (boxed ∷ []) b s (λ end h k. needed_block b end (opened_one boxed s) h k) t.0 t.1 (needed_expression to (expression_gone from r) (needed_expression from r e))
  statement_needed (CountByC boxed from to by b l) r t e =
      let s : Registers = expression_gone to (expression_gone from r) in
      needed_scope (boxed ∷ []) b (expression_gone by s) (λ end h k. needed_block b end (opened_one boxed (expression_gone by s)) h k) t.0 t.1 (needed_expression by s (needed_expression to (expression_gone from r) (needed_expression from r e)))
  statement_needed (EachC flags cs b l) r t e =
      let s : Registers = expressions_gone cs r in
      needed_scope flags b s (λ end h k. needed_block b end (opened flags s) h k) t.0 t.1 (needed_expressions cs r e)
  statement_needed (ReturnC cs) r t e = needed_expressions cs r e
  statement_needed BreakC r t e = e

  needed_block : (b : CBlock) (end : ℕ → Bool) (r : Registers) → IsTightBlock end b → r.needed ≡ true → (block_gone b r).needed ≡ true
  needed_block EndC end r t e = e
  needed_block (DeclareC flags values rest) end r t e =
      let s : Registers = expressions_gone values r in
      needed_block rest end (opened flags s) t.1 (needed_opened flags s (needed_expressions values r e))
  needed_block (LocalFunctionC boxed index ps rest) end r t e = needed_block rest end (all_captured ps (opened_one boxed r)) t.1 (needed_places ps (opened_one boxed r) e)
  needed_block (ThenC s rest) end r t e = needed_block rest end (statement_gone s r) t.1 (statement_needed s r t.0 e)

  needed_arms : (branches : CArms) (r : Registers) → AreTightArms branches → r.needed ≡ true → (arms_gone branches r).needed ≡ true
  needed_arms NoArmC r t e = e
  needed_arms (ArmC c b branches) r t e =
      let s : Registers = expression_gone c r in
      needed_arms branches (scoped (λ k. block_gone b k) s) t.1 (needed_inside b s (λ end h k. needed_block b end s h k) t.0 (needed_expression c r e))

pub function_needed : (p : CProto) → HasNoIdleCell p → (function_gone p).needed ≡ true
function_needed p h = let r : Registers = record { idle = []; needed = true } in needed_scope p.flags p.body r (λ end t e. needed_block p.body end (opened p.flags r) t e) h.0 h.1 refl
