-- Two trees with one left end, of operators or of suffixes, are one tree.
use Rattle.std.proofs.Common.{◌≡◌, ℕ, zero, suc, ◌+◌, ◌<◌, ◌≤◌, ◌⊎◌, true, false, List, length, refl, sym, ap, subst, ◌∙◌, inl, inr, le_trans, le_refl, arith, true≢false}
use Rattle.lua_reading.specs.LuaLexerDeclaredTokenToken.{Token}
use Rattle.lua_reading.specs.LuaSyntaxDeclaredBinaryOp.{BinaryOp}
use Rattle.lua_reading.specs.LuaGrammarDeclaredTokenClass.{TokenClass}
use Rattle.lua_reading.specs.LuaGrammarDeclaredTokenClassTheVariants.{Eof}
use Rattle.lua_reading.specs.LuaGrammarDeclaredContext.{Context}
use Rattle.lua_reading.specs.LuaGrammarTokens.{class_at, tok_at}
use Rattle.lua_reading.specs.LuaSyntaxTree.{Exp, BinaryE}
use Rattle.lua_reading.specs.LuaGrammarGrammar.{given_tokens, Spells, mark_of, level, right_level, suffix_goes}
use Rattle.lua_reading.specs.Parsing.{Stops, high, exp_lang, prefix_lang, operand_lang, nothing, goes_on}
use Rattle.lua_reading.specs.Answers.{primary_lang, suffix_lang}
use Rattle.lua_reading.proofs.levels.Levels.{same_mark, goes, mark-not_eof, level-low, right-low}
use Rattle.lua_reading.proofs.levels.Chains.{Tail, Same, Spine, Next, next}
use Rattle.lua_reading.proofs.levels.Climb.{First, first, closes_first, Operator, operator_of, right_follows, tail_suffix}
use Rattle.lua_reading.proofs.levels.Suffixes.{Root, root_of, suffix_of}
use Rattle.lua_reading.proofs.statements.Begins.{inner}
use Rattle.lua_grammar_laws.proofs.Rests.{EndsText, next_token, Unique}

-- What two trees of expressions are: one.
abbrev One : List Token → Exp → Exp → ℕ → ℕ → ℕ → Type 0
One ts x y m j k = (x ≡ y) × (j ≡ k) × (m ≤ j) × (j < length ts)

-- Both end where their left end does.
both_end : (ts : List Token) (x y e : Exp) (b c d g l j k o p m : ℕ) → m < length ts → Same b l x j d o e m → Same c l y k g p e m → One ts x y m j k
both_end ts x y e b c d g l j k o p m lt s t = (s.2 ∙ sym t.2, s.3 ∙ sym t.3, omega (arith, s.3), omega (arith, s.3, lt))

-- ---- operators

mark_inner : (op : BinaryOp) → inner (mark_of op) ≡ true
mark_inner op = go (mark_of op) (mark-not_eof op)
  where
    go : (s : TokenClass) → (s ≡ Eof → ⊥) → inner s ≡ true
    go Eof h = absurd (h refl)
    go s h = refl

-- Each right side is unique from place p on.
abbrev pub RightSides : List Token → Context → ℕ → Type 0
RightSides ts w p = (l : ℕ) → l ≤ 7 → (m : ℕ) → p ≤ m → m < length ts → Unique 0 Exp ts (exp_lang ts w l) (goes_on l) m

-- An operator on e, with its mark at m.
abbrev Op : List Token → Context → ℕ → ℕ → Exp → ℕ → ℕ → ℕ → Exp → ℕ → Type 0
Op ts w b l x j c k e m = (u : Next ts w (length ts) 6 b l x j c k e m) × Operator ts w (length ts) 6 u.above u.at_level e m u.end u.whole

op_of : (ts : List Token) (w : Context) (b l : ℕ) (x : Exp) (j c k : ℕ) (e : Exp) (m : ℕ) → m < length ts → k ≤ 9 → Next ts w (length ts) 6 b l x j c k e m → Op ts w b l x j c k e m
op_of ts w b l x j c k e m lt nine u = (u, operator_of ts w (length ts) 6 u.above u.at_level k e u.whole m u.end lt u.on u.head (λ z. absurd (omega (arith, z, nine))) u.tail)

-- Nothing goes on with one of them, and an operator with the other.
one_ends : (ts : List Token) (w : Context) (l : ℕ) (x y e : Exp) (b c d g j k o p m : ℕ) → m < length ts → Same b l x j d o e m → Stops ts (goes_on l) (length ts) j → Op ts w c l y k g p e m → ⊥
one_ends ts w l x y e b c d g j k o p m lt s st q =
    let P : ℕ → Type 0 = λ v. v < length ts → goes_on l (class_at ts v) ≡ false in
    true≢false (sym (goes l q.1.op (le_trans q.0.least q.1.least)) ∙ ap (goes_on l) (sym q.1.mark) ∙ subst P s.3 st lt)

-- The right side, and what stands above the operator.
abbrev Above : List Token → Context → ℕ → ℕ → Exp → ℕ → Exp → BinaryOp → ℕ → Type 0
Above ts w b l x j e op m =
    (r : Exp) × (a : ℕ) × (v : ℕ) × (q : ℕ) × Spells (given_tokens ts (length ts) 6) (high w (suc a)) (right_level op) r (suc m) q × Stops ts (goes_on (right_level op)) (length ts) q × (v ≤ 9)
    × Spine ts w (length ts) 6 b l x j a v (BinaryE (tok_at ts m).line op e r) q

above_op : (ts : List Token) (w : Context) (b l : ℕ) (x : Exp) (j c k : ℕ) (e : Exp) (m : ℕ) (op : BinaryOp) → l ≤ 7 → Stops ts (goes_on l) (length ts) j → (u : Op ts w b l x j c k e m) → u.1.op ≡ op → Above ts w b l x j e op m
above_op ts w b l x j c k e m op le7 st (u, p) same =
    let least : u.at_level ≤ level op = subst (λ (o : BinaryOp). u.at_level ≤ level o) same p.least in
    let reads = subst (λ (o : BinaryOp). Spells (given_tokens ts (length ts) 6) (high w (suc u.above)) (right_level o) p.right (suc m) u.end) same p.reads in
    let whole : u.whole ≡ BinaryE (tok_at ts m).line op e p.right = p.is ∙ ap (λ (v : ℕ). BinaryE v p.op e p.right) p.line_here ∙ ap (λ (o : BinaryOp). BinaryE (tok_at ts m).line o e p.right) same in
    let spine = subst (λ (v : Exp). Spine ts w (length ts) 6 b l x j u.above u.at_level v u.end) whole u.spine in
    let follows = right_follows ts w (length ts) 6 b l x j u.above u.at_level e p.right op (tok_at ts m).line u.end le7 (le_trans u.least least) least st spine in
    (p.right, u.above, u.at_level, u.end, reads, follows, omega (arith, least, level-low op), spine)

-- What has been read of both stands at the left end of each, and ends at m.
climbed : (ts : List Token) (w : Context) (l : ℕ) → l ≤ 7 → EndsText ts → (d : ℕ) (e : Exp) (m : ℕ) → length ts ≤ m + d → m < length ts → RightSides ts w (suc m) →
    (x y : Exp) (b c j k f g o p : ℕ) → o ≤ 9 → p ≤ 9 → Spine ts w (length ts) 6 b l x j f o e m → Stops ts (goes_on l) (length ts) j → Spine ts w (length ts) 6 c l y k g p e m → Stops ts (goes_on l) (length ts) k → One ts x y m j k
climbed ts w l le7 ends zero e m fuel lt sides x y b c j k f g o p o9 p9 dx sx dy sy = absurd (omega (arith, fuel, lt))
climbed ts w l le7 ends (suc d) e m fuel lt sides x y b c j k f g o p o9 p9 dx sx dy sy =
    go (next ts w (length ts) 6 b l x j f o e m (omega (arith, le7)) dx) (next ts w (length ts) 6 c l y k g p e m (omega (arith, le7)) dy)
    (λ e2 q fuel2 lt2 sides2 a1 v1 a2 v2 n1 n2 s1 s2. climbed ts w l le7 ends d e2 q fuel2 lt2 sides2 x y b c j k a1 a2 v1 v2 n1 n2 s1 sx s2 sy)
  where
    further : Op ts w b l x j f o e m → Op ts w c l y k g p e m →
        ((e2 : Exp) (q : ℕ) → length ts ≤ q + d → q < length ts → RightSides ts w (suc q) → (a1 v1 a2 v2 : ℕ) → v1 ≤ 9 → v2 ≤ 9 → Spine ts w (length ts) 6 b l x j a1 v1 e2 q → Spine ts w (length ts) 6 c l y k a2 v2 e2 q → One ts x y q j k) →
        One ts x y m j k
    further u v again =
        let op = u.1.op in
        let same : v.1.op ≡ op = same_mark v.1.op op (sym v.1.mark ∙ u.1.mark) in
        let r = above_op ts w b l x j f o e m op le7 sx u refl in
        let s = above_op ts w c l y k g p e m op le7 sy v same in
        let inside = next_token ts m (mark_of op) ends lt u.1.mark (mark_inner op) in
        let right = (sides (right_level op) (right-low op) (suc m) (le_refl (suc m)) (omega (arith, inside))).same r.0 s.0 (suc r.1) (suc s.1) r.3 s.3 r.4 r.5 s.4 s.5 in
        let spine = subst (λ (z : Exp). Spine ts w (length ts) 6 c l y k s.1 s.2 (BinaryE (tok_at ts m).line op e z) s.3) (sym right.0) s.7 in
        let z = again (BinaryE (tok_at ts m).line op e r.0) r.3 (omega (arith, fuel, right.2)) right.3
        (λ l2 le2 m2 lo2 lt2. sides l2 le2 m2 (omega (arith, lo2, right.2)) lt2) r.1 r.2 s.1 s.2 r.6 s.6 r.7
        (subst (λ (z : ℕ). Spine ts w (length ts) 6 c l y k s.1 s.2 (BinaryE (tok_at ts m).line op e r.0) z) (sym right.1) spine) in
        (z.0, z.1, omega (arith, z.2, right.2), z.3)

    go : Same b l x j f o e m ⊎ Next ts w (length ts) 6 b l x j f o e m → Same c l y k g p e m ⊎ Next ts w (length ts) 6 c l y k g p e m →
        ((e2 : Exp) (q : ℕ) → length ts ≤ q + d → q < length ts → RightSides ts w (suc q) → (a1 v1 a2 v2 : ℕ) → v1 ≤ 9 → v2 ≤ 9 → Spine ts w (length ts) 6 b l x j a1 v1 e2 q → Spine ts w (length ts) 6 c l y k a2 v2 e2 q → One ts x y q j k) →
        One ts x y m j k
    go (inl s) (inl t) again = both_end ts x y e b c f g l j k o p m lt s t
    go (inl s) (inr v) again = absurd (one_ends ts w l x y e b c f g j k o p m lt s sx (op_of ts w c l y k g p e m lt p9 v))
    go (inr u) (inl t) again = absurd (one_ends ts w l y x e c b g f k j p o m lt t sy (op_of ts w b l x j f o e m lt o9 u))
    go (inr u) (inr v) again = further (op_of ts w b l x j f o e m lt o9 u) (op_of ts w c l y k g p e m lt p9 v) again

-- An expression, where its first operand is unique.
pub exp_once : (ts : List Token) (w : Context) (l i : ℕ) → l ≤ 7 → EndsText ts → i < length ts → Unique 1 Exp ts (operand_lang ts w) nothing i → RightSides ts w (i + 1) → Unique 1 Exp ts (exp_lang ts w l) (goes_on l) i
exp_once ts w l i le7 ends lt operand sides = record { same = λ x y b c j k dx sx dy sy. go x y b c j k sx sy (first ts w (length ts) 6 b l x i j (omega (arith, le7)) dx) (first ts w (length ts) 6 c l y i k (omega (arith, le7)) dy) }
  where
    go : (x y : Exp) (b c j k : ℕ) → Stops ts (goes_on l) (length ts) j → Stops ts (goes_on l) (length ts) k → First ts w (length ts) 6 b l x i j → First ts w (length ts) 6 c l y i k → (x ≡ y) × (j ≡ k) × (1 + i ≤ j) × (j < length ts)
    go x y b c j k sx sy u v =
        let o = operand.same u.operand v.operand u.above v.above u.end v.end
        (u.is_operand, u.at_level, u.low, u.stands, closes_first ts w (length ts) 6 b l x i j le7 sx u) (λ z. refl)
        (v.is_operand, v.at_level, v.low, v.stands, closes_first ts w (length ts) 6 c l y i k le7 sy v) (λ z. refl) in
        let spine = subst (λ (z : Exp). Spine ts w (length ts) 6 c l y k v.above v.at_level z v.end) (sym o.0) v.spine in
        let z = climbed ts w l le7 ends (length ts) u.operand u.end (omega arith) o.3 (λ l2 le2 m2 lo2 lt2. sides l2 le2 m2 (omega (arith, lo2, o.2)) lt2) x y b c j k u.above v.above u.at_level v.at_level u.low v.low
        u.spine sx (subst (λ (z : ℕ). Spine ts w (length ts) 6 c l y k v.above v.at_level u.operand z) (sym o.1) spine) sy in
        (z.0, z.1, omega (arith, z.2, o.2), z.3)

-- ---- suffixes

-- Each index, call or method is unique from place p on.
abbrev pub Suffixes : List Token → Context → ℕ → Type 0
Suffixes ts w p = (left : Exp) (m : ℕ) → p ≤ m → m < length ts → Unique 1 Exp ts (suffix_lang ts w left) nothing m

-- What stands next above e.
abbrev On : List Token → Context → ℕ → Exp → ℕ → Exp → ℕ → Type 0
On ts w b x j e m = (y : Exp) × (a : ℕ) × (q : ℕ) × suffix_lang ts w e y a (length ts) 6 m q × Spine ts w (length ts) 6 b 10 x j a 10 y q

on_of : (ts : List Token) (w : Context) (b : ℕ) (x : Exp) (j c : ℕ) (e : Exp) (m : ℕ) → Next ts w (length ts) 6 b 10 x j c 10 e m → On ts w b x j e m
on_of ts w b x j c e m u = (
  u.whole,
  u.above,
  u.end,
  suffix_of ts w (length ts) 6 u.above e u.whole m u.end u.on u.head (subst (λ (z : ℕ). Tail ts w (length ts) 6 u.above z u.whole m u.end) (u.ten refl) u.tail),
  subst (λ (z : ℕ). Spine ts w (length ts) 6 b 10 x j u.above z u.whole u.end) (u.ten refl) u.spine,
)

prefix_ends : (ts : List Token) (w : Context) (x y e : Exp) (b c d g j k m : ℕ) → m < length ts → Same b 10 x j d 10 e m → Stops ts suffix_goes (length ts) j → Next ts w (length ts) 6 c 10 y k g 10 e m → ⊥
prefix_ends ts w x y e b c d g j k m lt s st u =
    let P : ℕ → Type 0 = λ v. v < length ts → suffix_goes (class_at ts v) ≡ false in
    let t = tail_suffix ts w (length ts) 6 u.above u.at_level e u.whole m u.end lt u.on u.head u.tail in
    true≢false (sym t.1 ∙ subst P s.3 st lt)

chained : (ts : List Token) (w : Context) (d : ℕ) (e : Exp) (m : ℕ) → length ts ≤ m + d → m < length ts → Suffixes ts w m → (x y : Exp) (b c j k f g : ℕ) →
    Spine ts w (length ts) 6 b 10 x j f 10 e m → Stops ts suffix_goes (length ts) j → Spine ts w (length ts) 6 c 10 y k g 10 e m → Stops ts suffix_goes (length ts) k → One ts x y m j k
chained ts w zero e m fuel lt more x y b c j k f g dx sx dy sy = absurd (omega (arith, fuel, lt))
chained ts w (suc d) e m fuel lt more x y b c j k f g dx sx dy sy =
    go (next ts w (length ts) 6 b 10 x j f 10 e m (le_refl 10) dx) (next ts w (length ts) 6 c 10 y k g 10 e m (le_refl 10) dy)
    (λ e2 q fuel2 lt2 more2 a1 a2 s1 s2. chained ts w d e2 q fuel2 lt2 more2 x y b c j k a1 a2 s1 sx s2 sy)
  where
    further : On ts w b x j e m → On ts w c y k e m →
        ((e2 : Exp) (q : ℕ) → length ts ≤ q + d → q < length ts → Suffixes ts w q → (a1 a2 : ℕ) → Spine ts w (length ts) 6 b 10 x j a1 10 e2 q → Spine ts w (length ts) 6 c 10 y k a2 10 e2 q → One ts x y q j k) → One ts x y m j k
    further r s again =
        let o = (more e m (le_refl m) lt).same r.0 s.0 r.1 s.1 r.2 s.2 r.3 (λ z. refl) s.3 (λ z. refl) in
        let spine = subst (λ (z : Exp). Spine ts w (length ts) 6 c 10 y k s.1 10 z s.2) (sym o.0) s.4 in
        let z = again r.0 r.2 (omega (arith, fuel, o.2)) o.3 (λ left m2 lo2 lt2. more left m2 (omega (arith, lo2, o.2)) lt2) r.1 s.1 r.4 (subst (λ (z : ℕ). Spine ts w (length ts) 6 c 10 y k s.1 10 r.0 z) (sym o.1) spine) in
        (z.0, z.1, omega (arith, z.2, o.2), z.3)

    go : Same b 10 x j f 10 e m ⊎ Next ts w (length ts) 6 b 10 x j f 10 e m → Same c 10 y k g 10 e m ⊎ Next ts w (length ts) 6 c 10 y k g 10 e m →
        ((e2 : Exp) (q : ℕ) → length ts ≤ q + d → q < length ts → Suffixes ts w q → (a1 a2 : ℕ) → Spine ts w (length ts) 6 b 10 x j a1 10 e2 q → Spine ts w (length ts) 6 c 10 y k a2 10 e2 q → One ts x y q j k) → One ts x y m j k
    go (inl s) (inl t) again = both_end ts x y e b c f g 10 j k 10 10 m lt s t
    go (inl s) (inr v) again = absurd (prefix_ends ts w x y e b c f g j k m lt s sx v)
    go (inr u) (inl t) again = absurd (prefix_ends ts w y x e c b g f k j m lt t sy u)
    go (inr u) (inr v) again = further (on_of ts w b x j f e m u) (on_of ts w c y k g e m v) again

-- A prefix expression, where its left end is unique.
pub prefix_once : (ts : List Token) (w : Context) (i : ℕ) → Unique 1 Exp ts (primary_lang ts w) nothing i → Suffixes ts w (i + 1) → Unique 1 Exp ts (prefix_lang ts w) suffix_goes i
prefix_once ts w i primary more = record { same = λ x y b c j k dx sx dy sy. go x y b c j k sx sy (root_of ts w (length ts) 6 b x i j dx.0 dx.1) (root_of ts w (length ts) 6 c y i k dy.0 dy.1) }
  where
    go : (x y : Exp) (b c j k : ℕ) → Stops ts suffix_goes (length ts) j → Stops ts suffix_goes (length ts) k → Root ts w (length ts) 6 b x i j → Root ts w (length ts) 6 c y i k → (x ≡ y) × (j ≡ k) × (1 + i ≤ j) × (j < length ts)
    go x y b c j k sx sy u v =
        let o = primary.same u.root v.root u.above v.above u.end v.end (u.is_primary, u.stands) (λ z. refl) (v.is_primary, v.stands) (λ z. refl) in
        let spine = subst (λ (z : Exp). Spine ts w (length ts) 6 c 10 y k v.above 10 z v.end) (sym o.0) v.spine in
        let z = chained ts w (length ts) u.root u.end (omega arith) o.3 (λ left m2 lo2 lt2. more left m2 (omega (arith, lo2, o.2)) lt2) x y b c j k u.above v.above u.spine sx
        (subst (λ (z : ℕ). Spine ts w (length ts) 6 c 10 y k v.above 10 u.root z) (sym o.1) spine) sy in
        (z.0, z.1, omega (arith, z.2, o.2), z.3)
