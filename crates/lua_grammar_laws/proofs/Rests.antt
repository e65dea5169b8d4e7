-- Two trees that one text spells from one place, where nothing goes on with them, are one tree. All tokens are given, and each
-- numeral has a value (fault 6).
--
-- What is left of a tree is a `Rest`, and both trees are read by the same one: so one lemma, `alike`, serves all sequences of the
-- grammar, once each piece is known to be unique at the places where it may begin.
use Rattle.std.proofs.Common.{◌≡◌, ◌≢◌, ℕ, suc, pred, ◌+◌, ◌<◌, ◌≤◌, ◌⊎◌, Bool, true, false, List, length, sym, ap, subst, ◌∙◌, inl, inr, le_refl, arith, true≢false, eq-or-lt_of_le}
use Rattle.lua_reading.specs.LuaLexerDeclaredTokenToken.{Token}
use Rattle.lua_reading.specs.LuaGrammarDeclaredTokenClass.{TokenClass}
use Rattle.lua_reading.specs.LuaGrammarDeclaredTokenClassTheVariants.{Eof, Name}
use Rattle.lua_reading.specs.LuaGrammarDeclaredContext.{Context}
use Rattle.lua_reading.specs.LuaGrammarTokens.{class_at}
use Rattle.lua_reading.specs.LuaSyntaxTree.{Exp, Exps, Fields, Fun, Block, Arms}
use Rattle.lua_reading.specs.LuaGrammarGrammar.{suffix_goes}
use Rattle.lua_reading.specs.Parsing.{Lang, Stops, nothing, goes_on, exps_goes, names_goes, fields_goes, block_goes, arms_goes, exp_lang, all_lang, args_lang, fields_lang, block_lang, arms_lang, prefix_lang}
use Rattle.lua_reading.specs.Answers.{suffix_lang, body_lang, params_goes, Parameters}
use Rattle.lua_reading.specs.StatAnswers.{more_names_lang}
use Rattle.lua_reading.proofs.pieces.Steps.{Kind, Rest, Done, Word, Named, Here, Under, Either, Reads, Left, Follows}
use Rattle.lua_reading.proofs.statements.Begins.{inner}
use Rattle.lua_reading.proofs.statements.SimpleSteps.{more_vars_lang}
use Rattle.lua_reading.proofs.functions.Bodies.{some_lang}

-- The last token is the end.
abbrev pub EndsText : List Token → Type 0
EndsText ts = class_at ts (pred (length ts)) ≡ Eof

-- Behind a token that isn't the end there is another.
pub next_token : (ts : List Token) (i : ℕ) (w : TokenClass) → EndsText ts → i < length ts → class_at ts i ≡ w → inner w ≡ true → i + 1 < length ts
next_token ts i w ends lt here h = go (eq-or-lt_of_le lt)
  where
    go : (suc i ≡ length ts) ⊎ (suc i < length ts) → i + 1 < length ts
    go (inl eq) = absurd (true≢false (sym h ∙ ap inner (sym here ∙ subst (λ (y : ℕ). class_at ts (pred y) ≡ Eof) (sym eq) ends)))
    go (inr x) = omega (arith, x)

-- From i at most one tree of the kind stands, which ends at one place, d tokens on at least.
pub record Unique (d : ℕ) (X : Type 0) (ts : List Token) (L : X → Lang) (goes : TokenClass → Bool) (i : ℕ) : Type 0 where
  pub same : (x y : X) (b c j k : ℕ) → L x b (length ts) 6 i j → Stops ts goes (length ts) j → L y c (length ts) 6 i k → Stops ts goes (length ts) k →
      (x ≡ y) × (j ≡ k) × (d + i ≤ j) × (j < length ts)

pub relax : {X : Type 0} {ts : List Token} {L : X → Lang} {goes : TokenClass → Bool} {i : ℕ} → Unique 1 X ts L goes i → Unique 0 X ts L goes i
relax {X} {ts} {L} {goes} {i} u = record { same = λ x y b c j k dx sx dy sy. let o = u.same x y b c j k dx sx dy sy in (o.0, o.1, omega (arith, o.2), o.3) }

-- Two classes that a test tells apart.
pub other : (f : TokenClass → Bool) {s v w : TokenClass} → s ≡ v → f v ≡ false → f w ≡ true → s ≢ w
other f here no' yes' e = true≢false (sym yes' ∙ ap f (sym e ∙ here) ∙ no')

abbrev pub is_name : TokenClass → Bool
is_name Name = true
is_name s = false

-- Only one of two ways is open from place p on.
pub record Apart (S : Type 0) (ts : List Token) (goes : TokenClass → Bool) (p : ℕ) (r s : Rest S) : Type 0 where
  pub shut : (m : ℕ) → p ≤ m → m < length ts → (x y : S) (b c j k : ℕ) → Reads ts r x b (length ts) 6 m j → Stops ts goes (length ts) j →
      Reads ts s y c (length ts) 6 m k → Stops ts goes (length ts) k → ⊥

-- Each piece of what is left is unique from place p on.
abbrev pub Sound : {S : Type 0} → List Token → (TokenClass → Bool) → ℕ → Rest S → Type 0
Sound ts goes p (Done s) = Unit {0}
Sound ts goes p (Word w r) = (inner w ≡ true) × Sound ts goes p r
Sound ts goes p (Named w r) = (inner w ≡ true) × ((x : List ℕ) → Sound ts goes p (r x))
Sound ts goes p (Here X K r) =
    (stop : TokenClass → Bool) × ((m : ℕ) → p ≤ m → m < length ts → Unique 0 X ts K.lang stop m) × ((x : X) → Follows ts goes stop (r x)) × ((x : X) → Sound ts goes p (r x))
Sound ts goes p (Under X K r) =
    (stop : TokenClass → Bool) × ((m : ℕ) → p ≤ m → m < length ts → Unique 0 X ts K.lang stop m) × ((x : X) → Follows ts goes stop (r x)) × ((x : X) → Sound ts goes p (r x))
Sound {S} ts goes p (Either r s) = Apart S ts goes p r s × Sound ts goes p r × Sound ts goes p s

-- A piece and what is left behind it.
abbrev Parts : {S X : Type 0} → List Token → (X → Lang) → (X → Rest S) → S → ℕ → ℕ → ℕ → ℕ → Type 0
Parts {S} {X} ts L r s b a i j = (e : X) × (q : ℕ) × L e a (length ts) 6 i q × Reads ts (r e) s b (length ts) 6 q j

-- The piece of one tree is that of the other.
shared : {S X : Type 0} {ts : List Token} {L : X → Lang} {stop : TokenClass → Bool} {d m : ℕ} (goes : TokenClass → Bool) (r : X → Rest S) → Unique d X ts L stop m → ((e : X) → Follows ts goes stop (r e)) →
    (x y : S) (b c a1 a2 j k : ℕ) (u : Parts ts L r x b a1 m j) → Stops ts goes (length ts) j → Parts ts L r y c a2 m k → Stops ts goes (length ts) k →
    (d + m ≤ u.1) × (u.1 < length ts) × Reads ts (r u.0) y c (length ts) 6 u.1 k
unfolding Follows
shared {S} {X} {ts} {L} {stop} {d} {m} goes r unique fol x y b c a1 a2 j k u sx v sy =
    let o = unique.same u.0 v.0 a1 a2 u.1 v.1 u.2 (fol u.0 x b (length ts) 6 u.1 j u.3 sx) v.2 (fol v.0 y c (length ts) 6 v.1 k v.3 sy) in
    let right = subst (λ (e : X). Reads ts (r e) y c (length ts) 6 v.1 k) (sym o.0) v.3 in
    (o.2, o.3, subst (λ (q : ℕ). Reads ts (r u.0) y c (length ts) 6 q k) (sym o.1) right)

-- Then what is left is unique.
pub alike : {S : Type 0} (ts : List Token) (goes : TokenClass → Bool) (p : ℕ) (r : Rest S) → EndsText ts → Sound ts goes p r → (m : ℕ) → p ≤ m → m < length ts → (x y : S) (b c j k : ℕ) →
    Reads ts r x b (length ts) 6 m j → Stops ts goes (length ts) j → Reads ts r y c (length ts) 6 m k → Stops ts goes (length ts) k → (x ≡ y) × (j ≡ k) × (m ≤ j) × (j < length ts)
alike ts goes p (Done s) ends sound m lo lt x y b c j k dx sx dy sy = (dx.0 ∙ sym dy.0, sym dx.1 ∙ dy.1, omega (arith, dx.1), omega (arith, dx.1, lt))
alike ts goes p (Word w r) ends sound m lo lt x y b c j k dx sx dy sy =
    let inside = next_token ts m w ends lt (dx.1.0 lt) sound.0 in
    let z = alike ts goes p r ends sound.1 (suc m) (omega (arith, lo)) (omega (arith, inside)) x y b c j k
    (subst (λ (v : ℕ). Reads ts r x b (length ts) 6 v j) dx.1.1 dx.2) sx (subst (λ (v : ℕ). Reads ts r y c (length ts) 6 v k) dy.1.1 dy.2) sy in
    (z.0, z.1, omega (arith, z.2), z.3)
alike ts goes p (Named w r) ends sound m lo lt x y b c j k dx sx dy sy =
    let inside = next_token ts m w ends lt (dx.2.0 lt).0 sound.0 in
    let same : dy.0 ≡ dx.0 = sym (dy.2.0 lt).1 ∙ (dx.2.0 lt).1 in
    let right = subst (λ (v : List ℕ). Reads ts (r v) y c (length ts) 6 dy.1 k) same dy.3 in
    let z = alike ts goes p (r dx.0) ends (sound.1 dx.0) (suc m) (omega (arith, lo)) (omega (arith, inside)) x y b c j k
    (subst (λ (v : ℕ). Reads ts (r dx.0) x b (length ts) 6 v j) dx.2.1 dx.3) sx (subst (λ (v : ℕ). Reads ts (r dx.0) y c (length ts) 6 v k) dy.2.1 right) sy in
    (z.0, z.1, omega (arith, z.2), z.3)
alike ts goes p (Here X K r) ends sound m lo lt x y b c j k dx sx dy sy =
    let o = shared goes r (sound.1 m lo lt) sound.2 x y b c b c j k dx sx dy sy in
    let z = alike ts goes p (r dx.0) ends (sound.3 dx.0) dx.1 (omega (arith, lo, o.0)) o.1 x y b c j k dx.3 sx o.2 sy in
    (z.0, z.1, omega (arith, o.0, z.2), z.3)
alike ts goes p (Under X K r) ends sound m lo lt x y b c j k dx sx dy sy =
    let o = shared goes r (sound.1 m lo lt) sound.2 x y b c (suc b) (suc c) j k dx sx dy sy in
    let z = alike ts goes p (r dx.0) ends (sound.3 dx.0) dx.1 (omega (arith, lo, o.0)) o.1 x y b c j k dx.3 sx o.2 sy in
    (z.0, z.1, omega (arith, o.0, z.2), z.3)
alike ts goes p (Either r s) ends sound m lo lt x y b c j k (inl dx) sx (inl dy) sy = alike ts goes p r ends sound.1 m lo lt x y b c j k dx sx dy sy
alike ts goes p (Either r s) ends sound m lo lt x y b c j k (inl dx) sx (inr dy) sy = absurd (sound.0.shut m lo lt x y b c j k dx sx dy sy)
alike ts goes p (Either r s) ends sound m lo lt x y b c j k (inr dx) sx (inl dy) sy = absurd (sound.0.shut m lo lt y x c b k j dy sy dx sx)
alike ts goes p (Either r s) ends sound m lo lt x y b c j k (inr dx) sx (inr dy) sy = alike ts goes p s ends sound.2 m lo lt x y b c j k dx sx dy sy

-- ---- two ways

pub words_apart : {S : Type 0} {ts : List Token} {goes : TokenClass → Bool} {p : ℕ} {w v : TokenClass} {r s : Rest S} → w ≢ v → Apart S ts goes p (Word w r) (Word v s)
words_apart ne = record { shut = λ m lo lt x y b c j k dx sx dy sy. ne (sym (dx.1.0 lt) ∙ dy.1.0 lt) }

-- A word with which the tree would go on.
pub done_apart : {S : Type 0} {ts : List Token} {goes : TokenClass → Bool} {p : ℕ} {e : S} {w : TokenClass} {s : Rest S} → goes w ≡ true → Apart S ts goes p (Done e) (Word w s)
done_apart {S} {ts} {goes} {p} {e} {w} {s} h = record {
  shut = λ m lo lt x y b c j k dx sx dy sy.
      let P : ℕ → Type 0 = λ v. v < length ts → goes (class_at ts v) ≡ false in
      true≢false (sym h ∙ ap goes (sym (dy.1.0 lt)) ∙ subst P (sym dx.1) sx lt);
}

-- ---- whole trees

-- What is left behind the first token, or tokens.
pub from_reads : {S : Type 0} {ts : List Token} {L : S → Lang} {goes : TokenClass → Bool} {i m : ℕ} (r : Rest S) → EndsText ts → ((x : S) (b j : ℕ) → L x b (length ts) 6 i j → Stops ts goes (length ts) j → Reads ts r x b (length ts) 6 m j) → m < length ts → i < m → Sound ts goes m r →
    Unique 1 S ts L goes i
from_reads {S} {ts} {L} {goes} {i} {m} r ends reads lt grows sound = record {
  same = λ x y b c j k dx sx dy sy.
      let z = alike ts goes m r ends sound m (le_refl m) lt x y b c j k (reads x b j dx sx) sx (reads y c k dy sy) sy in
      (z.0, z.1, omega (arith, grows, z.2), z.3);
}

pub from_left : {S : Type 0} {ts : List Token} {L : S → Lang} {goes : TokenClass → Bool} {i m h : ℕ} {r : Rest S} → EndsText ts → Left S ts L goes i r m h → m < length ts → i < m → Sound ts goes m r → Unique 1 S ts L goes i
from_left {S} {ts} {L} {goes} {i} {m} {h} {r} ends left lt grows sound = from_reads r ends (λ x b j d st. (left.down x b (length ts) 6 j lt d st).0) lt grows sound

-- A first piece that has a token, and what is left behind it.
pub from_here : {S X : Type 0} {ts : List Token} {L : S → Lang} {goes : TokenClass → Bool} {i h : ℕ} {K : Kind X} {r : X → Rest S} (stop : TokenClass → Bool) → EndsText ts → Left S ts L goes i (Here X K r) i h → i < length ts →
    Unique 1 X ts K.lang stop i → ((x : X) → Follows ts goes stop (r x)) → ((x : X) → Sound ts goes (i + 1) (r x)) → Unique 1 S ts L goes i
from_here {S} {X} {ts} {L} {goes} {i} {h} {K} {r} stop ends left lt first fol sound = record {
  same = λ x y b c j k dx sx dy sy.
      let a = (left.down x b (length ts) 6 j lt dx sx).0 in
      let o = shared goes r first fol x y b c b c j k a sx (left.down y c (length ts) 6 k lt dy sy).0 sy in
      let z = alike ts goes (i + 1) (r a.0) ends (sound a.0) a.1 (omega (arith, o.0)) o.1 x y b c j k a.3 sx o.2 sy in
      (z.0, z.1, omega (arith, o.0, z.2), z.3);
}

pub from_under : {S X : Type 0} {ts : List Token} {L : S → Lang} {goes : TokenClass → Bool} {i h : ℕ} {K : Kind X} {r : X → Rest S} (stop : TokenClass → Bool) → EndsText ts → Left S ts L goes i (Under X K r) i h → i < length ts →
    Unique 1 X ts K.lang stop i → ((x : X) → Follows ts goes stop (r x)) → ((x : X) → Sound ts goes (i + 1) (r x)) → Unique 1 S ts L goes i
from_under {S} {X} {ts} {L} {goes} {i} {h} {K} {r} stop ends left lt first fol sound = record {
  same = λ x y b c j k dx sx dy sy.
      let a = (left.down x b (length ts) 6 j lt dx sx).0 in
      let o = shared goes r first fol x y b c (suc b) (suc c) j k a sx (left.down y c (length ts) 6 k lt dy sy).0 sy in
      let z = alike ts goes (i + 1) (r a.0) ends (sound a.0) a.1 (omega (arith, o.0)) o.1 x y b c j k a.3 sx o.2 sy in
      (z.0, z.1, omega (arith, o.0, z.2), z.3);
}

-- A first word, and what is left behind it.
pub from_word : {S : Type 0} {ts : List Token} {L : S → Lang} {goes : TokenClass → Bool} {i h : ℕ} {w : TokenClass} {r : Rest S} → EndsText ts → Left S ts L goes i (Word w r) i h → i < length ts → inner w ≡ true → Sound ts goes (i + 1) r → Unique 1 S ts L goes i
from_word {S} {ts} {L} {goes} {i} {h} {w} {r} ends left lt more sound = record {
  same = λ x y b c j k dx sx dy sy.
      let a = (left.down x b (length ts) 6 j lt dx sx).0 in
      let d = (left.down y c (length ts) 6 k lt dy sy).0 in
      let inside = next_token ts i w ends lt (a.1.0 lt) more in
      let z = alike ts goes (i + 1) r ends sound (suc i) (omega arith) (omega (arith, inside)) x y b c j k
      (subst (λ (v : ℕ). Reads ts r x b (length ts) 6 v j) a.1.1 a.2) sx (subst (λ (v : ℕ). Reads ts r y c (length ts) 6 v k) d.1.1 d.2) sy in
      (z.0, z.1, omega (arith, z.2), z.3);
}

-- What is left where nothing has been read, which may be nothing.
pub from_start : {S : Type 0} {ts : List Token} {L : S → Lang} {goes : TokenClass → Bool} {i h : ℕ} {r : Rest S} (p : ℕ) → EndsText ts → Left S ts L goes i r i h → p ≤ i → i < length ts → Sound ts goes p r → Unique 0 S ts L goes i
from_start {S} {ts} {L} {goes} {i} {h} {r} p ends left lo lt sound = record {
  same = λ x y b c j k dx sx dy sy.
      let z = alike ts goes p r ends sound i lo lt x y b c j k (left.down x b (length ts) 6 j lt dx sx).0 sx (left.down y c (length ts) 6 k lt dy sy).0 sy in
      (z.0, z.1, omega (arith, z.2), z.3);
}

-- A tree that its first token alone tells.
pub from_token : {X : Type 0} {ts : List Token} {L : X → Lang} {goes : TokenClass → Bool} {i : ℕ} (e : X) → i + 1 < length ts → ((x : X) (b j : ℕ) → L x b (length ts) 6 i j → (x ≡ e) × (j ≡ suc i)) → Unique 1 X ts L goes i
from_token {X} {ts} {L} {goes} {i} e inside is = record {
  same = λ x y b c j k dx sx dy sy.
      let u = is x b j dx in
      let v = is y c k dy in
      (u.0 ∙ sym v.0, u.1 ∙ sym v.1, omega (arith, u.1), omega (arith, u.1, inside));
}

-- ---- all kinds of trees

-- From place p on each kind of tree is unique.
pub record Sure (ts : List Token) (p : ℕ) : Type 0 where
  pub exp : (w : Context) (l : ℕ) → l ≤ 7 → (m : ℕ) → p ≤ m → m < length ts → Unique 0 Exp ts (exp_lang ts w l) (goes_on l) m
  pub prefix : (w : Context) (m : ℕ) → p ≤ m → m < length ts → Unique 1 Exp ts (prefix_lang ts w) suffix_goes m
  pub suffix : (w : Context) (left : Exp) (m : ℕ) → p ≤ m → m < length ts → Unique 1 Exp ts (suffix_lang ts w left) nothing m
  pub args : (w : Context) (m : ℕ) → p ≤ m → m < length ts → Unique 0 Exps ts (args_lang ts w) nothing m
  pub all : (w : Context) (m : ℕ) → p ≤ m → m < length ts → Unique 0 Exps ts (all_lang ts w) exps_goes m
  pub vars : (w : Context) (m : ℕ) → p ≤ m → m < length ts → Unique 0 Exps ts (more_vars_lang ts w) names_goes m
  pub fields : (w : Context) (m : ℕ) → p ≤ m → m < length ts → Unique 0 Fields ts (fields_lang ts w) fields_goes m
  pub names : (m : ℕ) → p ≤ m → m < length ts → Unique 0 (List (List ℕ)) ts (more_names_lang ts) names_goes m
  pub some : (m : ℕ) → p ≤ m → m < length ts → Unique 0 Parameters ts (some_lang ts) params_goes m
  pub body : (method : Bool) (w : Context) (m : ℕ) → p ≤ m → m < length ts → Unique 0 Fun ts (body_lang method ts w) nothing m
  pub block : (w : Context) (m : ℕ) → p ≤ m → m < length ts → Unique 0 Block ts (block_lang ts w) block_goes m
  pub arms : (w : Context) (m : ℕ) → p ≤ m → m < length ts → Unique 0 Arms ts (arms_lang ts w) arms_goes m
