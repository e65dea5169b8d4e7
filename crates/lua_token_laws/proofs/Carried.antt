-- What tokens spell their twins spell, with other lines: part by part, then production by production, as the grammar goes.
use Rattle.std.proofs.Common.{◌≡◌, ℕ, pred, ◌<◌, ◌≤◌, ◌≢◌, ◌⊎◌, inl, inr, true, false, Bool, List, [], ◌∷◌, length, refl, sym, ap, subst, ◌∙◌, arith, true≢false}
use Rattle.std.specs.Prelude.{ℤ}
use Rattle.lua_syntax.specs.declared.BinaryOp.{BinaryOp}
use Rattle.lua_syntax.specs.declared.BinaryOp.TheVariants.{Or as OrOp, And as AndOp, Lt, Gt, Le, Ge, Ne, Eq, Concat, Add, Sub, Mul, Div, Mod, Pow}
use Rattle.lua_syntax.specs.declared.UnaryOp.{UnaryOp}
use Rattle.lua_syntax.specs.declared.UnaryOp.TheVariants.{Not as NotOp, Len, Minus as MinusOp}
use Rattle.lua_grammar.specs.LuaNumberNumerals.{read_numeral_of}
use Rattle.lua_lexer.specs.declared.token.Token.{Token}
use Rattle.lua_lexer.specs.declared.token.TokenKind.{TokenKind}
use Rattle.lua_grammar.specs.declared.Context.{Context}
use Rattle.lua_grammar.specs.declared.TokenClass.{TokenClass}
use Rattle.lua_grammar.specs.declared.TokenClass.TheVariants.{Name, Number, Text, Eof, Break, Do, Else, Elseif, End, False, For, Function, If, In, Local, Nil, Repeat, Return, Then, True, Until, While, Assign, LeftParen, RightParen, LeftBrace, RightBrace, LeftBracket, RightBracket, Semicolon, Colon, Comma, Dot, Dots}
use Rattle.lua_grammar.specs.Tokens.{kind_class, kind_bytes, tok_at}
use Rattle.lua_grammar.specs.Grammar.{GivenTokens, given_tokens, token, Span, ◌⨟◌, ◌∣◌, none, where', word, text, node, Agrees, valued, word_if, opens, suffix_goes, ends, separator, under, before, in_loop, in_function, IsPrefix, IsVar, AreVars, IsCall, IsLast, IsEmpty, HasNone, IsAlone, NoneLeft, MoreNames, Names, Params, SpellsDot, SpellsName, SpellsPath, IsPath, IsMethodPath, mark_of, sign_of, left_level, right_level, Spells, SpellsArgs, SpellsAll, MoreExps, SpellsFields, SpellsFun, SpellsMethod, SpellsNamed, SpellsBlock, SpellsArms, MoreArms, SpellsStat, SpellsChunk, IsChunk, outside}
use Rattle.lua_syntax.specs.Tree.{Exp, Exps, Fields, Fun, Block, Arms, Stat, NilE, TrueE, FalseE, NumberE, TextE, DotsE, FunctionE, NameE, IndexE, CallE, MethodE, TableE, BinaryE, UnaryE, ParenE, NoExp, MoreExp, NoField, Item, Pair, Lambda, NoStat, MoreStat, NoArm, Arm, AssignS, CallS, DoS, WhileS, RepeatS, IfS, IfElseS, CountS, CountByS, EachS, LocalFunctionS, LocalS, ReturnS, BreakS}
use Rattle.lua_token_laws.specs.Twins.{relined_exp, relined_exps, relined_fields, relined_fun, relined, relined_arms, relined_stat, AreTwins}

-- ---- what a tree is, whatever its lines

module _ (f : ℕ → ℕ) where
  prefix-kept : (e : Exp) → IsPrefix e → IsPrefix (relined_exp f e)
  prefix-kept (NameE l n) h = tt
  prefix-kept (IndexE l t k) h = tt
  prefix-kept (CallE l fn es) h = tt
  prefix-kept (MethodE l o n es) h = tt
  prefix-kept (ParenE l e) h = tt
  prefix-kept e h = absurd h

  var-kept : (e : Exp) → IsVar e → IsVar (relined_exp f e)
  var-kept (NameE l n) h = tt
  var-kept (IndexE l t k) h = tt
  var-kept e h = absurd h

  vars-kept : (es : Exps) → AreVars es → AreVars (relined_exps f es)
  vars-kept NoExp h = tt
  vars-kept (MoreExp e es) h = (var-kept e h.0, vars-kept es h.1)

  call-kept : (e : Exp) → IsCall e → IsCall (relined_exp f e)
  call-kept (CallE l fn es) h = tt
  call-kept (MethodE l o n es) h = tt
  call-kept e h = absurd h

  last-back : (s : Stat) → IsLast (relined_stat f s) → IsLast s
  last-back (ReturnS l es) h = tt
  last-back (BreakS l) h = tt
  last-back s h = absurd h

  empty-kept : (b : Block) → IsEmpty b → IsEmpty (relined f b)
  empty-kept NoStat h = tt
  empty-kept (MoreStat s b) h = absurd h

  none-kept : (es : Exps) → HasNone es → HasNone (relined_exps f es)
  none-kept NoExp h = tt
  none-kept (MoreExp e es) h = absurd h

  alone-kept : (e : Exp) (es : Exps) → IsAlone e es → IsAlone (relined_exp f e) (relined_exps f es)
  alone-kept (TextE l b) NoExp h = tt
  alone-kept (TableE l fs) NoExp h = tt
  alone-kept e es h = absurd h

  none_left-kept : (fs : Fields) → NoneLeft fs → NoneLeft (relined_fields f fs)
  none_left-kept NoField h = tt
  none_left-kept (Item e fs) h = absurd h
  none_left-kept (Pair k e fs) h = absurd h

-- The same, of other tokens.
abbrev twin : List Token → GivenTokens → GivenTokens
twin us g = record { tokens = us; given = g.given; free_of = g.free_of }

-- ---- classes

abbrev is_end : TokenClass → Bool
is_end Eof = true
is_end class = false

not_end : (class s : TokenClass) → class ≡ s → is_end s ≡ false → class ≢ Eof
not_end class s e q wrong = absurd (true≢false (ap is_end (sym wrong ∙ e) ∙ q))

mark_plain : (op : BinaryOp) → is_end (mark_of op) ≡ false
mark_plain OrOp = refl
mark_plain AndOp = refl
mark_plain Lt = refl
mark_plain Gt = refl
mark_plain Le = refl
mark_plain Ge = refl
mark_plain Ne = refl
mark_plain Eq = refl
mark_plain Concat = refl
mark_plain Add = refl
mark_plain Sub = refl
mark_plain Mul = refl
mark_plain Div = refl
mark_plain Mod = refl
mark_plain Pow = refl

sign_plain : (op : UnaryOp) → is_end (sign_of op) ≡ false
sign_plain NotOp = refl
sign_plain Len = refl
sign_plain MinusOp = refl

module _ (g : GivenTokens) (us : List Token) (f : ℕ → ℕ) (kinds : (i : ℕ) → i < g.given → (tok_at us i).kind ≡ (token g i).kind)
    (lines : (i : ℕ) → i < g.given → kind_class (token g i).kind ≢ Eof → (tok_at us i).line ≡ f (token g i).line)
    (beside : (i : ℕ) → i < g.given → kind_class (token g i).kind ≢ Eof → (token g i).line ≡ (token g (pred i)).end_line → (tok_at us i).line ≡ (tok_at us (pred i)).end_line) where
  -- ---- wherever one thing stands, another does

  record Kept (i j : ℕ) (X : Type 0) : Type 0 where
    some : i ≤ j
    it : X

  abbrev Keeps : Span → Span → Type 0
  Keeps A B = (i j : ℕ) → A i j → j ≤ g.given → Kept i j (B i j)

  -- The same of what begins with a token, the end left out: the line of that token is known.
  record Begun (i j : ℕ) (X : Type 0) : Type 0 where
    some : i < j
    lined : (tok_at us i).line ≡ f (token g i).line
    it : X

  abbrev Begins : Span → Span → Type 0
  Begins A B = (i j : ℕ) → A i j → j ≤ g.given → Begun i j (B i j)

  kept : {A B : Span} → Begins A B → Keeps A B
  kept a i j d le = let r = a i j d le in record { some = omega (arith, r.some); it = r.it }

  nothing : Keeps none none
  nothing i j e le = record { some = omega (arith, e); it = e }

  where-kept : {P Q : Type 0} → (P → Q) → Keeps (where' P) (where' Q)
  where-kept h i j (p, e) le = record { some = omega (arith, e); it = (h p, e) }

  -- two things behind one another
  infixr 4 ◌⟫◌
  ◌⟫◌ : {A B C D : Span} → Keeps A C → Keeps B D → Keeps (A ⨟ B) (C ⨟ D)
  (a ⟫ b) i j (m, x, y) le =
      let r = b m j y le in
      let q = a i m x (omega (arith, r.some, le)) in
      record { some = omega (arith, q.some, r.some); it = (m, q.it, r.it) }

  infixr 4 ◌⊳◌
  ◌⊳◌ : {A B C D : Span} → Begins A C → Keeps B D → Begins (A ⨟ B) (C ⨟ D)
  (a ⊳ b) i j (m, x, y) le =
      let r = b m j y le in
      let q = a i m x (omega (arith, r.some, le)) in
      record { some = omega (arith, q.some, r.some); lined = q.lined; it = (m, q.it, r.it) }

  -- one of two things
  either : {A B C D : Span} → Keeps A C → Keeps B D → Keeps (A ∣ B) (C ∣ D)
  either a b i j (inl x) le = let r = a i j x le in record { some = r.some; it = inl r.it }
  either a b i j (inr y) le = let r = b i j y le in record { some = r.some; it = inr r.it }

  either-begun : {A B C D : Span} → Begins A C → Begins B D → Begins (A ∣ B) (C ∣ D)
  either-begun a b i j (inl x) le = let r = a i j x le in record { some = r.some; lined = r.lined; it = inl r.it }
  either-begun a b i j (inr y) le = let r = b i j y le in record { some = r.some; lined = r.lined; it = inr r.it }

  where-begun : {P Q : Type 0} {A C : Span} → (P → Q) → Begins A C → Begins (where' P ⨟ A) (where' Q ⨟ C)
  where-begun {P} {Q} {A} {C} h a i j (m, (p, e), y) le =
      let r : Begun m j (C m j) = a m j y le in
      record { some = omega (arith, e, r.some); lined = subst (λ (k : ℕ). (tok_at us k).line ≡ f (token g k).line) (sym e) r.lined; it = (m, (h p, e), r.it) }

  -- ---- tokens

  class-kept : (i : ℕ) (s : TokenClass) → i < g.given → kind_class (token g i).kind ≡ s → kind_class (tok_at us i).kind ≡ s
  class-kept i s lt e = ap kind_class (kinds i lt) ∙ e

  word-is : (s : TokenClass) (i j : ℕ) → word g s i j → word (twin us g) s i j
  word-is s i j (is, e) = ((λ lt. class-kept i s lt (is lt)), e)

  word-kept : (s : TokenClass) → Keeps (word g s) (word (twin us g) s)
  word-kept s i j d le = record { some = omega (arith, d.1); it = word-is s i j d }

  word-begun : (s : TokenClass) → is_end s ≡ false → Begins (word g s) (word (twin us g) s)
  word-begun s q i j d le =
      let lt : i < g.given = omega (arith, d.1, le) in
      record { some = omega (arith, d.1); lined = lines i lt (not_end _ s (d.0 lt) q); it = word-is s i j d }

  text-is : (s : TokenClass) (bytes : List ℕ) (i j : ℕ) → text g s bytes i j → text (twin us g) s bytes i j
  text-is s bytes i j (is, e) = ((λ lt. (class-kept i s lt (is lt).0, ap kind_bytes (kinds i lt) ∙ (is lt).1)), e)

  text-kept : (s : TokenClass) (bytes : List ℕ) → Keeps (text g s bytes) (text (twin us g) s bytes)
  text-kept s bytes i j d le = record { some = omega (arith, d.1); it = text-is s bytes i j d }

  text-begun : (s : TokenClass) (bytes : List ℕ) → is_end s ≡ false → Begins (text g s bytes) (text (twin us g) s bytes)
  text-begun s bytes q i j d le =
      let lt : i < g.given = omega (arith, d.1, le) in
      record { some = omega (arith, d.1); lined = lines i lt (not_end _ s (d.0 lt).0 q); it = text-is s bytes i j d }

  value-begun : (v : ℤ) → Begins (valued g v) (valued (twin us g) v)
  value-begun v i j (is, free, e) le =
      let lt : i < g.given = omega (arith, e, le) in
      record {
        some = omega (arith, e);
        lined = lines i lt (not_end _ Number (is lt).0 refl);
        it = (
          (λ here. subst (λ (k : TokenKind). (kind_class k ≡ Number) × Agrees (read_numeral_of (kind_bytes k)) v) (sym (kinds i here)) (is here)),
          (λ rule here. ap (λ (k : TokenKind). read_numeral_of (kind_bytes k)) (kinds i here) ∙ free rule here),
          e,
        );
      }

  word_if-begun : (s : TokenClass) (k : ℕ) (P : Type 0) → is_end s ≡ false → Begins (word_if g s k P) (word_if (twin us g) s k P)
  word_if-begun s k P q i j (is, free, e) le =
      let lt : i < g.given = omega (arith, e, le) in
      record { some = omega (arith, e); lined = lines i lt (not_end _ s (is lt) q); it = ((λ here. class-kept i s here (is here)), free, e) }

  opening-begun : Begins (opens g) (opens (twin us g))
  opening-begun i j (is, free, e) le =
      let lt : i < g.given = omega (arith, e, le) in
      record {
        some = omega (arith, e);
        lined = lines i lt (not_end _ LeftParen (is lt) refl);
        it = ((λ here. class-kept i LeftParen here (is here)), (λ rule here. beside i here (not_end _ LeftParen (is here) refl) (free rule here)), e);
      }

  end-kept : (l : ℕ) → Keeps (ends g l) (ends (twin us g) l)
  end-kept l i j (is, e) le = record { some = omega (arith, e); it = ((λ low lt. ap (λ (k : TokenKind). suffix_goes (kind_class k)) (kinds i lt) ∙ is low lt), e) }

  separator-kept : Keeps (separator g) (separator (twin us g))
  separator-kept i j (is, e) le =
      record { some = omega (arith, e); it = ((λ lt. subst (λ (k : TokenKind). (kind_class k ≡ Comma) ⊎ (kind_class k ≡ Semicolon)) (sym (kinds i lt)) (is lt)), e) }

  -- A node, and what begins with the token of its line.
  node-begun : {A C : Span} (w : Context) (line : ℕ) → Begins A C → Begins (node g w line ⨟ A) (node (twin us g) w (f line) ⨟ C)
  node-begun {A} {C} w line a i j (m, (e, low, here), y) le =
      let r : Begun m j (C m j) = a m j y le in
      let lined : (tok_at us i).line ≡ f (token g i).line = subst (λ (k : ℕ). (tok_at us k).line ≡ f (token g k).line) (sym here) r.lined in
      record { some = omega (arith, here, r.some); lined = lined; it = (m, (ap f e ∙ sym lined, low, here), r.it) }

  -- ---- names

  more_names : (ns : List (List ℕ)) → Keeps (MoreNames g ns) (MoreNames (twin us g) ns)
  more_names [] = nothing
  more_names (x ∷ ns) = word-kept Comma ⟫ text-kept Name x ⟫ more_names ns

  names : (ns : List (List ℕ)) → Keeps (Names g ns) (Names (twin us g) ns)
  names [] = where-kept (λ h. h)
  names (x ∷ ns) = text-kept Name x ⟫ more_names ns

  params : (ns : List (List ℕ)) (dots : Bool) → Keeps (Params g ns dots) (Params (twin us g) ns dots)
  params [] false = nothing
  params [] true = word-kept Dots
  params (x ∷ ns) false = names (x ∷ ns)
  params (x ∷ ns) true = names (x ∷ ns) ⟫ word-kept Comma ⟫ word-kept Dots

  -- ---- keys and paths

  dot_key : (k : Exp) (w : Context) → Begins (SpellsDot g w k) (SpellsDot (twin us g) w (relined_exp f k))
  dot_key (TextE line x) w = word-begun Dot refl ⊳ kept (node-begun w line (text-begun Name x refl))
  dot_key k w = λ i j h le. absurd h.0

  name_key : (k : Exp) (w : Context) → Begins (SpellsName g w k) (SpellsName (twin us g) w (relined_exp f k))
  name_key (TextE line x) w = node-begun w line (text-begun Name x refl)
  name_key k w = λ i j h le. absurd h.0

  path : (e : Exp) (w : Context) → Begins (SpellsPath g w e) (SpellsPath (twin us g) w (relined_exp f e))
  unfolding SpellsPath
  path (NameE line x) w = node-begun w line (text-begun Name x refl)
  path (IndexE line t k) w = λ i j (m, left, right) le.
      let r = node-begun w line (dot_key k (under w)) m j right le in
      let q = path t (before g m w) i m left (omega (arith, r.some, le)) in
      record { some = omega (arith, q.some, r.some); lined = q.lined; it = (m, q.it, r.it) }
  path e w = λ i j h le. absurd h

  function_path : (ts : Exps) (w : Context) → Keeps (IsPath g w ts) (IsPath (twin us g) w (relined_exps f ts))
  function_path (MoreExp e NoExp) w = kept (path e w)
  function_path ts w = λ i j h le. absurd h.0

  method_path : (ts : Exps) (w : Context) → Keeps (IsMethodPath g w ts) (IsMethodPath (twin us g) w (relined_exps f ts))
  method_path (MoreExp (IndexE line t k) NoExp) w = λ i j (m, left, right) le.
      let r = node-begun w line (word-begun Colon refl ⊳ kept (name_key k (under w))) m j right le in
      let q = path t (before g m w) i m left (omega (arith, r.some, le)) in
      record { some = omega (arith, q.some, r.some); it = (m, q.it, r.it) }
  method_path ts w = λ i j h le. absurd h

  -- ---- productions

  mutual
    unfolding Spells

    exp : (e : Exp) (l : ℕ) (w : Context) → Begins (Spells g w l e) (Spells (twin us g) w l (relined_exp f e))
    exp (NilE line) l w = node-begun w line (word-begun Nil refl)
    exp (TrueE line) l w = node-begun w line (word-begun True refl)
    exp (FalseE line) l w = node-begun w line (word-begun False refl)
    exp (NumberE line x) l w = node-begun w line (value-begun x)
    exp (TextE line bytes) l w = node-begun w line (text-begun Text bytes refl)
    exp (DotsE line) l w = node-begun w line (word_if-begun Dots 10 (w.vararg ≡ true) refl)
    exp (FunctionE line fn) l w = node-begun w line (word-begun Function refl ⊳ fun fn (under w))
    exp (TableE line fs) l w = node-begun w line (word-begun LeftBrace refl ⊳ fields fs (under w) ⟫ word-kept RightBrace)
    exp (UnaryE line op e) l w = λ i j (low, h) le.
        let r = node-begun w line (word-begun (sign_of op) (sign_plain op) ⊳ kept (exp e 7 (under w))) i j h le in
        record { some = r.some; lined = r.lined; it = (low, r.it) }
    exp (BinaryE line op a b) l w = λ i j (m, left, low, right) le.
        let r = node-begun w line (word-begun (mark_of op) (mark_plain op) ⊳ kept (exp b (right_level op) (under w))) m j right le in
        let q = exp a (left_level op) (before g m w) i m left (omega (arith, r.some, le)) in
        record { some = omega (arith, q.some, r.some); lined = q.lined; it = (m, q.it, low, r.it) }
    exp (NameE line x) l w = node-begun w line (text-begun Name x refl ⊳ end-kept l)
    exp (ParenE line e) l w = node-begun w line (word-begun LeftParen refl ⊳ kept (exp e 1 (under w)) ⟫ word-kept RightParen ⟫ end-kept l)
    exp (IndexE line t k) l w = λ i j (m, left, p, right) le.
        let r = node-begun w line (either-begun (dot_key k (under w)) (word-begun LeftBracket refl ⊳ kept (exp k 1 (under w)) ⟫ word-kept RightBracket) ⊳ end-kept l) m j right le in
        let q = exp t 10 (before g m w) i m left (omega (arith, r.some, le)) in
        record { some = omega (arith, q.some, r.some); lined = q.lined; it = (m, q.it, prefix-kept f t p, r.it) }
    exp (CallE line fn es) l w = λ i j (m, left, p, right) le.
        let r = node-begun w line (args es (under w) ⊳ end-kept l) m j right le in
        let q = exp fn 10 (before g m w) i m left (omega (arith, r.some, le)) in
        record { some = omega (arith, q.some, r.some); lined = q.lined; it = (m, q.it, prefix-kept f fn p, r.it) }
    exp (MethodE line o x es) l w = λ i j (m, left, p, right) le.
        let r = node-begun w line (word-begun Colon refl ⊳ text-kept Name x ⟫ kept (args es (under w)) ⟫ end-kept l) m j right le in
        let q = exp o 10 (before g m w) i m left (omega (arith, r.some, le)) in
        record { some = omega (arith, q.some, r.some); lined = q.lined; it = (m, q.it, prefix-kept f o p, r.it) }

    args : (es : Exps) (w : Context) → Begins (SpellsArgs g w es) (SpellsArgs (twin us g) w (relined_exps f es))
    args NoExp w = opening-begun ⊳ word-kept RightParen
    args (MoreExp e es) w = either-begun (opening-begun ⊳ kept (exp e 1 w) ⟫ more es w ⟫ word-kept RightParen) (where-begun (alone-kept f e es) (exp e 9 w))

    all : (es : Exps) (w : Context) → Begins (SpellsAll g w es) (SpellsAll (twin us g) w (relined_exps f es))
    all NoExp w = λ i j h le. absurd h
    all (MoreExp e es) w = exp e 1 w ⊳ more es w

    more : (es : Exps) (w : Context) → Keeps (MoreExps g w es) (MoreExps (twin us g) w (relined_exps f es))
    more NoExp w = nothing
    more (MoreExp e es) w = word-kept Comma ⟫ kept (exp e 1 w) ⟫ more es w

    fields : (fs : Fields) (w : Context) → Keeps (SpellsFields g w fs) (SpellsFields (twin us g) w (relined_fields f fs))
    fields NoField w = nothing
    fields (Item e fs) w = kept (exp e 1 w) ⟫ either (where-kept (none_left-kept f fs)) (separator-kept ⟫ fields fs w)
    fields (Pair k e fs) w = either (kept (name_key k w)) (word-kept LeftBracket ⟫ kept (exp k 1 w) ⟫ word-kept RightBracket)
        ⟫ word-kept Assign ⟫ kept (exp e 1 w) ⟫ either (where-kept (none_left-kept f fs)) (separator-kept ⟫ fields fs w)

    fun : (fn : Fun) (w : Context) → Keeps (SpellsFun g w fn) (SpellsFun (twin us g) w (relined_fun f fn))
    fun (Lambda ps dots b) w = word-kept LeftParen ⟫ params ps dots ⟫ word-kept RightParen ⟫ block b (in_function dots w) ⟫ word-kept End

    method : (fn : Fun) (w : Context) → Keeps (SpellsMethod g w fn) (SpellsMethod (twin us g) w (relined_fun f fn))
    method (Lambda [] dots b) w = λ i j h le. absurd h
    method (Lambda (p ∷ ps) dots b) w = where-kept (λ h. h) ⟫ word-kept LeftParen ⟫ params ps dots ⟫ word-kept RightParen ⟫ block b (in_function dots w) ⟫ word-kept End

    named : (ts es : Exps) (w : Context) → Begins (SpellsNamed g w ts es) (SpellsNamed (twin us g) w (relined_exps f ts) (relined_exps f es))
    named ts (MoreExp (FunctionE line fn) NoExp) w =
        node-begun w line (word-begun Function refl ⊳ either (function_path ts w ⟫ fun fn (under w)) (method_path ts w ⟫ method fn (under w)))
    named ts es w = λ i j h le. absurd h

    block : (b : Block) (w : Context) → Keeps (SpellsBlock g w b) (SpellsBlock (twin us g) w (relined f b))
    block NoStat w = nothing
    block (MoreStat s b) w = kept (stat s w) ⟫ where-kept (λ h last. empty-kept f b (h (last-back f s last))) ⟫ either nothing (word-kept Semicolon) ⟫ block b w

    arms : (a : Arms) (w : Context) → Keeps (SpellsArms g w a) (SpellsArms (twin us g) w (relined_arms f a))
    arms NoArm w = λ i j h le. absurd h
    arms (Arm e b a) w = kept (exp e 1 w) ⟫ word-kept Then ⟫ block b w ⟫ more_arms a w

    more_arms : (a : Arms) (w : Context) → Keeps (MoreArms g w a) (MoreArms (twin us g) w (relined_arms f a))
    more_arms NoArm w = nothing
    more_arms (Arm e b a) w = word-kept Elseif ⟫ kept (exp e 1 w) ⟫ word-kept Then ⟫ block b w ⟫ more_arms a w

    stat : (s : Stat) (w : Context) → Begins (SpellsStat g w s) (SpellsStat (twin us g) w (relined_stat f s))
    stat (AssignS line ts es) w =
        node-begun w line (either-begun (where-begun (vars-kept f ts) (all ts (under w) ⊳ word-kept Assign ⟫ kept (all es (under w)))) (named ts es (under w)))
    stat (CallS line e) w = λ i j (call, h) le.
        let r = node-begun w line (exp e 9 (under w)) i j h le in
        record { some = r.some; lined = r.lined; it = (call-kept f e call, r.it) }
    stat (DoS line b) w = node-begun w line (word-begun Do refl ⊳ block b (under w) ⟫ word-kept End)
    stat (WhileS line e b) w = node-begun w line (word-begun While refl ⊳ kept (exp e 1 (under w)) ⟫ word-kept Do ⟫ block b (in_loop w) ⟫ word-kept End)
    stat (RepeatS line b e) w = node-begun w line (word-begun Repeat refl ⊳ block b (in_loop w) ⟫ word-kept Until ⟫ kept (exp e 1 (under w)))
    stat (IfS line a) w = node-begun w line (word-begun If refl ⊳ arms a (under w) ⟫ word-kept End)
    stat (IfElseS line a b) w = node-begun w line (word-begun If refl ⊳ arms a (under w) ⟫ word-kept Else ⟫ block b (under w) ⟫ word-kept End)
    stat (CountS line x from to b) w = node-begun w line (word-begun For refl ⊳ text-kept Name x ⟫ word-kept Assign ⟫ kept (exp from 1 (under w))
        ⟫ word-kept Comma ⟫ kept (exp to 1 (under w)) ⟫ word-kept Do ⟫ block b (in_loop w) ⟫ word-kept End)
    stat (CountByS line x from to by b) w = node-begun w line (word-begun For refl ⊳ text-kept Name x ⟫ word-kept Assign ⟫ kept (exp from 1 (under w))
        ⟫ word-kept Comma ⟫ kept (exp to 1 (under w)) ⟫ word-kept Comma ⟫ kept (exp by 1 (under w)) ⟫ word-kept Do ⟫ block b (in_loop w) ⟫ word-kept End)
    stat (EachS line ns es b) w = node-begun w line (word-begun For refl ⊳ names ns ⟫ word-kept In ⟫ kept (all es (under w)) ⟫ word-kept Do ⟫ block b (in_loop w) ⟫ word-kept End)
    stat (LocalFunctionS line x fn) w = node-begun w line (word-begun Local refl ⊳ word-kept Function ⟫ text-kept Name x ⟫ fun fn (under w))
    stat (LocalS line ns es) w = node-begun w line (word-begun Local refl ⊳ names ns ⟫ either (where-kept (none-kept f es)) (word-kept Assign ⟫ kept (all es (under w))))
    stat (ReturnS line es) w = node-begun w line (word-begun Return refl ⊳ either (where-kept (none-kept f es)) (kept (all es (under w))))
    stat (BreakS line) w = node-begun w line (word_if-begun Break 8 (w.inside_loop ≡ true) refl)

  chunk : (b : Block) (j : ℕ) → SpellsChunk g b j → j ≤ g.given → SpellsChunk (twin us g) (relined f b) j
  unfolding SpellsChunk
  chunk b j d le = ((block b outside ⟫ word-kept Eof) 0 j d le).it

pub twins_spell : (f : ℕ → ℕ) (ts us : List Token) (b : Block) → AreTwins f ts us → IsChunk ts b → IsChunk us (relined f b)
unfolding IsChunk
twins_spell f ts us b t h k =
    subst (λ (n : ℕ). SpellsChunk (given_tokens us n k) (relined f b) n) (sym t.size)
    (chunk (given_tokens ts (length ts) k) us f t.kinds t.lines t.beside b (length ts) (h k) (omega arith))
