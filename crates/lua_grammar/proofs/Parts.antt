-- The parts of productions in which no list of trees stands, with the facts of their rule: numerals, names, keys and paths.
use Rattle.std.proofs.Common.{◌≡◌, ℕ, ◌<◌, Bool, true, false, List, [], ◌∷◌, refl, subst, arith}
use Rattle.std.specs.Prelude.{ℤ, pos, Option, Some, None, nat_lt, ◌^◌, if◌then◌else◌}
use Rattle.std.specs.Option.{option_map}
use Rattle.std.proofs.lemmas.Bool.{ltb-true}
use Rattle.lua_number.specs.Numerals.{in_range, numeral_of, read_numeral_of}
use Rattle.lua_grammar.specs.declared.Context.{Context}
use Rattle.lua_grammar.specs.declared.TokenClass.TheVariants.{Name, Dot, Comma, Colon, Dots}
use Rattle.lua_grammar.specs.Grammar.{GivenTokens, valued, ends, IsVar, AreVars, MoreNames, Names, Params, SpellsDot, SpellsName, SpellsPath, IsPath, IsMethodPath, under}
use Rattle.lua_grammar.specs.Facts.{IsNumeral, HasExp, HasName}
use Rattle.lua_grammar.proofs.Rules.{RuledExp, RuledExps}
use Rattle.lua_grammar.proofs.Within.{Within, Inside, is_word, is_text, nothing, loosely, nameless, one_token, with_rest, token_then, token_rest, leaf, node_between, never}
use Rattle.lua_lexer.specs.LuaSyntaxTree.{Exp, Exps, TextE, NameE, IndexE, NoExp, MoreExp}

-- ---- numerals

abbrev AreNumerals : Option ℤ → Type 0
AreNumerals None = Unit {0}
AreNumerals (Some v) = IsNumeral v

in_range-numeral : (o : Option ℕ) → AreNumerals (in_range (option_map pos o))
in_range-numeral None = tt
in_range-numeral (Some n) = by_test (nat_lt n (2 ^ 63)) refl
  where
    by_test : (b : Bool) → nat_lt n (2 ^ 63) ≡ b → AreNumerals (if b then Some (pos n) else None)
    by_test true e = let lt : n < 9223372036854775808 = ltb-true n (2 ^ 63) e in omega (arith, lt)
    by_test false e = tt

pub numeral : (bytes : List ℕ) (v : ℤ) → read_numeral_of bytes ≡ Some v → IsNumeral v
unfolding read_numeral_of
numeral bytes v e = subst AreNumerals e (in_range-numeral (numeral_of bytes))

-- ---- what has no more than names or one text

module _ (g : GivenTokens) where
  pub value : (v : ℤ) → Inside g (valued g v) (g.free_of ≡ 6 → IsNumeral v)
  value v i j d le = (omega (arith, d.2), (λ rule. numeral _ v (d.1 rule (omega (arith, d.2, le)))))

  pub prefix_end : (l : ℕ) → Within g (ends g l) (Unit {0})
  prefix_end l i j d le = (omega (arith, d.1), tt)

  pub more_names : (ns : List (List ℕ)) → Within g (MoreNames g ns) (Unit {0})
  more_names [] = nothing g
  more_names (n ∷ ns) = loosely g (token_then g (is_word g Comma) (token_rest g (is_text g Name n) (more_names ns)))

  pub names : (ns : List (List ℕ)) → Inside g (Names g ns) (HasName ns)
  names [] = never g
  names (n ∷ ns) = token_rest g (is_text g Name n) (more_names ns)

  pub params : (ns : List (List ℕ)) (dots : Bool) → Within g (Params g ns dots) (Unit {0})
  params [] false = nothing g
  params [] true = loosely g (one_token g (is_word g Dots))
  params (n ∷ ns) false = nameless g (names (n ∷ ns))
  params (n ∷ ns) true = nameless g (with_rest g (names (n ∷ ns)) (loosely g (token_then g (is_word g Comma) (one_token g (is_word g Dots)))))

  -- ---- keys and paths

  pub dot_key : (w : Context) (k : Exp) → Inside g (SpellsDot g w k) (RuledExp g.free_of w k)
  unfolding RuledExp
  dot_key w (TextE line n) = token_then g (is_word g Dot) (leaf g w line (one_token g (is_text g Name n)))
  dot_key w k = never g

  pub name_key : (w : Context) (k : Exp) → Inside g (SpellsName g w k) (RuledExp g.free_of w k)
  unfolding RuledExp
  name_key w (TextE line n) = leaf g w line (one_token g (is_text g Name n))
  name_key w k = never g

  pub path : (w : Context) (e : Exp) → Inside g (SpellsPath g w e) (RuledExp g.free_of w e)
  unfolding SpellsPath RuledExp
  path w (NameE line n) = leaf g w line (one_token g (is_text g Name n))
  path w (IndexE line t k) = λ i j (m, left, right) le.
      node_between g (λ v. SpellsPath g v t) (λ v. RuledExp g.free_of v t) w line i m j (λ v. path v t) (dot_key (under w) k) left right le
  path w e = λ i j d le. absurd d

  path-var : (w : Context) (e : Exp) (i j : ℕ) → SpellsPath g w e i j → IsVar e
  unfolding SpellsPath
  path-var w (NameE line n) i j d = tt
  path-var w (IndexE line t k) i j d = tt
  path-var w e i j d = absurd d

  -- What is known of the targets of an assignment.
  abbrev pub Targets : Context → Exps → Type 0
  Targets w ts = AreVars ts × (HasExp ts × RuledExps g.free_of w ts)

  pub function_path : (w : Context) (ts : Exps) → Inside g (IsPath g w ts) (Targets w ts)
  unfolding RuledExp
  function_path w (MoreExp e NoExp) = λ i j d le. let r = path w e i j d le in (r.0, ((path-var w e i j d, tt), (tt, (r.1, tt))))
  function_path w ts = never g

  pub method_path : (w : Context) (ts : Exps) → Inside g (IsMethodPath g w ts) (Targets w ts)
  unfolding RuledExp
  method_path w (MoreExp (IndexE line t k) NoExp) = λ i j (m, left, right) le.
      let r = node_between g (λ v. SpellsPath g v t) (λ v. RuledExp g.free_of v t) w line i m j (λ v. path v t) (token_then g (is_word g Colon) (name_key (under w) k)) left right le in
      (r.0, ((tt, tt), (tt, (r.1, tt))))
  method_path w ts = λ i j d le. absurd d
