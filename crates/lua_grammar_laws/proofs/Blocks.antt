-- Blocks and the arms of `if` are unique.
use Rattle.std.proofs.Common.{◌≡◌, ℕ, [], ◌+◌, ◌<◌, Bool, true, false, List, length, refl, sym, ◌∙◌, arith, true≢false}
use Rattle.lua_reading.specs.LuaLexerDeclaredTokenToken.{Token}
use Rattle.lua_reading.specs.LuaGrammarDeclaredTokenClass.{TokenClass}
use Rattle.lua_reading.specs.LuaGrammarDeclaredTokenClassTheVariants.{Semicolon, Then}
use Rattle.lua_reading.specs.LuaGrammarDeclaredContext.{Context}
use Rattle.lua_reading.specs.LuaGrammarTokens.{class_at}
use Rattle.lua_reading.specs.LuaSyntaxTree.{Exp, Block, Arms, Stat, NoStat, MoreStat}
use Rattle.lua_reading.specs.LuaGrammarGrammar.{SpellsBlock}
use Rattle.lua_reading.specs.Parsing.{high, exp_lang, block_lang, arms_lang, stat_lang, goes_on, block_goes, arms_goes, goes_after}
use Rattle.lua_reading.proofs.pieces.Steps.{Word, follows_word, follows_done}
use Rattle.lua_reading.proofs.statements.Begins.{stat_begins}
use Rattle.lua_reading.proofs.statements.Blocks.{stat_word, ends_with, behind_stat, stat_end, stat_follows, behind_closed, block_start, stat_split}
use Rattle.lua_reading.proofs.statements.Arms.{arm_split, arms_start, arm_follows}
use Rattle.lua_grammar_laws.proofs.Rests.{EndsText, Unique, relax, Apart, Sound, done_apart, from_here, Sure}

-- No statement stands where a block doesn't go on.
no_stats : (ts : List Token) (w : Context) (i : ℕ) → i < length ts → block_goes (class_at ts i) ≡ false → (x : Block) (b j : ℕ) → block_lang ts w x b (length ts) 6 i j → (x ≡ NoStat) × (i ≡ j)
unfolding SpellsBlock
no_stats ts w i lt e NoStat b j d = (refl, d)
no_stats ts w i lt e (MoreStat s k) b j d = absurd (true≢false (sym (stat_word s (class_at ts i) (stat_begins ts (length ts) 6 (high w b) s i d.0 d.1 lt)).0 ∙ e))

-- What is left behind a statement.
behind_sound : (ts : List Token) (w : Context) (p : ℕ) (x : Stat) (c : Bool) → Sure ts p → Sound ts block_goes p (behind_stat ts w [] x c)
behind_sound ts w p x true s = tt
behind_sound ts w p x false s = (block_goes, s.block w, (λ k. follows_done ts block_goes block_goes _ (λ v z. z)), λ k. tt)

end_sound : (ts : List Token) (w : Context) (p : ℕ) (first : TokenClass) (x : Stat) → Sure ts p → Sound ts block_goes p (stat_end ts w [] first x)
end_sound ts w p first x s = (apart, (refl, behind_sound ts w p x (ends_with first x) s), behind_sound ts w p x (ends_with first x) s)
  where
    apart : Apart Block ts block_goes p (Word Semicolon (behind_stat ts w [] x (ends_with first x))) (behind_stat ts w [] x (ends_with first x))
    apart = record { shut = λ m lo lt u v b c j k dx sx dy sy. behind_closed ts w [] x (ends_with first x) m (dx.1.0 lt) v c (length ts) 6 k lt dy sy }

pub block_once : (ts : List Token) (w : Context) (i : ℕ) → EndsText ts → i < length ts → Sure ts (i + 1) → Unique 1 Stat ts (stat_lang ts w) (goes_after (class_at ts i)) i → Unique 0 Block ts (block_lang ts w) block_goes i
block_once ts w i ends lt s stat = go (block_goes (class_at ts i)) refl
  where
    go : (v : Bool) → block_goes (class_at ts i) ≡ v → Unique 0 Block ts (block_lang ts w) block_goes i
    go true e =
        relax (from_here (goes_after (class_at ts i)) ends (stat_split (block_start ts w i lt) e) lt stat (stat_follows ts w [] (class_at ts i)) (λ x. end_sound ts w (i + 1) (class_at ts i) x s))
    go false e = record {
      same = λ x y b c j k dx sx dy sy.
          let u = no_stats ts w i lt e x b j dx in
          let v = no_stats ts w i lt e y c k dy in
          (u.0 ∙ sym v.0, sym u.1 ∙ v.1, omega (arith, u.1), omega (arith, u.1, lt));
    }

pub arms_once : (ts : List Token) (w : Context) (i : ℕ) → EndsText ts → i < length ts → Sure ts (i + 1) → Unique 1 Exp ts (exp_lang ts w 1) (goes_on 1) i → Unique 1 Arms ts (arms_lang ts w) arms_goes i
arms_once ts w i ends lt s exp =
    from_here (goes_on 1) ends (arm_split (arms_start ts w i lt)) lt exp (λ x. follows_word ts arms_goes (goes_on 1) Then _ refl)
    (λ x. (refl, (block_goes, s.block w, arm_follows ts w [] x, λ k. (done_apart refl, tt, (refl, (arms_goes, s.arms w, (λ a. follows_done ts arms_goes arms_goes _ (λ v z. z)), λ a. tt))))))
