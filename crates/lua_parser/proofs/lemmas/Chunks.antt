-- From a block to the whole text.
use Rattle.std.proofs.Common.{◌≡◌, ◌≢◌, ℕ, suc, ◌<◌, ◌≤◌, false, List, length, refl, sym, subst, inl, inr, le_refl, lt-suc_self, arith}
use Rattle.lua_lexer.specs.declared.token.Token.{Token}
use Rattle.lua_reading.specs.LuaGrammarDeclaredTokenClass.{TokenClass}
use Rattle.lua_reading.specs.LuaGrammarDeclaredTokenClassTheVariants.{Eof}
use Rattle.lua_reading.specs.LuaGrammarTokens.{class_at}
use Rattle.lua_syntax.specs.Tree.{Block}
use Rattle.lua_reading.specs.LuaGrammarGrammar.{given_tokens, SpellsBlock, SpellsChunk, IsChunk, Begins, FirstFault, outside}
use Rattle.std.specs.Prelude.{Err}
use Rattle.lua_reading.specs.declared.answer.Fault.{Fault}
use Rattle.lua_reading.specs.declared.answer.Fault.TheVariants.{At, NoMemory}
use Rattle.lua_reading.specs.Answers.{IfFault}
use Rattle.lua_parser.specs.Chunks.{ChunkAnswer}
use Rattle.lua_reading.specs.Parsing.{Stops, ReadsTree, ReadsFault, HasOneEnd, block_lang, block_goes}

abbrev ended_stops : (ts : List Token) (n j : ℕ) → (j < n → class_at ts j ≡ Eof) → Stops ts block_goes n j
ended_stops ts n j e lt = let P : TokenClass → Type 0 = λ s. block_goes s ≡ false in subst P (sym (e lt)) refl

-- The tokens spell this chunk.
pub chunk_is : (ts : List Token) (b : Block) (q h : ℕ) → HasOneEnd ts → ReadsTree Block ts (block_lang ts outside) block_goes 0 0 b q h → class_at ts q ≡ Eof → IsChunk ts b
unfolding IsChunk SpellsChunk HasOneEnd
chunk_is ts b q h e x s k = (q, x.stands 0 (length ts) k (λ y. x.height), ((λ lt. s), e.2 q x.inside s))

-- They spell no other.
pub chunk_only : (ts : List Token) (b : Block) (q h : ℕ) → ReadsTree Block ts (block_lang ts outside) block_goes 0 0 b q h → (c : Block) → IsChunk ts c → c ≡ b
unfolding IsChunk SpellsChunk
chunk_only ts b q h x c is = let d = is 5 in (x.only c 0 (length ts) 5 d.0 x.inside d.1 (ended_stops ts (length ts) d.0 d.2.0)).0

abbrev begins_open : (ts : List Token) (n f j : ℕ) → n ≤ j → (b : Block) → SpellsBlock (given_tokens ts n f) outside b 0 j → Begins ts f n
unfolding Begins SpellsChunk
begins_open ts n f j le b d = (b, suc j, omega (arith, le), (j, d, ((λ lt. absurd (omega (arith, le, lt))), refl)))

pub chunk_fault : (ts : List Token) (k p : ℕ) → ReadsFault Block ts (block_lang ts outside) block_goes 0 0 k p → FirstFault ts k p
unfolding Begins SpellsChunk
chunk_fault ts k p x = record {
  number = x.number;
  there = x.inside;
  none_before = λ f lo hi. let r = x.reach p f (inl refl) in begins_open ts p f r.1 r.2 r.0 r.3;
  none_lower = λ f lo lt. let r = x.reach (suc p) f (inr (refl, lo, lt)) in begins_open ts (suc p) f r.1 r.2 r.0 r.3;
  it_is = λ g. x.dead g.0 0 (suc p) g.3.0 (le_refl 0) (lt-suc_self p) g.3.1 (ended_stops ts (suc p) g.3.0 g.3.2.0);
}

pub fault_no_chunk : (ts : List Token) (k p : ℕ) → ReadsFault Block ts (block_lang ts outside) block_goes 0 0 k p → (c : Block) → IsChunk ts c → ⊥
unfolding IsChunk SpellsChunk
fault_no_chunk ts k p x c is = let d = is k in x.dead c 0 (length ts) d.0 (le_refl 0) x.inside d.1 (ended_stops ts (length ts) d.0 d.2.0)

-- The block ends where the text doesn't.
pub chunk_unended : (ts : List Token) (b : Block) (q h : ℕ) → ReadsTree Block ts (block_lang ts outside) block_goes 0 0 b q h → class_at ts q ≢ Eof → FirstFault ts 5 q
unfolding Begins SpellsChunk
chunk_unended ts b q h x ne = record {
  number = (omega arith, omega arith);
  there = x.inside;
  none_before = λ f lo hi. begins_open ts q f q (le_refl q) b (x.stands 0 q f (λ y. x.height));
  none_lower = λ f lo lt. absurd (omega (arith, lo, lt));
  it_is = λ g.
      let o = x.only g.0 0 (suc q) 5 g.3.0 (lt-suc_self q) g.3.1 (ended_stops ts (suc q) g.3.0 g.3.2.0) in
      let P : ℕ → Type 0 = λ y. y < suc q → class_at ts y ≡ Eof in
      ne (subst P o.1 g.3.2.0 (lt-suc_self q));
}

pub unended_no_chunk : (ts : List Token) (b : Block) (q h : ℕ) → ReadsTree Block ts (block_lang ts outside) block_goes 0 0 b q h → class_at ts q ≢ Eof → (c : Block) → IsChunk ts c → ⊥
unfolding IsChunk SpellsChunk
unended_no_chunk ts b q h x ne c is =
    let d = is 5 in
    let o = x.only c 0 (length ts) 5 d.0 x.inside d.1 (ended_stops ts (length ts) d.0 d.2.0) in
    let P : ℕ → Type 0 = λ y. y < length ts → class_at ts y ≡ Eof in
    ne (subst P o.1 d.2.0 x.inside)

pub some_token : (ts : List Token) → HasOneEnd ts → 0 < length ts
unfolding HasOneEnd
some_token ts e = e.0

pub block_fault : (ts : List Token) (f : Fault) → IfFault (ReadsFault Block ts (block_lang ts outside) block_goes 0 0) f → ChunkAnswer ts (Err f)
block_fault ts NoMemory x = tt
block_fault ts (At f) x = (chunk_fault ts f.kind f.place x, fault_no_chunk ts f.kind f.place x)
