-- A text has one chunk or one fault at most.
use Rattle.std.proofs.Common.{◌≡◌, ℕ, inl, inr, List, sym, ap, subst, ◌∙◌}
use Rattle.lua_syntax.specs.declared.fault.FaultAt.{FaultAt}
use Rattle.lua_syntax.specs.View.{chunk_view}
use Rattle.lua_lexer.specs.declared.token.Token.{Token}
use Rattle.lua_lexer.specs.Lexis.{Lexes, FirstFault as FirstLexFault}
use Rattle.lua_lexer.proofs.Lists as lists
use Rattle.lua_reading.specs.LuaGrammarTokens.{tok_at}
use Rattle.lua_reading.specs.LuaGrammarGrammar.{IsChunk, FirstFault}
use Rattle.lua_reading.proofs.LuaGrammarFaultLaws as faults
use Rattle.lua_parser.specs.ParsedOnce.{OneChunk, OneFault, ChunkOrFault}

same_tokens : (text : List ℕ) (ts us : List Token) → Lexes text ts → Lexes text us → us ≡ ts
same_tokens text ts us h k = sym (lists.one_list text h.0 k.0 0 1 ts us h.1 k.1)

no_tokens : (text : List ℕ) (ts : List Token) (kind line : ℕ) → Lexes text ts → FirstLexFault text kind line → ⊥
no_tokens text ts kind line h k = lists.no_list_with_fault text h.0 k.0 0 1 ts kind line h.1 k.1

same_fault : (f g : FaultAt) → (f.kind ≡ g.kind) × (f.line ≡ g.line) → f ≡ g
same_fault f g (kinds, lines) = ap (λ (k : ℕ). record { kind = k; line = f.line }) kinds ∙ ap (λ (l : ℕ). record { kind = g.kind; line = l }) lines

-- A fault of the grammar, with its line.
abbrev StandsAt : List Token → ℕ → ℕ → ℕ → Type 0
StandsAt ts kind line place = FirstFault ts kind place × (line ≡ (tok_at ts place).line)

grammar_fault : (ts : List Token) (kind other_kind line other_line p q : ℕ) → StandsAt ts kind line p → StandsAt ts other_kind other_line q
    → (kind ≡ other_kind) × (line ≡ other_line)
grammar_fault ts kind other_kind line other_line p q (x, l) (y, m) =
    let same = faults.one_fault ts kind other_kind p q x y in
    (same.0, l ∙ ap (λ (i : ℕ). (tok_at ts i).line) same.1 ∙ sym m)

pub one_chunk : (text : List ℕ) → OneChunk text
one_chunk text c d x y = y.2.1 (chunk_view c) (subst (λ (v : List Token). IsChunk v (chunk_view c)) (same_tokens text y.0 x.0 y.1 x.1) x.2.0)

pub one_fault : (text : List ℕ) → OneFault text
one_fault text f g (inl x) (inl y) = same_fault f g (lists.one_fault text x.0 y.0 1 f.kind f.line g.kind g.line x.1 y.1)
one_fault text f g (inl x) (inr y) = absurd (no_tokens text y.0 f.kind f.line y.1 x)
one_fault text f g (inr x) (inl y) = absurd (no_tokens text x.0 g.kind g.line x.1 y)
one_fault text f g (inr (ts, h, (p, x, l))) (inr (us, k, (q, y, m))) =
    let there : StandsAt ts g.kind g.line q = subst (λ (v : List Token). StandsAt v g.kind g.line q) (same_tokens text ts us h k) (y.0, m) in
    same_fault f g (grammar_fault ts f.kind g.kind f.line g.line p q (x.0, l) there)

pub chunk_or_fault : (text : List ℕ) → ChunkOrFault text
chunk_or_fault text c f x (inl y) = no_tokens text x.0 f.kind f.line x.1 y
chunk_or_fault text c f x (inr y) = y.2.1.1 (chunk_view c) (subst (λ (v : List Token). IsChunk v (chunk_view c)) (same_tokens text y.0 x.0 y.1 x.1) x.2.0)
