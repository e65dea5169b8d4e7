-- The layout of a chunk is the same chunk, lines aside, has its items, and is its own layout.
use Rattle.std.proofs.Common.{◌≡◌, ℕ, ◌+◌, inl, inr, List, [], ◌∷◌, ◌++◌, drop, length, refl, sym, ap, subst, ◌∙◌, arith}
use Rattle.std.specs.Prelude.{Result, Ok, Err, IfOk}
use Rattle.lua_syntax.specs.declared.Chunk.{Chunk}
use Rattle.lua_syntax.specs.declared.fault.SyntaxFault.{SyntaxFault}
use Rattle.lua_syntax.specs.declared.fault.SyntaxFault.TheVariants.{At, NoMemory}
use Rattle.lua_syntax.specs.Tree.{Block}
use Rattle.lua_syntax.specs.View.{chunk_view}
use Rattle.lua_lexer.specs.declared.token.Token.{Token}
use Rattle.lua_lexer.specs.declared.token.Piece.{Piece}
use Rattle.lua_lexer.specs.Lexis.{tokens_of, end_token, line_behind, Spells, Lexes}
use Rattle.lua_lexer.proofs.Lists.{one_list, no_list_with_fault}
use Rattle.lua_reading.specs.LuaGrammarGrammar.{IsChunk}
use Rattle.lua_parser.specs.Chunks.{IsParsed}
use Rattle.lua_token_laws.specs.Twins.{relined}
use Rattle.lua_token_laws.proofs.Carried.{twins_spell}
use Rattle.lua_print.specs.declared.items.Gap.TheVariants.{First}
use Rattle.lua_print.specs.Items.{items_from, items_of}
use Rattle.lua_print.specs.Layout.{laid, layout_of}
use Rattle.lua_print.specs.Answers.{HasChunk, IsArranged, IsSame, ParsesSame}
use Rattle.lua_print.proofs.ItemLemmas.{spelled_pieces}
use Rattle.lua_print.proofs.Readings.{ArePieces, Reads}
use Rattle.lua_print.proofs.ReadBack.{laid_reads}
use Rattle.lua_print.proofs.RowLaws.{chunk_row, items_kept, laid_again}
use Rattle.lua_print.proofs.TokenChains.{Chain, look, chain_twins}
use Rattle.lua_print.proofs.TokenLines.{same_items}

-- ---- the tokens of a layout

-- The tokens that pieces are.
abbrev tokens_by : List Piece → List ℕ → ℕ → ℕ → List Token
tokens_by [] text place line = end_token place line ∷ []
tokens_by (p ∷ ps) text place line = tokens_of p place line (line_behind p text line) ++ tokens_by ps (drop p.size text) (place + p.size) (line_behind p text line)

spelled : (ps : List Piece) (text : List ℕ) (place line : ℕ) → ArePieces text ps → Spells text ps place line (tokens_by ps text place line)
spelled [] text place line h = (h, refl)
spelled (p ∷ ps) text place line h =
    (h.0, h.1, (tokens_by ps (drop p.size text) (place + p.size) (line_behind p text line), refl, spelled ps (drop p.size text) (place + p.size) (line_behind p text line) h.2))

-- A list of tokens of the text b for each of a, which spell the same chunk with other lines.
pub record Twin (layout : List ℕ) (b : Block) : Type 0 where
  pub tokens : List Token
  pub lexed : Lexes layout tokens
  pub lines : ℕ → ℕ
  pub chunk : IsChunk tokens (relined lines b)

twin_of : (text layout : List ℕ) (tokens : List Token) (b : Block) (ps qs : List Piece) → Spells text ps 0 1 tokens → IsChunk tokens b → ArePieces layout qs → items_from First layout qs ≡ items_from First text ps → Twin layout b
twin_of text layout tokens b ps qs lexed chunk pieces e =
    let us : List Token = tokens_by qs layout 0 1 in
    let spells : Spells layout qs 0 1 us = spelled qs layout 0 1 pieces in
    let chain : Chain 0 0 tokens us = same_items text layout ps qs tokens us lexed spells e in
    record { tokens = us; lexed = (qs, spells); lines = look tokens us; chunk = twins_spell (look tokens us) tokens us b (chain_twins 0 0 tokens us chain) chunk }

pub layout_twin : (text : List ℕ) (tokens : List Token) (b : Block) → Lexes text tokens → IsChunk tokens b → Twin (layout_of text) b
unfolding layout_of items_of
layout_twin text tokens b lexed chunk =
    let reads : Reads First (laid (items_of text)) (items_of text) = laid_reads (items_of text) (chunk_row text tokens b lexed chunk) in
    let pieces : items_of text ≡ items_from First text lexed.0 = ap (items_from First text) (spelled_pieces text lexed.0 0 1 tokens (length text) (omega arith) lexed.1) in
    twin_of text (laid (items_of text)) tokens b lexed.0 reads.0 lexed.1 chunk reads.1 (reads.2 ∙ pieces)

-- ---- what `parse` answers to it

only_answer : (bytes : List ℕ) (c : Chunk) (t : Twin bytes (chunk_view c)) (d : Result Chunk SyntaxFault) → IsParsed d bytes → IsSame d c
only_answer bytes c t (Ok d) (tokens, lexed, only) =
    let same : t.tokens ≡ tokens = one_list bytes t.lexed.0 lexed.0 0 1 t.tokens tokens t.lexed.1 lexed.1 in
    (t.lines, sym (only.1 (relined t.lines (chunk_view c)) (subst (λ (ts : List Token). IsChunk ts (relined t.lines (chunk_view c))) same t.chunk)))
only_answer bytes c t (Err (At fault)) (inl first) = no_list_with_fault bytes t.lexed.0 first.0 0 1 t.tokens fault.kind fault.line t.lexed.1 first.1
only_answer bytes c t (Err (At fault)) (inr (tokens, lexed, (place, none, line))) =
    let same : t.tokens ≡ tokens = one_list bytes t.lexed.0 lexed.0 0 1 t.tokens tokens t.lexed.1 lexed.1 in
    none.1 (relined t.lines (chunk_view c)) (subst (λ (ts : List Token). IsChunk ts (relined t.lines (chunk_view c))) same t.chunk)
only_answer bytes c t (Err NoMemory) p = tt

parses_same : (text bytes : List ℕ) → bytes ≡ layout_of text → ParsesSame bytes text
parses_same text bytes e c d (tokens, lexed, only) q =
    only_answer bytes c (subst (λ (b : List ℕ). Twin b (chunk_view c)) (sym e) (layout_twin text tokens (chunk_view c) lexed only.0)) d q

-- ---- what is laid out

module _ (text : List ℕ) where
  pub items_ok : (r : Result (List ℕ) SyntaxFault) → HasChunk text → IsArranged r text → IfOk r (λ bytes. items_of bytes ≡ items_of text)
  items_ok (Ok bytes) (c, (tokens, lexed, only)) e = ap items_of e ∙ items_kept text tokens (chunk_view c) lexed only.0
  items_ok (Err fault) h e = tt

  pub same_ok : (r : Result (List ℕ) SyntaxFault) → IsArranged r text → IfOk r (λ bytes. ParsesSame bytes text)
  same_ok (Ok bytes) e = parses_same text bytes e
  same_ok (Err fault) e = tt

  pub again_ok : (r : Result (List ℕ) SyntaxFault) → HasChunk text → IsArranged r text → IfOk r (λ bytes. layout_of bytes ≡ bytes)
  again_ok (Ok bytes) (c, (tokens, lexed, only)) e = ap layout_of e ∙ laid_again text (items_kept text tokens (chunk_view c) lexed only.0) ∙ sym e
  again_ok (Err fault) h e = tt
