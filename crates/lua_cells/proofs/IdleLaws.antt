-- As long as no register is idle, what is captured changes nothing.
use Rattle.std.proofs.Common.{◌≡◌, ◌∙◌, ℕ, zero, suc, Bool, true, false, true≢false, refl, sym, ap, subst, List, [], ◌∷◌, slice_set}
use Rattle.lua_code.specs.LuaSlotsCode.{Place, Reg, Box, Up, CExp, ConstantC, TextC, DotsC, FunctionC, LocalC, GlobalC, IndexC, CallC, MethodC, TableC, AndC, OrC, OperateC, UnaryC, ParenC}
use Rattle.lua_code.specs.LuaSlotsCode.{CExps, NoC, MoreC, CFields, NoFieldC, ItemC, PairC, CTarget, PlaceC, GlobalTargetC, EntryC, RefusedC}
use Rattle.lua_cells.specs.declared.registers.Registers.{Registers}
use Rattle.lua_cells.specs.Registers.{NoneIdle, captured, all_captured, opened_one, newest_ended, closed, expression_gone, expressions_gone, fields_gone, target_gone, targets_gone}

-- PLACES
set_free : (bs : List Bool) (i : ℕ) → NoneIdle bs → slice_set bs i false ≡ bs
set_free [] i h = refl
set_free (b ∷ bs) zero h = ap (λ c. c ∷ bs) (sym h.0)
set_free (b ∷ bs) (suc i) h = ap (λ cs. b ∷ cs) (set_free bs i h.1)

place : (p : Place) (r : Registers) → NoneIdle r.idle → captured p r ≡ r
place (Reg i) r h = refl
place (Up i) r h = refl
place (Box i) r h = ap (λ bs. record r { idle = bs }) (set_free r.idle i h)

places : (ps : List Place) (r : Registers) → NoneIdle r.idle → all_captured ps r ≡ r
places [] r h = refl
places (p ∷ ps) r h = ap (all_captured ps) (place p r h) ∙ places ps r h

-- EXPRESSIONS
mutual
  expression : (c : CExp) (r : Registers) → NoneIdle r.idle → expression_gone c r ≡ r
  expression (ConstantC v) r h = refl
  expression (TextC n) r h = refl
  expression DotsC r h = refl
  expression (LocalC p) r h = refl
  expression (GlobalC x l) r h = refl
  expression (FunctionC index ps) r h = places ps r h
  expression (IndexC a b l) r h = ap (expression_gone b) (expression a r h) ∙ expression b r h
  expression (CallC a cs l) r h = ap (expressions_gone cs) (expression a r h) ∙ expressions cs r h
  expression (MethodC a x cs l) r h = ap (expressions_gone cs) (expression a r h) ∙ expressions cs r h
  expression (TableC cs l) r h = fields cs r h
  expression (AndC a b) r h = ap (expression_gone b) (expression a r h) ∙ expression b r h
  expression (OrC a b) r h = ap (expression_gone b) (expression a r h) ∙ expression b r h
  expression (OperateC op a b l) r h = ap (expression_gone b) (expression a r h) ∙ expression b r h
  expression (UnaryC op a l) r h = expression a r h
  expression (ParenC a) r h = expression a r h

  expressions : (cs : CExps) (r : Registers) → NoneIdle r.idle → expressions_gone cs r ≡ r
  expressions NoC r h = refl
  expressions (MoreC c cs) r h = ap (expressions_gone cs) (expression c r h) ∙ expressions cs r h

  fields : (cs : CFields) (r : Registers) → NoneIdle r.idle → fields_gone cs r ≡ r
  fields NoFieldC r h = refl
  fields (ItemC c cs) r h = ap (fields_gone cs) (expression c r h) ∙ fields cs r h
  fields (PairC k c cs) r h = ap (λ s. fields_gone cs (expression_gone c s)) (expression k r h) ∙ ap (fields_gone cs) (expression c r h) ∙ fields cs r h

target : (t : CTarget) (r : Registers) → NoneIdle r.idle → target_gone t r ≡ r
target (PlaceC p) r h = refl
target (GlobalTargetC x l) r h = refl
target RefusedC r h = refl
target (EntryC a b l) r h = ap (expression_gone b) (expression a r h) ∙ expression b r h

targets : (ts : List CTarget) (r : Registers) → NoneIdle r.idle → targets_gone ts r ≡ r
targets [] r h = refl
targets (t ∷ ts) r h = ap (targets_gone ts) (target t r h) ∙ targets ts r h

-- registers that are seen as these, of which none is idle
pub no_places : (ps : List Place) (r s : Registers) → r ≡ s → NoneIdle r.idle → s ≡ all_captured ps s
no_places ps r s e h = sym (places ps s (subst (λ k. NoneIdle k.idle) e h))

pub no_expression : (c : CExp) (r s : Registers) → r ≡ s → NoneIdle r.idle → s ≡ expression_gone c s
no_expression c r s e h = sym (expression c s (subst (λ k. NoneIdle k.idle) e h))

pub no_expressions : (cs : CExps) (r s : Registers) → r ≡ s → NoneIdle r.idle → s ≡ expressions_gone cs s
no_expressions cs r s e h = sym (expressions cs s (subst (λ k. NoneIdle k.idle) e h))

pub no_targets : (ts : List CTarget) (r s : Registers) → r ≡ s → NoneIdle r.idle → s ≡ targets_gone ts s
no_targets ts r s e h = sym (targets ts s (subst (λ k. NoneIdle k.idle) e h))

-- VARIABLES that open without a cell, and that end
pub opens_free : (b : Bool) (r s : Registers) → NoneIdle r.idle → s ≡ opened_one b r → b ≡ false → NoneIdle s.idle
opens_free b r s h e f = subst (λ k. NoneIdle k.idle) (sym e) (f, h)

ends_free : (n : ℕ) (bs : List Bool) (needed : Bool) → NoneIdle bs → NoneIdle (newest_ended n bs needed).idle
ends_free zero bs needed h = h
ends_free (suc n) [] needed h = tt
ends_free (suc n) (true ∷ bs) needed h = absurd (true≢false h.0)
ends_free (suc n) (false ∷ bs) needed h = ends_free n bs needed h.1

pub closes_free : (n : ℕ) (r s : Registers) → NoneIdle r.idle → s ≡ closed n r → NoneIdle s.idle
closes_free n r s h e = subst (λ k. NoneIdle k.idle) (sym e) (ends_free _ r.idle r.needed h)
