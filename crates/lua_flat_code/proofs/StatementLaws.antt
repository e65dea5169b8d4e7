-- Code of statements and blocks, put together from that of their parts.
use Rattle.std.proofs.Common.{◌≡◌, ◌∙◌, ◌≤◌, ◌<◌, ◌-◌, ℕ, suc, ◌+◌, ◌^◌, Bool, true, false, List, [], ◌∷◌, ◌++◌, map, reverse, length, take, drop, slice_get, Option, Some, None, IfSome, refl, sym, ap, subst, arith}
use Rattle.lua_flat.specs.LuaSlotsCode.{Place, Reg, CExp, LocalC, CExps, NoC, MoreC, CStat, CallStatC, DoC, ReturnC, BreakC, CBlock, EndC, DeclareC, LocalFunctionC, ThenC}
use Rattle.lua_flat.specs.Operations as flat
use Rattle.lua_flat.specs.Operations.{Exactly}
use Rattle.lua_flat.specs.Locals.{Local, PlainL, local_of, with_row}
use Rattle.lua_flat.specs.IsExpression.{Has, IsMany, IsExact, in_place, there_local}
use Rattle.lua_flat.specs.IsStatement.{is_any, IsOpening, no_cells, cells, IsStat, call_alone, value_alone, do_block, return_row, return_one, break_away, IsBlock, block_end, block_pays, block_declares, block_names, block_then}
use Rattle.lua_flat_code.specs.declared.operand.Wanted.{Wanted}
use Rattle.lua_flat_code.specs.declared.op.Op.{Op}
use Rattle.lua_flat_code.specs.declared.op.Op.TheVariants as op
use Rattle.lua_flat_code.specs.Seen.{wanted_seen, cells_seen}
use Rattle.lua_flat_code.specs.Making.{State, local_seen, place, aim, Final, Stands, Later, Next, begun, lined, emitted, declared, with_breaks, closed, Relieved, as_was, relieves, Reached}
use Rattle.lua_flat_code.specs.Parts.{Keeps, ValueSaid, ManySaid, RowSaid, ExactSaid, CellsSaid, OriginsSaid, OpenSaid, RowDeclared, RowDeclaredSoFar, AllBreak, BreaksGrow, StatSaid, BlockSoFar}
use Rattle.lua_flat_code.specs.Whole.{BegunStat, BegunPart, BlockSaid}
use Rattle.std.proofs.lemmas.List.{length-reverse, length-map, length-drop, take-append-drop, map-append, reverse-append}
use Rattle.lua_code.specs.declared.expression.Expression.{Expression}
use Rattle.lua_code.specs.Seen.{expression_seen, expressions_seen}
use Rattle.lua_flat_code.specs.declared.maker.Local.{Local as Held}
use Rattle.lua_flat_code.proofs.Handed.{joined_lists, taken_off, dropped}
use Rattle.lua_flat_code.proofs.MakingLaws.{length_snoc, same_there, next_same, next_trans, next_begun, next_aside, next_row, next_emitted, stands_emitted, has_room}
use Rattle.lua_flat_code.proofs.ValueLaws.{keeps_same, keeps_trans, keeps_begun, keeps_emitted, no_fit}
use Rattle.lua_flat_code.proofs.ListLaws.{value_reached}
use Rattle.lua_flat_code.proofs.TestLaws.{all_front, all_last}

-- code that leaves all jumps out of loops
pub breaks_kept : (s t : State) → t.breaks ≡ s.breaks → BreaksGrow s.breaks t.breaks
breaks_kept s t is = λ f away h. subst (AllBreak f away) is h

pub breaks_trans : (a b c : List ℕ) → BreaksGrow a b → BreaksGrow b c → BreaksGrow a c
breaks_trans a b c h k = λ f away l. h f away (k f away l)

pub kept_stat : (free : ℕ) (st : CStat) (s t : State) → Keeps s t → ((f : Final) → Later t f → (away : Option ℕ) → IsStat f.code away s.locals free st s.owed (place s) t.owed (place t)) → StatSaid free st s t
kept_stat free st s t keeps code = record { next = keeps.next; locals = keeps.locals; breaks = breaks_kept s t keeps.breaks; code = λ f l away h. code f l away }

-- one more operation is the last of a statement
pub last_stat : (free : ℕ) (st : CStat) (s u : State) (o : Op) (line : ℕ) → Keeps (begun s) u
    → ((f : Final) (away : Option ℕ) → Later u f → Stands f (place u) (lined o line u) → IsStat f.code away s.locals free st s.owed (place s) 0 (place u + 1)) → StatSaid free st s (emitted o line u)
last_stat free st s u o line keeps h =
    kept_stat free st s (emitted o line u) (keeps_trans s u (emitted o line u) (keeps_trans s (begun s) u (keeps_begun s) keeps) (keeps_emitted o line u))
    (λ f l away. subst (λ p. IsStat f.code away s.locals free st s.owed (place s) 0 p) (sym (length_snoc u.steps (lined o line u))) (h f away (next_emitted o line u f l) (stands_emitted o line u f l)))

pub called_alone : (free : ℕ) (e : CExp) (wanted : Wanted) (s t : State) → wanted_seen wanted ≡ Exactly 0 → ManySaid free e free wanted (begun s) t → StatSaid free (CallStatC e) s t
called_alone free e wanted s t is h =
    kept_stat free (CallStatC e) s t (keeps_trans s (begun s) t (keeps_begun s) h.keeps)
    (λ f l away. subst (λ c. IsStat f.code away s.locals free (CallStatC e) s.owed (place s) c (place t)) (sym h.paid)
    (call_alone (subst (λ w. IsMany f.code s.locals free e (s.owed + 1) free w (place s) (place t)) is (h.code f l))))

pub returned_row : (free : ℕ) (es : CExps) (count : Wanted) (s t : State) → RowSaid free es (begun s) t count → StatSaid free (ReturnC es) s (emitted (op.Return free count) 0 t)
returned_row free es count s t h = last_stat free (ReturnC es) s t (op.Return free count) 0 h.keeps (λ f away l st. return_row (h.code f l) st.has.0)

pub begun_called : (free : ℕ) (e : CExp) (wanted : Wanted) (old t : State) → wanted_seen wanted ≡ Exactly 0 → ManySaid free e free wanted old t → BegunStat free (CallStatC e) old t
begun_called free e wanted old t none h = λ s is. called_alone free e wanted s t none (subst (λ x. ManySaid free e free wanted x t) is h)

-- an expression by itself, which no text has
pub begun_valued : (free : ℕ) (e : CExp) (old s1 t : State) → Reached (free + 1) old s1 → ValueSaid (free + 1) e free s1 t → BegunStat free (CallStatC e) old t
begun_valued free e old s1 t r h = λ s is.
    let v : ValueSaid (free + 1) e free (begun s) t = subst (λ x. ValueSaid (free + 1) e free x t) is (value_reached (free + 1) (free + 1) e free old s1 t r h) in
    kept_stat free (CallStatC e) s t (keeps_trans s (begun s) t (keeps_begun s) v.keeps)
    (λ f l away.
    let room : free + 1 ≤ f.code.registers = has_room (free + 1) old s1 f r (h.keeps.next f l) in
    subst (λ c. IsStat f.code away s.locals free (CallStatC e) s.owed (place s) c (place t)) (sym v.paid) (value_alone (omega (arith, room)) (v.code f false l (no_fit e))))

pub begun_returned : (free : ℕ) (es : CExps) (count : Wanted) (old t : State) → RowSaid free es old t count → BegunStat free (ReturnC es) old (emitted (op.Return free count) 0 t)
begun_returned free es count old t h = λ s is. returned_row free es count s t (subst (λ x. RowSaid free es x t count) is h)

pub begun_returned_one : (free i r : ℕ) (count : Wanted) (old : State) → slice_get old.locals i ≡ Some (PlainL r) → wanted_seen count ≡ Exactly 1
    → BegunStat free (ReturnC (MoreC (LocalC (Reg i)) NoC)) old (emitted (op.Return r count) 0 (begun old))
begun_returned_one free i r count old at one = λ s is.
    let there : slice_get s.locals i ≡ Some (PlainL r) = ap (λ (x : State). slice_get x.locals i) (sym is) ∙ at in
    subst (λ x. StatSaid free (ReturnC (MoreC (LocalC (Reg i)) NoC)) s (emitted (op.Return r count) 0 (begun x))) (sym is)
    (last_stat free (ReturnC (MoreC (LocalC (Reg i)) NoC)) s (begun (begun s)) (op.Return r count) 0 (keeps_begun (begun s))
    (λ f away l st. return_one (in_place (there_local there)) (subst (λ w. Has f.code (place s) (s.owed + 1 + 1) (flat.ReturnF r w)) one st.has.0)))

-- `break`
all_but_last : (jump : ℕ) (jumps : List ℕ) → BreaksGrow jumps (jumps ++ jump ∷ [])
all_but_last jump jumps = λ f away. go f away
  where
    no_list : (js : List ℕ) → js ++ jump ∷ [] ≡ [] → js ≡ []
    no_list [] e = refl
    no_list (x ∷ js) e = cc

    go : (f : Final) (away : Option ℕ) → AllBreak f away (jumps ++ jump ∷ []) → AllBreak f away jumps
    go f None h = no_list jumps h
    go f (Some target) h = all_front f.code target jump jumps h

pub begun_left : (free : ℕ) (old t : State) → t ≡ with_breaks (old.breaks ++ place old ∷ []) (emitted (op.Jump (2 ^ 32 - 1)) 0 old) → BegunStat free BreakC old t
begun_left free old t same = λ s is.
    let jumped : State = emitted (op.Jump (2 ^ 32 - 1)) 0 (begun s) in
    let last : State = with_breaks (s.breaks ++ place s ∷ []) jumped in
    subst (StatSaid free BreakC s) (sym (same ∙ ap (λ (x : State). with_breaks (x.breaks ++ place x ∷ []) (emitted (op.Jump (2 ^ 32 - 1)) 0 x)) is)) (record {
      next = next_trans s jumped last (next_trans s (begun s) jumped (next_begun s) (next_emitted (op.Jump (2 ^ 32 - 1)) 0 (begun s))) (next_aside 0 s.locals (s.breaks ++ place s ∷ []) jumped);
      locals = refl;
      breaks = λ f away h. all_but_last (place s) s.breaks f away h;
      code = λ f l away h.
          let st = stands_emitted (op.Jump (2 ^ 32 - 1)) 0 (begun s) f (next_aside 0 s.locals (s.breaks ++ place s ∷ []) jumped f l) in
          subst (λ p. IsStat f.code away s.locals free BreakC s.owed (place s) 0 p) (sym (length_snoc s.steps (lined (op.Jump (2 ^ 32 - 1)) 0 (begun s))))
          (go s f away h st);
    })
  where
    not_none : (js : List ℕ) (jump : ℕ) → js ++ jump ∷ [] ≡ [] → ⊥
    not_none [] jump e = cc
    not_none (x ∷ js) jump e = cc

    go : (s : State) (f : Final) (away : Option ℕ) → AllBreak f away (s.breaks ++ place s ∷ []) → Stands f (place s) (lined (op.Jump (2 ^ 32 - 1)) 0 (begun s)) → IsStat f.code away s.locals free BreakC s.owed (place s) 0 (place s + 1)
    go s f None h st = absurd (not_none s.breaks (place s) h)
    go s f (Some target) h st =
        let leads : Some (aim st.to (2 ^ 32 - 1)) ≡ Some target = all_last f.code target (place s) s.breaks h _ st.has.0 in
        let to : aim st.to (2 ^ 32 - 1) ≡ target = same_there (aim st.to (2 ^ 32 - 1)) target leads in
        break_away refl (subst (λ x. Has f.code (place s) (s.owed + 1) (flat.JumpF x)) to st.has.0)

-- BLOCKS
pub block_starts : (free : ℕ) (b : CBlock) (s : State) → BlockSoFar free b b s s free
block_starts free b s = record { opened = []; locals = refl; next = next_same s; breaks = λ f away h. h; code = λ f l away out c' pc' ls end h. h }

pub block_paid : (free free' : ℕ) (whole left : CBlock) (s t : State) → BlockSoFar free whole left s t free' → BlockSoFar free whole left s (emitted op.Pay 0 t) free'
block_paid free free' whole left s t so = record {
  opened = so.opened;
  locals = so.locals;
  next = next_trans s t (emitted op.Pay 0 t) so.next (next_emitted op.Pay 0 t);
  breaks = so.breaks;
  code = λ f l away out c' pc' ls end h.
      let st = stands_emitted op.Pay 0 t f l in
      so.code f (next_emitted op.Pay 0 t f l) away out c' pc' ls end
      (block_pays st.has.0 (subst (λ p. IsBlock f.code away t.locals free' left 0 p c' pc' ls end) (length_snoc t.steps (lined op.Pay 0 t)) h));
}

pub block_stat : (free free' : ℕ) (whole rest : CBlock) (st : CStat) (s t u : State) → BlockSoFar free whole (ThenC st rest) s t free' → StatSaid free' st t u → BlockSoFar free whole rest s u free'
block_stat free free' whole rest st s t u so k = record {
  opened = so.opened;
  locals = k.locals ∙ so.locals;
  next = next_trans s t u so.next k.next;
  breaks = breaks_trans s.breaks t.breaks u.breaks so.breaks k.breaks;
  code = λ f l away out c' pc' ls end h.
      so.code f (k.next f l) away (k.breaks f away out) c' pc' ls end
      (block_then (k.code f l away out) (subst (λ vs. IsBlock f.code away vs free' rest u.owed (place u) c' pc' ls end) k.locals h));
}

pub blocks_trans : (free free' free'' : ℕ) (whole left rest : CBlock) (s t u : State) → BlockSoFar free whole left s t free' → BlockSoFar free' left rest t u free'' → BlockSoFar free whole rest s u free''
blocks_trans free free' free'' whole left rest s t u so k = record {
  opened = k.opened ++ so.opened;
  locals = k.locals ∙ ap (λ ls. k.opened ++ ls) so.locals ∙ sym (joined_lists k.opened so.opened s.locals);
  next = next_trans s t u so.next k.next;
  breaks = breaks_trans s.breaks t.breaks u.breaks so.breaks k.breaks;
  code = λ f l away out c' pc' ls end h. so.code f (k.next f l) away (k.breaks f away out) c' pc' ls end (k.code f l away out c' pc' ls end h);
}

pub block_relieved : (free free' : ℕ) (whole left : CBlock) (s t u : State) → BlockSoFar free whole left s t free' → Relieved t u → BlockSoFar free whole left s u free'
block_relieved free free' whole left s t _ so as_was = so
block_relieved free free' whole left s t u so (relieves is) = subst (λ x. BlockSoFar free whole left s x free') (sym is) (block_paid free free' whole left s t so)

-- one more statement, behind those so far
pub block_step : (free at next : ℕ) (whole left : CBlock) (first : CBlock → CBlock) (rest : CBlock) (s t u v : State) → BlockSoFar free whole left s t at → left ≡ first rest → Relieved t u
    → ((more : CBlock) → BlockSoFar at (first more) more u v next) → BlockSoFar free whole rest s v next
block_step free at next whole left first rest s t u v so is relieved k =
    blocks_trans free at next whole (first rest) rest s u v (subst (λ x. BlockSoFar free whole x s u at) is (block_relieved free at whole left s t u so relieved)) (k rest)

-- a statement that is begun already
pub stat_part : (free : ℕ) (st : CStat) (old t : State) → BegunStat free st old t → BegunPart free (ThenC st) old t free
stat_part free st old t h = λ s rest is. block_stat free free (ThenC st rest) rest st s s t (block_starts free (ThenC st rest) s) (h s is)

pub part_as : (free next : ℕ) (old t : State) (whole same : CBlock → CBlock) → ((rest : CBlock) → whole rest ≡ same rest) → BegunPart free same old t next → BegunPart free whole old t next
part_as free next old t whole same e h = λ s rest is. subst (λ b. BlockSoFar free b rest s t next) (sym (e rest)) (h s rest is)

-- variables are closed behind a block
pub block_closed : (free next count : ℕ) (b : CBlock) (s t u : State) → BlockSoFar free b EndC s t next → count ≡ length s.locals → u ≡ closed count t → BlockSaid free b s u
block_closed free next count b s t u so counted is = subst (BlockSaid free b s) (sym is) (record {
  next = next_trans s t (closed count t) so.next (next_aside t.owed (drop (length t.locals - count) t.locals) t.breaks t);
  locals = taken_off t.locals so.opened s.locals count so.locals counted;
  breaks = so.breaks;
  code = λ f l away out. (t.locals, next, so.code f (next_aside t.owed (drop (length t.locals - count) t.locals) t.breaks t f l) away out t.owed (place t) t.locals next block_end);
})

pub begun_block : (free : ℕ) (b : CBlock) (old t : State) → BlockSaid free b old t → BegunStat free (DoC b) old t
begun_block free b old t h = λ s is.
    let k : BlockSaid free b (begun s) t = subst (λ x. BlockSaid free b x t) is h in
    record {
      next = next_trans s (begun s) t (next_begun s) k.next;
      locals = k.locals;
      breaks = k.breaks;
      code = λ f l away out. let body = k.code f l away out in do_block body.2;
    }

-- VARIABLES
pub opened_none : (flags : List Bool) (at : ℕ) (s : State) → is_any flags ≡ false → OpenSaid flags at s s
opened_none flags at s none = record { keeps = keeps_same s; code = λ f l. no_cells none }

pub opened_cells : (flags : List Bool) (at first count : ℕ) (s t : State) → is_any flags ≡ true → CellsSaid flags s t first count → OpenSaid flags at s (emitted (op.Open at first count) 0 t)
opened_cells flags at first count s t some h =
    let with : State = record s { cells = t.cells } in
    let opens : Op = op.Open at first count in
    let next : Next s with = subst (Next s) h.same h.next in
    subst (λ u. OpenSaid flags at s (emitted opens 0 u)) (sym h.same) (record {
      keeps = record { next = next_trans s with (emitted opens 0 with) next (next_emitted opens 0 with); locals = refl; breaks = refl };
      code = λ f l.
          let st = stands_emitted opens 0 with f l in
          let are : cells_seen f.tables first count ≡ flags = h.code f (subst (λ u. Later u f) (sym h.same) (next_emitted opens 0 with f l)) in
          subst (λ p. IsOpening f.code flags at s.owed (place s) 0 p) (sym (length_snoc s.steps (lined opens 0 with)))
          (cells some (subst (λ fs. Has f.code (place s) s.owed (flat.OpenF at fs)) are st.has.0));
    })

pub row_opens : (register : ℕ) (flags : List Bool) (s t : State) → Reached register s t → RowDeclaredSoFar register flags flags s t register
row_opens register flags s t r = subst (λ u. RowDeclaredSoFar register flags flags s u register) (sym r.same) (record { behind = refl; same = refl; locals = refl; more = r.more; enough = r.enough })

pub row_declares : (register at next : ℕ) (flags left more : List Bool) (boxed : Bool) (s t u v : State) → RowDeclaredSoFar register flags left s t at → left ≡ boxed ∷ more → u ≡ declared (local_of boxed at) t → next ≡ at + 1 → Reached next u v
    → RowDeclaredSoFar register flags more s v next
row_declares register at next flags left more boxed s t u v so is with behind r =
    let here : State = declared (local_of boxed at) t in
    let reached : Reached next here v = subst (λ x. Reached next x v) with r in
    let begins : RowDeclaredSoFar register flags (boxed ∷ more) s t at = subst (λ l. RowDeclaredSoFar register flags l s t at) is so in
    let counted : at + suc (length more) ≡ register + length flags = begins.behind in
    let before : s.registers ≤ t.registers = so.more in
    let after : t.registers ≤ v.registers = reached.more in
    subst (λ x. RowDeclaredSoFar register flags more s x next) (sym reached.same) (record {
      behind = omega (arith, counted, behind);
      same = ap (λ (x : State). record x { registers = v.registers; locals = local_of boxed at ∷ t.locals }) so.same;
      locals = ap (λ n. with_row n more (local_of boxed at ∷ t.locals)) behind ∙ begins.locals;
      more = omega (arith, before, after);
      enough = reached.enough;
    })

pub row_declared : (register at : ℕ) (flags left : List Bool) (s t : State) → RowDeclaredSoFar register flags left s t at → left ≡ [] → RowDeclared register flags s t at
row_declared register at flags left s t so is =
    let ends : RowDeclaredSoFar register flags [] s t at = subst (λ l. RowDeclaredSoFar register flags l s t at) is so in
    let counted : at + 0 ≡ register + length flags = ends.behind in
    record {
      behind = omega (arith, counted);
      same = so.same ∙ ap (λ ls. record s { registers = t.registers; locals = ls }) ends.locals;
      more = so.more;
      enough = so.enough;
    }

-- variables in a row stand above those that are open
pub row_above : (r : ℕ) (flags : List Bool) (ls : List Local) → with_row r flags ls ≡ with_row r flags [] ++ ls
row_above r [] ls = refl
row_above r (b ∷ flags) ls =
    row_above (r + 1) flags (local_of b r ∷ ls) ∙ sym (joined_lists (with_row (r + 1) flags []) (local_of b r ∷ []) ls) ∙ ap (λ front. front ++ ls) (sym (row_above (r + 1) flags (local_of b r ∷ [])))

pub begun_declared : (free count next : ℕ) (flags : List Bool) (es : CExps) (old a b u : State) → count ≡ length flags → ExactSaid free es count old a → OpenSaid flags free a b → RowDeclared free flags b u next
    → BegunPart free (DeclareC flags es) old u next
begun_declared free count next flags es old a b u counted exact opens row = λ s rest is.
    let after : State = record b { registers = u.registers; locals = with_row free flags b.locals } in
    let e : ExactSaid free es count (begun s) a = subst (λ x. ExactSaid free es count x a) is exact in
    let same_locals : b.locals ≡ s.locals = opens.keeps.locals ∙ e.keeps.locals in
    let to_b : Next s b = next_trans s a b (next_trans s (begun s) a (next_begun s) e.keeps.next) opens.keeps.next in
    let on : Next b after = next_row u.registers (with_row free flags b.locals) b row.more in
    let behind : next ≡ free + length flags = row.behind in
    let enough : next ≤ u.registers = row.enough in
    subst (λ x. BlockSoFar free (DeclareC flags es rest) rest s x next) (sym row.same) (record {
      opened = with_row free flags [];
      locals = row_above free flags b.locals ∙ ap (λ ls. with_row free flags [] ++ ls) same_locals;
      next = next_trans s b after to_b on;
      breaks = breaks_kept s after (opens.keeps.breaks ∙ e.keeps.breaks);
      code = λ f l away out c' pc' ls end h.
          let lb = on f l in
          let la = opens.keeps.next f lb in
          let room : u.registers ≤ f.code.registers = l.registers in
          let opening : IsOpening f.code flags free a.owed (place a) b.owed (place b) = opens.code f lb in
          let values : IsExact f.code s.locals free es (length flags) (s.owed + 1) (place s) a.owed (place a) = subst (λ n. IsExact f.code s.locals free es n (s.owed + 1) (place s) a.owed (place a)) counted (e.code f la) in
          block_declares (omega (arith, behind, enough, room)) values opening
          (subst (λ n. IsBlock f.code away (with_row free flags s.locals) n rest b.owed (place b) c' pc' ls end) behind
          (subst (λ vs. IsBlock f.code away (with_row free flags vs) next rest b.owed (place b) c' pc' ls end) same_locals h));
    })

-- `local function`
pub begun_named : (free next index first count : ℕ) (boxed : Bool) (places : List Place) (old a b c : State) → next ≡ free + 1 → Reached next old a → b ≡ declared (local_of boxed free) a → OriginsSaid places b c first count
    → BegunPart free (LocalFunctionC boxed index places) old (emitted (op.Named boxed free index first count) 0 c) next
begun_named free next index first count boxed places old a b c behind reached with origins = λ s rest is.
    let named : Op = op.Named boxed free index first count in
    let r : Reached next (begun s) a = subst (λ x. Reached next x a) is reached in
    let here : State = record s { owed = s.owed + 1; registers = a.registers; locals = local_of boxed free ∷ s.locals } in
    let b_is : b ≡ here = with ∙ ap (declared (local_of boxed free)) r.same in
    let o : OriginsSaid places here c first count = subst (λ x. OriginsSaid places x c first count) b_is origins in
    let after : State = record here { origins = c.origins } in
    let more : s.registers ≤ a.registers = r.more in
    let enough : next ≤ a.registers = r.enough in
    let to_here : Next s here = next_trans s (begun s) here (next_begun s) (next_row a.registers (local_of boxed free ∷ s.locals) (begun s) more) in
    let on : Next here after = subst (Next here) o.same o.next in
    subst (λ x. BlockSoFar free (LocalFunctionC boxed index places rest) rest s (emitted named 0 x) next) (sym o.same) (record {
      opened = local_of boxed free ∷ [];
      locals = refl;
      next = next_trans s here (emitted named 0 after) to_here (next_trans here after (emitted named 0 after) on (next_emitted named 0 after));
      breaks = λ f away h. h;
      code = λ f l away out c' pc' ls end h.
          let la = next_emitted named 0 after f l in
          let st = stands_emitted named 0 after f l in
          let room : a.registers ≤ f.code.registers = la.registers in
          block_names (omega (arith, behind, enough, room)) (o.code f (subst (λ x. Later x f) (sym o.same) la)) st.has.0
          (subst (λ p. IsBlock f.code away (local_of boxed free ∷ s.locals) (free + 1) rest 0 p c' pc' ls end) (length_snoc s.steps (lined named 0 after))
          (subst (λ n. IsBlock f.code away (local_of boxed free ∷ s.locals) n rest 0 (place (emitted named 0 after)) c' pc' ls end) behind h));
    })

-- IN THE WORDS OF A FUNCTION
pub block_finished : (free at : ℕ) (whole left : CBlock) (s t : State) → BlockSoFar free whole left s t at → left ≡ EndC → BlockSoFar free whole EndC s t at
block_finished free at whole left s t so is = subst (λ x. BlockSoFar free whole x s t at) is so

pub said_statement : (free next : ℕ) (whole same : CBlock → CBlock) (s b t : State) → b ≡ begun s → ((rest : CBlock) → whole rest ≡ same rest) → BegunPart free same b t next → (rest : CBlock) → BlockSoFar free (whole rest) rest s t next
said_statement free next whole same s b t begins e h rest = subst (λ x. BlockSoFar free x rest s t next) (sym (e rest)) (h s rest begins)

pub begun_valued_next : (next free : ℕ) (e : CExp) (old s1 t : State) → next ≡ free + 1 → Reached next old s1 → ValueSaid next e free s1 t → BegunStat free (CallStatC e) old t
begun_valued_next next free e old s1 t is r h = begun_valued free e old s1 t (subst (λ n. Reached n old s1) is r) (subst (λ n. ValueSaid n e free s1 t) is h)

pub said_returned : (free : ℕ) (es : CExps) (count : Wanted) (old t u : State) → RowSaid free es old t count → u ≡ emitted (op.Return free count) 0 t → BegunStat free (ReturnC es) old u
said_returned free es count old t u h ends = subst (BegunStat free (ReturnC es) old) (sym ends) (begun_returned free es count old t h)

pub returned_as : (free : ℕ) (es fs : CExps) (old t : State) → es ≡ fs → BegunStat free (ReturnC fs) old t → BegunStat free (ReturnC es) old t
returned_as free es fs old t is h = subst (λ x. BegunStat free (ReturnC x) old t) (sym is) h

pub said_returned_one : (free i r : ℕ) (count : Wanted) (old b u : State) → b ≡ begun old → slice_get b.locals i ≡ Some (PlainL r) → wanted_seen count ≡ Exactly 1 → u ≡ emitted (op.Return r count) 0 b → BegunStat free (ReturnC (MoreC (LocalC (Reg i)) NoC)) old u
said_returned_one free i r count old b u begins at one ends =
    subst (BegunStat free (ReturnC (MoreC (LocalC (Reg i)) NoC)) old) (sym (ends ∙ ap (emitted (op.Return r count) 0) begins)) (begun_returned_one free i r count old (ap (λ (x : State). slice_get x.locals i) (sym begins) ∙ at) one)

pub said_left : (free jump : ℕ) (jumps : List ℕ) (old t : State) → jump ≡ place old → t ≡ emitted (op.Jump (2 ^ 32 - 1)) 0 old → jumps ≡ t.breaks ++ jump ∷ [] → BegunStat free BreakC old (with_breaks jumps t)
said_left free jump jumps old t at ends put =
    begun_left free old (with_breaks jumps t)
    (ap (λ js. with_breaks js t) put ∙ ap (λ (x : State). with_breaks (x.breaks ++ jump ∷ []) x) ends ∙ ap (λ n. with_breaks (old.breaks ++ n ∷ []) (emitted (op.Jump (2 ^ 32 - 1)) 0 old)) at)

pub said_opened : (flags : List Bool) (at first count : ℕ) (s t u : State) → is_any flags ≡ true → CellsSaid flags s t first count → u ≡ emitted (op.Open at first count) 0 t → OpenSaid flags at s u
said_opened flags at first count s t u some h ends = subst (OpenSaid flags at s) (sym ends) (opened_cells flags at first count s t some h)

pub said_named : (free next index first count : ℕ) (boxed : Bool) (places : List Place) (old a b c u : State) → next ≡ free + 1 → Reached next old a → b ≡ declared (local_of boxed free) a → OriginsSaid places b c first count → u ≡ emitted (op.Named boxed free index first count) 0 c
    → BegunPart free (LocalFunctionC boxed index places) old u next
said_named free next index first count boxed places old a b c u behind reached with origins ends =
    subst (λ x. BegunPart free (LocalFunctionC boxed index places) old x next) (sym ends) (begun_named free next index first count boxed places old a b c behind reached with origins)

-- a plain local variable by itself
pub local_place : (e : CExp) (p : Place) (at : Option ℕ) → e ≡ LocalC p → IfSome at (λ i. p ≡ Reg i) → IfSome at (λ i. e ≡ LocalC (Reg i))
local_place e p None is h = h
local_place e p (Some i) is h = is ∙ ap LocalC h

pub local_alone : (es : List Expression) (e : Expression) (at : Option ℕ) → es ≡ e ∷ [] → IfSome at (λ i. expression_seen e ≡ LocalC (Reg i)) → IfSome at (λ i. expressions_seen es ≡ MoreC (LocalC (Reg i)) NoC)
local_alone es e None is h = h
local_alone es e (Some i) is h = ap expressions_seen is ∙ ap (λ x. MoreC x NoC) h

-- HOW MANY VARIABLES are open, and only the oldest ones
length_reversed : {A B : Type 0} (g : A → B) (xs : List A) → length (reverse (map g xs)) ≡ length xs
length_reversed g xs = length-reverse (map g xs) ∙ length-map xs g

pub locals_counted : (xs : List Held) (n : ℕ) → n ≡ length xs → n ≡ length (reverse (map local_seen xs))
locals_counted xs n is = is ∙ sym (length_reversed local_seen xs)

pub locals_closed : (xs ys : List Held) (n : ℕ) → ys ≡ take n xs → reverse (map local_seen ys) ≡ drop (length (reverse (map local_seen xs)) - n) (reverse (map local_seen xs))
locals_closed xs ys n is =
    let whole : xs ≡ take n xs ++ drop n xs = sym (take-append-drop n xs) in
    let back : reverse (map local_seen xs) ≡ reverse (map local_seen (drop n xs)) ++ reverse (map local_seen (take n xs)) =
    ap (λ zs. reverse (map local_seen zs)) whole ∙ ap reverse (map-append local_seen (take n xs) (drop n xs)) ∙ reverse-append (map local_seen (take n xs)) (map local_seen (drop n xs)) in
    ap (λ zs. reverse (map local_seen zs)) is ∙ sym (cut (reverse (map local_seen xs)) (reverse (map local_seen (drop n xs))) (reverse (map local_seen (take n xs))) back few (length_reversed local_seen xs))
  where
    few : length (reverse (map local_seen (drop n xs))) ≡ length xs - n
    few = length_reversed local_seen (drop n xs) ∙ length-drop n xs

    cut : (all front rest : List Local) → all ≡ front ++ rest → length front ≡ length xs - n → length all ≡ length xs → drop (length all - n) all ≡ rest
    cut all front rest e many long = ap (λ k. drop (k - n) all) long ∙ ap (λ k. drop k all) (sym many) ∙ ap (drop (length front)) e ∙ dropped front rest
