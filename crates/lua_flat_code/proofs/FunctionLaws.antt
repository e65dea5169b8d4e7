-- Code of functions and of a module, put together from that of their bodies.
use Rattle.std.proofs.Common.{◌≡◌, ◌∙◌, ◌≤◌, ◌<◌, ◌-◌, ℕ, zero, suc, ◌+◌, ◌^◌, Bool, true, false, List, [], ◌∷◌, ◌++◌, map, length, drop, get_or, slice_get, Some, None, option_map, refl, sym, ap, subst, arith}
use Rattle.std.specs.Prelude.{nat_eq}
use Rattle.std.proofs.lemmas.Bool.{eqb-true}
use Rattle.std.proofs.lemmas.List.{drop_more, drop_all}
use Rattle.lua_flat.specs.LuaSlotsCode.{EndC, CProto}
use Rattle.lua_flat.specs.Operations as flat
use Rattle.lua_flat.specs.Operations.{FlatFunction}
use Rattle.lua_flat.specs.Locals.{with_row}
use Rattle.lua_flat.specs.IsExpression.{Has}
use Rattle.lua_flat.specs.IsStatement.{IsBlock, block_end, IsFlatOption, no_code, flat_code}
use Rattle.lua_code.specs.declared.proto.Proto.{Proto}
use Rattle.lua_code.specs.declared.proto.Protos.{Protos}
use Rattle.lua_code.specs.declared.statement.Statement.{Statement}
use Rattle.lua_code.specs.Seen.{block_seen, proto_seen, protos_seen}
use Rattle.lua_flat_code.specs.declared.operand.Constant.{Constant}
use Rattle.lua_flat_code.specs.declared.operand.Wanted.{Wanted}
use Rattle.lua_flat_code.specs.declared.op.Op.{Op}
use Rattle.lua_flat_code.specs.declared.op.Op.TheVariants as op
use Rattle.lua_flat_code.specs.declared.function.Function.{Function}
use Rattle.lua_flat_code.specs.declared.function.Functions.{Functions}
use Rattle.lua_flat_code.specs.declared.maker.Lined.{Lined}
use Rattle.lua_flat_code.specs.Seen.{Tables, wanted_seen, op_seen, step_seen, function_seen}
use Rattle.lua_flat_code.specs.Making.{State, empty, place, aim, aim_when, aimed, Begins, Final, Later, Next, emitted, step_of, line_of}
use Rattle.lua_flat_code.specs.Parts.{BlockSoFar, RowDeclared}
use Rattle.lua_flat_code.specs.Whole.{CodeSaid, Finished, IsFlatIn, FunctionSaid, AllFlat, FunctionsSoFar, FunctionsSaid, functions_seen, IsMade}
use Rattle.lua_flat_code.proofs.Handed.{nil_behind, joined_lists}
use Rattle.lua_flat_code.proofs.MakingLaws.{next_trans, next_row, next_emitted, stands_emitted}

-- BEGINNINGS of lists
pub begins_same : {A : Type 0} (xs : List A) → Begins A xs xs
begins_same xs = ([], sym (nil_behind xs))

pub begins_trans : {A : Type 0} (xs ys zs : List A) → Begins A xs ys → Begins A ys zs → Begins A xs zs
begins_trans xs ys zs h k = (h.0 ++ k.0, k.1 ∙ ap (λ l. l ++ k.0) h.1 ∙ joined_lists xs h.0 k.0)

-- THE FUNCTION ITSELF is one of those that it may become: no open jump gets another target
aim_same : (target : ℕ) → aim (2 ^ 32 - 1) target ≡ target
aim_same target = both (nat_eq target (2 ^ 32 - 1)) refl
  where
    both : (b : Bool) → nat_eq target (2 ^ 32 - 1) ≡ b → aim (2 ^ 32 - 1) target ≡ target
    both true e = ap (λ b. aim_when b (2 ^ 32 - 1) target) e ∙ sym (eqb-true target (2 ^ 32 - 1) e)
    both false e = ap (λ b. aim_when b (2 ^ 32 - 1) target) e

aimed_same : (o : Op) → aimed (2 ^ 32 - 1) o ≡ o
aimed_same (op.Jump u) = ap op.Jump (aim_same u)
aimed_same (op.Test when a u) = ap (op.Test when a) (aim_same u)
aimed_same (op.Compare which a b when u) = ap (op.Compare which a b when) (aim_same u)
aimed_same (op.CountBegins base u) = ap (op.CountBegins base) (aim_same u)
aimed_same (op.EachTests base u) = ap (op.EachTests base) (aim_same u)
aimed_same o = refl

step_there : (k : Tables) (xs : List Lined) (n : ℕ) (l : Lined) → slice_get xs n ≡ Some l → slice_get (map (step_seen k) (map step_of xs)) n ≡ Some (record { charge = l.charge; op = op_seen k l.op })
step_there k [] n l e = cc
step_there k (x ∷ xs) zero l e = let same : x ≡ l = cc in ap (λ (y : Lined). Some (record { charge = y.charge; op = op_seen k y.op })) same
step_there k (x ∷ xs) (suc n) l e = step_there k xs n l e

line_there : (xs : List Lined) (n : ℕ) (l : Lined) → slice_get xs n ≡ Some l → slice_get (map line_of xs) n ≡ Some l.line
line_there [] n l e = cc
line_there (x ∷ xs) zero l e = let same : x ≡ l = cc in ap (λ (y : Lined). Some y.line) same
line_there (x ∷ xs) (suc n) l e = line_there xs n l e

pub later_itself : (s : State) (constants : List Constant) (g : FlatFunction) → Begins Constant s.constants constants → g.registers ≡ s.registers
    → g.steps ≡ map (step_seen (record { texts = s.texts; constants = constants; cells = s.cells; origins = s.origins })) (map step_of s.steps) → g.lines ≡ map line_of s.steps
    → Later s (record { tables = record { texts = s.texts; constants = constants; cells = s.cells; origins = s.origins }; code = g })
later_itself s constants g begins registers steps lines = record {
  texts = refl;
  constants = begins;
  cells = begins_same s.cells;
  origins = begins_same s.origins;
  steps = λ at l e. record {
    to = 2 ^ 32 - 1;
    has = (ap (λ xs. slice_get xs at) steps ∙ step_there (tables) s.steps at l e ∙ ap (λ o. Some (record { charge = l.charge; op = op_seen tables o })) (sym (aimed_same l.op)), ap (λ xs. slice_get xs at) lines ∙ line_there s.steps at l e);
  };
  registers = let same : g.registers ≡ s.registers = registers in omega (arith, same);
}
  where
    tables : Tables
    tables = record { texts = s.texts; constants = constants; cells = s.cells; origins = s.origins }

-- so what is to stay stays
abbrev itself : State → Final
itself s = record {
  tables = record { texts = s.texts; constants = s.constants; cells = s.cells; origins = s.origins };
  code = record {
    flags = [];
    dots = false;
    registers = s.registers;
    steps = map (step_seen (record { texts = s.texts; constants = s.constants; cells = s.cells; origins = s.origins })) (map step_of s.steps);
    lines = map line_of s.steps;
  };
}

later_here : (s : State) → Later s (itself s)
later_here s = later_itself s s.constants (itself s).code (begins_same s.constants) refl refl refl

pub constants_stay : (s t : State) → Next s t → Begins Constant s.constants t.constants
constants_stay s t next = (next (itself t) (later_here t)).constants

pub texts_stay : (s t : State) → Next s t → t.texts ≡ s.texts
texts_stay s t next = (next (itself t) (later_here t)).texts

-- A FUNCTION: its parameters, its body, and the return at its end
pub code_said : (p : CProto) (free next : ℕ) (count : Wanted) (s a b t : State) → RowDeclared 0 p.flags s a free → BlockSoFar free p.body EndC a b next → wanted_seen count ≡ flat.Exactly 0 → t ≡ emitted (op.Return 0 count) 0 b → t.breaks ≡ [] → CodeSaid p s t
code_said p free next count s a b t row block none t_is out =
    let last : State = emitted (op.Return 0 count) 0 b in
    let inside : State = record s { registers = a.registers; locals = with_row 0 p.flags s.locals } in
    let to_a : Next s a = subst (Next s) (sym row.same) (next_row a.registers (with_row 0 p.flags s.locals) s row.more) in
    let b_on : Next b t = subst (Next b) (sym t_is) (next_emitted (op.Return 0 count) 0 b) in
    let on : Next s t = next_trans s a t to_a (next_trans a b t block.next b_on) in
    let b_out : b.breaks ≡ [] = sym (ap (λ (x : State). x.breaks) t_is) ∙ out in
    record {
      constants = constants_stay s t on;
      texts = texts_stay s t on;
      breaks = out;
      code = λ s_is f l flags dots.
          let lb = b_on f l in
          let la = block.next f lb in
          let st = stands_emitted (op.Return 0 count) 0 b f (subst (λ x. Later x f) t_is l) in
          let free_is : free ≡ 0 + length p.flags = row.behind in
          let counted : free ≡ length p.flags = omega (arith, free_is) in
          let room : free ≤ a.registers = row.enough in
          let enough : a.registers ≤ f.code.registers = la.registers in
          let a_is : a ≡ record (empty s.texts s.constants []) { registers = a.registers; locals = with_row 0 p.flags [] } = row.same ∙ ap (λ (x : State). record x { registers = a.registers; locals = with_row 0 p.flags x.locals }) s_is in
          let body : IsBlock f.code None a.locals free p.body a.owed (place a) b.owed (place b) b.locals next = block.code f lb None b_out b.owed (place b) b.locals next block_end in
          let first : IsBlock f.code None (with_row 0 p.flags []) free p.body 0 0 b.owed (place b) b.locals next =
          subst (λ (x : State). IsBlock f.code None x.locals free p.body x.owed (place x) b.owed (place b) b.locals next) a_is body in
          let many : length f.code.flags ≡ length p.flags = ap length flags in
          record {
            flags = flags;
            dots = dots;
            room = omega (arith, counted, room, enough, many);
            owed = b.owed;
            end = place b;
            locals = b.locals;
            free = next;
            body = subst (λ fs. IsBlock f.code None (with_row 0 fs []) (length fs) p.body 0 0 b.owed (place b) b.locals next) (sym flags)
                (subst (λ n. IsBlock f.code None (with_row 0 p.flags []) n p.body 0 0 b.owed (place b) b.locals next) counted first);
            returns = subst (λ w. Has f.code (place b) b.owed (flat.ReturnF 0 w)) none st.has.0;
          };
    }

pub function_said : (p : Proto) (s e t : State) (g : Function) → e ≡ empty s.texts s.constants s.breaks → CodeSaid (proto_seen p) e t → Finished (proto_seen p) t g → FunctionSaid p s t g
function_said p s e t g e_is code done =
    let first : State = empty s.texts s.constants s.breaks in
    let c : CodeSaid (proto_seen p) first t = subst (λ x. CodeSaid (proto_seen p) x t) e_is code in
    record {
      constants = c.constants;
      texts = c.texts;
      breaks = c.breaks;
      code = λ none constants begins.
          let here : State = record t { texts = s.texts } in
          let t_is : t ≡ here = ap (λ n. record t { texts = n }) c.texts in
          let k : Tables = record { texts = s.texts; constants = constants; cells = g.cells; origins = g.origins } in
          let code : FlatFunction = function_seen s.texts constants g in
          let tables : record { texts = s.texts; constants = constants; cells = t.cells; origins = t.origins } ≡ k =
          ap (λ cs. record { texts = s.texts; constants = constants; cells = cs; origins = t.origins }) (sym done.cells) ∙ ap (λ os. record { texts = s.texts; constants = constants; cells = g.cells; origins = os }) (sym done.origins) in
          let steps : code.steps ≡ map (step_seen (record { texts = s.texts; constants = constants; cells = t.cells; origins = t.origins })) (map step_of t.steps) =
          ap (λ xs. map (step_seen k) xs) done.steps ∙ ap (λ x. map (step_seen x) (map step_of t.steps)) (sym tables) in
          let later : Later here (record { tables = record { texts = s.texts; constants = constants; cells = t.cells; origins = t.origins }; code = code }) = later_itself here constants code begins done.registers steps done.lines in
          c.code (ap (λ js. empty s.texts s.constants js) none) (record { tables = record { texts = s.texts; constants = constants; cells = t.cells; origins = t.origins }; code = code }) (subst (λ x. Later x (record { tables = record { texts = s.texts; constants = constants; cells = t.cells; origins = t.origins }; code = code })) (sym t_is) later) done.flags done.dots;
    }

-- FUNCTIONS in their order
pub flat_more : (texts : ℕ) (old new : List Constant) (p : Proto) (g : Function) → Begins Constant old new → IsFlatIn texts old p g → IsFlatIn texts new p g
flat_more texts old new p g more h = λ constants begins. h constants (begins_trans old new constants more begins)

pub functions_start : (ps : List Proto) (s : State) (gs : List Function) → gs ≡ [] → FunctionsSoFar ps ps s s gs
functions_start ps s gs is = subst (FunctionsSoFar ps ps s s) (sym is) (record { constants = begins_same s.constants; texts = refl; breaks = λ h. h; code = λ none new begins hs h. h })

pub functions_step : (ps left rest : List Proto) (p : Proto) (g : Function) (s t u : State) (gs new : List Function) → FunctionsSoFar ps left s t gs → left ≡ p ∷ rest → FunctionSaid p t u g → new ≡ gs ++ g ∷ [] → FunctionsSoFar ps rest s u new
functions_step ps left rest p g s t u gs new so is h put =
    let front : FunctionsSoFar ps (p ∷ rest) s t gs = subst (λ l. FunctionsSoFar ps l s t gs) is so in
    subst (FunctionsSoFar ps rest s u) (sym put) (record {
      constants = begins_trans s.constants t.constants u.constants so.constants h.constants;
      texts = h.texts ∙ so.texts;
      breaks = λ none. h.breaks;
      code = λ none all begins hs k.
          let code : IsFlatIn s.texts u.constants p g = subst (λ n. IsFlatIn n u.constants p g) so.texts (h.code (so.breaks none)) in
          subst (AllFlat s.texts all ps) (sym (joined_lists gs (g ∷ []) hs))
          (front.code none all (begins_trans t.constants u.constants all h.constants begins) (g ∷ hs) (flat_more s.texts u.constants all p g begins code, k));
    })

pub functions_end : (ps left : List Proto) (s t : State) (gs : List Function) → FunctionsSoFar ps left s t gs → left ≡ [] → FunctionsSaid ps s t gs
functions_end ps left s t gs so is =
    let all : FunctionsSoFar ps [] s t gs = subst (λ l. FunctionsSoFar ps l s t gs) is so in
    record {
      constants = so.constants;
      texts = so.texts;
      breaks = so.breaks;
      code = λ none. subst (AllFlat s.texts t.constants ps) (nil_behind gs) (all.code none t.constants (begins_same t.constants) [] tt);
    }

-- A MODULE
each_flat : (texts : ℕ) (constants : List Constant) (ps : List Proto) (gs : List Function) (i : ℕ) → AllFlat texts constants ps gs → IsFlatOption (option_map proto_seen (slice_get ps i)) (option_map (function_seen texts constants) (slice_get gs i))
each_flat texts constants [] [] i h = no_code
each_flat texts constants (p ∷ ps) (g ∷ gs) zero h = flat_code (h.0 constants (begins_same constants))
each_flat texts constants (p ∷ ps) (g ∷ gs) (suc i) h = each_flat texts constants ps gs i h.1
each_flat texts constants [] (g ∷ gs) i h = absurd h
each_flat texts constants (p ∷ ps) [] i h = absurd h

pub made : (ps : Protos) (fs : Functions) (s t u : State) → s.texts ≡ length ps.constants → s.breaks ≡ [] → FunctionSaid ps.text s t fs.text → FunctionsSaid ps.functions t u fs.functions → fs.constants ≡ u.constants → fs.texts ≡ ps.constants → IsMade ps fs
made ps fs s t u counted none first rest constants texts =
    let texts_are : s.texts ≡ length fs.texts = counted ∙ ap length (sym texts) in
    let text : IsFlatIn (length fs.texts) fs.constants ps.text fs.text =
    subst (λ cs. IsFlatIn (length fs.texts) cs ps.text fs.text) (sym constants) (subst (λ n. IsFlatIn n u.constants ps.text fs.text) texts_are (flat_more s.texts t.constants u.constants ps.text fs.text rest.constants (first.code none))) in
    let others : AllFlat (length fs.texts) fs.constants ps.functions fs.functions =
    subst (λ cs. AllFlat (length fs.texts) cs ps.functions fs.functions) (sym constants) (subst (λ n. AllFlat n u.constants ps.functions fs.functions) (first.texts ∙ texts_are) (rest.code first.breaks)) in
    record { code = λ i. go text others i; texts = texts }
  where
    go : IsFlatIn (length fs.texts) fs.constants ps.text fs.text → AllFlat (length fs.texts) fs.constants ps.functions fs.functions → (i : ℕ) → IsFlatOption ((protos_seen ps).function i) (functions_seen fs i)
    go text others zero = flat_code (text fs.constants (begins_same fs.constants))
    go text others (suc i) = each_flat (length fs.texts) fs.constants ps.functions fs.functions i others

-- IN THE WORDS OF A FUNCTION
pub said_code : (p : Proto) (free next : ℕ) (count : Wanted) (flags : List Bool) (body : List Statement) (s a b t : State) → flags ≡ p.flags → RowDeclared 0 flags s a free → body ≡ p.body → BlockSoFar free (block_seen body) EndC a b next → wanted_seen count ≡ flat.Exactly 0
    → t ≡ emitted (op.Return 0 count) 0 b → t.breaks ≡ [] → CodeSaid (proto_seen p) s t
said_code p free next count flags body s a b t flags_are row body_is block none t_is out =
    code_said (proto_seen p) free next count s a b t (subst (λ fs. RowDeclared 0 fs s a free) flags_are row) (subst (λ ss. BlockSoFar free (block_seen ss) EndC a b next) body_is block) none t_is out

pub said_made : (ps : Protos) (fs : Functions) (protos : List Proto) (constants : List Constant) (s t u : State) → s.texts ≡ length ps.constants → s.breaks ≡ [] → FunctionSaid ps.text s t fs.text → protos ≡ ps.functions → FunctionsSaid protos t u fs.functions
    → fs.constants ≡ constants → constants ≡ u.constants → fs.texts ≡ ps.constants → IsMade ps fs
said_made ps fs protos constants s t u counted none first are rest copied same texts = made ps fs s t u counted none first (subst (λ xs. FunctionsSaid xs t u fs.functions) are rest) (copied ∙ same) texts

-- a list that is mapped item by item
pub mapped_start : {A B : Type 0} (g : A → B) (xs : List A) (ys : List B) → ys ≡ [] → ys ++ map g (drop 0 xs) ≡ map g xs
mapped_start g xs ys none = ap (λ l. l ++ map g xs) none

pub mapped_step : {A B : Type 0} (g : A → B) (xs : List A) (i : ℕ) (x : A) (y : B) (ys zs : List B) → ys ++ map g (drop i xs) ≡ map g xs → i < length xs → y ≡ g (get_or xs i x) → zs ≡ ys ++ y ∷ [] → zs ++ map g (drop (i + 1) xs) ≡ map g xs
mapped_step g xs i x y ys zs so within is put =
    ap (λ l. l ++ map g (drop (i + 1) xs)) put ∙ joined_lists ys (y ∷ []) (map g (drop (i + 1) xs)) ∙ ap (λ z. ys ++ z ∷ map g (drop (i + 1) xs)) is ∙ sym (ap (λ l. ys ++ map g l) (drop_more xs i x within)) ∙ so

pub mapped_end : {A B : Type 0} (g : A → B) (xs : List A) (i : ℕ) (ys : List B) → ys ++ map g (drop i xs) ≡ map g xs → length xs ≤ i → ys ≡ map g xs
mapped_end g xs i ys so all = sym (nil_behind ys) ∙ ap (λ l. ys ++ map g l) (sym (drop_all i xs all)) ∙ so
