-- OPERATIONS THAT ACT: what the machine over trees does at the same steps.
use Rattle.std.proofs.Common.{◌≡◌, ℕ, ◌+◌, ◌∙◌, Bool, true, false, List, [], ◌∷◌, Option, Some, refl, sym, ap, ap₂, subst, arith}
use Rattle.std.specs.Prelude.{◌++◌, length, slice_get, slice_set}
use Rattle.lua_goes.specs.LuaSyntaxDeclaredUnaryOp.{UnaryOp}
use Rattle.lua_goes.specs.PageRunOutcome.{Goes, Jumps}
use Rattle.lua_goes.specs.LuaHeapValue.{Value, Text}
use Rattle.lua_goes.specs.LuaMeaningValues.{first}
use Rattle.lua_goes.specs.LuaMeaningActs.{Raised}
use Rattle.lua_flat.specs.LuaMeaningOperators.{Operator}
use Rattle.lua_goes.specs.LuaSlotsCode.{Place, Reg, Constants, NoC, CWorld}
use Rattle.lua_goes.specs.LuaSlotsSlots.{Slot, Plain, Activation, Slots, and_cell, cells_at, write_place}
use Rattle.lua_goes.specs.LuaSlotsPoints.{PlaceS, SFrame, First, MoreNext, AssignNow, SetsNext, Gives, Sets, Starts, Texts, Asking, Move, Now}
use Rattle.lua_goes.specs.LuaSlotsIndex as indexing
use Rattle.lua_goes.specs.LuaSlotsOperators as operators
use Rattle.lua_flat.specs.Locals.{Local, PlainL}
use Rattle.lua_flat.specs.Operations.{Operand, RegisterO, Origin, Op, GetGlobalF, IndexF, OperateF, UnaryF, Step, FlatFunction, Codes}
use Rattle.lua_flat.specs.Registers.{put, operand}
use Rattle.lua_flat.specs.Does.{Landing, into, origin_cells, becomes}
use Rattle.lua_flat.specs.Flat.{Act, Flat, FlatMove, FNodes, FExits, FNow}
use Rattle.lua_flat.specs.Moves.{or_nothing, op_or_pay, landed, goes_on, settled, does, step_of, flat_moves}
use Rattle.lua_flat.specs.IsExpression.{Has, IsOrigins, no_origin, from_register, from_captured, from_nothing}
use Rattle.lua_flat.specs.Keeps.{Keeps}
use Rattle.lua_flat.specs.WaitsExpression.{Lands, in_register, in_variable}
use Rattle.lua_flat.specs.Stands.{erased, in_tree, in_code, from_code, constants_in, AllAway, IsOneFrame, IsGiven, Within, within, Awaits, await_index, await_global, await_operate, await_unary, at_given, at_end_of_statement, is_away}
use Rattle.lua_flat_laws.specs.Follows.{Follows, follow_costs, follow_marks, follow_enters, follow_exits, follow_free, follow_stands}
use Rattle.lua_flat_laws.proofs.Likewise as like
use Rattle.lua_flat_laws.proofs.Likewise.{Likewise, like_costs, like_marks, like_enters, like_exits, like_goes, like_raises, like_starts, like_texts, like_asks, Operates, one_value, an_error, value_costs, by_one}
use Rattle.lua_flat_laws.proofs.Kept.{put_value, keep_within, keep_callers, moved, code_there, depth_there, variables_there, kept_there, room_there, callers_there, variable_cell}
use Rattle.lua_flat_laws.proofs.Meets.{set_append, set_variables, apart_at, apart_keeps}
use Rattle.lua_flat_laws.proofs.Unwinds.{unwind_lands}

module _ (world : CWorld) (codes : Codes) (room : ℕ) (index pc base : ℕ) (frames : List SFrame) (acts : List Act) (fn : Activation) (fns : List Activation) (g : FlatFunction) (mine theirs : List Slot) (beneath : List SFrame) (regs : List Slot) (top : ℕ) where
  abbrev pub act : Act
  act = record { index = index; pc = pc; base = base; frames = frames }

  abbrev pub cs : Constants
  cs = constants_in world fn.source

  abbrev pub tree : Slots → Slots
  tree s = in_tree (mine ++ theirs) (fn ∷ fns) s

  abbrev pub flat : Slots → Flat
  flat s = in_code act acts regs top (tree s)

  abbrev pub Here : List Local → ℕ → Keeps → Type 0
  Here locals low keeps = Within world codes regs act acts fn fns g mine theirs beneath locals low keeps

  -- THE OPERATION that stands there is the next one; and to it an outcome comes back
  pub operation_at : (s : Slots) (c : ℕ) (op : Op) → codes fn.source index ≡ Some g → Has g pc c op → flat_moves world codes room (flat s) ≡ FNodes c (does codes cs (slice_get g.lines pc) op act acts (flat s))
  operation_at s c op code has =
      ap (λ (o : Option FlatFunction). step_of world codes room (or_nothing o) (slice_get (or_nothing o).steps pc) act acts (flat s)) code ∙ ap (λ (o : Option Step). step_of world codes room g o act acts (flat s)) has

  pub goes_on_at : (t : Slots) (c : ℕ) (op : Op) → codes fn.source index ≡ Some g → Has g pc c op → (vs : List Value) → goes_on codes vs act acts (flat t) ≡ landed (becomes op base pc vs regs top) act acts (erased (tree t))
  goes_on_at t c op code has vs =
      ap (λ (o : Option FlatFunction). landed (becomes (op_or_pay (slice_get (or_nothing o).steps pc)) base pc vs regs top) act acts (erased (tree t))) code
      ∙ ap (λ (o : Option Step). landed (becomes (op_or_pay o) base pc vs regs top) act acts (erased (tree t))) has

  -- A VALUE LANDS
  given_put : (single : Bool) (to : ℕ) (v : Value) → IsGiven single (v ∷ []) (operand cs (put (base + to) (Plain v) regs) base (RegisterO to))
  given_put true to v = ap (λ (x : Value). x ∷ []) (sym (put_value (base + to) v regs))
  given_put false to v = sym (put_value (base + to) v regs)

  abbrev after : ℕ → Value → Slots → FlatMove
  after to v t = FNow (landed (into (base + to) v pc regs top) act acts (erased (tree t)))

  pub lands_value : {last single : Bool} {locals : List Local} {low : ℕ} {keeps : Keeps} {to : ℕ} {fs : List SFrame} → Here locals low keeps → Lands cs g (length theirs) beneath last single locals low keeps (pc + 1) to fs → (v : Value) (t : Slots)
      → Follows world codes (after to v t) (Now (Gives (Goes (v ∷ [])) fs) (tree t))
  lands_value w (in_register {single} {low} {to} l waits) v t =
      follow_stands (at_given t (moved world codes (pc + 1) (keep_within world codes regs (base + to) (Plain v) (omega (arith, l)) w)) (given_put single to v) waits)
  lands_value w (in_variable {locals} {low} {i} {keeps} {to} {fs} tidy e r) v t =
      let made : List Slot = slice_set mine i (Plain v) in
      let eq : slice_set (mine ++ theirs) i (Plain v) ≡ made ++ theirs = set_append regs base locals mine theirs i (PlainL to) (Plain v) (variables_there world codes w) e in
      let written : Slots = write_place (tree t) (Reg i) v in
      follow_free (Gives (Goes (v ∷ [])) (MoreNext NoC [] ∷ AssignNow (PlaceS (Reg i) ∷ []) ∷ fs)) (tree t)
      (follow_free (Gives (Goes (v ∷ [])) (AssignNow (PlaceS (Reg i) ∷ []) ∷ fs)) (tree t)
      (follow_free (Sets ((PlaceS (Reg i), v) ∷ []) fs) (tree t)
      (follow_free (Gives (Goes []) (SetsNext [] ∷ fs)) written
      (follow_free (Sets [] fs) written
      (subst (λ (zs : List Slot). Follows world codes (after to v t) (Now (Gives (Goes []) fs) (in_tree zs (fn ∷ fns) t))) (sym eq)
      (follow_stands (at_end_of_statement {a = record { index = index; pc = pc + 1; base = base; frames = frames }} {mine = made} t
      (within (code_there world codes w) (depth_there world codes w) (set_variables cs regs base locals mine i to v tidy.falling (variables_there world codes w) e)
      (apart_keeps cs regs base to (Plain v) keeps (apart_at locals keeps i (PlainL to) tidy.apart e) (kept_there world codes w)) tidy.bounded (room_there world codes w) (keep_callers world codes regs (base + to) (Plain v) (omega arith) (callers_there world codes w))) r)))))))

  -- an error above these frames
  pub raises_at : {last single : Bool} {locals : List Local} {low : ℕ} {keeps : Keeps} {p to : ℕ} {fs : List SFrame} → Here locals low keeps → Lands cs g (length theirs) beneath last single locals low keeps p to fs → (v : Value) (t : Slots)
      → Follows world codes (FExits (FNow (from_code (Gives (Jumps (Raised v)) frames) acts regs top (in_tree theirs fns t)))) (Now (Gives (Jumps (Raised v)) fs) (tree t))
  raises_at {fs} w lands v t = follow_free (Gives (Jumps (Raised v)) fs) (tree t) (unwind_lands world codes cs g top theirs fn t v (depth_there world codes w) (callers_there world codes w) lands mine)

  -- A MOVE OF VALUES, at an operation that waits for its outcome: what it gives at once comes back, an error leaves the function, and else the
  -- operation waits
  abbrev Back : List SFrame → List SFrame → Type 0
  Back hs fs = hs ≡ [] → (vs : List Value) (t : Slots) → Follows world codes (FNow (goes_on codes vs act acts (flat t))) (Now (Gives (Goes vs) fs) (tree t))

  abbrev Raise : List SFrame → List SFrame → Type 0
  Raise hs fs = hs ≡ [] → (v : Value) (t : Slots) → Follows world codes (FExits (FNow (from_code (Gives (Jumps (Raised v)) frames) acts regs top (in_tree theirs fns t)))) (Now (Gives (Jumps (Raised v)) fs) (tree t))

  settles_goes : (hs fs : List SFrame) {locals : List Local} {low : ℕ} {keeps : Keeps} → Here locals low keeps → Awaits cs g (length theirs) beneath locals low keeps pc hs fs → Back hs fs → (gs : List SFrame) → AllAway gs → (vs : List Value) (t s : Slots)
      → Follows world codes (settled codes (Now (Gives (Goes vs) (gs ++ hs)) (erased (tree t))) (flat s)) (Now (Gives (Goes vs) (gs ++ fs)) (tree t))
  settles_goes [] fs w aw back [] away vs t s = back refl vs t
  settles_goes (h ∷ hs) fs w aw back [] away vs t s = follow_stands (is_away (Gives (Goes vs) []) t (tt, tt) w aw)
  settles_goes hs fs w aw back (k ∷ gs) away vs t s = follow_stands (is_away (Gives (Goes vs) (k ∷ gs)) t (tt, away) w aw)

  settles_raises : (hs fs : List SFrame) {locals : List Local} {low : ℕ} {keeps : Keeps} → Here locals low keeps → Awaits cs g (length theirs) beneath locals low keeps pc hs fs → Raise hs fs → (gs : List SFrame) → AllAway gs → (v : Value) (t s : Slots)
      → Follows world codes (settled codes (Now (Gives (Jumps (Raised v)) (gs ++ hs)) (erased (tree t))) (flat s)) (Now (Gives (Jumps (Raised v)) (gs ++ fs)) (tree t))
  settles_raises [] fs w aw raise [] away v t s = raise refl v t
  settles_raises (h ∷ hs) fs w aw raise [] away v t s = follow_stands (is_away (Gives (Jumps (Raised v)) []) t (tt, tt) w aw)
  settles_raises hs fs w aw raise (k ∷ gs) away v t s = follow_stands (is_away (Gives (Jumps (Raised v)) (k ∷ gs)) t (tt, away) w aw)

  pub settles : (hs fs : List SFrame) {locals : List Local} {low : ℕ} {keeps : Keeps} → Here locals low keeps → Awaits cs g (length theirs) beneath locals low keeps pc hs fs → Back hs fs → Raise hs fs → {m mv : Move} → Likewise hs fs (mine ++ theirs) (fn ∷ fns) m mv → (s : Slots)
      → Follows world codes (settled codes m (flat s)) mv
  settles hs fs w aw back raise (like_costs h) s = follow_costs (settles hs fs w aw back raise h s)
  settles hs fs w aw back raise (like_marks h) s = follow_marks (settles hs fs w aw back raise h s)
  settles hs fs w aw back raise (like_enters h) s = follow_enters (settles hs fs w aw back raise h s)
  settles hs fs w aw back raise (like_exits h) s = follow_exits (settles hs fs w aw back raise h s)
  settles hs fs w aw back raise (like_goes gs vs t away) s = settles_goes hs fs w aw back gs away vs t s
  settles hs fs w aw back raise (like_raises gs v t away) s = settles_raises hs fs w aw raise gs away v t s
  settles hs fs w aw back raise (like_starts gs thing t i away) s = follow_stands (is_away (Starts thing gs) t (i, away) w aw)
  settles hs fs w aw back raise (like_texts gs vs before t away) s = follow_stands (is_away (Texts vs before gs) t away w aw)
  settles hs fs w aw back raise (like_asks gs q t away) s = follow_stands (is_away (Asking q gs) t away w aw)

  -- AN OPERATOR gives one value, or fails, or waits for a handler
  pub operates : {fs : List SFrame} {locals : List Local} {low : ℕ} {keeps : Keeps} → Here locals low keeps → ((v : Value) (t : Slots) → Follows world codes (FNow (goes_on codes (v ∷ []) act acts (flat t))) (Now (Gives (Goes (v ∷ [])) fs) (tree t)))
      → ((v : Value) (t : Slots) → Follows world codes (FExits (FNow (from_code (Gives (Jumps (Raised v)) frames) acts regs top (in_tree theirs fns t)))) (Now (Gives (Jumps (Raised v)) fs) (tree t)))
      → ((h : SFrame) → IsOneFrame h → Awaits cs g (length theirs) beneath locals low keeps pc (h ∷ []) (h ∷ fs)) → {m mv : Move} → Operates fs (mine ++ theirs) (fn ∷ fns) m mv → (s : Slots) → Follows world codes (settled codes m (flat s)) mv
  operates w value raise awaits (one_value v t) s = value v t
  operates w value raise awaits (an_error v t) s = raise v t
  operates w value raise awaits (value_costs h) s = follow_costs (operates w value raise awaits h s)
  operates {fs} w value raise awaits (by_one h i l) s = settles (h ∷ []) (h ∷ fs) w (awaits h i) (λ e. absurd cc) (λ e. absurd cc) l s

  -- EACH OPERATION that gives a value: it is put, and then lands
  pub value_back : {last single : Bool} {locals : List Local} {low to : ℕ} {keeps : Keeps} {fs : List SFrame} → Here locals low keeps → (c : ℕ) (op : Op) → Has g pc c op → Lands cs g (length theirs) beneath last single locals low keeps (pc + 1) to fs → (v : Value) (vs : List Value)
      → becomes op base pc vs regs top ≡ into (base + to) v pc regs top → (t : Slots) → Follows world codes (FNow (goes_on codes vs act acts (flat t))) (Now (Gives (Goes (v ∷ [])) fs) (tree t))
  value_back {fs} w c op has lands v vs same t =
      subst (λ (x : Flat). Follows world codes (FNow x) (Now (Gives (Goes (v ∷ [])) fs) (tree t)))
      (sym (goes_on_at t c op (code_there world codes w) has vs ∙ ap (λ (l : Landing). landed l act acts (erased (tree t))) same)) (lands_value w lands v t)

  -- what is read of operands and of the line
  module _ (M : Option ℕ → Value → Value → Move) (mv : Move) (s : Slots) where
    pub read_both : (a b : Operand) (u k : Value) (line : Option ℕ) → operand cs regs base a ≡ u → operand cs regs base b ≡ k → slice_get g.lines pc ≡ line → Follows world codes (settled codes (M line u k) (flat s)) mv
        → Follows world codes (settled codes (M (slice_get g.lines pc) (operand cs regs base a) (operand cs regs base b)) (flat s)) mv
    read_both a b u k line ea eb el h =
        subst (λ (x : Option ℕ). Follows world codes (settled codes (M x (operand cs regs base a) (operand cs regs base b)) (flat s)) mv) (sym el)
        (subst (λ (x : Value). Follows world codes (settled codes (M line x (operand cs regs base b)) (flat s)) mv) (sym ea)
        (subst (λ (x : Value). Follows world codes (settled codes (M line u x) (flat s)) mv) (sym eb) h))

  module _ {single : Bool} {locals : List Local} {low to : ℕ} {keeps : Keeps} {fs : List SFrame} (w : Here locals low keeps) (s : Slots) (c : ℕ) (line : Option ℕ) (el : slice_get g.lines pc ≡ line)
      (lands : Lands cs g (length theirs) beneath true single locals low keeps (pc + 1) to fs) where
    pub index_acts : (a b : Operand) → Has g pc c (IndexF to a b) → (u k : Value) → operand cs regs base a ≡ u → operand cs regs base b ≡ k
        → Follows world codes (does codes cs (slice_get g.lines pc) (IndexF to a b) act acts (flat s)) (indexing.index u k line (First ∷ fs) (tree s))
    index_acts a b has u k ea eb =
        read_both (λ l x y. indexing.index x y l [] (erased (tree s))) (indexing.index u k line (First ∷ fs) (tree s)) s a b u k line ea eb el
        (settles [] (First ∷ fs) w (await_index has lands) (λ e vs t. follow_free (Gives (Goes vs) (First ∷ fs)) (tree t) (value_back w c (IndexF to a b) has lands (first vs) vs refl t))
        (λ e v t. follow_free (Gives (Jumps (Raised v)) (First ∷ fs)) (tree t) (raises_at w lands v t)) (like.index [] (First ∷ fs) [] tt u k line (tree s)) s)

    pub global_acts : (x : ℕ) → Has g pc c (GetGlobalF to x) → Follows world codes (does codes cs (slice_get g.lines pc) (GetGlobalF to x) act acts (flat s)) (indexing.index_table s.globals (Text (cs x)) line (First ∷ fs) (tree s))
    global_acts x has =
        subst (λ (l : Option ℕ). Follows world codes (settled codes (indexing.index_table s.globals (Text (cs x)) l [] (erased (tree s))) (flat s)) (indexing.index_table s.globals (Text (cs x)) line (First ∷ fs) (tree s))) (sym el)
        (settles [] (First ∷ fs) w (await_global has lands) (λ e vs t. follow_free (Gives (Goes vs) (First ∷ fs)) (tree t) (value_back w c (GetGlobalF to x) has lands (first vs) vs refl t))
        (λ e v t. follow_free (Gives (Jumps (Raised v)) (First ∷ fs)) (tree t) (raises_at w lands v t)) (like.index_table [] (First ∷ fs) [] tt s.globals (Text (cs x)) line (tree s)) s)

    pub operate_acts : (op : Operator) (a b : Operand) → Has g pc c (OperateF op to a b) → (u k : Value) → operand cs regs base a ≡ u → operand cs regs base b ≡ k
        → Follows world codes (does codes cs (slice_get g.lines pc) (OperateF op to a b) act acts (flat s)) (operators.operate op u k line fs (tree s))
    operate_acts op a b has u k ea eb =
        read_both (λ l x y. operators.operate op x y l [] (erased (tree s))) (operators.operate op u k line fs (tree s)) s a b u k line ea eb el
        (operates w (λ v t. value_back w c (OperateF op to a b) has lands v (v ∷ []) refl t) (λ v t. raises_at w lands v t) (λ h i. await_operate i has lands) (like.operate fs op u k line (tree s)) s)

    pub apply_acts : (op : UnaryOp) (a : Operand) → Has g pc c (UnaryF op to a) → (u : Value) → operand cs regs base a ≡ u
        → Follows world codes (does codes cs (slice_get g.lines pc) (UnaryF op to a) act acts (flat s)) (operators.apply op u line fs (tree s))
    apply_acts op a has u ea =
        read_both (λ l x y. operators.apply op x l [] (erased (tree s))) (operators.apply op u line fs (tree s)) s a a u u line ea ea el
        (operates w (λ v t. value_back w c (UnaryF op to a) has lands v (v ∷ []) refl t) (λ v t. raises_at w lands v t) (λ h i. await_unary i has lands) (like.apply fs op u line (tree s)) s)

  -- CELLS that are captured
  pub cells_same : {locals : List Local} {low : ℕ} {keeps : Keeps} → Here locals low keeps → (cells : List ℕ) {places : List Place} {os : List Origin} → IsOrigins locals places os → origin_cells regs base cells os ≡ cells_at (mine ++ theirs) cells places
  cells_same w cells no_origin = refl
  cells_same {locals} w cells (from_register {i} {r} {places} {os} e h) =
      ap₂ and_cell (sym (variable_cell regs base locals mine theirs i r (variables_there world codes w) e)) (cells_same w cells h)
  cells_same w cells (from_captured {i} {places} {os} h) = ap (λ (xs : List ℕ). and_cell (slice_get cells i) xs) (cells_same w cells h)
  cells_same w cells (from_nothing h) = cells_same w cells h
