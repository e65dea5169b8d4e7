-- LISTS THAT ARE ADJUSTED: down their code to the operation that stands there.
use Rattle.std.proofs.Common.{◌≡◌, ℕ, ◌+◌, ◌≤◌, ◌∙◌, Bool, true, false, List, [], ◌∷◌, ◌++◌, refl, sym, ap, subst, arith, length-append}
use Rattle.std.specs.Prelude.{length, take, slice_get}
use Rattle.lua_goes.specs.PageRunOutcome.{Goes}
use Rattle.lua_goes.specs.LuaHeapValue.{Value}
use Rattle.lua_goes.specs.LuaMeaningValues.{first}
use Rattle.lua_goes.specs.LuaSlotsCode.{Constants, CExp, CExps, NoC, MoreC, CWorld}
use Rattle.lua_goes.specs.LuaSlotsSlots.{Slot, Activation, Slots}
use Rattle.lua_goes.specs.LuaSlotsPoints.{SFrame, MoreNext, Point, Gives, Evals, Lists, Now}
use Rattle.lua_flat.specs.Locals.{Local}
use Rattle.lua_flat.specs.Operations.{Operand, RegisterO, Exactly, NilsF, FlatFunction, Codes}
use Rattle.lua_flat.specs.Registers.{operand, values_at, adjusted, put_values}
use Rattle.lua_flat.specs.Flat.{Act, Flat, FNow}
use Rattle.lua_flat.specs.Moves.{does}
use Rattle.lua_flat.specs.IsExpression.{Has, IsExact, exact_one, exact_one_nils, exact_dropped, exact_many, exact_more, exact_skips}
use Rattle.lua_flat.specs.Keeps.{Keeps, AreKept, Bounded, in_row}
use Rattle.lua_flat.specs.WaitsStatement.{StatExact}
use Rattle.lua_flat.specs.WaitsExpression.{Waits, exact_goes_on, exact_ends, exact_adds, exact_drops, exact_drops_last, in_register, LandsMany, land_exact, land_dropped}
use Rattle.lua_flat.specs.Stands.{in_tree, in_code, constants_in, Within, at_exact}
use Rattle.lua_flat_laws.specs.Follows.{Follows, follow_stands}
use Rattle.lua_flat_laws.proofs.Kept.{moved, with_keeps, code_there, kept_there, room_there, bounded_more}
use Rattle.lua_flat_laws.proofs.Meets.{Meets, by_free, by_standing}
use Rattle.lua_flat_laws.proofs.Rows.{put_values_reads, kept_behind, kept_more, row_under, keep_values, exact_behind, take_all, take_before}
use Rattle.lua_flat_laws.proofs.Acts as acts_of
use Rattle.lua_flat_laws.proofs.Values as values_of

append_nothing : (xs : List Value) → xs ++ [] ≡ xs
append_nothing [] = refl
append_nothing (x ∷ xs) = ap (λ (ys : List Value). x ∷ ys) (append_nothing xs)

-- its first register is there
pub exact_room : {g : FlatFunction} {locals : List Local} {r n c pc c' pc' : ℕ} {e : CExp} {es : CExps} → IsExact g locals r (MoreC e es) n c pc c' pc' → r ≤ g.registers
exact_room (exact_one l v) = omega (arith, l)
exact_room (exact_one_nils l v h) = omega (arith, l)
exact_room (exact_dropped l v) = omega (arith, l)
exact_room (exact_many l m) = l
exact_room (exact_more l v row) = omega (arith, l)
exact_room (exact_skips l v row) = omega (arith, l)

module _ (world : CWorld) (codes : Codes) (room : ℕ) (index pc base : ℕ) (frames : List SFrame) (acts : List Act) (fn : Activation) (fns : List Activation) (g : FlatFunction) (mine theirs : List Slot) (beneath : List SFrame) (regs : List Slot) (top : ℕ) (s : Slots) where
  abbrev act : Act
  act = record { index = index; pc = pc; base = base; frames = frames }

  abbrev cs : Constants
  cs = constants_in world fn.source

  abbrev tree : Slots
  tree = in_tree (mine ++ theirs) (fn ∷ fns) s

  abbrev flat : Flat
  flat = in_code act acts regs top tree

  abbrev Here : List Local → ℕ → Keeps → Type 0
  Here locals low keeps = Within world codes regs act acts fn fns g mine theirs beneath locals low keeps

  abbrev Met : ℕ → Point → Type 0
  Met c p = Meets world codes room flat c p tree

  abbrev read_of : Operand → Value
  read_of o = operand cs regs base o

  abbrev Waiting : Bool → List Local → ℕ → Keeps → ℕ → ℕ → List SFrame → Type 0
  Waiting single locals low keeps q r fs = Waits cs g (length theirs) beneath single locals low keeps q 0 (RegisterO r) fs

  abbrev Taking : List Local → ℕ → Keeps → ℕ → ℕ → ℕ → ℕ → List SFrame → Type 0
  Taking locals low keeps q c r n fs = StatExact cs g (length theirs) beneath locals low keeps q c r n fs

  -- A LIST behind values of which the first m are wanted, and no more
  pub rest_meets : {locals : List Local} {r q n c c' pc' low low' : ℕ} {e : CExp} {es : CExps} {before : List Value} {keeps : Keeps} {fs : List SFrame} (m : ℕ) → q ≡ r + m → n ≡ 0 → m ≤ length before → IsExact g locals q (MoreC e es) n c pc c' pc' → Here locals low (in_row r (take m before) keeps)
      → low' ≤ low → low ≤ q → Bounded low' locals keeps → Taking locals low' keeps pc' c' r m fs → Met c (Lists (MoreC e es) before fs)
  rest_meets m e z lm (exact_one l v) w l1 l2 b k = absurd (omega (arith, z))
  rest_meets m e z lm (exact_one_nils l v h) w l1 l2 b k = absurd (omega (arith, z))
  rest_meets m e z lm (exact_more l v row) w l1 l2 b k = absurd (omega (arith, z))
  rest_meets {locals} {r} {c} {pc'} {low} {before} {keeps} {fs} m e z lm (exact_dropped {e = x} l v) w l1 l2 b k =
      by_free world codes room flat c (Lists (MoreC x NoC) before fs) tree (Evals x (MoreNext NoC before ∷ fs)) tree refl
      (values_of.value_meets world codes room index pc base frames acts fn fns g mine theirs beneath regs top s w (omega (arith, l2)) v
      (in_register l2 (subst (λ (y : ℕ). Waiting false locals low (in_row r (take m before) keeps) pc' y (MoreNext NoC before ∷ fs)) (sym e) (exact_drops_last l1 (omega (arith, e, l2)) lm b k))))
  rest_meets {locals} {r} {q} {c} {pc'} {low} {before} {keeps} {fs} m e z lm (exact_many {e = x} l many) w l1 l2 b k =
      by_free world codes room flat c (Lists (MoreC x NoC) before fs) tree (Evals x (MoreNext NoC before ∷ fs)) tree refl
      (values_of.many_meets world codes room index pc base frames acts fn fns g mine theirs beneath regs top s w l2 many
      (subst (λ (y : ℕ). LandsMany cs g (length theirs) beneath (Exactly y) locals low (in_row r (take m before) keeps) pc' q (MoreNext NoC before ∷ fs)) (sym z) (land_dropped l1 lm b k)))
  rest_meets {locals} {r} {c} {c'} {pc'} {low} {before} {keeps} {fs} m e z lm (exact_skips {pc1} {e = x} {e' = y} {es} l v more) w l1 l2 b k =
      by_free world codes room flat c (Lists (MoreC x (MoreC y es)) before fs) tree (Evals x (MoreNext (MoreC y es) before ∷ fs)) tree refl
      (values_of.value_meets world codes room index pc base frames acts fn fns g mine theirs beneath regs top s w (omega (arith, l2)) v
      (in_register l2 (subst (λ (n : ℕ). Waiting false locals low (in_row r (take m before) keeps) pc1 n (MoreNext (MoreC y es) before ∷ fs)) (sym e)
      (exact_drops l1 (omega (arith, e, l2)) lm b (subst (λ (n : ℕ). IsExact g locals n (MoreC y es) 0 0 pc1 c' pc') e more) k))))

  -- and behind values that are all wanted
  pub exact_meets : {locals : List Local} {r q n c c' pc' low low' : ℕ} {e : CExp} {es : CExps} {before : List Value} {keeps : Keeps} {fs : List SFrame} → q ≡ r + length before → IsExact g locals q (MoreC e es) n c pc c' pc' → Here locals low (in_row r before keeps) → low' ≤ low → low ≤ q → Bounded low' locals keeps
      → Taking locals low' keeps pc' c' r (length before + n) fs → Met c (Lists (MoreC e es) before fs)
  exact_meets {locals} {r} {c} {pc'} {low} {before} {keeps} {fs} e (exact_one {e = x} l v) w l1 l2 b k =
      by_free world codes room flat c (Lists (MoreC x NoC) before fs) tree (Evals x (MoreNext NoC before ∷ fs)) tree refl
      (values_of.value_meets world codes room index pc base frames acts fn fns g mine theirs beneath regs top s w (omega (arith, l2)) v
      (in_register l2 (subst (λ (y : ℕ). Waiting true locals low (in_row r before keeps) pc' y (MoreNext NoC before ∷ fs)) (sym e) (exact_ends l1 (omega (arith, e, l2)) b k))))
  exact_meets {locals} {r} {c} {low} {low'} {before} {keeps} {fs} e (exact_one_nils {n} {pc1} {e = x} l v has) w l1 l2 b k =
      let count : length before + (n + 1) ≡ length before + 1 + n = omega arith in
      by_free world codes room flat c (Lists (MoreC x NoC) before fs) tree (Evals x (MoreNext NoC before ∷ fs)) tree refl
      (values_of.value_meets world codes room index pc base frames acts fn fns g mine theirs beneath regs top s w (omega (arith, l2)) v
      (in_register l2 (subst (λ (y : ℕ). Waiting true locals low (in_row r before keeps) pc1 y (MoreNext NoC before ∷ fs)) (sym e)
      (exact_adds l1 (omega (arith, e, l2)) b (subst (λ (y : ℕ). Has g pc1 0 (NilsF (y + 1) n)) e has) (subst (λ (y : ℕ). Taking locals low' keeps (pc1 + 1) 0 r y fs) count k)))))
  exact_meets {locals} {r} {c} {low} {low'} {before} {keeps} {fs} e (exact_more {n} {pc1} {c'} {pc'} {e = x} {e' = y} {es} l v more) w l1 l2 b k =
      let count : length before + (n + 1) ≡ length before + 1 + n = omega arith in
      by_free world codes room flat c (Lists (MoreC x (MoreC y es)) before fs) tree (Evals x (MoreNext (MoreC y es) before ∷ fs)) tree refl
      (values_of.value_meets world codes room index pc base frames acts fn fns g mine theirs beneath regs top s w (omega (arith, l2)) v
      (in_register l2 (subst (λ (m : ℕ). Waiting false locals low (in_row r before keeps) pc1 m (MoreNext (MoreC y es) before ∷ fs)) (sym e)
      (exact_goes_on l1 (omega (arith, e, l2)) b (subst (λ (m : ℕ). IsExact g locals (m + 1) (MoreC y es) n 0 pc1 c' pc') e more) (subst (λ (m : ℕ). Taking locals low' keeps pc' c' r m fs) count k)))))
  exact_meets {locals} {r} {q} {n} {c} {pc'} {low} {before} {keeps} {fs} e (exact_many {e = x} l many) w l1 l2 b k =
      by_free world codes room flat c (Lists (MoreC x NoC) before fs) tree (Evals x (MoreNext NoC before ∷ fs)) tree refl
      (values_of.many_meets world codes room index pc base frames acts fn fns g mine theirs beneath regs top s w l2 many
      (subst (λ (y : ℕ). LandsMany cs g (length theirs) beneath (Exactly n) locals low (in_row r before keeps) pc' y (MoreNext NoC before ∷ fs)) (sym e) (land_exact l1 (omega (arith, e, l2)) b k)))
  exact_meets {locals} {r} {low} {low'} {before} {keeps} {fs} e (exact_dropped {pc'} l v) w l1 l2 b k =
      let count : length before + 0 ≡ length before = omega arith in
      rest_meets (length before) e refl (omega arith) (exact_dropped l v) (subst (λ (xs : List Value). Here locals low (in_row r xs keeps)) (sym (take_all before)) w) l1 l2 b (subst (λ (m : ℕ). Taking locals low' keeps pc' 0 r m fs) count k)
  exact_meets {locals} {r} {low} {low'} {before} {keeps} {fs} e (exact_skips {c'} {pc'} l v more) w l1 l2 b k =
      let count : length before + 0 ≡ length before = omega arith in
      rest_meets (length before) e refl (omega arith) (exact_skips l v more) (subst (λ (xs : List Value). Here locals low (in_row r xs keeps)) (sym (take_all before)) w) l1 l2 b (subst (λ (m : ℕ). Taking locals low' keeps pc' c' r m fs) count k)

  -- A VALUE of such a list is there: others follow
  pub goes_on_met : {locals : List Local} {low low' r n c' pc' : ℕ} {keeps : Keeps} {e : CExp} {es : CExps} {before : List Value} {fs : List SFrame} (vs : List Value) → Here locals low (in_row r before keeps) → low' ≤ low → low ≤ r + length before → Bounded low' locals keeps
      → IsExact g locals (r + length before + 1) (MoreC e es) n 0 pc c' pc' → Taking locals low' keeps pc' c' r (length before + 1 + n) fs → read_of (RegisterO (r + length before)) ≡ first vs → Met 0 (Gives (Goes vs) (MoreNext (MoreC e es) before ∷ fs))
  goes_on_met {locals} {low'} {r} {n} {c'} {pc'} {keeps} {e} {es} {before} {fs} vs w l1 l2 b code k ev =
      let v : Value = first vs in
      let there : length (before ++ v ∷ []) ≡ length before + 1 = length-append before (v ∷ []) in
      let more : Bounded (r + length before + 1) locals keeps = bounded_more low' (r + length before + 1) locals keeps (omega (arith, l1, l2)) b in
      let here : Here locals (r + length before + 1) (in_row r (before ++ v ∷ []) keeps) =
      with_keeps world codes (kept_more cs regs base r before keeps v (kept_there world codes w) ev)
      (record { locals_below = more.locals_below; keeps_below = row_under (r + length before + 1) r (before ++ v ∷ []) keeps (omega (arith, there)) more.keeps_below }) (exact_room code) w in
      by_free world codes room flat 0 (Gives (Goes vs) (MoreNext (MoreC e es) before ∷ fs)) tree (Lists (MoreC e es) (before ++ v ∷ []) fs) tree refl
      (exact_meets {r = r} {before = before ++ v ∷ []} {keeps = keeps} (omega (arith, there)) code here (omega (arith, l1, l2)) (omega arith) b (subst (λ (m : ℕ). Taking locals low' keeps pc' c' r (m + n) fs) (sym there) k))

  -- one that is not wanted
  pub drops_met : {locals : List Local} {low low' r m c' pc' : ℕ} {keeps : Keeps} {e : CExp} {es : CExps} {before : List Value} {fs : List SFrame} (vs : List Value) → Here locals low (in_row r (take m before) keeps) → low' ≤ low → low ≤ r + m → m ≤ length before → Bounded low' locals keeps
      → IsExact g locals (r + m) (MoreC e es) 0 0 pc c' pc' → Taking locals low' keeps pc' c' r m fs → Met 0 (Gives (Goes vs) (MoreNext (MoreC e es) before ∷ fs))
  drops_met {locals} {low} {r} {m} {keeps} {e} {es} {before} {fs} vs w l1 l2 lm b code k =
      let v : Value = first vs in
      let there : length (before ++ v ∷ []) ≡ length before + 1 = length-append before (v ∷ []) in
      by_free world codes room flat 0 (Gives (Goes vs) (MoreNext (MoreC e es) before ∷ fs)) tree (Lists (MoreC e es) (before ++ v ∷ []) fs) tree refl
      (rest_meets m refl refl (omega (arith, lm, there)) code (subst (λ (xs : List Value). Here locals low (in_row r xs keeps)) (sym (take_before m before (v ∷ []) lm)) w) l1 l2 b k)

  -- the last one, behind which nils are missing
  pub adds_met : {locals : List Local} {low low' r n : ℕ} {keeps : Keeps} {before : List Value} {fs : List SFrame} (vs : List Value) → Here locals low (in_row r before keeps) → low' ≤ low → low ≤ r + length before → Bounded low' locals keeps → Has g pc 0 (NilsF (r + length before + 1) n)
      → Taking locals low' keeps (pc + 1) 0 r (length before + 1 + n) fs → vs ≡ read_of (RegisterO (r + length before)) ∷ [] → Met 0 (Gives (Goes vs) (MoreNext NoC before ∷ fs))
  adds_met {locals} {low} {low'} {r} {n} {keeps} {before} {fs} vs w l1 l2 b has k ev =
      let v : Value = read_of (RegisterO (r + length before)) in
      let whole : List Value = before ++ v ∷ [] in
      let there : length whole ≡ length before + 1 = length-append before (v ∷ []) in
      let q : ℕ = base + (r + length before + 1) in
      let at : ℕ = base + (r + length whole) in
      let place_is : at ≡ q = omega (arith, there) in
      let after : List Slot = put_values q (adjusted n []) regs in
      let room_left : low' ≤ g.registers = let x = room_there world codes w in omega (arith, l1, x) in
      let small : Within world codes after act acts fn fns g mine theirs beneath locals low (in_row r before keeps) = keep_values world codes (adjusted n []) regs q (omega (arith, l2)) w in
      let kept : AreKept cs after base (in_row r whole keeps) =
      kept_more cs after base r before keeps v (kept_there world codes small) (put_values_reads (adjusted n []) q regs (base + (r + length before)) (omega arith)) in
      let filled : values_at after (base + r) (length whole + n) ≡ adjusted (length whole + n) (whole ++ []) =
      subst (λ (x : ℕ). AreKept cs (put_values x (adjusted n []) regs) base (in_row r whole keeps) → values_at (put_values x (adjusted n []) regs) (base + r) (length whole + n) ≡ adjusted (length whole + n) (whole ++ [])) place_is (exact_behind cs regs base r whole keeps n []) kept in
      let count : length whole + n ≡ length before + 1 + n = omega (arith, there) in
      let same : whole ++ [] ≡ before ++ vs = append_nothing whole ∙ ap (λ (xs : List Value). before ++ xs) (sym ev) in
      let filled' : values_at after (base + r) (length before + 1 + n) ≡ adjusted (length before + 1 + n) (before ++ vs) =
      subst (λ (m : ℕ). values_at after (base + r) m ≡ adjusted m (before ++ vs)) count (subst (λ (xs : List Value). values_at after (base + r) (length whole + n) ≡ adjusted (length whole + n) xs) same filled) in
      by_free world codes room flat 0 (Gives (Goes vs) (MoreNext NoC before ∷ fs)) tree (Gives (Goes (before ++ vs)) fs) tree refl
      (by_standing world codes room flat 0 (Gives (Goes (before ++ vs)) fs) tree (does codes cs (slice_get g.lines pc) (NilsF (r + length before + 1) n) act acts flat) (acts_of.operation_at world codes room index pc base frames acts fn fns g mine theirs beneath regs top s 0 (NilsF (r + length before + 1) n) (code_there world codes w) has)
      (subst (λ (x : Flat). Follows world codes (FNow x) (Now (Gives (Goes (before ++ vs)) fs) tree))
      (sym (acts_of.goes_on_at world codes room index pc base frames acts fn fns g mine theirs beneath regs top s 0 (NilsF (r + length before + 1) n) (code_there world codes w) has []))
      (follow_stands (at_exact s (moved world codes (pc + 1) (with_keeps world codes (kept_behind cs after base r before keeps (kept_there world codes small)) b room_left small)) filled' k))))
