-- SEVERAL MOVES AT ONCE: what the moves of a call and of a statement come to whose expressions are read in place.
use Rattle.std.proofs.Common.{◌≡◌, ℕ, ◌+◌, ◌∙◌, Bool, true, false, List, [], ◌∷◌, length, Option, Some, None, refl, sym, ap, arith}
use Rattle.lua_goes.specs.PageRunOutcome.{Goes, Jumps}
use Rattle.lua_goes.specs.LuaHeapValue.{Value, is_true}
use Rattle.lua_goes.specs.LuaMeaningActs.{Returned}
use Rattle.lua_goes.specs.LuaSlotsCode.{Place, CExp, CallC, CExps, NoC, MoreC, PlaceC, EntryC, CArms, NoArmC, ArmC, AssignC, CallStatC, IfC, IfElseC, ReturnC, CBlock, DeclareC, ThenC, CWorld}
use Rattle.lua_goes.specs.LuaSlotsSlots.{Slots, write_place, opened}
use Rattle.lua_goes.specs.LuaSlotsPoints.{PlaceS, EntryS, SFrame, ArgumentsNext, CallNow, MoreNext, TargetKey, TargetNow, AssignNow, SetsNext, DeclareNow, StatsNext, BranchNext, BlockEnd, ReturnNow, Point, Gives, Evals, Lists, Finds, Sets, Runs, Move, Now}
use Rattle.lua_goes.specs.LuaSlotsErrors.{node, choose, gives}
use Rattle.lua_goes.specs.LuaSlotsCalls.{constants_of}
use Rattle.lua_goes.specs.LuaSlotsStatements.{within, branches}
use Rattle.lua_goes.specs.LuaSlotsMoves.{moves}
use Rattle.lua_goes.specs.LuaSlotsEnact.{Funds, enact}
use Rattle.lua_goes.specs.Going.{Reaches, here, further}
use Rattle.lua_in_place.specs.InPlace.{in_place, all_in_place}
use Rattle.lua_in_place.proofs.Reading.{with_count, reach_then, node_move, free_move, reads}
use Rattle.lua_in_place.proofs.Listing.{list_reads}

-- from a point to another one, at so many nodes; and at none
abbrev pub Leads : CWorld → Point → Slots → ℕ → Point → Slots → Type 0
Leads world p s n q t = (f : Funds) (i k c d : ℕ) → i ≡ n + k → d ≡ c + n → Reaches world p s (with_count f i c) q t (with_count f k d)

abbrev pub LeadsFree : CWorld → Point → Slots → Point → Slots → Type 0
LeadsFree world p s q t = (g : Funds) → Reaches world p s g q t g

module _ (world : CWorld) where
  pub free : (p : Point) (s : Slots) (q : Point) (t : Slots) → moves world p s ≡ Now q t → LeadsFree world p s q t
  free p s q t e g = further p s g q t g here (ap (λ (m : Move). enact m g) e)

  pub free_then : {p : Point} {s : Slots} {q : Point} {t : Slots} {r : Point} {u : Slots} → LeadsFree world p s q t → LeadsFree world q t r u → LeadsFree world p s r u
  free_then x y g = reach_then (x g) (y g)

  pub free_first : (n : ℕ) {p : Point} {s : Slots} {q : Point} {t : Slots} {r : Point} {u : Slots} → LeadsFree world p s q t → Leads world q t n r u → Leads world p s n r u
  free_first n x y f i k c d h g = reach_then (x (with_count f i c)) (y f i k c d h g)

  pub free_last : (n : ℕ) {p : Point} {s : Slots} {q : Point} {t : Slots} {r : Point} {u : Slots} → Leads world p s n q t → LeadsFree world q t r u → Leads world p s n r u
  free_last n x y f i k c d h g = reach_then (x f i k c d h g) (y (with_count f k d))

  pub joined : {p : Point} {s : Slots} {q : Point} {t : Slots} {r : Point} {u : Slots} (m n : ℕ) → Leads world p s m q t → Leads world q t n r u → Leads world p s (m + n) r u
  joined m n x y f i k c d h g = reach_then (x f i (n + k) c (c + m) (omega (arith, h)) refl) (y f (n + k) k (c + m) d refl (omega (arith, g)))

  pub behind_node : (p q : Point) (s : Slots) (n : ℕ) (r : Point) (t : Slots) → moves world p s ≡ node (Now q s) → Leads world q s n r t → Leads world p s (1 + n) r t
  behind_node p q s n r t e x f i k c d h g = reach_then (node_move world s p q f i (n + k) c (c + 1) e (omega (arith, h)) refl) (x f (n + k) k (c + 1) d refl (omega (arith, g)))

  module _ (s : Slots) where
    -- a list of one expression
    pub one_listed : (e : CExp) (v : Value) (n : ℕ) → in_place (constants_of world s) e s ≡ Some (v, n) → (fs : List SFrame) → Leads world (Lists (MoreC e NoC) [] fs) s n (Gives (Goes (v ∷ [])) fs) s
    one_listed e v n is fs =
        free_first _ (free (Lists (MoreC e NoC) [] fs) s (Evals e (MoreNext NoC [] ∷ fs)) s refl)
        (free_last _ (reads world s e v n is (MoreNext NoC [] ∷ fs)) (free (Gives (Goes (v ∷ [])) (MoreNext NoC [] ∷ fs)) s (Gives (Goes (v ∷ [])) fs) s refl))

    -- A CALL whose function and arguments are read in place: the frame that calls has its arguments
    pub called : (e : CExp) (es : CExps) (line : ℕ) (v : Value) (vs : List Value) (m n : ℕ) → in_place (constants_of world s) e s ≡ Some (v, m) → all_in_place (constants_of world s) es s ≡ Some (vs, n) → (fs : List SFrame)
        → Leads world (Evals (CallC e es line) fs) s (1 + (m + n)) (Gives (Goes vs) (CallNow v line ∷ fs)) s
    called e es line v vs m n a b fs =
        behind_node (Evals (CallC e es line) fs) (Evals e (ArgumentsNext es line ∷ fs)) s (m + n) (Gives (Goes vs) (CallNow v line ∷ fs)) s refl
        (joined m n (reads world s e v m a (ArgumentsNext es line ∷ fs))
        (free_first _ (free (Gives (Goes (v ∷ [])) (ArgumentsNext es line ∷ fs)) s (Lists es [] (CallNow v line ∷ fs)) s refl) (list_reads world s es vs n b [] (CallNow v line ∷ fs))))

    -- STATEMENTS. An assignment to a variable, a declaration of one, a value that is returned
    pub assigned : (p : Place) (e : CExp) (v : Value) (n : ℕ) → in_place (constants_of world s) e s ≡ Some (v, n) → (rest : CBlock) (fs : List SFrame)
        → Leads world (Runs (ThenC (AssignC (PlaceC p ∷ []) (MoreC e NoC)) rest) fs) s (1 + n) (Runs rest fs) (write_place s p v)
    assigned p e v n is rest fs =
        behind_node (Runs (ThenC (AssignC (PlaceC p ∷ []) (MoreC e NoC)) rest) fs) (Finds (PlaceC p ∷ []) [] (MoreC e NoC) (StatsNext rest ∷ fs)) s n (Runs rest fs) (write_place s p v) refl
        (free_first _ (free (Finds (PlaceC p ∷ []) [] (MoreC e NoC) (StatsNext rest ∷ fs)) s (Finds [] (PlaceS p ∷ []) (MoreC e NoC) (StatsNext rest ∷ fs)) s refl)
        (free_first _ (free (Finds [] (PlaceS p ∷ []) (MoreC e NoC) (StatsNext rest ∷ fs)) s (Lists (MoreC e NoC) [] (AssignNow (PlaceS p ∷ []) ∷ StatsNext rest ∷ fs)) s refl)
        (free_last _ (one_listed e v n is (AssignNow (PlaceS p ∷ []) ∷ StatsNext rest ∷ fs))
        (free_then (free (Gives (Goes (v ∷ [])) (AssignNow (PlaceS p ∷ []) ∷ StatsNext rest ∷ fs)) s (Sets ((PlaceS p, v) ∷ []) (StatsNext rest ∷ fs)) s refl)
        (free_then (free (Sets ((PlaceS p, v) ∷ []) (StatsNext rest ∷ fs)) s (Gives (Goes []) (SetsNext [] ∷ StatsNext rest ∷ fs)) (write_place s p v) refl)
        (free_then (free (Gives (Goes []) (SetsNext [] ∷ StatsNext rest ∷ fs)) (write_place s p v) (Sets [] (StatsNext rest ∷ fs)) (write_place s p v) refl)
        (free_then (free (Sets [] (StatsNext rest ∷ fs)) (write_place s p v) (Gives (Goes []) (StatsNext rest ∷ fs)) (write_place s p v) refl)
        (free (Gives (Goes []) (StatsNext rest ∷ fs)) (write_place s p v) (Runs rest fs) (write_place s p v) refl))))))))

    pub declared : (boxed : Bool) (e : CExp) (v : Value) (n : ℕ) → in_place (constants_of world s) e s ≡ Some (v, n) → (rest : CBlock) (fs : List SFrame)
        → Leads world (Runs (DeclareC (boxed ∷ []) (MoreC e NoC) rest) fs) s (1 + n) (Runs rest fs) (opened boxed v s)
    declared boxed e v n is rest fs =
        behind_node (Runs (DeclareC (boxed ∷ []) (MoreC e NoC) rest) fs) (Lists (MoreC e NoC) [] (DeclareNow (boxed ∷ []) rest ∷ fs)) s n (Runs rest fs) (opened boxed v s) refl
        (free_last _ (one_listed e v n is (DeclareNow (boxed ∷ []) rest ∷ fs)) (free (Gives (Goes (v ∷ [])) (DeclareNow (boxed ∷ []) rest ∷ fs)) s (Runs rest fs) (opened boxed v s) refl))

    pub returned : (e : CExp) (v : Value) (n : ℕ) → in_place (constants_of world s) e s ≡ Some (v, n) → (rest : CBlock) (fs : List SFrame)
        → Leads world (Runs (ThenC (ReturnC (MoreC e NoC)) rest) fs) s (1 + n) (Gives (Jumps (Returned (v ∷ []))) fs) s
    returned e v n is rest fs =
        behind_node (Runs (ThenC (ReturnC (MoreC e NoC)) rest) fs) (Lists (MoreC e NoC) [] (ReturnNow ∷ StatsNext rest ∷ fs)) s n (Gives (Jumps (Returned (v ∷ []))) fs) s refl
        (free_last _ (one_listed e v n is (ReturnNow ∷ StatsNext rest ∷ fs))
        (free_then (free (Gives (Goes (v ∷ [])) (ReturnNow ∷ StatsNext rest ∷ fs)) s (Gives (Jumps (Returned (v ∷ []))) (StatsNext rest ∷ fs)) s refl)
        (free (Gives (Jumps (Returned (v ∷ []))) (StatsNext rest ∷ fs)) s (Gives (Jumps (Returned (v ∷ []))) fs) s refl)))

    -- an assignment to an entry of what is read in place: it is still to be set
    pub entry_found : (of key e : CExp) (line : ℕ) (o k v : Value) (a b n : ℕ) → in_place (constants_of world s) of s ≡ Some (o, a) → in_place (constants_of world s) key s ≡ Some (k, b) → in_place (constants_of world s) e s ≡ Some (v, n) → (rest : CBlock) (fs : List SFrame)
        → Leads world (Runs (ThenC (AssignC (EntryC of key line ∷ []) (MoreC e NoC)) rest) fs) s (1 + (1 + (a + (b + n)))) (Sets ((EntryS o k line, v) ∷ []) (StatsNext rest ∷ fs)) s
    entry_found of key e line o k v a b n x y z rest fs =
        behind_node (Runs (ThenC (AssignC (EntryC of key line ∷ []) (MoreC e NoC)) rest) fs) (Finds (EntryC of key line ∷ []) [] (MoreC e NoC) (StatsNext rest ∷ fs)) s (1 + (a + (b + n)))
        (Sets ((EntryS o k line, v) ∷ []) (StatsNext rest ∷ fs)) s refl
        (behind_node (Finds (EntryC of key line ∷ []) [] (MoreC e NoC) (StatsNext rest ∷ fs)) (Evals of (TargetKey key line [] [] (MoreC e NoC) ∷ StatsNext rest ∷ fs)) s (a + (b + n))
        (Sets ((EntryS o k line, v) ∷ []) (StatsNext rest ∷ fs)) s refl
        (joined a (b + n) (reads world s of o a x (TargetKey key line [] [] (MoreC e NoC) ∷ StatsNext rest ∷ fs))
        (free_first _ (free (Gives (Goes (o ∷ [])) (TargetKey key line [] [] (MoreC e NoC) ∷ StatsNext rest ∷ fs)) s (Evals key (TargetNow o line [] [] (MoreC e NoC) ∷ StatsNext rest ∷ fs)) s refl)
        (joined b n (reads world s key k b y (TargetNow o line [] [] (MoreC e NoC) ∷ StatsNext rest ∷ fs))
        (free_first _ (free (Gives (Goes (k ∷ [])) (TargetNow o line [] [] (MoreC e NoC) ∷ StatsNext rest ∷ fs)) s (Finds [] (EntryS o k line ∷ []) (MoreC e NoC) (StatsNext rest ∷ fs)) s refl)
        (free_first _ (free (Finds [] (EntryS o k line ∷ []) (MoreC e NoC) (StatsNext rest ∷ fs)) s (Lists (MoreC e NoC) [] (AssignNow (EntryS o k line ∷ []) ∷ StatsNext rest ∷ fs)) s refl)
        (free_last _ (one_listed e v n z (AssignNow (EntryS o k line ∷ []) ∷ StatsNext rest ∷ fs))
        (free (Gives (Goes (v ∷ [])) (AssignNow (EntryS o k line ∷ []) ∷ StatsNext rest ∷ fs)) s (Sets ((EntryS o k line, v) ∷ []) (StatsNext rest ∷ fs)) s refl))))))))

    -- a call that is a statement
    pub call_stated : (e : CExp) (es : CExps) (line : ℕ) (v : Value) (vs : List Value) (m n : ℕ) → in_place (constants_of world s) e s ≡ Some (v, m) → all_in_place (constants_of world s) es s ≡ Some (vs, n) → (rest : CBlock) (fs : List SFrame)
        → Leads world (Runs (ThenC (CallStatC (CallC e es line)) rest) fs) s (1 + (1 + (m + n))) (Gives (Goes vs) (CallNow v line ∷ StatsNext rest ∷ fs)) s
    call_stated e es line v vs m n a b rest fs =
        behind_node (Runs (ThenC (CallStatC (CallC e es line)) rest) fs) (Evals (CallC e es line) (StatsNext rest ∷ fs)) s (1 + (m + n)) (Gives (Goes vs) (CallNow v line ∷ StatsNext rest ∷ fs)) s refl
        (called e es line v vs m n a b (StatsNext rest ∷ fs))

    -- CONDITIONS: the body of the first branch, and where its test is false and no branch is behind it, the `else`, or what follows
    chosen_true : (v : Value) (x y : Move) → is_true v ≡ true → choose (is_true v) x y ≡ x
    chosen_true v x y e = ap (λ (t : Bool). choose t x y) e

    chosen_false : (v : Value) (x y : Move) → is_true v ≡ false → choose (is_true v) x y ≡ y
    chosen_false v x y e = ap (λ (t : Bool). choose t x y) e

    tested : (test : CExp) (b : CBlock) (more : CArms) (other : Option CBlock) (v : Value) (n : ℕ) → in_place (constants_of world s) test s ≡ Some (v, n) → (fs : List SFrame) (q : Point)
        → choose (is_true v) (within b fs s) (branches more other fs s) ≡ Now q s → Leads world (Evals test (BranchNext b more other ∷ fs)) s n q s
    tested test b more other v n is fs q e = free_last _ (reads world s test v n is (BranchNext b more other ∷ fs)) (free (Gives (Goes (v ∷ [])) (BranchNext b more other ∷ fs)) s q s e)

    pub taken : (test : CExp) (b : CBlock) (more : CArms) (v : Value) (n : ℕ) → in_place (constants_of world s) test s ≡ Some (v, n) → is_true v ≡ true → (rest : CBlock) (fs : List SFrame)
        → Leads world (Runs (ThenC (IfC (ArmC test b more)) rest) fs) s (1 + n) (Runs b (BlockEnd (length s.regs) ∷ StatsNext rest ∷ fs)) s
    taken test b more v n is e rest fs =
        behind_node (Runs (ThenC (IfC (ArmC test b more)) rest) fs) (Evals test (BranchNext b more None ∷ StatsNext rest ∷ fs)) s n (Runs b (BlockEnd (length s.regs) ∷ StatsNext rest ∷ fs)) s refl
        (tested test b more None v n is (StatsNext rest ∷ fs) (Runs b (BlockEnd (length s.regs) ∷ StatsNext rest ∷ fs)) (chosen_true v _ _ e))

    pub taken_before : (test : CExp) (b : CBlock) (more : CArms) (other : CBlock) (v : Value) (n : ℕ) → in_place (constants_of world s) test s ≡ Some (v, n) → is_true v ≡ true → (rest : CBlock) (fs : List SFrame)
        → Leads world (Runs (ThenC (IfElseC (ArmC test b more) other) rest) fs) s (1 + n) (Runs b (BlockEnd (length s.regs) ∷ StatsNext rest ∷ fs)) s
    taken_before test b more other v n is e rest fs =
        behind_node (Runs (ThenC (IfElseC (ArmC test b more) other) rest) fs) (Evals test (BranchNext b more (Some other) ∷ StatsNext rest ∷ fs)) s n (Runs b (BlockEnd (length s.regs) ∷ StatsNext rest ∷ fs)) s refl
        (tested test b more (Some other) v n is (StatsNext rest ∷ fs) (Runs b (BlockEnd (length s.regs) ∷ StatsNext rest ∷ fs)) (chosen_true v _ _ e))

    pub passed_by : (test : CExp) (b : CBlock) (v : Value) (n : ℕ) → in_place (constants_of world s) test s ≡ Some (v, n) → is_true v ≡ false → (rest : CBlock) (fs : List SFrame)
        → Leads world (Runs (ThenC (IfC (ArmC test b NoArmC)) rest) fs) s (1 + n) (Runs rest fs) s
    passed_by test b v n is e rest fs =
        behind_node (Runs (ThenC (IfC (ArmC test b NoArmC)) rest) fs) (Evals test (BranchNext b NoArmC None ∷ StatsNext rest ∷ fs)) s n (Runs rest fs) s refl
        (free_last _ (tested test b NoArmC None v n is (StatsNext rest ∷ fs) (Gives (Goes []) (StatsNext rest ∷ fs)) (chosen_false v _ _ e))
        (free (Gives (Goes []) (StatsNext rest ∷ fs)) s (Runs rest fs) s refl))

    pub taken_else : (test : CExp) (b other : CBlock) (v : Value) (n : ℕ) → in_place (constants_of world s) test s ≡ Some (v, n) → is_true v ≡ false → (rest : CBlock) (fs : List SFrame)
        → Leads world (Runs (ThenC (IfElseC (ArmC test b NoArmC) other) rest) fs) s (1 + n) (Runs other (BlockEnd (length s.regs) ∷ StatsNext rest ∷ fs)) s
    taken_else test b other v n is e rest fs =
        behind_node (Runs (ThenC (IfElseC (ArmC test b NoArmC) other) rest) fs) (Evals test (BranchNext b NoArmC (Some other) ∷ StatsNext rest ∷ fs)) s n (Runs other (BlockEnd (length s.regs) ∷ StatsNext rest ∷ fs)) s refl
        (tested test b NoArmC (Some other) v n is (StatsNext rest ∷ fs) (Runs other (BlockEnd (length s.regs) ∷ StatsNext rest ∷ fs)) (chosen_false v _ _ e))
