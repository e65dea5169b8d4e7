-- Flat code of small modules: each function's flat code is code of it.
use Rattle.std.proofs.Common.{[], ◌∷◌, refl, arith}
use Rattle.lua_flat.specs.Locals.{PlainL, CellL}
use Rattle.lua_flat.specs.Operations.{Exactly, Every}
use Rattle.lua_flat.specs.IsExpression.{there_local, there_constant, there_text, no_origin, from_register, in_place, made, loaded, closure_of, cell_of, captured_of, global_of, index_of, operate_of, paren_of, table_of, first_of_many, dots_of, call_of, method_of, row_none, row_one, row_many, row_more, fields_end, field_item, field_pair, exact_one, exact_one_nils, exact_dropped, exact_many, exact_more, compare_miss, compare_hit, test_and, test_not, test_paren}
use Rattle.lua_flat.specs.IsStatement.{joined, no_cells, cells, set_register, set_captured, set_entry, plain_variable, captured_variable, no_target, to_variable, to_entry, no_more, one_set, assign_into, assign_variable, assign_entry, assign_many, call_alone, if_arms, return_row, return_one, block_end, block_declares, block_names, block_then, arms_end, arm_then}
use Rattle.lua_flat_cases.specs.Lists.{DotsIsFlat, AdjustedIsFlat, SwapIsFlat, MethodsIsFlat, IndexFunctionIsFlat, ComparisonsIsFlat, AllFlatLists}

dots_is_flat : DotsIsFlat
dots_is_flat = (
  record {
    flags = refl;
    dots = refl;
    room = omega arith;
    owed = 0;
    end = 4;
    locals = [];
    free = 0;
    body =
        (block_then (return_row (row_one (omega arith) (table_of (omega arith) (omega arith) refl (field_pair (in_place there_text) (made (omega arith) (closure_of no_origin refl)) (refl, refl) fields_end))) refl)
        block_end);
    returns = refl;
  },
  record {
    flags = refl;
    dots = refl;
    room = omega arith;
    owed = 0;
    end = 20;
    locals = (PlainL 1 ∷ PlainL 0 ∷ []);
    free = 2;
    body =
        (block_names (omega arith) no_origin refl
        (block_names (omega arith) no_origin refl
        (block_then (return_row (row_more {count = (Exactly 3)} (omega arith) (first_of_many (call_of (omega arith) (loaded (there_local refl) refl) row_none (refl, refl))) (row_more {count = (Exactly 2)} (omega arith) (first_of_many (call_of (omega arith) (loaded (there_local refl) refl) (row_more {count = (Exactly 1)} (omega arith) (loaded there_constant refl) (row_one (omega arith) (loaded there_constant refl))) (refl, refl))) (row_more {count = (Exactly 1)} (omega arith) (first_of_many (call_of (omega arith) (loaded (there_local refl) refl) (row_many (omega arith) (call_of (omega arith) (loaded (there_local refl) refl) (row_more {count = (Exactly 2)} (omega arith) (loaded there_constant refl) (row_more {count = (Exactly 1)} (omega arith) (loaded there_constant refl) (row_one (omega arith) (loaded there_constant refl)))) (refl, refl))) (refl, refl))) (row_one (omega arith) (paren_of (first_of_many (call_of (omega arith) (loaded (there_local refl) refl) (row_more {count = (Exactly 1)} (omega arith) (loaded there_constant refl) (row_one (omega arith) (loaded there_constant refl))) (refl, refl)))))))) refl)
        block_end)));
    returns = refl;
  },
  record {
    flags = refl;
    dots = refl;
    room = omega arith;
    owed = 0;
    end = 5;
    locals = [];
    free = 0;
    body =
        (block_then (return_row (row_many (omega arith) (call_of (omega arith) (global_of (refl, refl)) (row_more {count = Every} (omega arith) (loaded there_text refl) (row_many (omega arith) (dots_of refl))) (refl, refl))) refl)
        block_end);
    returns = refl;
  },
  record {
    flags = refl;
    dots = refl;
    room = omega arith;
    owed = 0;
    end = 5;
    locals = (PlainL 1 ∷ PlainL 0 ∷ []);
    free = 2;
    body =
        (block_declares (omega arith) (exact_many (omega arith) (dots_of refl)) (no_cells refl)
        (block_then (return_row (row_more {count = Every} (omega arith) (loaded (there_local refl) refl) (row_more {count = Every} (omega arith) (loaded (there_local refl) refl) (row_many (omega arith) (dots_of refl)))) refl)
        block_end));
    returns = refl;
  },
)

adjusted_is_flat : AdjustedIsFlat
adjusted_is_flat = (
  record {
    flags = refl;
    dots = refl;
    room = omega arith;
    owed = 0;
    end = 4;
    locals = [];
    free = 0;
    body =
        (block_then (return_row (row_one (omega arith) (table_of (omega arith) (omega arith) refl (field_pair (in_place there_text) (made (omega arith) (closure_of no_origin refl)) (refl, refl) fields_end))) refl)
        block_end);
    returns = refl;
  },
  record {
    flags = refl;
    dots = refl;
    room = omega arith;
    owed = 0;
    end = 28;
    locals = (PlainL 10 ∷ PlainL 9 ∷ PlainL 8 ∷ PlainL 7 ∷ PlainL 6 ∷ PlainL 5 ∷ PlainL 4 ∷ PlainL 3 ∷ PlainL 2 ∷ PlainL 1 ∷ PlainL 0 ∷ []);
    free = 11;
    body =
        (block_names (omega arith) no_origin refl
        (block_declares (omega arith) (exact_many (omega arith) (call_of (omega arith) (loaded (there_local refl) refl) row_none (refl, refl))) (no_cells refl)
        (block_declares (omega arith) (exact_more {n = 1} (omega arith) (first_of_many (call_of (omega arith) (loaded (there_local refl) refl) row_none (refl, refl))) (exact_one (omega arith) (loaded there_constant refl))) (no_cells refl)
        (block_declares (omega arith) (exact_more {n = 0} (omega arith) (first_of_many (call_of (omega arith) (loaded (there_local refl) refl) row_none (refl, refl))) (exact_dropped (omega arith) (loaded there_constant refl))) (no_cells refl)
        (block_declares (omega arith) (exact_more {n = 2} (omega arith) (loaded there_constant refl) (exact_one_nils {n = 1} (omega arith) (paren_of (first_of_many (call_of (omega arith) (loaded (there_local refl) refl) row_none (refl, refl)))) refl)) (no_cells refl)
        (block_then (return_row (row_more {count = Every} (omega arith) (loaded (there_local refl) refl) (row_more {count = Every} (omega arith) (loaded (there_local refl) refl) (row_more {count = Every} (omega arith) (loaded (there_local refl) refl) (row_more {count = Every} (omega arith) (first_of_many (call_of (omega arith) (global_of (refl, refl)) (row_one (omega arith) (loaded (there_local refl) refl)) (refl, refl))) (row_more {count = Every} (omega arith) (loaded (there_local refl) refl) (row_more {count = Every} (omega arith) (loaded (there_local refl) refl) (row_more {count = Every} (omega arith) (loaded (there_local refl) refl) (row_more {count = Every} (omega arith) (loaded (there_local refl) refl) (row_more {count = Every} (omega arith) (loaded (there_local refl) refl) (row_many (omega arith) (call_of (omega arith) (global_of (refl, refl)) (row_one (omega arith) (loaded (there_local refl) refl)) (refl, refl)))))))))))) refl)
        block_end))))));
    returns = refl;
  },
  record {
    flags = refl;
    dots = refl;
    room = omega arith;
    owed = 0;
    end = 4;
    locals = [];
    free = 0;
    body =
        (block_then (return_row (row_more {count = (Exactly 2)} (omega arith) (loaded there_constant refl) (row_more {count = (Exactly 1)} (omega arith) (loaded there_constant refl) (row_one (omega arith) (loaded there_constant refl)))) refl)
        block_end);
    returns = refl;
  },
)

swap_is_flat : SwapIsFlat
swap_is_flat = (
  record {
    flags = refl;
    dots = refl;
    room = omega arith;
    owed = 0;
    end = 4;
    locals = [];
    free = 0;
    body =
        (block_then (return_row (row_one (omega arith) (table_of (omega arith) (omega arith) refl (field_pair (in_place there_text) (made (omega arith) (closure_of no_origin refl)) (refl, refl) fields_end))) refl)
        block_end);
    returns = refl;
  },
  record {
    flags = refl;
    dots = refl;
    room = omega arith;
    owed = 0;
    end = 34;
    locals = (PlainL 3 ∷ PlainL 2 ∷ PlainL 1 ∷ PlainL 0 ∷ []);
    free = 4;
    body =
        (block_declares (omega arith) (exact_more {n = 1} (omega arith) (loaded there_constant refl) (exact_one (omega arith) (loaded there_constant refl))) (no_cells refl)
        (block_then (assign_many (to_variable (plain_variable refl) (to_variable (plain_variable refl) no_target)) (omega arith) (exact_more {n = 1} (omega arith) (loaded (there_local refl) refl) (exact_one (omega arith) (loaded (there_local refl) refl))) (one_set {from = 3} (set_register refl) (one_set {from = 2} (set_register refl) no_more)))
        (block_declares (omega arith) (exact_one (omega arith) (table_of (omega arith) (omega arith) refl (field_item (in_place there_constant) (refl, refl) (field_item (in_place there_constant) (refl, refl) fields_end)))) (no_cells refl)
        (block_declares (omega arith) (exact_one (omega arith) (loaded there_constant refl)) (no_cells refl)
        (block_then (assign_many (to_variable (plain_variable refl) (to_entry (omega arith) (loaded (there_local refl) refl) (loaded (there_local refl) refl) no_target)) (omega arith) (exact_more {n = 1} (omega arith) (loaded there_constant refl) (exact_one (omega arith) (loaded there_constant refl))) (one_set {from = 7} (set_entry (refl, refl)) (one_set {from = 6} (set_register refl) no_more)))
        (block_then (assign_many (to_entry (omega arith) (loaded (there_local refl) refl) (loaded there_constant refl) (to_entry (omega arith) (loaded (there_local refl) refl) (loaded there_constant refl) (to_variable (plain_variable refl) no_target))) (omega arith) (exact_more {n = 2} (omega arith) (index_of (in_place (there_local refl)) (in_place there_constant) (refl, refl)) (exact_one_nils {n = 1} (omega arith) (index_of (in_place (there_local refl)) (in_place there_constant) (refl, refl)) refl)) (one_set {from = 10} (set_register refl) (one_set {from = 9} (set_entry (refl, refl)) (one_set {from = 8} (set_entry (refl, refl)) no_more))))
        (block_then (return_row (row_more {count = Every} (omega arith) (loaded (there_local refl) refl) (row_more {count = Every} (omega arith) (loaded (there_local refl) refl) (row_more {count = Every} (omega arith) (index_of (in_place (there_local refl)) (in_place there_constant) (refl, refl)) (row_more {count = Every} (omega arith) (index_of (in_place (there_local refl)) (in_place there_constant) (refl, refl)) (row_many (omega arith) (call_of (omega arith) (global_of (refl, refl)) (row_one (omega arith) (loaded (there_local refl) refl)) (refl, refl))))))) refl)
        block_end)))))));
    returns = refl;
  },
)

methods_is_flat : MethodsIsFlat
methods_is_flat = (
  record {
    flags = refl;
    dots = refl;
    room = omega arith;
    owed = 0;
    end = 4;
    locals = [];
    free = 0;
    body =
        (block_then (return_row (row_one (omega arith) (table_of (omega arith) (omega arith) refl (field_pair (in_place there_text) (made (omega arith) (closure_of no_origin refl)) (refl, refl) fields_end))) refl)
        block_end);
    returns = refl;
  },
  record {
    flags = refl;
    dots = refl;
    room = omega arith;
    owed = 0;
    end = 23;
    locals = (CellL 0 ∷ []);
    free = 1;
    body =
        (block_declares (omega arith) (exact_one (omega arith) (table_of (omega arith) (omega arith) refl fields_end)) (cells refl refl)
        (block_then (assign_entry (made (omega arith) (cell_of refl refl)) (in_place there_text) (made (omega arith) (cell_of refl refl)) (refl, refl))
        (block_then (assign_entry (made (omega arith) (cell_of refl refl)) (in_place there_text) (made (omega arith) (closure_of (from_register refl no_origin) refl)) (refl, refl))
        (block_then (assign_entry (made (omega arith) (cell_of refl refl)) (in_place there_text) (made (omega arith) (closure_of no_origin refl)) (refl, refl))
        (block_then (return_row (row_one (omega arith) (index_of (made (omega arith) (first_of_many (method_of (omega arith) (made (omega arith) (first_of_many (method_of (omega arith) (made (omega arith) (first_of_many (call_of (omega arith) (index_of (made (omega arith) (cell_of refl refl)) (in_place there_text) (refl, refl)) (row_one (omega arith) (loaded there_constant refl)) (refl, refl)))) (refl, refl) (row_one (omega arith) (loaded there_constant refl)) (refl, refl)))) (refl, refl) (row_one (omega arith) (loaded there_constant refl)) (refl, refl)))) (in_place there_text) (refl, refl))) refl)
        block_end)))));
    returns = refl;
  },
  record {
    flags = refl;
    dots = refl;
    room = omega arith;
    owed = 0;
    end = 6;
    locals = (PlainL 0 ∷ []);
    free = 1;
    body =
        (block_then (return_row (row_many (omega arith) (call_of (omega arith) (global_of (refl, refl)) (row_more {count = (Exactly 1)} (omega arith) (table_of (omega arith) (omega arith) refl (field_pair (in_place there_text) (in_place (there_local refl)) (refl, refl) fields_end)) (row_one (omega arith) (captured_of refl))) (refl, refl))) refl)
        block_end);
    returns = refl;
  },
  record {
    flags = refl;
    dots = refl;
    room = omega arith;
    owed = 0;
    end = 4;
    locals = (PlainL 1 ∷ PlainL 0 ∷ []);
    free = 2;
    body =
        (block_then (assign_entry (in_place (there_local refl)) (in_place there_text) (made (omega arith) (operate_of (made (omega arith) (index_of (in_place (there_local refl)) (in_place there_text) (refl, refl))) (in_place (there_local refl)) (refl, refl))) (refl, refl))
        (block_then (return_one (in_place (there_local refl)) refl)
        block_end));
    returns = refl;
  },
)

index_function_is_flat : IndexFunctionIsFlat
index_function_is_flat = (
  record {
    flags = refl;
    dots = refl;
    room = omega arith;
    owed = 0;
    end = 4;
    locals = [];
    free = 0;
    body =
        (block_then (return_row (row_one (omega arith) (table_of (omega arith) (omega arith) refl (field_pair (in_place there_text) (made (omega arith) (closure_of no_origin refl)) (refl, refl) fields_end))) refl)
        block_end);
    returns = refl;
  },
  record {
    flags = refl;
    dots = refl;
    room = omega arith;
    owed = 0;
    end = 18;
    locals = (PlainL 1 ∷ CellL 0 ∷ []);
    free = 2;
    body =
        (block_declares (omega arith) (exact_one (omega arith) (loaded there_text refl)) (cells refl refl)
        (block_declares (omega arith) (exact_many (omega arith) (call_of (omega arith) (global_of (refl, refl)) (row_more {count = (Exactly 1)} (omega arith) (table_of (omega arith) (omega arith) refl fields_end) (row_one (omega arith) (table_of (omega arith) (omega arith) refl (field_pair (in_place there_text) (made (omega arith) (closure_of no_origin refl)) (refl, refl) (field_pair (in_place there_text) (made (omega arith) (closure_of (from_register refl no_origin) refl)) (refl, refl) fields_end))))) (refl, refl))) (no_cells refl)
        (block_then (assign_entry (in_place (there_local refl)) (in_place there_text) (in_place there_constant) (refl, refl))
        (block_then (assign_entry (in_place (there_local refl)) (in_place there_text) (in_place there_constant) (refl, refl))
        (block_then (assign_entry (in_place (there_local refl)) (in_place there_text) (in_place there_constant) (refl, refl))
        (block_then (return_row (row_more {count = (Exactly 3)} (omega arith) (index_of (in_place (there_local refl)) (in_place there_text) (refl, refl)) (row_more {count = (Exactly 2)} (omega arith) (index_of (in_place (there_local refl)) (in_place there_text) (refl, refl)) (row_more {count = (Exactly 1)} (omega arith) (index_of (in_place (there_local refl)) (in_place there_text) (refl, refl)) (row_one (omega arith) (cell_of refl refl))))) refl)
        block_end))))));
    returns = refl;
  },
  record {
    flags = refl;
    dots = refl;
    room = omega arith;
    owed = 0;
    end = 2;
    locals = (PlainL 1 ∷ PlainL 0 ∷ []);
    free = 2;
    body =
        (block_then (return_row (row_one (omega arith) (operate_of (in_place (there_local refl)) (in_place there_text) (refl, refl))) refl)
        block_end);
    returns = refl;
  },
  record {
    flags = refl;
    dots = refl;
    room = omega arith;
    owed = 0;
    end = 9;
    locals = (PlainL 2 ∷ PlainL 1 ∷ PlainL 0 ∷ []);
    free = 3;
    body =
        (block_then (assign_variable captured_variable (made (omega arith) (operate_of (made (omega arith) (captured_of refl)) (made (omega arith) (operate_of (in_place (there_local refl)) (in_place (there_local refl)) (refl, refl))) (refl, refl))) (set_captured refl))
        (block_then (call_alone (call_of (omega arith) (global_of (refl, refl)) (row_more {count = (Exactly 2)} (omega arith) (loaded (there_local refl) refl) (row_more {count = (Exactly 1)} (omega arith) (loaded (there_local refl) refl) (row_one (omega arith) (loaded (there_local refl) refl)))) (refl, refl)))
        block_end));
    returns = refl;
  },
)

comparisons_is_flat : ComparisonsIsFlat
comparisons_is_flat = (
  record {
    flags = refl;
    dots = refl;
    room = omega arith;
    owed = 0;
    end = 4;
    locals = [];
    free = 0;
    body =
        (block_then (return_row (row_one (omega arith) (table_of (omega arith) (omega arith) refl (field_pair (in_place there_text) (made (omega arith) (closure_of no_origin refl)) (refl, refl) fields_end))) refl)
        block_end);
    returns = refl;
  },
  record {
    flags = refl;
    dots = refl;
    room = omega arith;
    owed = 0;
    end = 37;
    locals = (PlainL 5 ∷ PlainL 4 ∷ PlainL 3 ∷ PlainL 2 ∷ PlainL 1 ∷ CellL 0 ∷ []);
    free = 6;
    body =
        (block_declares (omega arith) (exact_one (omega arith) (table_of (omega arith) (omega arith) refl fields_end)) (cells refl refl)
        (block_then (assign_entry (made (omega arith) (cell_of refl refl)) (in_place there_text) (made (omega arith) (closure_of no_origin refl)) (refl, refl))
        (block_then (assign_entry (made (omega arith) (cell_of refl refl)) (in_place there_text) (made (omega arith) (closure_of no_origin refl)) (refl, refl))
        (block_then (assign_entry (made (omega arith) (cell_of refl refl)) (in_place there_text) (made (omega arith) (closure_of no_origin refl)) (refl, refl))
        (block_names (omega arith) (from_register refl no_origin) refl
        (block_declares (omega arith) (exact_more {n = 2} (omega arith) (first_of_many (call_of (omega arith) (loaded (there_local refl) refl) (row_one (omega arith) (loaded there_constant refl)) (refl, refl))) (exact_more {n = 1} (omega arith) (first_of_many (call_of (omega arith) (loaded (there_local refl) refl) (row_one (omega arith) (loaded there_constant refl)) (refl, refl))) (exact_many (omega arith) (call_of (omega arith) (loaded (there_local refl) refl) (row_one (omega arith) (loaded there_constant refl)) (refl, refl))))) (no_cells refl)
        (block_declares (omega arith) (exact_one (omega arith) (loaded there_text refl)) (no_cells refl)
        (block_then (if_arms (arm_then (compare_miss refl (in_place (there_local refl)) (in_place (there_local refl)) (refl, refl)) (block_then (assign_into refl refl (operate_of (in_place (there_local refl)) (in_place there_text) (refl, refl)))
        block_end) joined (arms_end joined)))
        (block_then (if_arms (arm_then (test_not (test_paren (compare_hit refl (in_place (there_local refl)) (in_place (there_local refl)) (refl, refl)))) (block_then (assign_into refl refl (operate_of (in_place (there_local refl)) (in_place there_text) (refl, refl)))
        block_end) joined (arms_end joined)))
        (block_then (if_arms (arm_then (test_and (compare_miss refl (in_place (there_local refl)) (in_place (there_local refl)) (refl, refl)) (compare_miss refl (in_place (there_local refl)) (in_place (there_local refl)) (refl, refl))) (block_then (assign_into refl refl (operate_of (in_place (there_local refl)) (in_place there_text) (refl, refl)))
        block_end) joined (arms_end joined)))
        (block_then (return_row (row_more {count = Every} (omega arith) (loaded (there_local refl) refl) (row_more {count = Every} (omega arith) (first_of_many (call_of (omega arith) (global_of (refl, refl)) (row_one (omega arith) (operate_of (in_place (there_local refl)) (in_place (there_local refl)) (refl, refl))) (refl, refl))) (row_many (omega arith) (call_of (omega arith) (global_of (refl, refl)) (row_one (omega arith) (operate_of (in_place (there_local refl)) (in_place (there_local refl)) (refl, refl))) (refl, refl))))) refl)
        block_end)))))))))));
    returns = refl;
  },
  record {
    flags = refl;
    dots = refl;
    room = omega arith;
    owed = 0;
    end = 4;
    locals = (PlainL 1 ∷ PlainL 0 ∷ []);
    free = 2;
    body =
        (block_then (return_row (row_one (omega arith) (operate_of (made (omega arith) (index_of (in_place (there_local refl)) (in_place there_text) (refl, refl))) (made (omega arith) (index_of (in_place (there_local refl)) (in_place there_text) (refl, refl))) (refl, refl))) refl)
        block_end);
    returns = refl;
  },
  record {
    flags = refl;
    dots = refl;
    room = omega arith;
    owed = 0;
    end = 4;
    locals = (PlainL 1 ∷ PlainL 0 ∷ []);
    free = 2;
    body =
        (block_then (return_row (row_one (omega arith) (operate_of (made (omega arith) (index_of (in_place (there_local refl)) (in_place there_text) (refl, refl))) (made (omega arith) (index_of (in_place (there_local refl)) (in_place there_text) (refl, refl))) (refl, refl))) refl)
        block_end);
    returns = refl;
  },
  record {
    flags = refl;
    dots = refl;
    room = omega arith;
    owed = 0;
    end = 4;
    locals = (PlainL 1 ∷ PlainL 0 ∷ []);
    free = 2;
    body =
        (block_then (return_row (row_one (omega arith) (operate_of (made (omega arith) (index_of (in_place (there_local refl)) (in_place there_text) (refl, refl))) (made (omega arith) (index_of (in_place (there_local refl)) (in_place there_text) (refl, refl))) (refl, refl))) refl)
        block_end);
    returns = refl;
  },
  record {
    flags = refl;
    dots = refl;
    room = omega arith;
    owed = 0;
    end = 6;
    locals = (PlainL 0 ∷ []);
    free = 1;
    body =
        (block_then (return_row (row_many (omega arith) (call_of (omega arith) (global_of (refl, refl)) (row_more {count = (Exactly 1)} (omega arith) (table_of (omega arith) (omega arith) refl (field_pair (in_place there_text) (in_place (there_local refl)) (refl, refl) fields_end)) (row_one (omega arith) (captured_of refl))) (refl, refl))) refl)
        block_end);
    returns = refl;
  },
)

pub all_flat : AllFlatLists
all_flat = (dots_is_flat, adjusted_is_flat, swap_is_flat, methods_is_flat, index_function_is_flat, comparisons_is_flat)
