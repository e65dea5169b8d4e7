-- Flat code of small modules: each function's flat code is code of it.
use Rattle.std.proofs.Common.{[], ◌∷◌, refl, arith}
use Rattle.lua_flat.specs.Locals.{PlainL, CellL}
use Rattle.lua_flat.specs.Operations.{Exactly, Every}
use Rattle.lua_flat.specs.IsExpression.{there_local, there_constant, there_text, no_origin, from_register, in_place, made, loaded, closure_of, captured_of, global_of, index_of, operate_of, unary_of, paren_of, table_of, first_of_many, call_of, method_of, row_none, row_one, row_many, row_more, fields_end, field_item, field_pair, exact_one, exact_many, exact_more, compare_miss}
use Rattle.lua_flat.specs.IsStatement.{joined, by_jump, no_cells, cells, set_captured, captured_variable, assign_into, assign_variable, call_alone, if_arms, count_loop, each_loop, return_row, block_end, block_declares, block_names, block_then, arms_end, arm_then}
use Rattle.lua_flat_cases.specs.Texts.{StringsIsFlat, ReplacedIsFlat, JoinsIsFlat, SortedIsFlat, EarlyReturnIsFlat, ElseifChainIsFlat, AllFlatTexts}

strings_is_flat : StringsIsFlat
strings_is_flat = (
  record {
    flags = refl;
    dots = refl;
    room = omega arith;
    owed = 0;
    end = 4;
    locals = [];
    free = 0;
    body =
        (block_then (return_row (row_one (omega arith) (table_of (omega arith) (omega arith) refl (field_pair (in_place there_text) (made (omega arith) (closure_of no_origin refl)) (refl, refl) fields_end))) refl)
        block_end);
    returns = refl;
  },
  record {
    flags = refl;
    dots = refl;
    room = omega arith;
    owed = 0;
    end = 21;
    locals = (PlainL 0 ∷ []);
    free = 1;
    body =
        (block_declares (omega arith) (exact_one (omega arith) (loaded there_text refl)) (no_cells refl)
        (block_then (return_row (row_more {count = (Exactly 5)} (omega arith) (first_of_many (method_of (omega arith) (in_place (there_local refl)) (refl, refl) row_none (refl, refl))) (row_more {count = (Exactly 4)} (omega arith) (first_of_many (method_of (omega arith) (in_place (there_local refl)) (refl, refl) (row_more {count = (Exactly 1)} (omega arith) (loaded there_constant refl) (row_one (omega arith) (loaded there_constant refl))) (refl, refl))) (row_more {count = (Exactly 3)} (omega arith) (first_of_many (method_of (omega arith) (in_place (there_local refl)) (refl, refl) row_none (refl, refl))) (row_more {count = (Exactly 2)} (omega arith) (first_of_many (method_of (omega arith) (made (omega arith) (paren_of (loaded there_text refl))) (refl, refl) (row_one (omega arith) (loaded there_constant refl)) (refl, refl))) (row_more {count = (Exactly 1)} (omega arith) (first_of_many (method_of (omega arith) (in_place (there_local refl)) (refl, refl) (row_one (omega arith) (loaded there_constant refl)) (refl, refl))) (row_one (omega arith) (paren_of (first_of_many (method_of (omega arith) (in_place (there_local refl)) (refl, refl) (row_more {count = (Exactly 1)} (omega arith) (loaded there_text refl) (row_one (omega arith) (loaded there_text refl))) (refl, refl)))))))))) refl)
        block_end));
    returns = refl;
  },
)

replaced_is_flat : ReplacedIsFlat
replaced_is_flat = (
  record {
    flags = refl;
    dots = refl;
    room = omega arith;
    owed = 0;
    end = 4;
    locals = [];
    free = 0;
    body =
        (block_then (return_row (row_one (omega arith) (table_of (omega arith) (omega arith) refl (field_pair (in_place there_text) (made (omega arith) (closure_of no_origin refl)) (refl, refl) fields_end))) refl)
        block_end);
    returns = refl;
  },
  record {
    flags = refl;
    dots = refl;
    room = omega arith;
    owed = 0;
    end = 15;
    locals = (PlainL 1 ∷ CellL 0 ∷ []);
    free = 2;
    body =
        (block_declares (omega arith) (exact_one (omega arith) (loaded there_constant refl)) (cells refl refl)
        (block_declares (omega arith) (exact_many (omega arith) (method_of (omega arith) (made (omega arith) (paren_of (loaded there_text refl))) (refl, refl) (row_more {count = (Exactly 1)} (omega arith) (loaded there_text refl) (row_one (omega arith) (closure_of (from_register refl no_origin) refl))) (refl, refl))) (no_cells refl)
        (block_then (return_row (row_more {count = (Exactly 1)} (omega arith) (loaded (there_local refl) refl) (row_one (omega arith) (paren_of (first_of_many (method_of (omega arith) (made (omega arith) (paren_of (loaded there_text refl))) (refl, refl) (row_more {count = (Exactly 1)} (omega arith) (loaded there_text refl) (row_one (omega arith) (table_of (omega arith) (omega arith) refl (field_pair (in_place there_text) (in_place there_text) (refl, refl) fields_end)))) (refl, refl)))))) refl)
        block_end)));
    returns = refl;
  },
  record {
    flags = refl;
    dots = refl;
    room = omega arith;
    owed = 0;
    end = 7;
    locals = (PlainL 0 ∷ []);
    free = 1;
    body =
        (block_then (assign_variable captured_variable (made (omega arith) (operate_of (made (omega arith) (captured_of refl)) (in_place there_constant) (refl, refl))) (set_captured refl))
        (block_then (if_arms (arm_then (compare_miss refl (in_place (there_local refl)) (in_place there_text) (refl, refl)) (block_then (return_row (row_one (omega arith) (operate_of (in_place (there_local refl)) (made (omega arith) (captured_of refl)) (refl, refl))) refl)
        block_end) joined (arms_end joined)))
        block_end));
    returns = refl;
  },
)

joins_is_flat : JoinsIsFlat
joins_is_flat = (
  record {
    flags = refl;
    dots = refl;
    room = omega arith;
    owed = 0;
    end = 4;
    locals = [];
    free = 0;
    body =
        (block_then (return_row (row_one (omega arith) (table_of (omega arith) (omega arith) refl (field_pair (in_place there_text) (made (omega arith) (closure_of no_origin refl)) (refl, refl) fields_end))) refl)
        block_end);
    returns = refl;
  },
  record {
    flags = refl;
    dots = refl;
    room = omega arith;
    owed = 0;
    end = 9;
    locals = (PlainL 1 ∷ PlainL 0 ∷ []);
    free = 2;
    body =
        (block_declares (omega arith) (exact_more {n = 1} (omega arith) (loaded there_text refl) (exact_one (omega arith) (loaded there_constant refl))) (no_cells refl)
        (block_then (return_row (row_more {count = Every} (omega arith) (operate_of (in_place (there_local refl)) (made (omega arith) (operate_of (in_place (there_local refl)) (in_place there_constant) (refl, refl))) (refl, refl)) (row_more {count = Every} (omega arith) (operate_of (in_place there_constant) (in_place there_constant) (refl, refl)) (row_many (omega arith) (method_of (omega arith) (made (omega arith) (paren_of (operate_of (in_place (there_local refl)) (in_place (there_local refl)) (refl, refl)))) (refl, refl) row_none (refl, refl))))) refl)
        block_end));
    returns = refl;
  },
)

sorted_is_flat : SortedIsFlat
sorted_is_flat = (
  record {
    flags = refl;
    dots = refl;
    room = omega arith;
    owed = 0;
    end = 4;
    locals = [];
    free = 0;
    body =
        (block_then (return_row (row_one (omega arith) (table_of (omega arith) (omega arith) refl (field_pair (in_place there_text) (made (omega arith) (closure_of no_origin refl)) (refl, refl) fields_end))) refl)
        block_end);
    returns = refl;
  },
  record {
    flags = refl;
    dots = refl;
    room = omega arith;
    owed = 0;
    end = 23;
    locals = (PlainL 0 ∷ []);
    free = 1;
    body =
        (block_declares (omega arith) (exact_one (omega arith) (table_of (omega arith) (omega arith) refl fields_end)) (no_cells refl)
        (block_then (count_loop (omega arith) (loaded there_constant refl) (loaded there_constant refl) refl (refl, refl) (no_cells refl) (block_then (call_alone (call_of (omega arith) (index_of (made (omega arith) (global_of (refl, refl))) (in_place there_text) (refl, refl)) (row_more {count = (Exactly 1)} (omega arith) (loaded (there_local refl) refl) (row_one (omega arith) (operate_of (in_place (there_local refl)) (in_place (there_local refl)) (refl, refl)))) (refl, refl)))
        block_end) refl)
        (block_then (call_alone (call_of (omega arith) (index_of (made (omega arith) (global_of (refl, refl))) (in_place there_text) (refl, refl)) (row_more {count = (Exactly 1)} (omega arith) (loaded (there_local refl) refl) (row_one (omega arith) (loaded there_constant refl))) (refl, refl)))
        (block_then (return_row (row_more {count = (Exactly 1)} (omega arith) (first_of_many (call_of (omega arith) (index_of (made (omega arith) (global_of (refl, refl))) (in_place there_text) (refl, refl)) (row_more {count = (Exactly 1)} (omega arith) (loaded (there_local refl) refl) (row_one (omega arith) (loaded there_text refl))) (refl, refl))) (row_one (omega arith) (unary_of (in_place (there_local refl)) (refl, refl)))) refl)
        block_end))));
    returns = refl;
  },
)

early_return_is_flat : EarlyReturnIsFlat
early_return_is_flat = (
  record {
    flags = refl;
    dots = refl;
    room = omega arith;
    owed = 0;
    end = 4;
    locals = [];
    free = 0;
    body =
        (block_then (return_row (row_one (omega arith) (table_of (omega arith) (omega arith) refl (field_pair (in_place there_text) (made (omega arith) (closure_of no_origin refl)) (refl, refl) fields_end))) refl)
        block_end);
    returns = refl;
  },
  record {
    flags = refl;
    dots = refl;
    room = omega arith;
    owed = 0;
    end = 20;
    locals = (PlainL 2 ∷ PlainL 1 ∷ PlainL 0 ∷ []);
    free = 3;
    body =
        (block_names (omega arith) no_origin refl
        (block_declares (omega arith) (exact_many (omega arith) (call_of (omega arith) (loaded (there_local refl) refl) (row_more {count = (Exactly 1)} (omega arith) (table_of (omega arith) (omega arith) refl (field_item (made (omega arith) (table_of (omega arith) (omega arith) refl (field_item (in_place there_constant) (refl, refl) (field_item (in_place there_constant) (refl, refl) fields_end)))) (refl, refl) (field_item (made (omega arith) (table_of (omega arith) (omega arith) refl (field_item (in_place there_constant) (refl, refl) (field_item (in_place there_constant) (refl, refl) fields_end)))) (refl, refl) fields_end))) (row_one (omega arith) (loaded there_constant refl))) (refl, refl))) (no_cells refl)
        (block_then (return_row (row_more {count = (Exactly 2)} (omega arith) (loaded (there_local refl) refl) (row_more {count = (Exactly 1)} (omega arith) (loaded (there_local refl) refl) (row_one (omega arith) (paren_of (first_of_many (call_of (omega arith) (loaded (there_local refl) refl) (row_more {count = (Exactly 1)} (omega arith) (table_of (omega arith) (omega arith) refl fields_end) (row_one (omega arith) (loaded there_constant refl))) (refl, refl))))))) refl)
        block_end)));
    returns = refl;
  },
  record {
    flags = refl;
    dots = refl;
    room = omega arith;
    owed = 0;
    end = 18;
    locals = (PlainL 1 ∷ PlainL 0 ∷ []);
    free = 2;
    body =
        (block_then (each_loop (omega arith) (omega arith) (exact_many (omega arith) (call_of (omega arith) (global_of (refl, refl)) (row_one (omega arith) (loaded (there_local refl) refl)) (refl, refl))) joined (refl, refl) refl (no_cells refl) (block_then (count_loop (omega arith) (loaded there_constant refl) (unary_of (in_place (there_local refl)) (refl, refl)) refl (refl, refl) (no_cells refl) (block_then (if_arms (arm_then (compare_miss refl (made (omega arith) (index_of (in_place (there_local refl)) (in_place (there_local refl)) (refl, refl))) (in_place (there_local refl)) (refl, refl)) (block_then (return_row (row_more {count = (Exactly 1)} (omega arith) (loaded (there_local refl) refl) (row_one (omega arith) (loaded (there_local refl) refl))) refl)
        block_end) joined (arms_end joined)))
        block_end) refl)
        block_end) refl)
        (block_then (return_row (row_one (omega arith) (loaded there_constant refl)) refl)
        block_end));
    returns = refl;
  },
)

elseif_chain_is_flat : ElseifChainIsFlat
elseif_chain_is_flat = (
  record {
    flags = refl;
    dots = refl;
    room = omega arith;
    owed = 0;
    end = 4;
    locals = [];
    free = 0;
    body =
        (block_then (return_row (row_one (omega arith) (table_of (omega arith) (omega arith) refl (field_pair (in_place there_text) (made (omega arith) (closure_of no_origin refl)) (refl, refl) fields_end))) refl)
        block_end);
    returns = refl;
  },
  record {
    flags = refl;
    dots = refl;
    room = omega arith;
    owed = 0;
    end = 17;
    locals = (PlainL 0 ∷ []);
    free = 1;
    body =
        (block_names (omega arith) no_origin refl
        (block_then (return_row (row_one (omega arith) (operate_of (made (omega arith) (first_of_many (call_of (omega arith) (loaded (there_local refl) refl) (row_one (omega arith) (loaded there_constant refl)) (refl, refl)))) (made (omega arith) (operate_of (made (omega arith) (first_of_many (call_of (omega arith) (loaded (there_local refl) refl) (row_one (omega arith) (loaded there_constant refl)) (refl, refl)))) (made (omega arith) (operate_of (made (omega arith) (first_of_many (call_of (omega arith) (loaded (there_local refl) refl) (row_one (omega arith) (loaded there_constant refl)) (refl, refl)))) (made (omega arith) (first_of_many (call_of (omega arith) (loaded (there_local refl) refl) (row_one (omega arith) (loaded there_constant refl)) (refl, refl)))) (refl, refl))) (refl, refl))) (refl, refl))) refl)
        block_end));
    returns = refl;
  },
  record {
    flags = refl;
    dots = refl;
    room = omega arith;
    owed = 0;
    end = 12;
    locals = (PlainL 0 ∷ []);
    free = 1;
    body =
        (block_then (if_arms (arm_then (compare_miss refl (in_place (there_local refl)) (in_place there_constant) (refl, refl)) (block_then (return_row (row_one (omega arith) (loaded there_text refl)) refl)
        block_end) (by_jump refl) (arm_then (compare_miss refl (in_place (there_local refl)) (in_place there_constant) (refl, refl)) (block_then (return_row (row_one (omega arith) (loaded there_text refl)) refl)
        block_end) (by_jump refl) (arm_then (compare_miss refl (in_place (there_local refl)) (in_place there_constant) (refl, refl)) (block_then (assign_into refl refl (operate_of (in_place (there_local refl)) (in_place there_constant) (refl, refl)))
        block_end) joined (arms_end joined)))))
        (block_then (return_row (row_one (omega arith) (operate_of (in_place there_text) (in_place (there_local refl)) (refl, refl))) refl)
        block_end));
    returns = refl;
  },
)

pub all_flat : AllFlatTexts
all_flat = (strings_is_flat, replaced_is_flat, joins_is_flat, sorted_is_flat, early_return_is_flat, elseif_chain_is_flat)
