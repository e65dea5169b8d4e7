-- The table that `getArgument` gives.
use Rattle.std.proofs.Common.{◌≡◌, ◌∙◌, ap, ℕ, [], ◌∷◌, length}
use Rattle.mw_frame_texts.specs.LuaHeapValue.{Value, Nil}
use Rattle.mw_frame_texts.specs.LuaHeapHeap.{Heap, set_in, new_table}
use Rattle.mw_frame_texts.specs.LuaMeaningFrames.{with_table}
use Rattle.mw_frame_texts.proofs.LuaGraphJoining.{all_set}
use Rattle.mw_frame_texts.proofs.MwFramesTables.{one_filled}

pub two_set : {X : Type 0} (h i j k : Heap X) (n : ℕ) (a b : Value × Value) → i ≡ (new_table h).0 → j ≡ set_in i n a.0 a.1 → k ≡ set_in j n b.0 b.1 → n ≡ length h.tables
    → all_set [] (a ∷ b ∷ []) ≡ a ∷ b ∷ [] → k ≡ with_table h (a ∷ b ∷ []) Nil
two_set h i j k n a b fi fj fk at once =
    one_filled h k (a ∷ b ∷ []) n at (fk ∙ ap (λ x. set_in x n b.0 b.1) (fj ∙ ap (λ x. set_in x n a.0 a.1) fi)) once
