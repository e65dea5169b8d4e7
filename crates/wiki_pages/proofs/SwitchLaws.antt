-- A `#switch` at a part whose name is constant.
use Rattle.std.proofs.Common.{◌≡◌, ℕ, true, false, cond, ◌||◌, List, [], ◌∷◌, Some, None, ap, ◌∙◌}
use Rattle.wiki_markup.specs.WkBaseSpace.{trim}
use Rattle.wiki_markup.specs.Trees.{Trees, done, text, equals, node}
use Rattle.mw_frame.specs.declared.scene.Scene.{Scene}
use Rattle.expand_texts.specs.ExpandMeaningTexts.{are_equal}
use Rattle.expand_texts.specs.ExpandMeaningPlaces.{no_part, name_in, value_in}
use Rattle.expand_texts.specs.ExpandMeaningExpand.{Page, Looking, Next, choice, expand, trimmed, decided, is_default, by_name, valued, valueless, turn, after_turn, switch}
use Rattle.page_run.specs.Part.{give}
use Rattle.wiki_pages.specs.CaseTables.{constant_name}

-- the name of a part, and a part without a value, stand for their text
name_is : (t : Trees) (n : List ℕ) (sc : Scene) (k : List ℕ → Page) → constant_name t ≡ Some n → expand (name_in t) sc k ≡ k n
name_is done n sc k e = let h : [] ≡ n = cc in ap k h
name_is (equals rest) n sc k e = let h : [] ≡ n = cc in ap k h
name_is (text bytes done) n sc k e = let h : bytes ≡ n = cc in ap k h
name_is (text bytes (equals rest)) n sc k e = let h : bytes ≡ n = cc in ap k h
name_is (text bytes (text more rest)) n sc k e = absurd cc
name_is (text bytes (node kind inside rest)) n sc k e = absurd cc
name_is (node kind inside rest) n sc k e = absurd cc

whole_is : (t : Trees) (n : List ℕ) (sc : Scene) (k : List ℕ → Page) → constant_name t ≡ Some n → value_in t ≡ None → expand t sc k ≡ k n
whole_is done n sc k e v = let h : [] ≡ n = cc in ap k h
whole_is (equals rest) n sc k e v = absurd cc
whole_is (text bytes done) n sc k e v = let h : bytes ≡ n = cc in ap k h
whole_is (text bytes (equals rest)) n sc k e v = absurd cc
whole_is (text bytes (text more rest)) n sc k e v = absurd cc
whole_is (text bytes (node kind inside rest)) n sc k e v = absurd cc
whole_is (node kind inside rest) n sc k e v = absurd cc

-- a valueless part that isn't the last one
pub valueless_turn : (x n : List ℕ) (part : Trees) (rest : List Trees) (sc : Scene) (s : Looking) (k : List ℕ → Page) → value_in part ≡ None → constant_name part ≡ Some n → no_part rest ≡ false
    → switch x (part ∷ rest) sc s k ≡ switch x rest sc (record { met = s.met || are_equal x (trim n); waits = s.waits || is_default (trim n); default = s.default }) k
valueless_turn x n part rest sc s k v c m =
    ap (λ o. turn o x part (no_part rest) sc s (λ t. after_turn t (switch x rest sc) k)) v
    ∙ whole_is part n sc (λ name. after_turn (valueless x (trim name) (no_part rest) s) (switch x rest sc) k) c v
    ∙ ap (λ last. after_turn (valueless x (trim n) last s) (switch x rest sc) k) m

-- a valued part whose name is looked at
named_turn : (x n : List ℕ) (part value : Trees) (rest : List Trees) (sc : Scene) (s : Looking) (k : List ℕ → Page) → value_in part ≡ Some value → constant_name part ≡ Some n → s.met ≡ false
    → switch x (part ∷ rest) sc s k ≡ by_name x (trim n) value sc s (λ t. after_turn t (switch x rest sc) k)
named_turn x n part value rest sc s k v c m =
    ap (λ o. turn o x part (no_part rest) sc s (λ t. after_turn t (switch x rest sc) k)) v
    ∙ ap (λ b. choice b (decided (trimmed (expand value sc))) (valued x part value sc s) (λ t. after_turn t (switch x rest sc) k)) m
    ∙ name_is part n sc (λ name. by_name x (trim name) value sc s (λ t. after_turn t (switch x rest sc) k)) c

pub valued_turn : (x n : List ℕ) (part value : Trees) (rest : List Trees) (sc : Scene) (s : Looking) (k : List ℕ → Page) → value_in part ≡ Some value → constant_name part ≡ Some n → s.met ≡ false → are_equal x (trim n) ≡ false
    → switch x (part ∷ rest) sc s k ≡ switch x rest sc (record { met = false; waits = false; default = cond (s.waits || is_default (trim n)) value s.default }) k
valued_turn x n part value rest sc s k v c m e =
    named_turn x n part value rest sc s k v c m
    ∙ ap (λ b. choice b (decided (trimmed (expand value sc))) (give (Next (record { met = false; waits = false; default = cond (s.waits || is_default (trim n)) value s.default }))) (λ t. after_turn t (switch x rest sc) k)) e

pub valued_here : (x n : List ℕ) (part value : Trees) (rest : List Trees) (sc : Scene) (s : Looking) (k : List ℕ → Page) → value_in part ≡ Some value → constant_name part ≡ Some n → s.met ≡ false → are_equal x (trim n) ≡ true
    → switch x (part ∷ rest) sc s k ≡ trimmed (expand value sc) k
valued_here x n part value rest sc s k v c m e =
    named_turn x n part value rest sc s k v c m
    ∙ ap (λ b. choice b (decided (trimmed (expand value sc))) (give (Next (record { met = false; waits = false; default = cond (s.waits || is_default (trim n)) value s.default }))) (λ t. after_turn t (switch x rest sc) k)) e

-- a valued part behind an equal one decides
pub valued_met : (x : List ℕ) (part value : Trees) (rest : List Trees) (sc : Scene) (s : Looking) (k : List ℕ → Page) → value_in part ≡ Some value → s.met ≡ true → switch x (part ∷ rest) sc s k ≡ trimmed (expand value sc) k
valued_met x part value rest sc s k v m =
    ap (λ o. turn o x part (no_part rest) sc s (λ t. after_turn t (switch x rest sc) k)) v
    ∙ ap (λ b. choice b (decided (trimmed (expand value sc))) (valued x part value sc s) (λ t. after_turn t (switch x rest sc) k)) m
