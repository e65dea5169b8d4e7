-- WORKED PAGES WITH MODULES, and what comes of them (Extension:Scribunto). Texts and numbers were worked out by hand.
use Rattle.std.specs.Prelude.{◌≡◌, ℕ, ◌*◌, [], ◌∷◌, ◌++◌, codes}
use Rattle.page_meaning.specs.Trial.{Bytes, template, allowing, shown, text_of, steps_of, Seen, seen}
use Rattle.page_meaning.specs.Modules.{c_module, d_module, m_module, n_module, o_module, own_module, l_module, de_module, df_module, try_module, pre_module, x_module, nope_module, self_module, braces_module, bad_module}

abbrev pub failed : Bytes → Bytes
failed text = codes "<strong class=\"error\">" ++ text ++ codes "</strong>"

abbrev pub steps_spent : Bytes
steps_spent = failed (codes "Script error: The allowance of steps is spent.")

abbrev pub calls_spent : Bytes
calls_spent = failed (codes "Script error: The allowance of nested calls is spent.")

-- Each invocation has an environment of its own.
abbrev pub GlobalsAreFresh : Type 0
GlobalsAreFresh = text_of [] (c_module ∷ []) (codes "{{#invoke:C|f}}{{#invoke:C|f}}") ≡ codes "11"

-- A failure stands in the page as a text, without marks of HTML.
abbrev pub FailuresAreShown : Type 0
FailuresAreShown =
    (text_of [] (bad_module ∷ []) (codes "{{#invoke:Bad|f}}.") ≡ failed (codes "Lua error: Module:Bad:1: a&lt;b") ++ codes ".")
    × (text_of [] (bad_module ∷ []) (codes "{{#invoke:Bad|g<}}") ≡ failed (codes "Script error: The function \"g&lt;\" does not exist."))
    × (text_of [] (nope_module ∷ []) (codes "{{#invoke:Nope|f}}") ≡ failed (codes "Lua error: Module:Nope:1: template 'Nope' does not exist"))

-- What a function gives is not expanded again.
abbrev pub GivenStands : Type 0
GivenStands = text_of (template (codes "T") (codes "t") ∷ []) (braces_module ∷ []) (codes "{{#invoke:Braces|f}}") ≡ codes "{{T}}"

-- A spent invocation ends, and nothing catches that; the page goes on with what is left. Nested calls are given back.
abbrev pub SpentPagesGoOn : Type 0
SpentPagesGoOn =
    ((shown [] (l_module ∷ c_module ∷ []) (allowing 5000 20000) (codes "{{#invoke:L|f}} and {{#invoke:C|f}}")).text ≡ steps_spent ++ codes " and " ++ steps_spent)
    × ((shown [] (l_module ∷ c_module ∷ []) (allowing 5000 50) (codes "{{#invoke:L|f}} and {{#invoke:C|f}}")).text ≡ calls_spent ++ codes " and 1")

-- `preprocess` expands in the frame of the invocation, and not in that of the template around it. An invocation inside it has an
-- environment of its own.
abbrev pub TextsAreExpanded : Type 0
TextsAreExpanded =
    (text_of (template (codes "T") (codes "t") ∷ []) (pre_module ∷ []) (codes "{{#invoke:Pre|f|a}}") ≡ codes "at")
    × (text_of (template (codes "T") (codes "t") ∷ template (codes "U") (codes "{{#invoke:Pre|f|b}}") ∷ []) (pre_module ∷ []) (codes "{{U|a}}") ≡ codes "bt")
    × (text_of [] (self_module ∷ []) (codes "{{#invoke:Self|f}}") ≡ codes "g1")

-- `expandTemplate` expands in a frame with the arguments that it is given.
abbrev pub TemplatesAreExpanded : Type 0
TemplatesAreExpanded = text_of (template (codes "A") (codes "[{{{1|x}}}|{{{n}}}]") ∷ []) (x_module ∷ []) (codes "{{#invoke:X|f|y}}") ≡ codes "[p|q]"

-- One invocation of M takes 2,125 steps, of which the load of D takes 1,031: 1,000 to begin, 14 for the text, the chunk, three nodes and the
-- key, 8 for the table and 4 for the entry. M begins 15 nodes and D 5. The second load is a repeat, charged alike.
abbrev pub reads : ℕ → Seen
reads steps = seen (shown [] (m_module ∷ d_module ∷ []) (allowing steps 200) (codes "{{#invoke:M|f}}{{#invoke:M|f}}"))

abbrev pub LoadsAreKept : Type 0
LoadsAreKept =
    (reads 4250 ≡ record { text = codes "vv"; steps = 0; repeat_charges = 1031; begun = 35 })
    × (reads 4249 ≡ record { text = codes "v" ++ steps_spent; steps = 0; repeat_charges = 1031; begun = 35 })
    × (reads 4248 ≡ record { text = codes "v" ++ steps_spent; steps = 0; repeat_charges = 1031; begun = 34 })

-- A load that does not fit what is left is spent, and is no repeat.
abbrev pub ShortLoadsAreFresh : Type 0
ShortLoadsAreFresh = reads 4247 ≡ record { text = codes "v" ++ steps_spent; steps = 0; repeat_charges = 0; begun = 39 }

-- N loads D in its own run; then D is kept.
abbrev pub InnerLoadsAreKept : Type 0
InnerLoadsAreKept =
    ((shown [] (o_module ∷ n_module ∷ d_module ∷ []) (allowing 8000 200) (codes "{{#invoke:O|f}}")).text ≡ codes "vv")
    × ((shown [] (o_module ∷ n_module ∷ d_module ∷ []) (allowing 8000 200) (codes "{{#invoke:O|f}}")).repeat_charges ≡ 1031)

-- A load that fails raises its message, and is kept too: twice is twice the steps. What can't be data fails; a module that is not there is
-- not begun. Data that loads itself spends what there is.
abbrev pub tries : ℕ → Bytes → Bytes
tries steps text = (shown [] (try_module ∷ de_module ∷ df_module ∷ own_module ∷ []) (allowing steps 200) text).text

abbrev pub LoadsFail : Type 0
LoadsFail =
    (tries 8000 (codes "{{#invoke:Try|f|Module:DE}}") ≡ codes "falseModule:DE:1: x")
    × (tries 8000 (codes "{{#invoke:Try|f|Module:DF}}") ≡ codes "falsedata module holds a function")
    × (tries 2000 (codes "{{#invoke:Try|f|Module:Gone}}") ≡ codes "falsedata module 'Module:Gone' not found")
    × (tries 8000 (codes "{{#invoke:Try|f|Module:Own}}") ≡ steps_spent)

abbrev pub TwiceIsTwice : Type 0
TwiceIsTwice = steps_of [] (try_module ∷ de_module ∷ []) 8000 (codes "{{#invoke:Try|f|Module:DE}}{{#invoke:Try|f|Module:DE}}")
    ≡ 2 * steps_of [] (try_module ∷ de_module ∷ []) 8000 (codes "{{#invoke:Try|f|Module:DE}}")
