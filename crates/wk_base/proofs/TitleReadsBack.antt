-- The text of a title that was read is read as that title.
use Rattle.std.proofs.Common.{◌≡◌, ℕ, ◌==◌, Bool, true, false, ◌&&◌, not, cond, nat_lt, List, [], ◌∷◌, ◌++◌, length, Option, Some, None, IfSome, option_map, option_and_then, unwrap_or, find, Result, Ok, Err, ◌⊎◌, inl, inr, refl, sym, ap, subst, ◌∙◌}
use Rattle.std.proofs.lemmas.Bool.{true≢false, cond_both, cond-true, cond-false, and_parts, and_left, or_parts, eqb-true, cases_Bool}
use Rattle.std.proofs.lemmas.List.{map-append}
use Rattle.std.specs.List.{list_all}
use Rattle.wk_base.specs.declared.title.Namespace.{Namespace}
use Rattle.wk_base.specs.declared.title.Namespace.TheVariants.{Main, Talk, User, UserTalk, Project, ProjectTalk, File, FileTalk, MediaWiki, MediaWikiTalk, Template, TemplateTalk, Help, HelpTalk, Category, CategoryTalk, Module, ModuleTalk}
use Rattle.wk_base.specs.declared.title.Title.{Title}
use Rattle.wk_base.specs.declared.title_read.TitleFault.{TitleFault}
use Rattle.wk_base.specs.declared.title_read.TitleFault.TheVariants.{Empty, BadByte, TooLong}
use Rattle.std.specs.Char.{to_ascii_uppercase}
use Rattle.std.specs.Str.{str_eq_ignore_ascii_case}
use Rattle.wk_base.specs.Space.{is_white, trim_start, trim_end, trim}
use Rattle.wk_base.specs.Titles.{as_space, with_spaces, begins_with, squeeze, tidy, cut_at_colon, cut_prefix, choose_namespace, open_colon, namespace_named, prefixed_namespaces, prefix_of, with_prefix, title_text, is_bad, with_capital, title_in, title_of}
use Rattle.wk_base.proofs.TitleParts.{first, last_or, ending, cons_parts, cons_same, keep_plain, trim_end-ending, front_start, back_start, back_ending, front_ending, fixed_start, fixed_trim, plain_spaced, plain_start, plain_ending, plain_squeeze, first_squeeze, last_squeeze, squeeze_twice, ending_squeeze}
use Rattle.wk_base.proofs.TitleLetters.{white_capital, colon_capital, plain_capital, capital_twice, bad_capital, named_capital}

-- a text without underscores, and without white space at its ends
pub record Neat (text : List ℕ) : Type 0 where
  pub front : is_white (first text) ≡ false
  pub back : is_white (last_or 0 text) ≡ false
  pub plain : with_spaces text ≡ text

neat_trim : (text : List ℕ) → with_spaces text ≡ text → Neat (trim text)
neat_trim text plain =
    subst (λ (t : List ℕ). Neat t) (sym (trim_end-ending (trim_start text)))
    (record {
      front = front_ending (trim_start text) (front_start text);
      back = back_ending (trim_start text);
      plain = plain_ending (trim_start text) (plain_start text plain);
    })

neat_squeeze : (text : List ℕ) → Neat text → Neat (squeeze text)
neat_squeeze text neat = record {
  front = ap is_white (first_squeeze text) ∙ neat.front;
  back = ap is_white (last_squeeze text 0) ∙ neat.back;
  plain = plain_squeeze text neat.plain;
}

neat_tidy : (text : List ℕ) → with_spaces text ≡ text → Neat (tidy text)
neat_tidy text plain = neat_squeeze (trim text) (neat_trim text plain)

neat_capital : (name : List ℕ) → Neat name → Neat (with_capital name)
neat_capital [] neat = neat
neat_capital (c ∷ []) neat = record {
  front = white_capital c neat.front;
  back = white_capital c neat.front;
  plain = cons_same _ _ _ _ (plain_capital c (cons_parts _ _ _ _ neat.plain).0) refl;
}
neat_capital (c ∷ d ∷ ds) neat = record {
  front = white_capital c neat.front;
  back = neat.back;
  plain = let parts = cons_parts _ _ _ _ neat.plain in cons_same _ _ _ _ (plain_capital c parts.0) parts.1;
}

not_space : (c : ℕ) (b : Bool) → is_white c ≡ false → ((c == 32) && b) ≡ false
not_space c b plain = and_left (c == 32) b (or_parts _ _ plain).0

squeeze_plain : (c : ℕ) (cs : List ℕ) → is_white c ≡ false → squeeze (c ∷ cs) ≡ c ∷ squeeze cs
squeeze_plain c cs plain = cond-false _ _ _ (not_space c (begins_with 32 cs) plain)

single_capital : (name : List ℕ) → Neat name → squeeze name ≡ name → squeeze (with_capital name) ≡ with_capital name
single_capital [] neat single = single
single_capital (c ∷ cs) neat single =
    squeeze_plain (to_ascii_uppercase c) cs (white_capital c neat.front)
    ∙ ap (λ t. to_ascii_uppercase c ∷ t) (cons_parts _ _ _ _ (sym (squeeze_plain c cs neat.front) ∙ single)).1

tidy_neat : (text : List ℕ) → Neat text → tidy text ≡ squeeze text
tidy_neat text neat = ap squeeze (fixed_trim text neat.front neat.back)

-- the tests of a name
record Passes (name : List ℕ) : Type 0 where
  some : (length name == 0) ≡ false
  good : is_bad name ≡ false
  short : nat_lt 255 (length name) ≡ false

decided : (empty bad long : Bool) (made title : Title)
    → cond empty (Err Empty) (cond bad (Err BadByte) (cond long (Err TooLong) (Ok made))) ≡ Ok title
    → (empty ≡ false) × (bad ≡ false) × (long ≡ false) × (made ≡ title)
decided true bad long made title e = absurd cc
decided false true long made title e = absurd cc
decided false false true made title e = absurd cc
decided false false false made title e = (refl, refl, refl, cc)

passed : (ns : Namespace) (name : List ℕ) (title : Title) → title_in ns name ≡ Ok title
    → Passes name × (record { ns = ns; name = with_capital name } ≡ title)
passed ns name title e =
    let made : Title = record { ns = ns; name = with_capital name } in
    let parts = decided (length name == 0) (is_bad name) (nat_lt 255 (length name)) made title e in
    (record { some = parts.0; good = parts.1; short = parts.2 }, parts.3)

passes_capital : (name : List ℕ) → Passes name → Passes (with_capital name)
passes_capital [] passes = passes
passes_capital (c ∷ cs) passes = record { some = passes.some; good = bad_capital (c ∷ cs) passes.good; short = passes.short }

capitalised_twice : (name : List ℕ) → with_capital (with_capital name) ≡ with_capital name
capitalised_twice [] = refl
capitalised_twice (c ∷ cs) = cons_same _ _ _ _ (capital_twice c) refl

named_again : (ns : Namespace) (name : List ℕ) → Passes name → title_in ns (with_capital name) ≡ Ok (record { ns = ns; name = with_capital name })
named_again ns name passes =
    let again = passes_capital name passes in
    cond-false _ _ _ again.some ∙ cond-false _ _ _ again.good ∙ cond-false _ _ _ again.short
    ∙ ap (λ (n : List ℕ). let made : Title = record { ns = ns; name = n } in Ok made) (capitalised_twice name)

-- reading, step by step
reads_as : (text rest name : List ℕ) (opened : Namespace × List ℕ) (ns : Namespace)
    → with_spaces text ≡ text → trim text ≡ text → open_colon text Main ≡ opened
    → choose_namespace opened.1 opened.0 ≡ (ns, rest) → tidy rest ≡ name → title_of text Main ≡ title_in ns name
unfolding title_of
reads_as text rest name opened ns is_plain is_trimmed is_opened is_chosen is_name =
    ap of_trimmed (ap trim is_plain ∙ is_trimmed) ∙ ap of_opened is_opened ∙ ap of_chosen is_chosen ∙ ap (title_in ns) is_name
  where
    of_chosen : Namespace × List ℕ → Result Title TitleFault
    of_chosen chosen = title_in chosen.0 (tidy chosen.1)

    of_opened : Namespace × List ℕ → Result Title TitleFault
    of_opened o = of_chosen (choose_namespace o.1 o.0)

    of_trimmed : List ℕ → Result Title TitleFault
    of_trimmed t = of_opened (open_colon t Main)

-- namespaces
abbrev pub is_main : Namespace → Bool
is_main Main = true
is_main _ = false

main_is : (ns : Namespace) → is_main ns ≡ true → ns ≡ Main
main_is Main main = refl
main_is _ main = absurd (true≢false (sym main))

found : (test : Namespace → Bool) (all : List Namespace) → list_all (λ ns. not (is_main ns)) all ≡ true
    → IfSome (find test all) (λ ns. is_main ns ≡ false)
found test [] others = tt
found test (ns ∷ all) others =
    let parts = and_parts _ _ others in
    cond_both (test ns) (Some ns) (find test all) (λ o. IfSome o (λ ns. is_main ns ≡ false))
    (λ _. other ns parts.0) (λ _. found test all parts.1)
  where
    other : (ns : Namespace) → not (is_main ns) ≡ true → is_main ns ≡ false
    other ns e = elim (cases_Bool (is_main ns)) [ inl main ↦ absurd (true≢false (sym e ∙ ap not main)) | inr main ↦ main ]

named_other : (text : List ℕ) → IfSome (namespace_named text) (λ ns. is_main ns ≡ false)
unfolding namespace_named prefixed_namespaces
named_other text = found (λ ns. str_eq_ignore_ascii_case text (prefix_of ns)) prefixed_namespaces refl

prefix_plain : (ns : Namespace) → with_spaces (prefix_of ns) ≡ prefix_of ns
unfolding prefix_of
prefix_plain Main = refl
prefix_plain Talk = refl
prefix_plain User = refl
prefix_plain UserTalk = refl
prefix_plain Project = refl
prefix_plain ProjectTalk = refl
prefix_plain File = refl
prefix_plain FileTalk = refl
prefix_plain MediaWiki = refl
prefix_plain MediaWikiTalk = refl
prefix_plain Template = refl
prefix_plain TemplateTalk = refl
prefix_plain Help = refl
prefix_plain HelpTalk = refl
prefix_plain Category = refl
prefix_plain CategoryTalk = refl
prefix_plain Module = refl
prefix_plain ModuleTalk = refl

-- how a prefix, a colon and a name are read
record Leads (ns : Namespace) (name : List ℕ) : Type 0 where
  written : with_prefix (prefix_of ns) name ≡ prefix_of ns ++ (58 ∷ name)
  front : is_white (first (prefix_of ns ++ (58 ∷ name))) ≡ false
  opened : open_colon (prefix_of ns ++ (58 ∷ name)) Main ≡ (Main, prefix_of ns ++ (58 ∷ name))
  cut : cut_prefix (prefix_of ns ++ (58 ∷ name)) ≡ Some (ns, name)

leads : (ns : Namespace) (name : List ℕ) → is_main ns ≡ false → Leads ns name
unfolding prefix_of namespace_named prefixed_namespaces
leads Main name main = absurd (true≢false main)
leads Talk name main = record { written = refl; front = refl; opened = refl; cut = refl }
leads User name main = record { written = refl; front = refl; opened = refl; cut = refl }
leads UserTalk name main = record { written = refl; front = refl; opened = refl; cut = refl }
leads Project name main = record { written = refl; front = refl; opened = refl; cut = refl }
leads ProjectTalk name main = record { written = refl; front = refl; opened = refl; cut = refl }
leads File name main = record { written = refl; front = refl; opened = refl; cut = refl }
leads FileTalk name main = record { written = refl; front = refl; opened = refl; cut = refl }
leads MediaWiki name main = record { written = refl; front = refl; opened = refl; cut = refl }
leads MediaWikiTalk name main = record { written = refl; front = refl; opened = refl; cut = refl }
leads Template name main = record { written = refl; front = refl; opened = refl; cut = refl }
leads TemplateTalk name main = record { written = refl; front = refl; opened = refl; cut = refl }
leads Help name main = record { written = refl; front = refl; opened = refl; cut = refl }
leads HelpTalk name main = record { written = refl; front = refl; opened = refl; cut = refl }
leads Category name main = record { written = refl; front = refl; opened = refl; cut = refl }
leads CategoryTalk name main = record { written = refl; front = refl; opened = refl; cut = refl }
leads Module name main = record { written = refl; front = refl; opened = refl; cut = refl }
leads ModuleTalk name main = record { written = refl; front = refl; opened = refl; cut = refl }

last_behind : (front back : List ℕ) (d b : ℕ) → last_or d (front ++ b ∷ back) ≡ last_or b back
last_behind [] back d b = refl
last_behind (c ∷ front) back d b = last_behind front back c b

last_some : (name : List ℕ) (d e : ℕ) → (length name == 0) ≡ false → last_or d name ≡ last_or e name
last_some [] d e some = absurd (true≢false some)
last_some (c ∷ cs) d e some = refl

-- in a namespace with a prefix
prefixed_again : (ns : Namespace) (rest : List ℕ) (title : Title) → is_main ns ≡ false → with_spaces rest ≡ rest
    → title_in ns (tidy rest) ≡ Ok title → title_of (title_text title) Main ≡ Ok title
unfolding title_text
prefixed_again ns rest title main plain e =
    let made = passed ns (tidy rest) title e in
    let name = with_capital (tidy rest) in
    let neat = neat_capital (tidy rest) (neat_tidy rest plain) in
    let single = single_capital (tidy rest) (neat_tidy rest plain) (squeeze_twice (trim rest)) in
    let lead = leads ns name main in
    let text = prefix_of ns ++ (58 ∷ name) in
    let is_plain : with_spaces text ≡ text =
    map-append as_space (prefix_of ns) (58 ∷ name)
    ∙ ap (λ (p : List ℕ). p ++ (58 ∷ with_spaces name)) (prefix_plain ns)
    ∙ ap (λ (n : List ℕ). prefix_of ns ++ (58 ∷ n)) neat.plain in
    let back : is_white (last_or 0 text) ≡ false =
    ap is_white (last_behind (prefix_of ns) name 0 58 ∙ last_some name 58 0 (passes_capital (tidy rest) made.0).some) ∙ neat.back in
    let whole : title_of text Main ≡ title_in ns name =
    reads_as text name name (Main, text) ns is_plain (fixed_trim text lead.front back) lead.opened
    (ap (λ o. unwrap_or o (Main, text)) lead.cut) (tidy_neat name neat ∙ single) in
    subst (λ (t : Title). title_of (title_text t) Main ≡ Ok t) made.1
    (ap (λ (t : List ℕ). title_of t Main) lead.written ∙ whole ∙ named_again ns (tidy rest) made.0)

-- cutting at the first colon
abbrev pub Parts : Type 0
Parts = List ℕ × List ℕ

abbrev pub put_before : ℕ → Option Parts → Option Parts
put_before c parts = option_map (λ (p : Parts). (c ∷ p.0, p.1)) parts

abbrev pub squeeze_parts : Option Parts → Option Parts
squeeze_parts parts = option_map (λ (p : Parts). (squeeze p.0, squeeze p.1)) parts

begun : (c : ℕ) (parts : Option Parts) → IfSome (put_before c parts) (λ p. begins_with 32 p.0 ≡ (c == 32))
begun c None = tt
begun c (Some p) = refl

cut_begins : (text : List ℕ) → IfSome (cut_at_colon text) (λ p. begins_with 32 p.0 ≡ begins_with 32 text)
cut_begins [] = tt
cut_begins (c ∷ cs) =
    cond_both (c == 58) (Some ([], cs)) (put_before c (cut_at_colon cs)) (λ o. IfSome o (λ p. begins_with 32 p.0 ≡ (c == 32)))
    (λ colon. ap (λ b. b == 32) (sym (eqb-true c 58 colon))) (λ _. begun c (cut_at_colon cs))

cut_squeeze_at : (c : ℕ) (cs : List ℕ) (parts : Option Parts) (colon : Bool)
    → IfSome parts (λ p. begins_with 32 p.0 ≡ begins_with 32 cs) → cut_at_colon (squeeze cs) ≡ squeeze_parts parts
    → (c == 58) ≡ colon → cut_at_colon (squeeze (c ∷ cs)) ≡ squeeze_parts (cond colon (Some ([], cs)) (put_before c parts))
cut_squeeze_at c cs parts true same before e =
    subst (λ (b : ℕ). cut_at_colon (squeeze (b ∷ cs)) ≡ Some ([], squeeze cs)) (sym (eqb-true c 58 e)) refl
cut_squeeze_at c cs None false same before e =
    cond_both ((c == 32) && begins_with 32 cs) (squeeze cs) (c ∷ squeeze cs) (λ t. cut_at_colon t ≡ None)
    (λ _. before) (λ _. cond-false _ _ _ e ∙ ap (put_before c) before)
cut_squeeze_at c cs (Some p) false same before e =
    let test : ((c == 32) && begins_with 32 p.0) ≡ ((c == 32) && begins_with 32 cs) = ap (λ b. (c == 32) && b) same in
    cond_both ((c == 32) && begins_with 32 cs) (squeeze cs) (c ∷ squeeze cs)
    (λ t. cut_at_colon t ≡ Some (squeeze (c ∷ p.0), squeeze p.1))
    (λ holds. before ∙ ap (λ (t : List ℕ). Some (t, squeeze p.1)) (sym (cond-true _ _ _ (test ∙ holds))))
    (λ fails. cond-false _ _ _ e ∙ ap (put_before c) before
    ∙ ap (λ (t : List ℕ). Some (t, squeeze p.1)) (sym (cond-false _ _ _ (test ∙ fails))))

cut_squeeze : (text : List ℕ) → cut_at_colon (squeeze text) ≡ squeeze_parts (cut_at_colon text)
cut_squeeze [] = refl
cut_squeeze (c ∷ cs) = cut_squeeze_at c cs (cut_at_colon cs) (c == 58) (cut_begins cs) (cut_squeeze cs) refl

plain_before : (c : ℕ) (parts : Option Parts) → IfSome parts (λ p. with_spaces p.1 ≡ p.1) → IfSome (put_before c parts) (λ p. with_spaces p.1 ≡ p.1)
plain_before c None plain = tt
plain_before c (Some p) plain = plain

cut_plain : (text : List ℕ) → with_spaces text ≡ text → IfSome (cut_at_colon text) (λ p. with_spaces p.1 ≡ p.1)
cut_plain [] plain = tt
cut_plain (c ∷ cs) plain =
    let rest = (cons_parts _ _ _ _ plain).1 in
    cond_both (c == 58) (Some ([], cs)) (put_before c (cut_at_colon cs)) (λ o. IfSome o (λ p. with_spaces p.1 ≡ p.1))
    (λ _. rest) (λ _. plain_before c (cut_at_colon cs) (cut_plain cs rest))

-- the namespace that is chosen
abbrev pub chosen_by : Parts → Option (Namespace × List ℕ)
chosen_by parts = option_map (λ (ns : Namespace). (ns, parts.1)) (namespace_named (tidy parts.0))

abbrev pub Chosen : Namespace × List ℕ → Type 0
Chosen chosen = (is_main chosen.0 ≡ false) × (with_spaces chosen.1 ≡ chosen.1)

chosen_named : (o : Option Namespace) (rest : List ℕ) → IfSome o (λ ns. is_main ns ≡ false) → with_spaces rest ≡ rest
    → IfSome (option_map (λ (ns : Namespace). (ns, rest)) o) Chosen
chosen_named None rest other plain = tt
chosen_named (Some ns) rest other plain = (other, plain)

chosen_at : (parts : Option Parts) → IfSome parts (λ p. with_spaces p.1 ≡ p.1) → IfSome (option_and_then chosen_by parts) Chosen
chosen_at None plain = tt
chosen_at (Some p) plain = chosen_named (namespace_named (tidy p.0)) p.1 (named_other (tidy p.0)) plain

chosen : (text : List ℕ) → with_spaces text ≡ text → IfSome (cut_prefix text) Chosen
chosen text plain = chosen_at (cut_at_colon text) (cut_plain text plain)

-- Where the text before a colon names no namespace, it names none in the name either.
unnamed : (o : Option Namespace) (rest : List ℕ) → option_map {U = Namespace × List ℕ} (λ ns. (ns, rest)) o ≡ None → o ≡ None
unnamed None rest e = refl
unnamed (Some ns) rest e = absurd cc

tidy_front : (c : ℕ) (cs : List ℕ) → is_white c ≡ false → tidy (c ∷ cs) ≡ c ∷ squeeze (ending cs)
tidy_front c cs plain =
    ap (λ (t : List ℕ). squeeze (trim_end t)) (fixed_start (c ∷ cs) plain)
    ∙ ap squeeze (trim_end-ending (c ∷ cs) ∙ keep_plain c (ending cs) plain)
    ∙ squeeze_plain c (ending cs) plain

tidy_same : (c : ℕ) (cs : List ℕ) → is_white c ≡ false
    → namespace_named (tidy (to_ascii_uppercase c ∷ squeeze cs)) ≡ namespace_named (tidy (c ∷ cs))
tidy_same c cs plain =
    ap namespace_named
    (tidy_front (to_ascii_uppercase c) (squeeze cs) (white_capital c plain)
    ∙ ap (λ (t : List ℕ). to_ascii_uppercase c ∷ t) (ap squeeze (ending_squeeze cs) ∙ squeeze_twice (ending cs)))
    ∙ named_capital c (squeeze (ending cs)) ∙ ap namespace_named (sym (tidy_front c cs plain))

uncut_at : (c : ℕ) (cs : List ℕ) (parts : Option Parts) → cut_at_colon cs ≡ parts → is_white c ≡ false → (c == 58) ≡ false
    → cut_prefix (c ∷ cs) ≡ None → cut_prefix (to_ascii_uppercase c ∷ squeeze cs) ≡ None
uncut_at c cs None e plain other none =
    ap (option_and_then chosen_by)
    (cond-false _ _ _ (colon_capital c other) ∙ ap (put_before (to_ascii_uppercase c)) (cut_squeeze cs ∙ ap squeeze_parts e))
uncut_at c cs (Some p) e plain other none =
    let text_cut : cut_at_colon (c ∷ cs) ≡ Some (c ∷ p.0, p.1) = cond-false _ _ _ other ∙ ap (put_before c) e in
    let name_cut : cut_at_colon (to_ascii_uppercase c ∷ squeeze cs) ≡ Some (to_ascii_uppercase c ∷ squeeze p.0, squeeze p.1) =
    cond-false _ _ _ (colon_capital c other) ∙ ap (put_before (to_ascii_uppercase c)) (cut_squeeze cs ∙ ap squeeze_parts e) in
    let text_unnamed = unnamed (namespace_named (tidy (c ∷ p.0))) p.1 (sym (ap (option_and_then chosen_by) text_cut) ∙ none) in
    ap (option_and_then chosen_by) name_cut
    ∙ ap (option_map (λ (ns : Namespace). (ns, squeeze p.1))) (tidy_same c p.0 plain ∙ text_unnamed)

uncut : (text : List ℕ) → Neat text → begins_with 58 (tidy text) ≡ false → cut_prefix text ≡ None → cut_prefix (with_capital (tidy text)) ≡ None
uncut [] neat other none = refl
uncut (c ∷ cs) neat other none =
    let is_tidy : tidy (c ∷ cs) ≡ c ∷ squeeze cs = tidy_neat (c ∷ cs) neat ∙ squeeze_plain c cs neat.front in
    ap (λ (t : List ℕ). cut_prefix (with_capital t)) is_tidy
    ∙ uncut_at c cs (cut_at_colon cs) refl neat.front (sym (ap (begins_with 58) is_tidy) ∙ other) none

unopened : (text : List ℕ) (ns : Namespace) → begins_with 58 text ≡ false → open_colon text ns ≡ (ns, text)
unopened [] ns other = refl
unopened (c ∷ cs) ns other = cond-false _ _ _ other

no_colon : (name : List ℕ) → Passes name → begins_with 58 name ≡ false
no_colon name passes = (or_parts _ _ (or_parts _ _ passes.good).0).1

-- in the main namespace
main_again : (text : List ℕ) (title : Title) → Neat text → cut_prefix text ≡ None
    → title_in Main (tidy text) ≡ Ok title → title_of (title_text title) Main ≡ Ok title
unfolding title_text prefix_of
main_again text title whole none e =
    let made = passed Main (tidy text) title e in
    let name = with_capital (tidy text) in
    let neat = neat_capital (tidy text) (neat_tidy text whole.plain) in
    let single = single_capital (tidy text) (neat_tidy text whole.plain) (squeeze_twice (trim text)) in
    let is_uncut = uncut text whole (no_colon (tidy text) made.0) none in
    let is_opened = unopened name Main (no_colon name (passes_capital (tidy text) made.0)) in
    subst (λ (t : Title). title_of (title_text t) Main ≡ Ok t) made.1
    (reads_as name name name (Main, name) Main neat.plain (fixed_trim name neat.front neat.back) is_opened
    (ap (λ o. unwrap_or o (Main, name)) is_uncut) (tidy_neat name neat ∙ single)
    ∙ named_again Main (tidy text) made.0)

default_again : (ns : Namespace) (text : List ℕ) (title : Title) → Neat text → cut_prefix text ≡ None
    → title_in ns (tidy text) ≡ Ok title → title_of (title_text title) Main ≡ Ok title
default_again ns text title neat none e = go (cases_Bool (is_main ns))
  where
    go : (is_main ns ≡ true) ⊎ (is_main ns ≡ false) → title_of (title_text title) Main ≡ Ok title
    go (inl main) = main_again text title neat none (ap (λ n. title_in n (tidy text)) (sym (main_is ns main)) ∙ e)
    go (inr main) = prefixed_again ns text title main neat.plain e

chosen_again : (ns : Namespace) (text : List ℕ) (title : Title) (cut : Option (Namespace × List ℕ)) → Neat text
    → cut_prefix text ≡ cut → IfSome cut Chosen
    → title_in (unwrap_or cut (ns, text)).0 (tidy (unwrap_or cut (ns, text)).1) ≡ Ok title → title_of (title_text title) Main ≡ Ok title
chosen_again ns text title None neat is_cut is_chosen e = default_again ns text title neat is_cut e
chosen_again ns text title (Some cut) neat is_cut is_chosen e = prefixed_again cut.0 cut.1 title is_chosen.0 is_chosen.1 e

neat_opened : (text : List ℕ) (ns : Namespace) → Neat text → Neat (open_colon text ns).1
neat_opened [] ns neat = neat
neat_opened (c ∷ cs) ns neat =
    cond_both {A = Namespace × List ℕ} (c == 58) (Main, trim_start cs) (ns, c ∷ cs) (λ opened. Neat opened.1)
    (λ _. record {
      front = front_start cs;
      back = back_start cs c neat.back;
      plain = plain_start cs (cons_parts _ _ _ _ neat.plain).1;
    })
    (λ _. neat)

pub reads_back : (text : List ℕ) (default : Namespace) (title : Title)
    → title_of text default ≡ Ok title → title_of (title_text title) Main ≡ Ok title
unfolding title_of
reads_back text default title e =
    let opened = open_colon (trim (with_spaces text)) default in
    let neat = neat_opened (trim (with_spaces text)) default (neat_trim (with_spaces text) (plain_spaced text)) in
    chosen_again opened.0 opened.1 title (cut_prefix opened.1) neat refl (chosen opened.1 neat.plain) e
