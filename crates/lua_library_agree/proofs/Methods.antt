-- The methods of frames (Scribunto, Frame object).
use Rattle.std.proofs.Common.{◌≡◌, ℕ, ◌+◌, pos, negsuc, List, [], ◌∷◌, ◌++◌, length, Option, Some, None, slice_set, refl, ◌∙◌, ap, subst}
use Rattle.std.specs.Prelude.{Ok, Err, codes}
use Rattle.std.specs.Option.{option_map}
use Rattle.lua_meaning.specs.WkBaseDeclaredTitleTitle.{Title}
use Rattle.lua_meaning.specs.WkBaseTitles.{title_text}
use Rattle.lua_meaning.specs.MwFrameDeclaredSceneArg.{Arg}
use Rattle.lua_meaning.specs.MwFrameDeclaredSceneScene.{Scene}
use Rattle.lua_meaning.specs.MwFrameDeclaredQuestionAsk.{Ask}
use Rattle.lua_heap.specs.Value.{Value, Nil, is_nil}
use Rattle.lua_heap.specs.Table.{Entries}
use Rattle.lua_heap.specs.Heap.{Heap}
use Rattle.lua_heap.specs.Related.{Map, Grows, GrowsWith, Each, none, more, SameOption, neither, both, Same, nil, truth, number, text, table, closure, builtin, markup, SameEntry, SameEntries, Stands}
use Rattle.lua_heap.proofs.Entries.{nil-related}
use Rattle.lua_heap.proofs.Carried.{same-grows}
use Rattle.lua_heap.proofs.Steps.{moved-same}
use Rattle.lua_meaning.specs.Charges.{frame_charge}
use Rattle.lua_meaning.specs.Scope.{Bytes}
use Rattle.lua_meaning.specs.Questions.{Asked}
use Rattle.lua_meaning.specs.Values.{rest, text_in}
use Rattle.lua_meaning.specs.Acts.{Frame, Parent, Nobody, Unmade, Made}
use Rattle.lua_meaning.specs.Arguments.{Plain, Argument}
use Rattle.lua_meaning.specs.Frames.{merge_args, arg_named, args_charge, make_frame, new_frame, table_or_nil, table_of_frame, Numbered, frame_numbered, number_in_metatable}
use Rattle.lua_meaning.specs.FrameMethods.{a_request, a_title_text, an_optional_text, entries_of, arg_value, arg_of, in_front, entry_arg, read_args, FrameQuotes, FrameWalks, Framed, behind_charge, comes_to, answers, refuses, asks, as_framed, if_argument, if_title, if_entries, in_frame, get_current_frame, get_title, parent_of, get_parent, argument_pairs, text_or_field, argument_entries, argument_table, get_argument, preprocess, frame_extension_tag, expand_template, new_child}
use Rattle.lua_library_agree.specs.Same.{SameFrame, SameNumbered, SameArgument, both_ok, both_err, both_give, both_fail, both_end, both_quote, both_ask, both_walk, SamePlain, SameFramed}
use Rattle.lua_library_agree.proofs.Values.{one-each, first-same, rest-same, each-length, each-get, each-set, each-append, each-widen, text_in-same, bad-same, a_text-same, some_value-same, SameTab}
use Rattle.lua_library_agree.proofs.Heaps.{chosen, passed-same, entry-more, entries-stood, item-same, field-same, metatable-same}
use Rattle.lua_library_agree.proofs.FrameTables.{frame-made, table-added}
use Rattle.lua_library_agree.proofs.Tags.{extension_tag-same}

-- FRAMES of two sides
pub frame-grows : (m n : Map) → Grows m n → (f g : Frame) → SameFrame m f g → SameFrame n f g
frame-grows m n up f g e = record { scene = e.scene; table = same-grows m n _ _ up e.table; parent = e.parent }

pub frames-grow : (m n : Map) → Grows m n → {fs gs : List Frame} → Each (SameFrame m) fs gs → Each (SameFrame n) fs gs
frames-grow m n up e = each-widen (frame-grows m n up) e

-- what holds for frames that differ by their tables alone, holds for frames of two sides
numbered-alike : {m : Map} (Q : Numbered → Numbered → Type 0)
    → ((k : ℕ) (scene : Scene) (v w : Value) (parent : Parent) → Same m v w
    → Q (record { number = k; frame = record { scene = scene; table = v; parent = parent } }) (record { number = k; frame = record { scene = scene; table = w; parent = parent } }))
    → (a b : Numbered) → SameNumbered m a b → Q a b
numbered-alike Q f a b e =
    subst (λ (k : ℕ). Q a (record { number = k; frame = record { scene = b.frame.scene; table = b.frame.table; parent = b.frame.parent } })) e.number
    (subst (λ (sc : Scene). Q a (record { number = a.number; frame = record { scene = sc; table = b.frame.table; parent = b.frame.parent } })) e.frame.scene
    (subst (λ (p : Parent). Q a (record { number = a.number; frame = record { scene = a.frame.scene; table = b.frame.table; parent = p } })) e.frame.parent
    (f a.number a.frame.scene a.frame.table b.frame.table a.frame.parent e.frame.table)))

table_or_nil-same : {m : Map} (o p : Option Frame) → SameOption (SameFrame m) o p → Same m (table_or_nil o) (table_or_nil p)
table_or_nil-same _ _ neither = nil
table_or_nil-same _ _ (both f g e) = e.table

pub table_of_frame-same : {m : Map} {fs gs : List Frame} → Each (SameFrame m) fs gs → (n : ℕ) → Same m (table_of_frame fs n) (table_of_frame gs n)
table_of_frame-same e n = table_or_nil-same _ _ (each-get e n)

numbered-map : {m : Map} (n : ℕ) (o p : Option Frame) → SameOption (SameFrame m) o p
    → SameOption (SameNumbered m) (option_map (λ f. record { number = n; frame = f }) o) (option_map (λ f. record { number = n; frame = f }) p)
numbered-map n _ _ neither = neither
numbered-map n _ _ (both f g e) = both _ _ (record { number = refl; frame = e })

frame_numbered-same : {m : Map} {fs gs : List Frame} → Each (SameFrame m) fs gs → (v w : Value) → Same m v w → SameOption (SameNumbered m) (frame_numbered fs v) (frame_numbered gs w)
frame_numbered-same e _ _ nil = neither
frame_numbered-same e _ _ (truth b) = neither
frame_numbered-same e _ _ (number (pos n)) = numbered-map n _ _ (each-get e n)
frame_numbered-same e _ _ (number (negsuc n)) = neither
frame_numbered-same e _ _ (text t) = neither
frame_numbered-same e _ _ (table a b x) = neither
frame_numbered-same e _ _ (closure a b x) = neither
frame_numbered-same e _ _ (builtin b) = neither
frame_numbered-same e _ _ (markup a b x) = neither

-- ARGUMENTS OF METHODS
a_request-same : {m : Map} {vs ws : List Value} → Each (Same m) vs ws → SameArgument (SameTab m) (a_request vs) (a_request ws)
a_request-same none = both_err _
a_request-same (more _ _ _ _ nil e) = both_err _
a_request-same (more _ _ _ _ (truth b) e) = both_err _
a_request-same (more _ _ _ _ (number b) e) = both_err _
a_request-same (more _ _ _ _ (text b) e) = both_err _
a_request-same (more _ _ _ _ (table a b x) e) = both_ok a b x
a_request-same (more _ _ _ _ (closure a b x) e) = both_err _
a_request-same (more _ _ _ _ (builtin b) e) = both_err _
a_request-same (more _ _ _ _ (markup a b x) e) = both_err _

a_title_text-same : {m : Map} {v w : Value} → Same m v w → a_title_text v ≡ a_title_text w
a_title_text-same nil = refl
a_title_text-same (truth b) = refl
a_title_text-same (number n) = refl
a_title_text-same (text t) = refl
a_title_text-same (table a b e) = refl
a_title_text-same (closure a b e) = refl
a_title_text-same (builtin b) = refl
a_title_text-same (markup a b e) = refl

an_optional_text-same : {m : Map} {v w : Value} → Same m v w → an_optional_text v ≡ an_optional_text w
an_optional_text-same nil = refl
an_optional_text-same (truth b) = refl
an_optional_text-same (number n) = refl
an_optional_text-same (text t) = refl
an_optional_text-same (table a b e) = refl
an_optional_text-same (closure a b e) = refl
an_optional_text-same (builtin b) = refl
an_optional_text-same (markup a b e) = refl

arg_value-same : {m : Map} {v w : Value} → Same m v w → arg_value v ≡ arg_value w
arg_value-same nil = refl
arg_value-same (truth b) = refl
arg_value-same (number n) = refl
arg_value-same (text t) = refl
arg_value-same (table a b e) = refl
arg_value-same (closure a b e) = refl
arg_value-same (builtin b) = refl
arg_value-same (markup a b e) = refl

arg-same : {m : Map} (e f : Value × Value) → SameEntry m e f → arg_of (text_in e.0) (arg_value e.1) ≡ arg_of (text_in f.0) (arg_value f.1)
arg-same e f r = ap (λ o. arg_of o (arg_value e.1)) (text_in-same r.key) ∙ ap (arg_of (text_in f.0)) (arg_value-same r.value)

read_args-same : {m : Map} (es fs : Entries) → SameEntries m es fs → read_args es ≡ read_args fs
read_args-same _ _ none = refl
read_args-same {m} _ _ (more e f es fs r rest) =
    let more_ : read_args es ≡ read_args fs = read_args-same es fs rest in
    chosen (λ (x y : Argument (List Arg)). x ≡ y) (is_nil e.1) (is_nil f.1) (nil-related m _ _ r.value) more_
    (ap (λ a. in_front a (read_args es)) (arg-same e f r) ∙ ap (in_front (arg_of (text_in f.0) (arg_value f.1))) more_)

module _ {X Y : Type 0} (R : Map → X → Y → Type 0) (up : GrowsWith R) (m : Map) (h : Heap X) (s : Heap Y) (st : Stands R m h s) (fs gs : List Frame) (ef : Each (SameFrame m) fs gs) where
  abbrev Alike : Framed X → Framed Y → Type 0
  Alike a b = SameFramed R m h s a b

  -- ENDS
  answering : (v w : Value) → Same m v w → Alike (answers h fs v) (answers s gs w)
  answering v w e = record { charge = refl; names = m; moved = moved-same R m h s st; frames = ef; end = both_end _ _ (both_give _ _ (one-each e)) }

  refusing : (message : Bytes) → Alike (refuses h fs message) (refuses s gs message)
  refusing message = record { charge = refl; names = m; moved = moved-same R m h s st; frames = ef; end = both_end _ _ (both_fail _ _ _ (text message)) }

  quoting : (message : Bytes) → Alike (comes_to h fs (FrameQuotes message)) (comes_to s gs (FrameQuotes message))
  quoting message = record { charge = refl; names = m; moved = moved-same R m h s st; frames = ef; end = both_quote message }

  charged : (n k : ℕ) → n ≡ k → (a : Framed X) (b : Framed Y) → Alike a b → Alike (behind_charge n a) (behind_charge k b)
  charged n k e a b x = record { charge = ap (λ (c : ℕ). c + a.charge) e ∙ ap (λ (c : ℕ). k + c) x.charge; names = x.names; moved = x.moved; frames = x.frames; end = x.end }

  asking : (charge : ℕ) (question : Ask) (asked : Asked) → Alike (asks h fs charge question asked) (asks s gs charge question asked)
  asking charge question asked = record { charge = refl; names = m; moved = moved-same R m h s st; frames = ef; end = both_ask question asked }

  walking : (v w : Value) → Same m v w → Alike (comes_to h fs (FrameWalks v)) (comes_to s gs (FrameWalks w))
  walking v w e = record { charge = refl; names = m; moved = moved-same R m h s st; frames = ef; end = both_walk v w e }

  plain-framed : (a : Plain X) (b : Plain Y) → SamePlain R m h s a b → Alike (as_framed h fs a) (as_framed s gs b)
  plain-framed a b e = record { charge = e.charge; names = e.names; moved = e.moved; frames = frames-grow m e.names e.moved.later.grows ef; end = both_end _ _ e.end }

  -- ARGUMENTS
  if-argument : {A B : Type 0} {Q : A → B → Type 0} {c : Argument A} {d : Argument B} (f : A → Framed X) (g : B → Framed Y) → SameArgument Q c d
      → ((a : A) (b : B) → Q a b → Alike (f a) (g b)) → Alike (if_argument h fs c f) (if_argument s gs d g)
  if-argument f g (both_ok a b q) k = k a b q
  if-argument f g (both_err message) k = refusing message

  if-given : {A : Type 0} (c : Argument A) (f : A → Framed X) (g : A → Framed Y) → ((a : A) → Alike (f a) (g a)) → Alike (if_argument h fs c f) (if_argument s gs c g)
  if-given (Ok a) f g k = k a
  if-given (Err message) f g k = refusing message

  if-equal : {A : Type 0} (c d : Argument A) (f : A → Framed X) (g : A → Framed Y) → c ≡ d → ((a : A) → Alike (f a) (g a)) → Alike (if_argument h fs c f) (if_argument s gs d g)
  if-equal c d f g e k = subst (λ d. Alike (if_argument h fs c f) (if_argument s gs d g)) e (if-given c f g k)

  if-titled : (c : Argument Title) (f : Title → Framed X) (g : Title → Framed Y) → ((title : Title) → Alike (f title) (g title)) → Alike (if_title h fs c f) (if_title s gs c g)
  if-titled (Ok title) f g k = k title
  if-titled (Err message) f g k = quoting message

  if-entries : (es us : Entries) → SameEntries m es us → (f : List Arg → Framed X) (g : List Arg → Framed Y) → ((read : List Arg) → Alike (f read) (g read)) → Alike (if_entries h fs es f) (if_entries s gs us g)
  if-entries es us e f g k = charged _ _ (passed-same entry_arg arg-same es us e) _ _ (if-equal _ _ f g (read_args-same es us e) k)

  number_in_metatable-same : (v w : Value) → Same m v w → Same m (number_in_metatable h v) (number_in_metatable s w)
  number_in_metatable-same _ _ nil = nil
  number_in_metatable-same _ _ (truth b) = nil
  number_in_metatable-same _ _ (number n) = nil
  number_in_metatable-same _ _ (text t) = nil
  number_in_metatable-same _ _ (table a b e) = item-same R m h s st a b _ _ e (number (pos 1))
  number_in_metatable-same _ _ (closure a b e) = nil
  number_in_metatable-same _ _ (builtin w) = nil
  number_in_metatable-same _ _ (markup a b e) = nil

  entries_of-same : (v w : Value) → Same m v w → SameArgument (SameEntries m) (entries_of h v) (entries_of s w)
  entries_of-same _ _ nil = both_ok _ _ none
  entries_of-same _ _ (table a b e) = both_ok _ _ (entries-stood R m h s st a b e)
  entries_of-same _ _ (truth b) = both_err _
  entries_of-same _ _ (number n) = both_err _
  entries_of-same _ _ (text t) = both_err _
  entries_of-same _ _ (closure a b e) = both_err _
  entries_of-same _ _ (builtin w) = both_err _
  entries_of-same _ _ (markup a b e) = both_err _

  -- a new frame behind those that there are, and a change of them before
  framing : (scene : Scene) (parent : Parent) (charge : ℕ) (us vs : List Frame) → Each (SameFrame m) us vs
      → Alike (record { charge = charge; heap = make_frame scene (length fs) h; frames = us ++ new_frame h scene parent ∷ []; end = (answers (make_frame scene (length fs) h) us (new_frame h scene parent).table).end })
      (record { charge = charge; heap = make_frame scene (length gs) s; frames = vs ++ new_frame s scene parent ∷ []; end = (answers (make_frame scene (length gs) s) vs (new_frame s scene parent).table).end })
  framing scene parent charge us vs e =
      let a = frame-made R up m h s st scene (length fs) parent in
      subst (λ (k : ℕ). Alike (record { charge = charge; heap = make_frame scene (length fs) h; frames = us ++ new_frame h scene parent ∷ []; end = (answers (make_frame scene (length fs) h) us (new_frame h scene parent).table).end })
      (record { charge = charge; heap = make_frame scene k s; frames = vs ++ new_frame s scene parent ∷ []; end = (answers (make_frame scene k s) vs (new_frame s scene parent).table).end })) (each-length ef)
      (record {
        charge = refl;
        names = a.0;
        moved = a.1;
        frames = each-append (frames-grow m a.0 a.1.later.grows e) (more _ _ _ _ a.2 none);
        end = both_end _ _ (both_give _ _ (one-each a.2.table));
      })

  pub get_current_frame-same : Alike (get_current_frame h fs) (get_current_frame s gs)
  get_current_frame-same = answering _ _ (table_of_frame-same ef 0)

  module _ (vs ws : List Value) (e : Each (Same m) vs ws) where
    in-frame : (name : Bytes) (f : Numbered → Framed X) (g : Numbered → Framed Y)
        → ((k : ℕ) (scene : Scene) (v w : Value) (parent : Parent) → Same m v w
        → Alike (f (record { number = k; frame = record { scene = scene; table = v; parent = parent } })) (g (record { number = k; frame = record { scene = scene; table = w; parent = parent } })))
        → Alike (in_frame h fs name vs f) (in_frame s gs name ws g)
    in-frame name f g k =
        if-argument f g
        (some_value-same (bad-same 1 name (codes "frame") e) (frame_numbered-same ef _ _ (number_in_metatable-same _ _ (metatable-same R m h s st _ _ (first-same e)))))
        (numbered-alike (λ a b. Alike (f a) (g b)) k)

    pub get_title-same : Alike (get_title h fs vs) (get_title s gs ws)
    get_title-same = in-frame (codes "getTitle") _ _ (λ k scene v w parent t. answering _ _ (text (title_text scene.title)))

    parent_of-same : (k : ℕ) (scene : Scene) (v w : Value) (own : Parent) → Same m v w → (parent : Parent)
        → Alike (parent_of h fs (record { number = k; frame = record { scene = scene; table = v; parent = own } }) parent) (parent_of s gs (record { number = k; frame = record { scene = scene; table = w; parent = own } }) parent)
    parent_of-same k scene v w own t Nobody = answering _ _ nil
    parent_of-same k scene v w own t (Made n) = answering _ _ (table_of_frame-same ef n)
    parent_of-same k scene v w own t (Unmade outer) =
        framing outer Nobody (frame_charge + args_charge outer.args) _ _
        (subst (λ (n : ℕ). Each (SameFrame m) (slice_set fs k (record { scene = scene; table = v; parent = Made (length fs) })) (slice_set gs k (record { scene = scene; table = w; parent = Made n }))) (each-length ef)
        (each-set ef k (record { scene = scene; table = v; parent = Made (length fs) }) (record { scene = scene; table = w; parent = Made (length fs) }) (record { scene = refl; table = t; parent = refl })))

    pub get_parent-same : Alike (get_parent h fs vs) (get_parent s gs ws)
    get_parent-same = in-frame (codes "getParent") _ _ (λ k scene v w parent t. parent_of-same k scene v w parent t parent)

    pub argument_pairs-same : Alike (argument_pairs h fs vs) (argument_pairs s gs ws)
    argument_pairs-same = in-frame (codes "argumentPairs") _ _ (λ k scene v w parent t. walking _ _ (field-same R m h s st _ _ (codes "args") (first-same e)))

    pub frame_extension_tag-same : Alike (frame_extension_tag h fs vs) (frame_extension_tag s gs ws)
    frame_extension_tag-same = in-frame (codes "extensionTag") _ _ (λ k scene v w parent t. plain-framed _ _ (extension_tag-same R m h s st _ _ (rest-same e)))

  text_or_field-same : (name : Bytes) (vs ws : List Value) → Each (Same m) vs ws → Each (Same m) (text_or_field h fs name vs) (text_or_field s gs name ws)
  text_or_field-same name _ _ none = none
  text_or_field-same name _ _ (more _ _ xs ys (table a b x) e) = one-each (field-same R m h s st _ _ name (table a b x))
  text_or_field-same name _ _ (more _ _ xs ys nil e) = more _ _ xs ys nil e
  text_or_field-same name _ _ (more _ _ xs ys (truth b) e) = more _ _ xs ys (truth b) e
  text_or_field-same name _ _ (more _ _ xs ys (number b) e) = more _ _ xs ys (number b) e
  text_or_field-same name _ _ (more _ _ xs ys (text b) e) = more _ _ xs ys (text b) e
  text_or_field-same name _ _ (more _ _ xs ys (closure a b x) e) = more _ _ xs ys (closure a b x) e
  text_or_field-same name _ _ (more _ _ xs ys (builtin b) e) = more _ _ xs ys (builtin b) e
  text_or_field-same name _ _ (more _ _ xs ys (markup a b x) e) = more _ _ xs ys (markup a b x) e

  argument_table-same : (o : Option Bytes) → Alike (argument_table h fs o) (argument_table s gs o)
  argument_table-same None = answering _ _ nil
  argument_table-same (Some t) =
      let a = table-added R up m h s st (argument_entries h fs t) (argument_entries s gs t) Nil Nil (entry-more (text _) (builtin _) (entry-more (text _) (text _) none)) nil in
      record {
        charge = refl;
        names = a.names;
        moved = a.moved;
        frames = frames-grow m a.names a.moved.later.grows ef;
        end = both_end _ _ (both_give _ _ (one-each (table _ _ a.at)));
      }

  pub get_argument-same : (vs ws : List Value) → Each (Same m) vs ws → Alike (get_argument h fs vs) (get_argument s gs ws)
  get_argument-same vs ws e =
      in-frame vs ws e (codes "getArgument") _ _ (λ k scene v w parent t.
      if-equal _ _ _ _ (a_text-same 2 (codes "getArgument") (text_or_field-same (codes "name") _ _ (rest-same e))) (λ name.
      argument_table-same (arg_named name scene.args)))

  pub preprocess-same : (vs ws : List Value) → Each (Same m) vs ws → Alike (preprocess h fs vs) (preprocess s gs ws)
  preprocess-same vs ws e =
      in-frame vs ws e (codes "preprocess") _ _ (λ k scene v w parent t.
      if-equal _ _ _ _ (a_text-same 2 (codes "preprocess") (text_or_field-same (codes "text") _ _ (rest-same e))) (λ t.
      asking _ _ _))

  pub expand_template-same : (vs ws : List Value) → Each (Same m) vs ws → Alike (expand_template h fs vs) (expand_template s gs ws)
  expand_template-same vs ws e =
      in-frame vs ws e (codes "expandTemplate") _ _ (λ k scene v w parent t.
      if-argument _ _ (a_request-same (rest-same e)) (λ a b x.
      if-equal _ _ _ _ (a_title_text-same (field-same R m h s st _ _ (codes "title") (table a b x))) (λ t.
      if-argument _ _ (entries_of-same _ _ (field-same R m h s st _ _ (codes "args") (table a b x))) (λ es us y.
      if-titled _ _ _ (λ title.
      if-entries es us y _ _ (λ read.
      asking _ _ _))))))

  pub new_child-same : (vs ws : List Value) → Each (Same m) vs ws → Alike (new_child h fs vs) (new_child s gs ws)
  new_child-same vs ws e =
      in-frame vs ws e (codes "newChild") _ _ (λ k scene v w parent t.
      if-argument _ _ (a_request-same (rest-same e)) (λ a b x.
      if-equal _ _ _ _ (an_optional_text-same (field-same R m h s st _ _ (codes "title") (table a b x))) (λ t.
      if-argument _ _ (entries_of-same _ _ (field-same R m h s st _ _ (codes "args") (table a b x))) (λ es us y.
      if-titled _ _ _ (λ title.
      if-entries es us y _ _ (λ read.
      framing (record { title = title; args = merge_args [] read; chain = scene.chain }) (Made k) _ fs gs ef))))))
