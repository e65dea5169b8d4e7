-- TEXTS one after another, and values whose texts are still to come.
use Rattle.std.proofs.Common.{◌≡◌, ◌∙◌, refl, sym, ap, subst, ℕ, List, [], ◌∷◌, ◌++◌, length, length-append}
use Rattle.std.specs.Prelude.{◌+◌, flat_map}
use Rattle.lua_code.specs.LuaMeaningStart.{escape_byte}
use Rattle.std.proofs.lemmas.List.{append_assoc, append-nil}
use Rattle.page_run.specs.WkBaseDeclaredLeftLeft.{Left}
use Rattle.lua_store.specs.declared.value.Value.{Value}
use Rattle.lua_store.specs.declared.ids.TextId.{TextId}
use Rattle.lua_store.specs.Seen.{StoreView, seen, text_at}
use Rattle.lua_store.specs.Parts.{IsLater, IsTextOf}
use Rattle.lua_store.proofs.Later.{text_of-later}
use Rattle.lua_store.proofs.Lists.{all-to}
use Rattle.lua_code.specs.LuaHeapValue.{Value as Plain}
use Rattle.lua_code.specs.LuaMeaningMetatables.{handler}
use Rattle.lua_modules.specs.LuaSlotsPoints.{Texts, Now}
use Rattle.lua_code.specs.LuaSlotsStarts.{text_by}
use Rattle.lua_code.specs.LuaMeaningValues.{first}
use Rattle.lua_modules.specs.LuaStackDeclaredValuesGiven.{Given}
use Rattle.lua_modules.specs.LuaStackLists.{first_stored, rest_stored, given_values}
use Rattle.lua_modules.specs.LuaStackOf.{ValuesOf, TextsOf}
use Rattle.lua_modules.specs.LuaStackSeen.{values_seen, given_seen, joined_seen}
use Rattle.lua_modules.proofs.LuaStackOpenings.{first_seen}
use Rattle.lua_modules.proofs.LuaStackStay.{values_stay}
use Rattle.lua_modules.specs.LuaStateDeclaredStateState.{State}
use Rattle.lua_modules.specs.LuaStateDeclaredTurnTurn.{Turn}
use Rattle.lua_modules.specs.LuaStateSeen.{slots_of, frames_of}
use Rattle.lua_modules.specs.LuaStateOf.{StateOf}
use Rattle.lua_modules.specs.LuaStateMakes.{Makes}
use Rattle.lua_runs.proofs.Parts.{over_text}

-- one more at the end
pub joined_more : (texts : List (List ℕ)) (ids : List TextId) (id : TextId) → joined_seen texts (ids ++ id ∷ []) ≡ joined_seen texts ids ++ text_at texts id.at
joined_more texts [] id = append-nil (text_at texts id.at)
joined_more texts (x ∷ ids) id = ap (λ b. text_at texts x.at ++ b) (joined_more texts ids id) ∙ sym (append_assoc (text_at texts x.at) (joined_seen texts ids) (text_at texts id.at))

pub texts_more : (s : StoreView) (ids : List TextId) (id : TextId) → TextsOf s ids → IsTextOf s id → TextsOf s (ids ++ id ∷ [])
texts_more s [] id h k = (k, tt)
texts_more s (x ∷ ids) id h k = (h.0, texts_more s ids id h.1 k)

-- the first one
pub first_text : (s : StoreView) (ids behind : List TextId) (id : TextId) → ids ≡ id ∷ behind → TextsOf s ids → IsTextOf s id × TextsOf s behind
first_text s ids behind id e h = subst (TextsOf s) e h

pub length_first : (texts : List (List ℕ)) (ids behind : List TextId) (id : TextId) → ids ≡ id ∷ behind → length (joined_seen texts ids) ≡ length (text_at texts id.at) + length (joined_seen texts behind)
length_first texts ids behind id e = ap (λ is. length (joined_seen texts is)) e ∙ length-append (text_at texts id.at) (joined_seen texts behind)

pub joined_put : (texts : List (List ℕ)) (old new text all : List ℕ) (ids behind : List TextId) (id : TextId) → ids ≡ id ∷ behind → text ≡ text_at texts id.at → new ≡ old ++ text
    → old ++ joined_seen texts ids ≡ all → new ++ joined_seen texts behind ≡ all
joined_put texts old new text all ids behind id e t n h =
    ap (λ b. b ++ joined_seen texts behind) n ∙ append_assoc old text (joined_seen texts behind) ∙ ap (λ b. old ++ (b ++ joined_seen texts behind)) t ∙ sym (ap (λ is. old ++ joined_seen texts is) e) ∙ h

-- THEY STAY in a later store
pub texts_later : (s t : StoreView) → IsLater s t → (ids : List TextId) → TextsOf s ids → TextsOf t ids
texts_later s t l ids h = all-to (IsTextOf s) (IsTextOf t) (λ id k. text_of-later s t l id k) ids h

texts_stay : (s t : StoreView) → IsLater s t → (ids : List TextId) → TextsOf s ids → joined_seen t.texts ids ≡ joined_seen s.texts ids
texts_stay s t l [] h = refl
texts_stay s t l (id ∷ ids) h = rw (l.texts.same id.at h.0, texts_stay s t l ids h.1) refl

-- A TEXT was made, and those of the values behind are next
pub follows : (s u : StoreView) (m : State) (l : Left) (r : Turn) (vs : List Value) (ids : List TextId) (id : TextId) (bytes : List ℕ) (texts : List (List ℕ)) → StateOf s m → ValuesOf s vs → TextsOf s ids → IsLater s u
    → u ≡ record s { texts = texts } → text_at u.texts id.at ≡ bytes
    → Makes u m l u m l (Now (Texts (values_seen u.texts vs) (joined_seen u.texts ids ++ text_at u.texts id.at) (frames_of u m)) (slots_of u m)) r
    → Makes s m l u m l (Now (Texts (values_seen s.texts vs) (joined_seen s.texts ids ++ bytes) (frames_of s m)) (slots_of s m)) r
follows s u m l r vs ids id bytes texts of values before later same there made =
    over_text s u u m m l l r (λ fs x. Now (Texts (values_seen s.texts vs) (joined_seen s.texts ids ++ bytes) fs) x) of later (ap (λ (x : StoreView). x.heap) same)
    (subst (λ b. Makes u m l u m l (Now (Texts (values_seen s.texts vs) (joined_seen s.texts ids ++ b) (frames_of u m)) (slots_of u m)) r) there
    (subst (λ b. Makes u m l u m l (Now (Texts (values_seen s.texts vs) (b ++ text_at u.texts id.at) (frames_of u m)) (slots_of u m)) r) (texts_stay s u later ids before)
    (subst (λ xs. Makes u m l u m l (Now (Texts xs (joined_seen u.texts ids ++ text_at u.texts id.at) (frames_of u m)) (slots_of u m)) r) (values_stay s u later vs values) made)))

-- VALUES: there is a first one, or none
pub opened : (texts : List (List ℕ)) (vs rest : List Value) (v : Value) → (length vs ≡ 0 → ⊥) → v ≡ first_stored vs → rest ≡ rest_stored vs → values_seen texts vs ≡ seen texts v ∷ values_seen texts rest
opened texts [] rest v some a b = absurd (some refl)
opened texts (w ∷ ws) rest v some a b = rw (a, b) refl

pub closed : (texts : List (List ℕ)) (vs : List Value) → length vs ≡ 0 → values_seen texts vs ≡ []
closed texts [] e = refl
closed texts (v ∷ vs) e = absurd cc

pub rest_of : (s : StoreView) (vs rest : List Value) → rest ≡ rest_stored vs → ValuesOf s vs → ValuesOf s rest
rest_of s [] rest e h = subst (ValuesOf s) (sym e) tt
rest_of s (v ∷ vs) rest e h = subst (ValuesOf s) (sym e) h.1

pub seen_first : (texts : List (List ℕ)) (g : Given) (v : Value) → v ≡ first_stored (given_values g) → seen texts v ≡ first (given_seen texts g)
seen_first texts g v e = ap (seen texts) e ∙ first_seen texts (given_values g)

-- THE FIRST VALUE, whose handler this is
pub by_handler : (s t : StoreView) (m m' : State) (l l' : Left) (r : Turn) (h v : Value) (vs : List Value) (ids : List TextId) (name : List ℕ) (event : List ℕ)
    → seen s.texts h ≡ handler s.heap (seen s.texts v) name → name ≡ event
    → Makes s m l t m' l' (text_by (seen s.texts h) (seen s.texts v) (values_seen s.texts vs) (joined_seen s.texts ids) (frames_of s m) (slots_of s m)) r
    → Makes s m l t m' l' (text_by (handler s.heap (seen s.texts v) event) (seen s.texts v) (values_seen s.texts vs) (joined_seen s.texts ids) (frames_of s m) (slots_of s m)) r
by_handler s t m m' l l' r h v vs ids name event e n made =
    subst (λ (x : Plain). Makes s m l t m' l' (text_by x (seen s.texts v) (values_seen s.texts vs) (joined_seen s.texts ids) (frames_of s m) (slots_of s m)) r) (e ∙ ap (handler s.heap (seen s.texts v)) n) made

-- A TEXT without marks of HTML, byte after byte
pub escaped_put : (old new all rest behind : List ℕ) (b : ℕ) → rest ≡ b ∷ behind → new ≡ old ++ escape_byte b → old ++ flat_map escape_byte rest ≡ all → new ++ flat_map escape_byte behind ≡ all
escaped_put old new all rest behind b e n h =
    ap (λ x. x ++ flat_map escape_byte behind) n ∙ append_assoc old (escape_byte b) (flat_map escape_byte behind) ∙ sym (ap (λ x. old ++ flat_map escape_byte x) e) ∙ h
