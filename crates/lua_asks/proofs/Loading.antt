-- What a move does to the loaded data: it keeps what is loaded, and asks only for what is not.
use Rattle.std.proofs.Common.{◌≡◌, ℕ, Bool, true, false, List, [], ◌∷◌, Option, Some, None, IsTrue, refl, sym, subst, is_some, if◌then◌else◌}
use Rattle.std.proofs.lemmas.Slice.Eq.{bytes_eq-Decides}
use Rattle.lua_slots.specs.WkBaseDeclaredTitleTitle.{Title}
use Rattle.lua_slots.specs.WkBaseTitles.{title_text}
use Rattle.lua_slots.specs.MwFrameDeclaredQuestionAskTheVariants.{Data, Template, Preprocess}
use Rattle.lua_slots.specs.PageRunOutcome.{Outcome}
use Rattle.lua_slots.specs.LuaHeapValue.{Value}
use Rattle.lua_slots.specs.LuaMeaningScope.{Bytes}
use Rattle.lua_slots.specs.LuaMeaningActs.{Jump}
use Rattle.lua_slots.specs.LuaMeaningTitled.{Titled, ByTitle, same_title, item_of, with_item}
use Rattle.lua_slots.specs.LuaMeaningQuestions.{DataAsked}
use Rattle.lua_slots.specs.Code.{Place, Reg, Box, Up}
use Rattle.lua_slots.specs.Slots.{Slots, place_cell, function_of, with_cell, write_place}
use Rattle.lua_slots.specs.Points.{SFrame, Hears, Point, Gives, Evals, Lists, Finds, Sets, Runs, Starts, Texts, Asking, Works, Move, Costs, Marks, Enters, Exits, Now}
use Rattle.lua_slots.specs.Modules.{with_data}
use Rattle.lua_asks.specs.Laws.{HasLoaded, AsksAnew}
use Rattle.lua_asks.proofs.CalmValues.{IsPlain, Stays, IsCalm}

pub record Next (s : Slots) (point : Point) (t : Slots) : Type 0 where
  pub keeps : (title : Title) → HasLoaded title s → HasLoaded title t
  pub asks : AsksAnew point t

abbrev pub Leads : Slots → Move → Type 0
Leads s (Costs n mv) = Leads s mv
Leads s (Marks mv) = Leads s mv
Leads s (Enters mv) = Leads s mv
Leads s (Exits mv) = Leads s mv
Leads s (Now point t) = Next s point t

pub record IsGood (s : Slots) (mv : Move) : Type 0 where
  pub leads : Leads s mv

pub good : {s : Slots} {mv : Move} → Leads s mv → IsGood s mv
good e = record { leads = e }

-- WHAT KEEPS the data and asks for none is good
plain-asks : (point : Point) (t : Slots) → IsPlain point → AsksAnew point t
plain-asks (Asking (Data title) fs) t p = absurd p
plain-asks (Asking (Template scene title args) fs) t p = tt
plain-asks (Asking (Preprocess scene text) fs) t p = tt
plain-asks (Gives o fs) t p = tt
plain-asks (Evals e fs) t p = tt
plain-asks (Lists es before fs) t p = tt
plain-asks (Finds ts before es fs) t p = tt
plain-asks (Sets pairs fs) t p = tt
plain-asks (Runs b fs) t p = tt
plain-asks (Starts thing fs) t p = tt
plain-asks (Texts vs before fs) t p = tt
plain-asks (Works work) t p = tt

calm-leads : (s : Slots) (mv : Move) → Stays s.data_ mv → Leads s mv
calm-leads s (Costs n mv) e = calm-leads s mv e
calm-leads s (Marks mv) e = calm-leads s mv e
calm-leads s (Enters mv) e = calm-leads s mv e
calm-leads s (Exits mv) e = calm-leads s mv e
calm-leads s (Now point t) e = record {
  keeps = λ title h. subst (λ (d : ByTitle Value). IsTrue (is_some (item_of d title))) (sym e.0) h;
  asks = plain-asks point t e.1;
}

pub calm : {s : Slots} {mv : Move} → IsCalm s.data_ mv → IsGood s mv
calm {s} {mv} q = record { leads = calm-leads s mv q.stays }

pub stands_still : (point : Point) (s : Slots) → AsksAnew point s → IsGood s (Now point s)
stands_still point s a = record { leads = record { keeps = λ title h. h; asks = a } }

-- a place is written: the data stay
with-cell : (o : Option ℕ) (v : Value) (s : Slots) → (with_cell o v s).data_ ≡ s.data_
with-cell (Some c) v s = refl
with-cell None v s = refl

pub written : (s : Slots) (p : Place) (v : Value) → (write_place s p v).data_ ≡ s.data_
written s (Reg i) v = refl
written s (Box i) v = with-cell (place_cell s.regs (function_of s).cells (Box i)) v s
written s (Up i) v = with-cell (place_cell s.regs (function_of s).cells (Up i)) v s

-- ITEMS by title: one more keeps those that were there, and is there
abbrev HasItem : ByTitle Value → Title → Type 0
HasItem xs title = IsTrue (is_some (item_of xs title))

either : (b : Bool) (o r : Option Value) (u w : Value) → (IsTrue (is_some o) → IsTrue (is_some r)) → IsTrue (is_some (if b then Some u else o)) → IsTrue (is_some (if b then Some w else r))
either true o r u w k h = refl
either false o r u w k h = k h

kept-at : (b : Bool) (x : Titled Value) (xs ys : ByTitle Value) (v : Value) (other : Title) → (HasItem xs other → HasItem ys other) → HasItem (x ∷ xs) other → HasItem (if b then record x { item = v } ∷ xs else x ∷ ys) other
kept-at true x xs ys v other k h = either (same_title x.title other) (item_of xs other) (item_of xs other) x.item v (λ y. y) h
kept-at false x xs ys v other k h = either (same_title x.title other) (item_of xs other) (item_of ys other) x.item x.item k h

item-kept : (xs : ByTitle Value) (title : Title) (v : Value) (other : Title) → HasItem xs other → HasItem (with_item xs title v) other
item-kept [] title v other h = cc
item-kept (x ∷ xs) title v other h = kept-at (same_title x.title title) x xs (with_item xs title v) v other (λ k. item-kept xs title v other k) h

same-itself : (title : Title) → same_title title title ≡ true
same-itself title = (bytes_eq-Decides (title_text title) (title_text title)).1 refl

when : (b : Bool) (o : Option Value) (u : Value) → b ≡ true → IsTrue (is_some (if b then Some u else o))
when true o u e = refl
when false o u e = cc

unless : (b : Bool) (o : Option Value) (u : Value) → IsTrue (is_some o) → IsTrue (is_some (if b then Some u else o))
unless true o u e = refl
unless false o u e = e

there-at : (b : Bool) (x : Titled Value) (xs ys : ByTitle Value) (v : Value) (title : Title) → same_title x.title title ≡ b → HasItem ys title → HasItem (if b then record x { item = v } ∷ xs else x ∷ ys) title
there-at true x xs ys v title e k = when (same_title x.title title) (item_of xs title) v e
there-at false x xs ys v title e k = unless (same_title x.title title) (item_of ys title) x.item k

pub item-there : (xs : ByTitle Value) (title : Title) (v : Value) → HasItem (with_item xs title v) title
item-there [] title v = when (same_title title title) None v (same-itself title)
item-there (x ∷ xs) title v = there-at (same_title x.title title) x xs (with_item xs title v) v title refl (item-there xs title v)

-- the tables of a data module are kept; and they are asked for where they are not there
pub loads : (title : Title) (v : Value) (o : Outcome (List Value) Jump) (fs : List SFrame) (s : Slots) → IsGood s (Now (Gives o fs) (with_data title v s))
loads title v o fs s = record { leads = record { keeps = λ other h. item-kept s.data_ title v other h; asks = tt } }

pub asks_anew : (text : Bytes) (title : Title) (line : Option ℕ) (fs : List SFrame) (s : Slots) → item_of s.data_ title ≡ None → IsGood s (Now (Asking (Data title) (Hears (DataAsked text title) line ∷ fs)) s)
asks_anew text title line fs s e = record { leads = record { keeps = λ other h. h; asks = (e, (text, line, fs, refl)) } }
