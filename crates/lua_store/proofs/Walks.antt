-- Where a walk by `next` stops, as it is kept and as it is seen; and the border.
use Rattle.std.proofs.Common.{◌≡◌, ◌≢◌, ℕ, ◌≤◌, ◌+◌, pos, Bool, true, false, true≢false, cond, List, map, refl, sym, ap, ◌∙◌, subst, Option, Some, None}
use Rattle.std.specs.Prelude.{Result, Ok, Err, IfOk, MatchResult, MatchOption}
use Rattle.std.specs.List.{AllByRecursion, IsDistinct}
use Rattle.std.specs.Str.{bytes_eq}
use Rattle.std.specs.Option.{option_map}
use Rattle.lua_table.specs.Entries.{Contents, value_at, is_there, after_key, first_live, Stop, Shows, IsBorder}
use Rattle.lua_table.specs.declared.table.Step.{Step}
use Rattle.lua_table.specs.declared.table.NoSuchKey.{NoSuchKey}
use Rattle.lua_heap.specs.Value as heap
use Rattle.lua_heap.specs.Value.{same, is_nil}
use Rattle.lua_heap.specs.Table.{has, next, first_entry, behind_key, border}
use Rattle.lua_heap.proofs.Borders.{border_is_only}
use Rattle.lua_store.specs.declared.value.Value.{Value}
use Rattle.lua_store.specs.declared.value.Value.TheVariants.{Nil, Number}
use Rattle.lua_store.specs.contracts.value.ValuePartialEq.TheImpl.{ghosts}
use Rattle.lua_store.specs.ValueLaws.{same_value}
use Rattle.lua_store.specs.Seen.{StoreView, seen, seen_entry, seen_table, seen_step, seen_next}
use Rattle.lua_store.specs.Parts.{IsOf, IsEntryOf, IsContentsOf}
use Rattle.lua_store.proofs.EntryMaps.{found, value_at-seen, is_there-seen, after_key-seen, after_key-holds, first_live-seen, first_live-holds, stop}
use Rattle.lua_store.proofs.Equal.{eq-seen}
use Rattle.lua_store.proofs.Changes.{nil-seen}

-- only nil is seen as nil
pub only_nil : (texts : List (List ℕ)) (v : Value) → seen texts v ≡ heap.Nil → v ≡ Nil
only_nil texts Nil e = refl
only_nil texts _ e = cc

nil_or_not : (texts : List (List ℕ)) (v : Value) (b : Bool) → is_nil (seen texts v) ≡ b → cond b (v ≡ Nil) (v ≢ Nil)
nil_or_not texts v true e = same_value v Nil (sym (nil-seen texts v) ∙ e)
nil_or_not texts v false e = λ is. true≢false (sym (ap (λ x. is_nil (seen texts x)) is) ∙ e)

module _ (s : StoreView) (once : IsDistinct bytes_eq s.texts) where
  shown : (st : Stop ghosts.eq Nil) (a : Step Value) → Shows ghosts.eq Nil st a
      → seen_step s.texts a ≡ stop ghosts.eq same (seen s.texts) (IsOf s) (eq-seen s once) Nil tt st
  shown st a h = rw (h.0, h.1, h.2) refl

  first : (es : List (Value × Value)) (a : Step Value) → AllByRecursion (IsEntryOf s) es → Shows ghosts.eq Nil (first_live ghosts.eq Nil es) a
      → (seen_step s.texts a ≡ first_entry (map (seen_entry s.texts) es)) × IsOf s a.key × IsOf s a.value
  first es a all h =
      let holds = first_live-holds ghosts.eq same (seen s.texts) (IsOf s) (eq-seen s once) Nil tt es all in (
        shown (first_live ghosts.eq Nil es) a h ∙ sym (first_live-seen ghosts.eq same (seen s.texts) (IsOf s) (eq-seen s once) Nil tt es all),
        subst (IsOf s) (sym h.0) holds.0,
        subst (IsOf s) (sym h.1) holds.1,
      )

  -- what `next` of a table says of its answer
  abbrev pub IsNext : List (Value × Value) → Value → Result (Step Value) NoSuchKey → Type 0
  IsNext es key r =
      (key ≡ Nil → MatchResult r (λ a. Shows ghosts.eq Nil (first_live ghosts.eq Nil es) a) (λ _. ⊥))
      × (key ≢ Nil → MatchResult r
      (λ a. MatchOption (after_key ghosts.eq Nil es key) ⊥ (λ rest. Shows ghosts.eq Nil (first_live ghosts.eq Nil rest) a))
      (λ _. after_key ghosts.eq Nil es key ≡ None))

  abbrev pub IsSeenNext : List (Value × Value) → Value → Result (Step Value) NoSuchKey → Type 0
  IsSeenNext es key r = (seen_next s.texts r ≡ next (map (seen_entry s.texts) es) (seen s.texts key)) × IfOk r (λ a. IsOf s a.key × IsOf s a.value)

  pub next-seen : (es : List (Value × Value)) (key : Value) (r : Result (Step Value) NoSuchKey) → AllByRecursion (IsEntryOf s) es → IsOf s key → IsNext es key r → IsSeenNext es key r
  next-seen es key r all k is = by (is_nil (seen s.texts key)) refl
    where
      behind : behind_key (map (seen_entry s.texts) es) (seen s.texts key) ≡ option_map (map (seen_entry s.texts)) (after_key ghosts.eq Nil es key)
      behind = after_key-seen ghosts.eq same (seen s.texts) (IsOf s) (eq-seen s once) Nil tt es key all k

      at_first : (r : Result (Step Value) NoSuchKey) → MatchResult r (λ a. Shows ghosts.eq Nil (first_live ghosts.eq Nil es) a) (λ _. ⊥)
          → (seen_next s.texts r ≡ Some (first_entry (map (seen_entry s.texts) es))) × IfOk r (λ a. IsOf s a.key × IsOf s a.value)
      at_first (Ok a) h = let f = first es a all h in (ap Some f.0, (f.1, f.2))
      at_first (Err e) h = absurd h

      past : (o : Option (List (Value × Value))) → after_key ghosts.eq Nil es key ≡ o → (r : Result (Step Value) NoSuchKey)
          → MatchResult r (λ a. MatchOption o ⊥ (λ rest. Shows ghosts.eq Nil (first_live ghosts.eq Nil rest) a)) (λ _. o ≡ None)
          → (seen_next s.texts r ≡ option_map first_entry (option_map (map (seen_entry s.texts)) o)) × IfOk r (λ a. IsOf s a.key × IsOf s a.value)
      past (Some rest) e (Ok a) h =
          let holds = after_key-holds ghosts.eq same (seen s.texts) (IsOf s) (eq-seen s once) Nil tt es key rest all e in
          let f = first rest a holds h in (ap Some f.0, (f.1, f.2))
      past None e (Ok a) h = absurd h
      past None e (Err n) h = (refl, tt)
      past (Some rest) e (Err n) h = cc

      by : (b : Bool) → is_nil (seen s.texts key) ≡ b → IsSeenNext es key r
      by true e =
          let f = at_first r (is.0 (nil_or_not s.texts key true e)) in
          (f.0 ∙ ap (λ b. cond b (Some (first_entry (map (seen_entry s.texts) es))) (option_map first_entry (behind_key (map (seen_entry s.texts) es) (seen s.texts key)))) (sym e), f.1)
      by false e =
          let f = past (after_key ghosts.eq Nil es key) refl r (is.1 (nil_or_not s.texts key false e)) in (
            f.0 ∙ ap (λ o. option_map first_entry o) (sym behind)
                ∙ ap (λ b. cond b (Some (first_entry (map (seen_entry s.texts) es))) (option_map first_entry (behind_key (map (seen_entry s.texts) es) (seen s.texts key)))) (sym e),
            f.1,
          )

  pub get-seen : (es : List (Value × Value)) (key : Value) → AllByRecursion (IsEntryOf s) es → IsOf s key
      → seen s.texts (value_at ghosts.eq Nil es key) ≡ value_at same heap.Nil (map (seen_entry s.texts) es) (seen s.texts key)
  get-seen es key all k = sym (value_at-seen ghosts.eq same (seen s.texts) (IsOf s) (eq-seen s once) Nil tt es key all k)

  pub border-seen : (es : List (Value × Value)) (n : ℕ) → AllByRecursion (IsEntryOf s) es → IsBorder ghosts.eq Nil Number es n → IsBorder same heap.Nil heap.Number (map (seen_entry s.texts) es) n
  border-seen es n all b = record {
    below = λ k h l e. b.below k h l (only_nil s.texts (value_at ghosts.eq Nil es (Number (pos k))) (get-seen es (Number (pos k)) all tt ∙ e));
    above = λ h. sym (get-seen es (Number (pos (n + 1))) all tt) ∙ ap (seen s.texts) (b.above h);
  }

  -- the same at a table of the store
  pub get-at : (t : Contents Value) (u : Contents heap.Value) (key : Value) → IsContentsOf s t → seen_table s.texts t ≡ u → IsOf s key
      → seen s.texts (value_at ghosts.eq Nil t.entries key) ≡ value_at same heap.Nil u.entries (seen s.texts key)
  get-at t u key of is k = subst (λ (x : Contents heap.Value). seen s.texts (value_at ghosts.eq Nil t.entries key) ≡ value_at same heap.Nil x.entries (seen s.texts key)) is (get-seen t.entries key of.entries k)

  pub got-of : (t : Contents Value) (key : Value) → IsContentsOf s t → IsOf s (value_at ghosts.eq Nil t.entries key)
  got-of t key of = found ghosts.eq same (seen s.texts) (IsOf s) (eq-seen s once) t.entries key of.entries Nil tt

  pub has-at : (t : Contents Value) (u : Contents heap.Value) (key : Value) (b : Bool) → IsContentsOf s t → seen_table s.texts t ≡ u → IsOf s key → b ≡ is_there ghosts.eq Nil t.entries key
      → b ≡ has u.entries (seen s.texts key)
  has-at t u key b of is k e =
      e ∙ sym (is_there-seen ghosts.eq same (seen s.texts) (IsOf s) (eq-seen s once) Nil tt t.entries key of.entries k) ∙ ap (λ (x : Contents heap.Value). has x.entries (seen s.texts key)) is

  pub next-at : (t : Contents Value) (u : Contents heap.Value) (key : Value) (r : Result (Step Value) NoSuchKey) → IsContentsOf s t → seen_table s.texts t ≡ u → IsOf s key → IsNext t.entries key r
      → (seen_next s.texts r ≡ next u.entries (seen s.texts key)) × IfOk r (λ a. IsOf s a.key × IsOf s a.value)
  next-at t u key r of is k h =
      let n = next-seen t.entries key r of.entries k h in
      (subst (λ (x : Contents heap.Value). seen_next s.texts r ≡ next x.entries (seen s.texts key)) is n.0, n.1)

  pub border-at : (t : Contents Value) (u : Contents heap.Value) (n : ℕ) → IsContentsOf s t → seen_table s.texts t ≡ u → n ≤ 9223372036854775807
      → IsBorder ghosts.eq Nil Number t.entries n → n ≡ border u.entries
  border-at t u n of is most b =
      border_is_only u.entries n (most, subst (λ (x : Contents heap.Value). IsBorder same heap.Nil heap.Number x.entries n) is (border-seen t.entries n of.entries b))
