-- Modules that are reached, and names that are gathered.
use Rattle.std.proofs.Common.{◌≡◌, ◌∙◌, ℕ, zero, suc, ◌-◌, ◌<◌, ◌≤◌, cond, refl, sym, ap, List, [], ◌∷◌, ◌++◌, map, drop, length, get_or, append_assoc, append-nil, arith, Bor}
use Rattle.std.specs.Prelude.{Option, Some, None, slice_get}
use Rattle.std.specs.Map.{lookup}
use Rattle.std.specs.BTreeSet.{insert_key}
use Rattle.std.specs.Ordering.{match_ordering, nat_cmp}
use Rattle.std.specs.declared.cmp.Ordering.{Ordering}
use Rattle.std.specs.declared.cmp.Ordering.TheVariants.{Less, Equal, Greater}
use Rattle.std.specs.Cmp.Lexicographic.{slice_cmp}
use Rattle.wk_base.specs.declared.title.Title.{Title}
use Rattle.wk_base.specs.contracts.title.TitlePartialEq.TheImpl as titles
use Rattle.lua_uses.specs.Modules.{Named, Read, place_from, if_any, reach, with_required, uses_at, read_at, by_bytes}
use Rattle.lua_lint.specs.declared.reading.Named.{Named as CodeNamed}
use Rattle.lua_lint.specs.declared.reading.Read.{Read as CodeRead}
use Rattle.lua_lint.specs.Reading.{Places, IsPutAt, place_at, named_seen, modules_seen, read_seen, reads_seen, names_in}

-- ---- names
pub added : (names : List (Bor (List ℕ))) (name : Bor (List ℕ)) → names_in (insert_key (λ (a b : Bor (List ℕ)). slice_cmp nat_cmp a.now b.now) names name) ≡ insert_key by_bytes (names_in names) name.now
added [] name = refl
added (n ∷ names) name = go (by_bytes name.now n.now) (added names name)
  where
    go : (o : Ordering) → names_in (insert_key (λ (a b : Bor (List ℕ)). slice_cmp nat_cmp a.now b.now) names name) ≡ insert_key by_bytes (names_in names) name.now
        → names_in (match_ordering o (name ∷ n ∷ names) (n ∷ names) (n ∷ insert_key (λ (a b : Bor (List ℕ)). slice_cmp nat_cmp a.now b.now) names name))
        ≡ match_ordering o (name.now ∷ n.now ∷ names_in names) (n.now ∷ names_in names) (n.now ∷ insert_key by_bytes (names_in names) name.now)
    go Less h = refl
    go Equal h = refl
    go Greater h = ap (λ (l : List (List ℕ)). n.now ∷ l) h

-- ---- places
pub put_at : (k : Bor Title) (place : ℕ) (old new : Places) → ((q : Bor Title) → lookup (λ (b : Bor Title). titles.ghosts.eq q.now b.now) new ≡ cond (titles.ghosts.eq k.now q.now) (Some place) (lookup (λ (b : Bor Title). titles.ghosts.eq q.now b.now) old)) → IsPutAt old k.now place new
put_at k place old new h x = h (record k { now = x })

-- the modules from a place on
pub opened : (ms : List CodeNamed) (place : ℕ) (m : CodeNamed) → place < length ms → m ≡ get_or ms place m → drop place (modules_seen ms) ≡ named_seen m ∷ drop (suc place) (modules_seen ms)
opened [] place m less is = absurd (omega (arith, less))
opened (x ∷ ms) zero m less is = ap (λ (y : CodeNamed). named_seen y ∷ modules_seen ms) (sym is)
opened (x ∷ ms) (suc place) m less is = opened ms place m (omega (arith, less)) is

-- one module more, in front
pub one_placed : (ms : List CodeNamed) (place from : ℕ) (m : CodeNamed) (old new : Places) → suc place ≡ from → place < length ms → m ≡ get_or ms place m
    → ((x : Title) → place_at old x ≡ place_from from (drop from (modules_seen ms)) x) → IsPutAt old (get_or ms place m).title place new
    → (x : Title) → place_at new x ≡ place_from place (drop place (modules_seen ms)) x
one_placed ms place from m old new e less is before put x =
    put x
    ∙ ap (λ (n : CodeNamed). cond (titles.ghosts.eq n.title x) (Some place) (place_at old x)) (sym is)
    ∙ ap (λ (o : Option ℕ). cond (titles.ghosts.eq m.title x) (Some place) o) (before x ∙ ap (λ (n : ℕ). place_from n (drop n (modules_seen ms)) x) (sym e))
    ∙ sym (ap (λ (l : List Named). place_from place l x) (opened ms place m less is))

-- ---- reading on
pub reach_next : (modules : List Named) (n next : ℕ) (seen : List ℕ) (at : ℕ) → next < n → slice_get seen next ≡ Some at
    → reach modules (n - next) next seen ≡ at ∷ reach modules (n - suc next) (suc next) (with_required modules seen (uses_at modules at))
reach_next modules n next seen at less e =
    let one : n - next ≡ suc (n - suc next) = omega (arith, less) in
    ap (λ (k : ℕ). reach modules k next seen) one
    ∙ ap (λ (o : Option ℕ). if_any o (λ at. at ∷ reach modules (n - suc next) (suc next) (with_required modules seen (uses_at modules at)))) e

pub reach_none : (modules : List Named) (n next : ℕ) (seen : List ℕ) → slice_get seen next ≡ None → reach modules n next seen ≡ []
reach_none modules zero next seen e = refl
reach_none modules (suc n) next seen e = ap (λ (o : Option ℕ). if_any o (λ at. at ∷ reach modules n (suc next) (with_required modules seen (uses_at modules at)))) e

pub reach_end : (modules : List Named) (n next : ℕ) (seen : List ℕ) → n ≤ next → reach modules (n - next) next seen ≡ []
reach_end modules n next seen more = let none : n - next ≡ 0 = omega (arith, more) in ap (λ (k : ℕ). reach modules k next seen) none

pub read_more : (rs : List CodeRead) (r : CodeRead) → reads_seen (rs ++ r ∷ []) ≡ reads_seen rs ++ read_seen r ∷ []
read_more [] r = refl
read_more (x ∷ rs) r = ap (λ (l : List Read). read_seen x ∷ l) (read_more rs r)

-- what was read, where no more is reached; and where one more is
pub reads_end : (modules : List Named) (found all : List Read) (places : List ℕ) → places ≡ [] → found ++ map (read_at modules) places ≡ all → found ≡ all
reads_end modules found all places e h = sym (append-nil found) ∙ ap (λ (l : List ℕ). found ++ map (read_at modules) l) (sym e) ∙ h

pub reads_next : (modules : List Named) (n next after : ℕ) (seen more : List ℕ) (at : ℕ) (found longer all : List Read) → after ≡ suc next → next < n → slice_get seen next ≡ Some at
    → more ≡ with_required modules seen (uses_at modules at) → longer ≡ found ++ read_at modules at ∷ []
    → found ++ map (read_at modules) (reach modules (n - next) next seen) ≡ all → longer ++ map (read_at modules) (reach modules (n - after) after more) ≡ all
reads_next modules n next after seen more at found longer all a less e m l h =
    let rest : List ℕ = reach modules (n - after) after more in
    let step : reach modules (n - next) next seen ≡ at ∷ rest =
    reach_next modules n next seen at less e
    ∙ ap (λ (s : List ℕ). at ∷ reach modules (n - suc next) (suc next) s) (sym m)
    ∙ ap (λ (k : ℕ). at ∷ reach modules (n - k) k more) (sym a) in
    ap (λ (r : List Read). r ++ map (read_at modules) rest) l
    ∙ append_assoc found (read_at modules at ∷ []) (map (read_at modules) rest)
    ∙ ap (λ (p : List ℕ). found ++ map (read_at modules) p) (sym step)
    ∙ h
