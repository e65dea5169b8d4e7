-- A `#switch` goes on by a table.
use Rattle.std.proofs.Common.{◌≡◌, ℕ, ◌+◌, ◌-◌, ◌≤◌, true, false, List, slice_get, Option, Some, None, refl, sym, ap, subst, ◌∙◌, arith}
use Rattle.wiki_markup.specs.Nodes.{Node}
use Rattle.wiki_markup.specs.Trees.{Trees}
use Rattle.expand_texts.specs.ExpandMeaningPlaces.{first_in}
use Rattle.expand_texts.specs.ExpandMeaningExpand.{Looking, switch}
use Rattle.wiki_pages.specs.Stretches.{parts_from}
use Rattle.wiki_pages.specs.Forests.{nodes_in, trees_in, parts, size, option_size}
use Rattle.wiki_pages.specs.CaseTables.{constant_name, equals_name, hash_of, Same, Reaches, fresh, stopped, size_in, find_among, IsRight, Lands, LandsBehind}
use Rattle.wiki_pages.specs.Furthers.{known, LeadsTo, GoesTo}
use Rattle.wiki_pages.specs.declared.forest.Forest.{Forest}
use Rattle.wiki_pages.specs.declared.cases.Case.{Case}
use Rattle.wiki_pages.specs.declared.tables.CaseTable.{CaseTable}
use Rattle.wiki_pages.specs.declared.tables.Landing.{Landing}
use Rattle.wiki_pages.specs.declared.passing.Further.{Further}
use Rattle.wiki_pages.proofs.TableLaws.{parts_are}

pub same_from : (x : List ℕ) (ps ps' qs qs' : List Trees) (s s' t t' : Looking) → ps ≡ ps' → qs ≡ qs' → s ≡ s' → t ≡ t' → Same x ps' s' qs' t' → Same x ps s qs t
same_from x ps ps' qs qs' s s' t t' p q i j h sc k =
    ap (λ ps. switch x ps sc s k) p ∙ ap (λ s. switch x ps' sc s k) i ∙ h sc k ∙ sym (ap (λ qs. switch x qs sc t k) q ∙ ap (λ t. switch x qs' sc t k) j)

-- the name of the part at a place
pub name_at : (run here part : Forest) (at : ℕ) → nodes_in here.nodes ≡ nodes_in run.nodes → here.at ≡ at → here.end ≡ run.end → trees_in part ≡ first_in (parts here)
    → constant_name (first_in (parts_from (nodes_in run.nodes) run.end at)) ≡ constant_name (trees_in part)
name_at run here part at n a e f = ap (λ ps. constant_name (first_in ps)) (sym (parts_are here (nodes_in run.nodes) run.end at n e a)) ∙ ap constant_name (sym f)

-- where no name has the value's hash, and behind a part whose name is equal
pub lands_missed : (x : List ℕ) (nodes : List Node) (at : ℕ) (t : CaseTable) (l : Landing) → IsRight nodes at t → find_among t.cases.items (hash_of t.seed x) ≡ None → l ≡ record { met = false; stop = t.stop } → Lands x nodes at t l
lands_missed x nodes at t l right e is = subst (Lands x nodes at t) (sym is) ((λ d. right.right.miss x d e), right.right.light)

pub lands_behind : (x : List ℕ) (nodes : List Node) (at : ℕ) (t : CaseTable) (c : Case) (l : Landing) → IsRight nodes at t → find_among t.cases.items (hash_of t.seed x) ≡ Some c → equals_name x (constant_name (first_in (parts_from nodes t.end c.at))) ≡ true
    → LandsBehind (slice_get t.values.items c.group) t.stop l → Lands x nodes at t l
lands_behind x nodes at t c l right there e lands = by (slice_get t.values.items c.group) refl (λ d. right.right.hit x d c there e) lands
  where
    by : (o : Option ℕ) → slice_get t.values.items c.group ≡ o → ((d : Trees) → Reaches x nodes t.end at t.stop d o) → LandsBehind o t.stop l → Lands x nodes at t l
    by (Some value) is reaches lands = let falls : t.end - value ≤ t.end - at = right.right.falls c.group value is in subst (Lands x nodes at t) (sym lands) (reaches, omega (arith, falls))
    by None is reaches lands = subst (Lands x nodes at t) (sym lands) (reaches, right.right.light)

pub leads_to : (x : List ℕ) (run : Forest) (t : CaseTable) (l : Landing) (f : Further) → t.end ≡ run.end → Lands x (nodes_in run.nodes) run.at t l → GoesTo run l f → LeadsTo x run f
leads_to x run t l f e lands g = record {
  same = λ d. same_from x (parts run) (parts_from (nodes_in run.nodes) t.end run.at) (parts f.rest) (parts_from (nodes_in run.nodes) t.end l.stop.at)
      (fresh d) (fresh d) (known f d) (stopped (nodes_in run.nodes) l.stop l.met d)
      (parts_are run (nodes_in run.nodes) t.end run.at refl (sym e) refl) (g.rest ∙ ap (λ z. parts_from (nodes_in run.nodes) z l.stop.at) (sym e)) refl (λ i. record { met = g.met i; waits = g.waits i; default = g.default d i }) (lands.0 d);
  light =
      let less : (t.end - l.stop.at) + size_in l.stop.default ≤ t.end - run.at = lands.1 in
      let left : size f.rest ≡ run.end - l.stop.at = g.left in
      let default : option_size f.default ≡ size_in l.stop.default = g.light in
      omega (arith, e, less, left, default);
}
