-- Where a `#switch` goes on behind parts that cannot decide.
use Rattle.std.specs.Prelude.{◌≡◌, ℕ, ◌+◌, ◌-◌, ◌≤◌, List, Option, Some, None}
use Rattle.wiki_markup.specs.Trees.{Trees}
use Rattle.expand_texts.specs.ExpandMeaningExpand.{Looking}
use Rattle.wiki_pages.specs.Stretches.{parts_from}
use Rattle.wiki_pages.specs.Forests.{nodes_in, trees_in, parts, size, option_size}
use Rattle.wiki_pages.specs.CaseTables.{Same, fresh, default_in, size_in}
use Rattle.wiki_pages.specs.declared.forest.Forest.{Forest}
use Rattle.wiki_pages.specs.declared.tables.Landing.{Landing}
use Rattle.wiki_pages.specs.declared.passing.Further.{Further}

-- the default that was set on the way, or the one before
abbrev pub default_or : Option Forest → Trees → Trees
default_or (Some f) d = trees_in f
default_or None d = d

-- what is known there
abbrev pub known : Further → Trees → Looking
known f d = record { met = f.met; waits = f.waits; default = default_or f.default d }

-- FOR THIS VALUE these parts come to the same as those, where nothing but a default is known, and less of them is to be gone through
pub record LeadsTo (x : List ℕ) (run : Forest) (f : Further) : Type 0 where
  pub same : (d : Trees) → Same x (parts run) (fresh d) (parts f.rest) (known f d)
  pub light : size f.rest + option_size f.default ≤ size run

-- it stands where a value leads
pub record GoesTo (run : Forest) (l : Landing) (f : Further) : Type 0 where
  pub rest : parts f.rest ≡ parts_from (nodes_in run.nodes) run.end l.stop.at
  pub left : size f.rest ≡ run.end - l.stop.at
  pub met : f.met ≡ l.met
  pub waits : f.waits ≡ l.stop.waits
  pub default : (d : Trees) → default_or f.default d ≡ default_in (nodes_in run.nodes) l.stop.default d
  pub light : option_size f.default ≡ size_in l.stop.default
