use Rattle.std.proofs.Common.{◌≡◌, ◌++◌, length}
use Rattle.mw_text.specs.References.{nowiki_of}
use Rattle.mw_text.proofs.references.nowiki.Given as goal

abbrev pub invariant-bytes : goal.invariant-bytes
invariant-bytes l = l.made.items ++ nowiki_of l.rest ≡ nowiki_of l.initial.rest

abbrev pub decreases-bytes : goal.decreases-bytes
decreases-bytes l = length l.rest
