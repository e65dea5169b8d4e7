use Rattle.std.proofs.Common.{nat_eq, ap}
use Rattle.std.specs.Map.{lookup}
use Rattle.indexmap.specs.IndexMap.{hasher_of}
use Rattle.wiki_pages.specs.CaseTables.{hash_of, find_in}
use Rattle.wiki_pages.proofs.TableLaws.{empty_right}
use Rattle.wiki_pages.proofs.cases.CaseRun.new.Goals as goal

pub returns-clause-right : goal.returns-clause-right
returns-clause-right c = λ nodes. empty_right (hash_of (hasher_of c.with_hasher.result)) nodes c.args.end c.args.at (find_in c.with_hasher.result) c.new.result.items (λ y. ap (lookup (nat_eq y)) c.with_hasher.ensures.empty) c.new.ensures.items
