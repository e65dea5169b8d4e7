-- The pages may be lent to threads, which share them: from their parts.
use denote.Param.Send.{IsSync, sendable}
use Rattle.std.proofs.Crossing.{crosses}
use Rattle.wiki_pages.specs.contracts.tables.CaseTable as CaseTable
use Rattle.wiki_pages.specs.contracts.held.HeldText as HeldText
use Rattle.wiki_pages.specs.contracts.pages.Entry as Entry
use Rattle.wiki_pages.specs.contracts.pages.PageMap as PageMap

CaseTable-field : IsSync (CaseTable.the_field).row
CaseTable-field = search (crosses, sendable) depth 60 fits 20000

CaseTable-sync : IsSync CaseTable.the_row
CaseTable-sync = let f = CaseTable-field in search sendable

HeldText-field : IsSync (HeldText.the_field).row
HeldText-field = let f = CaseTable-field in let r = CaseTable-sync in search (crosses, sendable) depth 60 fits 20000

HeldText-sync : IsSync HeldText.the_row
HeldText-sync = let f = HeldText-field in search sendable

Entry-field : IsSync (Entry.the_field).row
Entry-field = let f = HeldText-field in let r = HeldText-sync in search (crosses, sendable) depth 60 fits 20000

Entry-sync : IsSync Entry.the_row
Entry-sync = let f = Entry-field in search sendable

pub PageMap-sync : IsSync PageMap.the_row
PageMap-sync = let f = Entry-field in let r = Entry-sync in search (crosses, sendable) depth 60 fits 20000
