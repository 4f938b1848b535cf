-- The pages that a value has.
use Rattle.std.specs.Prelude.{ℕ, List, Option, length}
use Rattle.kb_memdisk.specs.Pages.{page_in}
use Rattle.kb_memdisk.specs.declared.pages.Pages.{Pages}

-- the bytes of a page, or none where it isn't there
abbrev pub page_of : Pages → ℕ → Option (List ℕ)
page_of pages page = page_in pages.seats.items pages.order.items pages.bytes.items page

-- how many pages there may be
abbrev pub count_of : Pages → ℕ
count_of pages = length pages.seats.items
