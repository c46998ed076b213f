-- The pieces, one behind the other.
use Rattle.race_page.specs.Page.{page_text}
use Rattle.race_page.proofs.page.page_bytes.Goals as goal

pub returns : goal.returns
unfolding page_text
returns c = c.build.ensures _ (c.text-4.ensures _ _ (c.text-3.ensures _ _ (c.text-2.ensures _ _ (c.text.ensures _ _
    c.new.ensures c.head.ensures) c.table.ensures) c.file_sections.ensures) c.foot.ensures)
