-- The number, the fields and the figure are those of the preview, which is the definition's.
use Rattle.answer_fields.proofs.Exported.{exported_preview}
use Rattle.polskrea_preview.proofs.polskrea_preview.Goals as goal

pub returns : goal.returns
returns c = let p = c.preview-p in exported_preview _ p.result _ _ p.ensures c.answered.ensures.0 c.answered.ensures.1
