-- `writer::write_record` meets its contract: four stores and a copied label put the record. Assumes nothing.
use mathlib.Core.Path.{ap, ◌∙◌}
use native.Mathlib.Omega.{arith}
use lib.ListN.{length}
use Rattle.writer.proofs.Record.{label-fits, record_put}
use Rattle.writer.proofs.write_record.Goals as goal

pub copy-requires : goal.copy-requires
copy-requires c = omega (arith, ap length c.label_at-label.ensures, label-fits c.requires c.len_at-n.ensures.0)

pub returns : goal.returns
returns c =
    record_put c.requires _ c.flag_byte.ensures c.len_at-n.ensures.0 c.has_at-number.ensures.0
    c.span_at-child.ensures.0 (c.copy.ensures ∙ c.label_at-label.ensures)
