-- `reader::fill::fill_tree` meets its contract: the tree's nodes have their slots, and then their count and their spans.
-- Assumes nothing.
use Rattle.pool.proofs.Answers.{bytes_of}
use Rattle.reader.proofs.Whole.{records_due, settle-due, filled}
use Rattle.reader.proofs.fill.fill_tree.Goals as goal

pub fill_records-n-requires : goal.fill_records-n-requires
fill_records-n-requires c = records_due (bytes_of _ c.type_inv.tree) c.requires

pub settle-requires : goal.settle-requires
settle-requires c = settle-due (bytes_of _ c.type_inv.tree) c.requires c.fill_records-n.ensures

pub returns : goal.returns
returns c = filled (bytes_of _ c.type_inv.tree) c.requires c.fill_records-n.ensures c.settle.ensures
