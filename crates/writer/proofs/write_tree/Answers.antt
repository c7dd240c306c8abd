-- `writer::write_tree` meets its contract: the root, then its children. Assumes nothing.
use Rattle.pool.proofs.Answers.{bytes_of}
use Rattle.writer.proofs.Whole.{words-there, root-room, kids-room, tree-put}
use Rattle.writer.proofs.write_tree.Goals as goal

pub nodes_in-n-requires : goal.nodes_in-n-requires
nodes_in-n-requires c = words-there (bytes_of _ c.type_inv.labels) c.requires

pub write_record-below-requires : goal.write_record-below-requires
write_record-below-requires c = root-room (bytes_of _ c.type_inv.labels) c.requires

pub write_slots-requires : goal.write_slots-requires
write_slots-requires c =
    kids-room (bytes_of _ c.type_inv.labels) c.requires c.nodes_in-n.ensures.0 c.write_record-below.ensures

pub returns : goal.returns
returns c =
    tree-put (bytes_of _ c.type_inv.labels) c.requires c.nodes_in-n.ensures.0 c.write_record-below.ensures c.write_slots.ensures
