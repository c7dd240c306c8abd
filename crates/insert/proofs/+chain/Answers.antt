-- `insert::chain` meets its contract, by the bytes left of the label. Assumes nothing.
use Rattle.std.proofs.Common.{◌∙◌}
use Rattle.insert.proofs.Leaves.{built_leaf, built_chain}
use Rattle.insert.proofs.+chain.Goals as goal

pub returns-then-rest-le-LABEL_MAX : goal.returns-then-rest-le-LABEL_MAX
returns-then-rest-le-LABEL_MAX t c =
    let put = c.put_linked.ensures in
    built_leaf _ _ _ _ _ _ _ _ c.requires.1 c.if-rest-le-LABEL_MAX.true put.0 put.1

pub returns : goal.returns
returns t c =
    let a = c.args in
    let put = c.put_linked-2.ensures in
    built_chain _ _ _ _ _ _ _ a.start a.rest.now a.number.0 c.requires.0 c.if-rest-le-LABEL_MAX.false put.0
    (put.1 ∙ c.chain_nodes-span.ensures) c.chain.ensures
