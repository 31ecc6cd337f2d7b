use Rattle.std.proofs.Common.{arith, ◌∙◌, ap, length}
use Rattle.mp_clauses.specs.Numbering.{numbered}
use Rattle.mp_clauses.specs.Weighing.{costs_of}
use Rattle.mp_clauses.proofs.Pricing.{put-count}
use Rattle.mp_clauses.proofs.Numbered.{number-read, numbered-length}
use Rattle.mp_clauses.proofs.costs.put.Goals as goal

pub overflow_sub-count : goal.overflow_sub-count
overflow_sub-count c =
    let ns = c.args.numbers.now.items in
    let ws = c.args.weights.now.items in
    let read = number-read ns ws c.args.place c.index.result.now c.index-2.result.now c.requires.numbered c.requires.within c.index.ensures c.index-2.ensures in
    (put-count (numbered ws ns) c.args.place c.args.weight c.index-2.result.now _ _ _ (rw (numbered-length ws ns) c.requires.within) read c.counted-was.ensures c.counted-is.ensures c.requires.count).0

pub overflow_add-count : goal.overflow_add-count
overflow_add-count c =
    let ns = c.args.numbers.now.items in
    let ws = c.args.weights.now.items in
    let read = number-read ns ws c.args.place c.index.result.now c.index-2.result.now c.requires.numbered c.requires.within c.index.ensures c.index-2.ensures in
    let p = put-count (numbered ws ns) c.args.place c.args.weight c.index-2.result.now _ _ _ (rw (numbered-length ws ns) c.requires.within) read c.counted-was.ensures c.counted-is.ensures c.requires.count in
    let len = numbered-length ws ns in
    omega (arith, p.1, p.2, len, c.args.numbers.now.ok)

pub returns-clause-count : goal.returns-clause-count
returns-clause-count c =
    let ns = c.args.numbers.now.items in
    let ws = c.args.weights.now.items in
    let read = number-read ns ws c.args.place c.index.result.now c.index-2.result.now c.requires.numbered c.requires.within c.index.ensures c.index-2.ensures in
    let p = put-count (numbered ws ns) c.args.place c.args.weight c.index-2.result.now _ _ _ (rw (numbered-length ws ns) c.requires.within) read c.counted-was.ensures c.counted-is.ensures c.requires.count in
    rw c.set.ensures.weights p.1
