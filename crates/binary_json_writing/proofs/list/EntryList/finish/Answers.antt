use Rattle.std.proofs.Common.{◌<◌, arith}
use Rattle.binary_json_writing.proofs.Stored.{IsList, finished_of}
use Rattle.binary_json_writing.proofs.list.EntryList.finish.Goals as goal

pub invariant_of-result : goal.invariant_of-result
invariant_of-result c =
    let self = c.args.self in
    let are : IsList self.keyed self.entries.items self.depth = record { exact = self.exact; possible = self.possible; deep = self.deep } in
    let less : self.depth < 100 = omega arith in
    let all = finished_of self.keyed self.entries.items _ self.depth _ c.small_type.result are less c.small_type.ensures.is c.deref.ensures.value c.in_ok-bytes.ensures.written c.in_ok-bytes.ensures.fits in
    record { exact = all.exact; possible = all.possible; deep = all.deep; shallow = omega arith }

pub returns-clause-made : goal.returns-clause-made
returns-clause-made c =
    let self = c.args.self in
    let are : IsList self.keyed self.entries.items self.depth = record { exact = self.exact; possible = self.possible; deep = self.deep } in
    let less : self.depth < 100 = omega arith in
    (finished_of self.keyed self.entries.items _ self.depth _ c.small_type.result are less c.small_type.ensures.is c.deref.ensures.value c.in_ok-bytes.ensures.written c.in_ok-bytes.ensures.fits).value
