-- `reader_segment::rest_is_zero` meets its contract: byte i of the part is byte i + 1.
use Rattle.std.specs.Prelude.{◌↔◌, ◌≡◌, IsTrue, EachIndex, slice_index, take, drop}
use borrow.Author.Rules.{rules}
use Rattle.reader_segment.proofs.CloserLaws.{rest_is_zero-all}
use Rattle.reader_segment.proofs.rest_is_zero.Goals as goal

pub returns : goal.returns
returns c =
    let h : IsTrue c.all.result ↔ EachIndex (take 12 (drop 1 c.args.s.now)) (λ k. slice_index (take 12 (drop 1 c.args.s.now)) k ≡ 0) = search rules in
    rest_is_zero-all c.args.s.now c.requires c.all.result h
