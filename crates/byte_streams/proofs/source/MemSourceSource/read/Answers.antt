use Rattle.std.proofs.Common.{◌≡◌, ◌-◌, length, drop, min, sym, arith}
use Rattle.std.proofs.lemmas.List.{take-append-drop, drop-drop, length-drop}
use Rattle.byte_streams.proofs.Pieces.{at_end}
use Rattle.byte_streams.proofs.source.MemSourceSource.read.Goals as goal

pub returns-clause-bytes : goal.returns-clause-bytes
returns-clause-bytes c =
    let bytes = c.args.self.now.bytes in
    let taken = c.args.self.now.taken in
    let n = c.copy_front-count.result in
    let seen : c.as_slice.result.now ≡ bytes = c.as_slice.ensures in
    let rest : c.split_at.result.1.now ≡ drop taken bytes = rw seen at c.split_at.ensures.back in
    let size : length c.copy_front-count.new.buf ≡ length c.args.buf.now = c.copy_front-count.auto.buf in
    let least : n ≡ min (length bytes - taken) (length c.args.buf.now) = rw (rest, length-drop taken bytes) at c.copy_front-count.ensures.count in
    (rw (c.copy_front-count.ensures.bytes, rest, ← drop-drop n taken bytes) (sym (take-append-drop n (drop taken bytes))), λ none some. at_end taken n (length c.args.buf.now) bytes least none (omega arith))
