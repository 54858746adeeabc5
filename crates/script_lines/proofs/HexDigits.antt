-- How many bytes digits write.
use Rattle.std.proofs.Common.{◌≡◌, ℕ, ◌*◌, List, length, Ok, arith}
use Rattle.hex.specs.Hex.{decode_of}
use Rattle.hex.proofs.HexLemmas.{decode_of-ok}

pub two_each : (digits bytes : List ℕ) → decode_of digits ≡ Ok bytes → length bytes * 2 ≡ length digits
two_each digits bytes e = let read : length digits ≡ 2 * length bytes = (decode_of-ok digits bytes e).2 in omega (arith, read)
